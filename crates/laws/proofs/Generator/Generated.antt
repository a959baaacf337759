-- The generator's graph: every row is valid, every wanted constant is made, the check accepts it, and a 129th row is never needed. Assumes nothing.
use mathlib.Core.Path.{◌≡◌, refl, sym, ap, ap₂, ◌∙◌, subst⁻¹}
use Rattle.std.specs.Prelude.{Ok, Err}
use mathlib.Core.Bool.{Bool, true, false, cond, ◌||◌}
use mathlib.Core.List.Memᴰ
use mathlib.Core.List.{List, [], ◌∷◌, ◌++◌, Memᴰ}
use mathlib.Core.Logic.{⊎_elim}
use Rattle.std.specs.Prelude.{Some}
use Prim.Native.Nat.{ℕ, zero, suc, ◌*◌, ◌≤◌}
use native.Mathlib.Omega.{arith}
use borrow.Author.Tests.{leb-false}
use lib.Dec.{T, leb, le→leb, leb→le}
use lib.IntN.{ℤ}
use lib.ListN.{length, drop, length-append}
use Rattle.meaning.specs.declared.Refusal.{Refusal}
use Rattle.meaning.specs.declared.Refusal.TheVariants as no
use Rattle.meaning.specs.declared.Prefix.{Prefix}
use Rattle.meaning.specs.declared.Row.{Row}
use Rattle.meaning.specs.Basics.{has, index_from, over}
use Rattle.meaning.specs.Limits.{limit, most_rows}
use Rattle.meaning.specs.Constants.{odd_of, wanted}
use Rattle.meaning.specs.Operation.{Valid}
use Rattle.meaning.specs.Graph.{row_length, rows, flat, values, ready, value_at, Fits, Sound, is_served}
use Rattle.meaning.specs.Digits.{prefixes}
use Rattle.meaning.specs.Generator.{remaining, rule_a, rule_b, prefix_row, rule_c, added, Draft, turn, turns, generated}
use Rattle.meaning.specs.Refusals.{Answer, Accepted, buffer, few_rows, first_of, admit_order, generate_order, admitted, checked, Done, drawn, drawn_told, rows_written, given}
use Rattle.laws.proofs.Lists.Tests.{T_of}
use Rattle.laws.proofs.Graph.Rows.{rows_flat, length_flat, sound_append}
use Rattle.laws.proofs.Digits.Chain.{Chain, chain_is, PrefixRow, prefix_row_lem}
use Rattle.laws.proofs.Refusals.Stages.{told_accepts, told_refuses, never_both, first_accepts, all_accept, need_accepts, stops_at, passes_on, of_need}
use Rattle.laws.proofs.Refusals.Checked.{admitted_of, of_good}
use Rattle.laws.proofs.Lists.Index.{index_is}
use Rattle.laws.proofs.Lists.Has.{in_has, has_in}
use Rattle.laws.proofs.Constants.Wanted.{AllWanted, all_wanted, wanted_in, in_wanted, sum_most}
use Rattle.laws.proofs.Generator.Rules.{a_from, b_from, added_by}
use Rattle.laws.proofs.Generator.Turn.{made_new}
use Rattle.laws.proofs.Generator.Remaining.{remaining_in, none_yet, generated_few, all_made}

-- ---- every row is valid

sound_a : (L : ℕ) (before : List Row) (cs : List ℕ) (new : List Row) → rule_a L before cs ≡ Some new → Sound L before new
unfolding Sound
sound_a L before cs new e = let k = a_from L before cs new e in subst⁻¹ (Sound L before) k.are (k.fits, tt)

sound_b : (L : ℕ) (before : List Row) (cs : List ℕ) (new : List Row) → rule_b L before cs ≡ Some new → Sound L before new
unfolding Sound
sound_b L before cs new e = let k = b_from L before cs new e in subst⁻¹ (Sound L before) k.are (k.first_fits, (k.second_fits, tt))

prefix_fits : (b : ℕ) (before : List Row) (p : Prefix) → T (has (ready before) p.before) → PrefixRow b p → Fits (limit b) before (prefix_row before p)
prefix_fits b before p t r =
    let (i, e, l) = index_is 0 (ready before) p.before t in
    let same : index_from 0 (ready before) p.before ≡ i = omega arith in
    let there : value_at before (index_from 0 (ready before) p.before) ≡ p.before = ap (value_at before) same ∙ l.at in
    record {
      first = let h = l.inside in omega arith;
      second = omega arith;
      operation = subst⁻¹ (λ z. Valid (limit b) z 1 p.gap 0 p.s 0 p.value) there r.valid;
    }

sound_c : (b : ℕ) (before : List Row) (m k : ℕ) (ps : List Prefix) → T (has (ready before) m) → Chain m ps k → ((p : Prefix) → Memᴰ p ps → PrefixRow b p)
    → Sound (limit b) before (rule_c before ps)
unfolding rule_c Chain Sound
sound_c b before m k [] t c r = tt
sound_c b before m k (p ∷ ps) t c r =
    go (has (ready before) p.value) refl
    (λ h. sound_c b before p.value k ps h c.1 (λ q i. r q (Memᴰ.tail i)))
    (sound_c b more p.value k ps (made_new before (prefix_row before p ∷ []) p.value (Memᴰ.head refl)) c.1 (λ q i. r q (Memᴰ.tail i)))
  where
    more : List Row
    more = before ++ (prefix_row before p ∷ [])

    go : (t : Bool) → has (ready before) p.value ≡ t → (T (has (ready before) p.value) → Sound (limit b) before (rule_c before ps))
        → Sound (limit b) more (rule_c more ps) → Sound (limit b) before (cond t (rule_c before ps) (prefix_row before p ∷ rule_c more ps))
    go true e f g = f (T_of e)
    go false e f g = (prefix_fits b before p (subst⁻¹ (λ z. T (has (ready before) z)) c.0.before t) (r p (Memᴰ.head refl)), g)

sound_added : (b : ℕ) (before : List Row) (cs : List ℕ) → AllWanted b cs → Sound (limit b) before (added (limit b) before cs)
sound_added b before [] w = unfold added Sound in tt
sound_added b before (c ∷ cs) w =
    let q = w c (Memᴰ.head refl) in
    added_by (Sound (limit b) before) (limit b) before c cs
    (λ new e. sound_a (limit b) before (c ∷ cs) new e)
    (λ new e f. sound_b (limit b) before (c ∷ cs) new f)
    (λ e f. sound_c b before 1 c (prefixes c) tt (chain_is c q.odd) (λ p i. prefix_row_lem b c p q.odd q.below i))

sound_turns : (b k : ℕ) (cs : List ℕ) (d : Draft) → AllWanted b cs → Sound (limit b) [] d.rows → Sound (limit b) [] (turns (limit b) k cs d).rows
unfolding turns turn
sound_turns b zero cs d w s = s
sound_turns b (suc k) cs d w s =
    let left = remaining (ready d.rows) cs in
    sound_turns b k cs (turn (limit b) cs d) w
    (sound_append (limit b) [] d.rows (added (limit b) d.rows left) s
    (sound_added b d.rows left (λ c i. w c (remaining_in (ready d.rows) cs c i).0)))

-- ---- a list and bit limit that are not refused

module _ (b : ℕ) (ts : List ℤ) (e : admitted b ts ≡ Accepted) where
  pub generated_sound : Sound (limit b) [] (generated b ts)
  unfolding generated
  generated_sound = sound_turns b (length (wanted ts)) (wanted ts) none_yet (all_wanted b ts (admitted_of b ts e)) (unfold Sound in tt)

  -- every wanted constant is some row's value
  pub generated_made : (c : ℕ) → Memᴰ c (wanted ts) → Memᴰ c (values (generated b ts))
  unfolding generated
  generated_made c i =
      let (t, j, q, h) = wanted_in ts c i in
      ⊎_elim (λ p. absurd (omega arith)) (λ p. p)
      (Memᴰ.cases_cons (has_in (ready (turns (limit b) (length (wanted ts)) (wanted ts) none_yet).rows) c (all_made b (wanted ts) (all_wanted b ts (admitted_of b ts e)) c i)))

  generated_serves : (t : ℤ) → Memᴰ t ts → T (is_served (values (generated b ts)) t)
  unfolding is_served
  generated_serves t i = go (leb (odd_of t) 1) refl
    where
      go : (a : Bool) → leb (odd_of t) 1 ≡ a → T (a || has (values (generated b ts)) (odd_of t))
      go true q = tt
      go false q = in_has (generated_made (odd_of t) (in_wanted ts t i (leb-false _ _ q)))

  pub few_rows_lem : length (generated b ts) ≤ most_rows
  few_rows_lem = omega (arith, generated_few b ts e, sum_most b ts (admitted_of b ts e))

  -- the check accepts it, whatever stands behind its words
  pub generated_accepted : (rest : List ℕ) → checked b ts (length (generated b ts)) (flat (generated b ts) ++ rest) ≡ Accepted
  generated_accepted rest =
      of_good b ts (length (generated b ts)) (flat (generated b ts) ++ rest)
      (record {
        admits = admitted_of b ts e;
        room = (few_rows_lem, omega (arith, length_flat (generated b ts), length-append (flat (generated b ts)) rest));
        sound = subst⁻¹ (Sound (limit b) []) (rows_flat (generated b ts) rest) generated_sound;
        serves = λ t i. subst⁻¹ (λ xs. T (is_served (values xs) t)) (rows_flat (generated b ts) rest) (generated_serves t i);
      })

  -- stage 8 passes
  few_accepts : few_rows (generated b ts) ≡ Accepted
  few_accepts = of_need no.TooManyRows (leb (length (generated b ts)) most_rows ∷ []) (le→leb _ _ few_rows_lem, tt)

-- so that the generator refuses nothing but the list, the bit limit and the room
pub drawn_is : (b : ℕ) (ts : List ℤ) (room : ℕ) → drawn b ts room ≡ first_of (admit_order b ts ++ (buffer (row_length * most_rows) room ∷ []))
unfolding drawn admitted
drawn_is b ts room = go (admitted b ts) refl
  where
    B : Answer
    B = buffer (row_length * most_rows) room

    last : (a f : Answer) → f ≡ Accepted → first_of (a ∷ f ∷ []) ≡ first_of (a ∷ [])
    last (Ok _) f e = ap (λ x. first_of (x ∷ [])) e
    last (Err why) f e = refl

    go : (a : Answer) → admitted b ts ≡ a → first_of (admit_order b ts ++ (B ∷ few_rows (generated b ts) ∷ [])) ≡ first_of (admit_order b ts ++ (B ∷ []))
    go (Ok _) e =
        passes_on (admit_order b ts) (B ∷ few_rows (generated b ts) ∷ []) Accepted (sym e) refl
        ∙ last B (few_rows (generated b ts)) (few_accepts b ts e)
        ∙ sym (passes_on (admit_order b ts) (B ∷ []) Accepted (sym e) refl)
    go (Err why) e =
        sym (stops_at (admit_order b ts) (B ∷ few_rows (generated b ts) ∷ []) (Err why) why (sym e) refl)
        ∙ stops_at (admit_order b ts) (B ∷ []) (Err why) why (sym e) refl

pub drawn_accepts : (b : ℕ) (ts : List ℤ) (room : ℕ) → admitted b ts ≡ Accepted → row_length * most_rows ≤ room → drawn b ts room ≡ Accepted
unfolding admitted
drawn_accepts b ts room e h =
    drawn_is b ts room
    ∙ passes_on (admit_order b ts) (buffer (row_length * most_rows) room ∷ []) Accepted (sym e) refl
    ∙ ap (λ a. first_of (a ∷ [])) (of_need no.Buffer (leb (row_length * most_rows) room ∷ []) (le→leb _ _ h, tt))

-- and then writes the rows' words
pub drawn_writes : (b : ℕ) (ts : List ℤ) (room : ℕ) → admitted b ts ≡ Accepted → row_length * most_rows ≤ room → rows_written b ts room ≡ flat (generated b ts)
unfolding rows_written
drawn_writes b ts room e h = ap (λ a. given a (flat (generated b ts))) (drawn_accepts b ts room e h)

-- ---- the call

-- a call that is not refused has an admitted list and room for a full graph
calls : (b : ℕ) (ts : List ℤ) (room : ℕ) → drawn b ts room ≡ Accepted → (admitted b ts ≡ Accepted) × (row_length * most_rows ≤ room)
unfolding drawn admitted
calls b ts room e =
    let (s1, (s2, (s3, (s4, _)))) = first_accepts (generate_order b ts room) e in
    let q = need_accepts no.Buffer (leb (row_length * most_rows) room ∷ []) s4 in
    (all_accept (admit_order b ts) (s1, (s2, (s3, tt))), leb→le _ _ q.0)

-- what a call has done that reports n rows
pub record Call (b : ℕ) (ts : List ℤ) (n : ℕ) (before now : List ℕ) : Type 0 where
  pub admits : admitted b ts ≡ Accepted
  pub room : row_length * most_rows ≤ length before
  pub count : n ≡ length (generated b ts)
  pub few : n ≤ most_rows
  pub writes : now ≡ over (flat (generated b ts)) before

pub call_of : (b : ℕ) (ts : List ℤ) (n : ℕ) (before now : List ℕ)
    → Done (drawn_told b ts (length before)) (rows_written b ts (length before)) (Ok n) before now → Call b ts n before now
unfolding drawn_told
call_of b ts n before now d =
    let (e, q) = told_accepts (drawn b ts (length before)) (length (generated b ts)) n d.answers in
    let (a, h) = calls b ts (length before) e in
    record { admits = a; room = h; count = q; few = omega (arith, q, few_rows_lem b ts a); writes = d.writes ∙ ap (λ (ws : List ℕ). over ws before) (drawn_writes b ts (length before) a h) }

-- its rows, as they stand in the slice, are those of the rule
pub call_rows : (b : ℕ) (ts : List ℤ) (n : ℕ) (before now : List ℕ) → Call b ts n before now → rows n now ≡ generated b ts
unfolding over
call_rows b ts n before now k = ap₂ rows k.count k.writes ∙ rows_flat (generated b ts) (drop (length (flat (generated b ts))) before)

pub call_accepted : (b : ℕ) (ts : List ℤ) (n : ℕ) (before now : List ℕ) → Call b ts n before now → checked b ts n now ≡ Accepted
unfolding over
call_accepted b ts n before now k =
    ap₂ (checked b ts) k.count k.writes ∙ generated_accepted b ts k.admits (drop (length (flat (generated b ts))) before)

-- a call with room for a full graph refuses only what is not admitted
pub call_refused : (b : ℕ) (ts : List ℤ) (room : ℕ) (why : Refusal) → row_length * most_rows ≤ room → Err why ≡ drawn_told b ts room → admitted b ts ≡ Err why
unfolding drawn_told
call_refused b ts room why h e = go (admitted b ts) refl
  where
    drew : drawn b ts room ≡ Err why
    drew = told_refuses (drawn b ts room) (length (generated b ts)) why e

    go : (a : Answer) → admitted b ts ≡ a → admitted b ts ≡ Err why
    go (Ok _) f = never_both why (sym (drawn_accepts b ts room f h) ∙ drew)
    go (Err y) f =
        let e : Err y ≡ first_of (admit_order b ts ++ (buffer (row_length * most_rows) room ∷ [])) =
        unfold admitted in (stops_at (admit_order b ts) (buffer (row_length * most_rows) room ∷ []) (Err y) y (sym f) refl) in
        f ∙ e ∙ sym (drawn_is b ts room) ∙ drew
