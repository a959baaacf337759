-- How a graph grows: by nothing, by one row, by rows after rows; and that it stays open for more. Assumes nothing.
use mathlib.Core.Path.{◌≡◌, refl, sym, ap, ap₂, ◌∙◌, subst, subst⁻¹}
use mathlib.Core.Bool.{Bool, true, false}
use mathlib.Core.List.{List, [], ◌∷◌, ◌++◌, append-nil, append_assoc, map-append}
use Rattle.std.specs.Prelude.{Option, option_map, option_to_list}
use Prim.Native.Nat.{ℕ, ◌+◌, ◌-◌, ◌*◌, ◌≤◌, ◌<◌}
use native.Mathlib.Omega.{arith}
use lib.ListN.{length, length-append, get_or, take, drop}
use Rattle.meaning.specs.declared.Choice.{Choice}
use Rattle.meaning.specs.declared.Prefix.{Prefix}
use Rattle.meaning.specs.declared.Row.{Row}
use Rattle.meaning.specs.Basics.{has, index_from, over_at}
use Rattle.meaning.specs.Graph.{row_length, words, rows, flat, values, ready}
use Rattle.meaning.specs.Distance.{does_reach}
use Rattle.meaning.specs.Generator.{choice_for, row_of, row_for, prefix_row, rule_c}
use Rattle.laws.proofs.Graph.Rows.{length_flat, flat_append, ready_append, rows_written_lem}
use Rattle.laws.proofs.Generator.Steps.{rule_c_ready, rule_c_row, rule_c_end}
use Rattle.laws.proofs.Lists.Over.{length_over_at, over_at_part, over_at_none}
use Rattle.search.specs.declared.ready.Ready.{Ready}
use Rattle.generator.specs.declared.draft.Draft.{Draft}
use Rattle.search.specs.Held.{listed, grown, Added}
use Rattle.search.proofs.ReadyLaws.{grown_room}
use Rattle.meaning.specs.Operation.{Odd}
use Rattle.search.specs.Marks.{Holds, State}
use Rattle.search.proofs.Marks.{include_is, one_map}
use Rattle.generator.specs.Growth.{drawn_rows, Open, grown_by, Grown, prefix_rows}

-- ---- a prefix, ready or not

pub prefix_ready : (before : List Row) (p : Prefix) → has (ready before) p.value ≡ true → prefix_rows before p ≡ []
unfolding prefix_rows
prefix_ready before p e = rw e

pub prefix_new : (before : List Row) (p : Prefix) → has (ready before) p.value ≡ false → prefix_rows before p ≡ prefix_row before p ∷ []
unfolding prefix_rows
prefix_new before p e = rw e

-- ---- growth

pub grown_none : {d : Draft} (n : ℕ) → Open d n → Grown d [] d
unfolding flat grown_by
grown_none {d} n o =
    record {
      map = refl;
      out = refl;
      limit = refl;
      is = refl;
      fit = o.fit;
      state = o.state;
      count = omega arith;
      lists = sym (append-nil (listed d.set));
      writes = sym (over_at_none (row_length * (d.set.count - 1)) d.out.now);
    }

-- a draft that is open for a row keeps its bound when a row is added
pub grown_one : {old new : Draft} (x : Row) → Open old 1 → Odd old.limit x.value
    → new.map.ghost_name ≡ old.map.ghost_name → new.out.ghost_name ≡ old.out.ghost_name → new.limit ≡ old.limit
    → length new.map.now ≡ length old.map.now → Holds new.map.now (λ c. does_reach old.limit (take old.set.count old.set.values ++ (x.value ∷ [])) c)
    → Added old.set x.value new.set → new.out.now ≡ over_at (row_length * (old.set.count - 1)) (words x) old.out.now → Grown old (x ∷ []) new
unfolding flat grown_by
grown_one {old} {new} x o v m n l e h a w =
    let below = o.space in
    let f = o.fit in
    let set = old.set in
    let is = a.is ∙ grown_room set x.value (omega arith) in
    record {
      map = m;
      out = n;
      limit = l;
      is = a.is;
      fit = a.fit f;
      state = subst⁻¹ (λ (r : Ready). State old.limit new.map.now r.values r.count) is
          (include_is old.limit old.map.now new.map.now set.values set.count x.value o.state (omega (arith, f.places)) v.0 v.1 e h);
      count = a.more (omega arith);
      lists = a.list (omega arith);
      writes = w;
    }

-- what n rows ask of the words
inside : {d : Draft} (n : ℕ) → Open d n → row_length * (d.set.count - 1) + row_length * n ≤ length d.out.now
inside n o = let s = o.space in let w = o.words in omega arith

by_both : (set : Ready) (vs ws : List ℕ) → grown_by (grown_by set vs) ws ≡ grown_by set (vs ++ ws)
unfolding grown_by
by_both set [] ws = refl
by_both set (v ∷ vs) ws = by_both (grown set v) vs ws

pub grown_then : {old mid new : Draft} {xs ys : List Row} (n : ℕ) → Open old n → Grown old xs mid → Grown mid ys new → Grown old (xs ++ ys) new
grown_then {old} {mid} {new} {xs} {ys} n o g h =
    record {
      map = h.map ∙ g.map;
      out = h.out ∙ g.out;
      limit = h.limit ∙ g.limit;
      is =
          h.is ∙ ap (λ (r : Ready). grown_by r (values ys)) g.is ∙ by_both old.set (values xs) (values ys)
          ∙ ap (grown_by old.set) (sym (map-append (λ x. x.value) xs ys));
      fit = h.fit;
      state = subst (λ (L : ℕ). State L new.map.now new.set.values new.set.count) g.limit h.state;
      count = omega (arith, g.count, h.count, length-append xs ys);
      lists =
          h.lists
          ∙ ap (λ (l : List ℕ). l ++ values ys) g.lists
          ∙ append_assoc (listed old.set) (values xs) (values ys)
          ∙ ap (λ (l : List ℕ). listed old.set ++ l) (sym (map-append (λ x. x.value) xs ys));
      writes =
          h.writes
          ∙ ap (λ (l : List ℕ). over_at (row_length * (mid.set.count - 1)) (flat ys) l) g.writes
          ∙ over_at_part (row_length * (old.set.count - 1)) (row_length * (mid.set.count - 1)) (flat xs) (flat ys) old.out.now
          (omega (arith, inside n o)) (omega (arith, g.count, o.some, length_flat xs))
          ∙ ap (λ (l : List ℕ). over_at (row_length * (old.set.count - 1)) l old.out.now) (sym (flat_append xs ys));
    }

-- the rows drawn are those before and the new ones
pub drawn_more : {old new : Draft} {xs : List Row} (m : ℕ) → length xs ≤ m → Open old m → Grown old xs new → drawn_rows new ≡ drawn_rows old ++ xs
drawn_more {old} {new} {xs} m h o g =
    ap₂ rows (let e : new.set.count - 1 ≡ old.set.count - 1 + length xs = omega (arith, g.count, o.some) in e) g.writes
    ∙ rows_written_lem (old.set.count - 1) old.out.now xs (omega (arith, inside m o))

-- and the set lists their values
lists_more : {old new : Draft} {xs : List Row} (m : ℕ) → length xs ≤ m → Open old m → Grown old xs new → listed new.set ≡ ready (drawn_rows new)
lists_more {old} {xs = xs} m h o g =
    g.lists ∙ ap (λ (l : List ℕ). l ++ values xs) o.same ∙ sym (ready_append (drawn_rows old) xs) ∙ ap ready (sym (drawn_more m h o g))

pub open_on : {old new : Draft} {xs : List Row} (m n : ℕ) → length xs + n ≤ m → Open old m → Grown old xs new → Open new n
open_on {old} {new} {xs} m n h o g =
    record {
      fit = g.fit;
      some = omega (arith, g.count, o.some);
      same = lists_more m (omega arith) o g;
      state = subst⁻¹ (λ (L : ℕ). State L new.map.now new.set.values new.set.count) g.limit g.state;
      space = omega (arith, g.count, o.space);
      words = let k = o.words in
          let s = o.space in
          omega (arith, ap length g.writes, length_over_at (row_length * (old.set.count - 1)) (flat xs) old.out.now (omega (arith, length_flat xs, o.some)));
    }

-- room for fewer
pub open_less : {d : Draft} (m n : ℕ) → n ≤ m → Open d m → Open d n
open_less m n h o = record { fit = o.fit; some = o.some; same = o.same; state = o.state; space = omega (arith, o.space); words = o.words }

-- ---- one step

-- the row of the choice on the set's values, or none
pub first_is : {d new : Draft} (c : ℕ) {o : Option Choice} → Open d 1 → o ≡ choice_for d.limit (listed d.set) c
    → Grown d (option_to_list (option_map (row_of c) o)) new → Grown d (option_to_list (row_for d.limit (drawn_rows d) c)) new
unfolding row_for
first_is {d} {new} c h e g =
    subst (λ x. Grown d (option_to_list (option_map (row_of c) x)) new) (e ∙ ap (λ l. choice_for d.limit l c) h.same) g

module _ {d : Draft} (p : Prefix) (o : Open d (length (prefix_rows (drawn_rows d) p))) where
  -- what was asked of the set is so of the rows drawn
  asked : (b : Bool) → has (listed d.set) p.value ≡ b → has (ready (drawn_rows d)) p.value ≡ b
  asked b e = ap (λ l. has l p.value) (sym o.same) ∙ e

  pub prefix_none : has (listed d.set) p.value ≡ true → Grown d (prefix_rows (drawn_rows d) p) d
  prefix_none e = subst⁻¹ (λ xs. Grown d xs d) (prefix_ready (drawn_rows d) p (asked true e)) (grown_none _ o)

  pub prefix_open : has (listed d.set) p.value ≡ false → Open d 1
  prefix_open e = subst (λ (xs : List Row). Open d (length xs)) (prefix_new (drawn_rows d) p (asked false e)) o

  pub prefix_one : {new : Draft} {u : ℕ} → has (listed d.set) p.value ≡ false → u ≡ index_from 0 (listed d.set) p.before
      → Grown d (record { u = u; v = 0; l1 = p.gap; l2 = 0; s = p.s; r = 0; value = p.value } ∷ []) new → Grown d (prefix_rows (drawn_rows d) p) new
  prefix_one {new} {u} e i g =
      subst⁻¹ (λ xs. Grown d xs new)
      (prefix_new (drawn_rows d) p (asked false e)
      ∙ ap (λ (k : ℕ). record { u = k; v = 0; l1 = p.gap; l2 = 0; s = p.s; r = 0; value = p.value } ∷ [])
      (sym (i ∙ ap (λ (l : List ℕ). index_from 0 l p.before) o.same))) g

-- ---- step C, prefix by prefix

rule_step : (before : List Row) (ps : List Prefix) (i : ℕ) (d : Prefix) → i < length ps
    → let xs = prefix_rows before (get_or ps i d) in rule_c before (drop i ps) ≡ xs ++ rule_c (before ++ xs) (drop (i + 1) ps)
rule_step before ps i d h = go (has (ready before) (get_or ps i d).value) refl
  where
    p : Prefix
    p = get_or ps i d

    go : (b : Bool) → has (ready before) p.value ≡ b → rule_c before (drop i ps) ≡ prefix_rows before p ++ rule_c (before ++ prefix_rows before p) (drop (i + 1) ps)
    go true e = rw (prefix_ready before p e, append-nil before) (rule_c_ready before ps i d h e)
    go false e = rw (prefix_new before p e) (rule_c_row before ps i d h e)

-- the rows of the first i prefixes, and that those of the others complete the step
pub record Part (old : Draft) (ps : List Prefix) (i : ℕ) (new : Draft) : Type 0 where
  pub made : List Row
  pub grown : Grown old made new
  pub rest : made ++ rule_c (drawn_rows new) (drop i ps) ≡ rule_c (drawn_rows old) ps

module _ {old : Draft} {ps : List Prefix} (o : Open old (length (rule_c (drawn_rows old) ps))) where
  pub part_start : Part old ps 0 old
  part_start = record { made = []; grown = grown_none _ o; rest = refl }

  module _ {i : ℕ} {new : Draft} (p : Part old ps i new) where
    pub part_open : (d : Prefix) → i < length ps → Open new (length (prefix_rows (drawn_rows new) (get_or ps i d)))
    part_open d h =
        let xs = prefix_rows (drawn_rows new) (get_or ps i d) in
        open_on (length (rule_c (drawn_rows old) ps)) (length xs)
        (omega (
          arith,
          ap length p.rest,
          length-append p.made (rule_c (drawn_rows new) (drop i ps)),
          ap length (rule_step (drawn_rows new) ps i d h),
          length-append xs (rule_c (drawn_rows new ++ xs) (drop (i + 1) ps)),
        ))
        o p.grown

    -- what is odd under the limit is so under that which was kept
    pub part_odd : (v : ℕ) → Odd old.limit v → Odd new.limit v
    part_odd v = subst⁻¹ (λ (L : ℕ). Odd L v) p.grown.limit

    pub part_more : (d : Prefix) → i < length ps → {next : Draft} → Grown new (prefix_rows (drawn_rows new) (get_or ps i d)) next → Part old ps (i + 1) next
    part_more d h {next} g =
        let xs = prefix_rows (drawn_rows new) (get_or ps i d) in
        let here = part_open d h in
        record {
          made = p.made ++ xs;
          grown = grown_then _ o p.grown g;
          rest =
              append_assoc p.made xs (rule_c (drawn_rows next) (drop (i + 1) ps))
              ∙ ap (λ (l : List Row). p.made ++ (xs ++ rule_c l (drop (i + 1) ps))) (drawn_more (length xs) (omega arith) here g)
              ∙ ap (λ (l : List Row). p.made ++ l) (sym (rule_step (drawn_rows new) ps i d h))
              ∙ p.rest;
        }

    pub part_end : length ps ≤ i → Grown old (rule_c (drawn_rows old) ps) new
    part_end h =
        subst (λ (xs : List Row). Grown old xs new)
        (sym (append-nil p.made) ∙ ap (λ (l : List Row). p.made ++ l) (sym (rule_c_end (drawn_rows new) ps i h)) ∙ p.rest) p.grown

-- ---- one answer

-- any two results that the contract allows are the same set, and leave the same map and the same words
pub one_grown : {old new new' : Draft} {xs : List Row} → length new.map.now ≡ length new'.map.now → Grown old xs new → Grown old xs new'
    → (new.set ≡ new'.set) × (new.map.now ≡ new'.map.now) × (new.out.now ≡ new'.out.now)
one_grown {old} {new} {new'} {xs} e g h =
    let L = old.limit in
    let same : new'.set ≡ new.set = h.is ∙ sym g.is in
    let held : Holds new'.map.now (λ c. does_reach L (listed new.set) c) = subst (λ (r : Ready). Holds new'.map.now (λ c. does_reach L (listed r) c)) same h.state.reach in
    (sym same, one_map new.map.now new'.map.now (λ c. does_reach L (listed new.set) c) e g.state.reach held, g.writes ∙ sym h.writes)
