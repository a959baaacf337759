-- The turns one after the other: the rows made so far, what the turns left make of them, and that there is room for the next. Assumes nothing.
use mathlib.Core.Path.{◌≡◌, refl, sym, ap, ap₂, ◌∙◌, subst, subst⁻¹}
use mathlib.Core.List.{List, [], ◌++◌, ◌∷◌, Memᴰ}
use Prim.Native.Nat.{ℕ, zero, suc, ◌+◌, ◌-◌, ◌*◌, ◌≤◌, ◌<◌, ◌^◌}
use native.Mathlib.Omega.{arith}
use lib.ListN.{length, length-append, get_or}
use Rattle.meaning.specs.Limits.{most_rows}
use Rattle.meaning.specs.declared.Row.{Row}
use Rattle.meaning.specs.Basics.{over, over_at}
use Rattle.meaning.specs.Graph.{row_length, rows, flat, ready}
use Rattle.meaning.specs.Generator.{remaining, added, turn, turns}
use Rattle.meaning.specs.Generator as rule
use Rattle.laws.proofs.Generator.Remaining.{remaining_in}
use Rattle.search.specs.declared.ready.Ready.{Ready}
use Rattle.search.specs.Held.{listed, Started}
use Rattle.search.specs.Marks.{long_limit, State, Holds, Wide}
use Rattle.generator.specs.Growth.{drawn_rows, Servable, Begun, Open, Grown}
use Rattle.generator.specs.declared.draft.Draft.{Draft}
use Rattle.generator.specs.Rule.{AllServable, turned, Turning}
use Rattle.generator.proofs.DraftLaws.{grown_none, grown_then, drawn_more, open_on}
use lib.Pow.{pow_mono}
use Rattle.meaning.specs.Distance.{does_reach}
use Rattle.search.proofs.ReadyLaws.{list_at}

-- ---- the input alone

pub start_state : (L : ℕ) (map : List ℕ) (r : Ready) → 1 ≤ L → Started r → Wide L map → Holds map (λ c. does_reach L (1 ∷ []) c)
    → State L map r.values r.count
start_state L map r o s w h =
    let p : 2 ≤ 2 ^ L = pow_mono {i = 1} {j = L} o in
    let one : get_or r.values 0 0 ≡ 1 = sym (list_at r 0 (omega (arith, s.one))) ∙ ap (λ (xs : List ℕ). get_or xs 0 0) s.list in
    record {
      wide = w;
      values = (
        omega (arith, s.one, s.fit.places),
        λ i l. let z : i ≡ 0 = omega (arith, s.one) in rw (z, one) (refl, omega arith),
      );
      reach = subst⁻¹ (λ (xs : List ℕ). Holds map (λ c. does_reach L xs c)) s.list h;
    }

-- ---- the turns

-- no turn takes rows away
turns_grow : (L k : ℕ) (cs : List ℕ) (d : rule.Draft) → length d.rows ≤ length (turns L k cs d).rows
unfolding turns turn
turns_grow L zero cs d = omega arith
turns_grow L (suc k) cs d =
    omega (arith, length-append d.rows (added L d.rows (remaining (ready d.rows) cs)), turns_grow L k cs (turn L cs d))

turns_next : (L n k : ℕ) (cs : List ℕ) (d : rule.Draft) → k < n → turns L (n - k) cs d ≡ turns L (n - (k + 1)) cs (turn L cs d)
turns_next L n k cs d h =
    let e : n - k ≡ suc (n - (k + 1)) = omega arith in
    ap (λ (j : ℕ). turns L j cs d) e ∙ unfold turns in refl

turns_end : (L n : ℕ) (cs : List ℕ) (d : rule.Draft) → n ≡ 0 → turns L n cs d ≡ d
unfolding turns
turns_end L n cs d e = ap (λ (j : ℕ). turns L j cs d) e

-- the input alone has room for 128 rows
pub started_open : {L : ℕ} {lent : List ℕ} {d : Draft} → Begun L lent d → row_length * most_rows ≤ length lent → Open d most_rows
unfolding rows
started_open {d = d} b h =
    let s = b.started in
    record {
      fit = s.fit;
      some = omega (arith, s.one);
      same = s.list ∙ ap (λ (k : ℕ). ready (rows k d.out.now)) (let e : 0 ≡ d.set.count - 1 = omega (arith, s.one) in e);
      state = subst⁻¹ (λ (L : ℕ). State L d.map.now d.set.values d.set.count) b.limit b.state;
      space = omega (arith, s.one);
      words = omega (arith, ap length b.words);
    }

-- after k turns
pub record Turned (L : ℕ) (cs : List ℕ) (first : Draft) (k : ℕ) (d : Draft) : Type 0 where
  pub made : List Row
  pub grown : Grown first made d
  pub rest : (turns L (length cs - k) cs (record { rows = made })).rows ≡ turned L cs
  pub few : length made ≤ most_rows

module _ {L : ℕ} {lent cs : List ℕ} {first : Draft} (w : row_length * most_rows ≤ length lent) (b : Begun L lent first) where
  pub turned_start : Turned L cs first 0 first
  turned_start =
      record { made = []; grown = grown_none _ (started_open b w); rest = ap (λ (j : ℕ). (turns L j cs (record { rows = [] })).rows) (omega arith); few = omega arith }

  module _ {k : ℕ} {d : Draft} (t : Turned L cs first k d) where
    same_limit : d.limit ≡ L
    same_limit = t.grown.limit ∙ b.limit

    -- the rows drawn are those made
    its_rows : drawn_rows d ≡ t.made
    unfolding rows
    its_rows =
        drawn_more most_rows t.few (started_open b w) t.grown
        ∙ ap (λ (n : ℕ). rows n first.out.now ++ t.made) (let e : first.set.count - 1 ≡ 0 = omega (arith, b.started.one) in e)

    its_list : listed d.set ≡ ready (drawn_rows d)
    its_list = (open_on most_rows 0 (omega (arith, t.few)) (started_open b w) t.grown).same

    module _ (h : k < length cs) (f : length (turned L cs) ≤ most_rows) {left : List ℕ} (e : left ≡ remaining (listed d.set) cs) where
      abbrev new : List Row
      new = added d.limit (drawn_rows d) left

      next_is : (turns L (length cs - (k + 1)) cs (record { rows = t.made ++ new })).rows ≡ turned L cs
      unfolding turn
      next_is =
          ap (λ (xs : List Row). (turns L (length cs - (k + 1)) cs (record { rows = t.made ++ xs })).rows)
          (ap₂ (λ l ls. added l (drawn_rows d) ls) same_limit e
          ∙ ap₂ (λ ys vals. added L ys (remaining vals cs)) its_rows (its_list ∙ ap ready its_rows))
          ∙ ap (λ (x : rule.Draft). x.rows) (sym (turns_next L (length cs) k cs (record { rows = t.made }) h))
          ∙ t.rest

      grows : length t.made + length new ≤ most_rows
      grows = omega (arith, length-append t.made new, turns_grow L (length cs - (k + 1)) cs (record { rows = t.made ++ new }), ap length next_is)

      -- the next turn has room
      pub turned_room : Open d (length (added d.limit (drawn_rows d) left))
      turned_room = open_on most_rows (length new) grows (started_open b w) t.grown

      -- and may begin, where the constants can be served
      pub turned_open : L ≤ long_limit → AllServable L cs → Turning d left
      turned_open m a =
          record {
            room = turned_room;
            limit = omega (arith, same_limit);
            servable = λ c i. subst⁻¹ (λ l. Servable l c) same_limit (a c (remaining_in _ _ c (subst (Memᴰ c) e i)).0);
          }

      pub turned_more : {next : Draft} → Grown d new next → Turned L cs first (k + 1) next
      turned_more g =
          record { made = t.made ++ new; grown = grown_then _ (started_open b w) t.grown g; rest = next_is; few = omega (arith, grows, length-append t.made new) }

    pub turned_end : length cs ≤ k → Grown first (turned L cs) d
    turned_end h =
        let e : turns L (length cs - k) cs (record { rows = t.made }) ≡ record { rows = t.made } = turns_end L (length cs - k) cs (record { rows = t.made }) (omega arith) in
        subst (λ (xs : List Row). Grown first xs d) (sym (ap (λ (x : rule.Draft). x.rows) e) ∙ t.rest) t.grown

-- all rows stand from the front on
pub from_front : {lent : List ℕ} {first d : Draft} {xs : List Row} → Started first.set → first.out.now ≡ lent → Grown first xs d
    → (d.set.count ≡ length xs + 1) × (d.out.now ≡ over (flat xs) lent)
unfolding over_at
from_front {first = first} {xs = xs} s w g =
    let e : row_length * (first.set.count - 1) ≡ 0 = omega (arith, s.one) in
    (omega (arith, g.count, s.one), g.writes ∙ ap₂ (λ (n : ℕ) (l : List ℕ). over_at n (flat xs) l) e w)
