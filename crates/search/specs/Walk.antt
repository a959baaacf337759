-- The results of operations on one value as it is and another shifted, shift after shift. Assumes nothing.
use Rattle.std.specs.Prelude.{Bool, ◌||◌, cond, List, [], ◌∷◌, ℕ, zero, suc, ◌+◌, ◌-◌, ◌*◌, ◌^◌, leb}
use Rattle.meaning.specs.Basics.{any, difference}
use Rattle.search.specs.declared.results.Results.{Results}
use Rattle.search.specs.Sides.{does_hit}

-- sum and difference of a and v shifted by l, l + 1, .., n of them, up to where v is shifted to far or beyond
unfoldable pub pairs_from : (a v far l n : ℕ) → List (ℕ × ℕ)
pairs_from a v far l zero = []
pairs_from a v far l (suc n) = cond (leb far (2 ^ l * v)) [] ((a + 2 ^ l * v, difference a (2 ^ l * v)) ∷ pairs_from a v far (suc l) n)

-- those that are still to come
abbrev pub to_come : Results → List (ℕ × ℕ)
to_come r = pairs_from r.a r.v r.far r.l (r.end - r.l)

-- c is the sum or the difference of one of the pairs without its trailing zeros
unfoldable pub is_among : ℕ → List (ℕ × ℕ) → ℕ → Bool
is_among L ps c = any (λ p. does_hit L p.0 c || does_hit L p.1 c) ps
