-- Texts as lists of bytes: what stands at a place of one, and numbers in decimal. Assumes nothing.
use Rattle.std.specs.Prelude.{Bool, true, false, cond, not, List, [], ◌∷◌, ◌++◌, ℕ, zero, suc, ◌+◌, ◌-◌, ◌*◌, ◌/◌, ◌%◌, eqb, leb, ltb, ℤ, pos, negsuc, length, get_or, take, drop, Option, Some, None}
use Prim.Native.Char.{code}
use Prim.Native.String.{String, [] as []ˢ, ◌∷◌ as ◌∷ˢ◌}

-- a text that is written out, as bytes
abbrev pub bytes : String → List ℕ
bytes []ˢ = []
bytes (c ∷ˢ s) = code c ∷ bytes s

-- these bytes stand in s from a place on
unfoldable pub stands : List ℕ → List ℕ → ℕ → Bool
stands [] s at = true
stands (c ∷ cs) s at = cond (ltb at (length s)) (cond (eqb (get_or s at 0) c) (stands cs s (at + 1)) false) false

-- ---- a number at a place, and the place behind it, or none: decimal, in signed 32 bits, no leading zero, no plus, no -0

abbrev pub is_digit : ℕ → Bool
is_digit c = cond (ltb c 48) false (ltb c 58)

-- how many digits a text begins with
abbrev pub span : List ℕ → ℕ
span [] = 0
span (c ∷ cs) = cond (is_digit c) (suc (span cs)) 0

-- digits as a number, after what came before
abbrev pub value_of : ℕ → List ℕ → ℕ
value_of v [] = v
value_of v (c ∷ cs) = value_of (v * 10 + (c - 48)) cs

-- k digits of which c is the first: there is one, and no zero leads others
abbrev pub is_plain : ℕ → ℕ → Bool
is_plain k c = cond (eqb k 0) false (cond (eqb k 1) true (not (eqb c 48)))

-- a value with its sign, if it is in range; `next` is the place behind it
abbrev pub ranged : Bool → ℕ → ℕ → Option (ℤ × ℕ)
ranged true v next = cond (eqb v 0) None (cond (leb v 2147483648) (Some (negsuc (v - 1), next)) None)
ranged false v next = cond (ltb v 2147483648) (Some (pos v, next)) None

unfoldable pub unsigned_at : Bool → List ℕ → ℕ → Option (ℤ × ℕ)
unsigned_at negative s p =
    cond (is_plain (span (drop p s)) (get_or s p 0))
    (ranged negative (value_of 0 (take (span (drop p s)) (drop p s))) (p + span (drop p s)))
    None

-- 45 is the sign -
unfoldable pub number_at : List ℕ → ℕ → Option (ℤ × ℕ)
number_at s at = cond (eqb (get_or s at 0) 45) (unsigned_at true s (at + 1)) (unsigned_at false s at)

-- ---- a number written

-- n in decimal, with no zero in front, in at most k digits
abbrev pub decimal_in : ℕ → ℕ → List ℕ
decimal_in zero n = []
decimal_in (suc k) n = cond (ltb n 10) ((48 + n) ∷ []) (decimal_in k (n / 10) ++ ((48 + n % 10) ∷ []))

-- twenty digits hold every number of 64 bits
unfoldable pub unsigned_text : ℕ → List ℕ
unsigned_text n = decimal_in 20 n

abbrev pub signed_text : Bool → ℕ → List ℕ
signed_text true n = 45 ∷ unsigned_text n
signed_text false n = unsigned_text n

abbrev pub text_of : ℤ → List ℕ
text_of (pos n) = signed_text false n
text_of (negsuc n) = signed_text true (suc n)
