-- The proved sums of document 01, P1 to P10, and its sample listing to the byte, as one table; b = 8 throughout. Assumes nothing.
use Rattle.std.specs.Prelude.{◌≡◌, List, [], ◌∷◌, ◌++◌, ℕ, ℤ, pos, neg_ℤ, Some, Ok, Err}
use Rattle.meaning.specs.declared.Far.TheVariants.{Zero, One, Two, Beyond}
use Rattle.meaning.specs.declared.Refusal.TheVariants as no
use Rattle.meaning.specs.declared.Row.{Row}
use Rattle.meaning.specs.Constants.{apart}
use Rattle.meaning.specs.Operation.{whole, Valid, operated_under}
use Rattle.meaning.specs.Generator.{generated}
use Rattle.meaning.specs.Products.{products, target_products}
use Rattle.meaning.specs.Widths.{row_width}
use Rattle.meaning.specs.Refusals.{Accepted, number, admitted, checked, distance_told}
use Rattle.meaning.specs.Text.{bytes}
use Rattle.meaning.specs.Calls.{Prints}
use Rattle.tender.specs.Words.{Written}

abbrev pub row : (u v l1 l2 s r value : ℕ) → Row
row u v l1 l2 s r value = record { u = u; v = v; l1 = l1; l2 = l2; s = s; r = r; value = value }

abbrev pub minus : ℕ → ℤ
minus n = neg_ℤ (pos n)

abbrev pub rows45 : List Row
rows45 = row 0 0 0 1 0 0 3 ∷ row 1 1 0 4 1 0 45 ∷ []

abbrev pub sample_job : List ℕ
sample_job = bytes "bits=8\ninput=12\nreport=width\ntargets=45,-20,0\n"

abbrev pub sample_listing : List ℕ
sample_listing =
    bytes "bits=8\ninput=12\nreport=width\nadders=2\ncsd=4\n"
    ++ bytes "row=2 u=1 v=1 l1=0 l2=3 s=0 r=0 value=45 width=18\n"
    ++ bytes "row=1 u=0 v=0 l1=0 l2=2 s=0 r=0 value=5 width=15\n"
    ++ bytes "out=1 row=2 shift=0 sign=1 width=18\n"
    ++ bytes "out=2 row=1 shift=2 sign=-1 width=17\n"
    ++ bytes "out=3 row=0 shift=0 sign=0 width=1\n"

pub record Examples : Type 0 where
  -- P1: the list 45. n of row 2, on the value 3 twice, is -45; with x = -7 its product is -315
  pub p1 : generated 8 (pos 45 ∷ []) ≡ rows45
  pub p1_n : whole 3 3 0 4 1 ≡ minus 45
  pub p1_product : products rows45 (minus 7) ≡ minus 7 ∷ minus 21 ∷ minus 315 ∷ []
  -- P2, P3: the lists 71 and 43
  pub p2 : generated 8 (pos 71 ∷ []) ≡ row 0 0 0 3 1 0 7 ∷ row 0 1 6 0 0 0 71 ∷ []
  pub p3 : generated 8 (pos 43 ∷ []) ≡ row 0 0 2 0 1 0 3 ∷ row 1 0 2 0 1 0 11 ∷ row 2 0 2 0 1 0 43 ∷ []
  -- P4, P5: distances from {1} and from {1, 5}
  pub p4_two : distance_told 8 (1 ∷ []) 45 ≡ Ok Two
  pub p4_beyond : distance_told 8 (1 ∷ []) 43 ≡ Ok Beyond
  pub p4_zero : distance_told 8 (1 ∷ []) 1 ≡ Ok Zero
  pub p5 : distance_told 8 (1 ∷ 5 ∷ []) 45 ≡ Ok One
  -- P6: u = 5, v = 1, no left shifts, s = 0: n = 6, r = 1, value 3; with r = 0, as row 2 after a row of 5, it is refusal 6 by check whatever its value
  pub p6 : operated_under 8 5 1 0 0 0 ≡ Some (record { n = pos 6; r = 1; value = 3 })
  pub p6_refused : (c : ℕ) → checked 8 (pos 5 ∷ []) 2 (0 ∷ 0 ∷ 0 ∷ 2 ∷ 0 ∷ 0 ∷ 5 ∷ 1 ∷ 0 ∷ 0 ∷ 0 ∷ 0 ∷ 0 ∷ c ∷ []) ≡ Err (no.Row 2)
  pub p6_number : number (no.Row 2) ≡ 6
  -- P7: u = v, no left shifts, s = 1: n = 0, never valid, under any limit
  pub p7_n : (u : ℕ) → whole u u 0 0 1 ≡ pos 0
  pub p7 : (L u r c : ℕ) → ¬ (Valid L u u 0 0 1 r c)
  -- P8: 255 passes, 257 is refusal 3 at the first target, 768 passes with odd part 3
  pub p8 : admitted 8 (pos 255 ∷ []) ≡ Accepted
  pub p8_over : admitted 8 (pos 257 ∷ []) ≡ Err (no.OddPart 1)
  pub p8_number : number (no.OddPart 1) ≡ 3
  pub p8_even : admitted 8 (pos 768 ∷ []) ≡ Accepted
  pub p8_parts : apart (pos 768) ≡ record { sign = pos 1; shift = 8; odd = 3 }
  -- P9: -2147483648 needs no row, and times -2147483648 it is 4611686018427387904
  pub p9 : generated 8 (minus 2147483648 ∷ []) ≡ []
  pub p9_product : target_products [] (minus 2147483648) (minus 2147483648 ∷ []) ≡ pos 4611686018427387904 ∷ []
  -- P10: a row of value 3 for inputs of 2 bits is 4 bits wide
  pub p10 : row_width 2 3 ≡ 4
  -- the sample
  pub sample : (k : ℕ) (before after : List ℕ) → Prints sample_job (Ok k) before after → Written sample_listing before after
