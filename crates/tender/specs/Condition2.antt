-- Condition 2: which graphs are accepted, and what an accepted graph gives. Assumes nothing.
use Rattle.std.specs.Prelude.{◌≡◌, ◌↔◌, ℕ, suc, ◌+◌, ◌-◌, ◌*◌, ◌^◌, ◌≤◌, ◌<◌, ℤ, pos, negsuc, nat_abs, ◌*ℤ◌, length, get_or, drop, Option, Some}
use Rattle.meaning.specs.Refusals.{Answer, Accepted}
use mathlib.Core.List.{List, map, Permᴰ}
use Rattle.meaning.specs.declared.Made.{Made}
use Rattle.meaning.specs.Basics.{up_from}
use Rattle.meaning.specs.Constants.{sign_of, odd_of}
use Rattle.meaning.specs.Graph.{rows}
use Rattle.meaning.specs.Products.{products}
use Rattle.meaning.specs.Calls.{Admits, Checks, Operates, Multiplies, Measures, Ranks}
use Rattle.tender.specs.Words.{row_in, EveryRowValid, EveryConstantMade, whole_of, AOperation, Worked, FewestBits, WidestFirst, Written}

pub record Condition2 : Type 0 where
  -- a graph of at most 128 rows, for a list and bit limit not refused, is accepted exactly if every row is valid and every constant is made
  pub accepted_exactly : (b : ℕ) (ts : List ℤ) (n : ℕ) (w : List ℕ) (r : Answer) → Checks b ts n w r → Admits b ts Accepted → n ≤ 128 → 7 * n ≤ length w
      → (r ≡ Accepted) ↔ (EveryRowValid b (rows n w) × EveryConstantMade (rows n w) ts)
  -- its rows are those of the slice
  pub rows_are : (n : ℕ) (w : List ℕ) → rows n w ≡ map (row_in w) (up_from 0 n)
  -- `operate` makes n, r and the value of a valid operation, under a bit limit in 2..16
  pub operation : (b u v l1 l2 s : ℕ) (a : Option Made) → Operates b u v l1 l2 s a → (n : ℤ) (r c : ℕ)
      → (a ≡ Some (record { n = n; r = r; value = c })) ↔ ((2 ≤ b) × (b ≤ 16) × (n ≡ whole_of u v l1 l2 s) × AOperation b u v l1 l2 s r c)
  -- an accepted graph gives t times x for every listed t
  pub gives_products : (b : ℕ) (ts : List ℤ) (n : ℕ) (w : List ℕ) (x : ℤ) (before after : List ℤ) → Multiplies b ts n w x Accepted before after
      → Written (map (λ t. t *ℤ x) ts) before after
  -- through its rows: the products by index are worked by the rows' words, and each is its row's value times x
  pub works_products : (b : ℕ) (ts : List ℤ) (n : ℕ) (w : List ℕ) (x : ℤ) → Checks b ts n w Accepted → Worked (rows n w) x (products (rows n w) x)
  -- the words written by `measure`: first for each row the fewest bits that hold its result, whatever the input of the stated width
  pub row_widths : (b : ℕ) (ts : List ℤ) (n : ℕ) (w : List ℕ) (input : ℕ) (before after : List ℕ) → Measures b ts n w input Accepted before after
      → (k : ℕ) → k < n → FewestBits input (λ x. get_or (products (rows n w) x) (suc k) (pos 0)) (get_or after k 0)
  -- before its right shift it is r bits wider
  pub wide_widths : (b : ℕ) (ts : List ℤ) (n : ℕ) (w : List ℕ) (input : ℕ) (before after : List ℕ) → Measures b ts n w input Accepted before after
      → (k : ℕ) → k < n → FewestBits input (λ x. pos (2 ^ (row_in w k).r) *ℤ get_or (products (rows n w) x) (suc k) (pos 0)) (get_or after k 0 + (row_in w k).r)
  -- then for each output the fewest bits that hold |t| times x, for a zero target 1
  pub output_rule : (b : ℕ) (ts : List ℤ) (n : ℕ) (w : List ℕ) (input : ℕ) (before after : List ℕ) → Measures b ts n w input Accepted before after
      → (k : ℕ) → k < length ts → FewestBits input (λ x. pos (nat_abs (get_or ts k (pos 0))) *ℤ x) (get_or after (n + k) 0)
  -- and so t times x, but for a negative power of two, for which document 01's rule is one bit short
  pub output_widths : (b : ℕ) (ts : List ℤ) (n : ℕ) (w : List ℕ) (input : ℕ) (before after : List ℕ) → Measures b ts n w input Accepted before after
      → (k : ℕ) → k < length ts → (sign_of (get_or ts k (pos 0)) ≡ negsuc 0 → ¬ (odd_of (get_or ts k (pos 0)) ≡ 1))
      → FewestBits input (λ x. get_or ts k (pos 0) *ℤ x) (get_or after (n + k) 0)
  -- and nothing behind them
  pub widths_kept : (b : ℕ) (ts : List ℤ) (n : ℕ) (w : List ℕ) (input : ℕ) (before after : List ℕ) → Measures b ts n w input Accepted before after
      → (length after ≡ length before) × (drop (n + length ts) after ≡ drop (n + length ts) before)
  -- `rank` writes the row numbers 1 to n in an order: by the widths that `measure` writes, widest first, equal widths by lower row
  pub ranking : (b : ℕ) (ts : List ℤ) (n : ℕ) (w : List ℕ) (input : ℕ) (before after old widths : List ℕ) → Ranks b ts n w input Accepted before after
      → Measures b ts n w input Accepted old widths
      → (order : List ℕ) × Written order before after × Permᴰ order (up_from 1 n) × WidestFirst (λ k. get_or widths (k - 1) 0) order
