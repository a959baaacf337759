-- A call's answer as one signed number, for callers in other languages. Assumes nothing.
use Rattle.std.specs.Prelude.{◌≡◌, ℕ, ◌+◌, ◌*◌, ℤ, pos, neg_ℤ, Result, Ok, Err}
use Rattle.meaning.specs.declared.Far.{Far}
use Rattle.meaning.specs.declared.Far.TheVariants as far
use Rattle.meaning.specs.declared.Refusal.{Refusal}
use Rattle.meaning.specs.Refusals.{number, place_of}

-- -k
unfoldable pub minus : ℕ → ℤ
minus k = neg_ℤ (pos k)

-- minus (1000 × number + place); places are below 1000, so both can be read off
unfoldable pub refusal_code : Refusal → ℤ
refusal_code why = minus (1000 * number why + place_of why)

-- the number that stands for what the call tells, or its refusal's code
unfoldable pub code : {A : Type 0} → (A → ℕ) → Result A Refusal → ℤ
code told (Ok a) = pos (told a)
code told (Err why) = refusal_code why

-- of a distance: 0, 1, 2, and 3 for beyond
abbrev pub operations : Far → ℕ
operations far.Zero = 0
operations far.One = 1
operations far.Two = 2
operations far.Beyond = 3

-- a call whose answer is handed back as the number r
pub record Coded {A : Type 0} (Call : Result A Refusal → Type 0) (told : A → ℕ) (r : ℤ) : Type 0 where
  pub answer : Result A Refusal
  pub call : Call answer
  pub coded : r ≡ code told answer
