-- A graph that was drawn for a job, and its listing. Assumes nothing.
use Rattle.std.specs.Prelude.{◌≡◌, List, ℕ, ℤ, pos, get_or, Result, Ok, Err}
use Rattle.std.specs.Int.{w32}
use Rattle.std.proofs.Common.{SFits}
use Rattle.meaning.specs.declared.Refusal.{Refusal}
use Rattle.meaning.specs.Graph.{rows}
use Rattle.meaning.specs.Generator.{generated}
use Rattle.meaning.specs.Listing.{refused_line}
use Rattle.meaning.specs.Refusals.{Accepted, admitted, checked}
use Rattle.writing.specs.Wrote.{Wrote}

-- every target is a signed 32-bit number
abbrev pub Narrow : List ℤ → Type 0
Narrow ts = (i : ℕ) → SFits w32 (get_or ts i (pos 0))

-- n rows in some words are those of the rule for a list and a bit limit
pub record Drawing (b : ℕ) (ts : List ℤ) (w : List ℕ) (n : ℕ) : Type 0 where
  pub admits : admitted b ts ≡ Accepted
  pub accepted : checked b ts n w ≡ Accepted
  pub rows_are : rows n w ≡ generated b ts

-- what is printed is a text from the front, or the line of a refusal, and then nothing is written yet
abbrev pub Lists : List ℕ → Result ℕ Refusal → List ℕ → List ℕ → Type 0
Lists text (Ok end) before now = Wrote before 0 text now end
Lists text (Err why) before now = (text ≡ refused_line why) × (now ≡ before)
