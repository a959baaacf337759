-- What a writer does: a text at a place of a buffer, and the place behind it. Assumes nothing.
use Rattle.std.specs.Prelude.{◌≡◌, List, ℕ, ◌+◌, ◌≤◌, length}
use Rattle.std.proofs.lemmas.List.Edits.{sets}

-- from the buffer d and the place a, where there is room for it, to the buffer e and the place b; nothing else of the buffer is touched
pub record Wrote (d : List ℕ) (a : ℕ) (text : List ℕ) (e : List ℕ) (b : ℕ) : Type 0 where
  pub stored : e ≡ sets d a text
  pub place : b ≡ a + length text
  pub fits : a + length text ≤ length d
