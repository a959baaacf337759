-- What is lent of a list as plain data: its values. Assumes nothing.
use Rattle.std.proofs.Common.{◌≡◌, ap, ◌∙◌, ℕ, List}
use Rattle.std.specs.Prelude.{take}
use lib.Seq.{take-append_seam}
use Rattle.few.specs.declared.Few.{Few}
use Rattle.few.specs.Places.{in_places}

pub values_of : {T : Type 0} (blank : T) {room : ℕ} {xs ys : List T} {f : Few T room} → ys ≡ take f.count f.values → f ≡ in_places blank room xs → ys ≡ xs
values_of blank h e = h ∙ ap (λ f. take f.count f.values) e ∙ take-append_seam _ _
