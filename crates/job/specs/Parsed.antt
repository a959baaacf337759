-- The code's answer for what a job's text says. Assumes nothing.
use Rattle.std.specs.Prelude.{pos, Result, Ok, Err}
use Rattle.few.specs.Places.{in_places}
use Rattle.meaning.specs.declared.Refusal.{Refusal}
use Rattle.meaning.specs.declared.Refusal.TheVariants as no
use Rattle.meaning.specs.Job as meaning
use Rattle.meaning.specs.Job.{most_job_targets, asks, malformed}
use Rattle.job.specs.declared.Job.{Job}

abbrev pub parsed : meaning.Job → Result Job Refusal
parsed (asks j) = Ok (record { head = j.head; targets = in_places (pos 0) most_job_targets j.targets })
parsed (malformed line) = Err (no.Job line)
