-- Two answers that are told alike are one, so what is promised of what is told is promised of the answer. Assumes nothing.
use Rattle.std.specs.Prelude.{◌≡◌, refl, Result, Ok, Err}
use Rattle.std.proofs.Common.{sym, ap, ◌∙◌}
use Prim.{Unit, tt}
use Rattle.ir.specs.declared.answer.Refused.{Refused as Refusing}
use Rattle.sets.specs.declared.verdict.Broken.{Broken as Breaking}
use Rattle.clausify.specs.ReplyLaws.{refused_of, refused_back}
use Rattle.trials.specs.Tried as Said
use Rattle.trials.specs.Tried.{Tried, told_trial}

trial_in : Tried → Result (Result (Unit {0}) Breaking) Refusing
trial_in Said.Holds = Ok (Ok tt)
trial_in (Said.Broken n k) = Ok (Err (record { at = n; shown = k }))
trial_in (Said.Refused n line) = Err (refused_of n line)

trial_back : (r : Result (Result (Unit {0}) Breaking) Refusing) → trial_in (told_trial r) ≡ r
unfolding trial_in
trial_back (Ok (Ok u)) = refl
trial_back (Ok (Err b)) = refl
trial_back (Err e) = ap Err (refused_back e)

pub same_trial : (r s : Result (Result (Unit {0}) Breaking) Refusing) → told_trial r ≡ told_trial s → r ≡ s
same_trial r s e = sym (trial_back r) ∙ ap trial_in e ∙ trial_back s
