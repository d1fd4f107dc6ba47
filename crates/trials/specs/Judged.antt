-- What a test says of a deck that was run: a verdict, or the refusals that a state can bring.
use Rattle.std.specs.Prelude.{◌≡◌, refl, Bool, true, false, List, ℕ, Result, Ok, Err}
use Prim.{Unit}
use Rattle.ir.specs.Refusals.{refusal_number}
use Rattle.ir.specs.declared.answer.Refused.{Refused}
use Rattle.rules.specs.Base.{any}
use Rattle.rules.specs.State.{Clause}
use Rattle.rules.specs.Deck.{Known}
use Rattle.rules.specs.Run.{Accepted}
use Rattle.rules.specs.Semantics.{Interpretation}
use Rattle.states.specs.State.{StateTold, stated, bad, unread, interpretation_of}
use Rattle.states.specs.Test.{Test, axioms, clauses, Verdict, Tested, told, refused, axioms_verdict, clauses_verdict, wide_clause, unless_wide, on_state}
use Rattle.sets.specs.declared.verdict.Broken.{Broken}
use Rattle.sets.specs.Verdicts.{verdict_in}

pub data Judgement : Type 0 where
  given : Verdict → Judgement
  denied : ℕ → ℕ → Judgement

abbrev pub unless_denied : Verdict → Bool → Judgement
unless_denied v true = denied 14 0
unless_denied v false = given v

abbrev pub judged_in : Test → Known → List Clause → Interpretation → Judgement
judged_in axioms d l I = given (axioms_verdict I d)
judged_in clauses d l I = unless_denied (clauses_verdict I l) (any wide_clause l)

abbrev pub judged_of : Test → Known → List Clause → StateTold → Judgement
judged_of k d l (stated s) = judged_in k d l (interpretation_of d s)
judged_of k d l (bad line) = denied 13 line
judged_of k d l unread = denied 0 0

-- with the run's answer
abbrev pub tested_as : Accepted → Judgement → Tested
tested_as a (given v) = told a v
tested_as a (denied n line) = refused n line

pub on_state_lem : (k : Test) (d : Known) (a : Accepted) (x : StateTold) → on_state k d a x ≡ tested_as a (judged_of k d a.clauses x)
on_state_lem axioms d a (stated s) = refl
on_state_lem axioms d a (bad line) = refl
on_state_lem axioms d a unread = refl
on_state_lem clauses d a (stated s) = wide (any wide_clause a.clauses)
  where
    wide : (b : Bool) → unless_wide a (clauses_verdict (interpretation_of d s) a.clauses) b ≡ tested_as a (unless_denied (clauses_verdict (interpretation_of d s) a.clauses) b)
    wide true = refl
    wide false = refl
on_state_lem clauses d a (bad line) = refl
on_state_lem clauses d a unread = refl

-- what the code says, with the words v of scratch
abbrev pub said_in : List ℕ → Result (Result (Unit {0}) Broken) Refused → Judgement
said_in v (Ok x) = given (verdict_in v x)
said_in v (Err e) = denied (refusal_number e.refusal) e.line
