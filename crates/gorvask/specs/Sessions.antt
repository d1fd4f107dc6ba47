-- A session for callers in C: a taking beside a table of numbers, and its clauses' meaning.
use Rattle.std.specs.Prelude.{◌≡◌, refl, Bool, true, false, List, ℕ, eqb, Result, Ok, Err}
use Rattle.std.proofs.Common.{sym, subst, arith}
use Prim.{Unit}
use Rattle.words.specs.Words.{words}
use Rattle.ir.specs.Refusals.{refusal_number}
use Rattle.ir.specs.declared.answer.Refused.{Refused as Refusing}
use Rattle.rules.specs.Run.{Lengths, Outcome, Run}
use Rattle.clausify.specs.Reply.{Reply}
use Rattle.clausify.specs.Entry.{reply_of}
use Rattle.clausify.specs.Answer.{Answered, run_if}
use Rattle.deck.proofs.LineLaws.{refusal_some}
use Rattle.session.specs.Told.{told_said}
use Rattle.session.specs.Session.{Done, code_of_said, deck_in, Holding, holds, no_deck, held_in, take_of, call_take}
use Rattle.session.specs.TakingLaws.{held_is}
use Rattle.gorvask.specs.Entry.{code_of, numbers_bytes, MeantNumbers}
use Rattle.gorvask.specs.Replies.{NumbersFit, TenWords}
use Rattle.gorvask.specs.MeaningLaws.{numbered_as, fit_if}

-- its table of numbers has ten words; any other size is refusal 1
abbrev pub take_with_numbers : ℕ → List ℕ → Lengths → Outcome
take_with_numbers n s t = run_if (eqb n numbers_bytes) (call_take s t)

-- ---- laws
-- no refusal has the number 0
pub code_done : (r : Result (Unit {0}) Refusing) (k : ℕ) → k ≡ code_of_said (told_said r) → k ≡ 0 → told_said r ≡ Done
code_done (Ok _) k e z = refl
code_done (Err r) k e z = let n : refusal_number r.refusal ≡ 0 = omega (arith, e, z) in absurd (refusal_some r.refusal n)

pub taking_fits : (n : ℕ) (s : List ℕ) (t : Lengths) (r : Reply) → r ≡ reply_of (take_with_numbers n s t) → NumbersFit n r
taking_fits n s t r e = subst (NumbersFit n) (sym e) (fit_if n (eqb n numbers_bytes) (call_take s t) refl)

module _ (s : List ℕ) (t : Lengths) (c a d : List ℕ) (r : Reply) (numbers : List ℕ) (T : TenWords (words numbers) r) where
  of_holding : (h : Holding) → held_in s ≡ h → Answered (take_of h t) t r c a d → MeantNumbers (deck_in s) c a numbers (code_of (take_of h t))
  of_holding no_deck q A = λ z. absurd (omega arith)
  of_holding (holds deck k) q A =
      let H = held_is s deck k q in
      subst (λ (l : List ℕ). MeantNumbers l c a numbers (code_of (Run deck t))) H.is (numbered_as deck t c a d r numbers T (Run deck t) refl A)

  meant_if : (b : Bool) → Answered (run_if b (call_take s t)) t r c a d → MeantNumbers (deck_in s) c a numbers (code_of (run_if b (call_take s t)))
  meant_if true A = of_holding (held_in s) refl A
  meant_if false A = λ z. absurd (omega arith)

  pub meant_taking : (n k : ℕ) → k ≡ code_of (take_with_numbers n s t) → Answered (take_with_numbers n s t) t r c a d → MeantNumbers (deck_in s) c a numbers k
  meant_taking n k e A = subst (MeantNumbers (deck_in s) c a numbers) (sym e) (meant_if (eqb n numbers_bytes) A)
