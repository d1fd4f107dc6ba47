-- The table of numbers and demand 3 by it, of an outcome. Assumes nothing.
use Rattle.std.specs.Prelude.{◌≡◌, refl, Bool, true, false, List, ℕ, get_or, eqb}
use Rattle.std.proofs.Common.{sym, ap, subst, ◌∙◌, arith, eqb-true}
use Prim.{tt}
use Rattle.words.specs.Words.{words}
use Rattle.rules.specs.Run.{Lengths, Outcome, accepted, refused, Run}
use Rattle.rules.proofs.RunLaws.{run_never_zero}
use Rattle.clausify.specs.Reply.{Reply}
use Rattle.clausify.specs.Entry.{reply_of, Meaning}
use Rattle.clausify.specs.Answer.{Answered, run_if, ten_of}
use Rattle.clausify.specs.MeaningLaws.{run_meaning}
use Rattle.gorvask.specs.Entry.{code_of, numbers_bytes, run_with_numbers, numbers_table, MeantNumbers}
use Rattle.gorvask.specs.Replies.{code_of_reply, numbers_of, NumbersFit, TenWords}

-- ---- an outcome's reply
pub code_of_lem : (o : Outcome) → code_of_reply (reply_of o) ≡ code_of o
code_of_lem (accepted x) = refl
code_of_lem (refused n line) = refl

pub numbers_of_lem : (n : ℕ) (o : Outcome) → numbers_of n (reply_of o) ≡ numbers_table n o
numbers_of_lem n (accepted x) = refl
numbers_of_lem n (refused k line) = refl

pub fit_if : (n : ℕ) (b : Bool) (o : Outcome) → eqb n numbers_bytes ≡ b → NumbersFit n (reply_of (run_if b o))
fit_if n false o e = tt
fit_if n true (accepted x) e = eqb-true n numbers_bytes e
fit_if n true (refused k line) e = tt

pub numbers_fit : (n : ℕ) (deck : List ℕ) (t : Lengths) (r : Reply) → r ≡ reply_of (run_with_numbers n deck t) → NumbersFit n r
numbers_fit n deck t r e = subst (NumbersFit n) (sym e) (fit_if n (eqb n numbers_bytes) (Run deck t) refl)

-- ---- demand 3
module _ (deck : List ℕ) (t : Lengths) (c a d : List ℕ) (r : Reply) (numbers : List ℕ) (T : TenWords (words numbers) r) where
  abbrev Numbered : ℕ → Type 0
  Numbered s = s ≡ 0 → Meaning deck c a (get_or (words numbers) 0 0) (get_or (words numbers) 8 0) (get_or (words numbers) 5 0)

  pub numbered_as : (o : Outcome) → Run deck t ≡ o → Answered o t r c a d → Numbered (code_of o)
  numbered_as (accepted x) q A z =
      let e : words numbers ≡ ten_of _ _ _ = subst (TenWords (words numbers)) A.reply T in
      rw e (run_meaning deck t x c a q A.clauses A.atoms)
  numbered_as (refused n line) q A z =
      let k : n ≡ 0 = omega arith in
      absurd (run_never_zero deck t line (q ∙ ap (λ (m : ℕ). refused m line) k))

  numbered_if : (b : Bool) → Answered (run_if b (Run deck t)) t r c a d → Numbered (code_of (run_if b (Run deck t)))
  numbered_if true A = numbered_as (Run deck t) refl A
  numbered_if false A = λ z. absurd (omega arith)

  pub meant_numbers : (n s : ℕ) → s ≡ code_of (run_with_numbers n deck t) → Answered (run_with_numbers n deck t) t r c a d → MeantNumbers deck c a numbers s
  meant_numbers n s e A = subst Numbered (sym e) (numbered_if (eqb n numbers_bytes) A)
