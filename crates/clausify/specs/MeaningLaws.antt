-- Demand 3 of the tables that an entry leaves, and the replies of its outcome. Assumes nothing.
use Rattle.std.specs.Prelude.{◌≡◌, refl, true, List, ℕ}
use Rattle.std.proofs.Common.{sym, ap₂, subst}
use Rattle.std.proofs.Math.Option.{Option}
use Prim.{tt}
use Rattle.rules.specs.State.{Clause}
use Rattle.rules.specs.Deck.{Known}
use Rattle.rules.specs.Run.{Lengths, Outcome, Accepted, accepted, refused, Run, clause_table, atom_table}
use Rattle.rules.specs.Semantics.{Interpretation}
use Rattle.rules.specs.Statements.{left_clauses, clauses_of, Proper, all_hold, is_inverse_axiom, satisfies_some, FirstHalf, SecondHalf}
use Rattle.rules.specs.EqualNames.{Models}
use Rattle.meaning.proofs.Theorem.{demand_three_first, demand_three_second}
use Rattle.meaning.proofs.SettledNames.{settled_names, names_of_axiom}
use Rattle.clausify.specs.Reply.{Reply}
use Rattle.clausify.specs.Clausified.{Clausified}
use Rattle.clausify.specs.Entry.{reply_of, count_of, Names, Meaning, Meant, MeantCount}
use Rattle.clausify.specs.Answer.{Answered, count_of_reply}
use Rattle.clausify.specs.RunTabled.{run_read_lem}

-- ---- the names of at-most fillers
models : (t : Lengths) (d : Known) (x : Accepted) (l : List (Option Clause)) (I : Interpretation) → clauses_of t x ≡ l → Proper d I → all_hold I l ≡ true → satisfies_some is_inverse_axiom d I ≡ true → Models t d x I
models t d x l I e P h v = record { proper = P; clauses = subst (λ (k : List (Option Clause)). all_hold I k ≡ true) (sym e) h; inverses = v }

run_names : (deck : List ℕ) (d : Known) (l : List (Option Clause)) → Names deck d l
run_names deck d l = record {
  settled = λ t x axioms s z C e I P h v. settled_names deck t d x axioms s z C I (models t d x l I e P h v);
  of_axiom = λ t x axioms s z C e I P h v k. names_of_axiom deck t d x axioms s z C k I (models t d x l I e P h v);
}

-- ---- an accepted run
pub run_meaning : (deck : List ℕ) (t : Lengths) (x : Accepted) (c a : List ℕ) → Run deck t ≡ accepted x → c ≡ clause_table t (accepted x) → a ≡ atom_table t (accepted x)
    → Meaning deck c a x.stats.total x.fresh_ids x.stats.deferred
run_meaning deck t x c a q e f =
    let R = run_read_lem deck t x q in
    let d = R.0 in
    let same : clauses_of t x ≡ left_clauses x.stats.total c a = sym (ap₂ (λ (y z : List ℕ). left_clauses x.stats.total y z) e f) in
    record {
      known = d;
      read = R.1;
      first = subst (λ (l : List (Option Clause)). FirstHalf d x.fresh_ids l) same (demand_three_first deck t d x R.1 q);
      second = subst (λ (l : List (Option Clause)). SecondHalf d x.fresh_ids x.stats.deferred l) same (demand_three_second deck t d x R.1 q);
      names = run_names deck d (left_clauses x.stats.total c a);
    }

-- ---- an outcome's count
pub count_of_lem : (o : Outcome) → count_of_reply (reply_of o) ≡ count_of o
count_of_lem (accepted x) = refl
count_of_lem (refused n line) = refl

-- ---- demand 3, by the reply and by the count
module _ (deck : List ℕ) (t : Lengths) (c a d : List ℕ) (r : Reply) where
  meant_as : (o : Outcome) → Run deck t ≡ o → Answered o t r c a d → Meant deck c a r
  meant_as (accepted x) q A = subst (Meant deck c a) (sym A.reply) (run_meaning deck t x c a q A.clauses A.atoms)
  meant_as (refused n line) q A = subst (Meant deck c a) (sym A.reply) tt

  pub meant : Answered (Run deck t) t r c a d → Meant deck c a r
  meant A = meant_as (Run deck t) refl A

  count_as : (o : Outcome) → Run deck t ≡ o → Answered o t r c a d → MeantCount deck t c a (count_of o)
  count_as (accepted x) q A = record { run = x; is = q; meaning = run_meaning deck t x c a q A.clauses A.atoms }
  count_as (refused n line) q A = tt

  pub meant_count : (s : Clausified) → s ≡ count_of (Run deck t) → Answered (Run deck t) t r c a d → MeantCount deck t c a s
  meant_count s e A = subst (MeantCount deck t c a) (sym e) (count_as (Run deck t) refl A)
