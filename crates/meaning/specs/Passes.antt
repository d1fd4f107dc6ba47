-- What a pass over the clauses means that appends only clauses which follow from those before it, some roles being reflexive.
-- Assumes nothing.
use Rattle.std.specs.Prelude.{◌≡◌, List, [], ◌∷◌, ◌++◌, ℕ, ◌≤◌, length}
use Rattle.std.proofs.Common.{ap, ◌∙◌, append_assoc, le_trans, arith, length-append}
use Rattle.rules.specs.State.{Env, Out, Clause}
use Rattle.rules.specs.Invariants.{Each}
use Rattle.rules.specs.Added.{Added, added_all}
use Rattle.rules.specs.Semantics.{Interpretation, with_classes}
use Rattle.meaning.specs.Choices.{Follows}
use Rattle.meaning.specs.Valuations.{Valuation, ClauseUnder, each_of_lem}
use Rattle.meaning.specs.ReflexiveSet.{Reflexive}

-- ---- a clause that follows from the clauses of l where the roles of the set are reflexive, and names no class beyond theirs
pub record Due (set : List ℕ) (l : List Clause) (c : Clause) : Type 0 where
  pub from : (I : Interpretation) → Each (Reflexive I) set → Each (Follows I) l → Follows I c
  pub under : (n : ℕ) → Each (ClauseUnder n) l → ClauseUnder n c

-- what a pass from s to t means, for any sets of the classes
pub record PassMeans (set : List ℕ) (s t : Out) : Type 0 where
  pub new : List Clause
  pub grown : t.clauses ≡ s.clauses ++ new
  pub fresh : t.next_fresh ≡ s.next_fresh
  pub defers : length s.deferrals ≤ length t.deferrals
  pub follow : (I : Interpretation) → Each (Reflexive I) set → (k : Valuation) → Each (Follows (with_classes I k)) s.clauses → Each (Follows (with_classes I k)) t.clauses
  pub under : (n : ℕ) → Each (ClauseUnder n) s.clauses → Each (ClauseUnder n) t.clauses

module _ (set : List ℕ) where
  -- one pass after another
  pub pass_then : {s t u : Out} → PassMeans set s t → PassMeans set t u → PassMeans set s u
  pass_then {s} {t} {u} A D = record {
    new = A.new ++ D.new;
    grown = D.grown ∙ ap (λ z. z ++ D.new) A.grown ∙ append_assoc s.clauses A.new D.new;
    fresh = D.fresh ∙ A.fresh;
    defers = le_trans A.defers D.defers;
    follow = λ I h k c. D.follow I h k (A.follow I h k c);
    under = λ n c. D.under n (A.under n c);
  }

  due_more : (a : Clause) (l : List Clause) (c : Clause) → Due set l c → Due set (a ∷ l) c
  due_more a l c d = record { from = λ I h u. d.from I h u.1; under = λ n u. d.under n u.1 }

  pub due_own : (l : List Clause) → Each (Due set l) l
  due_own [] = tt
  due_own (a ∷ l) = (record { from = λ I h u. u.0; under = λ n u. u.0 }, each_of_lem (due_more a l) l (due_own l))

  pub due_means : (env : Env) (s t : Out) → Added env (Due set s.clauses) s t → PassMeans set s t
  due_means env s t A =
      let d : Each (Due set s.clauses) t.clauses = added_all A (due_own s.clauses) in
      record {
        new = A.new;
        grown = A.clauses;
        fresh = A.same_fresh;
        defers = rw A.deferrals (simp length-append (omega arith));
        follow = λ I h k u. each_of_lem (λ c e. e.from (with_classes I k) h u) t.clauses d;
        under = λ n u. each_of_lem (λ c e. e.under n u) t.clauses d;
      }
