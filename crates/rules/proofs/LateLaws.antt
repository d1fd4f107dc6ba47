-- The passes after the last axiom: all clauses stay within the bounds, with at most one fresh class for each clause, and no
-- bound of theirs is too small. Assumes nothing.
use Rattle.std.specs.Prelude.{◌≡◌, Bool, true, false, List, [], ◌∷◌, ◌++◌, ℕ, ◌+◌, ◌≤◌, ◌<◌, length}
use Rattle.std.proofs.Common.{◌∙◌, arith}
use Rattle.rules.specs.Concept.{Axiom}
use Rattle.rules.specs.State.{Env, Out, Deferred}
use Rattle.rules.specs.Reflexive.{reflexive_role_ids}
use Rattle.rules.specs.Run.{reflexive_passes, decomposition, late_passes}
use Rattle.rules.specs.Invariants.{Each, Bounds, ClauseIn}
use Rattle.rules.specs.Ends.{Ends, end, ends_then, ends_map}
use Rattle.rules.proofs.EmitLaws.{clause_more}
use Rattle.rules.proofs.BoundLaws.{clauses_grow}
use Rattle.rules.specs.Added.{Roomy, Added, added_none, added_then, added_all, added_map}
use Rattle.rules.proofs.ReflexiveLaws.{reflexive_in, loops_in}
use Rattle.rules.proofs.BranchLaws.{decompose_in}

pub passes_in : (env : Env) (set : List ℕ) (B : Bounds) (fresh vars : ℕ) (s : Out) → Each (ClauseIn B fresh vars) s.clauses
    → Ends (λ _ t. Added env (ClauseIn B fresh (vars + 1)) s t) (reflexive_passes env set s)
passes_in env [] B fresh vars s h = end (added_none env (ClauseIn B fresh (vars + 1)) s)
passes_in env (r ∷ set) B fresh vars s h =
    ends_then (reflexive_in env (r ∷ set) B fresh vars s h) (λ _ t a.
    ends_map (loops_in env (r ∷ set) B fresh vars t (added_all a h)) (λ _ u b.
    added_then env (ClauseIn B fresh (vars + 1)) (added_map (clause_more {B = B} (omega arith) (omega arith)) a) b))

pub record Late (env : Env) (B : Bounds) (vars : ℕ) (s : Out) (n : ℕ) (t : Out) : Type 0 where
  pub all_in : Each (ClauseIn B t.next_fresh vars) t.clauses
  pub counted : n ≤ length t.clauses
  pub fresh : s.next_fresh ≤ t.next_fresh
  pub names : t.next_fresh ≤ s.next_fresh + length t.clauses
  pub deferring : List Deferred
  pub deferrals : t.deferrals ≡ s.deferrals ++ deferring
  pub deferring_at : Each (λ d. d.line ≡ s.line) deferring
  pub same_visits : t.visits ≡ s.visits
  pub same_limit : t.limit ≡ s.limit
  pub same_line : t.line ≡ s.line
  pub roomy : Roomy env s → Roomy env t

pub late_in : (env : Env) (axioms : List Axiom) (wide : Bool) (B : Bounds) (vars vars' : ℕ) (s : Out) → vars < vars' → 513 ≤ vars' → Each (ClauseIn B s.next_fresh vars) s.clauses
    → Ends (Late env B vars' s) (late_passes env axioms wide s)
unfolding late_passes
late_in env axioms wide B vars vars' s h k p =
    ends_then (passes_in env (reflexive_role_ids env axioms) B s.next_fresh vars s p) (λ _ t a.
    go wide t a (clauses_grow B (omega (arith, a.same_fresh)) (omega arith) t.clauses (added_all a (clauses_grow B (omega arith) (omega arith) s.clauses p))))
  where
    go : (b : Bool) (t : Out) → Added env (ClauseIn B s.next_fresh (vars + 1)) s t → Each (ClauseIn B t.next_fresh vars') t.clauses → Ends (Late env B vars' s) (decomposition env b t)
    go false t a q = end (record {
      all_in = q;
      counted = omega arith;
      fresh = omega (arith, a.same_fresh);
      names = omega (arith, a.same_fresh);
      deferring = a.deferring;
      deferrals = a.deferrals;
      deferring_at = a.deferring_at;
      same_visits = a.same_visits;
      same_limit = a.same_limit;
      same_line = a.same_line;
      roomy = a.roomy;
    })
    go true t a q = ends_map (decompose_in B vars' env t k q) (λ n u d. record {
      all_in = d.all_in;
      counted = omega (arith, d.parts.counted, d.parts.many);
      fresh = omega (arith, a.same_fresh, d.parts.fresh);
      names = omega (arith, a.same_fresh, d.parts.fresh, d.parts.many);
      deferring = a.deferring;
      deferrals = d.parts.same_deferrals ∙ a.deferrals;
      deferring_at = a.deferring_at;
      same_visits = d.parts.same_visits ∙ a.same_visits;
      same_limit = d.parts.same_limit ∙ a.same_limit;
      same_line = d.parts.same_line ∙ a.same_line;
      roomy = λ r. record { clauses = d.parts.room_clauses; atoms = d.parts.room_atoms; deferrals = rw d.parts.same_deferrals (a.roomy r).deferrals };
    })
