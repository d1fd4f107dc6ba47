-- Self-loops of counted reflexive roles: the pass adds only clauses whose one head atom always holds. Assumes nothing.
use Rattle.std.specs.Prelude.{◌≡◌, refl, true, List, [], ◌∷◌, ◌++◌, ℕ}
use Rattle.ir.specs.Roles.{role_id}
use Rattle.ir.specs.declared.role.Role.{Role}
use Rattle.ir.specs.declared.atom.Atom.{Atom}
use Rattle.ir.specs.declared.atom.Atom.TheVariants.{Role as RoleAtom}
use Rattle.rules.specs.Base.{contains}
use Rattle.rules.specs.State.{Env, Out, Clause, clause}
use Rattle.rules.specs.Post.{Post}
use Rattle.rules.specs.Semantics.{Interpretation}
use Rattle.rules.specs.Reflexive.{next_var_of, add_counted_self_loops}
use Rattle.rules.specs.Ends.{ends_post, ends_map}
use Rattle.rules.proofs.ReflexiveLaws.{loop_clause, Loops, loops_add}
use Rattle.rules.specs.EachLaws.{each_append}
use Rattle.meaning.specs.Choices.{Follows}
use Rattle.meaning.specs.Valuations.{AtomUnder}
use Rattle.meaning.specs.ReflexiveSet.{Reflexive, each_contains}
use Rattle.meaning.specs.Unfolding.{self_related}
use Rattle.meaning.specs.Passes.{Due, PassMeans, due_own, due_means}

-- a self-pair of a reflexive role holds whatever the body says
pub loop_follows : (I : Interpretation) (b : List Atom) (r : Role) (v : ℕ) → Reflexive I (role_id r) → Follows I (clause b (RoleAtom r v v ∷ []))
loop_follows I b r v h = record { follows = λ f c _. rw (self_related I r h (f v) (f v) refl (c v)) }

pub loop_due : (set : List ℕ) (l : List Clause) (c : Clause) (r : Role) (v : ℕ) → contains set (role_id r) ≡ true → Due set l c → Due set l (loop_clause c r v)
loop_due set l c r v e d = record {
  from = λ I h u. loop_follows I (c.body ++ (RoleAtom r v (next_var_of c) ∷ [])) r v (each_contains (Reflexive I) set (role_id r) h e);
  under = λ n u. record { body = each_append (AtomUnder n) c.body (RoleAtom r v (next_var_of c) ∷ []) (d.under n u).body (tt, tt); head = (tt, tt) };
}

pub loops_due : (env : Env) (set : List ℕ) (l : List Clause) → Loops env set (Due set l) (Due set l)
loops_due env set l c _ _ r _ _ v _ i _ d = loop_due set l c r v i d

pub loops_means : (env : Env) (set : List ℕ) (s : Out) → Post (λ _ t. PassMeans set s t) (add_counted_self_loops env set s)
loops_means env set s =
    let P = Due set s.clauses in
    ends_post (ends_map (loops_add env set P P (loops_due env set s.clauses) s (due_own set s.clauses)) (λ _ t A. due_means set env s t A))
