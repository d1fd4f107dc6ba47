-- The two passes over reflexive roles together: they add only clauses that follow from those before them. Assumes nothing.
use Rattle.std.specs.Prelude.{◌≡◌, Bool, true, List, [], ◌∷◌, ℕ}
use Rattle.rules.specs.Base.{all}
use Rattle.rules.specs.Concept.{Axiom}
use Rattle.rules.specs.Pool.{Pool}
use Rattle.rules.specs.Inverse.{inverse_canon_of}
use Rattle.rules.specs.State.{Env, Out}
use Rattle.rules.specs.Reflexive.{reflexive_role_ids}
use Rattle.rules.specs.Run.{reflexive_passes}
use Rattle.rules.specs.Post.{Post, post_then, post_map, give}
use Rattle.rules.specs.Invariants.{Each}
use Rattle.rules.specs.Semantics.{Interpretation, with_classes, satisfied}
use Rattle.meaning.specs.Choices.{Follows}
use Rattle.meaning.specs.Valuations.{Valuation}
use Rattle.meaning.specs.ReflexiveSet.{own_reflexive}
use Rattle.rules.specs.Added.{added_none}
use Rattle.meaning.specs.Passes.{Due, PassMeans, pass_then, due_means}
use Rattle.meaning.specs.Unfolding.{unfold_means}
use Rattle.meaning.specs.Loops.{loops_means}

pub passes_mean : (env : Env) (set : List ℕ) (s : Out) → Post (λ _ t. PassMeans set s t) (reflexive_passes env set s)
passes_mean env [] s = give (due_means [] env s s (added_none env (Due [] s.clauses) s))
passes_mean env (r ∷ set) s = post_then (unfold_means env (r ∷ set) s) (λ _ t A. post_map (loops_means env (r ∷ set) t) (λ _ u D. pass_then (r ∷ set) A D))

-- over the axioms that the map of inverses is made of, where they are satisfied
pub own_follow : (I : Interpretation) (far : Bool) (env : Env) (p : Pool) (axioms : List Axiom) → env.inverse_canon ≡ inverse_canon_of far axioms → all (satisfied I p) axioms ≡ true
    → (s t : Out) → PassMeans (reflexive_role_ids env axioms) s t
    → (k : Valuation) → Each (Follows (with_classes I k)) s.clauses → Each (Follows (with_classes I k)) t.clauses
own_follow I far env p axioms e h s t A = A.follow I (own_reflexive I far env p axioms e h)
