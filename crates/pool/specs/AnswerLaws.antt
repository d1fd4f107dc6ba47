-- What an equal answer gives a caller. Assumes nothing.
use Rattle.std.specs.Prelude.{◌≡◌, refl, Bool, true, false, ◌||◌, List, [], ◌∷◌, ℕ}
use Rattle.std.proofs.Common.{ap, subst, ◌∙◌, arith}
use Rattle.std.proofs.Math.Option.{Option, none, some}
use Rattle.ir.specs.declared.counters.Counters.{Counters}
use Rattle.ir.specs.Answer.{Done}
use Rattle.rules.specs.Base.{Res, ok, refused, any, is_some}
use Rattle.rules.specs.Concept.{Concept, same_concept}
use Rattle.rules.specs.Pool.{Pool, found_in, find}
use Rattle.rules.specs.Post.{Post, gives, refuses}
use Rattle.pool.specs.Layout.{pool_of}
use Rattle.pool.specs.Answers.{sized, after, shown}
use Rattle.pool.specs.HeldLaws.{pool_length}
use Rattle.pool.specs.Held.{Held}

-- counters with the sizes of their own pool
pub sized_same : (w : List ℕ) (k : Counters) → Held w k.concepts k.members → sized k (pool_of w k.concepts) ≡ k
sized_same w k H = rw (pool_length w k.concepts, ← H.count) refl

-- what holds of the rule's answer holds of the code's
pub after_post : (Q : ℕ → Pool → Type 0) (k k' : Counters) (i : ℕ) (w : List ℕ) (r : Res Pool ℕ) → Post Q r → after (Done k' i) w ≡ shown k r → Q i (pool_of w k'.concepts)
after_post Q k k' i w (ok a p) (gives h) e =
    let x : a ≡ i = cc in
    let y : p ≡ pool_of w k'.concepts = cc in
    subst (λ (o : Pool). Q i o) y (subst (λ (c : ℕ). Q c p) x h)
after_post Q k k' i w (refused n) refuses e = absurd (let z : ◌≡◌ {A = ℕ} 0 1 = cc in omega arith)

-- and its counters are the old ones with the pool's sizes
pub after_sized : (k k' : Counters) (i : ℕ) (w : List ℕ) (r : Res Pool ℕ) → after (Done k' i) w ≡ shown k r → k' ≡ sized k (pool_of w k'.concepts)
after_sized k k' i w (ok a p) e =
    let x : k' ≡ sized k p = cc in
    let y : p ≡ pool_of w k'.concepts = cc in
    x ∙ ap (sized k) y
after_sized k k' i w (refused n) e = absurd (let z : ◌≡◌ {A = ℕ} 0 1 = cc in omega arith)

-- a concept is found where one equals it
pub find_any : (e : Concept) (p : Pool) → is_some (find e p) ≡ any (same_concept e) p
unfolding find
find_any e [] = refl
find_any e (x ∷ p) = go (same_concept e x) (find e p) ∙ ap (λ (b : Bool). same_concept e x || b) (find_any e p)
  where
    go : (t : Bool) (o : Option ℕ) → is_some (found_in t o) ≡ t || is_some o
    go true o = refl
    go false none = refl
    go false (some i) = refl
