-- One step of the two rules as the three of Steps: the visited parts, each one's normal form, and the concept made of them.
-- Assumes nothing.
use Rattle.std.specs.Prelude.{◌≡◌, Bool, List, [], ◌∷◌}
use Rattle.std.proofs.Math.Path.{refl}
use Rattle.std.proofs.Common.{◌∙◌}
use Rattle.std.proofs.Math.Bool.{true, false}
use Prim.Native.Nat.{ℕ, zero, suc}
use Rattle.rules.specs.Base.{Res, ok, refused, then, return, each}
use Rattle.rules.specs.Concept.{Concept}
use Rattle.rules.specs.Concept.{Top, Bot, Atomic, Nominal, SelfRestriction, Not, And, Or, Some, All, Min, Max}
use Rattle.rules.specs.Pool.{at}
use Rattle.rules.specs.Normalize.{St, N, visit, in_pool, nnf_step, to_nnf, push_negation_in, nnf_by}
use Rattle.rebuilding.specs.Steps.{visited_parts, part_negated, rebuilt}

-- the same rest after the same answer
then_same : {A C : Type 0} (r : Res St A) (f g : A → N C) → ((a : A) (t : St) → f a t ≡ g a t) → then r f ≡ then r g
then_same (ok a t) f g h = h a t
then_same (refused k) f g h = refl

-- a list of one part
one_part : (g : ℕ → N ℕ) (d : ℕ) (t : St) (h : List ℕ → N ℕ) → then (g d t) (λ y. h (y ∷ [])) ≡ then (each g (d ∷ []) t) h
unfolding each
one_part g d t h = go (g d t)
  where
    go : (r : Res St ℕ) → then r (λ y. h (y ∷ [])) ≡ then (then r (λ y u. then (return [] u) (λ k. return (y ∷ k)))) h
    go (ok y u) = refl
    go (refused k) = refl

-- and its normal form itself
part_alone : (g : ℕ → N ℕ) (d : ℕ) (t : St) → g d t ≡ then (g d t) (λ y. in_pool (return y))
part_alone g d t = go (g d t)
  where
    go : (r : Res St ℕ) → r ≡ then r (λ y. in_pool (return y))
    go (ok y u) = refl
    go (refused k) = refl

module _ (f c : ℕ) (t : St) where
  -- what is made of the parts' normal forms
  abbrev by : Bool → Concept → Res St ℕ
  by b e = then (each (λ d. nnf_by (part_negated b e) f d) (visited_parts b e) t) (λ l. in_pool (rebuilt b c e l))

  nnf_parts : (e : Concept) → nnf_step false (λ d. to_nnf f d) (λ d. push_negation_in f d) c e t ≡ by false e
  unfolding nnf_step each
  nnf_parts Top = refl
  nnf_parts Bot = refl
  nnf_parts (Atomic _) = refl
  nnf_parts (Nominal _) = refl
  nnf_parts (SelfRestriction _) = refl
  nnf_parts (Not d) = part_alone (λ d. push_negation_in f d) d t ∙ one_part (λ d. push_negation_in f d) d t (λ l. in_pool (rebuilt false c (Not d) l))
  nnf_parts (And l) = refl
  nnf_parts (Or l) = refl
  nnf_parts (Some r d) = one_part (λ d. to_nnf f d) d t (λ l. in_pool (rebuilt false c (Some r d) l))
  nnf_parts (All r d) = one_part (λ d. to_nnf f d) d t (λ l. in_pool (rebuilt false c (All r d) l))
  nnf_parts (Min n r d) = one_part (λ d. to_nnf f d) d t (λ l. in_pool (rebuilt false c (Min n r d) l))
  nnf_parts (Max n r d) = one_part (λ d. to_nnf f d) d t (λ l. in_pool (rebuilt false c (Max n r d) l))

  negation_parts : (e : Concept) → nnf_step true (λ d. to_nnf f d) (λ d. push_negation_in f d) c e t ≡ by true e
  unfolding nnf_step each
  negation_parts Top = refl
  negation_parts Bot = refl
  negation_parts (Atomic _) = refl
  negation_parts (Nominal _) = refl
  negation_parts (SelfRestriction _) = refl
  negation_parts (Not d) = part_alone (λ d. to_nnf f d) d t ∙ one_part (λ d. to_nnf f d) d t (λ l. in_pool (rebuilt true c (Not d) l))
  negation_parts (And l) = refl
  negation_parts (Or l) = refl
  negation_parts (Some r d) = one_part (λ d. push_negation_in f d) d t (λ l. in_pool (rebuilt true c (Some r d) l))
  negation_parts (All r d) = one_part (λ d. push_negation_in f d) d t (λ l. in_pool (rebuilt true c (All r d) l))
  negation_parts (Min zero r d) = refl
  negation_parts (Min (suc n) r d) = one_part (λ d. to_nnf f d) d t (λ l. in_pool (rebuilt true c (Min (suc n) r d) l))
  negation_parts (Max n r d) = one_part (λ d. to_nnf f d) d t (λ l. in_pool (rebuilt true c (Max n r d) l))

-- one step, after its visit
abbrev pub step_by : Bool → ℕ → ℕ → N ℕ
step_by b f c t = then (each (λ d. nnf_by (part_negated b (at t.pool c)) f d) (visited_parts b (at t.pool c)) t) (λ l. in_pool (rebuilt b c (at t.pool c) l))

pub nnf_by_lem : (b : Bool) (f c : ℕ) (s : St) → nnf_by b (suc f) c s ≡ then (visit s) (λ _. step_by b f c)
unfolding to_nnf
nnf_by_lem false f c s = then_same (visit s) (λ _ t. nnf_step false (λ d. to_nnf f d) (λ d. push_negation_in f d) c (at t.pool c) t) (λ _. step_by false f c) (λ _ t. nnf_parts f c t (at t.pool c))
nnf_by_lem true f c s = then_same (visit s) (λ _ t. nnf_step true (λ d. to_nnf f d) (λ d. push_negation_in f d) c (at t.pool c) t) (λ _. step_by true f c) (λ _ t. negation_parts f c t (at t.pool c))
