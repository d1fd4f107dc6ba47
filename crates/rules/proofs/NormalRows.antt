-- The normal form by the rows of the class-expression table of OWL 2 Direct Semantics, in its order: for each row what to_nnf makes of
-- such a concept (.._plain), and what push_negation_in makes of it, which is its complement's (.._complement). Each is an equation
-- over the same two calls on the concept's parts, in the order of its list: answer, pool, visits, and refusals 10 and 11. Assumes
-- nothing.
use Rattle.std.specs.Prelude.{◌≡◌, true, false, length}
use mathlib.Core.List.{List}
use Prim.Native.Nat.{ℕ, zero, suc, ◌<◌}
use Rattle.ir.specs.declared.role.Role.{Role}
use Rattle.rules.specs.Base.{◌>>=◌, ◌>>◌, return, each}
use Rattle.rules.specs.Concept.{Nominal, SelfRestriction, Not, And, Or, Some, All, Min, Max}
use Rattle.rules.specs.Pool.{at, mk_bot, mk_not, mk_some, mk_all, mk_min, mk_max, mk_and, mk_or}
use Rattle.rules.specs.Normalize.{St, visit, in_pool, nnf_step, nnf, nnf_complement}
use Rattle.rules.specs.Invariants.{Bounds, Wf}
use Rattle.rules.proofs.NormalBounds.{row_by}

-- concept c of a well-formed pool
module _ (B : Bounds) (c : ℕ) (s : St) (w : Wf B s.pool) (h : c < length s.pool) where
  -- ---- intersection
  pub intersection_plain : (l : List ℕ) → at s.pool c ≡ And l → nnf c s ≡ (visit >> (each nnf l >>= (λ k. in_pool (mk_and k)))) s
  unfolding nnf_step
  intersection_plain l e = row_by B false c s (And l) w h e

  pub intersection_complement : (l : List ℕ) → at s.pool c ≡ And l → nnf_complement c s ≡ (visit >> (each nnf_complement l >>= (λ k. in_pool (mk_or k)))) s
  unfolding nnf_step
  intersection_complement l e = row_by B true c s (And l) w h e

  -- ---- union
  pub union_plain : (l : List ℕ) → at s.pool c ≡ Or l → nnf c s ≡ (visit >> (each nnf l >>= (λ k. in_pool (mk_or k)))) s
  unfolding nnf_step
  union_plain l e = row_by B false c s (Or l) w h e

  pub union_complement : (l : List ℕ) → at s.pool c ≡ Or l → nnf_complement c s ≡ (visit >> (each nnf_complement l >>= (λ k. in_pool (mk_and k)))) s
  unfolding nnf_step
  union_complement l e = row_by B true c s (Or l) w h e

  -- ---- complement
  pub complement_plain : (d : ℕ) → at s.pool c ≡ Not d → nnf c s ≡ (visit >> nnf_complement d) s
  unfolding nnf_step
  complement_plain d e = row_by B false c s (Not d) w h e

  pub complement_complement : (d : ℕ) → at s.pool c ≡ Not d → nnf_complement c s ≡ (visit >> nnf d) s
  unfolding nnf_step
  complement_complement d e = row_by B true c s (Not d) w h e

  -- ---- individuals
  pub individuals_plain : (i : ℕ) → at s.pool c ≡ Nominal i → nnf c s ≡ (visit >> return c) s
  unfolding nnf_step
  individuals_plain i e = row_by B false c s (Nominal i) w h e

  pub individuals_complement : (i : ℕ) → at s.pool c ≡ Nominal i → nnf_complement c s ≡ (visit >> in_pool (mk_not c)) s
  unfolding nnf_step
  individuals_complement i e = row_by B true c s (Nominal i) w h e

  -- ---- Some
  pub some_plain : (r : Role) (d : ℕ) → at s.pool c ≡ Some r d → nnf c s ≡ (visit >> (nnf d >>= (λ e. in_pool (mk_some r e)))) s
  unfolding nnf_step
  some_plain r d e = row_by B false c s (Some r d) w h e

  pub some_complement : (r : Role) (d : ℕ) → at s.pool c ≡ Some r d → nnf_complement c s ≡ (visit >> (nnf_complement d >>= (λ e. in_pool (mk_all r e)))) s
  unfolding nnf_step
  some_complement r d e = row_by B true c s (Some r d) w h e

  -- ---- All
  pub all_plain : (r : Role) (d : ℕ) → at s.pool c ≡ All r d → nnf c s ≡ (visit >> (nnf d >>= (λ e. in_pool (mk_all r e)))) s
  unfolding nnf_step
  all_plain r d e = row_by B false c s (All r d) w h e

  pub all_complement : (r : Role) (d : ℕ) → at s.pool c ≡ All r d → nnf_complement c s ≡ (visit >> (nnf_complement d >>= (λ e. in_pool (mk_some r e)))) s
  unfolding nnf_step
  all_complement r d e = row_by B true c s (All r d) w h e

  -- ---- Self
  pub self_plain : (r : Role) → at s.pool c ≡ SelfRestriction r → nnf c s ≡ (visit >> return c) s
  unfolding nnf_step
  self_plain r e = row_by B false c s (SelfRestriction r) w h e

  pub self_complement : (r : Role) → at s.pool c ≡ SelfRestriction r → nnf_complement c s ≡ (visit >> in_pool (mk_not c)) s
  unfolding nnf_step
  self_complement r e = row_by B true c s (SelfRestriction r) w h e

  -- ---- Min
  pub min_plain : (n : ℕ) (r : Role) (d : ℕ) → at s.pool c ≡ Min n r d → nnf c s ≡ (visit >> (nnf d >>= (λ e. in_pool (mk_min n r e)))) s
  unfolding nnf_step
  min_plain n r d e = row_by B false c s (Min n r d) w h e

  -- of at least 0: its part is not visited
  pub min_complement_none : (r : Role) (d : ℕ) → at s.pool c ≡ Min zero r d → nnf_complement c s ≡ (visit >> in_pool mk_bot) s
  unfolding nnf_step
  min_complement_none r d e = row_by B true c s (Min zero r d) w h e

  pub min_complement : (n : ℕ) (r : Role) (d : ℕ) → at s.pool c ≡ Min (suc n) r d → nnf_complement c s ≡ (visit >> (nnf d >>= (λ e. in_pool (mk_max n r e)))) s
  unfolding nnf_step
  min_complement n r d e = row_by B true c s (Min (suc n) r d) w h e

  -- ---- Max
  pub max_plain : (n : ℕ) (r : Role) (d : ℕ) → at s.pool c ≡ Max n r d → nnf c s ≡ (visit >> (nnf d >>= (λ e. in_pool (mk_max n r e)))) s
  unfolding nnf_step
  max_plain n r d e = row_by B false c s (Max n r d) w h e

  pub max_complement : (n : ℕ) (r : Role) (d : ℕ) → at s.pool c ≡ Max n r d → nnf_complement c s ≡ (visit >> (nnf d >>= (λ e. in_pool (mk_min (suc n) r e)))) s
  unfolding nnf_step
  max_complement n r d e = row_by B true c s (Max n r d) w h e
