-- normalize.rs: negation normal form. A visit is an entry, with a concept, to to_nnf or push_negation_in; refusal 10 where
-- one would begin beyond the limit.
use Rattle.std.specs.Prelude.{Bool, true, false, ℕ, zero, suc, ◌+◌, ltb}
use Rattle.rules.specs.Base.{Res, ok, refused, then, M, ◌>>=◌, return, refuse, each}
use Rattle.rules.specs.Concept.{Concept, Axiom}
use Rattle.rules.specs.Concept.{Top, Bot, Atomic, Nominal, SelfRestriction, Not, And, Or, Some, All, Min, Max}
use Rattle.rules.specs.Concept.{SubClassOf, EquivalentClasses, DisjointClasses, DisjointUnion, ObjectPropertyDomain, ObjectPropertyRange, SubChain, TransitiveRole, IrreflexiveRole, AsymmetricRole, DisjointObjectProperties, InverseObjectProperties, SubObjectPropertyOf, EquivalentObjectProperties, ReflexiveRole, ClassAssertion}
use Rattle.rules.specs.Pool.{Pool, at, mk_top, mk_bot, mk_not, mk_some, mk_all, mk_min, mk_max, mk_and, mk_or}

-- the pool, the visits so far, and how many may begin
pub record St : Type 0 where
  pub pool : Pool
  pub visits : ℕ
  pub limit : ℕ

abbrev pub N : Type 0 → Type 0
N A = M St A

abbrev pub begun : St → Bool → Res St (Unit {0})
begun s true = ok tt (record { pool = s.pool; visits = s.visits + 1; limit = s.limit })
begun s false = refused 10

unfoldable pub visit : N (Unit {0})
visit s = begun s (ltb s.visits s.limit)

-- a constructor of the pool
abbrev pub back_in : {A : Type 0} → St → Res Pool A → Res St A
back_in s (ok a p) = ok a (record { pool = p; visits = s.visits; limit = s.limit })
back_in s (refused k) = refused k

abbrev pub in_pool : {A : Type 0} → M Pool A → N A
in_pool f s = back_in s (f s.pool)

-- One step of to_nnf, or where the concept is negated of push_negation_in, given what to call for the parts: by the rows of the
-- class-expression table of OWL 2 Direct Semantics, in its order, and in each the concept before its complement.
unfoldable pub nnf_step : Bool → (nnf neg : ℕ → N ℕ) → ℕ → Concept → N ℕ
-- intersection
nnf_step false nnf neg c (And l) = do
  k ← each nnf l
  in_pool (mk_and k)
nnf_step true nnf neg c (And l) = do
  k ← each neg l
  in_pool (mk_or k)
-- union
nnf_step false nnf neg c (Or l) = do
  k ← each nnf l
  in_pool (mk_or k)
nnf_step true nnf neg c (Or l) = do
  k ← each neg l
  in_pool (mk_and k)
-- complement
nnf_step false nnf neg c (Not d) = neg d
nnf_step true nnf neg c (Not d) = nnf d
-- individuals
nnf_step false nnf neg c (Nominal _) = return c
nnf_step true nnf neg c (Nominal _) = in_pool (mk_not c)
-- Some
nnf_step false nnf neg c (Some r d) = do
  e ← nnf d
  in_pool (mk_some r e)
nnf_step true nnf neg c (Some r d) = do
  e ← neg d
  in_pool (mk_all r e)
-- All
nnf_step false nnf neg c (All r d) = do
  e ← nnf d
  in_pool (mk_all r e)
nnf_step true nnf neg c (All r d) = do
  e ← neg d
  in_pool (mk_some r e)
-- Self
nnf_step false nnf neg c (SelfRestriction _) = return c
nnf_step true nnf neg c (SelfRestriction _) = in_pool (mk_not c)
-- Min: the complement of at least 0 is Bot, and its part is not visited
nnf_step false nnf neg c (Min n r d) = do
  e ← nnf d
  in_pool (mk_min n r e)
nnf_step true nnf neg c (Min zero r d) = in_pool mk_bot
nnf_step true nnf neg c (Min (suc n) r d) = do
  e ← nnf d
  in_pool (mk_max n r e)
-- Max
nnf_step false nnf neg c (Max n r d) = do
  e ← nnf d
  in_pool (mk_max n r e)
nnf_step true nnf neg c (Max n r d) = do
  e ← nnf d
  in_pool (mk_min (suc n) r e)
-- Top, Bot and classes, which are no rows of that table
nnf_step false nnf neg c Top = return c
nnf_step true nnf neg c Top = in_pool mk_bot
nnf_step false nnf neg c Bot = return c
nnf_step true nnf neg c Bot = in_pool mk_top
nnf_step false nnf neg c (Atomic _) = return c
nnf_step true nnf neg c (Atomic _) = in_pool (mk_not c)

-- The two, by a bound above the id: a concept's parts have smaller ids.
unfoldable mutual
  pub to_nnf : ℕ → ℕ → N ℕ
  to_nnf zero c = refuse 0
  to_nnf (suc f) c = λ s. then (visit s) (λ _ s₁. nnf_step false (λ d. to_nnf f d) (λ d. push_negation_in f d) c (at s₁.pool c) s₁)

  pub push_negation_in : ℕ → ℕ → N ℕ
  push_negation_in zero c = refuse 0
  push_negation_in (suc f) c = λ s. then (visit s) (λ _ s₁. nnf_step true (λ d. to_nnf f d) (λ d. push_negation_in f d) c (at s₁.pool c) s₁)

-- to_nnf, or push_negation_in where the concept is negated
abbrev pub nnf_by : Bool → ℕ → ℕ → N ℕ
nnf_by false f c = to_nnf f c
nnf_by true f c = push_negation_in f c

-- a concept's normal form, and nnf_complement
abbrev pub nnf : ℕ → N ℕ
nnf c = to_nnf (suc c) c

abbrev pub nnf_complement : ℕ → N ℕ
nnf_complement c = push_negation_in (suc c) c

unfoldable pub nnf_axiom : Axiom → N Axiom
nnf_axiom (SubClassOf sub sup) = do
  a ← nnf sub
  b ← nnf sup
  return (SubClassOf a b)
nnf_axiom (EquivalentClasses l) = do
  k ← each nnf l
  return (EquivalentClasses k)
nnf_axiom (DisjointClasses l) = do
  k ← each nnf l
  return (DisjointClasses k)
nnf_axiom (DisjointUnion a l) = do
  k ← each nnf l
  return (DisjointUnion a k)
nnf_axiom (ObjectPropertyDomain r c) = do
  d ← nnf c
  return (ObjectPropertyDomain r d)
nnf_axiom (ObjectPropertyRange r c) = do
  d ← nnf c
  return (ObjectPropertyRange r d)
nnf_axiom (SubChain sup parts) = return (SubChain sup parts)
nnf_axiom (TransitiveRole r) = return (TransitiveRole r)
nnf_axiom (IrreflexiveRole r) = return (IrreflexiveRole r)
nnf_axiom (AsymmetricRole r) = return (AsymmetricRole r)
nnf_axiom (DisjointObjectProperties l) = return (DisjointObjectProperties l)
nnf_axiom (InverseObjectProperties r s) = return (InverseObjectProperties r s)
nnf_axiom (SubObjectPropertyOf r s) = return (SubObjectPropertyOf r s)
nnf_axiom (EquivalentObjectProperties l) = return (EquivalentObjectProperties l)
nnf_axiom (ReflexiveRole r) = return (ReflexiveRole r)
nnf_axiom (ClassAssertion c i) = nnf c >>= (λ d. return (ClassAssertion d i))
