-- No bound of the normal form is too small: the pool's constructors, to_nnf, push_negation_in and the loop over the axioms
-- never refuse by 0, over a pool whose records name earlier ids. Assumes nothing.
use Rattle.std.specs.Prelude.{Bool, ◌&&◌, length, ltb, leb}
use Rattle.std.proofs.Math.Bool.{true, false}
use mathlib.Core.List.{List, [], ◌∷◌}
use Rattle.std.proofs.Math.Option.{Option, none, some}
use Prim.Native.Nat.{ℕ, zero, suc, ◌+◌, ◌<◌, ◌≤◌}
use Rattle.std.proofs.Common.{not-suc-le-zero, arith}
use Rattle.ir.specs.declared.role.Role.{Role}
use Rattle.rules.specs.Base.{Res, ok, then, each}
use Rattle.rules.specs.Text.{most_number}
use Rattle.rules.specs.Concept.{Concept, Axiom}
use Rattle.rules.specs.Concept.{Top, Bot, Atomic, Nominal, SelfRestriction, Not, And, Or, Some, All, Min, Max}
use Rattle.rules.specs.Concept.{SubClassOf, EquivalentClasses, DisjointClasses, DisjointUnion, ObjectPropertyDomain, ObjectPropertyRange, SubChain, TransitiveRole, IrreflexiveRole, AsymmetricRole, DisjointObjectProperties, InverseObjectProperties, SubObjectPropertyOf, EquivalentObjectProperties, ReflexiveRole, ClassAssertion}
use Rattle.rules.specs.Pool.{Pool, at, most_concepts, most_members, find, width, members, room, interned, intern_raw, mk_min, flattened, any_annihilates, and_operand, or_operand, sort_dedup, collapsed, and_of, or_of, mk_and, mk_or}
use Rattle.rules.specs.Normalize.{St, N, begun, visit, back_in, in_pool, nnf_step, to_nnf, push_negation_in, nnf_axiom}
use Rattle.rules.specs.Run.{nnf_axioms}
use Rattle.rules.specs.Post.{Post, gives, refuses}
use Rattle.rules.specs.Ends.{NotZero, Ends, ends, stops, end, stop, ends_then, ends_map, ends_not_zero}
use Rattle.rules.specs.LinedEnds.{LinedEnds, lined_ends, lined_ends_then, lined_ends_both, lined_ends_map, close}
use Rattle.rules.specs.Invariants.{Each, Bounds, RoleIn, Bounded, Wf, Grown, Made, AxiomIn}
use Rattle.rules.specs.JointLaws.{Joint, conj, disj, mk_joint}
use Rattle.rules.specs.PoolLaws.{grown_refl, grown_trans, grown_length, below_more, intern_made, min_made, joint_made}
use Rattle.rules.proofs.NormalizeLaws.{AxiomMade, nnf_axiom_made, axioms_more, AxiomsMade, nnf_axioms_made}

-- ---- the pool's constructors refuse by 11 alone
pub ends_of : {S A : Type 0} {Q : A → S → Type 0} {r : Res S A} → Post Q r → NotZero r → Ends Q r
ends_of (gives h) n = ends h
ends_of refuses n = stops n

pub intern_not_zero : (e : Concept) (p : Pool) → NotZero (intern_raw e p)
unfolding intern_raw
intern_not_zero e p = found (find e p)
  where
    fits : (b : Bool) → NotZero (room e p b)
    fits true = tt
    fits false = omega arith

    found : (o : Option ℕ) → NotZero (interned e p o)
    found (some i) = tt
    found none = fits (ltb (length p) most_concepts && leb (members p + width e) most_members)

collapsed_not_zero : (unit : Concept) (list : List ℕ → Concept) (l : List ℕ) (p : Pool) → NotZero (collapsed unit list l p)
collapsed_not_zero unit list [] p = intern_not_zero unit p
collapsed_not_zero unit list (a ∷ []) p = tt
collapsed_not_zero unit list (a ∷ b ∷ l) p = intern_not_zero (list (a ∷ b ∷ l)) p

joint_not_zero : (j : Joint) (args : List ℕ) (p : Pool) → NotZero (mk_joint j args p)
unfolding mk_and mk_or
joint_not_zero conj args p = go (flattened (λ a. and_operand (at p a)) args) (any_annihilates (λ a. and_operand (at p a)) args)
  where
    go : (l : List ℕ) (b : Bool) → NotZero (and_of l b p)
    go l true = intern_not_zero Bot p
    go l false = collapsed_not_zero Top And (sort_dedup l) p
joint_not_zero disj args p = go (flattened (λ a. or_operand (at p a)) args) (any_annihilates (λ a. or_operand (at p a)) args)
  where
    go : (l : List ℕ) (b : Bool) → NotZero (or_of l b p)
    go l true = intern_not_zero Top p
    go l false = collapsed_not_zero Bot Or (sort_dedup l) p

min_not_zero : (n : ℕ) (r : Role) (c : ℕ) (p : Pool) → NotZero (mk_min n r c p)
unfolding mk_min
min_not_zero zero r c p = intern_not_zero Top p
min_not_zero (suc n) r c p = intern_not_zero (Min (suc n) r c) p

-- ---- an id of the pool after a run, and a list of them
abbrev pub MadeIn : Bounds → St → ℕ → St → Type 0
MadeIn B s i t = Made B s.pool i t.pool

pub record AllMade (B : Bounds) (s : St) (l : List ℕ) (t : St) : Type 0 where
  pub grows : Grown s.pool t.pool
  pub wf : Wf B t.pool
  pub held : Each (λ i. i < length t.pool) l

module _ (B : Bounds) where
  pool_ends : (s : St) {r : Res Pool ℕ} → Ends (Made B s.pool) r → Ends (MadeIn B s) (back_in s r)
  pool_ends s (ends M) = ends M
  pool_ends s (stops n) = stops n

  module _ (s : St) (w : Wf B s.pool) where
    intern_ends : (e : Concept) → Bounded B (length s.pool) e → Ends (MadeIn B s) (in_pool (intern_raw e) s)
    intern_ends e b = pool_ends s (ends_of (intern_made B e s.pool w b) (intern_not_zero e s.pool))

    min_ends : (n : ℕ) (r : Role) (c : ℕ) → n ≤ most_number → RoleIn B r → c < length s.pool → Ends (MadeIn B s) (in_pool (mk_min n r c) s)
    min_ends n r c m k h = pool_ends s (ends_of (min_made B s.pool w n r c m k h) (min_not_zero n r c s.pool))

    pub joint_ends : (j : Joint) (l : List ℕ) → Each (λ a. a < length s.pool) l → Ends (MadeIn B s) (in_pool (mk_joint j l) s)
    joint_ends j l h = pool_ends s (ends_of (joint_made B s.pool w j l h) (joint_not_zero j l s.pool))

  after : {p q : Pool} {r : Res St ℕ} → Grown p q → Ends (λ i t. Made B q i t.pool) r → Ends (λ i t. Made B p i t.pool) r
  after G h = ends_map h (λ i u M. record { grows = grown_trans G M.grows; wf = M.wf; held = M.held })

  -- ---- the steps
  -- f answers for an id below n
  abbrev pub Acts : (ℕ → N ℕ) → ℕ → Type 0
  Acts f n = (c : ℕ) → c < n → (s : St) → Wf B s.pool → c < length s.pool → Ends (MadeIn B s) (f c s)

  pub each_ends : (f : ℕ → N ℕ) (n : ℕ) → Acts f n → (l : List ℕ) → Each (λ c. c < n) l → (s : St) → Wf B s.pool → Each (λ c. c < length s.pool) l
      → Ends (AllMade B s) (each f l s)
  unfolding each
  each_ends f n act [] b s w h = end (record { grows = grown_refl s.pool; wf = w; held = tt })
  each_ends f n act (a ∷ l) b s w h =
      ends_then (act a b.0 s w h.0) (λ k t M.
      ends_then (each_ends f n act l b.1 t M.wf (below_more (grown_length M.grows) l h.1)) (λ ks u A.
      end (record { grows = grown_trans M.grows A.grows; wf = A.wf; held = (omega (arith, M.held, grown_length A.grows), A.held) })))

  module _ (nnf neg : ℕ → N ℕ) (n : ℕ) (keep : Acts nnf n) (turn : Acts neg n) (s : St) (w : Wf B s.pool) (inside : n ≤ length s.pool) where
    -- of a part, and of a list
    part : {f : ℕ → N ℕ} {g : ℕ → N ℕ} → Acts f n → (d : ℕ) → d < n → ((e : ℕ) (t : St) → Wf B t.pool → e < length t.pool → Ends (MadeIn B t) (g e t))
        → Ends (MadeIn B s) (then (f d s) g)
    part act d h k = ends_then (act d h s w (omega arith)) (λ e t M. after M.grows (k e t M.wf M.held))

    parts : {f : ℕ → N ℕ} → Acts f n → (j : Joint) (l : List ℕ) → Each (λ c. c < n) l → Ends (MadeIn B s) (then (each f l s) (λ k. in_pool (mk_joint j k)))
    parts {f} act j l b = ends_then (each_ends f n act l b s w (below_more inside l b)) (λ k t A. after A.grows (joint_ends t A.wf j k A.held))

    stays : (c : ℕ) → c < length s.pool → Ends (MadeIn B s) (ok c s)
    stays c h = end (record { grows = grown_refl s.pool; wf = w; held = h })

    nnf_step_lem : (c : ℕ) → c < length s.pool → (e : Concept) → Bounded B n e → Ends (MadeIn B s) (nnf_step false nnf neg c e s)
    unfolding nnf_step
    nnf_step_lem c h Top b = stays c h
    nnf_step_lem c h Bot b = stays c h
    nnf_step_lem c h (Atomic _) b = stays c h
    nnf_step_lem c h (Nominal _) b = stays c h
    nnf_step_lem c h (SelfRestriction _) b = stays c h
    nnf_step_lem c h (Not a) b = turn a b s w (omega arith)
    nnf_step_lem c h (And l) b = parts keep conj l b
    nnf_step_lem c h (Or l) b = parts keep disj l b
    nnf_step_lem c h (Some r a) b = part keep a b.1 (λ i t w₁ k. intern_ends t w₁ (Some r i) (b.0, k))
    nnf_step_lem c h (All r a) b = part keep a b.1 (λ i t w₁ k. intern_ends t w₁ (All r i) (b.0, k))
    nnf_step_lem c h (Min x r a) b = part keep a b.2 (λ i t w₁ k. min_ends t w₁ x r i b.0 b.1 k)
    nnf_step_lem c h (Max x r a) b = part keep a b.2 (λ i t w₁ k. intern_ends t w₁ (Max x r i) (b.0, b.1, k))

    negation_step_lem : (c : ℕ) → c < length s.pool → (e : Concept) → Bounded B n e → Ends (MadeIn B s) (nnf_step true nnf neg c e s)
    unfolding nnf_step
    negation_step_lem c h Top b = intern_ends s w Bot tt
    negation_step_lem c h Bot b = intern_ends s w Top tt
    negation_step_lem c h (Atomic _) b = intern_ends s w (Not c) h
    negation_step_lem c h (Nominal _) b = intern_ends s w (Not c) h
    negation_step_lem c h (SelfRestriction _) b = intern_ends s w (Not c) h
    negation_step_lem c h (Not a) b = keep a b s w (omega arith)
    negation_step_lem c h (And l) b = parts turn disj l b
    negation_step_lem c h (Or l) b = parts turn conj l b
    negation_step_lem c h (Some r a) b = part turn a b.1 (λ i t w₁ k. intern_ends t w₁ (All r i) (b.0, k))
    negation_step_lem c h (All r a) b = part turn a b.1 (λ i t w₁ k. intern_ends t w₁ (Some r i) (b.0, k))
    negation_step_lem c h (Min zero r a) b = intern_ends s w Bot tt
    negation_step_lem c h (Min (suc x) r a) b = part keep a b.2 (λ i t w₁ k. intern_ends t w₁ (Max x r i) (b.0, b.1, k))
    negation_step_lem c h (Max x r a) b = part keep a b.2 (λ i t w₁ k. min_ends t w₁ (suc x) r i b.0 b.1 k)

  -- a visit refuses by 10 alone
  visit_ends : (s : St) (f : Unit {0} → N ℕ) → Ends (MadeIn B s) (f tt (record { pool = s.pool; visits = s.visits + 1; limit = s.limit })) → Ends (MadeIn B s) (then (visit s) f)
  unfolding visit
  visit_ends s f h = go (ltb s.visits s.limit)
    where
      go : (b : Bool) → Ends (MadeIn B s) (then (begun s b) f)
      go true = h
      go false = stop 9

  -- ---- the two, for every bound on the ids
  pub nnf_ends : (f : ℕ) → Acts (to_nnf f) f × Acts (push_negation_in f) f
  unfolding to_nnf
  nnf_ends zero = (λ c h. absurd (not-suc-le-zero h), λ c h. absurd (not-suc-le-zero h))
  nnf_ends (suc f) = go (nnf_ends f)
    where
      go : Acts (to_nnf f) f × Acts (push_negation_in f) f → Acts (to_nnf (suc f)) (suc f) × Acts (push_negation_in (suc f)) (suc f)
      go ih = (
        λ c h s w k. visit_ends s (λ _ t. nnf_step false (to_nnf f) (push_negation_in f) c (at t.pool c) t)
            (nnf_step_lem (to_nnf f) (push_negation_in f) c (λ d i. ih.0 d (omega arith)) (λ d i. ih.1 d (omega arith)) (record { pool = s.pool; visits = s.visits + 1; limit = s.limit }) w (omega arith)
            c k (at s.pool c) (w c k)),
        λ c h s w k. visit_ends s (λ _ t. nnf_step true (to_nnf f) (push_negation_in f) c (at t.pool c) t)
            (negation_step_lem (to_nnf f) (push_negation_in f) c (λ d i. ih.0 d (omega arith)) (λ d i. ih.1 d (omega arith)) (record { pool = s.pool; visits = s.visits + 1; limit = s.limit }) w (omega arith)
            c k (at s.pool c) (w c k)),
      )

  -- as they are called
  normal_ends : (c : ℕ) (s : St) → Wf B s.pool → c < length s.pool → Ends (MadeIn B s) (to_nnf (suc c) c s)
  normal_ends c s w h = (nnf_ends (suc c)).0 c (omega arith) s w h

  pub complement_ends : (c : ℕ) (s : St) → Wf B s.pool → c < length s.pool → Ends (MadeIn B s) (push_negation_in (suc c) c s)
  complement_ends c s w h = (nnf_ends (suc c)).1 c (omega arith) s w h

  normals_end : (l : List ℕ) (s : St) → Wf B s.pool → Each (λ c. c < length s.pool) l → Ends (AllMade B s) (each (λ c. to_nnf (suc c) c) l s)
  normals_end l s w h = each_ends (λ c. to_nnf (suc c) c) (length s.pool) (λ c _. normal_ends c) l h s w h

  pub complements_end : (l : List ℕ) (s : St) → Wf B s.pool → Each (λ c. c < length s.pool) l → Ends (AllMade B s) (each (λ c. push_negation_in (suc c) c) l s)
  complements_end l s w h = each_ends (λ c. push_negation_in (suc c) c) (length s.pool) (λ c _. complement_ends c) l h s w h

  -- ---- axioms
  abbrev Any : {S A : Type 0} → A → S → Type 0
  Any a s = Unit {0}

  axiom_ends : (a : Axiom) (s : St) → Wf B s.pool → AxiomIn B (length s.pool) a → Ends Any (nnf_axiom a s)
  unfolding nnf_axiom
  axiom_ends (SubClassOf sub sup) s w h =
      ends_then (normal_ends sub s w h.0) (λ x t M. ends_then (normal_ends sup t M.wf (omega (arith, h.1, grown_length M.grows))) (λ y u _. end tt))
  axiom_ends (EquivalentClasses l) s w h = ends_then (normals_end l s w h) (λ k t _. end tt)
  axiom_ends (DisjointClasses l) s w h = ends_then (normals_end l s w h) (λ k t _. end tt)
  axiom_ends (DisjointUnion a l) s w h = ends_then (normals_end l s w h.1) (λ k t _. end tt)
  axiom_ends (ObjectPropertyDomain r c) s w h = ends_then (normal_ends c s w h.1) (λ x t _. end tt)
  axiom_ends (ObjectPropertyRange r c) s w h = ends_then (normal_ends c s w h.1) (λ x t _. end tt)
  axiom_ends (SubChain sup parts) s w h = end tt
  axiom_ends (TransitiveRole r) s w h = end tt
  axiom_ends (IrreflexiveRole r) s w h = end tt
  axiom_ends (AsymmetricRole r) s w h = end tt
  axiom_ends (DisjointObjectProperties l) s w h = end tt
  axiom_ends (InverseObjectProperties r o) s w h = end tt
  axiom_ends (SubObjectPropertyOf r o) s w h = end tt
  axiom_ends (EquivalentObjectProperties l) s w h = end tt
  axiom_ends (ReflexiveRole r) s w h = end tt
  axiom_ends (ClassAssertion c i) s w h = ends_then (normal_ends c s w h.0) (λ x t _. end tt)

  pub nnf_axiom_ends : (a : Axiom) (s : St) → Wf B s.pool → AxiomIn B (length s.pool) a → Ends (AxiomMade B s a) (nnf_axiom a s)
  nnf_axiom_ends a s w h = ends_of (nnf_axiom_made B a s w h) (ends_not_zero (axiom_ends a s w h))

  axioms_end : (line : ℕ) (l : List Axiom) (s : St) → Wf B s.pool → Each (AxiomIn B (length s.pool)) l → LinedEnds Any (nnf_axioms line l s)
  unfolding nnf_axioms
  axioms_end line [] s w h = close tt
  axioms_end line (a ∷ l) s w h =
      lined_ends_then (lined_ends line (nnf_axiom_ends a s w h.0)) (λ b t D.
      lined_ends_then (axioms_end (line + 1) l t D.ran.wf (axioms_more B (length s.pool) (length t.pool) l (grown_length D.ran.grows) h.1)) (λ k u _. close tt))

  pub nnf_axioms_end : (line : ℕ) (l : List Axiom) (s : St) → Wf B s.pool → Each (AxiomIn B (length s.pool)) l → LinedEnds (AxiomsMade B s l) (nnf_axioms line l s)
  nnf_axioms_end line l s w h = lined_ends_map (lined_ends_both (nnf_axioms_made B line l s w h) (axioms_end line l s w h)) (λ k t D. D.0)
