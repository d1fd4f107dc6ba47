-- Laws of the normal form: to_nnf and push_negation_in answer normal concepts of a pool that has grown, is well formed and
-- within its limits; visits stay within theirs; and no answer is deeper than the concept, or its negation by more than one.
use Rattle.std.specs.Prelude.{◌≡◌, Bool, true, false, length, ltb}
use Rattle.std.proofs.Math.Path.{refl}
use Rattle.std.proofs.Common.{◌∙◌, not-suc-le-zero, ltb-true}
use mathlib.Core.List.{List, [], ◌∷◌}
use Prim.Native.Nat.{ℕ, zero, suc, ◌+◌, ◌<◌, ◌≤◌}
use native.Mathlib.Omega.{arith}
use Rattle.ir.specs.declared.role.Role.{Role}
use Rattle.rules.specs.Base.{Res, ok, refused, then, M, each}
use Rattle.rules.specs.Text.{most_number}
use Rattle.rules.specs.Concept.{Concept, Axiom}
use Rattle.rules.specs.Concept.{SubClassOf, EquivalentClasses, DisjointClasses, DisjointUnion, ObjectPropertyDomain, ObjectPropertyRange, SubChain, TransitiveRole, IrreflexiveRole, AsymmetricRole, DisjointObjectProperties, InverseObjectProperties, SubObjectPropertyOf, EquivalentObjectProperties, ReflexiveRole, ClassAssertion}
use Rattle.rules.specs.Concept.{Top, Bot, Atomic, Nominal, SelfRestriction, Not, And, Or, Some, All, Min, Max}
use Rattle.rules.specs.Pool.{Pool, at, intern_raw, mk_min}
use Rattle.rules.specs.Deck.{parts_of}
use Rattle.rules.specs.Normalize.{St, N, begun, visit, back_in, in_pool, nnf_step, to_nnf, push_negation_in, nnf_axiom}
use Rattle.rules.specs.Run.{nnf_axioms}
use Rattle.rules.specs.Post.{Post, gives, refuses, give, post_then, post_map}
use Rattle.rules.specs.Invariants.{Each, Bounds, RoleIn, Bounded, Wf, Grown, Made, NormalStep, Normal, AxiomIn}
use Rattle.rules.specs.JointLaws.{Joint, conj, disj, mk_joint}
use Rattle.rules.specs.PoolLaws.{post_both, grown_refl, grown_trans, grown_length, below_more, IsNormal, normal_grown, record_normal, Small}
use Rattle.rules.specs.PoolLaws.{intern_made, intern_normal, small_kept, min_made, min_normal, min_small, joint_made, joint_normal, joint_small}
use Rattle.rules.specs.DepthLaws.{deepest_of, deepest_most, most_deepest, depth_in, depth, depth_record, depth_grown, deepest_grown, intern_depth, min_depth, joint_depth}
use Rattle.rules.specs.EachLaws.{each_map, each_both}
use Rattle.rules.specs.LinedPost.{LinedPost, finish, lined_post, lined_then_lem}

-- ---- what a run of these rules does to its state
pub record Ran (B : Bounds) (s t : St) : Type 0 where
  pub grows : Grown s.pool t.pool
  pub wf : Wf B t.pool
  pub small : Small s.pool → Small t.pool
  pub limit : t.limit ≡ s.limit
  pub visits : s.visits ≤ t.visits
  pub within : s.visits ≤ s.limit → t.visits ≤ t.limit

pub ran_trans : {B : Bounds} {s t u : St} → Ran B s t → Ran B t u → Ran B s u
ran_trans R O = record {
  grows = grown_trans R.grows O.grows;
  wf = O.wf;
  small = λ h. O.small (R.small h);
  limit = O.limit ∙ R.limit;
  visits = omega (arith, R.visits, O.visits);
  within = λ h. O.within (R.within h);
}

pub ran_refl : {B : Bounds} (s : St) → Wf B s.pool → Ran B s s
ran_refl s w = record { grows = grown_refl s.pool; wf = w; small = λ h. h; limit = refl; visits = omega arith; within = λ h. h }

-- an answer that is an id, of a depth of at most n
pub record Done (B : Bounds) (n : ℕ) (s : St) (i : ℕ) (t : St) : Type 0 where
  pub ran : Ran B s t
  pub held : i < length t.pool
  pub normal : IsNormal t.pool i
  pub shallow : depth t.pool i ≤ n

-- and a list of ids
pub record AllDone (B : Bounds) (n : ℕ) (s : St) (k : List ℕ) (t : St) : Type 0 where
  pub ran : Ran B s t
  pub held : Each (λ i. i < length t.pool) k
  pub normal : Each (IsNormal t.pool) k
  pub shallow : deepest_of (depth t.pool) k ≤ n

pub deeper : {B : Bounds} {n m : ℕ} {s : St} {i : ℕ} {t : St} → Done B n s i t → n ≤ m → Done B m s i t
deeper D h = record { ran = D.ran; held = D.held; normal = D.normal; shallow = omega (arith, D.shallow) }

-- what is done after a run is done of it all
after : {B : Bounds} {n : ℕ} {s t : St} {r : Res St ℕ} → Ran B s t → Post (Done B n t) r → Post (Done B n s) r
after R h = post_map h (λ i u D. record { ran = ran_trans R D.ran; held = D.held; normal = D.normal; shallow = D.shallow })

-- ---- a visit, and a constructor of the pool
abbrev visited : St → St
visited s = record { pool = s.pool; visits = s.visits + 1; limit = s.limit }

visit_then : (Q : ℕ → St → Type 0) (s : St) (f : Unit {0} → N ℕ) → (s.visits < s.limit → Post Q (f tt (visited s))) → Post Q (then (visit s) f)
unfolding visit
visit_then Q s f h = go (ltb s.visits s.limit) refl
  where
    go : (b : Bool) → ltb s.visits s.limit ≡ b → Post Q (then (begun s b) f)
    go true e = h (ltb-true s.visits s.limit e)
    go false e = refuses

visit_ran : {B : Bounds} (s : St) → Wf B s.pool → s.visits < s.limit → Ran B s (visited s)
visit_ran s w h = record { grows = grown_refl s.pool; wf = w; small = λ h. h; limit = refl; visits = omega arith; within = λ _. omega arith }

module _ (B : Bounds) (n : ℕ) (s : St) where
  in_pool_lem : (m : M Pool ℕ) → Post (Made B s.pool) (m s.pool) → Post (λ i q. IsNormal q i) (m s.pool) → Post (λ i q. Small s.pool → Small q) (m s.pool)
      → Post (λ i q. depth q i ≤ n) (m s.pool) → Post (Done B n s) (in_pool m s)
  in_pool_lem m made normal small shallow = back (m s.pool) (post_both (post_both made normal) (post_both small shallow))
    where
      back : (r : Res Pool ℕ) → Post (λ i q. (Made B s.pool i q × IsNormal q i) × ((Small s.pool → Small q) × (depth q i ≤ n))) r → Post (Done B n s) (back_in s r)
      back (ok i q) (gives h) = give (record {
        ran = record { grows = h.0.0.grows; wf = h.0.0.wf; small = h.1.0; limit = refl; visits = omega arith; within = λ h. h };
        held = h.0.0.held;
        normal = h.0.1;
        shallow = h.1.1;
      })
      back (refused k) h = refuses

  module _ (w : Wf B s.pool) where
    intern_done : (e : Concept) → Bounded B (length s.pool) e → NormalStep (IsNormal s.pool) s.pool e → suc (deepest_of (depth s.pool) (parts_of e)) ≤ n
        → Post (Done B n s) (in_pool (intern_raw e) s)
    intern_done e b k h = in_pool_lem (intern_raw e) (intern_made B e s.pool w b) (intern_normal B e s.pool w b k) (small_kept e s.pool)
        (post_map (intern_depth B s.pool w e b) (λ i q d. omega arith))

    min_done : (m : ℕ) (r : Role) (c : ℕ) → m ≤ most_number → RoleIn B r → c < length s.pool → IsNormal s.pool c → suc (depth s.pool c) ≤ n
        → Post (Done B n s) (in_pool (mk_min m r c) s)
    min_done m r c a b k i h = in_pool_lem (mk_min m r c) (min_made B s.pool w m r c a b k) (min_normal B s.pool w m r c a b k i) (min_small m r c s.pool)
        (post_map (min_depth B s.pool w m r c a b k) (λ i q d. omega arith))

    joint_done : (j : Joint) (l : List ℕ) → Each (λ a. a < length s.pool) l → Each (IsNormal s.pool) l → suc (deepest_of (depth s.pool) l) ≤ n
        → Post (Done B n s) (in_pool (mk_joint j l) s)
    joint_done j l b k h = in_pool_lem (mk_joint j l) (joint_made B s.pool w j l b) (joint_normal B s.pool w j l b k) (joint_small j l s.pool)
        (post_map (joint_depth B s.pool w j l b) (λ i q d. omega arith))

-- ---- the steps
module _ (B : Bounds) where
  -- f answers, for an id below n, with a concept that is at most x deeper
  abbrev Acts : ℕ → (ℕ → N ℕ) → ℕ → Type 0
  Acts x f n = (c : ℕ) → c < n → (s : St) → Wf B s.pool → c < length s.pool → Post (Done B (x + depth s.pool c) s) (f c s)

  pub each_done : (x : ℕ) (f : ℕ → N ℕ) (n : ℕ) → Acts x f n → (l : List ℕ) → Each (λ c. c < n) l → (s : St) → Wf B s.pool → Each (λ c. c < length s.pool) l
      → Post (AllDone B (x + deepest_of (depth s.pool) l) s) (each f l s)
  unfolding each
  each_done x f n act [] b s w h = give (record { ran = ran_refl s w; held = tt; normal = tt; shallow = omega arith })
  each_done x f n act (a ∷ l) b s w h =
      post_then (act a b.0 s w h.0) (λ k t D.
      post_then (each_done x f n act l b.1 t D.ran.wf (below_more (grown_length D.ran.grows) l h.1)) (λ ks u E.
      give (record {
        ran = ran_trans D.ran E.ran;
        held = (omega (arith, D.held, grown_length E.ran.grows), E.held);
        normal = (normal_grown B (suc k) t.pool u.pool k D.ran.wf E.ran.grows D.held D.normal, E.normal);
        shallow =
            let x : depth u.pool k ≡ depth t.pool k = depth_grown B (suc k) t.pool u.pool k D.ran.wf E.ran.grows D.held in
            omega (arith, x, D.shallow, E.shallow, deepest_grown B s.pool t.pool w D.ran.grows l h.1);
      })))

  module _ (nnf neg : ℕ → N ℕ) (n : ℕ) (keep : Acts 0 nnf n) (turn : Acts 1 neg n) (s : St) (w : Wf B s.pool) (inside : n ≤ length s.pool) where
    -- of a part
    part : (m x : ℕ) {f : ℕ → N ℕ} {g : ℕ → N ℕ} → Acts x f n → (d : ℕ) → d < n
        → ((e : ℕ) (t : St) → Wf B t.pool → e < length t.pool → IsNormal t.pool e → depth t.pool e ≤ x + depth s.pool d → Post (Done B m t) (g e t))
        → Post (Done B m s) (then (f d s) g)
    part m x act d h k = post_then (act d h s w (omega arith)) (λ e t D. after D.ran (k e t D.ran.wf D.held D.normal D.shallow))

    -- of a list
    parts : (m x : ℕ) {f : ℕ → N ℕ} → Acts x f n → (j : Joint) (l : List ℕ) → Each (λ c. c < n) l → suc (x + deepest_of (depth s.pool) l) ≤ m
        → Post (Done B m s) (then (each f l s) (λ k. in_pool (mk_joint j k)))
    parts m x {f} act j l b h = post_then (each_done x f n act l b s w (below_more inside l b)) (λ k t D.
        after D.ran (joint_done B m t D.ran.wf j k D.held D.normal (omega (arith, D.shallow))))

    -- a concept that is its own normal form
    stays : (m c : ℕ) → c < length s.pool → NormalStep (IsNormal s.pool) s.pool (at s.pool c) → depth s.pool c ≤ m → Post (Done B m s) (ok c s)
    stays m c h k d = give (record { ran = ran_refl s w; held = h; normal = record_normal B s.pool c w h k; shallow = d })

    nnf_step_lem : (m c : ℕ) → c < length s.pool → depth s.pool c ≤ m → (e : Concept) → at s.pool c ≡ e → Bounded B n e → suc (deepest_of (depth s.pool) (parts_of e)) ≤ m
        → Post (Done B m s) (nnf_step false nnf neg c e s)
    unfolding nnf_step
    nnf_step_lem m c h k Top q b d = stays m c h (rw q tt) k
    nnf_step_lem m c h k Bot q b d = stays m c h (rw q tt) k
    nnf_step_lem m c h k (Atomic _) q b d = stays m c h (rw q tt) k
    nnf_step_lem m c h k (Nominal _) q b d = stays m c h (rw q tt) k
    nnf_step_lem m c h k (SelfRestriction _) q b d = stays m c h (rw q tt) k
    nnf_step_lem m c h k (Not a) q b d = post_map (turn a b s w (omega arith)) (λ i t D. deeper D (omega arith))
    nnf_step_lem m c h k (And l) q b d = parts m 0 keep conj l b (omega arith)
    nnf_step_lem m c h k (Or l) q b d = parts m 0 keep disj l b (omega arith)
    nnf_step_lem m c h k (Some r a) q b d = part m 0 keep a b.1 (λ i t w₁ l z y. intern_done B m t w₁ (Some r i) (b.0, l) z (omega arith))
    nnf_step_lem m c h k (All r a) q b d = part m 0 keep a b.1 (λ i t w₁ l z y. intern_done B m t w₁ (All r i) (b.0, l) z (omega arith))
    nnf_step_lem m c h k (Min x r a) q b d = part m 0 keep a b.2 (λ i t w₁ l z y. min_done B m t w₁ x r i b.0 b.1 l z (omega arith))
    nnf_step_lem m c h k (Max x r a) q b d = part m 0 keep a b.2 (λ i t w₁ l z y. intern_done B m t w₁ (Max x r i) (b.0, b.1, l) z (omega arith))

    negation_step_lem : (m c : ℕ) → c < length s.pool → (e : Concept) → at s.pool c ≡ e → Bounded B n e → suc (suc (deepest_of (depth s.pool) (parts_of e))) ≤ m → depth s.pool c < m
        → Post (Done B m s) (nnf_step true nnf neg c e s)
    unfolding nnf_step
    negation_step_lem m c h Top q b d k = intern_done B m s w Bot tt tt (omega arith)
    negation_step_lem m c h Bot q b d k = intern_done B m s w Top tt tt (omega arith)
    negation_step_lem m c h (Atomic _) q b d k = intern_done B m s w (Not c) h (rw q tt) (omega arith)
    negation_step_lem m c h (Nominal _) q b d k = intern_done B m s w (Not c) h (rw q tt) (omega arith)
    negation_step_lem m c h (SelfRestriction _) q b d k = intern_done B m s w (Not c) h (rw q tt) (omega arith)
    negation_step_lem m c h (Not a) q b d k = post_map (keep a b s w (omega arith)) (λ i t D. deeper D (omega arith))
    negation_step_lem m c h (And l) q b d k = parts m 1 turn disj l b (omega arith)
    negation_step_lem m c h (Or l) q b d k = parts m 1 turn conj l b (omega arith)
    negation_step_lem m c h (Some r a) q b d k = part m 1 turn a b.1 (λ i t w₁ l z y. intern_done B m t w₁ (All r i) (b.0, l) z (omega arith))
    negation_step_lem m c h (All r a) q b d k = part m 1 turn a b.1 (λ i t w₁ l z y. intern_done B m t w₁ (Some r i) (b.0, l) z (omega arith))
    negation_step_lem m c h (Min zero r a) q b d k = intern_done B m s w Bot tt tt (omega arith)
    negation_step_lem m c h (Min (suc x) r a) q b d k = part m 0 keep a b.2 (λ i t w₁ l z y. intern_done B m t w₁ (Max x r i) (b.0, b.1, l) z (omega arith))
    negation_step_lem m c h (Max x r a) q b d k = part m 0 keep a b.2 (λ i t w₁ l z y. min_done B m t w₁ (suc x) r i b.0 b.1 l z (omega arith))

  -- ---- the two, for every bound on the ids
  nnf_acts : (f : ℕ) → Acts 0 (to_nnf f) f × Acts 1 (push_negation_in f) f
  unfolding to_nnf
  nnf_acts zero = (λ c h. absurd (not-suc-le-zero h), λ c h. absurd (not-suc-le-zero h))
  nnf_acts (suc f) = go (nnf_acts f)
    where
      go : Acts 0 (to_nnf f) f × Acts 1 (push_negation_in f) f → Acts 0 (to_nnf (suc f)) (suc f) × Acts 1 (push_negation_in (suc f)) (suc f)
      go ih = (
        λ c h s w k. visit_then (Done B (0 + depth s.pool c) s) s (λ _ t. nnf_step false (to_nnf f) (push_negation_in f) c (at t.pool c) t) (λ l. after (visit_ran s w l)
            (nnf_step_lem (to_nnf f) (push_negation_in f) c (λ d i. ih.0 d (omega arith)) (λ d i. ih.1 d (omega arith)) (visited s) w (omega arith)
            (0 + depth s.pool c) c k (omega arith) (at s.pool c) refl (w c k) (omega (arith, depth_record B s.pool c w k)))),
        λ c h s w k. visit_then (Done B (1 + depth s.pool c) s) s (λ _ t. nnf_step true (to_nnf f) (push_negation_in f) c (at t.pool c) t) (λ l. after (visit_ran s w l)
            (negation_step_lem (to_nnf f) (push_negation_in f) c (λ d i. ih.0 d (omega arith)) (λ d i. ih.1 d (omega arith)) (visited s) w (omega arith)
            (1 + depth s.pool c) c k (at s.pool c) refl (w c k) (omega (arith, depth_record B s.pool c w k)) (omega arith))),
      )

-- ---- the laws of the two
pub record NnfMade (B : Bounds) (s : St) (i : ℕ) (t : St) : Type 0 where
  pub made : Made B s.pool i t.pool
  pub normal : Normal (suc i) t.pool i
  pub small : Small s.pool → Small t.pool
  pub limit : t.limit ≡ s.limit
  pub visits : s.visits ≤ t.visits
  pub within : s.visits ≤ s.limit → t.visits ≤ t.limit

done_made : {B : Bounds} {n : ℕ} {s : St} {i : ℕ} {t : St} → Done B n s i t → NnfMade B s i t
done_made D = record {
  made = record { grows = D.ran.grows; wf = D.ran.wf; held = D.held };
  normal = D.normal;
  small = D.ran.small;
  limit = D.ran.limit;
  visits = D.ran.visits;
  within = D.ran.within;
}

module _ (B : Bounds) (f c : ℕ) (s : St) (w : Wf B s.pool) (h : c < length s.pool) (k : c < f) where
  pub nnf_done : Post (Done B (depth s.pool c) s) (to_nnf f c s)
  nnf_done = post_map ((nnf_acts B f).0 c k s w h) (λ i t D. deeper D (omega arith))

  pub negation_done : Post (Done B (suc (depth s.pool c)) s) (push_negation_in f c s)
  negation_done = post_map ((nnf_acts B f).1 c k s w h) (λ i t D. deeper D (omega arith))

  pub nnf_made : Post (NnfMade B s) (to_nnf f c s)
  nnf_made = post_map nnf_done (λ i t D. done_made D)

  pub negation_made : Post (NnfMade B s) (push_negation_in f c s)
  negation_made = post_map negation_done (λ i t D. done_made D)

  pub nnf_depth : Post (λ i t. depth_in (suc i) t.pool i ≤ depth_in (suc c) s.pool c) (to_nnf f c s)
  nnf_depth = post_map nnf_done (λ i t D. D.shallow)

  pub negation_depth : Post (λ i t. depth_in (suc i) t.pool i ≤ depth_in (suc c) s.pool c + 1) (push_negation_in f c s)
  negation_depth = post_map negation_done (λ i t D. omega (arith, D.shallow))

-- ---- axioms: P of each concept that one names
abbrev pub AxiomEach : (ℕ → Type 0) → Axiom → Type 0
AxiomEach P (SubClassOf sub sup) = P sub × P sup
AxiomEach P (EquivalentClasses l) = Each P l
AxiomEach P (DisjointClasses l) = Each P l
AxiomEach P (DisjointUnion a l) = Each P l
AxiomEach P (ObjectPropertyDomain r c) = P c
AxiomEach P (ObjectPropertyRange r c) = P c
AxiomEach P (SubChain sup parts) = Unit {0}
AxiomEach P (TransitiveRole r) = Unit {0}
AxiomEach P (IrreflexiveRole r) = Unit {0}
AxiomEach P (AsymmetricRole r) = Unit {0}
AxiomEach P (DisjointObjectProperties l) = Unit {0}
AxiomEach P (InverseObjectProperties r s) = Unit {0}
AxiomEach P (SubObjectPropertyOf r s) = Unit {0}
AxiomEach P (EquivalentObjectProperties l) = Unit {0}
AxiomEach P (ReflexiveRole r) = Unit {0}
AxiomEach P (ClassAssertion c i) = P c

abbrev pub AxiomNormal : Pool → Axiom → Type 0
AxiomNormal p = AxiomEach (λ c. Normal (suc c) p c)

-- every concept at most m deep
abbrev pub AxiomShallow : ℕ → Pool → Axiom → Type 0
AxiomShallow m p = AxiomEach (λ c. depth_in (suc c) p c ≤ m)

pub axiom_map : (B : Bounds) (n : ℕ) (P Q : ℕ → Type 0) → ((c : ℕ) → c < n → P c → Q c) → (a : Axiom) → AxiomIn B n a → AxiomEach P a → AxiomEach Q a
axiom_map B n P Q f (SubClassOf sub sup) b h = (f sub b.0 h.0, f sup b.1 h.1)
axiom_map B n P Q f (EquivalentClasses l) b h = each_both (λ c. c < n) P Q f l b h
axiom_map B n P Q f (DisjointClasses l) b h = each_both (λ c. c < n) P Q f l b h
axiom_map B n P Q f (DisjointUnion a l) b h = each_both (λ c. c < n) P Q f l b.1 h
axiom_map B n P Q f (ObjectPropertyDomain r c) b h = f c b.1 h
axiom_map B n P Q f (ObjectPropertyRange r c) b h = f c b.1 h
axiom_map B n P Q f (SubChain sup parts) b h = tt
axiom_map B n P Q f (TransitiveRole r) b h = tt
axiom_map B n P Q f (IrreflexiveRole r) b h = tt
axiom_map B n P Q f (AsymmetricRole r) b h = tt
axiom_map B n P Q f (DisjointObjectProperties l) b h = tt
axiom_map B n P Q f (InverseObjectProperties r s) b h = tt
axiom_map B n P Q f (SubObjectPropertyOf r s) b h = tt
axiom_map B n P Q f (EquivalentObjectProperties l) b h = tt
axiom_map B n P Q f (ReflexiveRole r) b h = tt
axiom_map B n P Q f (ClassAssertion c i) b h = f c b.0 h

pub axiom_more : (B : Bounds) (m n : ℕ) (a : Axiom) → m ≤ n → AxiomIn B m a → AxiomIn B n a
axiom_more B m n (SubClassOf sub sup) h b = (omega arith, omega arith)
axiom_more B m n (EquivalentClasses l) h b = below_more h l b
axiom_more B m n (DisjointClasses l) h b = below_more h l b
axiom_more B m n (DisjointUnion a l) h b = (b.0, below_more h l b.1)
axiom_more B m n (ObjectPropertyDomain r c) h b = (b.0, omega arith)
axiom_more B m n (ObjectPropertyRange r c) h b = (b.0, omega arith)
axiom_more B m n (SubChain sup parts) h b = b
axiom_more B m n (TransitiveRole r) h b = b
axiom_more B m n (IrreflexiveRole r) h b = b
axiom_more B m n (AsymmetricRole r) h b = b
axiom_more B m n (DisjointObjectProperties l) h b = b
axiom_more B m n (InverseObjectProperties r s) h b = b
axiom_more B m n (SubObjectPropertyOf r s) h b = b
axiom_more B m n (EquivalentObjectProperties l) h b = b
axiom_more B m n (ReflexiveRole r) h b = b
axiom_more B m n (ClassAssertion c i) h b = (omega arith, b.1)

pub axioms_more : (B : Bounds) (m n : ℕ) (l : List Axiom) → m ≤ n → Each (AxiomIn B m) l → Each (AxiomIn B n) l
axioms_more B m n l h = each_map (AxiomIn B m) (AxiomIn B n) (λ a. axiom_more B m n a h) l

-- axiom a became b
pub record AxiomMade (B : Bounds) (s : St) (a b : Axiom) (t : St) : Type 0 where
  pub ran : Ran B s t
  pub inside : AxiomIn B (length t.pool) b
  pub normal : AxiomNormal t.pool b
  pub shallow : (m : ℕ) → AxiomShallow m s.pool a → AxiomShallow m t.pool b

module _ (B : Bounds) where
  nnf_each : (l : List ℕ) (s : St) → Wf B s.pool → Each (λ c. c < length s.pool) l → Post (AllDone B (deepest_of (depth s.pool) l) s) (each (λ c. to_nnf (suc c) c) l s)
  nnf_each l s w h = post_map (each_done B 0 (λ c. to_nnf (suc c) c) (length s.pool) (λ c k t v i. (nnf_acts B (suc c)).0 c (omega arith) t v i) l h s w h) (λ k t D.
      record { ran = D.ran; held = D.held; normal = D.normal; shallow = omega (arith, D.shallow) })

  -- a list's depths, as one bound on each
  list_shallow : {s : St} {k : List ℕ} {t : St} (l : List ℕ) → AllDone B (deepest_of (depth s.pool) l) s k t → (m : ℕ)
      → Each (λ c. depth s.pool c ≤ m) l → Each (λ c. depth t.pool c ≤ m) k
  list_shallow {s} {k} {t} l D m h = most_deepest (depth t.pool) m k (omega (arith, D.shallow, deepest_most (depth s.pool) m l h))

  pub nnf_axiom_made : (a : Axiom) (s : St) → Wf B s.pool → AxiomIn B (length s.pool) a → Post (AxiomMade B s a) (nnf_axiom a s)
  unfolding nnf_axiom
  nnf_axiom_made (SubClassOf sub sup) s w h =
      post_then (nnf_done B (suc sub) sub s w h.0 (omega arith)) (λ x t D.
      post_then (nnf_done B (suc sup) sup t D.ran.wf (omega (arith, h.1, grown_length D.ran.grows)) (omega arith)) (λ y u E.
      give (record {
        ran = ran_trans D.ran E.ran;
        inside = (omega (arith, D.held, grown_length E.ran.grows), E.held);
        normal = (normal_grown B (suc x) t.pool u.pool x D.ran.wf E.ran.grows D.held D.normal, E.normal);
        shallow = λ m d. (
          omega (arith, d.0, D.shallow, depth_grown B (suc x) t.pool u.pool x D.ran.wf E.ran.grows D.held),
          omega (arith, d.1, E.shallow, depth_grown B (suc sup) s.pool t.pool sup w D.ran.grows h.1),
        );
      })))
  nnf_axiom_made (EquivalentClasses l) s w h = post_then (nnf_each l s w h) (λ k t D.
      give (record { ran = D.ran; inside = D.held; normal = D.normal; shallow = list_shallow l D }))
  nnf_axiom_made (DisjointClasses l) s w h = post_then (nnf_each l s w h) (λ k t D.
      give (record { ran = D.ran; inside = D.held; normal = D.normal; shallow = list_shallow l D }))
  nnf_axiom_made (DisjointUnion a l) s w h = post_then (nnf_each l s w h.1) (λ k t D.
      give (record { ran = D.ran; inside = (h.0, D.held); normal = D.normal; shallow = list_shallow l D }))
  nnf_axiom_made (ObjectPropertyDomain r c) s w h = post_then (nnf_done B (suc c) c s w h.1 (omega arith)) (λ x t D.
      give (record { ran = D.ran; inside = (h.0, D.held); normal = D.normal; shallow = λ m d. omega (arith, D.shallow) }))
  nnf_axiom_made (ObjectPropertyRange r c) s w h = post_then (nnf_done B (suc c) c s w h.1 (omega arith)) (λ x t D.
      give (record { ran = D.ran; inside = (h.0, D.held); normal = D.normal; shallow = λ m d. omega (arith, D.shallow) }))
  nnf_axiom_made (SubChain sup parts) s w h = give (record { ran = ran_refl s w; inside = h; normal = tt; shallow = λ m d. tt })
  nnf_axiom_made (TransitiveRole r) s w h = give (record { ran = ran_refl s w; inside = h; normal = tt; shallow = λ m d. tt })
  nnf_axiom_made (IrreflexiveRole r) s w h = give (record { ran = ran_refl s w; inside = h; normal = tt; shallow = λ m d. tt })
  nnf_axiom_made (AsymmetricRole r) s w h = give (record { ran = ran_refl s w; inside = h; normal = tt; shallow = λ m d. tt })
  nnf_axiom_made (DisjointObjectProperties l) s w h = give (record { ran = ran_refl s w; inside = h; normal = tt; shallow = λ m d. tt })
  nnf_axiom_made (InverseObjectProperties r o) s w h = give (record { ran = ran_refl s w; inside = h; normal = tt; shallow = λ m d. tt })
  nnf_axiom_made (SubObjectPropertyOf r o) s w h = give (record { ran = ran_refl s w; inside = h; normal = tt; shallow = λ m d. tt })
  nnf_axiom_made (EquivalentObjectProperties l) s w h = give (record { ran = ran_refl s w; inside = h; normal = tt; shallow = λ m d. tt })
  nnf_axiom_made (ReflexiveRole r) s w h = give (record { ran = ran_refl s w; inside = h; normal = tt; shallow = λ m d. tt })
  nnf_axiom_made (ClassAssertion c i) s w h = post_then (nnf_done B (suc c) c s w h.0 (omega arith)) (λ x t D.
      give (record { ran = D.ran; inside = (D.held, h.1); normal = D.normal; shallow = λ m d. omega (arith, D.shallow) }))

pub record AxiomsMade (B : Bounds) (s : St) (l k : List Axiom) (t : St) : Type 0 where
  pub ran : Ran B s t
  pub inside : Each (AxiomIn B (length t.pool)) k
  pub normal : Each (AxiomNormal t.pool) k
  pub shallow : (m : ℕ) → Each (AxiomShallow m s.pool) l → Each (AxiomShallow m t.pool) k

-- over a pool that has grown
pub axiom_shallow_grown : (B : Bounds) (m : ℕ) (p q : Pool) → Wf B p → Grown p q → (a : Axiom) → AxiomIn B (length p) a → AxiomShallow m p a → AxiomShallow m q a
axiom_shallow_grown B m p q w g = axiom_map B (length p) (λ c. depth p c ≤ m) (λ c. depth q c ≤ m) (λ c i d. omega (arith, depth_grown B (suc c) p q c w g i))

pub axiom_normal_grown : (B : Bounds) (p q : Pool) → Wf B p → Grown p q → (a : Axiom) → AxiomIn B (length p) a → AxiomNormal p a → AxiomNormal q a
axiom_normal_grown B p q w g = axiom_map B (length p) (IsNormal p) (IsNormal q) (λ c i. normal_grown B (suc c) p q c w g i)

pub nnf_axioms_made : (B : Bounds) (line : ℕ) (l : List Axiom) (s : St) → Wf B s.pool → Each (AxiomIn B (length s.pool)) l → LinedPost (AxiomsMade B s l) (nnf_axioms line l s)
unfolding nnf_axioms
nnf_axioms_made B line [] s w h = finish (record { ran = ran_refl s w; inside = tt; normal = tt; shallow = λ m d. tt })
nnf_axioms_made B line (a ∷ l) s w h =
    lined_then_lem (lined_post line (nnf_axiom_made B a s w h.0)) (λ b t D.
    lined_then_lem (nnf_axioms_made B (line + 1) l t D.ran.wf (axioms_more B (length s.pool) (length t.pool) l (grown_length D.ran.grows) h.1)) (λ k u E.
    finish (record {
      ran = ran_trans D.ran E.ran;
      inside = (axiom_more B (length t.pool) (length u.pool) b (grown_length E.ran.grows) D.inside, E.inside);
      normal = (axiom_normal_grown B t.pool u.pool D.ran.wf E.ran.grows b D.inside D.normal, E.normal);
      shallow = λ m d. (
        axiom_shallow_grown B m t.pool u.pool D.ran.wf E.ran.grows b D.inside (D.shallow m d.0),
        E.shallow m (each_both (AxiomIn B (length s.pool)) (AxiomShallow m s.pool) (AxiomShallow m t.pool)
            (axiom_shallow_grown B m s.pool t.pool w D.ran.grows) l h.1 d.1),
      );
    })))
