-- What clausifyAxiom does: pools grow and stay well formed, and every clause is within bounds.
-- Each axiom's rules begin again at variable 1. Domain, range, asymmetric and disjoint roles take one variable without a visit,
-- and a chain two; so variables stay below visits + 3.
use Rattle.std.specs.Prelude.{◌≡◌, refl, Bool, ℕ, suc, ◌+◌, ◌≤◌, ◌<◌, length, eqb}
use Rattle.std.proofs.Common.{◌∙◌, le_refl, le_trans, leb-true}
use Rattle.std.proofs.Math.Bool.{true, false}
use mathlib.Core.List.{List, [], ◌∷◌, ◌++◌}
use Rattle.std.proofs.Math.Option.{Option, none, some}
use native.Mathlib.Omega.{arith}
use Rattle.ir.specs.Pick.{pick}
use Rattle.ir.specs.Roles.{role_code}
use Rattle.ir.specs.declared.role.Role.{Role}
use Rattle.ir.specs.declared.atom.Atom.{Atom}
use Rattle.ir.specs.declared.atom.Atom.TheVariants.{Class, Role as RoleAtom}
use Rattle.ir.specs.declared.deferral.Deferral.TheVariants.{DisjointAntecedent, DisjointUnionMember, DisjointUnionCovering, RoleChainLenNe2, Antecedent}
use Rattle.rules.specs.Base.{Res, then, ◌>>=◌, ◌>>◌, return, each, for_each}
use Rattle.rules.specs.Concept.{Concept, Axiom}
use Rattle.rules.specs.Concept.{Top, Bot, Atomic, Nominal, SelfRestriction, Not, And, Or, Some, All, Min, Max}
use Rattle.rules.specs.Concept.{SubClassOf, EquivalentClasses, DisjointClasses, DisjointUnion, ObjectPropertyDomain, ObjectPropertyRange, SubChain, TransitiveRole, IrreflexiveRole, AsymmetricRole, DisjointObjectProperties, InverseObjectProperties, SubObjectPropertyOf, EquivalentObjectProperties, ReflexiveRole, ClassAssertion}
use Rattle.rules.specs.Pool.{Pool, at, mk_and, mk_or}
use Rattle.rules.specs.Normalize.{St, N, back_in, in_pool, nnf_complement}
use Rattle.rules.specs.State.{Env, Out, out, E, canon, most_in_hand, restarted, restart_vars, fresh_var, push, defer, class_id_of}
use Rattle.rules.specs.Antecedents.{Alternatives, in_hand, encode_antecedent}
use Rattle.rules.specs.Heads.{emit_head}
use Rattle.rules.specs.Axioms.{Clausifier, C, visited_to, back_nnf, in_nnf, back_out, in_out, conjuncts, Parts, paired, later_pairs, numbered, with_others, ordered_from, ordered_pairs, emit_bodies, sorted, partition, soft_and, bodies_or_defer, absorb_parts, absorb_hard_antecedent, gci_with, clausify_gci, push_pair, push_pairs, pair_with, disjoint_pair, member_with, union_member, cover_with, cover, domain, range, chain, chain_of, asymmetric, disjoint_roles, clausify_axiom}
use Rattle.rules.specs.Invariants.{Each, Bounds, RoleIn, Bounded, Wf, Grown, Made, AxiomIn, Emitted}
use Rattle.rules.specs.Post.{Post, gives, give, refuses, post_then, post_map}
use Rattle.rules.proofs.EmitLaws.{for_each_lem, above_more, AtomsIn, atoms_with, atoms_none, atoms_one, Stepped, emitted_trans, emitted_more, emitted_refl, stepped_refl, stepped_trans, still, pushed_emitted, with_then, push_post, push_made, defer_made, atoms_after, stepped_after, AtomAt, AtomsAt}
use Rattle.rules.specs.Handed.{RolesKept, Above}
use Rattle.rules.proofs.AntecedentLaws.{Encoded, alternatives_more, encode_made}
use Rattle.rules.proofs.HeadLaws.{Rooted, rooted_more, ClassOr, class_in_lem, emit_ready}
use Rattle.rules.specs.EachLaws.{each_map, each_append}
use Rattle.rules.specs.PoolLaws.{grown_refl, grown_trans, grown_length, and_made, or_made}
use Rattle.rules.proofs.NormalizeLaws.{negation_made}

-- ---- pools that grow
-- an id of a pool
abbrev pub Held : Pool → ℕ → Type 0
Held p c = c < length p

each_grown : {p q : Pool} → Grown p q → (l : List ℕ) → Each (Held p) l → Each (Held q) l
each_grown {p} {q} G l u = each_map (Held p) (Held q) (λ c h. le_trans h (grown_length G)) l u

-- ---- the normal form's rules, as they are called here
pub record PoolRan (B : Bounds) (s : St) (i : ℕ) (t : St) : Type 0 where
  pub made : Made B s.pool i t.pool
  pub limit : t.limit ≡ s.limit
  pub visits : s.visits ≤ t.visits
  pub within : s.visits ≤ s.limit → t.visits ≤ t.limit

-- the laws of the pool's constructors and of the normal form that are used below
-- the complement of a concept, And and Or, in these terms
pub complement_ran : (B : Bounds) (c : ℕ) (s : St) → Wf B s.pool → c < length s.pool → Post (PoolRan B s) (nnf_complement c s)
complement_ran B c s w h =
    post_map (negation_made B (suc c) c s w h (le_refl (suc c))) (λ i t X. record { made = X.made; limit = X.limit; visits = X.visits; within = X.within })

-- several ids, one after another
pub record AllRan (B : Bounds) (s : St) (l : List ℕ) (t : St) : Type 0 where
  pub grows : Grown s.pool t.pool
  pub wf : Wf B t.pool
  pub held : Each (Held t.pool) l
  pub limit : t.limit ≡ s.limit
  pub visits : s.visits ≤ t.visits
  pub within : s.visits ≤ s.limit → t.visits ≤ t.limit

pub all_one : {B : Bounds} {s t : St} {i : ℕ} → PoolRan B s i t → AllRan B s (i ∷ []) t
all_one X = record { grows = X.made.grows; wf = X.made.wf; held = (X.made.held, tt); limit = X.limit; visits = X.visits; within = X.within }

-- a constructor of the pool makes no visit
pub pool_made : {B : Bounds} (s : St) {r : Res Pool ℕ} → Post (Made B s.pool) r → Post (PoolRan B s) (back_in s r)
pool_made s (gives X) = gives (record { made = X; limit = refl; visits = le_refl s.visits; within = λ h. h })
pool_made s refuses = refuses

pub complements : (B : Bounds) (l : List ℕ) (s : St) → Wf B s.pool → Each (Held s.pool) l → Post (AllRan B s) (each nnf_complement l s)
unfolding each
complements B [] s w u = give (record { grows = grown_refl s.pool; wf = w; held = tt; limit = refl; visits = le_refl s.visits; within = λ h. h })
complements B (c ∷ l) s w u = post_then (complement_ran B c s w u.0) (λ i t X.
    post_then (complements B l t X.made.wf (each_grown X.made.grows l u.1)) (λ k r Y. give (record {
      grows = grown_trans X.made.grows Y.grows;
      wf = Y.wf;
      held = (le_trans X.made.held (grown_length Y.grows), Y.held);
      limit = Y.limit ∙ X.limit;
      visits = le_trans X.visits Y.visits;
      within = λ h. Y.within (X.within h);
    })))

pub or_in : (B : Bounds) (l : List ℕ) (s : St) → Wf B s.pool → Each (Held s.pool) l → Post (PoolRan B s) (in_pool (mk_or l) s)
or_in B l s w u = pool_made s (or_made B s.pool w l u)

pub and_in : (B : Bounds) (l : List ℕ) (s : St) → Wf B s.pool → Each (Held s.pool) l → Post (PoolRan B s) (in_pool (mk_and l) s)
and_in B l s w u = pool_made s (and_made B s.pool w l u)

-- ---- what one axiom's rules do
-- to the state of the emission
pub record Ran (B : Bounds) (s t : Out) : Type 0 where
  pub emitted : Emitted B (t.visits + 3) s t
  pub vars : t.next_var ≤ t.visits + 3

-- with the pool
pub record Clausified (B : Bounds) (z y : Clausifier) : Type 0 where
  pub grows : Grown z.pool y.pool
  pub wf : Wf B y.pool
  pub emitted : Emitted B (y.out.visits + 3) z.out y.out
  pub vars : y.out.next_var ≤ y.out.visits + 3

-- what they are handed
pub record Fit (B : Bounds) (env : Env) (z : Clausifier) : Type 0 where
  pub wf : Wf B z.pool
  pub above : Above B env z.out.next_fresh
  pub vars : z.out.next_var ≤ z.out.visits + 3

pub clausified_refl : {B : Bounds} {env : Env} (z : Clausifier) → Fit B env z → Clausified B z z
clausified_refl {B} z F = record { grows = grown_refl z.pool; wf = F.wf; emitted = emitted_refl B (z.out.visits + 3) z.out; vars = F.vars }

ran_refl : (B : Bounds) (s : Out) → s.next_var ≤ s.visits + 3 → Ran B s s
ran_refl B s h = record { emitted = emitted_refl B (s.visits + 3) s; vars = h }

ran_trans : {B : Bounds} {s t u : Out} → Ran B s t → Ran B t u → Ran B s u
ran_trans X Y = record { emitted = emitted_trans (omega (arith, Y.emitted.visits)) X.emitted Y.emitted; vars = Y.vars }

-- steps whose first variable is not too high
stepped_ran : {B : Bounds} {s t : Out} → s.next_var ≤ s.visits + 3 → Stepped B s t → Ran B s t
stepped_ran {s = s} {t = t} h X =
    let k : t.next_var ≤ t.visits + 3 = omega (arith, X.vars) in
    record { emitted = emitted_more k X.emitted; vars = k }

-- variables set back to x
abbrev from_var : ℕ → Out → Out
from_var x s = out s.visits s.limit x s.next_fresh s.clauses s.deferrals s.line s.limits

from_ran : (B : Bounds) (x : ℕ) (s : Out) → x ≤ 3 → Ran B s (from_var x s)
from_ran B x s h = record { emitted = still B (s.visits + 3) s s.visits x s.next_fresh (le_refl s.visits) (λ k. k) (le_refl s.next_fresh) (le_refl (s.next_fresh + s.visits)); vars = omega arith }

from_stepped : {B : Bounds} {t : Out} (x : ℕ) (s : Out) → x ≤ 3 → Stepped B (from_var x s) t → Ran B s t
from_stepped {B} x s h X = ran_trans (from_ran B x s h) (stepped_ran (omega arith) X)

restart_post : {A : Type 0} {Q : A → Out → Type 0} (s : Out) (f : E A) → Post Q (f (restarted s)) → Post Q (then (restart_vars s) (λ _. f))
unfolding restart_vars
restart_post s f h = h

-- ---- pairs
abbrev pub Both : {A : Type 0} → (A → Type 0) → A × A → Type 0
Both P p = P p.0 × P p.1

pub each_paired : {A : Type 0} (P : A → Type 0) (a : A) (l : List A) (rest : List (A × A)) → P a → Each P l → Each (Both P) rest → Each (Both P) (paired a l rest)
unfolding paired
each_paired P a [] rest h u w = w
each_paired P a (b ∷ l) rest h u w = ((h, u.0), each_paired P a l rest h u.1 w)

pub each_later : {A : Type 0} (P : A → Type 0) (l : List A) → Each P l → Each (Both P) (later_pairs l)
unfolding later_pairs
each_later P [] u = tt
each_later P (a ∷ l) u = each_paired P a l (later_pairs l) u.0 u.1 (each_later P l u.1)

pub each_numbered : {A : Type 0} (P : A → Type 0) (n : ℕ) (l : List A) → Each P l → Each (λ x. P x.1) (numbered n l)
unfolding numbered
each_numbered P n [] u = tt
each_numbered P n (a ∷ l) u = (u.0, each_numbered P (suc n) l u.1)

pub each_others : {A : Type 0} (P : A → Type 0) (x : ℕ × A) (l : List (ℕ × A)) (rest : List (A × A)) → P x.1 → Each (λ y. P y.1) l → Each (Both P) rest → Each (Both P) (with_others x l rest)
unfolding with_others
each_others P x [] rest h u w = w
each_others {A} P x (y ∷ l) rest h u w = go (eqb x.0 y.0) (with_others x l rest) (each_others P x l rest h u.1 w)
  where
    go : (b : Bool) (k : List (A × A)) → Each (Both P) k → Each (Both P) (pick b k ((x.1, y.1) ∷ k))
    go true k v = v
    go false k v = ((h, u.0), v)

pub each_ordered : {A : Type 0} (P : A → Type 0) (k l : List (ℕ × A)) → Each (λ y. P y.1) k → Each (λ y. P y.1) l → Each (Both P) (ordered_from k l)
unfolding ordered_from
each_ordered P [] l u w = tt
each_ordered P (x ∷ k) l u w = each_others P x l (ordered_from k l) u.0 w (each_ordered P k l u.1 w)

-- ---- rules in one of the two states
abbrev pub st_of : Clausifier → St
st_of z = record { pool = z.pool; visits = z.out.visits; limit = z.out.limit }

abbrev pub after_nnf : St → Clausifier → Clausifier
after_nnf t z = record { pool = t.pool; out = visited_to t.visits z.out }

abbrev pub after_out : Out → Clausifier → Clausifier
after_out t z = record { pool = z.pool; out = t }

nnf_then : {A D : Type 0} {P : A → St → Type 0} {Q : D → Clausifier → Type 0} (z : Clausifier) (f : N A) (k : A → C D)
    → Post P (f (st_of z)) → ((a : A) (t : St) → P a t → Post Q (k a (after_nnf t z))) → Post Q (then (in_nnf f z) k)
nnf_then {A} {P = P} {Q = Q} z f k h g = go h
  where
    go : {r : Res St A} → Post P r → Post Q (then (back_nnf z r) k)
    go (gives {a = a} {s = t} p) = g a t p
    go refuses = refuses

pub out_then : {A D : Type 0} {P : A → Out → Type 0} {Q : D → Clausifier → Type 0} (z : Clausifier) (f : Pool → E A) (k : A → C D)
    → Post P (f z.pool z.out) → ((a : A) (t : Out) → P a t → Post Q (k a (after_out t z))) → Post Q (then (in_out f z) k)
out_then {A} {P = P} {Q = Q} z f k h g = go h
  where
    go : {r : Res Out A} → Post P r → Post Q (then (back_out z r) k)
    go (gives {a = a} {s = t} p) = g a t p
    go refuses = refuses

nnf_clausified : {B : Bounds} {x z : Clausifier} {l : List ℕ} {t : St} → Clausified B x z → AllRan B (st_of z) l t → Clausified B x (after_nnf t z)
nnf_clausified {B} {x} {z} {l} {t} X Y = record {
  grows = grown_trans X.grows Y.grows;
  wf = Y.wf;
  emitted = emitted_trans (omega (arith, Y.visits)) X.emitted (still B (t.visits + 3) z.out t.visits z.out.next_var z.out.next_fresh Y.visits
      (λ h. omega (arith, Y.within h, Y.limit)) (le_refl z.out.next_fresh) (omega (arith, Y.visits)));
  vars = omega (arith, X.vars, Y.visits);
}

out_clausified : {B : Bounds} {x z : Clausifier} {t : Out} → Clausified B x z → Ran B z.out t → Clausified B x (after_out t z)
out_clausified X Y = record { grows = X.grows; wf = X.wf; emitted = emitted_trans (omega (arith, Y.emitted.visits)) X.emitted Y.emitted; vars = Y.vars }

out_made : {B : Bounds} {x : Clausifier} {A : Type 0} (z : Clausifier) (f : Pool → E A) → Clausified B x z → Post (λ _ t. Ran B z.out t) (f z.pool z.out) → Post (λ _ y. Clausified B x y) (in_out f z)
out_made {B} {x} {A} z f X h = go h
  where
    go : {r : Res Out A} → Post (λ _ t. Ran B z.out t) r → Post (λ _ y. Clausified B x y) (back_out z r)
    go (gives Y) = gives (out_clausified X Y)
    go refuses = refuses

-- the conjuncts of an antecedent, sorted
record Parted (B : Bounds) (p : Pool) (s : Out) (parts : Parts) (t : Out) : Type 0 where
  ran : Ran B s t
  soft_in : Each (Held p) parts.soft
  hard_in : Each (Held p) parts.hard

pub conjuncts_in : (B : Bounds) (n c : ℕ) → c < n → (e : Concept) → Bounded B c e → Each (λ d. d < n) (conjuncts c e)
conjuncts_in B n c h Top u = (h, tt)
conjuncts_in B n c h Bot u = (h, tt)
conjuncts_in B n c h (Atomic _) u = (h, tt)
conjuncts_in B n c h (Nominal _) u = (h, tt)
conjuncts_in B n c h (SelfRestriction _) u = (h, tt)
conjuncts_in B n c h (Not _) u = (h, tt)
conjuncts_in B n c h (And l) u = each_map (λ d. d < c) (λ d. d < n) (λ d k. omega arith) l u
conjuncts_in B n c h (Or _) u = (h, tt)
conjuncts_in B n c h (Some _ _) u = (h, tt)
conjuncts_in B n c h (All _ _) u = (h, tt)
conjuncts_in B n c h (Min _ _ _) u = (h, tt)
conjuncts_in B n c h (Max _ _ _) u = (h, tt)

module _ (B : Bounds) (env : Env) (roles : RolesKept B env) where
  from_rooted : (x : ℕ) (s : Out) → 0 < x → Above B env s.next_fresh → Rooted B env (from_var x s)
  from_rooted x s h A = record { above = A; root = h }

  -- a rule that begins again at variable 1
  restart_made : {A : Type 0} (s : Out) (f : E A) → Above B env s.next_fresh → (Rooted B env (restarted s) → Post (λ _ t. Stepped B (restarted s) t) (f (restarted s))) → Post (λ _ t. Ran B s t) (then (restart_vars s) (λ _. f))
  restart_made s f A h = restart_post s f (post_map (h (from_rooted 1 s (omega arith) A)) (λ _ t X. from_stepped 1 s (omega arith) X))

  -- ---- rules that only read the pool
  module _ (pool : Pool) (wf : Wf B pool) where
    encode_x : (c : ℕ) (s : Out) → c < length pool → Rooted B env s → Post (λ o t. Encoded B s o t) (encode_antecedent env pool c 0 s)
    encode_x c s h R = encode_made B env pool roles wf (suc c) c 0 s h (le_refl (suc c)) R.root R.above

    emit_x : (b : List Atom) (c v : ℕ) (s : Out) → c < length pool → Rooted B env s → v < s.next_var → AtomsAt B s b → Post (λ _ t. Stepped B s t) (emit_head env pool b c v s)
    emit_x b c v s h R k X = emit_ready B env pool roles wf (suc c) b c v s h (le_refl (suc c)) (record { rooted = R; var = k; body = X })

    pub bodies_made : (l : Alternatives) (c : ℕ) (s : Out) → c < length pool → Rooted B env s → Each (AtomsAt B s) l → Post (λ _ t. Stepped B s t) (emit_bodies env pool l c s)
    unfolding emit_bodies
    bodies_made l c s h R u = for_each_lem (Stepped B s) (AtomsAt B s) (λ b. emit_head env pool b c 0)
        (λ b t i X. stepped_after X (emit_x b c 0 t h (rooted_more X R) (rooted_more X R).root (atoms_after X i))) l u s (stepped_refl B s)

    -- soft and hard conjuncts
    partition_made : (l soft hard : List ℕ) (s₀ s : Out) → Above B env s₀.next_fresh → Ran B s₀ s → Each (Held pool) l → Each (Held pool) soft → Each (Held pool) hard
        → Post (Parted B pool s₀) (partition env pool l soft hard s)
    unfolding partition
    partition_made [] soft hard s₀ s A X u v w = give (record { ran = X; soft_in = v; hard_in = w })
    partition_made (p ∷ l) soft hard s₀ s A X u v w =
        restart_post s (λ s. then (encode_antecedent env pool p 0 s) (λ o. sorted env (λ a b. partition env pool l a b) soft hard p o))
        (post_then (encode_x p (restarted s) u.0 (from_rooted 1 s (omega arith) (above_more X.emitted.fresh A)))
        (λ o t Y. go t (λ soft hard. partition_made l soft hard s₀ t A (ran_trans X (from_stepped 1 s (omega arith) Y.stepped)) u.1) o))
      where
        go : (t : Out) → ((soft hard : List ℕ) → Each (Held pool) soft → Each (Held pool) hard → Post (Parted B pool s₀) (partition env pool l soft hard t))
            → (o : Option Alternatives) → Post (Parted B pool s₀) (sorted env (λ a b. partition env pool l a b) soft hard p o t)
        go t rest none = rest soft (hard ++ (p ∷ [])) v (each_append (Held pool) hard (p ∷ []) w (u.0, tt))
        go t rest (some k) = rest (soft ++ (p ∷ [])) hard (each_append (Held pool) soft (p ∷ []) v (u.0, tt)) w

    bodies_or : (c : ℕ) (s t : Out) → c < length pool → Rooted B env s → (o : Option Alternatives) → Encoded B s o t → Post (λ _ u. Stepped B s u) (bodies_or_defer env pool c o t)
    bodies_or c s t h R none X = stepped_after X.stepped (defer_made B env Antecedent t)
    bodies_or c s t h R (some l) X = stepped_after X.stepped (bodies_made l c t h (rooted_more X.stepped R) X.alternatives.bodies)

    -- ---- disjoint pairs
    pair_one : (b : List Atom) (s : Out) → Each (AtomAt B s) b → (k : Bool) → in_hand b ≡ k → Post (λ _ t. Stepped B s t) (push_pair env b k s)
    pair_one b s u true e = push_made env s (record { each = u; short = leb-true (length b) most_in_hand e }) (atoms_none B s.next_fresh s.next_var)
    pair_one b s u false e = refuses

    pairs_made : (k l : Alternatives) (s : Out) → Each (AtomsAt B s) k → Each (AtomsAt B s) l → Post (λ _ t. Stepped B s t) (push_pairs env k l s)
    unfolding push_pairs
    pairs_made k l s u w = for_each_lem (Stepped B s) (AtomsAt B s) (λ a. for_each (λ b. push_pair env (a ++ b) (in_hand (a ++ b))) l)
        (λ a t i X. for_each_lem (Stepped B s) (AtomsAt B s) (λ b. push_pair env (a ++ b) (in_hand (a ++ b)))
        (λ b t j X. stepped_after X (pair_one (a ++ b) t (each_append (AtomAt B t) a b (atoms_after X i).each (atoms_after X j).each) (in_hand (a ++ b)) refl)) l w t X)
        k u s (stepped_refl B s)

    pair_with_lem : (other : E (Unit {0})) → ((s : Out) → Post (λ _ t. Stepped B s t) (other s)) → {s t u : Out} (k l : Option Alternatives) → Encoded B s k t → Encoded B t l u
        → Post (λ _ w. Stepped B s w) (pair_with env other k l u)
    pair_with_lem other h {u = u} none l X Y = stepped_after (stepped_trans X.stepped Y.stepped) (h u)
    pair_with_lem other h {u = u} (some k) none X Y = stepped_after (stepped_trans X.stepped Y.stepped) (h u)
    pair_with_lem other h {u = u} (some k) (some l) X Y = stepped_after (stepped_trans X.stepped Y.stepped)
        (pairs_made k l u (alternatives_more B Y.stepped.emitted.fresh Y.stepped.more k X.alternatives).bodies Y.alternatives.bodies)

    pub pair_made : (other : E (Unit {0})) → ((s : Out) → Post (λ _ t. Stepped B s t) (other s)) → (c d : ℕ) (s : Out) → c < length pool → d < length pool → Above B env s.next_fresh
        → Post (λ _ t. Ran B s t) (then (restart_vars s) (λ _ s. then (encode_antecedent env pool c 0 s) (λ a s. then (encode_antecedent env pool d 0 s) (λ b. pair_with env other a b))))
    pair_made other q c d s h k A = restart_made s (λ s. then (encode_antecedent env pool c 0 s) (λ a s. then (encode_antecedent env pool d 0 s) (λ b. pair_with env other a b))) A (λ R.
        post_then (encode_x c (restarted s) h R) (λ a t X.
        post_then (encode_x d t k (rooted_more X.stepped R)) (λ b u Y.
        pair_with_lem other q a b X Y)))

    -- ---- disjoint unions
    member_with_lem : (class : ℕ) (s t : Out) → class < s.next_fresh → Rooted B env s → (o : Option Alternatives) → Encoded B s o t → Post (λ _ u. Stepped B s u) (member_with env class o t)
    member_with_lem class s t h R none X = stepped_after X.stepped (defer_made B env DisjointUnionMember t)
    member_with_lem class s t h R (some l) X = stepped_after X.stepped (for_each_lem (Stepped B t) (AtomsAt B t) (λ b. push env b (Class class 0 ∷ []))
        (λ b u i Y. stepped_after Y (push_made env u (atoms_after Y i) (atoms_one B u.next_fresh u.next_var (Class class 0)
        (omega (arith, X.stepped.emitted.fresh, Y.emitted.fresh), omega (arith, R.root, X.stepped.more, Y.more))))) l X.alternatives.bodies t (stepped_refl B t))

    pub member_made : (class m : ℕ) (s : Out) → class < s.next_fresh → m < length pool → Above B env s.next_fresh
        → Post (λ _ t. Ran B s t) (then (restart_vars s) (λ _ s. then (encode_antecedent env pool m 0 s) (λ o. member_with env class o)))
    member_made class m s h k A = restart_made s (λ s. then (encode_antecedent env pool m 0 s) (λ o. member_with env class o)) A (λ R.
        post_then (encode_x m (restarted s) k R) (λ o t X. member_with_lem class (restarted s) t h R o X))

    pub cover_made : (class : ℕ) (l : List ℕ) (head : List Atom) (s : Out) → class < s.next_fresh → Rooted B env s → Each (Held pool) l → AtomsAt B s head
        → Post (λ _ t. Stepped B s t) (cover env pool class l head s)
    unfolding cover
    cover_made class [] head s h R u X = push_made env s (atoms_one B s.next_fresh s.next_var (Class class 0) (h, R.root)) X
    cover_made class (m ∷ l) head s h R u X = go (λ more Y. cover_made class l more s h R u.1 Y) (class_id_of env (at pool m)) (class_in_lem R.above m (at pool m) (wf m u.0))
      where
        go : ((more : List Atom) → AtomsAt B s more → Post (λ _ t. Stepped B s t) (cover env pool class l more s))
            → (o : Option ℕ) → ClassOr s.next_fresh o → Post (λ _ t. Stepped B s t) (cover_with env (λ more. cover env pool class l more) head o s)
        go rest none i = defer_made B env DisjointUnionCovering s
        go rest (some c) i = with_then head (Class c 0) s (λ more. cover env pool class l more) (λ short. rest (head ++ (Class c 0 ∷ [])) (atoms_with (Class c 0) X (i, R.root) short))

    -- ---- roles
    -- the concept at one end of a role
    end_made : (r : Role) (c v : ℕ) (s : Out) → RoleIn B r → c < length pool → v < 2 → Above B env s.next_fresh → Post (λ _ t. Ran B s t) (emit_head env pool (RoleAtom (canon env r) 0 1 ∷ []) c v (from_var 2 s))
    end_made r c v s i h k A = post_map (emit_x (RoleAtom (canon env r) 0 1 ∷ []) c v (from_var 2 s) h (from_rooted 2 s (omega arith) A) k
        (atoms_one B s.next_fresh 2 (RoleAtom (canon env r) 0 1) (roles r i, omega arith, omega arith))) (λ _ t X. from_stepped 2 s (omega arith) X)

    pub domain_made : (r : Role) (c : ℕ) (s : Out) → RoleIn B r → c < length pool → Above B env s.next_fresh → Post (λ _ t. Ran B s t) (domain env r c pool s)
    unfolding domain restart_vars fresh_var
    domain_made r c s i h A = end_made r c 0 s i h (omega arith) A

    pub range_made : (r : Role) (c : ℕ) (s : Out) → RoleIn B r → c < length pool → Above B env s.next_fresh → Post (λ _ t. Ran B s t) (range env r c pool s)
    unfolding range restart_vars fresh_var
    range_made r c s i h A = end_made r c 1 s i h (omega arith) A

    -- a clause over variables below x
    clause_ran : (x : ℕ) (b h : List Atom) (s : Out) → x ≤ 3 → AtomsIn B s.next_fresh x b → AtomsIn B s.next_fresh x h → Post (λ _ t. Ran B s t) (push env b h (from_var x s))
    clause_ran x b h s k X Y = post_map (push_made env (from_var x s) X Y) (λ _ t Z. from_stepped x s k Z)

    pub chain_made : (r₁ r₂ r₃ : Role) (s : Out) → RoleIn B r₁ → RoleIn B r₂ → RoleIn B r₃ → Post (λ _ t. Ran B s t) (chain env r₁ r₂ r₃ pool s)
    unfolding chain restart_vars fresh_var
    chain_made r₁ r₂ r₃ s i j k = clause_ran 3 (RoleAtom (canon env r₁) 0 1 ∷ RoleAtom (canon env r₂) 1 2 ∷ []) (RoleAtom (canon env r₃) 0 2 ∷ []) s (omega arith)
        (record { each = ((roles r₁ i, omega arith, omega arith), ((roles r₂ j, omega arith, omega arith), tt)); short = omega arith })
        (record { each = ((roles r₃ k, omega arith, omega arith), tt); short = omega arith })

    pub chain_of_lem : (sup : Role) (parts : List Role) (s : Out) → s.next_var ≤ s.visits + 3 → RoleIn B sup → Each (RoleIn B) parts → Post (λ _ t. Ran B s t) (chain_of env sup parts pool s)
    chain_of_lem sup [] s v i u = post_map (defer_made B env RoleChainLenNe2 s) (λ _ t X. stepped_ran v X)
    chain_of_lem sup (a ∷ []) s v i u = post_map (defer_made B env RoleChainLenNe2 s) (λ _ t X. stepped_ran v X)
    chain_of_lem sup (a ∷ b ∷ []) s v i u = chain_made a b sup s u.0 u.1.0 i
    chain_of_lem sup (a ∷ b ∷ c ∷ l) s v i u = post_map (defer_made B env RoleChainLenNe2 s) (λ _ t X. stepped_ran v X)

    pub irreflexive_made : (r : Role) (s : Out) → s.next_var ≤ s.visits + 3 → RoleIn B r → Post (λ _ t. Ran B s t) (push env (RoleAtom (canon env r) 0 0 ∷ []) [] s)
    irreflexive_made r s v i = push_post env (RoleAtom (canon env r) 0 0 ∷ []) [] s (record {
      emitted = pushed_emitted s (atoms_one B s.next_fresh (s.visits + 3) (RoleAtom (canon env r) 0 0) (roles r i, omega arith, omega arith)) (atoms_none B s.next_fresh (s.visits + 3));
      vars = v;
    })

    pub asymmetric_made : (r : Role) (s : Out) → RoleIn B r → Post (λ _ t. Ran B s t) (asymmetric env r pool s)
    unfolding asymmetric restart_vars fresh_var
    asymmetric_made r s i = clause_ran 2 (RoleAtom (canon env r) 0 1 ∷ RoleAtom (canon env r) 1 0 ∷ []) [] s (omega arith)
        (record { each = ((roles r i, omega arith, omega arith), ((roles r i, omega arith, omega arith), tt)); short = omega arith }) (atoms_none B s.next_fresh 2)

    pub roles_made : (p : Role × Role) (s : Out) → s.next_var ≤ s.visits + 3 → Both (RoleIn B) p → (b : Bool) → Post (λ _ t. Ran B s t) (disjoint_roles env p pool b s)
    unfolding restart_vars fresh_var
    roles_made p s v i true = give (ran_refl B s v)
    roles_made p s v i false = clause_ran 2 (RoleAtom (canon env p.0) 0 1 ∷ RoleAtom (canon env p.1) 0 1 ∷ []) [] s (omega arith)
        (record { each = ((roles p.0 i.0, omega arith, omega arith), ((roles p.1 i.1, omega arith, omega arith), tt)); short = omega arith }) (atoms_none B s.next_fresh 2)

  -- ---- rules that also make concepts
  -- x: where the axiom began
  module _ (x : Clausifier) (F : Fit B env x) where
    above_at : {z : Clausifier} → Clausified B x z → Above B env z.out.next_fresh
    above_at X = above_more X.emitted.fresh F.above

    grown_at : {z : Clausifier} {c : ℕ} → Clausified B x z → c < length x.pool → c < length z.pool
    grown_at X h = le_trans h (grown_length X.grows)

    -- ---- hard antecedents
    absorb_none_lem : (sub sup : ℕ) (hard : List ℕ) (z : Clausifier) → Clausified B x z → sub < length z.pool → sup < length z.pool → Post (λ _ y. Clausified B x y) (absorb_parts env sub sup [] hard z)
    unfolding absorb_parts
    absorb_none_lem sub sup hard z X h k =
        nnf_then z (nnf_complement sub) _ (complement_ran B sub (st_of z) X.wf h) (λ i t Y.
        let z₁ = after_nnf t z in
        let X₁ : Clausified B x z₁ = nnf_clausified X (all_one Y) in
        nnf_then z₁ (in_pool (mk_or (i ∷ sup ∷ []))) _ (or_in B (i ∷ sup ∷ []) (st_of z₁) X₁.wf (Y.made.held, (le_trans k (grown_length Y.made.grows), tt))) (λ head t Z.
        let z₂ = after_nnf t z₁ in
        let X₂ : Clausified B x z₂ = nnf_clausified X₁ (all_one Z) in
        out_made z₂ (λ pool. restart_vars >> emit_head env pool [] head 0) X₂ (restart_made z₂.out (emit_head env z₂.pool [] head 0) (above_at X₂) (λ R.
        emit_x z₂.pool X₂.wf [] head 0 (restarted z₂.out) Z.made.held R R.root (atoms_none B z₂.out.next_fresh 1)))))

    -- the soft conjuncts as one concept
    soft_then : {A : Type 0} {Q : A → Clausifier → Type 0} (a : ℕ) (soft : List ℕ) (z : Clausifier) (k : ℕ → C A) → Clausified B x z → Each (Held z.pool) (a ∷ soft)
        → ((g : ℕ) (y : Clausifier) → Clausified B x y → Grown z.pool y.pool → g < length y.pool → Post Q (k g y)) → Post Q (then (soft_and env (a ∷ soft) z) k)
    soft_then a [] z k X u h = h a z X (grown_refl z.pool) u.0
    soft_then a (b ∷ l) z k X u h = nnf_then z (in_pool (mk_and (a ∷ b ∷ l))) k (and_in B (a ∷ b ∷ l) (st_of z) X.wf u) (λ g t Y. h g (after_nnf t z) (nnf_clausified X (all_one Y)) Y.made.grows Y.made.held)

    absorb_some_lem : (sub sup a : ℕ) (soft hard : List ℕ) (z : Clausifier) → Clausified B x z → sup < length z.pool → Each (Held z.pool) (a ∷ soft) → Each (Held z.pool) hard
        → Post (λ _ y. Clausified B x y) (absorb_parts env sub sup (a ∷ soft) hard z)
    unfolding absorb_parts
    absorb_some_lem sub sup a soft hard z X k us uh =
        nnf_then z (each nnf_complement hard) _ (complements B hard (st_of z) X.wf uh) (λ negated t Y.
        let z₁ = after_nnf t z in
        let X₁ : Clausified B x z₁ = nnf_clausified X Y in
        nnf_then z₁ (in_pool (mk_or (negated ++ (sup ∷ [])))) _ (or_in B (negated ++ (sup ∷ [])) (st_of z₁) X₁.wf (each_append (Held t.pool) negated (sup ∷ []) Y.held (le_trans k (grown_length Y.grows), tt))) (λ head t Z.
        let z₂ = after_nnf t z₁ in
        let X₂ : Clausified B x z₂ = nnf_clausified X₁ (all_one Z) in
        soft_then a soft z₂ _ X₂ (each_grown (grown_trans Y.grows Z.made.grows) (a ∷ soft) us) (λ g z₃ X₃ G h.
        out_made z₃ (λ pool. restart_vars >> (encode_antecedent env pool g 0 >>= (λ o. bodies_or_defer env pool head o))) X₃
        (restart_made z₃.out (encode_antecedent env z₃.pool g 0 >>= (λ o. bodies_or_defer env z₃.pool head o)) (above_at X₃) (λ R.
        post_then (encode_x z₃.pool X₃.wf g (restarted z₃.out) h R) (λ o u W.
        bodies_or z₃.pool X₃.wf head (restarted z₃.out) u (le_trans Z.made.held (grown_length G)) R o W))))))

    absorb_parts_lem : (sub sup : ℕ) (soft hard : List ℕ) (z : Clausifier) → Clausified B x z → sub < length z.pool → sup < length z.pool → Each (Held z.pool) soft → Each (Held z.pool) hard
        → Post (λ _ y. Clausified B x y) (absorb_parts env sub sup soft hard z)
    absorb_parts_lem sub sup [] hard z X h k us uh = absorb_none_lem sub sup hard z X h k
    absorb_parts_lem sub sup (a ∷ soft) hard z X h k us uh = absorb_some_lem sub sup a soft hard z X k us uh

    pub absorb_made : (sub sup : ℕ) (z : Clausifier) → Clausified B x z → sub < length z.pool → sup < length z.pool → Post (λ _ y. Clausified B x y) (absorb_hard_antecedent env sub sup z)
    unfolding absorb_hard_antecedent
    absorb_made sub sup z X h k =
        out_then z (λ pool. partition env pool (conjuncts sub (at pool sub)) [] []) _
        (partition_made z.pool X.wf (conjuncts sub (at z.pool sub)) [] [] z.out z.out (above_at X) (ran_refl B z.out X.vars) (conjuncts_in B (length z.pool) sub h (at z.pool sub) (X.wf sub h)) tt tt)
        (λ parts t Y. absorb_parts_lem sub sup parts.soft parts.hard (after_out t z) (out_clausified X Y.ran) h k Y.soft_in Y.hard_in)

    -- ---- inclusions
    gci_with_lem : (sub sup : ℕ) (z : Clausifier) (t : Out) → Clausified B x z → sub < length z.pool → sup < length z.pool → (o : Option Alternatives) → Encoded B (restarted z.out) o t
        → Post (λ _ y. Clausified B x y) (gci_with env sub sup o (after_out t z))
    gci_with_lem sub sup z t X h k none Y = absorb_made sub sup (after_out t z) (out_clausified X (from_stepped 1 z.out (omega arith) Y.stepped)) h k
    gci_with_lem sub sup z t X h k (some l) Y =
        let Z : Ran B z.out t = from_stepped 1 z.out (omega arith) Y.stepped in
        out_made (after_out t z) (λ pool. emit_bodies env pool l sup) (out_clausified X Z)
        (post_map (bodies_made z.pool X.wf l sup t k (rooted_more Y.stepped (from_rooted 1 z.out (omega arith) (above_at X))) Y.alternatives.bodies) (λ _ u W. stepped_ran Z.vars W))

    pub gci_made : (sub sup : ℕ) (z : Clausifier) → Clausified B x z → sub < length x.pool → sup < length x.pool → Post (λ _ y. Clausified B x y) (clausify_gci env sub sup z)
    unfolding clausify_gci
    gci_made sub sup z X h k =
        out_then z (λ pool. restart_vars >> encode_antecedent env pool sub 0) _ (restart_post z.out (encode_antecedent env z.pool sub 0) (encode_x z.pool X.wf sub (restarted z.out) (grown_at X h) (from_rooted 1 z.out (omega arith) (above_at X))))
        (λ o t Y. gci_with_lem sub sup z t X (grown_at X h) (grown_at X k) o Y)

    -- ---- one axiom
    disjoint_made : (other : E (Unit {0})) → ((s : Out) → Post (λ _ t. Stepped B s t) (other s)) → (l : List ℕ) → Each (Held x.pool) l → (z : Clausifier) → Clausified B x z
        → Post (λ _ y. Clausified B x y) (for_each (disjoint_pair env other) (later_pairs l) z)
    unfolding disjoint_pair
    disjoint_made other q l u z X = for_each_lem (Clausified B x) (Both (Held x.pool)) (disjoint_pair env other)
        (λ p y i Y. out_made y (λ pool. restart_vars >> (encode_antecedent env pool p.0 0 >>= (λ a. encode_antecedent env pool p.1 0 >>= (λ b. pair_with env other a b)))) Y
        (pair_made y.pool Y.wf other q p.0 p.1 y.out (grown_at Y i.0) (grown_at Y i.1) (above_at Y)))
        (later_pairs l) (each_later (Held x.pool) l u) z X

    members_made : (class : ℕ) (l : List ℕ) → class < B.classes → Each (Held x.pool) l → (z : Clausifier) → Clausified B x z → Post (λ _ y. Clausified B x y) (for_each (union_member env class) l z)
    unfolding union_member
    members_made class l h u z X = for_each_lem (Clausified B x) (Held x.pool) (union_member env class)
        (λ m y i Y. out_made y (λ pool. restart_vars >> (encode_antecedent env pool m 0 >>= (λ o. member_with env class o))) Y
        (member_made y.pool Y.wf class m y.out ((above_at Y).classes class h) (grown_at Y i) (above_at Y)))
        l u z X

    axiom_from : (a : Axiom) → AxiomIn B (length x.pool) a → Clausified B x x → Post (λ _ y. Clausified B x y) (clausify_axiom env a x)
    unfolding clausify_axiom
    axiom_from (SubClassOf sub sup) i X = gci_made sub sup x X i.0 i.1
    axiom_from (EquivalentClasses l) i X = for_each_lem (Clausified B x) (Both (Held x.pool)) (λ p. clausify_gci env p.0 p.1) (λ p y j Y. gci_made p.0 p.1 y Y j.0 j.1) (ordered_pairs l)
        (each_ordered (Held x.pool) (numbered 0 l) (numbered 0 l) (each_numbered (Held x.pool) 0 l i) (each_numbered (Held x.pool) 0 l i)) x X
    axiom_from (DisjointClasses l) i X = disjoint_made (defer env DisjointAntecedent) (defer_made B env DisjointAntecedent) l i x X
    axiom_from (DisjointUnion class l) i X = post_then (disjoint_made (return tt) (λ s. give (stepped_refl B s)) l i.1 x X) (λ _ y Y.
        post_then (members_made class l i.0 i.1 y Y) (λ _ z Z.
        out_made z (λ pool. restart_vars >> cover env pool class l []) Z (restart_made z.out (cover env z.pool class l []) (above_at Z) (λ R.
        cover_made z.pool Z.wf class l [] (restarted z.out) ((above_at Z).classes class i.0) R (each_grown Z.grows l i.1) (atoms_none B z.out.next_fresh 1)))))
    axiom_from (ObjectPropertyDomain r c) i X = out_made x (domain env r c) X (domain_made x.pool F.wf r c x.out i.0 i.1 F.above)
    axiom_from (ObjectPropertyRange r c) i X = out_made x (range env r c) X (range_made x.pool F.wf r c x.out i.0 i.1 F.above)
    axiom_from (SubChain sup parts) i X = out_made x (chain_of env sup parts) X (chain_of_lem x.pool F.wf sup parts x.out F.vars i.0 i.1)
    axiom_from (TransitiveRole r) i X = out_made x (chain env r r r) X (chain_made x.pool F.wf r r r x.out i i i)
    axiom_from (IrreflexiveRole r) i X = out_made x (λ pool. push env (RoleAtom (canon env r) 0 0 ∷ []) []) X (irreflexive_made x.pool F.wf r x.out F.vars i)
    axiom_from (AsymmetricRole r) i X = out_made x (asymmetric env r) X (asymmetric_made x.pool F.wf r x.out i)
    axiom_from (DisjointObjectProperties l) i X = for_each_lem (Clausified B x) (Both (RoleIn B)) (λ p. in_out (λ pool. disjoint_roles env p pool (eqb (role_code p.0) (role_code p.1))))
        (λ p y j Y. out_made y (λ pool. disjoint_roles env p pool (eqb (role_code p.0) (role_code p.1))) Y (roles_made y.pool Y.wf p y.out Y.vars j (eqb (role_code p.0) (role_code p.1))))
        (later_pairs l) (each_later (RoleIn B) l i) x X
    axiom_from (InverseObjectProperties _ _) i X = give X
    axiom_from (SubObjectPropertyOf _ _) i X = give X
    axiom_from (EquivalentObjectProperties _) i X = give X
    axiom_from (ReflexiveRole _) i X = give X
    axiom_from (ClassAssertion _ _) i X = give X

  pub axiom_made : (a : Axiom) (z : Clausifier) → Fit B env z → AxiomIn B (length z.pool) a → Post (λ _ y. Clausified B z y) (clausify_axiom env a z)
  axiom_made a z F i = axiom_from z F a i (clausified_refl z F)
