-- What encodeAntecedent does: it takes variables and nothing else, and its alternatives are within bounds, at most 64 of them
-- and none too long to hold in hand. Also: the map of inverses names declared roles only.
use Rattle.std.specs.Prelude.{◌≡◌, refl, Bool, false, length, leb, eqb}
use Rattle.std.proofs.Common.{◌∙◌, not-suc-le-zero, le_trans}
use Rattle.std.proofs.Math.Bool.{true}
use mathlib.Core.List.{List, [], ◌∷◌, ◌++◌, map}
use Rattle.std.proofs.Math.Option.{Option, none, some}
use Prim.Native.Nat.{ℕ, zero, suc, ◌+◌, ◌≤◌, ◌<◌}
use native.Mathlib.Omega.{arith}
use Rattle.std.proofs.lemmas.List.{length-map}
use Rattle.std.specs.Cmp.{first_so, second_so}
use borrow.Author.Tests.{leb-true}
use Rattle.ir.specs.Pick.{pick}
use Rattle.ir.specs.Roles.{role_id, is_inverse, flipped, flip_id}
use Rattle.ir.specs.declared.role.Role.{Role}
use Rattle.ir.specs.declared.atom.Atom.{Atom}
use Rattle.ir.specs.declared.atom.Atom.TheVariants.{Class, Role as RoleAtom}
use Rattle.rules.specs.Base.{ok, then, all}
use Rattle.rules.specs.Concept.{Concept, Axiom}
use Rattle.rules.specs.Concept.{Top, Bot, Atomic, Nominal, SelfRestriction, Not, And, Or, Some, All, Min, Max}
use Rattle.rules.specs.Concept.{SubClassOf, EquivalentClasses, DisjointClasses, DisjointUnion, ObjectPropertyDomain, ObjectPropertyRange, SubChain, TransitiveRole, IrreflexiveRole, AsymmetricRole, DisjointObjectProperties, InverseObjectProperties, SubObjectPropertyOf, EquivalentObjectProperties, ReflexiveRole, ClassAssertion}
use Rattle.rules.specs.Pool.{Pool, at}
use Rattle.rules.specs.Inverse.{InverseCanon, lookup, skipped, declared, inverse_of, build_from, build_inverse_canon, canon_of, canon_role, stays, follow_by, inverse_canon_of}
use Rattle.rules.proofs.FollowLaws.{followed_step}
use Rattle.rules.specs.State.{Env, Out, E, canon, fresh_var, most_in_hand}
use Rattle.rules.specs.Antecedents.{Alternatives, antecedent_dnf_cap, cross, in_hand, within, and_with, encode_and, or_with, encode_or, some_with, encode_step, encode_by}
use Rattle.rules.specs.Invariants.{Each, Bounds, RoleIn, Bounded, Wf, AxiomIn, AtomIn}
use Rattle.rules.specs.Post.{Post, give, refuses, post_then}
use Rattle.rules.proofs.EmitLaws.{AtomsIn, atoms_more, atoms_none, atoms_one, Stepped, stepped_trans, visited, with_var, visited_stepped, visited_var, visit_then, above_after, AtomAt, AtomsAt}
use Rattle.rules.specs.Handed.{RolesKept, Above}
use Rattle.rules.specs.EachLaws.{each_map, each_append}

-- ---- the map of inverses
flipped_in : (B : Bounds) (r : Role) → RoleIn B r → RoleIn B (flipped r)
flipped_in B r h = rw flip_id h

-- each value is a declared role
abbrev Mapped : Bounds → InverseCanon → Type 0
Mapped B m = Each (λ e. RoleIn B e.value) m

abbrev RoleOr : Bounds → Option Role → Type 0
RoleOr B none = Unit {0}
RoleOr B (some r) = RoleIn B r

lookup_in : (B : Bounds) (m : InverseCanon) (k : ℕ) → Mapped B m → RoleOr B (lookup m k)
unfolding lookup
lookup_in B [] k u = tt
lookup_in B (e ∷ m) k u = go (eqb e.key k) (lookup_in B m k u.1)
  where
    go : (b : Bool) → RoleOr B (lookup m k) → RoleOr B (pick b (some e.value) (lookup m k))
    go true h = u.0
    go false h = h

canon_of_lem : (B : Bounds) (r : Role) → RoleIn B r → (o : Option Role) → RoleOr B o → RoleIn B (canon_of r o)
canon_of_lem B r h none u = h
canon_of_lem B r h (some c) u = go (is_inverse r)
  where
    go : (b : Bool) → RoleIn B (pick b (flipped c) c)
    go true = flipped_in B c u
    go false = u

declared_in : (B : Bounds) (m : InverseCanon) (r s : Role) → RoleIn B r → Mapped B m → Mapped B (declared m r s)
declared_in B m r s h u = go (skipped m r s)
  where
    go : (b : Bool) → Mapped B (pick b m (record { key = role_id s; value = flipped r } ∷ m))
    go true = u
    go false = (flipped_in B r h, u)

inverse_in : (B : Bounds) (n : ℕ) (m : InverseCanon) (a : Axiom) → AxiomIn B n a → Mapped B m → Mapped B (inverse_of m a)
inverse_in B n m (SubClassOf _ _) h u = u
inverse_in B n m (EquivalentClasses _) h u = u
inverse_in B n m (DisjointClasses _) h u = u
inverse_in B n m (DisjointUnion _ _) h u = u
inverse_in B n m (ObjectPropertyDomain _ _) h u = u
inverse_in B n m (ObjectPropertyRange _ _) h u = u
inverse_in B n m (SubChain _ _) h u = u
inverse_in B n m (TransitiveRole _) h u = u
inverse_in B n m (IrreflexiveRole _) h u = u
inverse_in B n m (AsymmetricRole _) h u = u
inverse_in B n m (DisjointObjectProperties _) h u = u
inverse_in B n m (InverseObjectProperties r s) h u = declared_in B m r s h.0 u
inverse_in B n m (SubObjectPropertyOf _ _) h u = u
inverse_in B n m (EquivalentObjectProperties _) h u = u
inverse_in B n m (ReflexiveRole _) h u = u
inverse_in B n m (ClassAssertion _ _) h u = u

build_in : (B : Bounds) (n : ℕ) (m : InverseCanon) (l : List Axiom) → Each (AxiomIn B n) l → Mapped B m → Mapped B (build_from m l)
unfolding build_from
build_in B n m [] h u = u
build_in B n m (a ∷ l) h u = build_in B n (inverse_of m a) l h.1 (inverse_in B n m a h.0 u)

step_in : (B : Bounds) (m : InverseCanon) → Mapped B m → (r : Role) → RoleIn B r → RoleIn B (canon_role m r)
unfolding canon_role
step_in B m u r i = canon_of_lem B r i (lookup m (role_id r)) (lookup_in B m (role_id r) u)

follow_in : (B : Bounds) (n : ℕ) (m : InverseCanon) → Mapped B m → (r : Role) → RoleIn B r → RoleIn B (follow_by n m r)
unfolding follow_by
follow_in B zero m u r i = i
follow_in B (suc n) m u r i = go (stays m (role_id r)) (follow_in B n m u (canon_role m r) (step_in B m u r i))
  where
    go : (b : Bool) → RoleIn B (follow_by n m (canon_role m r)) → RoleIn B (pick b r (follow_by n m (canon_role m r)))
    go true h = i
    go false h = h

pub canon_in : (B : Bounds) (n : ℕ) (far : Bool) (l : List Axiom) → Each (AxiomIn B n) l → (r : Role) → RoleIn B r → RoleIn B (canon_role (inverse_canon_of far l) r)
canon_in B n false l h r i = step_in B (build_inverse_canon l) (build_in B n [] l h tt) r i
canon_in B n true l h r i = rw (followed_step (build_inverse_canon l) r) (follow_in B (length (build_inverse_canon l)) (build_inverse_canon l) (build_in B n [] l h tt) r i)

-- ---- alternatives
pub record AlternativesIn (B : Bounds) (fresh vars : ℕ) (l : Alternatives) : Type 0 where
  pub bodies : Each (AtomsIn B fresh vars) l
  pub few : length l ≤ antecedent_dnf_cap

abbrev pub AnyIn : Bounds → ℕ → ℕ → Option Alternatives → Type 0
AnyIn B fresh vars none = Unit {0}
AnyIn B fresh vars (some l) = AlternativesIn B fresh vars l

-- an encoding from s to t
pub record Encoded (B : Bounds) (s : Out) (o : Option Alternatives) (t : Out) : Type 0 where
  pub stepped : Stepped B s t
  pub clauses : t.clauses ≡ s.clauses
  pub fresh : t.next_fresh ≡ s.next_fresh
  pub deferrals : t.deferrals ≡ s.deferrals
  pub alternatives : AnyIn B t.next_fresh t.next_var o

-- nothing but visits and variables
visited_encoded : {B : Bounds} {o : Option Alternatives} (s : Out) → s.visits < s.limit → AnyIn B s.next_fresh s.next_var o → Encoded B s o (visited s)
visited_encoded {B} s h u = record { stepped = visited_stepped B s h; clauses = refl; fresh = refl; deferrals = refl; alternatives = u }

var_encoded : (B : Bounds) (s : Out) → s.visits < s.limit → Encoded B s none (with_var (visited s))
var_encoded B s h = record { stepped = visited_var B s h; clauses = refl; fresh = refl; deferrals = refl; alternatives = tt }

pub encoded_trans : {B : Bounds} {s t u : Out} {o o₁ o₂ : Option Alternatives} → Encoded B s o t → Encoded B t o₁ u → AnyIn B u.next_fresh u.next_var o₂ → Encoded B s o₂ u
encoded_trans X Y a = record { stepped = stepped_trans X.stepped Y.stepped; clauses = Y.clauses ∙ X.clauses; fresh = Y.fresh ∙ X.fresh; deferrals = Y.deferrals ∙ X.deferrals; alternatives = a }

-- ---- lists of bodies
each_before : (P : Atom → Type 0) (a : List Atom) (k : Alternatives) → Each P a → Each (Each P) k → Each (Each P) (map (λ b. a ++ b) k)
each_before P a [] u v = tt
each_before P a (b ∷ k) u v = (each_append P a b u v.0, each_before P a k u v.1)

pub each_one : (P : Atom → Type 0) (a : Atom) (k : Alternatives) → P a → Each (Each P) k → Each (Each P) (map (λ b. a ∷ b) k)
each_one P a [] u v = tt
each_one P a (b ∷ k) u v = ((u, v.0), each_one P a k u v.1)

pub each_cross : (P : Atom → Type 0) (l k : Alternatives) → Each (Each P) l → Each (Each P) k → Each (Each P) (cross l k)
unfolding cross
each_cross P [] k u v = tt
each_cross P (a ∷ l) k u v = each_append (Each P) (map (λ b. a ++ b) k) (cross l k) (each_before P a k u.0 v) (each_cross P l k u.1 v)

module _ (B : Bounds) where
  atoms_of : (m u : ℕ) (l : Alternatives) → Each (AtomsIn B m u) l → Each (Each (AtomIn B m u)) l
  atoms_of m u l h = each_map (AtomsIn B m u) (Each (AtomIn B m u)) (λ b x. x.each) l h

  -- bodies that passed the test of their lengths
  held : (m u : ℕ) (l : Alternatives) → Each (Each (AtomIn B m u)) l → all in_hand l ≡ true → Each (AtomsIn B m u) l
  held m u [] h e = tt
  held m u (b ∷ l) h e = (record { each = h.0; short = leb-true (length b) most_in_hand (first_so (in_hand b) (all in_hand l) e) }, held m u l h.1 (second_so (in_hand b) (all in_hand l) e))

  pub alternatives_more : {m n u v : ℕ} → m ≤ n → u ≤ v → (l : Alternatives) → AlternativesIn B m u l → AlternativesIn B n v l
  alternatives_more {m} {n} {u} {v} h k l A = record { bodies = each_map (AtomsIn B m u) (AtomsIn B n v) (λ b x. atoms_more h k x) l A.bodies; few = A.few }

  -- the alternatives of one step, after another
  earlier : {s t u : Out} {l : Alternatives} {o : Option Alternatives} → Encoded B s (some l) t → Encoded B t o u → AlternativesIn B u.next_fresh u.next_var l
  earlier {l = l} X Y = alternatives_more Y.stepped.emitted.fresh Y.stepped.more l X.alternatives

  within_post : {Q : Option Alternatives → Out → Type 0} (long few : Bool) (l : Alternatives) (rest : Alternatives → E (Option Alternatives)) (s : Out)
      → Q none s → (long ≡ true → few ≡ true → Post Q (rest l s)) → Post Q (within long few l rest s)
  within_post false few l rest s q h = refuses
  within_post true false l rest s q h = give q
  within_post true true l rest s q h = h refl refl

  module _ (env : Env) (pool : Pool) (roles : RolesKept B env) where
    -- a rule that encodes the concepts below n
    abbrev Encodes : ℕ → (ℕ → ℕ → E (Option Alternatives)) → Type 0
    Encodes n encode = (c v : ℕ) (s : Out) → c < n → v < s.next_var → Above B env s.next_fresh → Post (λ o t. Encoded B s o t) (encode c v s)

    module _ (encode : ℕ → ℕ → E (Option Alternatives)) (n : ℕ) (W : Encodes n encode) where
      and_made : (l : List ℕ) (v : ℕ) (acc : Alternatives) (s₀ s : Out) → Each (λ c. c < n) l → v < s₀.next_var → Above B env s₀.next_fresh → Encoded B s₀ (some acc) s
          → Post (λ o t. Encoded B s₀ o t) (encode_and env pool encode l v acc s)
      unfolding encode_and
      and_made [] v acc s₀ s u h A X = give X
      and_made (c ∷ l) v acc s₀ s u h A X = post_then (W c v s u.0 (le_trans h X.stepped.more) (above_after X.stepped A))
          (λ o s₁ Y. go (λ next s₁ Z. and_made l v next s₀ s₁ u.1 h A Z) o s₁ Y)
        where
          go : ((next : Alternatives) (s₁ : Out) → Encoded B s₀ (some next) s₁ → Post (λ o t. Encoded B s₀ o t) (encode_and env pool encode l v next s₁))
              → (o : Option Alternatives) (s₁ : Out) → Encoded B s o s₁ → Post (λ o t. Encoded B s₀ o t) (and_with env pool encode (λ next. encode_and env pool encode l v next) acc o s₁)
          go rest none s₁ Y = give (encoded_trans X Y tt)
          go rest (some k) s₁ Y = within_post (all in_hand (cross acc k)) (leb (length (cross acc k)) antecedent_dnf_cap) (cross acc k) (λ next. encode_and env pool encode l v next) s₁
              (encoded_trans X Y tt) (λ a b. rest (cross acc k) s₁ (encoded_trans X Y (record {
                bodies = held s₁.next_fresh s₁.next_var (cross acc k) (each_cross (AtomAt B s₁) acc k (atoms_of s₁.next_fresh s₁.next_var acc (earlier X Y).bodies) (atoms_of s₁.next_fresh s₁.next_var k Y.alternatives.bodies)) a;
                few = leb-true (length (cross acc k)) antecedent_dnf_cap b;
              })))

      or_made : (l : List ℕ) (v : ℕ) (acc : Alternatives) (s₀ s : Out) → Each (λ c. c < n) l → v < s₀.next_var → Above B env s₀.next_fresh → Encoded B s₀ (some acc) s
          → Post (λ o t. Encoded B s₀ o t) (encode_or env pool encode l v acc s)
      unfolding encode_or
      or_made [] v acc s₀ s u h A X = give X
      or_made (c ∷ l) v acc s₀ s u h A X = post_then (W c v s u.0 (le_trans h X.stepped.more) (above_after X.stepped A))
          (λ o s₁ Y. go (λ next s₁ Z. or_made l v next s₀ s₁ u.1 h A Z) o s₁ Y)
        where
          go : ((next : Alternatives) (s₁ : Out) → Encoded B s₀ (some next) s₁ → Post (λ o t. Encoded B s₀ o t) (encode_or env pool encode l v next s₁))
              → (o : Option Alternatives) (s₁ : Out) → Encoded B s o s₁ → Post (λ o t. Encoded B s₀ o t) (or_with env pool encode (λ next. encode_or env pool encode l v next) acc o s₁)
          go rest none s₁ Y = give (encoded_trans X Y tt)
          go rest (some k) s₁ Y = within_post true (leb (length (acc ++ k)) antecedent_dnf_cap) (acc ++ k) (λ next. encode_or env pool encode l v next) s₁
              (encoded_trans X Y tt) (λ a b. rest (acc ++ k) s₁ (encoded_trans X Y (record {
                bodies = each_append (AtomsAt B s₁) acc k (earlier X Y).bodies Y.alternatives.bodies;
                few = leb-true (length (acc ++ k)) antecedent_dnf_cap b;
              })))

      some_made : (r : Role) (d v : ℕ) (s : Out) → s.visits < s.limit → RoleIn B r → d < n → v < s.next_var → Above B env s.next_fresh
          → Post (λ o t. Encoded B s o t) (then (encode d s.next_var (with_var (visited s))) (λ o. some_with env pool encode (RoleAtom (canon env r) v s.next_var) o))
      some_made r d v s able i h k A = post_then (W d s.next_var (with_var (visited s)) h (omega arith) A) (λ o t Y. go o t Y)
        where
          go : (o : Option Alternatives) (t : Out) → Encoded B (with_var (visited s)) o t → Post (λ o t. Encoded B s o t) (some_with env pool encode (RoleAtom (canon env r) v s.next_var) o t)
          go none t Y = give (encoded_trans (var_encoded B s able) Y tt)
          go (some l) t Y = within_post (all in_hand (map (λ b. RoleAtom (canon env r) v s.next_var ∷ b) l)) true (map (λ b. RoleAtom (canon env r) v s.next_var ∷ b) l) (λ l s. ok (some l) s) t
              (encoded_trans (var_encoded B s able) Y tt) (λ a b. give (encoded_trans (var_encoded B s able) Y (record {
                bodies = held t.next_fresh t.next_var (map (λ b. RoleAtom (canon env r) v s.next_var ∷ b) l) (each_one (AtomAt B t) (RoleAtom (canon env r) v s.next_var) l
                    (roles r i, omega (arith, Y.stepped.more), omega (arith, Y.stepped.more)) (atoms_of t.next_fresh t.next_var l Y.alternatives.bodies)) a;
                few = rw length-map Y.alternatives.few;
              })))

      -- the rest of an encoding, after its visit
      step_made : (v : ℕ) (s : Out) → s.visits < s.limit → v < s.next_var → Above B env s.next_fresh → (e : Concept) → Bounded B n e
          → Post (λ o t. Encoded B s o t) (encode_step env pool encode v e (visited s))
      unfolding encode_step fresh_var
      step_made v s able h A Top u = give (visited_encoded s able (record { bodies = (atoms_none B s.next_fresh s.next_var, tt); few = omega arith }))
      step_made v s able h A Bot u = give (visited_encoded s able tt)
      step_made v s able h A (Atomic a) u = give (visited_encoded s able (record { bodies = (atoms_one B s.next_fresh s.next_var (Class a v) (A.classes a u, h), tt); few = omega arith }))
      step_made v s able h A (Nominal i) u = give (visited_encoded s able (record { bodies = (atoms_one B s.next_fresh s.next_var (Class (env.nominal_base + i) v) (A.individuals i u, h), tt); few = omega arith }))
      step_made v s able h A (SelfRestriction r) u = give (visited_encoded s able tt)
      step_made v s able h A (Not c) u = give (visited_encoded s able tt)
      step_made v s able h A (And l) u = and_made l v ([] ∷ []) s (visited s) u h A (visited_encoded s able (record { bodies = (atoms_none B s.next_fresh s.next_var, tt); few = omega arith }))
      step_made v s able h A (Or l) u = or_made l v [] s (visited s) u h A (visited_encoded s able (record { bodies = tt; few = omega arith }))
      step_made v s able h A (Some r d) u = some_made r d v s able u.0 u.1 h A
      step_made v s able h A (All r c) u = give (visited_encoded s able tt)
      step_made v s able h A (Min k r c) u = give (visited_encoded s able tt)
      step_made v s able h A (Max k r c) u = give (visited_encoded s able tt)

    pub encode_made : Wf B pool → (f c v : ℕ) (s : Out) → c < length pool → c < f → v < s.next_var → Above B env s.next_fresh → Post (λ o t. Encoded B s o t) (encode_by env pool f c v s)
    unfolding encode_by
    encode_made wf zero c v s k h w A = absurd (not-suc-le-zero h)
    encode_made wf (suc f) c v s k h w A = go (λ d u t i. encode_made wf f d u t (le_trans i (omega arith)) (le_trans i (omega arith)))
      where
        go : Encodes c (λ d u. encode_by env pool f d u) → Post (λ o t. Encoded B s o t) (encode_by env pool (suc f) c v s)
        go ih = visit_then s (λ _. encode_step env pool (λ d u. encode_by env pool f d u) v (at pool c)) (λ able. step_made (λ d u. encode_by env pool f d u) c ih v s able w A (at pool c) (wf c k))
