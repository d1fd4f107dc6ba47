-- Sets for the classes: valuations that agree below a class id give the atoms and clauses below it the same truth. Assumes
-- nothing.
use Rattle.std.specs.Prelude.{◌≡◌, refl, Bool, ◌&&◌, ◌||◌, List, [], ◌∷◌, ℕ, ◌≤◌, ◌<◌, leb}
use Rattle.std.proofs.Common.{sym, ap, ap₂, ◌∙◌, arith}
use Rattle.ir.specs.declared.atom.Atom.{Atom}
use Rattle.ir.specs.declared.atom.Atom.TheVariants.{Class, Exists, AtMost, AtLeast, Equal, Role as RoleAtom}
use Rattle.ir.specs.Qualifiers.{Qualifier}
use Rattle.std.specs.Prelude.{None, Some}
use Rattle.rules.specs.Base.{all, any}
use Rattle.rules.specs.State.{Clause}
use Rattle.rules.specs.Invariants.{Each, Bounds, QualifierIn, AtomIn, ClauseIn}
use Rattle.rules.specs.Semantics.{Interpretation, with_classes, elements, related, qualifies, count, atom_holds}
use Rattle.rules.proofs.EmitLaws.{qualifier_more}
use Rattle.meaning.specs.Choices.{Follows}

-- a set for each class id
abbrev pub Valuation : Type 0
Valuation = ℕ → ℕ → Bool

-- valuations that agree on the classes below n
pub record Agree (n : ℕ) (k l : Valuation) : Type 0 where
  pub same : (c : ℕ) → c < n → k c ≡ l c

pub agree_refl : (n : ℕ) (k : Valuation) → Agree n k k
agree_refl n k = record { same = λ c h. refl }

pub agree_sym : {n : ℕ} {k l : Valuation} → Agree n k l → Agree n l k
agree_sym a = record { same = λ c h. sym (a.same c h) }

pub agree_trans : {n m : ℕ} {k l j : Valuation} → n ≤ m → Agree n k l → Agree m l j → Agree n k j
agree_trans h a b = record { same = λ c u. a.same c u ∙ b.same c (omega arith) }

-- ---- the classes that an atom names are below n
abbrev pub AtomUnder : ℕ → Atom → Type 0
AtomUnder n (Class c v) = c < n
AtomUnder n (RoleAtom r u v) = Unit {0}
AtomUnder n (Exists r c v) = c < n
AtomUnder n (AtMost r q k v) = QualifierIn n q
AtomUnder n (AtLeast r q k v) = QualifierIn n q
AtomUnder n (Equal u v) = Unit {0}

pub record ClauseUnder (n : ℕ) (c : Clause) : Type 0 where
  pub body : Each (AtomUnder n) c.body
  pub head : Each (AtomUnder n) c.head

pub each_of_lem : {A : Type 0} {P Q : A → Type 0} → ((a : A) → P a → Q a) → (l : List A) → Each P l → Each Q l
each_of_lem h [] u = tt
each_of_lem h (a ∷ l) u = (h a u.0, each_of_lem h l u.1)

pub atom_under_more : {m n : ℕ} → m ≤ n → (a : Atom) → AtomUnder m a → AtomUnder n a
atom_under_more h (Class c v) u = omega arith
atom_under_more h (RoleAtom r x v) u = tt
atom_under_more h (Exists r c v) u = omega arith
atom_under_more h (AtMost r q k v) u = qualifier_more h q u
atom_under_more h (AtLeast r q k v) u = qualifier_more h q u
atom_under_more h (Equal x v) u = tt

pub clause_under_more : {m n : ℕ} → m ≤ n → (c : Clause) → ClauseUnder m c → ClauseUnder n c
clause_under_more h c u = record { body = each_of_lem (atom_under_more h) c.body u.body; head = each_of_lem (atom_under_more h) c.head u.head }

-- the rules' own invariant gives it
atom_in_under : (B : Bounds) (n vars : ℕ) (a : Atom) → AtomIn B n vars a → AtomUnder n a
atom_in_under B n vars (Class c v) u = u.0
atom_in_under B n vars (RoleAtom r x v) u = tt
atom_in_under B n vars (Exists r c v) u = u.1
atom_in_under B n vars (AtMost r q k v) u = u.1
atom_in_under B n vars (AtLeast r q k v) u = u.1
atom_in_under B n vars (Equal x v) u = tt

pub clause_in_under : (B : Bounds) (n vars : ℕ) (c : Clause) → ClauseIn B n vars c → ClauseUnder n c
clause_in_under B n vars c u = record { body = each_of_lem (atom_in_under B n vars) c.body u.body_in; head = each_of_lem (atom_in_under B n vars) c.head u.head_in }

-- ---- what agrees gives the same truth
module _ (I : Interpretation) where
  qualifier_agree : {n : ℕ} {k l : Valuation} → Agree n k l → (q : Qualifier) → QualifierIn n q → qualifies (with_classes I k) q ≡ qualifies (with_classes I l) q
  qualifier_agree a None u = refl
  qualifier_agree a (Some c) u = a.same c u

  pub holds_agree : {n : ℕ} {k l : Valuation} → Agree n k l → (f : ℕ → ℕ) (x : Atom) → AtomUnder n x → atom_holds (with_classes I k) f x ≡ atom_holds (with_classes I l) f x
  holds_agree a f (Class c v) u = ap (λ g. g (f v)) (a.same c u)
  holds_agree a f (RoleAtom r x v) u = refl
  holds_agree a f (Exists r c v) u = ap (λ g. any (λ y. related I r (f v) y && g y) (elements I)) (a.same c u)
  holds_agree a f (AtMost r q n v) u = ap (λ g. leb (count (λ y. related I r (f v) y && g y) (elements I)) n) (qualifier_agree a q u)
  holds_agree a f (AtLeast r q n v) u = ap (λ g. leb n (count (λ y. related I r (f v) y && g y) (elements I))) (qualifier_agree a q u)
  holds_agree a f (Equal x v) u = refl

  pub all_agree : {n : ℕ} {k l : Valuation} → Agree n k l → (f : ℕ → ℕ) (b : List Atom) → Each (AtomUnder n) b → all (atom_holds (with_classes I k) f) b ≡ all (atom_holds (with_classes I l) f) b
  all_agree a f [] u = refl
  all_agree a f (x ∷ b) u = ap₂ ◌&&◌ (holds_agree a f x u.0) (all_agree a f b u.1)

  pub any_agree : {n : ℕ} {k l : Valuation} → Agree n k l → (f : ℕ → ℕ) (b : List Atom) → Each (AtomUnder n) b → any (atom_holds (with_classes I k) f) b ≡ any (atom_holds (with_classes I l) f) b
  any_agree a f [] u = refl
  any_agree a f (x ∷ b) u = ap₂ ◌||◌ (holds_agree a f x u.0) (any_agree a f b u.1)

  pub follows_agree : {n : ℕ} {k l : Valuation} → Agree n k l → (c : Clause) → ClauseUnder n c → Follows (with_classes I k) c → Follows (with_classes I l) c
  follows_agree a c u h = record { follows = λ f g b. sym (any_agree a f c.head u.head) ∙ h.follows f g (all_agree a f c.body u.body ∙ b) }

  pub follow_agree : {n : ℕ} {k l : Valuation} → Agree n k l → (cs : List Clause) → Each (ClauseUnder n) cs → Each (Follows (with_classes I k)) cs → Each (Follows (with_classes I l)) cs
  follow_agree a [] u h = tt
  follow_agree a (c ∷ cs) u h = (follows_agree a c u.0 h.0, follow_agree a cs u.1 h.1)
