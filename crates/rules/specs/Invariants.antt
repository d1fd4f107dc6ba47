-- What holds of every run, as types: pools, normal forms, atoms and clauses within their bounds. The laws are proved in the
-- files that are named for the rules' own (PoolLaws, NormalizeLaws, ..).
use Rattle.std.specs.Prelude.{◌≡◌, List, [], ◌∷◌, ◌++◌, ℕ, zero, suc, ◌+◌, ◌<◌, ◌≤◌, length}
use Rattle.ir.specs.Roles.{role_id}
use Rattle.ir.specs.declared.role.Role.{Role}
use Rattle.ir.specs.declared.atom.Atom.{Atom}
use Rattle.ir.specs.declared.atom.Atom.TheVariants.{Class, Exists, AtMost, AtLeast, Equal, Role as RoleAtom}
use Rattle.ir.specs.Qualifiers.{Qualifier}
use Rattle.std.specs.Prelude.{None, Some}
use Rattle.rules.specs.Text.{most_number}
use Rattle.rules.specs.Concept.{Concept, Axiom}
use Rattle.rules.specs.Concept.{Top, Bot, Atomic, Nominal, SelfRestriction, Not, And, Or, Some, All, Min, Max}
use Rattle.rules.specs.Concept.{SubClassOf, EquivalentClasses, DisjointClasses, DisjointUnion, ObjectPropertyDomain, ObjectPropertyRange, SubChain, TransitiveRole, IrreflexiveRole, AsymmetricRole, DisjointObjectProperties, InverseObjectProperties, SubObjectPropertyOf, EquivalentObjectProperties, ReflexiveRole, ClassAssertion}
use Rattle.rules.specs.Pool.{Pool, at}
use Rattle.rules.specs.State.{Clause, Deferred, Limit, Out, most_in_hand}

-- P of each element
abbrev pub Each : {A : Type 0} → (A → Type 0) → List A → Type 0
Each P [] = Unit {0}
Each P (x ∷ l) = P x × Each P l

-- what may be named: classes, individuals and roles below these
pub record Bounds : Type 0 where
  pub classes : ℕ
  pub individuals : ℕ
  pub roles : ℕ

-- with classes below n instead
abbrev pub up_to : Bounds → ℕ → Bounds
up_to B n = record { classes = n; individuals = B.individuals; roles = B.roles }

abbrev pub RoleIn : Bounds → Role → Type 0
RoleIn B r = role_id r < B.roles

-- ---- pools
-- a record at place n names earlier ids, and numbers that the Rust can form and negate
abbrev pub Bounded : Bounds → ℕ → Concept → Type 0
Bounded B n Top = Unit {0}
Bounded B n Bot = Unit {0}
Bounded B n (Atomic a) = a < B.classes
Bounded B n (Nominal i) = i < B.individuals
Bounded B n (SelfRestriction r) = RoleIn B r
Bounded B n (Not c) = c < n
Bounded B n (And l) = Each (λ c. c < n) l
Bounded B n (Or l) = Each (λ c. c < n) l
Bounded B n (Some r c) = RoleIn B r × (c < n)
Bounded B n (All r c) = RoleIn B r × (c < n)
Bounded B n (Min k r c) = (k ≤ most_number) × RoleIn B r × (c < n)
Bounded B n (Max k r c) = (k < most_number) × RoleIn B r × (c < n)

-- every record of the pool
abbrev pub Wf : Bounds → Pool → Type 0
Wf B p = (c : ℕ) → c < length p → Bounded B c (at p c)

-- pools only grow
pub record Grown (p q : Pool) : Type 0 where
  pub new : List Concept
  pub grown : q ≡ p ++ new

-- an id that a rule made, and the pool after it
pub record Made (B : Bounds) (p : Pool) (i : ℕ) (q : Pool) : Type 0 where
  pub grows : Grown p q
  pub wf : Wf B q
  pub held : i < length q

-- ---- normal forms
-- what stands below a Not: a class, an individual or Self
abbrev pub IsLiteral : Concept → Type 0
IsLiteral Top = ⊥
IsLiteral Bot = ⊥
IsLiteral (Atomic _) = Unit {0}
IsLiteral (Nominal _) = Unit {0}
IsLiteral (SelfRestriction _) = Unit {0}
IsLiteral (Not _) = ⊥
IsLiteral (And _) = ⊥
IsLiteral (Or _) = ⊥
IsLiteral (Some _ _) = ⊥
IsLiteral (All _ _) = ⊥
IsLiteral (Min _ _ _) = ⊥
IsLiteral (Max _ _ _) = ⊥

-- a member of an And list: not Top, Bot or And
abbrev pub InAnd : Concept → Type 0
InAnd Top = ⊥
InAnd Bot = ⊥
InAnd (Atomic _) = Unit {0}
InAnd (Nominal _) = Unit {0}
InAnd (SelfRestriction _) = Unit {0}
InAnd (Not _) = Unit {0}
InAnd (And _) = ⊥
InAnd (Or _) = Unit {0}
InAnd (Some _ _) = Unit {0}
InAnd (All _ _) = Unit {0}
InAnd (Min _ _ _) = Unit {0}
InAnd (Max _ _ _) = Unit {0}

abbrev pub InOr : Concept → Type 0
InOr Top = ⊥
InOr Bot = ⊥
InOr (Atomic _) = Unit {0}
InOr (Nominal _) = Unit {0}
InOr (SelfRestriction _) = Unit {0}
InOr (Not _) = Unit {0}
InOr (And _) = Unit {0}
InOr (Or _) = ⊥
InOr (Some _ _) = Unit {0}
InOr (All _ _) = Unit {0}
InOr (Min _ _ _) = Unit {0}
InOr (Max _ _ _) = Unit {0}

-- at least two members, rising
abbrev pub RisingFrom : ℕ → List ℕ → Type 0
RisingFrom x [] = Unit {0}
RisingFrom x (y ∷ l) = (x < y) × RisingFrom y l

abbrev pub TwoRising : List ℕ → Type 0
TwoRising [] = ⊥
TwoRising (x ∷ []) = ⊥
TwoRising (x ∷ y ∷ l) = (x < y) × RisingFrom y l

-- one record of a normal form, given what holds of its parts
abbrev pub NormalStep : (ℕ → Type 0) → Pool → Concept → Type 0
NormalStep N p Top = Unit {0}
NormalStep N p Bot = Unit {0}
NormalStep N p (Atomic _) = Unit {0}
NormalStep N p (Nominal _) = Unit {0}
NormalStep N p (SelfRestriction _) = Unit {0}
NormalStep N p (Not c) = IsLiteral (at p c)
NormalStep N p (And l) = TwoRising l × Each (λ c. InAnd (at p c)) l × Each N l
NormalStep N p (Or l) = TwoRising l × Each (λ c. InOr (at p c)) l × Each N l
NormalStep N p (Some _ c) = N c
NormalStep N p (All _ c) = N c
NormalStep N p (Min zero _ c) = ⊥
NormalStep N p (Min (suc _) _ c) = N c
NormalStep N p (Max _ _ c) = N c

-- concept c and all that it names, by a bound above its id
abbrev pub Normal : ℕ → Pool → ℕ → Type 0
Normal zero p c = ⊥
Normal (suc f) p c = NormalStep (λ d. Normal f p d) p (at p c)

-- ---- axioms over a pool of n concepts
abbrev pub AxiomIn : Bounds → ℕ → Axiom → Type 0
AxiomIn B n (SubClassOf sub sup) = (sub < n) × (sup < n)
AxiomIn B n (EquivalentClasses l) = Each (λ c. c < n) l
AxiomIn B n (DisjointClasses l) = Each (λ c. c < n) l
AxiomIn B n (DisjointUnion a l) = (a < B.classes) × Each (λ c. c < n) l
AxiomIn B n (ObjectPropertyDomain r c) = RoleIn B r × (c < n)
AxiomIn B n (ObjectPropertyRange r c) = RoleIn B r × (c < n)
AxiomIn B n (SubChain sup parts) = RoleIn B sup × Each (RoleIn B) parts
AxiomIn B n (TransitiveRole r) = RoleIn B r
AxiomIn B n (IrreflexiveRole r) = RoleIn B r
AxiomIn B n (AsymmetricRole r) = RoleIn B r
AxiomIn B n (DisjointObjectProperties l) = Each (RoleIn B) l
AxiomIn B n (InverseObjectProperties r s) = RoleIn B r × RoleIn B s
AxiomIn B n (SubObjectPropertyOf r s) = RoleIn B r × RoleIn B s
AxiomIn B n (EquivalentObjectProperties l) = Each (RoleIn B) l
AxiomIn B n (ReflexiveRole r) = RoleIn B r
AxiomIn B n (ClassAssertion c i) = (c < n) × (i < B.individuals)

-- ---- atoms and clauses: classes below `fresh`, variables below `vars`
abbrev pub QualifierIn : ℕ → Qualifier → Type 0
QualifierIn fresh None = Unit {0}
QualifierIn fresh (Some k) = k < fresh

abbrev pub AtomIn : Bounds → (fresh vars : ℕ) → Atom → Type 0
AtomIn B fresh vars (Class k v) = (k < fresh) × (v < vars)
AtomIn B fresh vars (RoleAtom r u v) = RoleIn B r × (u < vars) × (v < vars)
AtomIn B fresh vars (Exists r k v) = RoleIn B r × (k < fresh) × (v < vars)
AtomIn B fresh vars (AtMost r q n v) = RoleIn B r × QualifierIn fresh q × (n ≤ most_number) × (v < vars)
AtomIn B fresh vars (AtLeast r q n v) = RoleIn B r × QualifierIn fresh q × (n ≤ most_number) × (v < vars)
AtomIn B fresh vars (Equal u v) = (u < vars) × (v < vars)

pub record ClauseIn (B : Bounds) (fresh vars : ℕ) (c : Clause) : Type 0 where
  pub body_in : Each (AtomIn B fresh vars) c.body
  pub head_in : Each (AtomIn B fresh vars) c.head
  pub body_short : length c.body ≤ most_in_hand
  pub head_short : length c.head ≤ most_in_hand

-- names rise strictly from q on, below r
abbrev pub NamesFrom : ℕ → List Limit → ℕ → Type 0
NamesFrom q [] r = q ≤ r
NamesFrom q (w ∷ l) r = (q ≤ w.name) × NamesFrom (suc w.name) l r

-- what a rule that emits clauses did: it appended clauses, deferrals and limits that wait, kept limit and line, and took at most
-- one fresh class and one variable for each visit. `vars` bounds the variables of the new clauses.
pub record Emitted (B : Bounds) (vars : ℕ) (s t : Out) : Type 0 where
  pub new : List Clause
  pub clauses : t.clauses ≡ s.clauses ++ new
  pub new_in : Each (ClauseIn B t.next_fresh vars) new
  pub deferring : List Deferred
  pub deferrals : t.deferrals ≡ s.deferrals ++ deferring
  pub waiting : List Limit
  pub limits : t.limits ≡ s.limits ++ waiting
  pub named : NamesFrom s.next_fresh waiting t.next_fresh
  pub limit : t.limit ≡ s.limit
  pub line : t.line ≡ s.line
  pub visits : s.visits ≤ t.visits
  pub within : s.visits ≤ s.limit → t.visits ≤ t.limit
  pub fresh : s.next_fresh ≤ t.next_fresh
  pub names : t.next_fresh + s.visits ≤ s.next_fresh + t.visits
