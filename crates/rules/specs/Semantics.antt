-- Finite interpretations, and what concepts, axioms, atoms and clauses mean in them: OWL 2 Direct Semantics for concepts and
-- axioms, document 01 for clauses. Everything is a test that computes.
use Rattle.std.specs.Prelude.{Bool, true, false, not, ◌&&◌, ◌||◌, List, [], ◌∷◌, ◌++◌, ℕ, zero, suc, ◌+◌, get_or, eqb, leb}
use Rattle.std.proofs.Math.Option.{Option, none, some}
use Rattle.ir.specs.Pick.{pick}
use Rattle.ir.specs.Roles.{role_code}
use Rattle.ir.specs.Atoms.{atom_vars}
use Rattle.ir.specs.declared.role.Role.{Role}
use Rattle.ir.specs.declared.role.Role.TheVariants.{Named, Inverse}
use Rattle.ir.specs.declared.atom.Atom.{Atom}
use Rattle.ir.specs.declared.atom.Atom.TheVariants.{Class, Exists, AtMost, AtLeast, Equal, Role as RoleAtom}
use Rattle.ir.specs.Qualifiers.{Qualifier}
use Rattle.std.specs.Prelude.{None, Some}
use Rattle.rules.specs.Base.{all, any}
use Rattle.rules.specs.Concept.{Concept, Axiom}
use Rattle.rules.specs.Concept.{Top, Bot, Atomic, Nominal, SelfRestriction, Not, And, Or, Some, All, Min, Max}
use Rattle.rules.specs.Concept.{SubClassOf, EquivalentClasses, DisjointClasses, DisjointUnion, ObjectPropertyDomain, ObjectPropertyRange, SubChain, TransitiveRole, IrreflexiveRole, AsymmetricRole, DisjointObjectProperties, InverseObjectProperties, SubObjectPropertyOf, EquivalentObjectProperties, ReflexiveRole, ClassAssertion}
use Rattle.rules.specs.Pool.{Pool, insert}
use Rattle.rules.specs.State.{Clause}
use Rattle.rules.specs.Axioms.{later_pairs}

-- the elements are the numbers below size; a set of them for each class id (declared, an individual's or fresh), a set of
-- pairs for each role, an element for each individual
pub record Interpretation : Type 0 where
  pub size : ℕ
  pub class : ℕ → ℕ → Bool
  pub role : ℕ → ℕ → ℕ → Bool
  pub individual : ℕ → ℕ

-- the same with other sets for the classes
abbrev pub with_classes : Interpretation → (ℕ → ℕ → Bool) → Interpretation
with_classes I k = record { size = I.size; class = k; role = I.role; individual = I.individual }

unfoldable pub elements_below : ℕ → List ℕ
elements_below zero = []
elements_below (suc n) = n ∷ elements_below n

abbrev pub elements : Interpretation → List ℕ
elements I = elements_below I.size

abbrev pub one : Bool → ℕ
one true = 1
one false = 0

abbrev pub count : (ℕ → Bool) → List ℕ → ℕ
count p [] = 0
count p (x ∷ l) = one (p x) + count p l

abbrev pub implies : Bool → Bool → Bool
implies a b = not a || b

abbrev pub same_truth : Bool → Bool → Bool
same_truth a b = implies a b && implies b a

-- an inverse turns the pairs
abbrev pub pairs_of : {D : Type 0} → (ℕ → D → D → Bool) → Role → D → D → Bool
pairs_of role (Named r) x y = role r x y
pairs_of role (Inverse r) x y = role r y x

abbrev pub related : Interpretation → Role → ℕ → ℕ → Bool
related I r x y = pairs_of I.role r x y

-- ---- class expressions, given what the ids in a record mean
abbrev pub concept_means : Interpretation → (ℕ → ℕ → Bool) → Concept → ℕ → Bool
concept_means I m Top x = true
concept_means I m Bot x = false
concept_means I m (Atomic a) x = I.class a x
concept_means I m (Nominal i) x = eqb x (I.individual i)
concept_means I m (SelfRestriction r) x = related I r x x
concept_means I m (Not c) x = not (m c x)
concept_means I m (And l) x = all (λ c. m c x) l
concept_means I m (Or l) x = any (λ c. m c x) l
concept_means I m (Some r c) x = any (λ y. related I r x y && m c y) (elements I)
concept_means I m (All r c) x = all (λ y. implies (related I r x y) (m c y)) (elements I)
concept_means I m (Min n r c) x = leb n (count (λ y. related I r x y && m c y) (elements I))
concept_means I m (Max n r c) x = leb (count (λ y. related I r x y && m c y) (elements I)) n

-- the ids of a pool: each record by those before it
abbrev pub meaning_at : List (ℕ → Bool) → ℕ → ℕ → Bool
meaning_at ms c = get_or ms c (λ _. false)

unfoldable pub meanings_from : Interpretation → List (ℕ → Bool) → Pool → List (ℕ → Bool)
meanings_from I ms [] = ms
meanings_from I ms (e ∷ p) = meanings_from I (ms ++ (concept_means I (meaning_at ms) e ∷ [])) p

unfoldable pub means : Interpretation → Pool → ℕ → ℕ → Bool
means I p c = meaning_at (meanings_from I [] p) c

-- ---- axioms. A list of any length: a union of none is empty, a chain of no parts relates each element to itself
abbrev pub every_element : Interpretation → (ℕ → Bool) → Bool
every_element I f = all f (elements I)

abbrev pub every_pair : Interpretation → (ℕ → ℕ → Bool) → Bool
every_pair I f = all (λ x. all (λ y. f x y) (elements I)) (elements I)

abbrev pub disjoint_at : (ℕ → ℕ → Bool) → List ℕ → ℕ → Bool
disjoint_at m l x = all (λ p. not (m p.0 x && m p.1 x)) (later_pairs l)

-- the pairs that a chain of roles relates
unfoldable pub chain_related : Interpretation → List Role → ℕ → ℕ → Bool
chain_related I [] x y = eqb x y
chain_related I (r ∷ l) x y = any (λ z. related I r x z && chain_related I l z y) (elements I)

-- 31 reads only unequal role codes
abbrev pub roles_clash : Interpretation → Role × Role → ℕ → ℕ → Bool
roles_clash I p x y = not (eqb (role_code p.0) (role_code p.1)) && (related I p.0 x y && related I p.1 x y)

abbrev pub satisfied : Interpretation → Pool → Axiom → Bool
satisfied I p (SubClassOf sub sup) = every_element I (λ x. implies (means I p sub x) (means I p sup x))
satisfied I p (EquivalentClasses l) = every_element I (λ x. all (λ q. same_truth (means I p q.0 x) (means I p q.1 x)) (later_pairs l))
satisfied I p (DisjointClasses l) = every_element I (λ x. disjoint_at (means I p) l x)
satisfied I p (DisjointUnion a l) = every_element I (λ x. same_truth (I.class a x) (any (λ c. means I p c x) l) && disjoint_at (means I p) l x)
satisfied I p (ObjectPropertyDomain r c) = every_pair I (λ x y. implies (related I r x y) (means I p c x))
satisfied I p (ObjectPropertyRange r c) = every_pair I (λ x y. implies (related I r x y) (means I p c y))
satisfied I p (SubChain sup parts) = every_pair I (λ x y. implies (chain_related I parts x y) (related I sup x y))
satisfied I p (TransitiveRole r) = every_element I (λ x. every_pair I (λ y z. implies (related I r x y && related I r y z) (related I r x z)))
satisfied I p (IrreflexiveRole r) = every_element I (λ x. not (related I r x x))
satisfied I p (AsymmetricRole r) = every_pair I (λ x y. implies (related I r x y) (not (related I r y x)))
satisfied I p (DisjointObjectProperties l) = every_pair I (λ x y. all (λ q. not (roles_clash I q x y)) (later_pairs l))
satisfied I p (InverseObjectProperties r s) = every_pair I (λ x y. same_truth (related I r x y) (related I s y x))
satisfied I p (SubObjectPropertyOf r s) = every_pair I (λ x y. implies (related I r x y) (related I s x y))
satisfied I p (EquivalentObjectProperties l) = every_pair I (λ x y. all (λ q. same_truth (related I q.0 x y) (related I q.1 x y)) (later_pairs l))
satisfied I p (ReflexiveRole r) = every_element I (λ x. related I r x x)
satisfied I p (ClassAssertion c i) = means I p c (I.individual i)

-- ---- atoms and clauses
-- over the class, or over Top if unqualified
abbrev pub qualifies : Interpretation → Qualifier → ℕ → Bool
qualifies I None y = true
qualifies I (Some c) y = I.class c y

abbrev pub atom_holds : Interpretation → (ℕ → ℕ) → Atom → Bool
atom_holds I f (Class c v) = I.class c (f v)
atom_holds I f (RoleAtom r u v) = related I r (f u) (f v)
atom_holds I f (Exists r c v) = any (λ y. related I r (f v) y && I.class c y) (elements I)
atom_holds I f (AtMost r q n v) = leb (count (λ y. related I r (f v) y && qualifies I q y) (elements I)) n
atom_holds I f (AtLeast r q n v) = leb n (count (λ y. related I r (f v) y && qualifies I q y) (elements I))
atom_holds I f (Equal u v) = eqb (f u) (f v)

-- the clause's own variables, rising
unfoldable pub inserted : List ℕ → List ℕ → List ℕ
inserted [] l = l
inserted (v ∷ vs) l = insert v (inserted vs l)

unfoldable pub vars_of : List Atom → List ℕ
vars_of [] = []
vars_of (a ∷ l) = inserted (atom_vars a) (vars_of l)

abbrev pub clause_vars : Clause → List ℕ
clause_vars c = vars_of (c.body ++ c.head)

-- a choice with an element for one variable
abbrev pub chosen : (ℕ → ℕ) → ℕ → ℕ → ℕ → ℕ
chosen f v x u = pick (eqb u v) x (f u)

-- for every choice of elements for these variables
unfoldable pub every_choice : Interpretation → List ℕ → (ℕ → ℕ) → ((ℕ → ℕ) → Bool) → Bool
every_choice I [] f t = t f
every_choice I (v ∷ vs) f t = all (λ x. every_choice I vs (chosen f v x) t) (elements I)

-- a body atom fails or a head atom holds
abbrev pub clause_holds_at : Interpretation → Clause → (ℕ → ℕ) → Bool
clause_holds_at I c f = implies (all (atom_holds I f) c.body) (any (atom_holds I f) c.head)

unfoldable pub clause_holds : Interpretation → Clause → Bool
clause_holds I c = every_choice I (clause_vars c) (λ _. 0) (clause_holds_at I c)

-- what is no clause never holds
abbrev pub read_holds : Interpretation → Option Clause → Bool
read_holds I none = false
read_holds I (some c) = clause_holds I c
