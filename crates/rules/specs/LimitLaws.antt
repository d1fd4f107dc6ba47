-- Option 4: names enter the pool, so the bounds on its classes grow with a run. A name that is above every class of the pool is new
-- to it, so its interning adds one concept or is refusal 11. Assumes nothing.
use Rattle.std.specs.Prelude.{◌≡◌, refl, Bool, true, false, ◌&&◌, [], ◌∷◌, ◌++◌, ℕ, suc, ◌+◌, ◌≤◌, ◌<◌, length, eqb, ltb, leb}
use Rattle.std.proofs.Math.Option.{none}
use Rattle.std.proofs.Common.{le_trans, arith, length-append, eqb-true, ltb-true}
use Rattle.ir.specs.declared.atom.Atom.{Atom}
use Rattle.ir.specs.declared.atom.Atom.TheVariants.{Class, Exists, AtMost, AtLeast, Equal, Role as RoleAtom}
use Rattle.rules.specs.Concept.{Concept, Axiom, same_concept}
use Rattle.rules.specs.Concept.{Top, Bot, Atomic, Nominal, SelfRestriction, Not, And, Or, Some, All, Min, Max}
use Rattle.rules.specs.Concept.{SubClassOf, EquivalentClasses, DisjointClasses, DisjointUnion, ObjectPropertyDomain, ObjectPropertyRange, SubChain, TransitiveRole, IrreflexiveRole, AsymmetricRole, DisjointObjectProperties, InverseObjectProperties, SubObjectPropertyOf, EquivalentObjectProperties, ReflexiveRole, ClassAssertion}
use Rattle.rules.specs.Pool.{Pool, at, find, members, room, intern_raw, most_concepts, most_members}
use Rattle.rules.specs.State.{Clause, Out}
use Rattle.rules.specs.Invariants.{Bounds, up_to, Bounded, Wf, AxiomIn, AtomIn, ClauseIn, Emitted}
use Rattle.rules.specs.EachLaws.{each_map}
use Rattle.rules.specs.Post.{Post, gives, refuses}

-- ---- bounds that grow
bounded_up : (B : Bounds) {m n : ℕ} → m ≤ n → (c : ℕ) (e : Concept) → Bounded (up_to B m) c e → Bounded (up_to B n) c e
bounded_up B h c Top b = tt
bounded_up B h c Bot b = tt
bounded_up B h c (Atomic a) b = le_trans b h
bounded_up B h c (Nominal _) b = b
bounded_up B h c (SelfRestriction _) b = b
bounded_up B h c (Not _) b = b
bounded_up B h c (And _) b = b
bounded_up B h c (Or _) b = b
bounded_up B h c (Some _ _) b = b
bounded_up B h c (All _ _) b = b
bounded_up B h c (Min _ _ _) b = b
bounded_up B h c (Max _ _ _) b = b

pub wf_up : (B : Bounds) {m n : ℕ} → m ≤ n → (p : Pool) → Wf (up_to B m) p → Wf (up_to B n) p
wf_up B h p w c l = bounded_up B h c (at p c) (w c l)

-- the declared axioms, under more classes
pub axiom_up : (B : Bounds) {n : ℕ} → B.classes ≤ n → (m : ℕ) (a : Axiom) → AxiomIn B m a → AxiomIn (up_to B n) m a
axiom_up B h m (SubClassOf _ _) i = i
axiom_up B h m (EquivalentClasses _) i = i
axiom_up B h m (DisjointClasses _) i = i
axiom_up B h m (DisjointUnion a _) i = (le_trans i.0 h, i.1)
axiom_up B h m (ObjectPropertyDomain _ _) i = i
axiom_up B h m (ObjectPropertyRange _ _) i = i
axiom_up B h m (SubChain _ _) i = i
axiom_up B h m (TransitiveRole _) i = i
axiom_up B h m (IrreflexiveRole _) i = i
axiom_up B h m (AsymmetricRole _) i = i
axiom_up B h m (DisjointObjectProperties _) i = i
axiom_up B h m (InverseObjectProperties _ _) i = i
axiom_up B h m (SubObjectPropertyOf _ _) i = i
axiom_up B h m (EquivalentObjectProperties _) i = i
axiom_up B h m (ReflexiveRole _) i = i
axiom_up B h m (ClassAssertion _ _) i = i

-- atoms, clauses and what was emitted: their classes are below the next one, and the bounds are for their roles alone
atom_at_lem : (B : Bounds) (n fresh vars : ℕ) (a : Atom) → AtomIn (up_to B n) fresh vars a → AtomIn B fresh vars a
atom_at_lem B n fresh vars (Class _ _) i = i
atom_at_lem B n fresh vars (RoleAtom _ _ _) i = i
atom_at_lem B n fresh vars (Exists _ _ _) i = i
atom_at_lem B n fresh vars (AtMost _ _ _ _) i = i
atom_at_lem B n fresh vars (AtLeast _ _ _ _) i = i
atom_at_lem B n fresh vars (Equal _ _) i = i

clause_at : (B : Bounds) (n fresh vars : ℕ) (c : Clause) → ClauseIn (up_to B n) fresh vars c → ClauseIn B fresh vars c
clause_at B n fresh vars c i = record {
  body_in = each_map (AtomIn (up_to B n) fresh vars) (AtomIn B fresh vars) (atom_at_lem B n fresh vars) c.body i.body_in;
  head_in = each_map (AtomIn (up_to B n) fresh vars) (AtomIn B fresh vars) (atom_at_lem B n fresh vars) c.head i.head_in;
  body_short = i.body_short;
  head_short = i.head_short;
}

pub emitted_at : (B : Bounds) {n vars : ℕ} {s t : Out} → Emitted (up_to B n) vars s t → Emitted B vars s t
emitted_at B {n} {vars} {s} {t} X = record {
  new = X.new;
  clauses = X.clauses;
  new_in = each_map (ClauseIn (up_to B n) t.next_fresh vars) (ClauseIn B t.next_fresh vars) (clause_at B n t.next_fresh vars) X.new X.new_in;
  deferring = X.deferring;
  deferrals = X.deferrals;
  waiting = X.waiting;
  limits = X.limits;
  named = X.named;
  limit = X.limit;
  line = X.line;
  visits = X.visits;
  within = X.within;
  fresh = X.fresh;
  names = X.names;
}

-- ---- a new name
eqb_apart : (a b : ℕ) → b < a → eqb a b ≡ false
eqb_apart a b h = go (eqb a b) refl
  where
    go : (t : Bool) → eqb a b ≡ t → t ≡ false
    go true e = absurd (let q = eqb-true a b e in omega arith)
    go false e = refl

other : (B : Bounds) (a n : ℕ) (e : Concept) → Bounded (up_to B a) n e → same_concept (Atomic a) e ≡ false
other B a n Top b = refl
other B a n Bot b = refl
other B a n (Atomic c) b = rw (eqb_apart a c b) refl
other B a n (Nominal _) b = refl
other B a n (SelfRestriction _) b = refl
other B a n (Not _) b = refl
other B a n (And _) b = refl
other B a n (Or _) b = refl
other B a n (Some _ _) b = refl
other B a n (All _ _) b = refl
other B a n (Min _ _ _) b = refl
other B a n (Max _ _ _) b = refl

none_found : (B : Bounds) (a n : ℕ) (p : Pool) → ((c : ℕ) → c < length p → Bounded (up_to B a) (n + c) (at p c)) → find (Atomic a) p ≡ none
unfolding find
none_found B a n [] w = refl
none_found B a n (e ∷ p) w = rw (other B a (n + 0) e (w 0 (omega arith)), none_found B a (suc n) p (λ c h. let q : n + suc c ≡ suc n + c = omega arith in rw q at (w (suc c) (omega arith)))) refl

pub name_new : (B : Bounds) (a : ℕ) (p : Pool) → Wf (up_to B a) p → find (Atomic a) p ≡ none
name_new B a p w = none_found B a 0 p (λ c h. let q : 0 + c ≡ c = omega arith in rw q (w c h))

-- one concept more, the last
abbrev pub Adds : ℕ → Pool → ℕ → Pool → Type 0
Adds a p i q = (i ≡ length p) × (length q ≡ suc (length p)) × (length p < most_concepts) × (q ≡ p ++ (Atomic a ∷ []))

pub name_adds : (B : Bounds) (a : ℕ) (p : Pool) → Wf (up_to B a) p → Post (Adds a p) (intern_raw (Atomic a) p)
unfolding intern_raw
name_adds B a p w = rw (name_new B a p w) (go (ltb (length p) most_concepts) refl)
  where
    go : (b : Bool) → ltb (length p) most_concepts ≡ b → Post (Adds a p) (room (Atomic a) p (b && leb (members p + 0) most_members))
    go false e = refuses
    go true e = by (leb (members p + 0) most_members)
      where
        by : (b : Bool) → Post (Adds a p) (room (Atomic a) p b)
        by true = gives {s = p ++ (Atomic a ∷ [])} (refl, omega (arith, length-append p (Atomic a ∷ [])), ltb-true (length p) most_concepts e, refl)
        by false = refuses
