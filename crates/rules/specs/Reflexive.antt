-- clause.rs: reflexive_role_ids, apply_reflexive_roles and add_counted_self_loops.
use Rattle.std.specs.Prelude.{Bool, true, false, ◌&&◌, ◌||◌, List, [], ◌∷◌, ◌++◌, map, ℕ, zero, suc, ◌+◌, length, eqb, ltb}
use Rattle.ir.specs.Pick.{pick}
use Rattle.ir.specs.Roles.{role_id}
use Rattle.ir.specs.Atoms.{atom_vars, substitute_atom, replaced}
use Rattle.ir.specs.Records.{same_atom}
use Rattle.ir.specs.declared.role.Role.{Role}
use Rattle.ir.specs.declared.atom.Atom.{Atom}
use Rattle.ir.specs.declared.atom.Atom.TheVariants.{Class, Exists, AtMost, AtLeast, Equal, Role as RoleAtom}
use Rattle.ir.specs.declared.deferral.Deferral.TheVariants.{ReflexiveDerivedCap}
use Rattle.rules.specs.Base.{then, ◌>>=◌, return, refuse, for_each, any, contains, ◌>>◌}
use Rattle.rules.specs.Concept.{Axiom}
use Rattle.rules.specs.Concept.{SubClassOf, EquivalentClasses, DisjointClasses, DisjointUnion, ObjectPropertyDomain, ObjectPropertyRange, SubChain, TransitiveRole, IrreflexiveRole, AsymmetricRole, DisjointObjectProperties, InverseObjectProperties, SubObjectPropertyOf, EquivalentObjectProperties, ReflexiveRole, ClassAssertion}
use Rattle.rules.specs.State.{Env, E, Clause, clause, canon, with, push, defer}

-- ---- reflexive_role_ids: by mapped ids
-- a set of ids, each once
abbrev pub inserted : List ℕ → ℕ → List ℕ
inserted set n = pick (contains set n) set (n ∷ set)

module _ (env : Env) where
  abbrev pub canon_id : Role → ℕ
  canon_id r = role_id (canon env r)

  -- the roles declared reflexive
  abbrev pub declared_reflexive : List ℕ → Axiom → List ℕ
  declared_reflexive set (SubClassOf _ _) = set
  declared_reflexive set (EquivalentClasses _) = set
  declared_reflexive set (DisjointClasses _) = set
  declared_reflexive set (DisjointUnion _ _) = set
  declared_reflexive set (ObjectPropertyDomain _ _) = set
  declared_reflexive set (ObjectPropertyRange _ _) = set
  declared_reflexive set (SubChain _ _) = set
  declared_reflexive set (TransitiveRole _) = set
  declared_reflexive set (IrreflexiveRole _) = set
  declared_reflexive set (AsymmetricRole _) = set
  declared_reflexive set (DisjointObjectProperties _) = set
  declared_reflexive set (InverseObjectProperties _ _) = set
  declared_reflexive set (SubObjectPropertyOf _ _) = set
  declared_reflexive set (EquivalentObjectProperties _) = set
  declared_reflexive set (ReflexiveRole r) = inserted set (canon_id r)
  declared_reflexive set (ClassAssertion _ _) = set

  unfoldable pub reflexive_from : List ℕ → List Axiom → List ℕ
  reflexive_from set [] = set
  reflexive_from set (a ∷ l) = reflexive_from (declared_reflexive set a) l

  -- an edge from each role of an equivalence to each other
  abbrev pub edge_to : ℕ → ℕ → List (ℕ × ℕ) → Bool → List (ℕ × ℕ)
  edge_to a b rest true = rest
  edge_to a b rest false = (a, b) ∷ rest

  unfoldable pub edges_from : ℕ → List ℕ → List (ℕ × ℕ)
  edges_from a [] = []
  edges_from a (b ∷ l) = edge_to a b (edges_from a l) (eqb a b)

  unfoldable pub edges_among : List ℕ → List ℕ → List (ℕ × ℕ)
  edges_among [] l = []
  edges_among (a ∷ k) l = edges_from a l ++ edges_among k l

  abbrev pub role_edges : Axiom → List (ℕ × ℕ)
  role_edges (SubClassOf _ _) = []
  role_edges (EquivalentClasses _) = []
  role_edges (DisjointClasses _) = []
  role_edges (DisjointUnion _ _) = []
  role_edges (ObjectPropertyDomain _ _) = []
  role_edges (ObjectPropertyRange _ _) = []
  role_edges (SubChain _ _) = []
  role_edges (TransitiveRole _) = []
  role_edges (IrreflexiveRole _) = []
  role_edges (AsymmetricRole _) = []
  role_edges (DisjointObjectProperties _) = []
  role_edges (InverseObjectProperties _ _) = []
  role_edges (SubObjectPropertyOf r s) = (canon_id r, canon_id s) ∷ []
  role_edges (EquivalentObjectProperties l) = edges_among (map canon_id l) (map canon_id l)
  role_edges (ReflexiveRole _) = []
  role_edges (ClassAssertion _ _) = []

  unfoldable pub all_edges : List Axiom → List (ℕ × ℕ)
  all_edges [] = []
  all_edges (a ∷ l) = role_edges a ++ all_edges l

-- one round over the edges
unfoldable pub round : List (ℕ × ℕ) → List ℕ → List ℕ
round [] set = set
round (e ∷ l) set = round l (pick (contains set e.0) (inserted set e.1) set)

-- rounds until one adds nothing: each that adds takes an edge's end, so the edges and one more are enough
abbrev pub settled : (List ℕ → List ℕ) → List ℕ → List ℕ → Bool → List ℕ
settled again before after true = before
settled again before after false = again after

unfoldable pub closed : ℕ → List (ℕ × ℕ) → List ℕ → List ℕ
closed zero edges set = set
closed (suc f) edges set = settled (λ k. closed f edges k) set (round edges set) (eqb (length set) (length (round edges set)))

unfoldable pub reflexive_role_ids : Env → List Axiom → List ℕ
reflexive_role_ids env axioms = closed (suc (length (all_edges env axioms))) (all_edges env axioms) (reflexive_from env [] axioms)

-- ---- apply_reflexive_roles
-- REFLEXIVE_DERIVED_CAP
abbrev pub reflexive_derived_cap : ℕ
reflexive_derived_cap = 4096

abbrev pub contains_atom : List Atom → Atom → Bool
contains_atom l a = any (same_atom a) l

unfoldable pub same_atoms : List Atom → List Atom → Bool
same_atoms [] [] = true
same_atoms [] (b ∷ m) = false
same_atoms (a ∷ l) [] = false
same_atoms (a ∷ l) (b ∷ m) = same_atom a b && same_atoms l m

-- clauses are compared by body and head
abbrev pub same_clause : Clause → Clause → Bool
same_clause c d = same_atoms c.body d.body && same_atoms c.head d.head

abbrev pub contains_clause : List Clause → Clause → Bool
contains_clause l c = any (same_clause c) l

-- a role atom over a reflexive role
abbrev pub is_reflexive : List ℕ → Atom → Bool
is_reflexive set (Class _ _) = false
is_reflexive set (RoleAtom r _ _) = contains set (role_id r)
is_reflexive set (Exists _ _ _) = false
is_reflexive set (AtMost _ _ _ _) = false
is_reflexive set (AtLeast _ _ _ _) = false
is_reflexive set (Equal _ _) = false

-- R(v, v) over a reflexive role: it holds everywhere
abbrev pub is_self_loop : List ℕ → Atom → Bool
is_self_loop set (Class _ _) = false
is_self_loop set (RoleAtom r u v) = eqb u v && contains set (role_id r)
is_self_loop set (Exists _ _ _) = false
is_self_loop set (AtMost _ _ _ _) = false
is_self_loop set (AtLeast _ _ _ _) = false
is_self_loop set (Equal _ _) = false

-- R(src, tgt) contracted: one variable is put for the other, X being kept
abbrev pub kept_var : ℕ → ℕ → ℕ
kept_var src tgt = pick (eqb tgt 0) tgt src

abbrev pub dropped_var : ℕ → ℕ → ℕ
dropped_var src tgt = pick (eqb tgt 0) src tgt

abbrev pub substituted : ℕ → ℕ → List Atom → List Atom
substituted drop keep l = map (λ a. substitute_atom a (replaced drop keep)) l

-- the clause without the atom between `before` and `after`, contracted along it
abbrev pub contracted : List Atom → List Atom → List Atom → ℕ → ℕ → Clause
contracted before after head src tgt =
    clause (substituted (dropped_var src tgt) (kept_var src tgt) (before ++ after)) (substituted (dropped_var src tgt) (kept_var src tgt) head)

-- a clause that always holds: a head atom is in the body, or is a self-loop
abbrev pub is_trivial : List ℕ → Clause → Bool
is_trivial set c = any (contains_atom c.body) c.head || any (is_self_loop set) c.head

-- what the pass hands on beside the clauses: the queue, its last clause first, and the clauses derived so far
pub record Derived : Type 0 where
  pub queue : List Clause
  pub seen : List Clause

-- whether the pass goes on, or stopped at its cap
pub data Unfolded : Type 0 where
  more : Derived → Unfolded
  capped : Unfolded

-- ---- of add_counted_self_loops
unfoldable pub max_var : ℕ → List ℕ → ℕ
max_var m [] = m
max_var m (v ∷ l) = max_var (pick (ltb m v) v m) l

unfoldable pub atoms_vars : List Atom → List ℕ
atoms_vars [] = []
atoms_vars (a ∷ l) = atom_vars a ++ atoms_vars l

-- one more than the greatest variable of the clause
abbrev pub next_var_of : Clause → ℕ
next_var_of c = max_var 0 (atoms_vars (c.body ++ c.head)) + 1

abbrev pub loop_kept : List Clause → Clause → Bool → List Clause
loop_kept new c true = new
loop_kept new c false = new ++ (c ∷ [])

module _ (env : Env) (set : List ℕ) where
  abbrev pub queued : Clause → List Clause → List Clause
  queued c l = pick (any (is_reflexive set) c.body) (c ∷ l) l

  -- a new clause, if the cap allows it
  abbrev pub derive : Clause → Derived → Bool → E Unfolded
  derive c d true = do
    defer env ReflexiveDerivedCap
    return capped
  derive c d false = do
    push env c.body c.head
    return (more (record { queue = queued c d.queue; seen = d.seen ++ (c ∷ []) }))

  abbrev pub derive_new : Clause → Derived → Bool → E Unfolded
  derive_new c d true = return (more d)
  derive_new c d false = derive c d (eqb (length d.seen) reflexive_derived_cap)

  unfoldable pub contract : Clause → Derived → E Unfolded
  contract c d = derive_new c d (is_trivial set c || contains_clause d.seen c)

  abbrev pub go_on : (Derived → E Unfolded) → Unfolded → E Unfolded
  go_on rest (more d) = rest d
  go_on rest capped = return capped

  -- the atoms of a clause's body in turn
  abbrev pub unfold_role : (Derived → E Unfolded) → Clause → Derived → Bool → E Unfolded
  unfold_role rest c d true = contract c d >>= (λ u. go_on rest u)
  unfold_role rest c d false = rest d

  abbrev pub unfold_at : (Derived → E Unfolded) → List Atom → List Atom → List Atom → Atom → Derived → E Unfolded
  unfold_at rest before after head (Class _ _) d = rest d
  unfold_at rest before after head (RoleAtom r src tgt) d = unfold_role rest (contracted before after head src tgt) d (contains set (role_id r))
  unfold_at rest before after head (Exists _ _ _) d = rest d
  unfold_at rest before after head (AtMost _ _ _ _) d = rest d
  unfold_at rest before after head (AtLeast _ _ _ _) d = rest d
  unfold_at rest before after head (Equal _ _) d = rest d

  unfoldable pub unfold_body : List Atom → List Atom → List Atom → Derived → E Unfolded
  unfold_body before [] head d = return (more d)
  unfold_body before (a ∷ l) head d = unfold_at (λ d₁. unfold_body (before ++ (a ∷ [])) l head d₁) before l head a d

  abbrev pub finish : (Derived → E (Unit {0})) → Unfolded → E (Unit {0})
  finish rest (more d) = rest d
  finish rest capped = return tt

  -- queue.pop()
  abbrev pub popped : (Derived → E (Unit {0})) → List Clause → List Clause → E (Unit {0})
  popped rest [] seen = return tt
  popped rest (c ∷ q) seen = do
    u ← unfold_body [] c.body c.head (record { queue = q; seen = seen })
    finish rest u

  unfoldable pub unfold_by : ℕ → Derived → E (Unit {0})
  unfold_by zero d = refuse 0
  unfold_by (suc f) d = popped (λ d₁. unfold_by f d₁) d.queue d.seen

  -- the first queue: the clauses with a reflexive body atom, the last on top
  unfoldable pub stacked : List Clause → List Clause → List Clause
  stacked [] q = q
  stacked (c ∷ l) q = stacked l (queued c q)

  -- each clause is popped once: the first ones, and at most the cap of derived ones
  unfoldable pub apply_reflexive_roles : E (Unit {0})
  apply_reflexive_roles s = unfold_by (length s.clauses + reflexive_derived_cap + 1) (record { queue = stacked s.clauses []; seen = [] }) s

  -- ---- add_counted_self_loops
  abbrev pub loop_over : Clause → Role → ℕ → List Clause → Bool → E (List Clause)
  loop_over c r v new false = return new
  loop_over c r v new true = do
    body ← with c.body (RoleAtom r v (next_var_of c))
    return (loop_kept new (clause body (RoleAtom r v v ∷ [])) (contains_clause new (clause body (RoleAtom r v v ∷ []))))

  -- body and R(v, fresh) give R(v, v), for an at-most head atom over a reflexive role
  abbrev pub loop_of : Clause → List Clause → Atom → E (List Clause)
  loop_of c new (Class _ _) = return new
  loop_of c new (RoleAtom _ _ _) = return new
  loop_of c new (Exists _ _ _) = return new
  loop_of c new (AtMost r q n v) = loop_over c r v new (contains set (role_id r))
  loop_of c new (AtLeast _ _ _ _) = return new
  loop_of c new (Equal _ _) = return new

  unfoldable pub loops_of_head : Clause → List Atom → List Clause → E (List Clause)
  loops_of_head c [] new = return new
  loops_of_head c (a ∷ l) new = do
    k ← loop_of c new a
    loops_of_head c l k

  unfoldable pub self_loops : List Clause → List Clause → E (List Clause)
  self_loops [] new = return new
  self_loops (c ∷ l) new = do
    k ← loops_of_head c c.head new
    self_loops l k

  unfoldable pub add_counted_self_loops : E (Unit {0})
  add_counted_self_loops s = then (self_loops s.clauses [] s) (λ new. for_each (λ c. push env c.body c.head) new)
