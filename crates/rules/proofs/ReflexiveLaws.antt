-- apply_reflexive_roles and add_counted_self_loops append clauses within the bounds, and no bound of theirs is too small.
-- Each is first stated over any property of clauses that one step keeps. The set of reflexive roles is the least that holds
-- the declared ones and is closed under the edges. Assumes nothing.
use Rattle.std.specs.Prelude.{◌≡◌, Bool, ◌||◌, not, length}
use Rattle.std.proofs.Math.Path.{refl, sym, ap₂}
use Rattle.std.proofs.Common.{ap, ◌∙◌, subst, length-append, eqb-true, eq-eqb, ltb-true}
use Rattle.std.proofs.Math.Bool.{true, false}
use Rattle.std.proofs.lemmas.Bool.{false≢true, eqb-false, or_left, or_right, or_parts, and_parts}
use mathlib.Core.List.{List, [], ◌∷◌, ◌++◌, append_assoc, Memᴰ}
use Prim.Native.Nat.{ℕ, zero, suc, ◌+◌, ◌≤◌, ◌<◌}
use native.Mathlib.Omega.{arith}
use Rattle.std.proofs.lemmas.List.{length-map}
use Rattle.std.proofs.Math.Dec.{eqb, ltb}
use Rattle.ir.specs.Pick.{pick}
use Rattle.ir.specs.Roles.{role_id}
use Rattle.ir.specs.Atoms.{atom_vars, substitute_atom, replaced}
use Rattle.ir.specs.declared.role.Role.{Role}
use Rattle.ir.specs.declared.atom.Atom.{Atom}
use Rattle.ir.specs.declared.atom.Atom.TheVariants.{Class, Exists, AtMost, AtLeast, Equal, Role as RoleAtom}
use Rattle.ir.specs.Qualifiers.{Qualifier}
use Rattle.ir.specs.declared.deferral.Deferral.TheVariants.{ReflexiveDerivedCap}
use Rattle.ir.specs.RecordLaws.{same_atom_lem}
use Rattle.ir.specs.Records.{same_atom}
use Rattle.rules.specs.Base.{ok, then, any, contains}
use Rattle.rules.specs.State.{Env, Out, E, Clause, clause, with, longer, most_in_hand}
use Rattle.rules.specs.Reflexive.{inserted, canon_id, declared_reflexive, reflexive_from, all_edges, round, settled, closed, reflexive_role_ids, Derived, Unfolded, more, capped, reflexive_derived_cap, is_reflexive, kept_var, dropped_var, contracted, is_trivial, contains_clause, queued, derive, derive_new, contract, go_on, unfold_role, unfold_at, unfold_body, finish, popped, unfold_by, stacked, apply_reflexive_roles, max_var, atoms_vars, next_var_of, loop_kept, loop_over, loop_of, loops_of_head, self_loops, add_counted_self_loops, same_atoms}
use Rattle.rules.specs.Concept.{Axiom}
use Rattle.rules.specs.Concept.{SubClassOf, EquivalentClasses, DisjointClasses, DisjointUnion, ObjectPropertyDomain, ObjectPropertyRange, SubChain, TransitiveRole, IrreflexiveRole, AsymmetricRole, DisjointObjectProperties, InverseObjectProperties, SubObjectPropertyOf, EquivalentObjectProperties, ReflexiveRole, ClassAssertion}
use Rattle.rules.specs.Stats.{one}
use Rattle.rules.specs.Post.{Post}
use Rattle.rules.specs.Invariants.{Each, Bounds, AtomIn, ClauseIn}
use Rattle.rules.specs.Ends.{NotZero, Ends, end, stop, ends_then, ends_map, ends_post, ends_not_zero}
use Rattle.rules.specs.EachLaws.{each_append, each_left, each_right, each_snoc, each_map, each_mapped, each_unit}
use Rattle.rules.proofs.BoundLaws.{atoms_grow, atom_substituted, vars_below}
use Rattle.rules.specs.Added.{Added, added_none, added_then, push_adds, defer_adds, pushes_add}

-- ---- the unfolding
module _ (env : Env) (set : List ℕ) (P : Clause → Type 0) where
  -- the property is kept when a clause is contracted along a body atom over a reflexive role
  abbrev pub Keeps : Type 0
  Keeps = (r : Role) (before after head : List Atom) (src tgt : ℕ) → contains set (role_id r) ≡ true
      → P (clause (before ++ (RoleAtom r src tgt ∷ after)) head) → P (contracted before after head src tgt)

  -- what is left to do: clauses with the property, and no more of them than were derived
  record Onward (d e : Derived) : Type 0 where
    queue_all : Each P e.queue
    counted : length e.queue + length d.seen ≤ length d.queue + length e.seen
    within : length e.seen ≤ reflexive_derived_cap

  abbrev Left : Derived → Unfolded → Type 0
  Left d (more e) = Onward d e
  Left d capped = Unit {0}

  record Steps (s : Out) (d : Derived) (u : Unfolded) (t : Out) : Type 0 where
    added : Added env P s t
    left : Left d u

  record Ready (d : Derived) : Type 0 where
    queue_all : Each P d.queue
    within : length d.seen ≤ reflexive_derived_cap

  queued_all : (c : Clause) (l : List Clause) → P c → Each P l → (b : Bool) → Each P (pick b (c ∷ l) l) × (length (pick b (c ∷ l) l) ≤ length l + 1)
  queued_all c l p q true = ((p, q), omega arith)
  queued_all c l p q false = (q, omega arith)

  derive_steps : (c : Clause) (d : Derived) (s : Out) → P c → Ready d → (b : Bool) → eqb (length d.seen) reflexive_derived_cap ≡ b → Ends (Steps s d) (derive env set c d b s)
  derive_steps c d s p r true e = ends_then (defer_adds env P ReflexiveDerivedCap s) (λ _ t a. end (record { added = a; left = tt }))
  derive_steps c d s p r false e =
      let q = queued_all c d.queue p r.queue_all (any (is_reflexive set) c.body) in
      let n : length d.seen ≡ reflexive_derived_cap → ⊥ = eqb-false (length d.seen) reflexive_derived_cap e in
      let m = length-append d.seen (c ∷ []) in
      ends_then (push_adds env P c.body c.head s p) (λ _ t a. end (record { added = a; left = record { queue_all = q.0; counted = omega (arith, q.1); within = omega (arith, r.within) } }))

  still : (d : Derived) (s : Out) → Ready d → Steps s d (more d) s
  still d s r = record { added = added_none env P s; left = record { queue_all = r.queue_all; counted = omega arith; within = r.within } }

  contract_steps : (c : Clause) (d : Derived) (s : Out) → P c → Ready d → Ends (Steps s d) (contract env set c d s)
  unfolding contract
  contract_steps c d s p r = go (is_trivial set c || contains_clause d.seen c)
    where
      go : (b : Bool) → Ends (Steps s d) (derive_new env set c d b s)
      go true = end (still d s r)
      go false = derive_steps c d s p r (eqb (length d.seen) reflexive_derived_cap) refl

  onward_ready : (d e : Derived) → Onward d e → Ready e
  onward_ready d e g = record { queue_all = g.queue_all; within = g.within }

  left_on : (d e : Derived) (u : Unfolded) → Onward d e → Left e u → Left d u
  left_on d e (more f) g l = record { queue_all = l.queue_all; counted = omega (arith, g.counted, l.counted); within = l.within }
  left_on d e capped g l = tt

  go_on_lem : (rest : Derived → E Unfolded) → ((e : Derived) (t : Out) → Ready e → Ends (Steps t e) (rest e t))
      → (s : Out) (d : Derived) (u : Unfolded) (t : Out) → Steps s d u t → Ends (Steps s d) (go_on env set rest u t)
  go_on_lem rest k s d (more e) t a = ends_map (k e t (onward_ready d e a.left)) (λ v z b. record { added = added_then env P a.added b.added; left = left_on d e v a.left b.left })
  go_on_lem rest k s d capped t a = end a

  module _ (keeps : Keeps) where
    unfold_at_lem : (rest : Derived → E Unfolded) → ((e : Derived) (t : Out) → Ready e → Ends (Steps t e) (rest e t))
        → (before after head : List Atom) (a : Atom) (d : Derived) (s : Out) → P (clause (before ++ (a ∷ after)) head) → Ready d → Ends (Steps s d) (unfold_at env set rest before after head a d s)
    unfold_at_lem rest k before after head (Class _ _) d s p r = k d s r
    unfold_at_lem rest k before after head (RoleAtom q src tgt) d s p r = go (contains set (role_id q)) refl
      where
        go : (b : Bool) → contains set (role_id q) ≡ b → Ends (Steps s d) (unfold_role env set rest (contracted before after head src tgt) d b s)
        go true e = ends_then (contract_steps (contracted before after head src tgt) d s (keeps q before after head src tgt e p) r) (go_on_lem rest k s d)
        go false e = k d s r
    unfold_at_lem rest k before after head (Exists _ _ _) d s p r = k d s r
    unfold_at_lem rest k before after head (AtMost _ _ _ _) d s p r = k d s r
    unfold_at_lem rest k before after head (AtLeast _ _ _ _) d s p r = k d s r
    unfold_at_lem rest k before after head (Equal _ _) d s p r = k d s r

    unfold_body_lem : (before l head : List Atom) (d : Derived) (s : Out) → P (clause (before ++ l) head) → Ready d → Ends (Steps s d) (unfold_body env set before l head d s)
    unfolding unfold_body
    unfold_body_lem before [] head d s p r = end (still d s r)
    unfold_body_lem before (a ∷ l) head d s p r =
        unfold_at_lem (λ e. unfold_body env set (before ++ (a ∷ [])) l head e)
        (λ e t q. unfold_body_lem (before ++ (a ∷ [])) l head e t (rw (append_assoc before (a ∷ []) l) p) q)
        before l head a d s p r

    -- f is enough for what is left
    abbrev Enough : ℕ → Derived → Type 0
    Enough f d = length d.queue + reflexive_derived_cap < f + length d.seen

    abbrev Runs : (Derived → E (Unit {0})) → ℕ → Type 0
    Runs rest f = (d : Derived) (s : Out) → Ready d → Enough f d → Ends (λ _ t. Added env P s t) (rest d s)

    -- the queue, and what may still be derived, fall with each clause popped
    pop : (rest : Derived → E (Unit {0})) (f : ℕ) → Runs rest f → (q seen : List Clause) (s : Out) → Ready (record { queue = q; seen = seen })
        → Enough (suc f) (record { queue = q; seen = seen }) → Ends (λ _ t. Added env P s t) (popped env set rest q seen s)
    pop rest f k [] seen s r h = end (added_none env P s)
    pop rest f k (c ∷ q) seen s r h =
        ends_then (unfold_body_lem [] c.body c.head (record { queue = q; seen = seen }) s r.queue_all.0 (record { queue_all = r.queue_all.1; within = r.within })) done
      where
        done : (u : Unfolded) (t : Out) → Steps s (record { queue = q; seen = seen }) u t → Ends (λ _ z. Added env P s z) (finish env set rest u t)
        done (more e) t a = ends_map (k e t (onward_ready (record { queue = q; seen = seen }) e a.left) (omega (arith, a.left.counted))) (λ _ z b. added_then env P a.added b)
        done capped t a = end a.added

    unfold_by_lem : (f : ℕ) → Runs (λ d. unfold_by env set f d) f
    unfolding unfold_by
    unfold_by_lem zero d s r h = absurd (omega (arith, r.within))
    unfold_by_lem (suc f) d s r h = pop (λ e. unfold_by env set f e) f (unfold_by_lem f) d.queue d.seen s r h

    stacked_all : (l q : List Clause) → Each P l → Each P q → Each P (stacked env set l q) × (length (stacked env set l q) ≤ length l + length q)
    unfolding stacked
    stacked_all [] q p r = (r, omega arith)
    stacked_all (c ∷ l) q p r =
        let h = queued_all c q p.0 r (any (is_reflexive set) c.body) in
        let k = stacked_all l (queued env set c q) p.1 h.0 in
        (k.0, omega (arith, h.1, k.1))

    -- the whole pass, over any property that one contraction keeps
    pub reflexive_adds : (s : Out) → Each P s.clauses → Ends (λ _ t. Added env P s t) (apply_reflexive_roles env set s)
    unfolding apply_reflexive_roles
    reflexive_adds s p =
        let h = stacked_all s.clauses [] p tt in
        unfold_by_lem (length s.clauses + reflexive_derived_cap + 1) (record { queue = stacked env set s.clauses []; seen = [] }) s (record { queue_all = h.0; within = omega arith }) (omega (arith, h.1))

-- the bound is enough
pub unfold_enough : (env : Env) (set : List ℕ) (s : Out) → NotZero (apply_reflexive_roles env set s)
unfold_enough env set s = ends_not_zero (reflexive_adds env set (λ _. Unit {0}) (λ r before after head src tgt e u. tt) s (each_unit s.clauses))

-- ---- contraction keeps the bounds
kept_below : (vars src tgt : ℕ) → src < vars → tgt < vars → kept_var src tgt < vars
kept_below vars src tgt h k = go (eqb tgt 0)
  where
    go : (b : Bool) → pick b tgt src < vars
    go true = k
    go false = h

replaced_below : (vars drop keep v : ℕ) → keep < vars → v < vars → replaced drop keep v < vars
replaced_below vars drop keep v h k = go (eqb v drop)
  where
    go : (b : Bool) → pick b keep v < vars
    go true = h
    go false = k

pub contracted_in : (B : Bounds) (fresh vars : ℕ) (r : Role) (before after head : List Atom) (src tgt : ℕ)
    → ClauseIn B fresh vars (clause (before ++ (RoleAtom r src tgt ∷ after)) head) → ClauseIn B fresh vars (contracted before after head src tgt)
contracted_in B fresh vars r before after head src tgt h =
    let P : Atom → Type 0 = AtomIn B fresh vars in
    let rest = each_right P before (RoleAtom r src tgt ∷ after) h.body_in in
    let sub : ℕ → ℕ = replaced (dropped_var src tgt) (kept_var src tgt) in
    let at : (a : Atom) → P a → P (substitute_atom a sub)
    = atom_substituted B fresh sub (λ v k. replaced_below vars (dropped_var src tgt) (kept_var src tgt) v (kept_below vars src tgt rest.0.1 rest.0.2) k) in
    let n = length-append before (RoleAtom r src tgt ∷ after) in
    let m = length-append before after in
    let lb = length-map (before ++ after) (λ a. substitute_atom a sub) in
    let lh = length-map head (λ a. substitute_atom a sub) in
    record {
      body_in = each_mapped P P (λ a. substitute_atom a sub) at (before ++ after) (each_append P before after (each_left P before (RoleAtom r src tgt ∷ after) h.body_in) rest.1);
      head_in = each_mapped P P (λ a. substitute_atom a sub) at head h.head_in;
      body_short = omega (arith, h.body_short);
      head_short = omega (arith, h.head_short);
    }

pub reflexive_in : (env : Env) (set : List ℕ) (B : Bounds) (fresh vars : ℕ) (s : Out) → Each (ClauseIn B fresh vars) s.clauses
    → Ends (λ _ t. Added env (ClauseIn B fresh vars) s t) (apply_reflexive_roles env set s)
reflexive_in env set B fresh vars s h =
    reflexive_adds env set (ClauseIn B fresh vars) (λ r before after head src tgt e c. contracted_in B fresh vars r before after head src tgt c) s h

pub reflexive_post : (env : Env) (set : List ℕ) (B : Bounds) (vars : ℕ) (s : Out) → Each (ClauseIn B s.next_fresh vars) s.clauses
    → Post (λ _ t. Added env (ClauseIn B s.next_fresh vars) s t) (apply_reflexive_roles env set s)
reflexive_post env set B vars s h = ends_post (reflexive_in env set B s.next_fresh vars s h)

-- ---- the loops
-- body and R(v, fresh) give R(v, v)
abbrev pub loop_clause : Clause → Role → ℕ → Clause
loop_clause c r v = clause (c.body ++ (RoleAtom r v (next_var_of c) ∷ [])) (RoleAtom r v v ∷ [])

module _ (env : Env) (set : List ℕ) (P Q : Clause → Type 0) where
  -- what a loop has, from its clause with an at-most head atom over a reflexive role
  abbrev pub Loops : Type 0
  Loops = (c : Clause) (before after : List Atom) (r : Role) (q : Qualifier) (n v : ℕ) → c.head ≡ before ++ (AtMost r q n v ∷ after)
      → contains set (role_id r) ≡ true → length c.body < most_in_hand → P c → Q (loop_clause c r v)

  -- a list of clauses with the property, the state as it was
  abbrev Listed : Out → List Clause → Out → Type 0
  Listed s new t = (t ≡ s) × Each Q new

  loop_kept_lem : (new : List Clause) (c : Clause) → Each Q new → Q c → (b : Bool) → Each Q (loop_kept new c b)
  loop_kept_lem new c p q true = p
  loop_kept_lem new c p q false = each_snoc Q new c p q

  module _ (loops : Loops) where
    loop_over_lem : (c : Clause) (before after : List Atom) (r : Role) (q : Qualifier) (n v : ℕ) (new : List Clause) (s : Out) → P c → Each Q new
        → c.head ≡ before ++ (AtMost r q n v ∷ after) → (b : Bool) → contains set (role_id r) ≡ b → Ends (Listed s) (loop_over env set c r v new b s)
    unfolding with
    loop_over_lem c before after r q n v new s p h e true k = go (ltb (length c.body) most_in_hand) refl
      where
        go : (b : Bool) → ltb (length c.body) most_in_hand ≡ b
            → Ends (Listed s) (then (longer c.body (RoleAtom r v (next_var_of c)) b s) (λ body. ok (loop_kept new (clause body (RoleAtom r v v ∷ [])) (contains_clause new (clause body (RoleAtom r v v ∷ []))))))
        go true l = end (refl, loop_kept_lem new (loop_clause c r v) h (loops c before after r q n v e k (ltb-true (length c.body) most_in_hand l) p) (contains_clause new (loop_clause c r v)))
        go false l = stop 11
    loop_over_lem c before after r q n v new s p h e false k = end (refl, h)

    loop_of_lem : (c : Clause) (before after : List Atom) (a : Atom) (new : List Clause) (s : Out) → P c → Each Q new → c.head ≡ before ++ (a ∷ after) → Ends (Listed s) (loop_of env set c new a s)
    loop_of_lem c before after (Class _ _) new s p h e = end (refl, h)
    loop_of_lem c before after (RoleAtom _ _ _) new s p h e = end (refl, h)
    loop_of_lem c before after (Exists _ _ _) new s p h e = end (refl, h)
    loop_of_lem c before after (AtMost r q n v) new s p h e = loop_over_lem c before after r q n v new s p h e (contains set (role_id r)) refl
    loop_of_lem c before after (AtLeast _ _ _ _) new s p h e = end (refl, h)
    loop_of_lem c before after (Equal _ _) new s p h e = end (refl, h)

    loops_of_head_lem : (c : Clause) (before l : List Atom) (new : List Clause) (s : Out) → P c → Each Q new → c.head ≡ before ++ l → Ends (Listed s) (loops_of_head env set c l new s)
    unfolding loops_of_head
    loops_of_head_lem c before [] new s p h e = end (refl, h)
    loops_of_head_lem c before (a ∷ l) new s p h e =
        ends_then (loop_of_lem c before l a new s p h e)
        (λ k t g. rw g.0 (loops_of_head_lem c (before ++ (a ∷ [])) l k s p g.1 (e ∙ sym (append_assoc before (a ∷ []) l))))

    self_loops_lem : (l new : List Clause) (s : Out) → Each P l → Each Q new → Ends (Listed s) (self_loops env set l new s)
    unfolding self_loops
    self_loops_lem [] new s p h = end (refl, h)
    self_loops_lem (c ∷ l) new s p h = ends_then (loops_of_head_lem c [] c.head new s p.0 h refl) (λ k t g. rw g.0 (self_loops_lem l k s p.1 g.1))

    -- the whole pass, over any properties
    pub loops_add : (s : Out) → Each P s.clauses → Ends (λ _ t. Added env Q s t) (add_counted_self_loops env set s)
    unfolding add_counted_self_loops
    loops_add s p = ends_then (self_loops_lem s.clauses [] s p tt) (λ new t g. rw g.0 (pushes_add env Q new s g.1))

pub loops_enough : (env : Env) (set : List ℕ) (s : Out) → NotZero (add_counted_self_loops env set s)
loops_enough env set s = ends_not_zero (loops_add env set (λ _. Unit {0}) (λ _. Unit {0}) (λ c before after r q n v e k l p. tt) s (each_unit s.clauses))

max_below : (vars m : ℕ) (l : List ℕ) → m < vars → Each (λ v. v < vars) l → max_var m l < vars
unfolding max_var
max_below vars m [] h p = h
max_below vars m (v ∷ l) h p = max_below vars (pick (ltb m v) v m) l (go (ltb m v)) p.1
  where
    go : (b : Bool) → pick b v m < vars
    go true = p.0
    go false = h

atoms_vars_below : (B : Bounds) (fresh vars : ℕ) (l : List Atom) → Each (AtomIn B fresh vars) l → Each (λ v. v < vars) (atoms_vars l)
unfolding atoms_vars
atoms_vars_below B fresh vars [] p = tt
atoms_vars_below B fresh vars (a ∷ l) p = each_append (λ v. v < vars) (atom_vars a) (atoms_vars l) (vars_below B fresh vars a p.0) (atoms_vars_below B fresh vars l p.1)

-- one more than the greatest variable: below one more
pub next_var_below : (B : Bounds) (fresh vars : ℕ) (c : Clause) → 0 < vars → ClauseIn B fresh vars c → next_var_of c < vars + 1
next_var_below B fresh vars c h k =
    let m = max_below vars 0 (atoms_vars (c.body ++ c.head)) h (atoms_vars_below B fresh vars (c.body ++ c.head) (each_append (AtomIn B fresh vars) c.body c.head k.body_in k.head_in)) in
    omega arith

pub loop_in : (B : Bounds) (fresh vars : ℕ) (c : Clause) (before after : List Atom) (r : Role) (q : Qualifier) (n v : ℕ) → c.head ≡ before ++ (AtMost r q n v ∷ after)
    → length c.body < most_in_hand → ClauseIn B fresh vars c → ClauseIn B fresh (vars + 1) (loop_clause c r v)
loop_in B fresh vars c before after r q n v e l h =
    let at = each_right (AtomIn B fresh vars) before (AtMost r q n v ∷ after) (rw e at h.head_in) in
    let x = next_var_below B fresh vars c (omega (arith, at.0.3)) h in
    let m = length-append c.body (RoleAtom r v (next_var_of c) ∷ []) in
    record {
      body_in = each_snoc (AtomIn B fresh (vars + 1)) c.body (RoleAtom r v (next_var_of c)) (atoms_grow B (omega arith) (omega arith) c.body h.body_in) (at.0.0, omega (arith, at.0.3), x);
      head_in = ((at.0.0, omega (arith, at.0.3), omega (arith, at.0.3)), tt);
      body_short = omega arith;
      head_short = omega arith;
    }

pub loops_in : (env : Env) (set : List ℕ) (B : Bounds) (fresh vars : ℕ) (s : Out) → Each (ClauseIn B fresh vars) s.clauses
    → Ends (λ _ t. Added env (ClauseIn B fresh (vars + 1)) s t) (add_counted_self_loops env set s)
loops_in env set B fresh vars s h =
    loops_add env set (ClauseIn B fresh vars) (ClauseIn B fresh (vars + 1)) (λ c before after r q n v e k l p. loop_in B fresh vars c before after r q n v e l p) s h

pub loops_post : (env : Env) (set : List ℕ) (B : Bounds) (vars : ℕ) (s : Out) → Each (ClauseIn B s.next_fresh vars) s.clauses
    → Post (λ _ t. Added env (ClauseIn B s.next_fresh (vars + 1)) s t) (add_counted_self_loops env set s)
loops_post env set B vars s h = ends_post (loops_in env set B s.next_fresh vars s h)

-- ---- lists of atoms that are compared
pub same_atoms_lem : (l m : List Atom) → same_atoms l m ≡ true → l ≡ m
unfolding same_atoms
same_atoms_lem [] [] h = refl
same_atoms_lem [] (b ∷ m) h = absurd (false≢true h)
same_atoms_lem (a ∷ l) [] h = absurd (false≢true h)
same_atoms_lem (a ∷ l) (b ∷ m) h = let g = and_parts (same_atom a b) (same_atoms l m) h in ap₂ (λ x k. x ∷ k) (same_atom_lem a b g.0) (same_atoms_lem l m g.1)

-- ---- the set of reflexive roles
abbrev Has : List ℕ → ℕ → Type 0
Has set n = contains set n ≡ true

-- every element of the one is in the other
abbrev Within : List ℕ → List ℕ → Type 0
Within k l = (n : ℕ) → Has k n → Has l n

or_cases : (a b : Bool) (C : Type 0) → a || b ≡ true → (a ≡ true → C) → (b ≡ true → C) → C
or_cases true b C h f g = f refl
or_cases false b C h f g = g h

has_first : (n : ℕ) (l : List ℕ) → Has (n ∷ l) n
has_first n l = or_left (eqb n n) (contains l n) (eq-eqb n n refl)

has_behind : (k l : List ℕ) → Within l (k ++ l)
has_behind [] l n h = h
has_behind (x ∷ k) l n h = or_right (eqb n x) (contains (k ++ l) n) (has_behind k l n h)

each_has : (S : ℕ → Type 0) (l : List ℕ) (n : ℕ) → Each S l → Has l n → S n
each_has S [] n p h = absurd (false≢true h)
each_has S (x ∷ l) n p h = or_cases (eqb n x) (contains l n) (S n) h (λ e. subst S (sym (eqb-true n x e)) p.0) (λ e. each_has S l n p.1 e)

inserted_has : (set : List ℕ) (n : ℕ) → Has (inserted set n) n
inserted_has set n = go (contains set n) refl
  where
    go : (b : Bool) → contains set n ≡ b → Has (pick b set (n ∷ set)) n
    go true e = e
    go false e = has_first n set

inserted_within : (set : List ℕ) (n : ℕ) → Within set (inserted set n)
inserted_within set n = go (contains set n)
  where
    go : (b : Bool) → Within set (pick b set (n ∷ set))
    go true m h = h
    go false m h = or_right (eqb m n) (contains set m) h

inserted_each : (S : ℕ → Type 0) (set : List ℕ) (n : ℕ) → Each S set → S n → Each S (inserted set n)
inserted_each S set n p q = go (contains set n)
  where
    go : (b : Bool) → Each S (pick b set (n ∷ set))
    go true = p
    go false = (q, p)

-- one edge
abbrev along : ℕ × ℕ → List ℕ → List ℕ
along e set = pick (contains set e.0) (inserted set e.1) set

along_within : (e : ℕ × ℕ) (set : List ℕ) → Within set (along e set)
along_within e set = go (contains set e.0)
  where
    go : (b : Bool) → Within set (pick b (inserted set e.1) set)
    go true = inserted_within set e.1
    go false = λ m h. h

along_has : (e : ℕ × ℕ) (set : List ℕ) → Has set e.0 → Has (along e set) e.1
along_has e set h = rw h (inserted_has set e.1)

along_each : (S : ℕ → Type 0) (e : ℕ × ℕ) (set : List ℕ) → (S e.0 → S e.1) → Each S set → Each S (along e set)
along_each S e set f p = go (contains set e.0) refl
  where
    go : (b : Bool) → contains set e.0 ≡ b → Each S (pick b (inserted set e.1) set)
    go true h = inserted_each S set e.1 p (f (each_has S set e.0 p h))
    go false h = p

-- one round
round_within : (l : List (ℕ × ℕ)) (set : List ℕ) → Within set (round l set)
unfolding round
round_within [] set n h = h
round_within (e ∷ l) set n h = round_within l (along e set) n (along_within e set n h)

round_each : (S : ℕ → Type 0) (l : List (ℕ × ℕ)) (set : List ℕ) → Each (λ e. S e.0 → S e.1) l → Each S set → Each S (round l set)
unfolding round
round_each S [] set f p = p
round_each S (e ∷ l) set f p = round_each S l (along e set) f.1 (along_each S e set f.0 p)

round_ends : (l : List (ℕ × ℕ)) (set : List ℕ) → Each (λ e. Has set e.0 → Has (round l set) e.1) l
unfolding round
round_ends [] set = tt
round_ends (e ∷ l) set = (
  λ h. round_within l (along e set) e.1 (along_has e set h),
  each_map (λ d. Has (along e set) d.0 → Has (round l (along e set)) d.1) (λ d. Has set d.0 → Has (round l (along e set)) d.1) (λ d f h. f (along_within e set d.0 h)) l (round_ends l (along e set)),
)

-- what a round adds: ends of edges that were not in the set
abbrev ends_at : List (ℕ × ℕ) → ℕ → Bool
ends_at l n = any (λ e. eqb n e.1) l

record Rounded (l : List (ℕ × ℕ)) (set after : List ℕ) : Type 0 where
  added : List ℕ
  grown : after ≡ added ++ set
  new : Each (λ n. (contains set n ≡ false) × (ends_at l n ≡ true)) added

rounded : (l : List (ℕ × ℕ)) (set : List ℕ) → Rounded l set (round l set)
unfolding round
rounded [] set = record { added = []; grown = refl; new = tt }
rounded (e ∷ l) set = from (contains set e.0) (contains set e.1) refl (rounded l (along e set))
  where
    later : (after : List ℕ) → Rounded l set after → Rounded (e ∷ l) set after
    later after r = record {
      added = r.added;
      grown = r.grown;
      new = each_map (λ n. (contains set n ≡ false) × (ends_at l n ≡ true)) (λ n. (contains set n ≡ false) × (ends_at (e ∷ l) n ≡ true)) (λ n h. (h.0, or_right (eqb n e.1) (ends_at l n) h.1)) r.added r.new;
    }

    from : (b d : Bool) → contains set e.1 ≡ d → Rounded l (pick b (pick d set (e.1 ∷ set)) set) (round l (pick b (pick d set (e.1 ∷ set)) set))
        → Rounded (e ∷ l) set (round l (pick b (pick d set (e.1 ∷ set)) set))
    from false d h r = later (round l set) r
    from true true h r = later (round l set) r
    from true false h r = record {
      added = r.added ++ (e.1 ∷ []);
      grown = r.grown ∙ sym (append_assoc r.added (e.1 ∷ []) set);
      new = each_snoc (λ n. (contains set n ≡ false) × (ends_at (e ∷ l) n ≡ true)) r.added e.1
          (each_map (λ n. (contains (e.1 ∷ set) n ≡ false) × (ends_at l n ≡ true)) (λ n. (contains set n ≡ false) × (ends_at (e ∷ l) n ≡ true)) (λ n k. ((or_parts (eqb n e.1) (contains set n) k.0).1, or_right (eqb n e.1) (ends_at l n) k.1)) r.added r.new)
          (h, or_left (eqb e.1 e.1) (ends_at l e.1) (eq-eqb e.1 e.1 refl));
    }

-- how many edges end outside the set
outside : List (ℕ × ℕ) → List ℕ → ℕ
outside [] set = 0
outside (e ∷ l) set = one (not (contains set e.1)) + outside l set

outside_all : (l : List (ℕ × ℕ)) (set : List ℕ) → outside l set ≤ length l
unfolding outside
outside_all [] set = omega arith
outside_all (e ∷ l) set = go (contains set e.1) (outside_all l set)
  where
    go : (b : Bool) → outside l set ≤ length l → one (not b) + outside l set ≤ suc (length l)
    go true h = omega arith
    go false h = omega arith

one_less : (a b : Bool) → (a ≡ true → b ≡ true) → one (not b) ≤ one (not a)
one_less true true f = omega arith
one_less true false f = absurd (false≢true (f refl))
one_less false true f = omega arith
one_less false false f = omega arith

outside_less : (l : List (ℕ × ℕ)) (set after : List ℕ) → Within set after → outside l after ≤ outside l set
unfolding outside
outside_less [] set after w = omega arith
outside_less (e ∷ l) set after w =
    let h = outside_less l set after w in
    let k = one_less (contains set e.1) (contains after e.1) (w e.1) in
    omega arith

-- fewer, if an end is new
outside_new : (l : List (ℕ × ℕ)) (set after : List ℕ) (n : ℕ) → Within set after → contains set n ≡ false → contains after n ≡ true → ends_at l n ≡ true → outside l after < outside l set
unfolding outside
outside_new [] set after n w p q h = absurd (false≢true h)
outside_new (e ∷ l) set after n w p q h =
    or_cases (eqb n e.1) (ends_at l n) (one (not (contains after e.1)) + outside l after < one (not (contains set e.1)) + outside l set) h
    (λ k. let m : e.1 ≡ n = sym (eqb-true n e.1 k) in let r = outside_less l set after w in rw (m, p, q) (omega arith))
    (λ k. let r = outside_new l set after n w p q k in let z = one_less (contains set e.1) (contains after e.1) (w e.1) in omega arith)

-- a round that adds nothing leaves the set as it is; one that adds leaves fewer ends outside
module _ (edges : List (ℕ × ℕ)) where
  round_same : (set after : List ℕ) → Rounded edges set after → length set ≡ length after → after ≡ set
  round_same set after r h = go r.added r.grown
    where
      go : (k : List ℕ) → after ≡ k ++ set → after ≡ set
      go [] e = e
      go (x ∷ k) e = absurd (omega (arith, ap length e, length-append k set))

  round_fewer : (set after : List ℕ) → Rounded edges set after → (length set ≡ length after → ⊥) → outside edges after < outside edges set
  round_fewer set after r h = go r.added r.grown r.new
    where
      go : (k : List ℕ) → after ≡ k ++ set → Each (λ n. (contains set n ≡ false) × (ends_at edges n ≡ true)) k → outside edges after < outside edges set
      go [] e p = absurd (h (sym (ap length e)))
      go (x ∷ k) e p = rw e (outside_new edges set (x ∷ (k ++ set)) x (has_behind (x ∷ k) set) p.0.0 (has_first x (k ++ set)) p.0.1)

  closed_stable : (f : ℕ) (set : List ℕ) → outside edges set < f → round edges (closed f edges set) ≡ closed f edges set
  unfolding closed
  closed_stable zero set h = absurd (omega arith)
  closed_stable (suc f) set h = go (eqb (length set) (length (round edges set))) refl (λ k. closed_stable f (round edges set) k)
    where
      go : (b : Bool) → eqb (length set) (length (round edges set)) ≡ b
          → (outside edges (round edges set) < f → round edges (closed f edges (round edges set)) ≡ closed f edges (round edges set))
          → round edges (settled (λ k. closed f edges k) set (round edges set) b) ≡ settled (λ k. closed f edges k) set (round edges set) b
      go true e again = round_same set (round edges set) (rounded edges set) (eqb-true (length set) (length (round edges set)) e)
      go false e again = again (let k = round_fewer set (round edges set) (rounded edges set) (eqb-false (length set) (length (round edges set)) e) in omega arith)

  closed_within : (f : ℕ) (set : List ℕ) → Within set (closed f edges set)
  unfolding closed
  closed_within zero set n h = h
  closed_within (suc f) set n h = go (eqb (length set) (length (round edges set))) (closed_within f (round edges set) n (round_within edges set n h))
    where
      go : (b : Bool) → Has (closed f edges (round edges set)) n → Has (settled (λ k. closed f edges k) set (round edges set) b) n
      go true k = h
      go false k = k

  closed_each : (S : ℕ → Type 0) (f : ℕ) (set : List ℕ) → Each (λ e. S e.0 → S e.1) edges → Each S set → Each S (closed f edges set)
  unfolding closed
  closed_each S zero set c p = p
  closed_each S (suc f) set c p = go (eqb (length set) (length (round edges set))) (closed_each S f (round edges set) c (round_each S edges set c p))
    where
      go : (b : Bool) → Each S (closed f edges (round edges set)) → Each S (settled (λ k. closed f edges k) set (round edges set) b)
      go true k = p
      go false k = k

-- the declared roles
module _ (env : Env) where
  declared_within : (a : Axiom) (set : List ℕ) → Within set (declared_reflexive env set a)
  declared_within (SubClassOf _ _) set = λ n h. h
  declared_within (EquivalentClasses _) set = λ n h. h
  declared_within (DisjointClasses _) set = λ n h. h
  declared_within (DisjointUnion _ _) set = λ n h. h
  declared_within (ObjectPropertyDomain _ _) set = λ n h. h
  declared_within (ObjectPropertyRange _ _) set = λ n h. h
  declared_within (SubChain _ _) set = λ n h. h
  declared_within (TransitiveRole _) set = λ n h. h
  declared_within (IrreflexiveRole _) set = λ n h. h
  declared_within (AsymmetricRole _) set = λ n h. h
  declared_within (DisjointObjectProperties _) set = λ n h. h
  declared_within (InverseObjectProperties _ _) set = λ n h. h
  declared_within (SubObjectPropertyOf _ _) set = λ n h. h
  declared_within (EquivalentObjectProperties _) set = λ n h. h
  declared_within (ReflexiveRole r) set = inserted_within set (canon_id env r)
  declared_within (ClassAssertion _ _) set = λ n h. h

  declared_each : (S : ℕ → Type 0) (a : Axiom) (set : List ℕ) → ((r : Role) → ReflexiveRole r ≡ a → S (canon_id env r)) → Each S set → Each S (declared_reflexive env set a)
  declared_each S (SubClassOf _ _) set f p = p
  declared_each S (EquivalentClasses _) set f p = p
  declared_each S (DisjointClasses _) set f p = p
  declared_each S (DisjointUnion _ _) set f p = p
  declared_each S (ObjectPropertyDomain _ _) set f p = p
  declared_each S (ObjectPropertyRange _ _) set f p = p
  declared_each S (SubChain _ _) set f p = p
  declared_each S (TransitiveRole _) set f p = p
  declared_each S (IrreflexiveRole _) set f p = p
  declared_each S (AsymmetricRole _) set f p = p
  declared_each S (DisjointObjectProperties _) set f p = p
  declared_each S (InverseObjectProperties _ _) set f p = p
  declared_each S (SubObjectPropertyOf _ _) set f p = p
  declared_each S (EquivalentObjectProperties _) set f p = p
  declared_each S (ReflexiveRole r) set f p = inserted_each S set (canon_id env r) p (f r refl)
  declared_each S (ClassAssertion _ _) set f p = p

  from_within : (axioms : List Axiom) (set : List ℕ) → Within set (reflexive_from env set axioms)
  unfolding reflexive_from
  from_within [] set n h = h
  from_within (a ∷ l) set n h = from_within l (declared_reflexive env set a) n (declared_within a set n h)

  from_has : (r : Role) {axioms : List Axiom} (set : List ℕ) → Memᴰ (ReflexiveRole r) axioms → Has (reflexive_from env set axioms) (canon_id env r)
  unfolding reflexive_from
  from_has r set (Memᴰ.head {x = a} {xs = l} e) =
      from_within l (declared_reflexive env set a) (canon_id env r) (subst (λ (b : Axiom). Has (declared_reflexive env set b) (canon_id env r)) e (inserted_has set (canon_id env r)))
  from_has r set (Memᴰ.tail {x = a} {xs = l} m) = from_has r (declared_reflexive env set a) m

  from_each : (S : ℕ → Type 0) (axioms : List Axiom) (set : List ℕ) → ((r : Role) → Memᴰ (ReflexiveRole r) axioms → S (canon_id env r)) → Each S set → Each S (reflexive_from env set axioms)
  unfolding reflexive_from
  from_each S [] set f p = p
  from_each S (a ∷ l) set f p = from_each S l (declared_reflexive env set a) (λ r m. f r (Memᴰ.tail m)) (declared_each S a set (λ r e. f r (Memᴰ.head e)) p)

  -- the rounds are enough: one more adds nothing
  pub closed_enough : (axioms : List Axiom) → round (all_edges env axioms) (reflexive_role_ids env axioms) ≡ reflexive_role_ids env axioms
  unfolding reflexive_role_ids
  closed_enough axioms = closed_stable (all_edges env axioms) (suc (length (all_edges env axioms))) (reflexive_from env [] axioms)
      (let h = outside_all (all_edges env axioms) (reflexive_from env [] axioms) in omega arith)

  -- so the set is closed under the edges
  pub reflexive_closed : (axioms : List Axiom) → Each (λ e. contains (reflexive_role_ids env axioms) e.0 ≡ true → contains (reflexive_role_ids env axioms) e.1 ≡ true) (all_edges env axioms)
  reflexive_closed axioms =
      let set = reflexive_role_ids env axioms in
      let edges = all_edges env axioms in
      subst (λ (k : List ℕ). Each (λ e. Has set e.0 → Has k e.1) edges) (closed_enough axioms) (round_ends edges set)

  -- it holds every role declared reflexive
  pub reflexive_declared : (axioms : List Axiom) (r : Role) → Memᴰ (ReflexiveRole r) axioms → contains (reflexive_role_ids env axioms) (canon_id env r) ≡ true
  unfolding reflexive_role_ids
  reflexive_declared axioms r m =
      closed_within (all_edges env axioms) (suc (length (all_edges env axioms))) (reflexive_from env [] axioms) (canon_id env r) (from_has r [] m)

  -- and it is the least such set
  pub reflexive_least : (S : ℕ → Type 0) (axioms : List Axiom) → ((r : Role) → Memᴰ (ReflexiveRole r) axioms → S (canon_id env r))
      → Each (λ e. S e.0 → S e.1) (all_edges env axioms) → Each S (reflexive_role_ids env axioms)
  unfolding reflexive_role_ids
  reflexive_least S axioms f c = closed_each (all_edges env axioms) S (suc (length (all_edges env axioms))) (reflexive_from env [] axioms) c (from_each S axioms [] f tt)

  pub reflexive_only : (S : ℕ → Type 0) (axioms : List Axiom) → ((r : Role) → Memᴰ (ReflexiveRole r) axioms → S (canon_id env r))
      → Each (λ e. S e.0 → S e.1) (all_edges env axioms) → (n : ℕ) → contains (reflexive_role_ids env axioms) n ≡ true → S n
  reflexive_only S axioms f c n h = each_has S (reflexive_role_ids env axioms) n (reflexive_least S axioms f c) h
