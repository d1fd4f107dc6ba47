-- decompose_wide_bodies keeps the bounds: rewritten bodies have no more atoms than before, named bodies at most 256, each
-- new name is one fresh class, and the bound on the subtrees is enough. Assumes nothing.
use Rattle.std.specs.Prelude.{◌≡◌, refl, Bool, not, ◌&&◌, eqb, ltb}
use Rattle.std.proofs.Math.Path.{sym, ap}
use Rattle.std.proofs.Common.{◌∙◌}
use Rattle.std.proofs.Math.Bool.{true, false}
use mathlib.Core.List.{List, [], ◌∷◌, ◌++◌, map, append-nil, append_assoc}
use Rattle.std.proofs.Math.Option.{Option, none, some}
use Prim.Native.Nat.{ℕ, zero, suc, ◌+◌, ◌*◌, ◌≤◌, ◌<◌}
use native.Mathlib.Omega.{arith}
use Rattle.std.proofs.Math.ListN.{length, length-append, length-map}
use Rattle.std.proofs.Math.Dec.{leb}
use Rattle.std.proofs.lemmas.Bool.{and_parts}
use borrow.Author.Tests.{eqb-true, leb-true}
use Rattle.ir.specs.Pick.{pick}
use Rattle.ir.specs.declared.role.Role.{Role}
use Rattle.ir.specs.declared.atom.Atom.{Atom}
use Rattle.ir.specs.declared.atom.Atom.TheVariants.{Class, Exists, AtMost, AtLeast, Equal, Role as RoleAtom}
use Rattle.rules.specs.Base.{Res, ok, refused, kept, filter, contains}
use Rattle.rules.specs.State.{Env, Out, Clause, clause, total, most_in_hand}
use Rattle.rules.specs.Reflexive.{same_atoms}
use Rattle.rules.specs.Branches.{max_body_vars, body_var_count_from, head_vars, place_in, place_of, met_with, renumber_from, renumber, Tree, bound_by, edge_from, edge_unless, scan_atom, scan, scanned, rescan, tree_by, unplaced, tree_of, any_disconnected, Top, at_root, below, unbound, parent_in, parent_of, top_under, top_with, top_by, top_of, Home, root_home, branch, homeless, home_of, home_of_both, atom_home, Groups, join_group, into_group, place_atom, grouped, Branch, Naming, W, branch_name, memo_of, name_or_new, name_of, is_edge, mentions, reduced_to, split_below, split_group, name_group, group_with, then_some, name_groups, name_grouped, name_tree, name_step, name_by, stays_whole, Rewritten, rewrite, decompose_one, decompose_from, branch_clause, finished_in, decomposed_in, decompose_wide_bodies}
use Rattle.rules.specs.Post.{Post}
use Rattle.rules.specs.Invariants.{Each, Bounds, AtomIn, ClauseIn}
use Rattle.rules.specs.Ends.{NotZero, Ends, ends, stops, end, stop, ends_then, ends_map, ends_post, ends_not_zero}
use Rattle.rules.specs.EachLaws.{each_append, each_snoc, each_map, each_mapped, each_unit}
use Rattle.rules.proofs.EmitLaws.{atom_more}
use Rattle.rules.proofs.BoundLaws.{clauses_grow}

-- ---- renumbering: a new number is at most the number of variables met before
pub place_within : (met : List ℕ) (v : ℕ) → place_of met v ≤ length met
unfolding place_of
place_within [] v = omega arith
place_within (u ∷ met) v = go (eqb u v) (place_within met v)
  where
    go : (b : Bool) → place_of met v ≤ length met → place_in b (place_of met v) ≤ suc (length met)
    go true h = omega arith
    go false h = omega arith

pub met_within : (met : List ℕ) (v : ℕ) → length (met_with met v) ≤ length met + 1
met_within met v = go (contains met v)
  where
    go : (b : Bool) → length (pick b met (met ++ (v ∷ []))) ≤ length met + 1
    go true = omega arith
    go false = let h = length-append met (v ∷ []) in omega arith

pub renumber_length : (met : List ℕ) (l : List Atom) → length (renumber_from met l) ≡ length l
unfolding renumber_from
renumber_length met [] = refl
renumber_length met (Class k v ∷ l) = ap suc (renumber_length (met_with met v) l)
renumber_length met (RoleAtom r u v ∷ l) = ap suc (renumber_length (met_with (met_with met u) v) l)
renumber_length met (Exists r k v ∷ l) = ap suc (renumber_length met l)
renumber_length met (AtMost r q n v ∷ l) = ap suc (renumber_length met l)
renumber_length met (AtLeast r q n v ∷ l) = ap suc (renumber_length met l)
renumber_length met (Equal u v ∷ l) = ap suc (renumber_length met l)

-- the elements that pass and those that do not
filter_both : {A : Type 0} (p : A → Bool) (l : List A) → length (filter p l) + length (filter (λ x. not (p x)) l) ≡ length l
unfolding filter
filter_both p [] = refl
filter_both p (x ∷ l) = go (p x) (filter_both p l)
  where
    go : (b : Bool) → length (filter p l) + length (filter (λ y. not (p y)) l) ≡ length l
        → length (kept x (filter p l) b) + length (kept x (filter (λ y. not (p y)) l) (not b)) ≡ suc (length l)
    go true h = omega arith
    go false h = omega arith

pub filter_each : {A : Type 0} (P : A → Type 0) (p : A → Bool) (l : List A) → Each P l → Each P (filter p l)
unfolding filter
filter_each P p [] h = tt
filter_each P p (x ∷ l) h = go (p x) (filter_each P p l h.1)
  where
    go : (b : Bool) → Each P (filter p l) → Each P (kept x (filter p l) b)
    go true k = (h.0, k)
    go false k = k

-- the atoms of all groups
abbrev groups_total : List (ℕ × List Atom) → ℕ
groups_total [] = 0
groups_total (g ∷ l) = length g.1 + groups_total l

-- clause by clause: the same head, and no more body atoms
abbrev pub Shorter : List Clause → List Clause → Type 0
Shorter [] [] = Unit {0}
Shorter [] (d ∷ l) = ⊥
Shorter (c ∷ k) [] = ⊥
Shorter (c ∷ k) (d ∷ l) = (c.head ≡ d.head) × (length c.body ≤ length d.body) × Shorter k l

pub shorter_length : (k l : List Clause) → Shorter k l → length k ≡ length l
shorter_length [] [] h = refl
shorter_length [] (d ∷ l) h = absurd h
shorter_length (c ∷ k) [] h = absurd h
shorter_length (c ∷ k) (d ∷ l) h = ap suc (shorter_length k l h.2)

-- what is asked of a property P of atoms, by the first id that is not yet given, and of a property R of variables, for
-- bodies of at most so many atoms
pub record Kinds (P : ℕ → Atom → Type 0) (R : ℕ → Type 0) (most : ℕ) : Type 0 where
  pub grows : (fresh fresh' : ℕ) → fresh ≤ fresh' → (a : Atom) → P fresh a → P fresh' a
  pub class_var : (fresh k v : ℕ) → P fresh (Class k v) → R v
  pub role_vars : (fresh : ℕ) (r : Role) (u v : ℕ) → P fresh (RoleAtom r u v) → R u × R v
  pub naming : (fresh e root : ℕ) → e < fresh → R root → P fresh (Class e root)
  pub renumbering : (fresh root : ℕ) (l : List Atom) → length l ≤ most → Each (P fresh) l → Each (P fresh) (renumber l root)

module _ (P : ℕ → Atom → Type 0) (R : ℕ → Type 0) (most : ℕ) where
  -- ---- what the parts of the pass hand on
  pub record BranchIn (fresh : ℕ) (b : Branch) : Type 0 where
    pub body_in : Each (P fresh) b.body
    pub body_short : length b.body ≤ most
    pub name_in : b.name < fresh

  abbrev pub NamesIn : Naming → Type 0
  NamesIn w = Each (BranchIn w.next_fresh) w.named

  -- naming appended branches, with one fresh class for each
  pub record Named (w z : Naming) : Type 0 where
    pub new : List Branch
    pub named : z.named ≡ w.named ++ new
    pub fresh : z.next_fresh ≡ w.next_fresh + length new
    pub names_in : NamesIn z

  abbrev Found : ℕ → Option ℕ → Type 0
  Found fresh none = Unit {0}
  Found fresh (some e) = e < fresh

  -- parents, tops and homes are variables of the atoms
  abbrev ParentsIn : List (ℕ × ℕ) → Type 0
  ParentsIn l = Each (λ e. R e.1) l

  abbrev ParentFound : Option ℕ → Type 0
  ParentFound none = Unit {0}
  ParentFound (some p) = R p

  abbrev TopIn : Top → Type 0
  TopIn at_root = Unit {0}
  TopIn (below t) = R t
  TopIn unbound = Unit {0}

  abbrev HomeIn : Home → Type 0
  HomeIn root_home = Unit {0}
  HomeIn (branch t) = R t
  HomeIn homeless = Unit {0}

  -- each group has an atom, and together with the root's they are the atoms
  record GroupIn (fresh : ℕ) (g : ℕ × List Atom) : Type 0 where
    top_in : R g.0
    atoms_in : Each (P fresh) g.1
    filled : 0 < length g.1

  record GroupsIn (fresh n : ℕ) (g : Groups) : Type 0 where
    root_in : Each (P fresh) g.root_atoms
    groups_in : Each (GroupIn fresh) g.groups
    counted : length g.root_atoms + groups_total g.groups ≡ n

  abbrev Grouped : (fresh n : ℕ) → Option Groups → Type 0
  Grouped fresh n none = Unit {0}
  Grouped fresh n (some g) = GroupsIn fresh n g

  abbrev Reduced : (fresh n : ℕ) → Option (List Atom) → Type 0
  Reduced fresh n none = Unit {0}
  Reduced fresh n (some l) = Each (P fresh) l × (length l ≤ n)

  -- a list of at most n atoms, if one is answered
  pub record Rewrites (w : Naming) (n : ℕ) (o : Option (List Atom)) (z : Naming) : Type 0 where
    pub named : Named w z
    pub reduced : Reduced z.next_fresh n o

  record Split (w : Naming) (n : ℕ) (l : List Atom) (z : Naming) : Type 0 where
    named : Named w z
    atoms_in : Each (P z.next_fresh) l
    short : length l ≤ n

  record NamedAtom (w : Naming) (a : Atom) (z : Naming) : Type 0 where
    named : Named w z
    atom_in : P z.next_fresh a

  -- what is held of naming fewer than f atoms
  abbrev pub Names : (List Atom → ℕ → List ℕ → W (Option (List Atom))) → ℕ → Type 0
  Names name f = (l : List Atom) (root : ℕ) (keep : List ℕ) (w : Naming) → length l < f → length l ≤ most → R root → Each (P w.next_fresh) l → NamesIn w
      → Ends (Rewrites w (length l)) (name l root keep w)

  -- what is asked of the clauses: their bodies' atoms, and no more of them than so many
  abbrev pub BodyIn : ℕ → Clause → Type 0
  BodyIn fresh c = Each (P fresh) c.body × (length c.body ≤ most)

  -- one clause, and the clauses of a list, rewritten
  record ClauseDone (w : Naming) (r : Rewritten) (c : Clause) (k : Rewritten) (z : Naming) : Type 0 where
    named : Named w z
    to : Clause
    clauses : k.clauses ≡ r.clauses ++ (to ∷ [])
    same_head : to.head ≡ c.head
    shorter : length to.body ≤ length c.body
    body_in : Each (P z.next_fresh) to.body
    counted : k.count ≤ r.count + 1

  pub record ClausesDone (w : Naming) (r : Rewritten) (l : List Clause) (k : Rewritten) (z : Naming) : Type 0 where
    pub named : Named w z
    pub to : List Clause
    pub clauses : k.clauses ≡ r.clauses ++ to
    pub shorter : Shorter to l
    pub bodies_in : Each (λ c. Each (P z.next_fresh) c.body) to
    pub counted : k.count ≤ r.count + length l

  -- the whole pass: the rewritten clauses, then one clause for each new name
  pub record Decomposed (env : Env) (s : Out) (n : ℕ) (t : Out) : Type 0 where
    pub rewritten : List Clause
    pub branches : List Branch
    pub clauses : t.clauses ≡ rewritten ++ map branch_clause branches
    pub shorter : Shorter rewritten s.clauses
    pub bodies_in : Each (λ c. Each (P t.next_fresh) c.body) rewritten
    pub branches_in : Each (BranchIn t.next_fresh) branches
    pub counted : n ≤ length s.clauses
    pub many : length t.clauses ≡ length s.clauses + length branches
    pub fresh : t.next_fresh ≡ s.next_fresh + length branches
    pub same_visits : t.visits ≡ s.visits
    pub same_limit : t.limit ≡ s.limit
    pub same_var : t.next_var ≡ s.next_var
    pub same_deferrals : t.deferrals ≡ s.deferrals
    pub same_line : t.line ≡ s.line
    pub room_clauses : length t.clauses ≤ env.rooms.clauses
    pub room_atoms : total t.clauses ≤ env.rooms.atoms

  named_none : (w : Naming) → NamesIn w → Named w w
  named_none w h = record { new = []; named = sym (append-nil w.named); fresh = omega arith; names_in = h }

  named_then : {w y z : Naming} → Named w y → Named y z → Named w z
  named_then {w} {y} {z} a b =
      let n = length-append a.new b.new in
      record {
        new = a.new ++ b.new;
        named = b.named ∙ ap (λ (l : List Branch). l ++ b.new) a.named ∙ append_assoc w.named a.new b.new;
        fresh = omega (arith, a.fresh, b.fresh);
        names_in = b.names_in;
      }

  named_up : {w z : Naming} → Named w z → w.next_fresh ≤ z.next_fresh
  named_up a = omega (arith, a.fresh)

  module _ (K : Kinds P R most) where
    atoms_up : {fresh fresh' : ℕ} → fresh ≤ fresh' → (l : List Atom) → Each (P fresh) l → Each (P fresh') l
    atoms_up {fresh} {fresh'} f l h = each_map (P fresh) (P fresh') (K.grows fresh fresh' f) l h

    -- ---- names
    branch_up : {fresh fresh' : ℕ} → fresh ≤ fresh' → (b : Branch) → BranchIn fresh b → BranchIn fresh' b
    branch_up f b h = record { body_in = atoms_up f b.body h.body_in; body_short = h.body_short; name_in = omega (arith, h.name_in) }

    memo_found : (fresh : ℕ) (l : List Branch) (body : List Atom) → Each (BranchIn fresh) l → Found fresh (memo_of l body)
    unfolding memo_of
    memo_found fresh [] body p = tt
    memo_found fresh (b ∷ l) body p = go (same_atoms b.body body) (memo_found fresh l body p.1)
      where
        go : (k : Bool) → Found fresh (memo_of l body) → Found fresh (branch_name b (memo_of l body) k)
        go true h = p.0.name_in
        go false h = h

    name_of_lem : (body : List Atom) (w : Naming) → Each (P w.next_fresh) body → length body ≤ most → NamesIn w → Ends (λ e z. Named w z × (e < z.next_fresh)) (name_of body w)
    unfolding name_of
    name_of_lem body w p h q = go (memo_of w.named body) (memo_found w.next_fresh w.named body q)
      where
        go : (o : Option ℕ) → Found w.next_fresh o → Ends (λ e z. Named w z × (e < z.next_fresh)) (name_or_new body w o)
        go (some e) k = end (named_none w q, k)
        go none k = end (
          record {
            new = record { body = body; name = w.next_fresh } ∷ [];
            named = refl;
            fresh = omega arith;
            names_in = each_snoc (BranchIn (w.next_fresh + 1)) w.named (record { body = body; name = w.next_fresh })
                (each_map (BranchIn w.next_fresh) (BranchIn (w.next_fresh + 1)) (branch_up (omega arith)) w.named q)
                (record { body_in = atoms_up (omega arith) body p; body_short = h; name_in = omega arith });
          },
          omega arith,
        )

    -- ---- the tree
    scan_atom_lem : (fresh : ℕ) (t : Tree) (a : Atom) (p : Bool) → P fresh a → ParentsIn t.parents → ParentsIn (scan_atom t a p).parents
    scan_atom_lem fresh t (Class _ _) p h k = k
    scan_atom_lem fresh t (RoleAtom r u v) p h k = unless p
      where
        bound : (b : Bool) → ParentsIn (bound_by t u v b).parents
        bound true = k
        bound false = each_snoc (λ e. R e.1) t.parents (v, u) k (K.role_vars fresh r u v h).0

        edge : (b : Bool) → ParentsIn (edge_from t u v b).parents
        edge false = k
        edge true = bound (contains t.bound v)

        unless : (b : Bool) → ParentsIn (edge_unless t u v b).parents
        unless true = k
        unless false = edge (contains t.bound u)
    scan_atom_lem fresh t (Exists _ _ _) p h k = k
    scan_atom_lem fresh t (AtMost _ _ _ _) p h k = k
    scan_atom_lem fresh t (AtLeast _ _ _ _) p h k = k
    scan_atom_lem fresh t (Equal _ _) p h k = k

    scan_in : (fresh : ℕ) (t : Tree) (l : List Atom) (flags : List Bool) → Each (P fresh) l → ParentsIn t.parents → ParentsIn (scan t l flags).parents
    unfolding scan
    scan_in fresh t [] flags h k = k
    scan_in fresh t (a ∷ l) [] h k = k
    scan_in fresh t (a ∷ l) (p ∷ flags) h k = scan_in fresh (scan_atom t a p) l flags h.1 (scan_atom_lem fresh t a p h.0 k)

    tree_by_lem : (fresh f : ℕ) (l : List Atom) (t : Tree) → Each (P fresh) l → ParentsIn t.parents → ParentsIn (tree_by f l t).parents
    unfolding tree_by
    tree_by_lem fresh zero l t h k = k
    tree_by_lem fresh (suc f) l t h k = go (scanned l t).progressed (λ z. tree_by_lem fresh f l (scanned l t) h z)
      where
        next : ParentsIn (scanned l t).parents
        next = scan_in fresh (record { bound = t.bound; parents = t.parents; placed = []; progressed = false }) l t.placed h k

        go : (b : Bool) → (ParentsIn (scanned l t).parents → ParentsIn (tree_by f l (scanned l t)).parents) → ParentsIn (rescan (λ x. tree_by f l x) (scanned l t) b).parents
        go true again = again next
        go false again = next

    tree_in : (fresh : ℕ) (l : List Atom) (root : ℕ) → Each (P fresh) l → ParentsIn (tree_of l root).parents
    tree_in fresh l root h = tree_by_lem fresh (suc (length l)) l (record { bound = root ∷ []; parents = []; placed = unplaced l; progressed = false }) h tt

    -- ---- tops and homes
    parent_in_lem : (parents : List (ℕ × ℕ)) (v : ℕ) → ParentsIn parents → ParentFound (parent_of parents v)
    unfolding parent_of
    parent_in_lem [] v h = tt
    parent_in_lem (e ∷ l) v h = go (eqb e.0 v) (parent_in_lem l v h.1)
      where
        go : (b : Bool) → ParentFound (parent_of l v) → ParentFound (parent_in e (parent_of l v) b)
        go true k = h.0
        go false k = k

    top_by_lem : (f : ℕ) (parents : List (ℕ × ℕ)) (root v : ℕ) → ParentsIn parents → R v → TopIn (top_by f parents root v)
    unfolding top_by
    top_by_lem zero parents root v h k = tt
    top_by_lem (suc f) parents root v h k = go (parent_of parents v) (parent_in_lem parents v h) (λ p z. top_by_lem f parents root p h z)
      where
        under : (p : ℕ) (b : Bool) → TopIn (top_by f parents root p) → TopIn (top_under (λ x. top_by f parents root x) v p b)
        under p true z = k
        under p false z = z

        go : (o : Option ℕ) → ParentFound o → ((p : ℕ) → R p → TopIn (top_by f parents root p)) → TopIn (top_with (λ x. top_by f parents root x) root v o)
        go none z again = tt
        go (some p) z again = under p (eqb p root) (again p z)

    top_of_lem : (parents : List (ℕ × ℕ)) (root v : ℕ) → ParentsIn parents → R v → TopIn (top_of parents root v)
    unfolding top_of
    top_of_lem parents root v h k = go (eqb v root)
      where
        go : (b : Bool) → TopIn (pick b at_root (top_by (suc (length parents)) parents root v))
        go true = tt
        go false = top_by_lem (suc (length parents)) parents root v h k

    home_in : (t : Top) → TopIn t → HomeIn (home_of t)
    home_in at_root h = tt
    home_in (below t) h = h
    home_in unbound h = tt

    home_both : (t u : Top) → TopIn t → TopIn u → HomeIn (home_of_both t u)
    home_both at_root u h k = home_in u k
    home_both (below t) at_root h k = h
    home_both (below t) (below u) h k = go (eqb t u)
      where
        go : (b : Bool) → HomeIn (pick b (branch t) homeless)
        go true = h
        go false = tt
    home_both (below t) unbound h k = tt
    home_both unbound u h k = tt

    atom_home_lem : (fresh : ℕ) (parents : List (ℕ × ℕ)) (root : ℕ) (a : Atom) → ParentsIn parents → P fresh a → HomeIn (atom_home parents root a)
    atom_home_lem fresh parents root (Class k v) h p = home_in (top_of parents root v) (top_of_lem parents root v h (K.class_var fresh k v p))
    atom_home_lem fresh parents root (RoleAtom r u v) h p = home_both (top_of parents root u) (top_of parents root v) (top_of_lem parents root u h (K.role_vars fresh r u v p).0) (top_of_lem parents root v h (K.role_vars fresh r u v p).1)
    atom_home_lem fresh parents root (Exists _ _ _) h p = tt
    atom_home_lem fresh parents root (AtMost _ _ _ _) h p = tt
    atom_home_lem fresh parents root (AtLeast _ _ _ _) h p = tt
    atom_home_lem fresh parents root (Equal _ _) h p = tt

    -- ---- groups
    into_group_lem : (fresh : ℕ) (l : List (ℕ × List Atom)) (t : ℕ) (a : Atom) → R t → P fresh a → Each (GroupIn fresh) l
        → Each (GroupIn fresh) (into_group l t a) × (groups_total (into_group l t a) ≡ groups_total l + 1)
    unfolding into_group
    into_group_lem fresh [] t a h k p = ((record { top_in = h; atoms_in = (k, tt); filled = omega arith }, tt), omega arith)
    into_group_lem fresh (g ∷ l) t a h k p = go (eqb g.0 t) (into_group_lem fresh l t a h k p.1)
      where
        go : (b : Bool) → Each (GroupIn fresh) (into_group l t a) × (groups_total (into_group l t a) ≡ groups_total l + 1)
            → Each (GroupIn fresh) (join_group g a l (into_group l t a) b) × (groups_total (join_group g a l (into_group l t a) b) ≡ groups_total (g ∷ l) + 1)
        go true r =
            let n = length-append g.1 (a ∷ []) in
            ((record { top_in = p.0.top_in; atoms_in = each_snoc (P fresh) g.1 a p.0.atoms_in k; filled = omega arith }, p.1), omega arith)
        go false r = ((p.0, r.0), omega (arith, r.1))

    place_atom_lem : (fresh n m : ℕ) (rest : Groups → Option Groups) → ((k : Groups) → GroupsIn fresh (n + 1) k → Grouped fresh m (rest k))
        → (g : Groups) (a : Atom) (o : Home) → HomeIn o → P fresh a → GroupsIn fresh n g → Grouped fresh m (place_atom rest g a o)
    place_atom_lem fresh n m rest again g a root_home h p q =
        let e = length-append g.root_atoms (a ∷ []) in
        again _ (record { root_in = each_snoc (P fresh) g.root_atoms a q.root_in p; groups_in = q.groups_in; counted = omega (arith, q.counted) })
    place_atom_lem fresh n m rest again g a (branch t) h p q =
        let i = into_group_lem fresh g.groups t a h p q.groups_in in
        again _ (record { root_in = q.root_in; groups_in = i.0; counted = omega (arith, q.counted, i.1) })
    place_atom_lem fresh n m rest again g a homeless h p q = tt

    grouped_in : (fresh : ℕ) (parents : List (ℕ × ℕ)) (root : ℕ) (g : Groups) (l : List Atom) (n m : ℕ) → ParentsIn parents → Each (P fresh) l → GroupsIn fresh n g → n + length l ≡ m
        → Grouped fresh m (grouped parents root g l)
    unfolding grouped
    grouped_in fresh parents root g [] n m h p q e = record { root_in = q.root_in; groups_in = q.groups_in; counted = omega (arith, q.counted) }
    grouped_in fresh parents root g (a ∷ l) n m h p q e =
        place_atom_lem fresh n m (λ k. grouped parents root k l) (λ k r. grouped_in fresh parents root k l (n + 1) m h p.1 r (omega arith))
        g a (atom_home parents root a) (atom_home_lem fresh parents root a h p.0) p.0 q

    group_grow : {fresh fresh' : ℕ} → fresh ≤ fresh' → (g : ℕ × List Atom) → GroupIn fresh g → GroupIn fresh' g
    group_grow f g h = record { top_in = h.top_in; atoms_in = atoms_up f g.1 h.atoms_in; filled = h.filled }

    -- ---- naming the groups, given the law for shorter lists of atoms
    module _ (again : List Atom → ℕ → List ℕ → W (Option (List Atom))) (f : ℕ) (law : Names again f) where
      whole : (w : Naming) (l : List Atom) → Each (P w.next_fresh) l → NamesIn w → Split w (length l) l w
      whole w l p q = record { named = named_none w q; atoms_in = p; short = omega arith }

      split_below_lem : (sub edge inner : List Atom) (t : ℕ) (w : Naming) → length edge + length inner ≤ length sub → length inner < f → length sub ≤ most → R t
          → Each (P w.next_fresh) sub → Each (P w.next_fresh) edge → Each (P w.next_fresh) inner → NamesIn w
          → Ends (Split w (length sub)) (split_below again sub edge inner t true w)
      split_below_lem sub edge inner t w n l m k ps pe pi q = ends_then (law inner t [] w l (omega arith) k pi q) go
        where
          go : (o : Option (List Atom)) (z : Naming) → Rewrites w (length inner) o z → Ends (Split w (length sub)) (reduced_to again sub edge o z)
          go none z r = end (record { named = r.named; atoms_in = atoms_up (named_up r.named) sub ps; short = omega arith })
          go (some reduced) z r =
              let e = length-append edge reduced in
              end (record {
                named = r.named;
                atoms_in = each_append (P z.next_fresh) edge reduced (atoms_up (named_up r.named) edge pe) r.reduced.0;
                short = omega (arith, r.reduced.1);
              })

      split_group_lem : (group : List Atom) (root t : ℕ) (w : Naming) → length group ≤ f → length group ≤ most → R t → Each (P w.next_fresh) group → NamesIn w
          → (b : Bool) → Ends (Split w (length group)) (split_group again group (filter (is_edge root t) group) (filter (λ a. not (is_edge root t a)) group) root t b w)
      split_group_lem group root t w l m k p q false = end (whole w group p q)
      split_group_lem group root t w l m k p q true = go (eqb (length edge) 1 && not (mentions (root ∷ []) inner)) refl
        where
          edge : List Atom
          edge = filter (is_edge root t) group

          inner : List Atom
          inner = filter (λ a. not (is_edge root t a)) group

          both : length edge + length inner ≡ length group
          both = filter_both (is_edge root t) group

          go : (b : Bool) → (eqb (length edge) 1 && not (mentions (root ∷ []) inner)) ≡ b → Ends (Split w (length group)) (split_below again group edge inner t b w)
          go false e = end (whole w group p q)
          go true e =
              let one : length edge ≡ 1 = eqb-true (length edge) 1 (and_parts (eqb (length edge) 1) (not (mentions (root ∷ []) inner)) e).0 in
              split_below_lem group edge inner t w (omega (arith, both)) (omega (arith, both)) m k p
              (filter_each (P w.next_fresh) (is_edge root t) group p) (filter_each (P w.next_fresh) (λ a. not (is_edge root t a)) group p) q

      name_group_lem : (root t : ℕ) (group : List Atom) (w : Naming) → length group ≤ f → length group ≤ most → R root → R t → Each (P w.next_fresh) group → NamesIn w
          → Ends (NamedAtom w) (name_group again root t group w)
      name_group_lem root t group w l m h k p q =
          ends_then (split_group_lem group root t w l m k p q (ltb max_body_vars (body_var_count_from group root))) (λ sub z r.
          ends_then (name_of_lem (renumber sub root) z (K.renumbering z.next_fresh root sub (omega (arith, r.short)) r.atoms_in) (omega (arith, renumber_length (root ∷ []) sub, r.short)) r.named.names_in) (λ e y n.
          end (record { named = named_then r.named n.0; atom_in = K.naming y.next_fresh e root n.1 h })))

      name_groups_lem : (root : ℕ) (keep : List ℕ) (l : List (ℕ × List Atom)) (result : List Atom) (any_named : Bool) (n : ℕ) (w : Naming) → R root → n ≤ f → n ≤ most
          → length result + groups_total l ≤ n → Each (P w.next_fresh) result → Each (GroupIn w.next_fresh) l → NamesIn w
          → Ends (Rewrites w n) (name_groups again root keep l result any_named w)
      unfolding name_groups
      name_groups_lem root keep [] result any_named n w h f m k p g q = go any_named
        where
          go : (b : Bool) → Ends (Rewrites w n) (ok (then_some again result b) w)
          go true = end (record { named = named_none w q; reduced = (p, omega arith) })
          go false = end (record { named = named_none w q; reduced = tt })
      name_groups_lem root keep (g ∷ l) result any_named n w h fn m k p gs q = go (mentions keep g.1) (λ r b z i j x y. name_groups_lem root keep l r b n z h fn m i j x y)
        where
          go : (b : Bool)
              → ((r : List Atom) (c : Bool) (z : Naming) → length r + groups_total l ≤ n → Each (P z.next_fresh) r → Each (GroupIn z.next_fresh) l → NamesIn z → Ends (Rewrites z n) (name_groups again root keep l r c z))
              → Ends (Rewrites w n) (group_with again (λ r c. name_groups again root keep l r c) root g result any_named b w)
          go true next =
              let e = length-append result g.1 in
              next (result ++ g.1) any_named w (omega arith) (each_append (P w.next_fresh) result g.1 p gs.0.atoms_in) gs.1 q
          go false next =
              ends_then (name_group_lem root g.0 g.1 w (omega arith) (omega arith) h gs.0.top_in gs.0.atoms_in q) (λ a z r.
              let e = length-append result (a ∷ []) in
              ends_map (next (result ++ (a ∷ [])) true z (omega (arith, gs.0.filled))
              (each_snoc (P z.next_fresh) result a (atoms_up (named_up r.named) result p) r.atom_in)
              (each_map (GroupIn w.next_fresh) (GroupIn z.next_fresh) (group_grow (named_up r.named)) l gs.1) r.named.names_in)
              (λ o y x. record { named = named_then r.named x.named; reduced = x.reduced }))

      name_step_lem : (l : List Atom) (root : ℕ) (keep : List ℕ) (w : Naming) → length l ≤ f → length l ≤ most → R root → Each (P w.next_fresh) l → NamesIn w
          → Ends (Rewrites w (length l)) (name_step again l root keep w)
      unfolding name_step
      name_step_lem l root keep w n m h p q = tree (any_disconnected l (tree_of l root).placed)
        where
          groups : (o : Option Groups) → Grouped w.next_fresh (length l) o → Ends (Rewrites w (length l)) (name_grouped again root keep o w)
          groups none g = end (record { named = named_none w q; reduced = tt })
          groups (some g) i = name_groups_lem root keep g.groups g.root_atoms false (length l) w h n m (omega (arith, i.counted)) i.root_in i.groups_in q

          tree : (b : Bool) → Ends (Rewrites w (length l)) (name_tree again l root keep (tree_of l root) b w)
          tree true = end (record { named = named_none w q; reduced = tt })
          tree false =
              groups (grouped (tree_of l root).parents root (record { root_atoms = []; groups = [] }) l)
              (grouped_in w.next_fresh (tree_of l root).parents root (record { root_atoms = []; groups = [] }) l 0 (length l) (tree_in w.next_fresh l root p) p
              (record { root_in = tt; groups_in = tt; counted = omega arith }) (omega arith))

    name_by_lem : (f : ℕ) → Names (λ l root keep. name_by f l root keep) f
    unfolding name_by
    name_by_lem zero l root keep w n m h p q = absurd (omega arith)
    name_by_lem (suc f) l root keep w n m h p q = name_step_lem (λ k r j. name_by f k r j) f (name_by_lem f) l root keep w (omega arith) m h p q

    -- ---- the clauses
    decompose_one_lem : (r : Rewritten) (c : Clause) (b : Bool) (w : Naming) → R 0 → BodyIn w.next_fresh c → NamesIn w → Ends (ClauseDone w r c) (decompose_one r c b w)
    decompose_one_lem r c true w h p q =
        end (record { named = named_none w q; to = c; clauses = refl; same_head = refl; shorter = omega arith; body_in = p.0; counted = omega arith })
    decompose_one_lem r c false w h p q =
        ends_then (name_by_lem (suc (length c.body)) c.body 0 (head_vars c.head) w (omega arith) p.1 h p.0 q) (λ o z a. end (to o z a))
      where
        to : (o : Option (List Atom)) (z : Naming) → Rewrites w (length c.body) o z → ClauseDone w r c (rewrite r c o) z
        to none z a = record {
          named = a.named;
          to = c;
          clauses = refl;
          same_head = refl;
          shorter = omega arith;
          body_in = atoms_up (named_up a.named) c.body p.0;
          counted = omega arith;
        }
        to (some body) z a = record {
          named = a.named;
          to = clause body c.head;
          clauses = refl;
          same_head = refl;
          shorter = a.reduced.1;
          body_in = a.reduced.0;
          counted = omega arith;
        }

    bodies_up : {fresh fresh' : ℕ} → fresh ≤ fresh' → (l : List Clause) → Each (BodyIn fresh) l → Each (BodyIn fresh') l
    bodies_up {fresh} {fresh'} f l h = each_map (BodyIn fresh) (BodyIn fresh') (λ c k. (atoms_up f c.body k.0, k.1)) l h

    pub decompose_from_lem : (r : Rewritten) (l : List Clause) (w : Naming) → R 0 → Each (BodyIn w.next_fresh) l → NamesIn w → Ends (ClausesDone w r l) (decompose_from r l w)
    unfolding decompose_from
    decompose_from_lem r [] w h p q =
        end (record { named = named_none w q; to = []; clauses = sym (append-nil r.clauses); shorter = tt; bodies_in = tt; counted = omega arith })
    decompose_from_lem r (c ∷ l) w h p q =
        ends_then (decompose_one_lem r c (stays_whole c.body) w h p.0 q) (λ k z a.
        ends_map (decompose_from_lem k l z h (bodies_up (named_up a.named) l p.1) a.named.names_in) (λ j y b.
        record {
          named = named_then a.named b.named;
          to = a.to ∷ b.to;
          clauses = b.clauses ∙ ap (λ (x : List Clause). x ++ b.to) a.clauses ∙ append_assoc r.clauses (a.to ∷ []) b.to;
          shorter = (a.same_head, a.shorter, b.shorter);
          bodies_in = (atoms_up (named_up b.named) a.to.body a.body_in, b.bodies_in);
          counted = omega (arith, a.counted, b.counted);
        }))

    -- the whole pass, over any such properties
    pub decompose_all : (env : Env) (s : Out) → R 0 → Each (BodyIn s.next_fresh) s.clauses → Ends (Decomposed env s) (decompose_wide_bodies env s)
    unfolding decompose_wide_bodies
    decompose_all env s h p = go _ (decompose_from_lem (record { clauses = []; count = 0 }) s.clauses (record { next_fresh = s.next_fresh; named = [] }) h p tt)
      where
        room : (r : Rewritten) (z : Naming) → ClausesDone (record { next_fresh = s.next_fresh; named = [] }) (record { clauses = []; count = 0 }) s.clauses r z
            → (b : Bool) → (leb (length (r.clauses ++ map branch_clause z.named)) env.rooms.clauses && leb (total (r.clauses ++ map branch_clause z.named)) env.rooms.atoms) ≡ b
            → Ends (Decomposed env s) (finished_in s z.next_fresh (r.clauses ++ map branch_clause z.named) r.count b)
        room r z a false e = stop 11
        room r z a true e =
            let l : List Clause = r.clauses ++ map branch_clause z.named in
            let t = and_parts (leb (length l) env.rooms.clauses) (leb (total l) env.rooms.atoms) e in
            let n = length-append r.clauses (map branch_clause z.named) in
            let m = length-map z.named branch_clause in
            let k = shorter_length a.to s.clauses a.shorter in
            let j : length r.clauses ≡ length a.to = ap length a.clauses in
            let i : length z.named ≡ length a.named.new = ap length a.named.named in
            end (record {
              rewritten = r.clauses;
              branches = z.named;
              clauses = refl;
              shorter = rw a.clauses a.shorter;
              bodies_in = rw a.clauses a.bodies_in;
              branches_in = a.named.names_in;
              counted = omega (arith, a.counted);
              many = omega arith;
              fresh = omega (arith, a.named.fresh);
              same_visits = refl;
              same_limit = refl;
              same_var = refl;
              same_deferrals = refl;
              same_line = refl;
              room_clauses = leb-true (length l) env.rooms.clauses t.0;
              room_atoms = leb-true (total l) env.rooms.atoms t.1;
            })

        go : (o : Res Naming Rewritten) → Ends (ClausesDone (record { next_fresh = s.next_fresh; named = [] }) (record { clauses = []; count = 0 }) s.clauses) o → Ends (Decomposed env s) (decomposed_in env s o)
        go (ok r z) (ends a) = room r z a (leb (length (r.clauses ++ map branch_clause z.named)) env.rooms.clauses && leb (total (r.clauses ++ map branch_clause z.named)) env.rooms.atoms) refl
        go (refused k) (stops n) = stops n

-- ---- atoms within bounds
module _ (B : Bounds) (vars : ℕ) where
  pub renumber_in : (fresh : ℕ) (met : List ℕ) (l : List Atom) → length met + 2 * length l ≤ vars → Each (AtomIn B fresh vars) l → Each (AtomIn B fresh vars) (renumber_from met l)
  unfolding renumber_from
  renumber_in fresh met [] h p = tt
  renumber_in fresh met (Class k v ∷ l) h p =
      let x = place_within met v in
      let y = met_within met v in
      ((p.0.0, omega arith), renumber_in fresh (met_with met v) l (omega arith) p.1)
  renumber_in fresh met (RoleAtom r u v ∷ l) h p =
      let x = place_within met u in
      let y = met_within met u in
      let z = place_within (met_with met u) v in
      let w = met_within (met_with met u) v in
      ((p.0.0, omega arith, omega arith), renumber_in fresh (met_with (met_with met u) v) l (omega arith) p.1)
  renumber_in fresh met (Exists r k v ∷ l) h p = (p.0, renumber_in fresh met l (omega arith) p.1)
  renumber_in fresh met (AtMost r q n v ∷ l) h p = (p.0, renumber_in fresh met l (omega arith) p.1)
  renumber_in fresh met (AtLeast r q n v ∷ l) h p = (p.0, renumber_in fresh met l (omega arith) p.1)
  renumber_in fresh met (Equal u v ∷ l) h p = (p.0, renumber_in fresh met l (omega arith) p.1)

  -- a body of at most 256 atoms has at most 513 variables, the root's among them
  pub kinds_in : 513 ≤ vars → Kinds (λ fresh. AtomIn B fresh vars) (λ v. v < vars) most_in_hand
  kinds_in wide = record {
    grows = λ fresh fresh' f a h. atom_more B f (omega arith) a h;
    class_var = λ fresh k v h. h.1;
    role_vars = λ fresh r u v h. (h.1, h.2);
    naming = λ fresh e root h k. (h, k);
    renumbering = λ fresh root l h p. renumber_in fresh (root ∷ []) l (omega arith) p;
  }

  -- what the pass leaves: all clauses within the bounds, and its parts
  pub record DecomposedIn (env : Env) (s : Out) (n : ℕ) (t : Out) : Type 0 where
    pub all_in : Each (ClauseIn B t.next_fresh vars) t.clauses
    pub parts : Decomposed (λ fresh. AtomIn B fresh vars) (λ v. v < vars) most_in_hand env s n t

  rewritten_in : (fresh : ℕ) (k l : List Clause) → Shorter k l → Each (λ c. Each (AtomIn B fresh vars) c.body) k → Each (ClauseIn B fresh vars) l → Each (ClauseIn B fresh vars) k
  rewritten_in fresh [] [] h b p = tt
  rewritten_in fresh [] (d ∷ l) h b p = absurd h
  rewritten_in fresh (c ∷ k) [] h b p = absurd h
  rewritten_in fresh (c ∷ k) (d ∷ l) h b p = (
    record { body_in = b.0; head_in = rw h.0 p.0.head_in; body_short = omega (arith, h.1, p.0.body_short); head_short = rw h.0 p.0.head_short },
    rewritten_in fresh k l h.2 b.1 p.1,
  )

  branch_clause_in : (fresh : ℕ) → 0 < vars → (b : Branch) → BranchIn (λ x. AtomIn B x vars) (λ v. v < vars) most_in_hand fresh b → ClauseIn B fresh vars (branch_clause b)
  branch_clause_in fresh h b k = record { body_in = k.body_in; head_in = ((k.name_in, h), tt); body_short = k.body_short; head_short = omega arith }

  pub decompose_in : (env : Env) (s : Out) → 513 ≤ vars → Each (ClauseIn B s.next_fresh vars) s.clauses → Ends (DecomposedIn env s) (decompose_wide_bodies env s)
  decompose_in env s wide p =
      ends_map (decompose_all (λ fresh. AtomIn B fresh vars) (λ v. v < vars) most_in_hand (kinds_in wide) env s (omega arith)
      (each_map (ClauseIn B s.next_fresh vars) (λ c. Each (AtomIn B s.next_fresh vars) c.body × (length c.body ≤ most_in_hand)) (λ c h. (h.body_in, h.body_short)) s.clauses p))
      (λ n t d. record {
        all_in = rw d.clauses (each_append (ClauseIn B t.next_fresh vars) d.rewritten (map branch_clause d.branches)
            (rewritten_in t.next_fresh d.rewritten s.clauses d.shorter d.bodies_in (clauses_grow B (omega (arith, d.fresh)) (omega arith) s.clauses p))
            (each_mapped (BranchIn (λ x. AtomIn B x vars) (λ v. v < vars) most_in_hand t.next_fresh) (ClauseIn B t.next_fresh vars) branch_clause (branch_clause_in t.next_fresh (omega arith)) d.branches d.branches_in));
        parts = d;
      })

-- the bounds of the clauses before may be smaller
pub decompose_post : (env : Env) (B : Bounds) (vars vars' : ℕ) (s : Out) → vars ≤ vars' → 513 ≤ vars' → Each (ClauseIn B s.next_fresh vars) s.clauses
    → Post (DecomposedIn B vars' env s) (decompose_wide_bodies env s)
decompose_post env B vars vars' s h wide p = ends_post (decompose_in B vars' env s wide (clauses_grow B (omega arith) h s.clauses p))

-- ---- the bound is enough, whatever the clauses
bodies_within : (n : ℕ) (l : List Clause) → total l ≤ n → Each (λ c. Each (λ (_ : Atom). Unit {0}) c.body × (length c.body ≤ n)) l
unfolding total
bodies_within n [] h = tt
bodies_within n (c ∷ l) h =
    let m = length-append c.body c.head in
    ((each_unit c.body, omega arith), bodies_within n l (omega arith))

pub branches_enough : (env : Env) (s : Out) → NotZero (decompose_wide_bodies env s)
branches_enough env s =
    ends_not_zero (decompose_all (λ _ _. Unit {0}) (λ _. Unit {0}) (total s.clauses)
    (record {
      grows = λ fresh fresh' f a h. tt;
      class_var = λ fresh k v h. tt;
      role_vars = λ fresh r u v h. (tt, tt);
      naming = λ fresh e root h k. tt;
      renumbering = λ fresh root l h p. each_unit (renumber l root);
    }) env s tt (bodies_within (total s.clauses) s.clauses (omega arith)))
