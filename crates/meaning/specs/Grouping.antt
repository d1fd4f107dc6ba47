-- The atoms of a body sorted into the root's atoms and groups: each atom is in one place, a root atom's variables are the root,
-- and two groups share no variable but the root. Whatever the map of parents is, since a variable has one top. Assumes nothing.
use Rattle.std.specs.Prelude.{◌≡◌, Bool, ◌&&◌, ◌⊎◌, ℕ, zero, suc, length, eqb}
use Rattle.std.proofs.Math.Path.{refl, sym, ap}
use Rattle.std.proofs.Common.{◌∙◌, subst}
use Rattle.std.proofs.Math.Bool.{true, false, and_assoc}
use Rattle.std.proofs.lemmas.Bool.{false≢true}
use mathlib.Core.List.{List, [], ◌∷◌, ◌++◌}
use Rattle.std.proofs.Math.Option.{Option, none, some}
use Rattle.std.proofs.Math.Logic.{inl, inr}
use borrow.Author.Tests.{eqb-true, eqb-false}
use Rattle.ir.specs.Pick.{pick}
use Rattle.ir.specs.Atoms.{atom_vars}
use Rattle.ir.specs.declared.atom.Atom.{Atom}
use Rattle.ir.specs.declared.atom.Atom.TheVariants.{Class, Exists, AtMost, AtLeast, Equal, Role as RoleAtom}
use Rattle.rules.specs.Base.{all, contains}
use Rattle.rules.specs.Reflexive.{atoms_vars}
use Rattle.rules.specs.Branches.{Top, at_root, below, unbound, parent_of, top_under, top_with, top_by, top_of, Home, root_home, branch, homeless, home_of, home_of_both, atom_home, Groups, join_group, into_group, place_atom, grouped}
use Rattle.rules.specs.Invariants.{Each}
use Rattle.rules.specs.EachLaws.{each_append}
use Rattle.meaning.specs.Truth.{and_unit, by_truth, all_append}
use Rattle.meaning.specs.Valuations.{each_of_lem}
use Rattle.meaning.specs.Matching.{contains_both, vars_each}
use Rattle.meaning.specs.Renumbering.{IsTree}

-- what holds of an answer, if there is one
pub data Given {A : Type 0} (P : A → Type 0) : Option A → Type 0 where
  nothing : Given P none
  given : {a : A} → P a → Given P (some a)

pub given_map : {A : Type 0} {P Q : A → Type 0} {o : Option A} → ((a : A) → P a → Q a) → Given P o → Given Q o
given_map h nothing = nothing
given_map h (given {a = a} p) = given (h a p)

-- ---- tops and homes
-- below the root no top is the root
abbrev NotRoot : Top → Type 0
NotRoot at_root = ⊥
NotRoot (below _) = Unit {0}
NotRoot unbound = Unit {0}

top_under_lem : (above : ℕ → Top) → ((p : ℕ) → NotRoot (above p)) → (w p : ℕ) (b : Bool) → NotRoot (top_under above w p b)
top_under_lem above h w p true = tt
top_under_lem above h w p false = h p

top_with_lem : (above : ℕ → Top) → ((p : ℕ) → NotRoot (above p)) → (root w : ℕ) (o : Option ℕ) → NotRoot (top_with above root w o)
top_with_lem above h root w none = tt
top_with_lem above h root w (some p) = top_under_lem above h w p (eqb p root)

top_by_lem : (f : ℕ) (parents : List (ℕ × ℕ)) (root w : ℕ) → NotRoot (top_by f parents root w)
unfolding top_by
top_by_lem zero parents root w = tt
top_by_lem (suc f) parents root w = top_with_lem (λ p. top_by f parents root p) (λ p. top_by_lem f parents root p) root w (parent_of parents w)

top_root : (parents : List (ℕ × ℕ)) (root v : ℕ) → top_of parents root v ≡ at_root → v ≡ root
unfolding top_of
top_root parents root v h = by_truth (eqb v root) (λ e. eqb-true v root e) (λ e. absurd (subst NotRoot (rw e at h) (top_by_lem (suc (length parents)) parents root v)))

-- the tops of the variables of an atom with this home
abbrev HomeTop : Home → Top → Type 0
HomeTop root_home t = t ≡ at_root
HomeTop (branch x) t = (t ≡ at_root) ⊎ (t ≡ below x)
HomeTop homeless t = Unit {0}

home_of_lem : (t : Top) → HomeTop (home_of t) t
home_of_lem at_root = refl
home_of_lem (below x) = inr refl
home_of_lem unbound = tt

home_both : (t u : Top) → HomeTop (home_of_both t u) t × HomeTop (home_of_both t u) u
home_both at_root at_root = (refl, refl)
home_both at_root (below x) = (inl refl, inr refl)
home_both at_root unbound = (tt, tt)
home_both (below x) at_root = (inr refl, inl refl)
home_both (below x) (below y) = go (eqb x y) (λ e. eqb-true x y e)
  where
    go : (b : Bool) → (b ≡ true → x ≡ y) → HomeTop (pick b (branch x) homeless) (below x) × HomeTop (pick b (branch x) homeless) (below y)
    go true e = (inr refl, inr (ap below (sym (e refl))))
    go false e = (tt, tt)
home_both (below x) unbound = (tt, tt)
home_both unbound at_root = (tt, tt)
home_both unbound (below x) = (tt, tt)
home_both unbound unbound = (tt, tt)

-- an atom that has a home is a class or role atom
abbrev TreeAt : Home → Atom → Type 0
TreeAt root_home a = IsTree a
TreeAt (branch x) a = IsTree a
TreeAt homeless a = Unit {0}

tree_at : (h : Home) (a : Atom) → IsTree a → TreeAt h a
tree_at root_home a t = t
tree_at (branch x) a t = t
tree_at homeless a t = tt

module _ (parents : List (ℕ × ℕ)) (root : ℕ) where
  home_tree : (a : Atom) → TreeAt (atom_home parents root a) a
  home_tree (Class k v) = tree_at (home_of (top_of parents root v)) (Class k v) tt
  home_tree (RoleAtom r u v) = tree_at (home_of_both (top_of parents root u) (top_of parents root v)) (RoleAtom r u v) tt
  home_tree (Exists r k v) = tt
  home_tree (AtMost r q n v) = tt
  home_tree (AtLeast r q n v) = tt
  home_tree (Equal u v) = tt

  home_tops : (a : Atom) → Each (λ v. HomeTop (atom_home parents root a) (top_of parents root v)) (atom_vars a)
  home_tops (Class k v) = (home_of_lem (top_of parents root v), tt)
  home_tops (RoleAtom r u v) = let t = home_both (top_of parents root u) (top_of parents root v) in (t.0, (t.1, tt))
  home_tops (Exists r k v) = (tt, tt)
  home_tops (AtMost r q n v) = (tt, tt)
  home_tops (AtLeast r q n v) = (tt, tt)
  home_tops (Equal u v) = (tt, (tt, tt))

-- ---- sorted atoms. P: what held of each atom before
-- the root, or a variable below t
abbrev Local : List (ℕ × ℕ) → ℕ → ℕ → ℕ → Type 0
Local parents root t v = (v ≡ root) ⊎ (top_of parents root v ≡ below t)

record Homed (parents : List (ℕ × ℕ)) (root : ℕ) (P : Atom → Type 0) (t : ℕ) (a : Atom) : Type 0 where
  held : P a
  tree : IsTree a
  vars : Each (Local parents root t) (atom_vars a)

pub record Rooted (root : ℕ) (P : Atom → Type 0) (a : Atom) : Type 0 where
  pub held : P a
  pub tree : IsTree a
  pub vars : Each (λ v. v ≡ root) (atom_vars a)

-- no two groups have one top
abbrev Keys : List (ℕ × List Atom) → Type 0
Keys [] = Unit {0}
Keys (q ∷ l) = Each (λ p. ¬ (p.0 ≡ q.0)) l × Keys l

record Sorted (parents : List (ℕ × ℕ)) (root : ℕ) (P : Atom → Type 0) (g : Groups) : Type 0 where
  rooted : Each (Rooted root P) g.root_atoms
  homes : Each (λ q. Each (Homed parents root P q.0) q.1) g.groups
  keys : Keys g.groups

-- a test over all groups, and over all sorted atoms
abbrev pub all_groups : (Atom → Bool) → List (ℕ × List Atom) → Bool
all_groups p l = all (λ q. all p q.1) l

abbrev pub all_sorted : (Atom → Bool) → Groups → Bool
all_sorted p g = all p g.root_atoms && all_groups p g.groups

and_last : (a b c : Bool) → (a && c) && b ≡ (a && b) && c
and_last true true true = refl
and_last true true false = refl
and_last true false true = refl
and_last true false false = refl
and_last false b c = refl

all_last : (p : Atom → Bool) (l : List Atom) (a : Atom) → all p (l ++ (a ∷ [])) ≡ all p l && p a
all_last p l a = all_append p l (a ∷ []) ∙ ap (λ b. all p l && b) (and_unit (p a))

module _ (t : ℕ) (a : Atom) where
  into_keys : (P : ℕ → Type 0) (l : List (ℕ × List Atom)) → Each (λ q. P q.0) l → P t → Each (λ q. P q.0) (into_group l t a)
  unfolding into_group
  into_keys P [] e h = (h, tt)
  into_keys P (q ∷ l) e h = go (eqb q.0 t) (into_keys P l e.1 h)
    where
      go : (b : Bool) → Each (λ q. P q.0) (into_group l t a) → Each (λ q. P q.0) (join_group q a l (into_group l t a) b)
      go true r = (e.0, e.1)
      go false r = (e.0, r)

  into_apart : (l : List (ℕ × List Atom)) → Keys l → Keys (into_group l t a)
  unfolding into_group
  into_apart [] k = (tt, tt)
  into_apart (q ∷ l) k = go (eqb q.0 t) (λ e. eqb-false q.0 t e) (into_apart l k.1)
    where
      go : (b : Bool) → (b ≡ false → q.0 ≡ t → ⊥) → Keys (into_group l t a) → Keys (join_group q a l (into_group l t a) b)
      go true e r = (k.0, k.1)
      go false e r = (into_keys (λ n. ¬ (n ≡ q.0)) l k.0 (λ h. e refl (sym h)), r)

  into_homes : (H : ℕ → Atom → Type 0) (l : List (ℕ × List Atom)) → Each (λ q. Each (H q.0) q.1) l → H t a → Each (λ q. Each (H q.0) q.1) (into_group l t a)
  unfolding into_group
  into_homes H [] e h = ((h, tt), tt)
  into_homes H (q ∷ l) e h = go (eqb q.0 t) (λ d. eqb-true q.0 t d) (into_homes H l e.1 h)
    where
      go : (b : Bool) → (b ≡ true → q.0 ≡ t) → Each (λ q. Each (H q.0) q.1) (into_group l t a) → Each (λ q. Each (H q.0) q.1) (join_group q a l (into_group l t a) b)
      go true d r = (each_append (H q.0) q.1 (a ∷ []) e.0 (subst (λ n. H n a) (sym (d refl)) h, tt), e.1)
      go false d r = (e.0, r)

  into_all : (p : Atom → Bool) (l : List (ℕ × List Atom)) → all_groups p (into_group l t a) ≡ all_groups p l && p a
  unfolding into_group
  into_all p [] = and_unit (p a && true) ∙ and_unit (p a)
  into_all p (q ∷ l) = go (eqb q.0 t) (into_all p l)
    where
      go : (b : Bool) → all_groups p (into_group l t a) ≡ all_groups p l && p a → all_groups p (join_group q a l (into_group l t a) b) ≡ (all p q.1 && all_groups p l) && p a
      go true r = ap (λ b. b && all_groups p l) (all_last p q.1 a) ∙ and_last (all p q.1) (all_groups p l) (p a)
      go false r = ap (λ b. all p q.1 && b) r ∙ sym (and_assoc (all p q.1) (all_groups p l) (p a))

module _ (parents : List (ℕ × ℕ)) (root : ℕ) (P : Atom → Type 0) where
  -- what the atoms l add to g
  record Grouped (g : Groups) (l : List Atom) (h : Groups) : Type 0 where
    sorted : Sorted parents root P h
    same : (p : Atom → Bool) → all_sorted p h ≡ all_sorted p g && all p l

  grouped_sorts : (g : Groups) (l : List Atom) → Sorted parents root P g → Each P l → Given (Grouped g l) (grouped parents root g l)
  unfolding grouped
  grouped_sorts g [] s e = given (record { sorted = s; same = λ p. sym (and_unit (all_sorted p g)) })
  grouped_sorts g (a ∷ l) s e = go (atom_home parents root a) (home_tree parents root a) (home_tops parents root a) (λ k z. grouped_sorts k l z e.1)
    where
      local : (t v : ℕ) → (top_of parents root v ≡ at_root) ⊎ (top_of parents root v ≡ below t) → Local parents root t v
      local t v (inl q) = inl (top_root parents root v q)
      local t v (inr q) = inr q

      go : (h : Home) → TreeAt h a → Each (λ v. HomeTop h (top_of parents root v)) (atom_vars a)
          → ((k : Groups) → Sorted parents root P k → Given (Grouped k l) (grouped parents root k l))
          → Given (Grouped g (a ∷ l)) (place_atom (λ k. grouped parents root k l) g a h)
      go root_home t u r =
          let k : Groups = record { root_atoms = g.root_atoms ++ (a ∷ []); groups = g.groups } in
          given_map (λ z q. record {
            sorted = q.sorted;
            same = λ p. q.same p
                ∙ ap (λ b. (b && all_groups p g.groups) && all p l) (all_last p g.root_atoms a)
                ∙ ap (λ b. b && all p l) (and_last (all p g.root_atoms) (all_groups p g.groups) (p a))
                ∙ and_assoc (all_sorted p g) (p a) (all p l);
          })
          (r k (record {
            rooted = each_append (Rooted root P) g.root_atoms (a ∷ []) s.rooted (record { held = e.0; tree = t; vars = each_of_lem (λ v. top_root parents root v) (atom_vars a) u }, tt);
            homes = s.homes;
            keys = s.keys;
          }))
      go (branch x) t u r =
          let k : Groups = record { root_atoms = g.root_atoms; groups = into_group g.groups x a } in
          given_map (λ z q. record {
            sorted = q.sorted;
            same = λ p. q.same p
                ∙ ap (λ b. (all p g.root_atoms && b) && all p l) (into_all x a p g.groups)
                ∙ ap (λ b. b && all p l) (sym (and_assoc (all p g.root_atoms) (all_groups p g.groups) (p a)))
                ∙ and_assoc (all_sorted p g) (p a) (all p l);
          })
          (r k (record {
            rooted = s.rooted;
            homes = into_homes x a (Homed parents root P) g.groups s.homes (record { held = e.0; tree = t; vars = each_of_lem (local x) (atom_vars a) u });
            keys = into_apart x a g.groups s.keys;
          }))
      go homeless t u r = nothing

-- ---- what a pass over the groups uses
unfoldable pub group_vars : List (ℕ × List Atom) → List ℕ
group_vars [] = []
group_vars (q ∷ l) = atoms_vars q.1 ++ group_vars l

-- two groups share no variable but the root
abbrev pub Apart : ℕ → List (ℕ × List Atom) → Type 0
Apart root [] = Unit {0}
Apart root (q ∷ l) = ((v : ℕ) → contains (atoms_vars q.1) v ≡ true → contains (group_vars l) v ≡ true → v ≡ root) × Apart root l

pub record Kinds (root : ℕ) (P : Atom → Type 0) (atoms : List Atom) (g : Groups) : Type 0 where
  pub rooted : Each (Rooted root P) g.root_atoms
  pub members : Each (λ q. Each (λ a. P a × IsTree a) q.1) g.groups
  pub apart : Apart root g.groups
  pub same : (p : Atom → Bool) → all_sorted p g ≡ all p atoms

below_inj : (t u : ℕ) (x : Top) → x ≡ below t → x ≡ below u → t ≡ u
below_inj t u x d e = cc

module _ (parents : List (ℕ × ℕ)) (root : ℕ) (P : Atom → Type 0) where
  local_vars : (t : ℕ) (l : List Atom) → Each (Homed parents root P t) l → (v : ℕ) → contains (atoms_vars l) v ≡ true → Local parents root t v
  local_vars t l e = vars_each (Local parents root t) l (each_of_lem (λ a h. h.vars) l e)

  other_groups : (t v : ℕ) → Local parents root t v → (l : List (ℕ × List Atom)) → Each (λ p. ¬ (p.0 ≡ t)) l → Each (λ q. Each (Homed parents root P q.0) q.1) l
      → contains (group_vars l) v ≡ true → v ≡ root
  unfolding group_vars
  other_groups t v z [] k e h = absurd (false≢true h)
  other_groups t v z (q ∷ l) k e h =
      contains_both v (atoms_vars q.1) (group_vars l) (λ c. both z (local_vars q.0 q.1 e.0 v c)) (other_groups t v z l k.1 e.1) h
    where
      both : Local parents root t v → Local parents root q.0 v → v ≡ root
      both (inl d) y = d
      both (inr c) (inl d) = d
      both (inr c) (inr d) = absurd (k.0 (below_inj q.0 t (top_of parents root v) d c))

  groups_apart : (l : List (ℕ × List Atom)) → Keys l → Each (λ q. Each (Homed parents root P q.0) q.1) l → Apart root l
  groups_apart [] k e = tt
  groups_apart (q ∷ l) k e = (λ v c d. other_groups q.0 v (local_vars q.0 q.1 e.0 v c) l k.0 e.1 d, groups_apart l k.1 e.1)

  pub grouped_kinds : (atoms : List Atom) → Each P atoms → Given (Kinds root P atoms) (grouped parents root (record { root_atoms = []; groups = [] }) atoms)
  grouped_kinds atoms e =
      given_map (λ g q. record {
        rooted = q.sorted.rooted;
        members = each_of_lem (λ z h. each_of_lem (λ a u. (u.held, u.tree)) z.1 h) g.groups q.sorted.homes;
        apart = groups_apart g.groups q.sorted.keys q.sorted.homes;
        same = q.same;
      })
      (grouped_sorts parents root P (record { root_atoms = []; groups = [] }) atoms (record { rooted = tt; homes = tt; keys = tt }) e)
