-- name_branches: the tree, the groups, and the children named. Assumes nothing.
use Rattle.std.specs.Prelude.{Bool, false, Some, None, Ok, Err, refl, length}
use Rattle.std.proofs.Math.Bool.{true}
use Rattle.std.proofs.Math.Path.{◌≡◌}
use Rattle.std.proofs.Common.{ap, subst, ◌∙◌, length-append}
use mathlib.Core.List.{List, [], ◌∷◌, ◌++◌, append-nil}
use Rattle.std.proofs.Math.Option.{Option, none, some}
use Prim.Native.Nat.{ℕ, zero, suc, ◌+◌, ◌≤◌, ◌<◌}
use native.Mathlib.Omega.{arith}
use Rattle.ir.specs.declared.atom.Atom.{Atom}
use Rattle.rules.specs.Base.{Res, ok, refused, then, any, contains}
use Rattle.rules.specs.Invariants.{Each}
use Rattle.rules.specs.EachLaws.{each_append}
use Rattle.rules.specs.Branches.{Tree, tree_of, any_disconnected, Groups, grouped, W, tree_vars, mentions, name_group, group_with, name_groups, name_grouped, name_tree, name_step, name_by}
use Rattle.rules.specs.Branches as Rules
use Rattle.branches.specs.Layout.{body_at, copy_at}
use Rattle.branches.specs.Wide.{AtomsAre}
use Rattle.branches.specs.Memo.{Tame, NamedHeld, NamedThere}
use Rattle.branches.specs.Edges.{KeepIs}
use Rattle.branches.specs.Trees.{Treed, TreeBy, TreeIs, OnlyTree}
use Rattle.branches.specs.Grouped.{all_of, nothing, ArrangedBy, OnlyRecords}
use Rattle.naming.specs.Names.{Reduced, ReducedBy}
use Rattle.naming.specs.Splits.{groups_rule, Laid}
use Rattle.naming.specs.GroupLaws.{WellBy, grouped_well, grouped_alone, filled_few}
use Rattle.naming.specs.AgreeLaws.{atoms_stay, named_stay, keep_stay}
use Rattle.branches.specs.declared.memo.Naming.{Naming}

-- ---- a role atom is disconnected
module _ (w w1 : List ℕ) (base count root : ℕ) (s : Naming) (long1 : length w1 ≡ length w) (low : body_at ≤ base) (high : base + count ≤ copy_at) (O1 : OnlyTree w w1) where
  pub tree_atoms : (l : List Atom) → AtomsAre w base count l → AtomsAre w1 base count l
  tree_atoms l A = atoms_stay w w1 long1 base count l (λ j a b. O1.before j (omega arith)) A

  pub tree_held : (z : Rules.Naming) → NamedHeld w s z → NamedHeld w1 s z
  tree_held z H = named_stay w w1 long1 s z (λ j a. O1.before j (omega arith)) H

  none_go : (again : List Atom → ℕ → List ℕ → W (Option (List Atom))) (l : List Atom) (z : Rules.Naming) (kept : List ℕ) → AtomsAre w base count l → NamedHeld w s z
      → (t : Tree) (b : Bool) → TreeBy w1 root t b None → ReducedBy w1 base count l kept s (name_tree again l root kept t b z) (Ok None)
  none_go again l z kept A H t true e = record { atoms = λ k. tree_atoms l A; held = tree_held z H }
  none_go again l z kept A H t false e = absurd e

  pub tree_none : (l : List Atom) (z : Rules.Naming) (kept : List ℕ) (f : ℕ) → AtomsAre w base count l → NamedHeld w s z → count < f → TreeIs w1 root l None
      → ReducedBy w1 base count l kept s (name_by f l root kept z) (Ok None)
  unfolding name_by name_step
  tree_none l z kept zero A H k T = absurd (omega arith)
  tree_none l z kept (suc f) A H k T = none_go (λ a b c. name_by f a b c) l z kept A H (tree_of l root) (any_disconnected l (tree_of l root).placed) T

-- ---- the tree
connected_go : (w : List ℕ) (root : ℕ) (t : Tree) (b : Bool) (r : ℕ) → TreeBy w root t b (Some r) → (b ≡ false) × Treed w root r t
connected_go w root t true r e = absurd e
connected_go w root t false r e = (refl, e.0)

pub connected : (w : List ℕ) (root : ℕ) (l : List Atom) (r : ℕ) → TreeIs w root l (Some r) → (any_disconnected l (tree_of l root).placed ≡ false) × Treed w root r (tree_of l root)
connected w root l r T = connected_go w root (tree_of l root) (any_disconnected l (tree_of l root).placed) r T

-- ---- the groups, or all atoms the root's own where one is homeless
abbrev pub groups_for : List Atom → Option Groups → Groups
groups_for l none = record { root_atoms = l; groups = [] }
groups_for l (some g) = g

module _ (w tops counts : List ℕ) (base count r : ℕ) (l : List Atom) (p : Each Tame l) where
  laid_go : (o : Option Groups) → ArrangedBy w tops counts base count l o (Some r) → WellBy Tame (length l) o → Laid w tops counts base count (groups_for l o) r
  laid_go none A G = absurd A
  laid_go (some g) A G = record { arranged = A; tame = each_append Tame g.root_atoms (all_of g.groups) G.own G.others; filled = G.filled }

  pub laid_by : (root : ℕ) (parents : List (ℕ × ℕ)) → ArrangedBy w tops counts base count l (grouped parents root nothing l) (Some r) → Laid w tops counts base count (groups_for l (grouped parents root nothing l)) r
  laid_by root parents A = laid_go (grouped parents root nothing l) A (grouped_well Tame parents root l p)

pub laid_few : (w tops counts : List ℕ) (base count r : ℕ) (g : Groups) → Laid w tops counts base count g r → r ≤ count
laid_few w tops counts base count r g L =
    omega (arith, L.arranged.many, L.arranged.atoms.long, length-append g.root_atoms (all_of g.groups), filled_few g.groups L.filled)

-- ---- the rule's step
step_go : (f root : ℕ) (kept : List ℕ) (l : List Atom) (z : Rules.Naming) (o : Option Groups) → name_grouped (λ a b c. name_by f a b c) root kept o z ≡ groups_rule f root kept (groups_for l o) z
unfolding groups_rule name_groups
step_go f root kept l z none = refl
step_go f root kept l z (some g) = refl

step_is : (f root : ℕ) (kept : List ℕ) (l : List Atom) (z : Rules.Naming) → any_disconnected l (tree_of l root).placed ≡ false
    → name_by (suc f) l root kept z ≡ groups_rule f root kept (groups_for l (grouped (tree_of l root).parents root nothing l)) z
unfolding name_by name_step
step_is f root kept l z e = rw e (step_go f root kept l z (grouped (tree_of l root).parents root nothing l))

-- an atom is homeless
homeless_go : (w tops counts : List ℕ) (base count root : ℕ) (s : Naming) (l : List Atom) (kept : List ℕ) (f : ℕ) (z : Rules.Naming) (o : Option Groups) → ArrangedBy w tops counts base count l o None → NamedHeld w s z
    → ReducedBy w base count l kept s (groups_rule f root kept (groups_for l o) z) (Ok None)
unfolding groups_rule name_groups
homeless_go w tops counts base count root s l kept f z none A H = record { atoms = λ k. A; held = H }
homeless_go w tops counts base count root s l kept f z (some g) A H = absurd A

pub homeless_none : (w tops counts : List ℕ) (base count root : ℕ) (s : Naming) (l : List Atom) (kept : List ℕ) (f : ℕ) (z : Rules.Naming) → any_disconnected l (tree_of l root).placed ≡ false → count < f
    → ArrangedBy w tops counts base count l (grouped (tree_of l root).parents root nothing l) None → NamedHeld w s z → ReducedBy w base count l kept s (name_by f l root kept z) (Ok None)
homeless_none w tops counts base count root s l kept zero z e h A H = absurd (omega arith)
homeless_none w tops counts base count root s l kept (suc f) z e h A H = rw (step_is f root kept l z e) (homeless_go w tops counts base count root s l kept f z (grouped (tree_of l root).parents root nothing l) A H)

-- ---- without variables to keep, nothing is named only where there is no group
none_met : (vars : List ℕ) → any (contains []) vars ≡ false
none_met [] = refl
none_met (v ∷ vars) = none_met vars

none_mentioned : (l : List Atom) → mentions [] l ≡ false
none_mentioned [] = refl
none_mentioned (a ∷ l) = rw (none_met (tree_vars a)) (none_mentioned l)

module _ (again : List Atom → ℕ → List ℕ → W (Option (List Atom))) (root : ℕ) (keep : List ℕ) where
  some_named : (l : List (ℕ × List Atom)) (result : List Atom) (z y : Rules.Naming) → name_groups again root keep l result true z ≡ ok none y → ⊥
  unfolding name_groups
  some_named [] result z y e = let n : ◌≡◌ {A = ℕ} 0 1 = cc in omega arith
  some_named (g ∷ l) result z y e = go (mentions keep g.1) e (λ r x q. some_named l r x y q)
    where
      named : (o : Res Rules.Naming Atom) → then o (λ a x. name_groups again root keep l (result ++ (a ∷ [])) true x) ≡ ok none y
          → ((r : List Atom) (x : Rules.Naming) → name_groups again root keep l r true x ≡ ok none y → ⊥) → ⊥
      named (ok a x) q next = next (result ++ (a ∷ [])) x q
      named (refused k) q next = let n : ◌≡◌ {A = ℕ} 0 1 = cc in omega arith

      go : (b : Bool) → group_with again (λ r n. name_groups again root keep l r n) root g result true b z ≡ ok none y
          → ((r : List Atom) (x : Rules.Naming) → name_groups again root keep l r true x ≡ ok none y → ⊥) → ⊥
      go true q next = next (result ++ g.1) z q
      go false q next = named (name_group again root g.0 g.1 z) q next

  first_named : (g : ℕ × List Atom) (l : List (ℕ × List Atom)) (result : List Atom) (z y : Rules.Naming) → mentions keep g.1 ≡ false → name_groups again root keep (g ∷ l) result false z ≡ ok none y → ⊥
  unfolding name_groups
  first_named g l result z y h e = named (name_group again root g.0 g.1 z) (rw h at e)
    where
      named : (o : Res Rules.Naming Atom) → then o (λ a x. name_groups again root keep l (result ++ (a ∷ [])) true x) ≡ ok none y → ⊥
      named (ok a x) q = some_named l (result ++ (a ∷ [])) x y q
      named (refused k) q = let n : ◌≡◌ {A = ℕ} 0 1 = cc in omega arith

alone_go : (f root : ℕ) (g : Groups) (gs : List (ℕ × List Atom)) (z y : Rules.Naming) → g.groups ≡ gs → groups_rule f root [] g z ≡ ok none y → gs ≡ []
unfolding groups_rule
alone_go f root g [] z y e h = refl
alone_go f root g (x ∷ gs) z y e h = absurd (first_named (λ a b c. name_by f a b c) root [] x gs g.root_atoms z y (none_mentioned x.1) (rw e at h))

own_go : (f root : ℕ) (l : List Atom) (parents : List (ℕ × ℕ)) (z y : Rules.Naming) (o : Option Groups) → grouped parents root nothing l ≡ o → groups_rule f root [] (groups_for l o) z ≡ ok none y
    → (groups_for l o).root_atoms ++ all_of (groups_for l o).groups ≡ l
unfolding all_of
own_go f root l parents z y none e h = append-nil l
own_go f root l parents z y (some g) e h =
    let n = alone_go f root g g.groups z y refl h in
    ap (λ (x : List (ℕ × List Atom)). g.root_atoms ++ all_of x) n ∙ append-nil g.root_atoms ∙ grouped_alone parents root l g e n

-- ---- the answer
module _ (w3 : List ℕ) (base count root : ℕ) (s : Naming) (l : List Atom) (kept : List ℕ) (f : ℕ) (z : Rules.Naming) (parents : List (ℕ × ℕ)) where
  abbrev made : Groups
  made = groups_for l (grouped parents root nothing l)

  abbrev whole : List Atom
  whole = made.root_atoms ++ all_of made.groups

  not_go : (y : Rules.Naming) → groups_rule f root kept made z ≡ ok none y → kept ≡ [] → whole ≡ l
  not_go y h e = own_go f root l parents z y (grouped parents root nothing l) refl (rw e at h)

  answer_go : (r : Reduced) (o : Res Rules.Naming (Option (List Atom))) → groups_rule f root kept made z ≡ o → ReducedBy w3 base count whole kept s o r → ReducedBy w3 base count l kept s o r
  answer_go (Ok (Some m)) (ok (some b) y) e R = R
  answer_go (Ok (Some m)) (ok none y) e R = absurd R
  answer_go (Ok None) (ok (some b) y) e R = absurd R
  answer_go (Ok None) (ok none y) e R = record { atoms = λ k. subst (AtomsAre w3 base count) (not_go y e k) (R.atoms k); held = R.held }
  answer_go (Err x) (ok (some b) y) e R = R
  answer_go (Err x) (ok none y) e R = R
  answer_go r (refused k) e R = absurd R

  pub answer : (r : Reduced) → ReducedBy w3 base count whole kept s (groups_rule f root kept made z) r → ReducedBy w3 base count l kept s (groups_rule f root kept made z) r
  answer r R = answer_go r (groups_rule f root kept made z) refl R

-- the bound of the rule is one less for the children
pub step_answer : (w3 : List ℕ) (base count root : ℕ) (s : Naming) (l : List Atom) (kept : List ℕ) (f : ℕ) (z : Rules.Naming) (r : Reduced) → any_disconnected l (tree_of l root).placed ≡ false → count < f
    → ((g : ℕ) → count ≤ g → ReducedBy w3 base count ((groups_for l (grouped (tree_of l root).parents root nothing l)).root_atoms ++ all_of (groups_for l (grouped (tree_of l root).parents root nothing l)).groups) kept s
    (groups_rule g root kept (groups_for l (grouped (tree_of l root).parents root nothing l)) z) r)
    → ReducedBy w3 base count l kept s (name_by f l root kept z) r
step_answer w3 base count root s l kept zero z r e h R = absurd (omega arith)
step_answer w3 base count root s l kept (suc f) z r e h R = rw (step_is f root kept l z e) (answer w3 base count root s l kept f z (tree_of l root).parents r (R f (omega arith)))

-- ---- what stays, from the tree to the groups and on
module _ (w w1 w2 : List ℕ) (base count : ℕ) (s : Naming) (long1 : length w1 ≡ length w) (long2 : length w2 ≡ length w1) (low : body_at ≤ base) (high : base + count ≤ copy_at)
    (O1 : OnlyTree w w1) (O2 : OnlyRecords base count w1 w2) where
  pub laid_held : (z : Rules.Naming) → NamedHeld w s z → NamedHeld w2 s z
  laid_held z H = named_stay w1 w2 long2 s z (λ j a. O2.before j (omega arith)) (named_stay w w1 long1 s z (λ j a. O1.before j (omega arith)) H)

  pub laid_named : NamedThere w s → NamedThere w2 s
  laid_named T = record { state = T.state; held = laid_held T.state T.held }

  pub laid_keep : (n : ℕ) (kept : List ℕ) → KeepIs w n kept → KeepIs w2 n kept
  laid_keep n kept K = keep_stay w1 w2 long2 n kept (λ j a b. O2.behind j (omega arith)) (keep_stay w w1 long1 n kept (λ j a b. O1.behind j (omega arith)) K)
