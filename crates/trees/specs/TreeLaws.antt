-- The tree of a root, from its first words to the answer. Assumes nothing.
use Rattle.std.specs.Prelude.{Bool, true, false, ◌&&◌, ◌||◌, not, eqb, ◌≡◌, Some, None, ℕ, zero, suc, ◌+◌, ◌*◌, ◌-◌, ◌≤◌, ◌<◌, length, get_or, take, set}
use Rattle.std.proofs.Math.Path.{refl, sym}
use Rattle.std.proofs.Common.{ap, ◌∙◌, arith, length-drop, get_or-take, get_or-drop, drop-set-lt, take-suc-set}
use mathlib.Core.List.{List, [], ◌∷◌}
use Rattle.std.proofs.Math.ListN.{drop, drop_of_length-le}
use Rattle.std.proofs.lemmas.List.{take-set-le, drop-set-add}
use Rattle.std.proofs.Math.Bool.{or-true}
use Rattle.ir.specs.Records.{words_of}
use Rattle.ir.specs.declared.atom.Atom.{Atom}
use Rattle.ir.specs.declared.atom.Atom.TheVariants.{Class, Exists, AtMost, AtLeast, Equal, Role as RoleAtom}
use Rattle.rules.specs.Branches.{Tree, tree_of, is_role_atom, any_disconnected, parent_of}
use Rattle.branches.specs.Layout.{bound_at, tops_at, met_at, work_words}
use Rattle.branches.specs.Wide.{AtomsAre}
use Rattle.branches.specs.Trees.{Treed, TreeIs, OnlyTree}
use Rattle.branches.specs.AtomsLaws.{atom_at_lem}
use Rattle.trees.specs.Growth.{Kept, Growing, Grown}
use Rattle.trees.specs.TopLaws.{top_none}
use Rattle.trees.specs.PlaceLaws.{not_first}
use Rattle.trees.specs.FlagLaws.{flags_from}
use Rattle.trees.specs.RoundLaws.{kept_get, kept_then}
use Rattle.trees.specs.GrowLaws.{atoms_kept}

-- ---- a role atom that is not placed, from atom j on
role_test : (a : Atom) → eqb (words_of a).0 2 ≡ is_role_atom a
role_test (Class k v) = refl
role_test (RoleAtom r u v) = refl
role_test (Exists r k v) = refl
role_test (AtMost r q n v) = refl
role_test (AtLeast r q n v) = refl
role_test (Equal u v) = refl

disconnected_back : (l : List Atom) (flags : List Bool) (k : ℕ) → any_disconnected (drop k l) (drop k flags) ≡ true → any_disconnected l flags ≡ true
unfolding any_disconnected
disconnected_back l flags zero e = e
disconnected_back [] flags (suc k) e = e
disconnected_back (a ∷ l) [] (suc k) e = absurd (no_flags (drop k l) e)
  where
    no_flags : (m : List Atom) → any_disconnected m [] ≡ true → ⊥
    no_flags [] z = absurd (let n : ◌≡◌ {A = ℕ} 0 1 = cc in omega arith)
    no_flags (b ∷ m) z = absurd (let n : ◌≡◌ {A = ℕ} 0 1 = cc in omega arith)
disconnected_back (a ∷ l) (p ∷ flags) (suc k) e = rw (disconnected_back l flags k e) (or-true (is_role_atom a && not p))

module _ (w : List ℕ) (flags : List Bool) (base count : ℕ) (long : count ≤ length flags) (l : List Atom) (A : AtomsAre w base count l) where
  -- the atoms from j on
  abbrev pub loose : ℕ → Bool
  loose j = any_disconnected (drop j l) (drop j (take count flags))

  module _ (j : ℕ) (h : j < count) where
    loose_one : loose j ≡ ((eqb (get_or w (6 * (base + j)) 0) 2 && not (get_or flags j false)) || loose (j + 1))
    unfolding any_disconnected
    loose_one =
        let a = atom_at_lem w base count j l A h in
        let e : eqb (get_or w (6 * (base + j)) 0) 2 ≡ is_role_atom a.atom = ap (λ (x : ℕ). eqb x 2) a.words.kind ∙ role_test a.atom in
        rw (a.split, flags_from flags j count h long, e) refl

    pub loose_here : (eqb (get_or w (6 * (base + j)) 0) 2 && not (get_or flags j false)) ≡ true → loose j ≡ true
    loose_here e = loose_one ∙ rw e refl

    pub loose_on : (eqb (get_or w (6 * (base + j)) 0) 2 && not (get_or flags j false)) ≡ false → loose j ≡ loose (j + 1)
    loose_on e = loose_one ∙ rw e refl

  pub loose_back : (k : ℕ) → loose k ≡ true → loose 0 ≡ true
  loose_back k e = disconnected_back l (take count flags) k e

  pub loose_stop : loose count ≡ false
  unfolding any_disconnected
  loose_stop = let z : drop count l ≡ [] = drop_of_length-le l {i = count} (omega (arith, A.long)) in rw z refl

-- ---- the root alone
abbrev pub rooted : List ℕ → ℕ → List ℕ
rooted w root = set (set w bound_at root) tops_at root

module _ (w : List ℕ) (root : ℕ) (long : work_words ≤ length w) where
  pub rooted_kept : Kept w (rooted w root)
  rooted_kept = record {
    front = take-set-le bound_at (set w bound_at root) tops_at root (omega arith) ∙ take-set-le bound_at w bound_at root (omega arith);
    back = drop-set-lt met_at (set w bound_at root) tops_at root (omega arith) ∙ drop-set-lt met_at w bound_at root (omega arith);
  }

  root_bound : take 1 (drop bound_at (rooted w root)) ≡ root ∷ []
  root_bound =
      let d = drop bound_at w in
      ap (λ (l : List ℕ). take 1 l) (drop-set-add bound_at (set w bound_at root) 257 root)
      ∙ take-set-le 1 (drop bound_at (set w bound_at root)) 257 root (omega arith)
      ∙ ap (λ (l : List ℕ). take 1 l) (drop-set-add bound_at w 0 root)
      ∙ take-suc-set d 0 root (omega (arith, length-drop bound_at w))

  pub rooted_growing : Growing (rooted w root) root 1 (root ∷ []) []
  unfolding parent_of
  rooted_growing = record {
    long = refl;
    filled = omega arith;
    vars = root_bound;
    first = refl;
    tops = λ i h k. absurd (omega arith);
    alone = λ v h. refl;
  }

-- ---- the answer
growing_treed : (w : List ℕ) (root n : ℕ) (t : Tree) → n ≤ 257 → Growing w root n t.bound t.parents → Treed w root n t
growing_treed w root n t f G = record {
  long = G.long;
  few = f;
  vars = λ i h. sym (get_or-take n (drop bound_at w) i 0 h ∙ get_or-drop bound_at w i 0) ∙ ap (λ (l : List ℕ). get_or l i 0) G.vars;
  first = G.first;
  tops = G.tops;
  others = λ v h. top_none t.parents root v (rw (← G.first) (not_first t.bound v h (omega (arith, G.long, G.filled)))) (G.alone v h);
}

-- x: the words with the root
module _ (w x w' : List ℕ) (flags' : List Bool) (base count root n : ℕ) (long : work_words ≤ length w) (inside : 6 * (base + count) ≤ bound_at)
    (e : x ≡ rooted w root) (D : Grown x base count n w' flags') where
  G : Grown (rooted w root) base count n w' flags'
  G = rw e at D

  pub tree_kept : OnlyTree w w'
  tree_kept =
      let k : Kept w w' = kept_then (rooted_kept w root long) G.kept in
      record {
        before = kept_get w w' k;
        behind = λ j h.
            let z : met_at + (j - met_at) ≡ j = omega arith in
            rw (← z) (sym (get_or-drop met_at w' (j - met_at) 0) ∙ ap (λ (l : List ℕ). get_or l (j - met_at) 0) k.back ∙ get_or-drop met_at w (j - met_at) 0);
      }

  -- b: whether the code met a role atom that is not placed
  module _ (b : Bool) (d : (l : List Atom) → AtomsAre w' base count l → b ≡ any_disconnected l (take count flags')) (l : List Atom) (A : AtomsAre w base count l) where
    tree_is : Growing w' root n (tree_of l root).bound (tree_of l root).parents × ((tree_of l root).placed ≡ take count flags')
    tree_is = G.rule root l (atoms_kept w (rooted w root) base count l (rooted_kept w root long) inside A) (rooted_growing w root long)

    loose_is : b ≡ any_disconnected l (tree_of l root).placed
    loose_is = rw tree_is.1 (d l (atoms_kept w w' base count l (kept_then (rooted_kept w root long) G.kept) inside A))

    pub tree_none : b ≡ true → TreeIs w' root l None
    tree_none h = rw (← loose_is, h) tt

    pub tree_some : b ≡ false → TreeIs w' root l (Some n)
    tree_some h = rw (← loose_is, h) (growing_treed w' root n (tree_of l root) G.few tree_is.0, tree_is.0.filled)
