-- A branch's atoms, packed in n words of w from word p on, and its name behind them, put from atom `at` on. Assumes nothing.
use Rattle.std.specs.Prelude.{◌≡◌, refl, List, [], ◌∷◌, ◌++◌, map, ℕ, zero, suc, ◌+◌, ◌*◌, ◌<◌, ◌≤◌, length, get_or, drop}
use Rattle.std.proofs.Common.{sym, ap, subst, ◌∙◌, arith, add-one, drop_of_length-le, drop-cons, get_or-take, get_or-drop}
use Rattle.std.proofs.lemmas.List.{length-map}
use Rattle.std.proofs.lemmas.List.Edits.{sets}
use Rattle.ir.specs.Records.{six, Fits}
use Rattle.ir.specs.declared.atom.Atom.{Atom}
use Rattle.ir.specs.declared.atom.Atom.TheVariants.{Class, Exists, AtMost, AtLeast, Equal, Role as RoleAtom}
use Rattle.rules.specs.Run.{flat}
use Rattle.rules.specs.Invariants.{Each}
use Rattle.rules.specs.EachLaws.{each_nth}
use Rattle.tables.specs.TabledLaws.{At}
use Rattle.tables.specs.AtomLaws.{no_atom}
use Rattle.branches.specs.Memo.{packed, Packable}
use Rattle.branches.specs.PackLaws.{code_small}

-- the atoms' words a, and a₀ before the first: j atoms are put, and the rest gives what all give
pub record AtomsLeft (w : List ℕ) (p n at name : ℕ) (a₀ a : List ℕ) (j : ℕ) : Type 0 where
  pub within : j ≤ n
  pub left : (l : List Atom) → Each Packable l → n ≡ length l → At w p (map packed l)
      → sets a₀ (6 * at) (flat (l ++ (Class name 0 ∷ []))) ≡ sets a (6 * (at + j)) (flat (drop j l ++ (Class name 0 ∷ [])))

pub packable_fits : (x : Atom) → Packable x → Fits x
packable_fits (Class k v) p = omega (arith, p.0)
packable_fits (RoleAtom r u v) p = code_small r p.0
packable_fits (Exists _ _ _) p = absurd p
packable_fits (AtMost _ _ _ _) p = absurd p
packable_fits (AtLeast _ _ _ _) p = absurd p
packable_fits (Equal _ _) p = absurd p

packed_nth : (l : List Atom) (j : ℕ) → get_or (map packed l) j 0 ≡ packed (get_or l j no_atom)
packed_nth [] j = refl
packed_nth (x ∷ l) zero = refl
packed_nth (x ∷ l) (suc j) = packed_nth l j

-- the record of one atom, and then the others'
flat_put : (x : Atom) (m : List Atom) (a : List ℕ) (i k : ℕ) → k ≡ i + 6 → sets a i (flat (x ∷ m)) ≡ sets (sets a i (six x)) k (flat m)
unfolding flat
flat_put x m a i k e = let f : k ≡ suc (suc (suc (suc (suc (suc i))))) = omega arith in rw f refl

flat_one : (x : Atom) → flat (x ∷ []) ≡ six x
unfolding flat
flat_one x = refl

module _ (w : List ℕ) (p n at name : ℕ) (a₀ a : List ℕ) (j : ℕ) (A : AtomsLeft w p n at name a₀ a j) where
  -- atom x is read of its word
  module _ (lt : j < n) (x : Atom) (is : (y : Atom) → Packable y → get_or w (p + j) 0 ≡ packed y → x ≡ y) where
    nth_is : (l : List Atom) → Each Packable l → n ≡ length l → At w p (map packed l) → x ≡ get_or l j no_atom
    nth_is l k e h =
        let m : j < length (map packed l) = omega (arith, length-map l packed) in
        let q : get_or w (p + j) 0 ≡ packed (get_or l j no_atom) =
        sym (get_or-drop p w j 0) ∙ sym (get_or-take (length (map packed l)) (drop p w) j 0 m) ∙ ap (λ (u : List ℕ). get_or u j 0) h ∙ packed_nth l j in
        is (get_or l j no_atom) (each_nth Packable l j no_atom k (omega arith)) q

    pub atom_fits : ((l : List Atom) × Each Packable l × (n ≡ length l) × At w p (map packed l)) → Fits x
    atom_fits t =
        let y = get_or t.0 j no_atom in
        subst Fits (sym (nth_is t.0 t.1 t.2 t.3)) (packable_fits y (each_nth Packable t.0 j no_atom t.1 (omega (arith, t.2))))

    pub atoms_next : (a' : List ℕ) → a' ≡ sets a (6 * (at + j)) (six x) → AtomsLeft w p n at name a₀ a' (j + 1)
    atoms_next a' put = record {
      within = omega arith;
      left = λ l k e h.
          let c : List Atom = Class name 0 ∷ [] in
          let m : j < length l = omega (arith, e) in
          let d : drop j l ≡ x ∷ drop (j + 1) l = drop-cons l j no_atom m ∙ rw (add-one j, nth_is l k e h) refl in
          A.left l k e h ∙ ap (λ (t : List Atom). sets a (6 * (at + j)) (flat (t ++ c))) d
          ∙ flat_put x (drop (j + 1) l ++ c) a (6 * (at + j)) (6 * (at + (j + 1))) (omega arith)
          ∙ ap (λ (t : List ℕ). sets t (6 * (at + (j + 1))) (flat (drop (j + 1) l ++ c))) (sym put);
    }

  pub atoms_end : n ≤ j → (a' : List ℕ) → a' ≡ sets a (6 * (at + n)) (six (Class name 0)) → (l : List Atom) → Each Packable l → n ≡ length l → At w p (map packed l)
      → a' ≡ sets a₀ (6 * at) (flat (l ++ (Class name 0 ∷ [])))
  atoms_end h a' put l k e q =
      let c : List Atom = Class name 0 ∷ [] in
      let d : drop j l ≡ [] = drop_of_length-le l {i = j} (omega (arith, e)) in
      let i : n ≡ j = omega (arith, h, A.within) in
      put ∙ ap (λ (m : ℕ). sets a (6 * (at + m)) (six (Class name 0))) i ∙ ap (sets a (6 * (at + j))) (sym (flat_one (Class name 0)))
      ∙ ap (λ (t : List Atom). sets a (6 * (at + j)) (flat (t ++ c))) (sym d) ∙ sym (A.left l k e q)
