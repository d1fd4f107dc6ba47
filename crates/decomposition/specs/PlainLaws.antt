-- A search for an atom that is neither a class nor a role atom, in a run of atoms, at atom i. Assumes nothing.
use Rattle.std.specs.Prelude.{Bool, true, false, not, ◌≡◌, refl, List, [], ◌∷◌, ℕ, zero, suc, ◌+◌, ◌*◌, ◌/◌, ◌≤◌, ◌<◌, length, get_or, drop}
use Rattle.std.proofs.Math.Bool.{or-true}
use Rattle.std.proofs.Common.{arith, drop_of_length-le}
use Rattle.words.specs.Words.{words}
use Rattle.ir.specs.Records.{words_of}
use Rattle.ir.specs.declared.atom.Atom.{Atom}
use Rattle.ir.specs.declared.atom.Atom.TheVariants.{Class, Exists, AtMost, AtLeast, Equal, Role as RoleAtom}
use Rattle.rules.specs.Base.{any}
use Rattle.rules.specs.Branches.{is_tree_atom}
use Rattle.tables.specs.Tabled.{Run}
use Rattle.branches.specs.AtomsLaws.{run_atom}

-- ---- by the kind
is_tree : (a : Atom) → (words_of a).0 ≤ 2 → is_tree_atom a ≡ true
is_tree (Class k v) e = refl
is_tree (RoleAtom r u v) e = refl
is_tree (Exists r k v) e = absurd (omega arith)
is_tree (AtMost r q n v) e = absurd (omega arith)
is_tree (AtLeast r q n v) e = absurd (omega arith)
is_tree (Equal u v) e = absurd (omega arith)

no_tree : (a : Atom) → 2 < (words_of a).0 → is_tree_atom a ≡ false
no_tree (Class k v) e = absurd (omega arith)
no_tree (RoleAtom r u v) e = absurd (omega arith)
no_tree (Exists r k v) e = refl
no_tree (AtMost r q n v) e = refl
no_tree (AtLeast r q n v) e = refl
no_tree (Equal u v) e = refl

-- one of them is another atom
abbrev pub other : List Atom → Bool
other l = any (λ a. not (is_tree_atom a)) l

-- from atom i on, of the `count` in the bytes s
module _ (s : List ℕ) (count : ℕ) (e : count ≡ length s / 24) (l : List Atom) (R : Run s l) where
  pub other_found : (i : ℕ) → i < count → 2 < get_or (words s) (6 * i) 0 → other (drop i l) ≡ true
  other_found i h k = let a = run_atom s count i e l R h in rw (a.split, no_tree a.atom (omega (arith, a.words.kind))) refl

  pub other_on : (i : ℕ) → i < count → get_or (words s) (6 * i) 0 ≤ 2 → other (drop i l) ≡ other (drop (i + 1) l)
  other_on i h k = let a = run_atom s count i e l R h in rw (a.split, is_tree a.atom (omega (arith, a.words.kind))) refl

  pub other_end : other (drop count l) ≡ false
  other_end = let z : length l ≤ count = omega (arith, R.long) in rw (drop_of_length-le l z) refl

pub other_back : (l : List Atom) (i : ℕ) → other (drop i l) ≡ true → other l ≡ true
other_back [] zero k = k
other_back [] (suc i) k = k
other_back (a ∷ l) zero k = k
other_back (a ∷ l) (suc i) k = rw (other_back l i k) (or-true (not (is_tree_atom a)))
