-- The words of atoms that stand in a table: each atom's kind and variables. Assumes nothing.
use Rattle.std.specs.Prelude.{◌≡◌, refl, List, [], ◌∷◌, ℕ, zero, suc, ◌+◌, ◌*◌, ◌/◌, ◌≤◌, ◌<◌, length, get_or, drop}
use Rattle.std.proofs.Common.{arith}
use Rattle.words.specs.Words.{words}
use Rattle.words.specs.Laws.{length_words}
use Rattle.ir.specs.Records.{words_of}
use Rattle.ir.specs.declared.atom.Atom.{Atom}
use Rattle.ir.specs.declared.atom.Atom.TheVariants.{Class, Exists, AtMost, AtLeast, Equal, Role as RoleAtom}
use Rattle.rules.specs.Run.{flat}
use Rattle.rules.specs.DecodeLaws.{flat_long}
use Rattle.rules.specs.Branches.{role_vars}
use Rattle.tables.specs.Tabled.{Run}
use Rattle.tables.specs.TabledLaws.{At, at_back, at_get, at_long}
use Rattle.tables.specs.AtomLaws.{flat_drop, run_at}
use Rattle.branches.specs.Wide.{AtomsAre, AtomsThere}

-- ---- an atom's words
-- the first of some atoms
pub record WordsAre (w : List ℕ) (j : ℕ) (a : Atom) : Type 0 where
  pub kind : get_or w j 0 ≡ (words_of a).0
  pub var : get_or w (j + 4) 0 ≡ (words_of a).4
  pub other : get_or w (j + 5) 0 ≡ (words_of a).5

at_words : (w : List ℕ) (j : ℕ) (a : Atom) (l : List Atom) → At w j (flat (a ∷ l)) → WordsAre w j a
unfolding flat
at_words w j a l e =
    let x = words_of a in
    let b = at_back w j (x.0 ∷ x.1 ∷ x.2 ∷ x.3 ∷ []) (x.4 ∷ x.5 ∷ flat l) e (j + 4) refl in
    let d = at_back w j (x.0 ∷ x.1 ∷ x.2 ∷ x.3 ∷ x.4 ∷ []) (x.5 ∷ flat l) e (j + 5) refl in
    record {
      kind = at_get w j x.0 (x.1 ∷ x.2 ∷ x.3 ∷ x.4 ∷ x.5 ∷ flat l) e;
      var = at_get w (j + 4) x.4 (x.5 ∷ flat l) b;
      other = at_get w (j + 5) x.5 (flat l) d;
    }

-- atom i and those after it
pub record AtomAt (w : List ℕ) (j : ℕ) (l m : List Atom) : Type 0 where
  pub atom : Atom
  pub split : l ≡ atom ∷ m
  pub words : WordsAre w j atom

pub split_at : (l : List Atom) (i : ℕ) → i < length l → (a : Atom) × (drop i l ≡ a ∷ drop (i + 1) l)
split_at [] i h = absurd (omega arith)
split_at (a ∷ l) zero h = (a, refl)
split_at (a ∷ l) (suc i) h = let z : suc i + 1 ≡ suc (i + 1) = omega arith in rw z (split_at l i (omega arith))

module _ (w : List ℕ) (first count i : ℕ) (l : List Atom) (A : AtomsAre w first count l) where
  pub atom_at_lem : i < count → AtomAt w (6 * (first + i)) (drop i l) (drop (i + 1) l)
  atom_at_lem h =
      let s = split_at l i (omega (arith, A.long)) in
      let e = flat_drop w first l i A.there (omega (arith, A.long)) in
      record { atom = s.0; split = s.1; words = at_words w (6 * (first + i)) s.0 (drop (i + 1) l) (rw s.1 at e) }

-- atom i of a part
pub run_atom : (s : List ℕ) (count i : ℕ) → count ≡ length s / 24 → (l : List Atom) → Run s l → i < count → AtomAt (words s) (6 * i) (drop i l) (drop (i + 1) l)
run_atom s count i e l R h =
    let z : 0 + i ≡ i = omega arith in
    rw z at (atom_at_lem (words s) 0 count i l (record { long = omega (arith, R.long); there = run_at s l R }) h)

-- the bytes of the table reach to its end
pub atoms_long : (s : List ℕ) (first count i : ℕ) → AtomsThere (words s) first count → i < count → 24 * (first + i) + 24 ≤ length s
atoms_long s first count i T h =
    let l = T.list in
    omega (arith, at_long (words s) (6 * first) (flat l) T.are.there, flat_long l, T.are.long, length_words s)

-- ---- role atoms, which give variables
pub role_vars_lem : (a : Atom) → (words_of a).0 ≡ 2 → role_vars a ≡ (words_of a).4 ∷ (words_of a).5 ∷ []
role_vars_lem (Class k v) e = absurd (omega arith)
role_vars_lem (RoleAtom r u v) e = refl
role_vars_lem (Exists r k v) e = absurd (omega arith)
role_vars_lem (AtMost r q n v) e = absurd (omega arith)
role_vars_lem (AtLeast r q n v) e = absurd (omega arith)
role_vars_lem (Equal u v) e = absurd (omega arith)

pub no_vars : (a : Atom) → ((words_of a).0 ≡ 2 → ⊥) → role_vars a ≡ []
no_vars (Class k v) e = refl
no_vars (RoleAtom r u v) e = absurd (e refl)
no_vars (Exists r k v) e = refl
no_vars (AtMost r q n v) e = refl
no_vars (AtLeast r q n v) e = refl
no_vars (Equal u v) e = refl
