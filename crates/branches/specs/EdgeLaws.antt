-- A variable that is the root, and an atom's words by its place in a list. Assumes nothing.
use Rattle.std.specs.Prelude.{◌≡◌, List, [], ◌∷◌, ℕ, suc, ◌+◌, ◌*◌, ◌<◌, get_or, drop, eqb}
use Rattle.std.proofs.Math.Bool.{or-false}
use Rattle.std.proofs.Common.{sym, subst, ◌∙◌, arith, drop-cons}
use Rattle.ir.specs.declared.atom.Atom.{Atom}
use Rattle.rules.specs.Base.{contains}
use Rattle.branches.specs.Wide.{AtomsAre}
use Rattle.branches.specs.Edges.{any_atom}
use Rattle.branches.specs.AtomsLaws.{WordsAre, atom_at_lem}

-- the root, as a variable to keep
pub root_test : (root x : ℕ) → eqb x root ≡ contains (root ∷ []) x
root_test root x = sym (or-false (eqb x root))

-- atom i as the default reads it
pub words_here : (w : List ℕ) (base count i : ℕ) (l : List Atom) → AtomsAre w base count l → i < count → WordsAre w (6 * (base + i)) (get_or l i any_atom)
words_here w base count i l A h =
    let N = atom_at_lem w base count i l A h in
    let e : N.atom ∷ drop (i + 1) l ≡ get_or l i any_atom ∷ drop (suc i) l = sym N.split ∙ drop-cons l i any_atom (omega (arith, A.long)) in
    let q : N.atom ≡ get_or l i any_atom = cc in
    subst (WordsAre w (6 * (base + i))) q N.words
