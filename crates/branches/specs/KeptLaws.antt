-- Whether atoms mention one of the variables from word m on. Assumes nothing.
use Rattle.std.specs.Prelude.{Bool, true, false, ◌||◌, ◌≡◌, refl, List, [], ◌∷◌, ℕ, zero, suc, ◌+◌, ◌*◌, ◌≤◌, ◌<◌, length, get_or, drop}
use Rattle.std.proofs.Math.Bool.{or-true}
use Rattle.std.proofs.Common.{sym, ap, ◌∙◌, arith, drop_of_length-le}
use Rattle.words.specs.Words.{words}
use Rattle.ir.specs.Records.{words_of}
use Rattle.ir.specs.declared.atom.Atom.{Atom}
use Rattle.ir.specs.declared.atom.Atom.TheVariants.{Class, Exists, AtMost, AtLeast, Equal, Role as RoleAtom}
use Rattle.rules.specs.Base.{any, contains}
use Rattle.rules.specs.Branches.{tree_vars, mentions}
use Rattle.rules.specs.EachLaws.{each_drop}
use Rattle.branches.specs.Wide.{AtomsAre}
use Rattle.branches.specs.Memo.{Tame, TameThere}
use Rattle.branches.specs.AtomsLaws.{WordsAre, atom_at_lem, atoms_long}

-- ---- the variables of a class or role atom
tame_kind : (a : Atom) → Tame a → (words_of a).0 < 3
tame_kind (Class k v) h = omega arith
tame_kind (RoleAtom r u v) h = omega arith
tame_kind (Exists r k v) h = absurd h
tame_kind (AtMost r q n v) h = absurd h
tame_kind (AtLeast r q n v) h = absurd h
tame_kind (Equal u v) h = absurd h

pub kind_small : (w : List ℕ) (base count i : ℕ) → TameThere w base count → i < count → get_or w (6 * (base + i)) 0 < 3
kind_small w base count i T h =
    let N = atom_at_lem w base count i T.list T.are h in
    omega (arith, N.words.kind, tame_kind N.atom (each_drop Tame T.list i N.atom (drop (i + 1) T.list) T.tame N.split))

pub tame_long : (s : List ℕ) (base count i : ℕ) → TameThere (words s) base count → i < count → 24 * (base + i) + 24 ≤ length s
tame_long s base count i T h = atoms_long s base count i (record { list = T.list; are = T.are }) h

-- ---- from atom i on
module _ (kept : List ℕ) where
  pub mentions_back : (l : List Atom) (i : ℕ) → mentions kept (drop i l) ≡ true → mentions kept l ≡ true
  mentions_back [] zero e = e
  mentions_back [] (suc i) e = e
  mentions_back (a ∷ l) zero e = e
  mentions_back (a ∷ l) (suc i) e = rw (mentions_back l i e) (or-true (any (contains kept) (tree_vars a)))

  module _ (w : List ℕ) (base count : ℕ) (l : List Atom) (A : AtomsAre w base count l) where
    pub mentions_from : (i : ℕ) → i < count → (r : Bool) → ((a : Atom) → WordsAre w (6 * (base + i)) a → r ≡ any (contains kept) (tree_vars a)) → mentions kept (drop i l) ≡ (r || mentions kept (drop (i + 1) l))
    mentions_from i h r R =
        let N = atom_at_lem w base count i l A h in
        ap (mentions kept) N.split ∙ ap (λ (b : Bool). b || mentions kept (drop (i + 1) l)) (sym (R N.atom N.words))

    pub mentions_end : mentions kept (drop count l) ≡ false
    mentions_end = let z = drop_of_length-le l {i = count} (omega (arith, A.long)) in rw z refl
