-- Runs of words compared word by word, and the atoms and clauses that they are. Assumes nothing.
use Rattle.std.specs.Prelude.{◌≡◌, refl, Bool, true, false, ◌&&◌, ◌||◌, List, [], ◌∷◌, ◌++◌, ℕ, ◌*◌, eqb, length, take, drop}
use Rattle.std.proofs.Common.{ap, ap₂, ◌∙◌, arith}
use Rattle.std.proofs.Math.Bool.{and-false}
use Rattle.ir.specs.Pick.{pick}
use Rattle.ir.specs.Records.{six, same_words, same_atom}
use Rattle.ir.specs.declared.atom.Atom.{Atom}
use Rattle.rules.specs.Base.{any}
use Rattle.rules.specs.Run.{flat}
use Rattle.rules.specs.State.{Clause}
use Rattle.rules.specs.DecodeLaws.{flat_append, flat_long}
use Rattle.rules.specs.Reflexive.{same_atoms, same_clause}
use Rattle.tables.specs.TabledLaws.{At}

-- ---- one of two tests over a list
pub any_either : {A : Type 0} (p q : A → Bool) (l : List A) → (any p l || any q l) ≡ any (λ a. p a || q a) l
any_either p q [] = refl
any_either p q (x ∷ l) = swap (p x) (any p l) (q x) (any q l) ∙ ap (λ (b : Bool). (p x || q x) || b) (any_either p q l)
  where
    swap : (a b c d : Bool) → ((a || b) || (c || d)) ≡ ((a || c) || (b || d))
    swap true b c d = refl
    swap false true true d = refl
    swap false true false d = refl
    swap false false c d = refl

-- ---- two runs of n words, from words i and j on
abbrev pub same_runs : List ℕ → ℕ → List ℕ → ℕ → ℕ → Bool
same_runs s i t j n = same_words (take n (drop i s)) (take n (drop j t))

-- ---- words of atoms
same_both : (xs ys u v : List ℕ) → length xs ≡ length ys → same_words (xs ++ u) (ys ++ v) ≡ (same_words xs ys && same_words u v)
same_both [] [] u v e = refl
same_both [] (y ∷ ys) u v e = absurd (omega arith)
same_both (x ∷ xs) [] u v e = absurd (omega arith)
same_both (x ∷ xs) (y ∷ ys) u v e = rw (same_both xs ys u v (omega arith)) (pick_and_lem (eqb x y) (same_words xs ys) (same_words u v))
  where
    pick_and_lem : (a b c : Bool) → pick a (b && c) false ≡ (pick a b false && c)
    pick_and_lem true b c = refl
    pick_and_lem false b c = refl

pub same_flat : (l m : List Atom) → length l ≡ length m → same_words (flat l) (flat m) ≡ same_atoms l m
unfolding flat same_atoms same_atom
same_flat [] [] e = refl
same_flat [] (b ∷ m) e = absurd (omega arith)
same_flat (a ∷ l) [] e = absurd (omega arith)
same_flat (a ∷ l) (b ∷ m) e = same_both (six a) (six b) (flat l) (flat m) refl ∙ ap (λ (z : Bool). same_words (six a) (six b) && z) (same_flat l m (omega arith))

atoms_apart : (l m : List Atom) → (length l ≡ length m → ⊥) → same_atoms l m ≡ false
unfolding same_atoms
atoms_apart [] [] e = absurd (e refl)
atoms_apart [] (b ∷ m) e = refl
atoms_apart (a ∷ l) [] e = refl
atoms_apart (a ∷ l) (b ∷ m) e = rw (atoms_apart l m (λ f. e (omega arith))) (and-false (same_atom a b))

-- r, that compared records i and j
pub record_same : (w : List ℕ) (i j : ℕ) (x y : Atom) (r : Bool) → r ≡ same_runs w (6 * i) w (6 * j) 6 → At w (6 * i) (six x) → At w (6 * j) (six y) → r ≡ same_atom x y
unfolding same_atom
record_same w i j x y r h e f = h ∙ ap₂ same_words e f

-- ---- clauses
pub clause_flat : (x y : Clause) → length x.body ≡ length y.body → length x.head ≡ length y.head → same_words (flat (x.body ++ x.head)) (flat (y.body ++ y.head)) ≡ same_clause x y
clause_flat x y e f =
    let g : length (flat x.body) ≡ length (flat y.body) = omega (arith, flat_long x.body, flat_long y.body) in
    ap₂ same_words (flat_append x.body x.head) (flat_append y.body y.head)
    ∙ same_both (flat x.body) (flat y.body) (flat x.head) (flat y.head) g
    ∙ ap₂ ◌&&◌ (same_flat x.body y.body e) (same_flat x.head y.head f)

pub bodies_apart : (x y : Clause) → (length x.body ≡ length y.body → ⊥) → same_clause x y ≡ false
bodies_apart x y e = rw (atoms_apart x.body y.body e) refl

pub heads_apart : (x y : Clause) → (length x.head ≡ length y.head → ⊥) → same_clause x y ≡ false
heads_apart x y e = rw (atoms_apart x.head y.head e) (and-false (same_atoms x.body y.body))
