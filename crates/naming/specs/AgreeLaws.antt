-- What stands in words that are the same there. Assumes nothing.
use Rattle.std.specs.Prelude.{◌≡◌, refl, List, [], ◌∷◌, ℕ, zero, suc, ◌+◌, ◌*◌, ◌≤◌, ◌<◌, length, get_or, take, drop}
use Rattle.std.proofs.Common.{sym, ap₂, ◌∙◌, arith, length-drop, get_or-drop}
use Rattle.words.specs.Words.{words}
use Rattle.ir.specs.declared.atom.Atom.{Atom}
use Rattle.rules.specs.Run.{flat}
use Rattle.rules.specs.DecodeLaws.{flat_long}
use Rattle.rules.specs.Branches as Rules
use Rattle.tables.specs.TabledLaws.{At}
use Rattle.branches.specs.Layout.{named_end, keep_at, renumbered_at}
use Rattle.branches.specs.Wide.{AtomsAre}
use Rattle.branches.specs.Memo.{named_words, NamedHeld, NamedThere}
use Rattle.branches.specs.FilterLaws.{marks_kept}
use Rattle.branches.specs.Edges.{KeepIs}
use Rattle.branches.specs.declared.memo.Naming.{Naming}

take_same : (n : ℕ) (u v : List ℕ) → length u ≡ length v → ((j : ℕ) → j < n → get_or u j 0 ≡ get_or v j 0) → take n u ≡ take n v
take_same zero u v l f = refl
take_same (suc n) [] [] l f = refl
take_same (suc n) [] (y ∷ v) l f = absurd (omega arith)
take_same (suc n) (x ∷ u) [] l f = absurd (omega arith)
take_same (suc n) (x ∷ u) (y ∷ v) l f = ap₂ (λ (z : ℕ) (m : List ℕ). z ∷ m) (f 0 (omega arith)) (take_same n u v (omega arith) (λ j h. f (suc j) (omega arith)))

pub run_same : (w w' : List ℕ) (i n : ℕ) → length w' ≡ length w → ((j : ℕ) → i ≤ j → j < i + n → get_or w' j 0 ≡ get_or w j 0) → take n (drop i w') ≡ take n (drop i w)
run_same w w' i n l f =
    take_same n (drop i w') (drop i w) (omega (arith, length-drop i w', length-drop i w))
    (λ j h. get_or-drop i w' j 0 ∙ f (i + j) (omega arith) (omega arith) ∙ sym (get_or-drop i w j 0))

module _ (w w' : List ℕ) (long : length w' ≡ length w) where
  pub at_stay : (i : ℕ) (xs : List ℕ) → ((j : ℕ) → i ≤ j → j < i + length xs → get_or w' j 0 ≡ get_or w j 0) → At w i xs → At w' i xs
  at_stay i xs f a = run_same w w' i (length xs) long f ∙ a

  -- atoms from record p on
  pub flat_stay : (p : ℕ) (l : List Atom) → ((j : ℕ) → 6 * p ≤ j → j < 6 * (p + length l) → get_or w' j 0 ≡ get_or w j 0) → At w (6 * p) (flat l) → At w' (6 * p) (flat l)
  flat_stay p l f a = at_stay (6 * p) (flat l) (λ j h k. f j h (omega (arith, flat_long l))) a

  pub atoms_stay : (base count : ℕ) (l : List Atom) → ((j : ℕ) → 6 * base ≤ j → j < 6 * (base + count) → get_or w' j 0 ≡ get_or w j 0) → AtomsAre w base count l → AtomsAre w' base count l
  atoms_stay base count l f A = record { long = A.long; there = at_stay (6 * base) (flat l) (λ j h k. f j h (omega (arith, flat_long l, A.long))) A.there }

  pub named_stay : (s : Naming) (z : Rules.Naming) → ((j : ℕ) → j < named_end → get_or w' j 0 ≡ get_or w j 0) → NamedHeld w s z → NamedHeld w' s z
  named_stay s z f H = record {
    many = H.many;
    names = H.names;
    next = H.next;
    used = H.used;
    few = H.few;
    words = at_stay 0 (named_words z.named) (λ j h k. f j (omega (arith, H.used, H.few))) H.words;
    bodies = H.bodies;
    marks = marks_kept w w' z.named f H.marks;
  }

  pub named_there_stay : (s : Naming) → ((j : ℕ) → j < named_end → get_or w' j 0 ≡ get_or w j 0) → NamedThere w s → NamedThere w' s
  named_there_stay s f T = record { state = T.state; held = named_stay s T.state f T.held }

  keep_run : (k r n : ℕ) → r ≡ k + 512 → n ≤ 512 → ((j : ℕ) → k ≤ j → j < r → get_or w' j 0 ≡ get_or w j 0) → take n (drop k w') ≡ take n (drop k w)
  keep_run k r n e h f = run_same w w' k n long (λ j a b. f j a (omega arith))

  pub keep_stay : (n : ℕ) (kept : List ℕ) → ((j : ℕ) → keep_at ≤ j → j < renumbered_at → get_or w' j 0 ≡ get_or w j 0) → KeepIs w n kept → KeepIs w' n kept
  keep_stay n kept f K = record { long = K.long; few = K.few; are = keep_run keep_at renumbered_at n refl K.few f ∙ K.are }
