-- Words that stand in a table, and a clause's own. Assumes nothing.
use Rattle.std.specs.Prelude.{◌≡◌, refl, List, [], ◌∷◌, ◌++◌, ℕ, suc, ◌+◌, ◌*◌, ◌-◌, ◌<◌, ◌≤◌, length, get_or, take, drop}
use Rattle.std.proofs.Common.{sym, ap, ap₂, ◌∙◌, arith, length-append, length-take, length-drop, get_or-take, get_or-drop, drop-drop}
use Rattle.rules.specs.Run.{clause_words}
use Rattle.tables.specs.Tabled.{first_atom, atom_count}
pub use Rattle.tables.specs.Tabled.{At}

-- ---- words that stand in a table
cons : (xs : List ℕ) (n : ℕ) → suc (length xs) + n ≡ suc (length xs + n)
cons xs n = omega arith

begins : (xs ys l : List ℕ) (n : ℕ) → take (length xs + n) l ≡ xs ++ ys → (take (length xs) l ≡ xs) × (take n (drop (length xs) l) ≡ ys)
begins [] ys l n e = (refl, let z : 0 + n ≡ n = omega arith in rw z at e)
begins (x ∷ xs) ys [] n e = absurd (let f : take (suc (length xs + n)) [] ≡ x ∷ (xs ++ ys) = rw (cons xs n) at e in let z : ◌≡◌ {A = ℕ} 0 1 = cc in omega arith)
begins (x ∷ xs) ys (y ∷ l) n e =
    let k : y ∷ take (length xs + n) l ≡ x ∷ (xs ++ ys) = rw (cons xs n) at e in
    let f : y ≡ x = cc in
    let g : take (length xs + n) l ≡ xs ++ ys = cc in
    let h = begins xs ys l n g in
    (ap₂ (λ (z : ℕ) (m : List ℕ). z ∷ m) f h.0, h.1)

-- the first of two runs, and the second, at j
module _ (w : List ℕ) (i : ℕ) (xs ys : List ℕ) (h : At w i (xs ++ ys)) where
  both : (take (length xs) (drop i w) ≡ xs) × (take (length ys) (drop (length xs) (drop i w)) ≡ ys)
  both = begins xs ys (drop i w) (length ys) (rw (length-append xs ys) at h)

  pub at_front : At w i xs
  at_front = both.0

  pub at_back : (j : ℕ) → j ≡ i + length xs → At w j ys
  at_back j e = rw (e, ← drop-drop (length xs) i w) both.1

pub at_get : (w : List ℕ) (i x : ℕ) (xs : List ℕ) → At w i (x ∷ xs) → get_or w i 0 ≡ x
at_get w i x xs h =
    let z : i + 0 ≡ i = omega arith in
    let f : get_or (take (length (x ∷ xs)) (drop i w)) 0 0 ≡ x = ap (λ (l : List ℕ). get_or l 0 0) h in
    sym (get_or-drop i w 0 0 ∙ ap (λ (j : ℕ). get_or w j 0) z) ∙ sym (get_or-take (length (x ∷ xs)) (drop i w) 0 0 (omega arith)) ∙ f

pub at_word : (w : List ℕ) (i : ℕ) (xs : List ℕ) (k : ℕ) → At w i xs → k < length xs → get_or w (i + k) 0 ≡ get_or xs k 0
at_word w i xs k h l = sym (get_or-drop i w k 0) ∙ sym (get_or-take (length xs) (drop i w) k 0 l) ∙ ap (λ (u : List ℕ). get_or u k 0) h

pub at_long : (w : List ℕ) (i : ℕ) (xs : List ℕ) → At w i xs → length xs ≤ length w - i
at_long w i xs h = omega (arith, ap length h, length-take (length xs) (drop i w), length-drop i w)

-- ---- a clause and its atoms
-- the first three words of a clause table from clause i on
module _ (c : List ℕ) (i first b h : ℕ) (r : List ℕ) (e : At c (clause_words * i) (first ∷ b ∷ h ∷ r)) where
  tail : At c (clause_words * i + 1) (b ∷ h ∷ r)
  tail = at_back c (clause_words * i) (first ∷ []) (b ∷ h ∷ r) e (clause_words * i + 1) refl

  pub first_is : first_atom c i ≡ first
  first_is = at_get c (clause_words * i) first (b ∷ h ∷ r) e

  pub count_is : atom_count c i ≡ b + h
  count_is = ap₂ (λ (x y : ℕ). x + y) (at_get c (clause_words * i + 1) b (h ∷ r) tail) (at_get c (clause_words * i + 2) h r (at_back c (clause_words * i + 1) (b ∷ []) (h ∷ r) tail (clause_words * i + 2) (omega arith)))

  pub rest_is : At c (clause_words * (i + 1)) r
  rest_is = at_back c (clause_words * i) (first ∷ b ∷ h ∷ []) r e (clause_words * (i + 1)) (omega arith)
