-- How many flags are set, and the flags before and after one of them. Assumes nothing.
use Rattle.std.specs.Prelude.{Bool, true, false, ◌≡◌, refl, List, [], ◌∷◌, ◌++◌, ℕ, zero, suc, ◌+◌, ◌-◌, ◌≤◌, ◌<◌, length, get_or, take, drop, set, replicate}
use Rattle.std.proofs.Common.{ap, ◌∙◌, arith, add-one, length-take-le, take-suc, take-suc-set, drop-cons, get_or-take, drop-set-lt}
use Rattle.std.proofs.Math.Seq.{take-nil}
use Rattle.trees.specs.Growth.{trues}

pub trues_most : (n : ℕ) (l : List Bool) → trues (take n l) ≤ n
unfolding trues
trues_most zero l = omega arith
trues_most (suc n) [] = omega arith
trues_most (suc n) (true ∷ l) = omega (arith, trues_most n l)
trues_most (suc n) (false ∷ l) = omega (arith, trues_most n l)

pub none_set : (n m : ℕ) → n ≤ m → take n (replicate m false) ≡ replicate n false
none_set zero m h = refl
none_set (suc n) zero h = absurd (omega arith)
none_set (suc n) (suc m) h = ap (λ (l : List Bool). false ∷ l) (none_set n m (omega arith))

pub trues_set : (n : ℕ) (l : List Bool) (j : ℕ) → j < n → j < length l → get_or l j false ≡ false → trues (take n (set l j true)) ≡ trues (take n l) + 1
unfolding trues
trues_set zero l j h k e = absurd (omega arith)
trues_set (suc n) [] j h k e = absurd (omega arith)
trues_set (suc n) (p ∷ l) zero h k e = rw e (omega arith)
trues_set (suc n) (p ∷ l) (suc j) h k e = omega (arith, trues_set n l j (omega arith) (omega arith) e)

-- a flag that is not set leaves room
pub trues_room : (n : ℕ) (l : List Bool) (j : ℕ) → j < n → n ≤ length l → get_or l j false ≡ false → trues (take n l) < n
trues_room n l j h k e = omega (arith, trues_set n l j h (omega arith) e, trues_most n (set l j true))

-- ---- the flags up to j, and from j on
module _ (l : List Bool) (j : ℕ) where
  pub flags_next : j < length l → take (j + 1) l ≡ take j l ++ (get_or l j false ∷ [])
  flags_next h = rw (add-one j) (take-suc l j false h)

  pub flags_set : j < length l → take (j + 1) (set l j true) ≡ take j l ++ (true ∷ [])
  flags_set h = rw (add-one j) (take-suc-set l j true h)

  pub flags_rest : drop (j + 1) (set l j true) ≡ drop (j + 1) l
  flags_rest = drop-set-lt (j + 1) l j true (omega arith)

  pub flags_from : (n : ℕ) → j < n → n ≤ length l → drop j (take n l) ≡ get_or l j false ∷ drop (j + 1) (take n l)
  flags_from n h k =
      let e : length (take n l) ≡ n = length-take-le n l k in
      rw (add-one j) (drop-cons (take n l) j false (omega arith) ∙ ap (λ (x : Bool). x ∷ drop (suc j) (take n l)) (get_or-take n l j false h))

drop_take : (n k : ℕ) (l : List Bool) → drop n (take (n + k) l) ≡ take k (drop n l)
drop_take zero k l = let z : 0 + k ≡ k = omega arith in rw z refl
drop_take (suc n) k [] = let z : suc n + k ≡ suc (n + k) = omega arith in rw (z, take-nil {A = Bool} k) refl
drop_take (suc n) k (p ∷ l) = let z : suc n + k ≡ suc (n + k) = omega arith in rw z (drop_take n k l)

-- equal from j on, also as far as n
pub flags_same : (l m : List Bool) (j n : ℕ) → j ≤ n → drop j m ≡ drop j l → drop j (take n m) ≡ drop j (take n l)
flags_same l m j n h e =
    let z : n ≡ j + (n - j) = omega arith in
    rw z (rw (drop_take j (n - j) m, drop_take j (n - j) l, e) refl)
