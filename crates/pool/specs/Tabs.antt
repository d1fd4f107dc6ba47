-- Laws of tabulated lists. Assumes nothing.
use Rattle.std.specs.Prelude.{◌≡◌, length, get_or, take, drop}
use Rattle.std.proofs.Math.Path.{refl, ap}
use Rattle.std.proofs.Common.{sym, ◌∙◌, drop-cons}
use mathlib.Core.List.{List, [], ◌∷◌, ◌++◌, map}
use Prim.{tt}
use Prim.Native.Nat.{ℕ, zero, suc, ◌+◌, ◌-◌, ◌<◌, ◌≤◌}
use native.Mathlib.Omega.{arith}
use Rattle.rules.specs.Invariants.{Each}
use Rattle.pool.specs.Layout.{tab, run}

module _ {A : Type 0} (f : ℕ → A) where
  pub length_tab : (i n : ℕ) → length (tab f i n) ≡ n
  unfolding tab
  length_tab i zero = refl
  length_tab i (suc n) = ap suc (length_tab (i + 1) n)

  pub get_d_tab : (d : A) (i n j : ℕ) → j < n → get_or (tab f i n) j d ≡ f (i + j)
  unfolding tab
  get_d_tab d i zero j h = absurd (omega arith)
  get_d_tab d i (suc n) zero h = let e : i ≡ i + 0 = omega arith in ap f e
  get_d_tab d i (suc n) (suc j) h = let e : i + 1 + j ≡ i + suc j = omega arith in get_d_tab d (i + 1) n j (omega arith) ∙ ap f e

  -- the last one
  pub tab_snoc : (i n : ℕ) → tab f i (suc n) ≡ tab f i n ++ (f (i + n) ∷ [])
  unfolding tab
  tab_snoc i zero = let e : i ≡ i + 0 = omega arith in ap (λ (j : ℕ). f j ∷ []) e
  tab_snoc i (suc n) =
      let e : i + 1 + n ≡ i + suc n = omega arith in
      ap (λ (l : List A). f i ∷ l) (tab_snoc (i + 1) n ∙ ap (λ (j : ℕ). tab f (i + 1) n ++ (f j ∷ [])) e)

  -- what is left of n after k: one and the rest, or nothing
  pub tab_next : (i k n : ℕ) → k < n → tab f (i + k) (n - k) ≡ f (i + k) ∷ tab f (i + (k + 1)) (n - (k + 1))
  unfolding tab
  tab_next i k n h =
      let e : n - k ≡ suc (n - (k + 1)) = omega arith in
      let d : i + k + 1 ≡ i + (k + 1) = omega arith in
      rw (e, d) refl

  pub drop_tab : (i n k : ℕ) → drop k (tab f i n) ≡ tab f (i + k) (n - k)
  unfolding tab
  drop_tab i n zero = let a : i + 0 ≡ i = omega arith in let b : n - 0 ≡ n = omega arith in rw (a, b) refl
  drop_tab i zero (suc k) = let b : 0 - suc k ≡ 0 = omega arith in rw b refl
  drop_tab i (suc n) (suc k) = let a : i + 1 + k ≡ i + suc k = omega arith in let b : suc n - suc k ≡ n - k = omega arith in rw (← a, b) (drop_tab (i + 1) n k)

  pub tab_end : (i k n : ℕ) → n ≤ k → tab f (i + k) (n - k) ≡ []
  unfolding tab
  tab_end i k n h = let e : n - k ≡ 0 = omega arith in rw e refl

  pub each_tab : (P : A → Type 0) (i n : ℕ) → ((j : ℕ) → j < n → P (f (i + j))) → Each P (tab f i n)
  unfolding tab
  each_tab P i zero h = tt
  each_tab P i (suc n) h = (
    let e : i + 0 ≡ i = omega arith in rw e at (h 0 (omega arith)),
    each_tab P (i + 1) n (λ j l. let e : i + suc j ≡ i + 1 + j = omega arith in rw e at (h (suc j) (omega arith))),
  )

  pub tab_each : (P : A → Type 0) (i n : ℕ) → Each P (tab f i n) → (j : ℕ) → j < n → P (f (i + j))
  unfolding tab
  tab_each P i zero h j l = absurd (omega arith)
  tab_each P i (suc n) h zero l = let e : i + 0 ≡ i = omega arith in rw e h.0
  tab_each P i (suc n) h (suc j) l = let e : i + suc j ≡ i + 1 + j = omega arith in rw e (tab_each P (i + 1) n h.1 j (omega arith))

pub tab_same : {A : Type 0} (f g : ℕ → A) (i j n : ℕ) → ((k : ℕ) → k < n → f (i + k) ≡ g (j + k)) → tab f i n ≡ tab g j n
unfolding tab
tab_same f g i j zero h = refl
tab_same f g i j (suc n) h =
    let a : i + 0 ≡ i = omega arith in
    let b : j + 0 ≡ j = omega arith in
    let q : f i ≡ g j = ap f (sym a) ∙ h 0 (omega arith) ∙ ap g b in
    let t : tab f (i + 1) n ≡ tab g (j + 1) n = tab_same f g (i + 1) (j + 1) n (λ k l.
    let c : i + 1 + k ≡ i + suc k = omega arith in
    let d : j + suc k ≡ j + 1 + k = omega arith in
    ap f c ∙ h (suc k) (omega arith) ∙ ap g d) in
    cc

-- a run in two
pub tab_append : {A : Type 0} (f : ℕ → A) (i m n : ℕ) → tab f i (m + n) ≡ tab f i m ++ tab f (i + m) n
unfolding tab
tab_append f i zero n = let e : 0 + n ≡ n = omega arith in let d : i + 0 ≡ i = omega arith in rw (e, d) refl
tab_append f i (suc m) n =
    let e : suc m + n ≡ suc (m + n) = omega arith in
    let d : i + 1 + m ≡ i + suc m = omega arith in
    rw e (ap (λ (l : List _). f i ∷ l) (tab_append f (i + 1) m n ∙ ap (λ (j : ℕ). tab f (i + 1) m ++ tab f j n) d))

pub map_tab : {A B : Type 0} (g : A → B) (f : ℕ → A) (i n : ℕ) → map g (tab f i n) ≡ tab (λ j. g (f j)) i n
unfolding tab
map_tab g f i zero = refl
map_tab g f i (suc n) = ap (λ l. g (f i) ∷ l) (map_tab g f (i + 1) n)

-- words as parts of a list
pub run_part : (w : List ℕ) (i n : ℕ) → i + n ≤ length w → run w i n ≡ take n (drop i w)
unfolding tab
run_part w i zero h = refl
run_part w i (suc n) h =
    let e : i + 1 ≡ suc i = omega arith in
    rw (drop-cons w i 0 (omega arith)) (ap (λ (l : List ℕ). get_or w i 0 ∷ l) (run_part w (i + 1) n (omega arith) ∙ ap (λ (j : ℕ). take n (drop j w)) e))

pub run_is : (w : List ℕ) (i : ℕ) (l : List ℕ) → ((j : ℕ) → j < length l → get_or w (i + j) 0 ≡ get_or l j 0) → run w i (length l) ≡ l
unfolding tab
run_is w i [] h = refl
run_is w i (a ∷ l) h =
    let z : i + 0 ≡ i = omega arith in
    let q : get_or w i 0 ≡ a = ap (λ (j : ℕ). get_or w j 0) (sym z) ∙ h 0 (omega arith) in
    let t : run w (i + 1) (length l) ≡ l = run_is w (i + 1) l (λ j k. let e : i + 1 + j ≡ i + suc j = omega arith in rw e (h (suc j) (omega arith))) in
    cc
