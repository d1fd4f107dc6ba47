-- Records, then zeros. Assumes nothing.
use Rattle.std.specs.Prelude.{◌≡◌, take}
use Rattle.std.proofs.Math.Path.{sym, ap, ap₂}
use Rattle.std.proofs.Common.{◌∙◌, take-append-drop, drop_at, drop-drop}
use mathlib.Core.List.{List, ◌++◌, append_assoc}
use Prim.Native.Nat.{ℕ, ◌+◌, ◌-◌, ◌≤◌}
use native.Mathlib.Omega.{arith}
use Rattle.std.proofs.Math.ListN.{length, drop, replicate, length-append, length-replicate}
use Rattle.std.proofs.lemmas.List.{replicate-append-replicate, drop-replicate}
use Rattle.std.proofs.Math.Seq.{sets, sets-eq}
use Rattle.words.specs.Runs.{sets_append}
use Rattle.tables.specs.Drawn.{padded}

pub padded_rest : (n p : ℕ) (x : List ℕ) → length x ≡ p → drop p (padded n x) ≡ replicate (n - p) 0
unfolding padded
padded_rest n p x e = drop_at x (replicate (n - length x) 0) p e ∙ ap (λ (j : ℕ). replicate (n - j) 0) e

pub padded_is : (w x : List ℕ) (n p : ℕ) → length x ≡ p → take p w ≡ x → drop p w ≡ replicate (n - p) 0 → w ≡ padded n x
unfolding padded
padded_is w x n p e f g =
    sym (take-append-drop p w) ∙ ap₂ (λ (u v : List ℕ). u ++ v) f (g ∙ ap (λ (j : ℕ). replicate (n - j) 0) (sym e))

-- y behind x, over other words and into the zeros, which begin at q
module _ (w x : List ℕ) (n p q : ℕ) (long : length w ≡ n) (front : length x ≡ p) (is : take p w ≡ x) (zeros : drop q w ≡ replicate (n - q) 0) where
  pub padded_over : (y : List ℕ) → p + length y ≤ n → q ≤ p + length y → sets w p y ≡ padded n (x ++ y)
  unfolding padded
  padded_over y h k =
      let e : ℕ = p + length y in
      let f : q + (e - q) ≡ e = omega arith in
      let g : n - q - (e - q) ≡ n - length (x ++ y) = omega (arith, length-append x y) in
      let d : drop e w ≡ replicate (n - length (x ++ y)) 0 =
      ap (λ (j : ℕ). drop j w) (sym f) ∙ sym (drop-drop (e - q) q w) ∙ ap (drop (e - q)) zeros ∙ drop-replicate {X = ℕ} (e - q) (n - q) 0 ∙ ap (λ (j : ℕ). replicate j 0) g in
      sets-eq y w p (omega arith) ∙ ap₂ (λ (u v : List ℕ). u ++ y ++ v) is d

  -- y ends before them
  pub padded_cleared : (y : List ℕ) (e m : ℕ) → e ≡ p + length y → m + e ≡ q → q ≤ n → sets (sets w p y) e (replicate m 0) ≡ padded n (x ++ y)
  unfolding padded
  padded_cleared y e m ee em h =
      let z : List ℕ = replicate m 0 in
      let lz : length z ≡ m = length-replicate {0} {A = ℕ} m 0 in
      let ly = length-append y z in
      let lx = length-append x y in
      let lt = length-append x (y ++ z) in
      let f : m + (n - length (x ++ (y ++ z))) ≡ n - length (x ++ y) = omega arith in
      ap (λ (j : ℕ). sets (sets w p y) j z) ee ∙ sets_append y z w p
      ∙ padded_over (y ++ z) (omega arith) (omega arith)
      ∙ ap (λ (u : List ℕ). u ++ replicate (n - length (x ++ (y ++ z))) 0) (sym (append_assoc x y z))
      ∙ append_assoc (x ++ y) z (replicate (n - length (x ++ (y ++ z))) 0)
      ∙ ap (λ (u : List ℕ). (x ++ y) ++ u) (replicate-append-replicate {0} {A = ℕ} m (n - length (x ++ (y ++ z))) 0 ∙ ap (λ (j : ℕ). replicate j 0) f)
