-- The loops over a run of words: what is left, one word on, and at the end. Assumes nothing.
use mathlib.Core.Path.{◌≡◌, refl}
use mathlib.Core.List.{List, [], ◌∷◌}
use Prim.Native.Nat.{ℕ, ◌+◌, ◌-◌, ◌<◌, ◌≤◌}
use lib.ListN.{get_or}
use Rattle.pool.specs.Layout.{run}
use Rattle.pool.specs.Index.{mixed, hash_by}
use Rattle.pool.specs.Tabs.{tab_next, tab_end}

module _ (w : List ℕ) where
  run_next : (i k n : ℕ) → k < n → run w (i + k) (n - k) ≡ get_or w (i + k) 0 ∷ run w (i + (k + 1)) (n - (k + 1))
  run_next = tab_next (λ j. get_or w j 0)

  run_end : (i k n : ℕ) → n ≤ k → run w (i + k) (n - k) ≡ []
  run_end = tab_end (λ j. get_or w j 0)

  module _ (i k n : ℕ) where
    pub hash_next : (h x g : ℕ) → k < n → x ≡ get_or w (i + k) 0 → g ≡ mixed h x → hash_by h (run w (i + k) (n - k)) ≡ hash_by g (run w (i + (k + 1)) (n - (k + 1)))
    unfolding hash_by
    hash_next h x g l e f = rw (run_next i k n l, ← e, f) refl

    pub hash_end : (h : ℕ) → n ≤ k → hash_by h (run w (i + k) (n - k)) ≡ h
    unfolding hash_by
    hash_end h l = rw (run_end i k n l) refl
