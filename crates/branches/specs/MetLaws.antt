-- A run of words, the places of variables in a list, and one variable more. Assumes nothing.
use Rattle.std.specs.Prelude.{Bool, true, false, ◌||◌, ◌≡◌, List, [], ◌∷◌, ◌++◌, ℕ, suc, ◌+◌, ◌≤◌, ◌<◌, length, get_or, drop, set, eqb}
use Rattle.std.proofs.Math.Path.{refl}
use Rattle.std.proofs.Common.{sym, ap, ◌∙◌, arith, add-one, length-drop, length-set, drop_of_length-le, length-take-le, drop-cons, get_or-take, get_or-drop, take-suc-set, drop-set-lt}
use Rattle.std.proofs.lemmas.List.{take-set-le, drop-set-add}
use Rattle.ir.specs.Pick.{pick}
use Rattle.rules.specs.Base.{contains}
use Rattle.rules.specs.Branches.{place_in, place_of, met_with}
use Rattle.rules.specs.DeckLaws.{same_eqb}
use Rattle.branches.specs.Renumbered.{run, Met}

-- ---- the first n words from m on, at i
module _ (w : List ℕ) (m n i : ℕ) (long : m + n ≤ length w) where
  pub run_long : length (run w m n) ≡ n
  run_long = length-take-le n (drop m w) (omega (arith, length-drop m w))

  pub run_from : i < n → drop i (run w m n) ≡ get_or w (m + i) 0 ∷ drop (i + 1) (run w m n)
  run_from h =
      rw (add-one i) (drop-cons (run w m n) i 0 (omega (arith, run_long)) ∙ ap (λ (x : ℕ). x ∷ drop (suc i) (run w m n)) (get_or-take n (drop m w) i 0 h ∙ get_or-drop m w i 0))

  pub run_out : n ≤ i → drop i (run w m n) ≡ []
  run_out h = drop_of_length-le (run w m n) {i = i} (omega (arith, run_long))

-- ---- places
pub place_in_lem : (met : List ℕ) (v : ℕ) → contains met v ≡ true → place_of met v < length met
unfolding place_of
place_in_lem [] v e = absurd (let z : ◌≡◌ {A = ℕ} 0 1 = ap (λ (t : Bool). pick t 1 0) e in omega arith)
place_in_lem (u ∷ met) v e = rw (same_eqb u v) (go (eqb v u) e (place_in_lem met v))
  where
    go : (b : Bool) → (b || contains met v) ≡ true → (contains met v ≡ true → place_of met v < length met) → place_in b (place_of met v) < suc (length met)
    go true h f = omega arith
    go false h f = let k = f h in omega arith

pub place_out : (met : List ℕ) (v : ℕ) → contains met v ≡ false → place_of met v ≡ length met
unfolding place_of
place_out [] v e = refl
place_out (u ∷ met) v e = rw (same_eqb u v) (go (eqb v u) e (place_out met v))
  where
    go : (b : Bool) → (b || contains met v) ≡ false → (contains met v ≡ false → place_of met v ≡ length met) → place_in b (place_of met v) ≡ suc (length met)
    go true h f = absurd (let z : ◌≡◌ {A = ℕ} 0 1 = ap (λ (t : Bool). pick t 0 1) h in omega arith)
    go false h f = let k = f h in omega arith

-- the same place in a longer list
place_more : (met l : List ℕ) (v : ℕ) → contains met v ≡ true → place_of (met ++ l) v ≡ place_of met v
unfolding place_of
place_more [] l v e = absurd (let z : ◌≡◌ {A = ℕ} 0 1 = ap (λ (t : Bool). pick t 1 0) e in omega arith)
place_more (u ∷ met) l v e = rw (same_eqb u v) (go (eqb v u) e (place_more met l v))
  where
    go : (b : Bool) → (b || contains met v) ≡ true → (contains met v ≡ true → place_of (met ++ l) v ≡ place_of met v) → place_in b (place_of (met ++ l) v) ≡ place_in b (place_of met v)
    go true h f = refl
    go false h f = ap suc (f h)

-- after v is met, who was there is at the same place
pub place_kept : (met : List ℕ) (u v : ℕ) → contains met u ≡ true → place_of (met_with met v) u ≡ place_of met u
place_kept met u v e = go (contains met v)
  where
    go : (b : Bool) → place_of (pick b met (met ++ (v ∷ []))) u ≡ place_of met u
    go true = refl
    go false = place_more met (v ∷ []) u e

-- ---- one variable more
-- a word at or behind the end of a run, and at it
pub run_set : (w : List ℕ) (m n k x : ℕ) → n ≤ k → run (set w (m + k) x) m n ≡ run w m n
run_set w m n k x h = rw (drop-set-add m w k x) (take-set-le n (drop m w) k x h)

pub run_more : (w : List ℕ) (m n x : ℕ) → m + n < length w → run (set w (m + n) x) m (n + 1) ≡ run w m n ++ (x ∷ [])
run_more w m n x h = rw (drop-set-add m w n x, add-one n) (take-suc-set (drop m w) n x (omega (arith, length-drop m w)))

module _ (m k : ℕ) (w : List ℕ) (n v : ℕ) (long : m + n < length w) (few : m + n < k) where
  many : length (run w m n) ≡ n
  many = run_long w m n 0 (omega arith)

  pub meet_new : (w' : List ℕ) → contains (run w m n) v ≡ false → w' ≡ set w (m + n) v → Met m k w n v w' (n + 1)
  meet_new w' h f = record {
    vars = rw (f, h) (run_more w m n v (omega arith));
    few = omega arith;
    long = rw f (length-set w (m + n) v);
    before = rw f (take-set-le m w (m + n) v (omega arith));
    behind = rw f (drop-set-lt k w (m + n) v (omega arith));
  }

  pub meet_last : contains (run w m n) v ≡ false → n ≡ place_of (run w m n) v
  meet_last h = sym (place_out (run w m n) v h ∙ many)
