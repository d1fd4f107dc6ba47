-- Writes above the pool: what they leave, and that the pool stays. Assumes nothing.
use Rattle.std.specs.Prelude.{◌≡◌, refl, List, [], ◌∷◌, ◌++◌, ℕ, suc, ◌+◌, ◌<◌, ◌≤◌, length, get_or, set, take, drop}
use Rattle.std.proofs.Common.{ap, ◌∙◌, arith, length-set, get_or-set_same, get_or-set_other}
use Rattle.std.proofs.lemmas.List.Edits.{sets}
use Rattle.std.proofs.Math.Seq.{length-sets}
use Rattle.std.proofs.lemmas.List.{take-set-le}
use Rattle.words.specs.Runs.{get_d_sets_after, get_d_sets_before, get_d_sets_in, take_sets}
use Rattle.ir.specs.Scratch.{keys_at, hands_at}
use Rattle.pool.specs.Layout.{pool_words, run, pool_of}
use Rattle.pool.specs.Held.{Held}
use Rattle.pool.specs.Tabs.{tab_same, tab_snoc, run_is}
use Rattle.pool.specs.HeldLaws.{pool_kept, held_kept, word_above}
use Rattle.rebuilding.specs.States.{Kept}

-- the pool under such a write
pub record Under (w w' : List ℕ) (n m : ℕ) : Type 0 where
  pub held : Held w' n m
  pub pool : pool_of w' n ≡ pool_of w n

under : (w w' : List ℕ) (n m : ℕ) → Held w n m → take pool_words w' ≡ take pool_words w → length w' ≡ length w → Under w w' n m
under w w' n m H e l = record { held = held_kept w w' n m H e l; pool = pool_kept w w' n m H e }

module _ (w : List ℕ) (n m : ℕ) (H : Held w n m) (i : ℕ) (h : pool_words ≤ i) where
  pub under_set : (a : ℕ) → Under w (set w i a) n m
  under_set a = under w (set w i a) n m H (take-set-le pool_words w i a h) (length-set w i a)

  pub under_sets : (vs : List ℕ) → Under w (sets w i vs) n m
  under_sets vs = under w (sets w i vs) n m H (take_sets vs w i pool_words h) (length-sets w i vs)

-- ---- the other words
pub kept_refl : (i n top : ℕ) (w : List ℕ) → Kept i n top w w
kept_refl i n top w = record { before = λ j a b. refl; between = λ j a b. refl; behind = λ j a. refl }

module _ (i n top : ℕ) (w w' : List ℕ) (K : Kept i n top w w') where
  -- then a call that writes the stack from top on
  pub kept_call : i + n ≤ top → (w'' : List ℕ) → Kept top 0 top w' w'' → keys_at ≤ i → Kept i n top w w''
  kept_call h w'' C a = record {
    before = λ j l k. C.before j l (omega arith) ∙ K.before j l k;
    between = λ j l k. C.before j (omega arith) k ∙ K.between j l k;
    behind = λ j l. C.behind j l ∙ K.behind j l;
  }

  -- then one of the n words
  pub kept_set : (j a : ℕ) → i ≤ j → j < i + n → i + n ≤ hands_at → Kept i n top w (set w' j a)
  kept_set j a l h k = record {
    before = λ o x y. get_or-set_other w' j o a 0 (λ (e : o ≡ j). absurd (omega arith)) ∙ K.before o x y;
    between = λ o x y. get_or-set_other w' j o a 0 (λ (e : o ≡ j). absurd (omega arith)) ∙ K.between o x y;
    behind = λ o x. get_or-set_other w' j o a 0 (λ (e : o ≡ j). absurd (omega arith)) ∙ K.behind o x;
  }

-- what stands from top on is put there, a call writes it and what is above, and the concept is made below
pub kept_parts : (top : ℕ) (w : List ℕ) (vs : List ℕ) → keys_at ≤ top → top + length vs ≤ hands_at → (w' : List ℕ) → Kept top (length vs) (top + length vs) (sets w top vs) w'
    → (w'' : List ℕ) → drop keys_at w'' ≡ drop keys_at w' → Kept top 0 top w w''
kept_parts top w vs a h w' K w'' e = record {
  before = λ j l k. word_above keys_at w' w'' e j l ∙ K.before j l k ∙ get_d_sets_before vs w top j 0 k;
  between = λ j l k. absurd (omega arith);
  behind = λ j l. word_above keys_at w' w'' e j (omega arith) ∙ K.behind j l ∙ get_d_sets_after vs w top j 0 (omega arith);
}

-- the words that were put
pub run_sets : (w vs : List ℕ) (i : ℕ) → i + length vs ≤ length w → run (sets w i vs) i (length vs) ≡ vs
run_sets w vs i h = run_is (sets w i vs) i vs (λ j l. get_d_sets_in vs w i j 0 l h)

-- one word more of a run
pub run_next : (w w' : List ℕ) (i n a : ℕ) → ((j : ℕ) → j < n → get_or w' (i + j) 0 ≡ get_or w (i + j) 0) → i + n < length w' → run (set w' (i + n) a) i (n + 1) ≡ run w i n ++ (a ∷ [])
run_next w w' i n a h l =
    let e : n + 1 ≡ suc n = omega arith in
    let x : List ℕ = set w' (i + n) a in
    let p : run x i n ≡ run w i n = tab_same (λ j. get_or x j 0) (λ j. get_or w j 0) i i n (λ j k. get_or-set_other w' (i + n) (i + j) a 0 (λ (e : i + j ≡ i + n). absurd (omega arith)) ∙ h j k) in
    let q : get_or x (i + n) 0 ≡ a = get_or-set_same w' (i + n) a 0 l in
    ap (run x i) e ∙ tab_snoc (λ j. get_or x j 0) i n ∙ rw (p, q) refl

pub run_rest : (w w' : List ℕ) (i n a j : ℕ) → i < j → ((k : ℕ) → k < n → get_or w' (j + k) 0 ≡ get_or w (j + k) 0) → run (set w' i a) j n ≡ run w j n
run_rest w w' i n a j l h =
    tab_same (λ k. get_or (set w' i a) k 0) (λ k. get_or w k 0) j j n (λ k q. get_or-set_other w' i (j + k) a 0 (λ (e : j + k ≡ i). absurd (omega arith)) ∙ h k q)
