-- Runs of stores, `sets l i vs`: one store more at either end, what stands outside the run, and runs of bytes as runs of words. Assumes nothing.
use Rattle.std.specs.Prelude.{◌≡◌, refl, List, [], ◌∷◌, ◌++◌, ℕ, zero, suc, ◌+◌, ◌*◌, ◌%◌, ◌<◌, ◌≤◌, length, get_or, set, take, drop}
use Rattle.std.proofs.Common.{sym, ap, ◌∙◌, arith, length-append, length-set, get_or-set_same, get_or-set_other, length-take-le, drop-set-lt}
use Rattle.std.proofs.lemmas.List.Edits.{sets, sets-eq}
use Rattle.std.proofs.lemmas.List.{set_comm, take-set-le}
use Rattle.words.specs.Words.{words}
use Rattle.words.specs.Laws.{words_take, words_drop, words_append, length_words}

module _ {ℓ} {A : Type ℓ} where
  -- the last store
  pub sets_snoc : (vs l : List A) (i : ℕ) (a : A) → set (sets l i vs) (i + length vs) a ≡ sets l i (vs ++ (a ∷ []))
  sets_snoc [] l i a = let e : i + 0 ≡ i = omega arith in rw e
  sets_snoc (b ∷ vs) l i a =
      let e : i + suc (length vs) ≡ suc i + length vs = omega arith in
      rw e (sets_snoc vs (set l i b) (suc i) a)

  -- a run behind another
  pub sets_append : (us vs l : List A) (i : ℕ) → sets (sets l i us) (i + length us) vs ≡ sets l i (us ++ vs)
  sets_append [] vs l i = let e : i + 0 ≡ i = omega arith in rw e refl
  sets_append (u ∷ us) vs l i = let e : i + suc (length us) ≡ suc i + length us = omega arith in rw e (sets_append us vs (set l i u) (suc i))

  -- stores one after the other
  pub two_stores : (w w₁ w₂ : List A) (i : ℕ) (a b : A) → w₁ ≡ set w i a → w₂ ≡ set w₁ (i + 1) b → w₂ ≡ sets w i (a ∷ b ∷ [])
  two_stores w w₁ w₂ i a b e f = let x : i + 1 ≡ suc i = omega arith in f ∙ rw (e, x) refl

  pub three_stores : (w w₁ w₂ w₃ : List A) (i : ℕ) (a b c : A) → w₁ ≡ set w i a → w₂ ≡ set w₁ (i + 1) b → w₃ ≡ set w₂ (i + 2) c → w₃ ≡ sets w i (a ∷ b ∷ c ∷ [])
  three_stores w w₁ w₂ w₃ i a b c e f g =
      let x : i + 1 ≡ suc i = omega arith in
      let y : i + 2 ≡ suc (suc i) = omega arith in
      g ∙ rw (f, e, x, y) refl

  -- the first store, made last
  pub sets_cons : (vs l : List A) (i j : ℕ) (a : A) → i < j → set (sets l j vs) i a ≡ sets (set l i a) j vs
  sets_cons [] l i j a h = refl
  sets_cons (b ∷ vs) l i j a h =
      sets_cons vs (set l j b) i (suc j) a (omega arith)
      ∙ ap (λ (x : List A). sets x (suc j) vs) (set_comm l j i b a (λ (e : j ≡ i). absurd (omega arith)))

  -- in front of a run, and behind it
  pub take_sets : (vs l : List A) (i n : ℕ) → n ≤ i → take n (sets l i vs) ≡ take n l
  take_sets [] l i n h = refl
  take_sets (a ∷ vs) l i n h = take_sets vs (set l i a) (suc i) n (omega arith) ∙ take-set-le n l i a h

  pub drop_sets : (vs l : List A) (i n : ℕ) → i + length vs ≤ n → drop n (sets l i vs) ≡ drop n l
  drop_sets [] l i n h = refl
  drop_sets (a ∷ vs) l i n h = drop_sets vs (set l i a) (suc i) n (omega arith) ∙ drop-set-lt n l i a (omega arith)

  pub get_d_sets_after : (vs l : List A) (i j : ℕ) (d : A) → i + length vs ≤ j → get_or (sets l i vs) j d ≡ get_or l j d
  get_d_sets_after [] l i j d h = refl
  get_d_sets_after (a ∷ vs) l i j d h =
      get_d_sets_after vs (set l i a) (suc i) j d (omega arith) ∙ get_or-set_other l i j a d (λ (e : j ≡ i). absurd (omega arith))

  pub get_d_sets_before : (vs l : List A) (i j : ℕ) (d : A) → j < i → get_or (sets l i vs) j d ≡ get_or l j d
  get_d_sets_before [] l i j d h = refl
  get_d_sets_before (a ∷ vs) l i j d h =
      get_d_sets_before vs (set l i a) (suc i) j d (omega arith) ∙ get_or-set_other l i j a d (λ (e : j ≡ i). absurd (omega arith))

  pub get_d_sets_in : (vs l : List A) (i k : ℕ) (d : A) → k < length vs → i + length vs ≤ length l → get_or (sets l i vs) (i + k) d ≡ get_or vs k d
  get_d_sets_in [] l i k d h m = absurd (omega arith)
  get_d_sets_in (a ∷ vs) l i zero d h m =
      let e : i + 0 ≡ i = omega arith in
      rw e (get_d_sets_before vs (set l i a) (suc i) i d (omega arith) ∙ get_or-set_same l i a d (omega arith))
  get_d_sets_in (a ∷ vs) l i (suc k) d h m =
      let e : i + suc k ≡ suc i + k = omega arith in
      rw e (get_d_sets_in vs (set l i a) (suc i) k d (omega arith) (rw (length-set l i a) (omega arith)))

-- bytes that are whole words, stored from a whole word on
pub words_sets : (s run : List ℕ) (at : ℕ) → length run % 4 ≡ 0 → 4 * at + length run ≤ length s → words (sets s (4 * at) run) ≡ sets (words s) at (words run)
words_sets s run at m h =
    let l : length (take (4 * at) s) ≡ 4 * at = length-take-le (4 * at) s (omega arith) in
    let la = length-append (take (4 * at) s) run in
    let lr = length_words run in
    let ls = length_words s in
    let e : 4 * at + length run ≡ 4 * (at + length (words run)) = omega arith in
    ap words (sets-eq run s (4 * at) h)
    ∙ words_append (take (4 * at) s ++ run) (drop (4 * at + length run) s) (omega arith)
    ∙ rw (words_append (take (4 * at) s) run (omega arith), words_take at s, e, words_drop (at + length (words run)) s) (sym (sets-eq (words run) (words s) at (omega arith)))
