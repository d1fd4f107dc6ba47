-- The store's front, from its words to the store's bytes. Assumes nothing.
use Rattle.std.specs.Prelude.{◌≡◌, refl, List, [], ◌∷◌, ◌++◌, Result, Ok, Err, ℕ, zero, suc, ◌+◌, ◌*◌, ◌-◌, ◌≤◌, ◌<◌, ltb, get_or, length, take, drop, replicate}
use Rattle.std.proofs.Common.{sym, ap, ap₂, subst, ◌∙◌, append_assoc, arith, not-suc-le-zero, ltb-true, ltb-false, length-append, length-take, length-drop, length-take-le}
use Prim.{tt, Unit}
use Rattle.meaning.specs.Truth.{by_truth}
use Rattle.std.proofs.Math.ListN.{get_or-append, get_or-eq_default}
use Rattle.std.proofs.lemmas.List.{replicate-append-replicate, drop-replicate}
use Rattle.std.proofs.lemmas.List.Edits.{sets}
use Rattle.words.specs.Words.{words, bytes}
use Rattle.words.specs.Laws.{Bytes, words_zeros, words_append}
use Rattle.rules.specs.Run.{Accepted, scratch_bytes, ten_numbers, table_of}
use Rattle.tables.specs.Drawn.{padded}
use Rattle.tables.specs.DrawnLaws.{padded_put}
use Rattle.statistics.specs.declared.ClauseStats.{ClauseStats}
use Rattle.clausify.specs.Reply.{Reply}
use Rattle.clausify.specs.Reply as Replies
use Rattle.clausify.specs.Answer.{ten_of}
use Rattle.clausify.specs.TableLaws.{table_bytes_lem}
use Rattle.states.specs.Test.{Lent, verdict_words, store_table}
use Rattle.states.specs.Test as Test
use Rattle.trials.specs.Tried as Said
use Rattle.trials.specs.Tried.{told_trial}
use Rattle.trials.specs.Entry.{verdict_reply}
use Rattle.trials.specs.Tells.{Numbered, NumberedAs}
use Rattle.sets.specs.declared.verdict.Broken.{Broken}
use Rattle.sets.specs.Places.{shown_at}
use Rattle.sets.specs.Verdicts.{shown, verdict_in}
use Rattle.trials.specs.Judged.{given, tested_as}
use Rattle.trials.specs.Stored.{front_words, most_shown, Shows, front_of, ShortVerdict, Counted}

-- ---- the words of a front of zeros
pub front_zeros : (z l : List ℕ) → z ≡ replicate (length z) 0 → length z ≡ 4 * front_words → length l ≤ front_words → sets (words z) 0 l ≡ padded front_words l
unfolding padded
front_zeros z l e h k =
    let n : replicate {A = ℕ} (length z) 0 ≡ replicate {A = ℕ} (4 * front_words) 0 = ap (λ (m : ℕ). replicate m 0) h in
    ap (λ (w : List ℕ). sets w 0 l) (ap words (e ∙ n) ∙ words_zeros front_words) ∙ padded_put front_words [] l (omega arith)

-- what stands behind the ten numbers
pub front_more : (w l m : List ℕ) → w ≡ padded front_words l → length l ≡ 10 → length m ≤ 131 → sets w 10 m ≡ padded front_words (l ++ m)
front_more w l m e h k = ap₂ (λ (x : List ℕ) (i : ℕ). sets x i m) e (sym h) ∙ padded_put front_words l m (omega arith)

pub front_holds : (l : List ℕ) → length l ≡ 10 → padded front_words l ≡ padded front_words (l ++ (0 ∷ 0 ∷ []))
unfolding padded
front_holds l h =
    let e : 141 - length (l ++ (0 ∷ 0 ∷ [])) ≡ 129 = omega (arith, length-append l (0 ∷ 0 ∷ [])) in
    let f : 141 - length l ≡ suc (suc 129) = omega arith in
    ap (λ (k : ℕ). l ++ replicate k 0) f ∙ sym (append_assoc l (0 ∷ 0 ∷ []) (replicate 129 0)) ∙ ap (λ (k : ℕ). (l ++ (0 ∷ 0 ∷ [])) ++ replicate k 0) (sym e)

-- ---- what is shown
pub shown_long : (w : List ℕ) (k : ℕ) → k ≤ most_shown → scratch_bytes ≤ 4 * length w → length (shown w k) ≡ k
shown_long w k h l = length-take-le k (drop shown_at w) (omega (arith, length-drop shown_at w))

pub front_broken : (w f l : List ℕ) (b : Broken) → f ≡ padded front_words l → length l ≡ 10 → b.shown ≤ most_shown → scratch_bytes ≤ 4 * length w
    → sets f 10 (b.at ∷ b.shown ∷ shown w b.shown) ≡ padded front_words (l ++ verdict_words (verdict_in w (Err b)))
front_broken w f l b e h j long =
    let s = shown_long w b.shown j long in
    front_more f l (b.at ∷ b.shown ∷ shown w b.shown) e h (omega (arith, s)) ∙ ap (λ (m : ℕ). padded front_words (l ++ (b.at ∷ m ∷ shown w b.shown))) (sym s)

pub front_short : (w : List ℕ) (x : Result (Unit {0}) Broken) → Shows x → scratch_bytes ≤ 4 * length w → length (verdict_words (verdict_in w x)) ≤ 131
front_short w (Ok _) h l = omega arith
front_short w (Err b) h l = omega (arith, shown_long w b.shown h l)

-- (what is short has so many elements as it says)
pub shows_short : (w : List ℕ) (x : Result (Unit {0}) Broken) → ShortVerdict (verdict_in w x) → scratch_bytes ≤ 4 * length w → Shows x
shows_short w (Ok _) h l = tt
shows_short w (Err v) h l =
    let a = length-take v.shown (drop shown_at w) in
    let b = length-drop shown_at w in
    omega (arith, h, a, b, l)

-- a verdict told
pub told_verdict : (w : List ℕ) (x : Result (Unit {0}) Broken) → Shows x → scratch_bytes ≤ 4 * length w → told_trial (Ok x) ≡ verdict_reply (verdict_in w x)
told_verdict w (Ok _) h l = refl
told_verdict w (Err b) h l = ap (λ (k : ℕ). Said.Broken b.at k) (sym (shown_long w b.shown h l))

-- ---- the store's bytes
pub bytes_first : (f g : List ℕ) → Bytes (f ++ g) → Bytes f
bytes_first f g b k = by_truth (ltb k (length f))
    (λ e. let h = ltb-true k (length f) e in subst (λ (x : ℕ). x < 256) (get_or-append f g 0 k h) (b k))
    (λ e. let h = ltb-false k (length f) e in subst (λ (x : ℕ). x < 256) (sym (get_or-eq_default f 0 h)) (omega arith))

pub front_of_zeros : (z : List ℕ) (n : ℕ) → z ≡ replicate n 0 → 4 * front_words ≤ n → take (4 * front_words) z ≡ replicate (4 * front_words) 0
front_of_zeros z n e h = ap (take 564) e ∙ take_zeros 564 n h
  where
    take_zeros : (k n : ℕ) → k ≤ n → take k (replicate {A = ℕ} n 0) ≡ replicate {A = ℕ} k 0
    take_zeros zero n h = refl
    take_zeros (suc k) zero h = absurd (not-suc-le-zero h)
    take_zeros (suc k) (suc n) h = ap (λ (l : List ℕ). 0 ∷ l) (take_zeros k n (omega arith))

pub store_front : (z f ws : List ℕ) (n : ℕ) → z ≡ replicate n 0 → 4 * front_words ≤ n → length f ≡ 4 * front_words → Bytes f → words f ≡ padded front_words ws → length ws ≤ front_words
    → f ++ drop (4 * front_words) z ≡ table_of n ws
unfolding table_of
store_front z f ws n y h l b e k =
    let d : drop 564 z ≡ replicate {A = ℕ} (n - 564) 0 = ap (drop 564) y ∙ drop-replicate {X = ℕ} 564 n 0 in
    let t : f ≡ bytes ws ++ replicate (564 - 4 * length ws) 0 = table_bytes_lem f ws front_words b l e ∙ ap (λ (m : ℕ). bytes ws ++ replicate (m - 4 * length ws) 0) l in
    let q : (564 - 4 * length ws) + (n - 564) ≡ n - 4 * length ws = omega arith in
    ap₂ (λ (x y : List ℕ). x ++ y) t d
    ∙ append_assoc (bytes ws) (replicate (564 - 4 * length ws) 0) (replicate (n - 564) 0)
    ∙ ap (λ (y : List ℕ). bytes ws ++ y) (replicate-append-replicate (564 - 4 * length ws) (n - 564) 0 ∙ ap (λ (m : ℕ). replicate m 0) q)

-- ---- the run's numbers
ten_reply : Reply → List ℕ
ten_reply (Replies.Accepted s fresh_ids visits) = ten_of s fresh_ids visits
ten_reply (Replies.Refused n line) = []

pub ten_counted : (a : Accepted) (s : ClauseStats) (fresh_ids visits : ℕ) → Counted a s fresh_ids visits → ten_of s fresh_ids visits ≡ ten_numbers a
unfolding ten_reply
ten_counted a s fresh_ids visits e = sym (ap ten_reply e)

-- ---- the store of a verdict, by the run's numbers
pub store_told : (a : Accepted) (t : Lent) (s : ClauseStats) (fresh_ids visits : ℕ) (w z f : List ℕ) (x : Result (Unit {0}) Broken) → Counted a s fresh_ids visits → z ≡ replicate t.store 0 → 4 * front_words ≤ t.store
    → length f ≡ 4 * front_words → Bytes f → words f ≡ padded front_words (front_of w s fresh_ids visits x) → Shows x → scratch_bytes ≤ 4 * length w
    → f ++ drop (4 * front_words) z ≡ store_table t (tested_as a (given (verdict_in w x)))
store_told a t s fresh_ids visits w z f x c y h l b e k j =
    let m = length-append (ten_of s fresh_ids visits) (verdict_words (verdict_in w x)) in
    store_front z f (front_of w s fresh_ids visits x) t.store y h l b e (omega (arith, m, front_short w x k j))
    ∙ ap (λ (q : List ℕ). table_of t.store (q ++ verdict_words (verdict_in w x))) (ten_counted a s fresh_ids visits c)

-- ---- the numbers in the store's front
pub front_numbers : (f g m : List ℕ) (s : ClauseStats) (fresh_ids visits : ℕ) → length f ≡ 4 * front_words → words f ≡ padded front_words (ten_of s fresh_ids visits ++ m) → Numbered (words (f ++ g)) s fresh_ids
unfolding padded
front_numbers f g m s fresh_ids visits l e =
    let q : words (f ++ g) ≡ _ = words_append f g (omega arith) ∙ ap (λ (w : List ℕ). w ++ words g) e in
    record { total = ap (λ (w : List ℕ). get_or w 0 0) q; fresh = ap (λ (w : List ℕ). get_or w 8 0) q; deferred = ap (λ (w : List ℕ). get_or w 5 0) q }

pub numbered_reply : (w : List ℕ) (s : ClauseStats) (fresh_ids : ℕ) (v : Test.Verdict) → Numbered w s fresh_ids → NumberedAs w s fresh_ids (verdict_reply v)
numbered_reply w s fresh_ids Test.holds N = N
numbered_reply w s fresh_ids (Test.broken n l) N = N
