-- Runs of words compared, word by word, or as bytes. Assumes nothing.
use Rattle.std.specs.Prelude.{◌≡◌, refl, Bool, true, false, ◌&&◌, List, ℕ, ◌+◌, ◌*◌, ◌<◌, ◌≤◌, eqb, ltb, length, get_or, take, drop, bytes_eq}
use Rattle.std.proofs.Common.{sym, subst, ap, ap₂, ◌∙◌, arith, ltb-true, ltb-false, get_or-take, get_or-drop, length-drop, length-take-le, Decides}
use Rattle.std.specs.Bool.{MatchBool}
use Rattle.std.specs.List.{range_with_len, AllWithin, HoldsAt}
use Rattle.std.proofs.lemmas.Bool.{false≢true}
use Rattle.std.proofs.lemmas.Grind.{same_number_lists}
use Rattle.std.proofs.lemmas.List.FromFn.{length-range_with_len, get_or-range_with_len}
use Rattle.std.proofs.Math.ListN.{length-take, get_or-eq_default}
use Rattle.std.proofs.lemmas.Bool.Decides.{same_from_decides}
use Rattle.std.proofs.lemmas.Slice.Eq.{bytes_eq-Decides, compares_Decides}
use Rattle.words.specs.Words.{words}
use Rattle.words.specs.Laws.{Bytes, words_take, words_drop, words_inj}
use Rattle.ir.specs.Pick.{pick}
use Rattle.ir.specs.Records.{same_words}

pub words_decide : (xs ys : List ℕ) → Decides (same_words xs ys) (xs ≡ ys)
words_decide = compares_Decides same_words (record {
  empty = refl;
  shorter = λ y ys. refl;
  longer = λ x xs. refl;
  heads = λ x y xs ys. pick_and (eqb x y) (same_words xs ys);
})
  where
    pick_and : (a b : Bool) → pick a b false ≡ (a && b)
    pick_and true b = refl
    pick_and false b = refl

-- n words of v from place i on, and of w from place j on
module _ (v w : List ℕ) (i j : ℕ) where
  abbrev pub Agree : ℕ → Type 0
  Agree k = get_or v (i + k) 0 ≡ get_or w (j + k) 0

  abbrev pub Differ : ℕ → Type 0
  Differ k = Agree k → ⊥

  pub same_by_places : (n : ℕ) → i + n ≤ length v → j + n ≤ length w → (b : Bool)
      → MatchBool b (AllWithin Agree (range_with_len 0 n) 0 (length (range_with_len 0 n))) ((k : ℕ) × (k < length (range_with_len 0 n)) × HoldsAt Differ (range_with_len 0 n) k)
      → b ≡ same_words (take n (drop i v)) (take n (drop j w))
  same_by_places n fit_v fit_w b m = same_from_decides b (same_words xs ys) (decided b m) (words_decide xs ys)
    where
      xs : List ℕ
      xs = take n (drop i v)

      ys : List ℕ
      ys = take n (drop j w)

      long_x : length xs ≡ n
      long_x = length-take-le n (drop i v) (omega (arith, length-drop i v))

      long_y : length ys ≡ n
      long_y = length-take-le n (drop j w) (omega (arith, length-drop j w))

      at_x : (k : ℕ) → k < n → get_or xs k 0 ≡ get_or v (i + k) 0
      at_x k h = get_or-take n (drop i v) k 0 h ∙ get_or-drop i v k 0

      at_y : (k : ℕ) → k < n → get_or ys k 0 ≡ get_or w (j + k) 0
      at_y k h = get_or-take n (drop j w) k 0 h ∙ get_or-drop j w k 0

      nth : (k : ℕ) → k < n → get_or (range_with_len 0 n) k 0 ≡ k
      nth k l = let z : 0 + k ≡ k = omega arith in get_or-range_with_len 0 n k 0 l ∙ z

      decided : (b : Bool) → MatchBool b (AllWithin Agree (range_with_len 0 n) 0 (length (range_with_len 0 n))) ((k : ℕ) × (k < length (range_with_len 0 n)) × HoldsAt Differ (range_with_len 0 n) k) → Decides b (xs ≡ ys)
      decided true f =
          ((λ t. same_number_lists xs ys (long_x ∙ sym long_y) (λ k l. let q : k < n = omega (arith, long_x, l) in at_x k q ∙ subst Agree (nth k q) (f k 0 (omega arith) (rw (length-range_with_len 0 n) q)) ∙ sym (at_y k q))), (λ e. refl))
      decided false p =
          let q : p.0 < n = rw (length-range_with_len 0 n) at p.1 in
          let differ : Differ p.0 = subst Differ (nth p.0 q) (p.2 0) in
          ((λ t. absurd (false≢true t)), (λ e. absurd (differ (sym (at_x p.0 q) ∙ ap (λ (l : List ℕ). get_or l p.0 0) e ∙ at_y p.0 q))))

bytes_part : (s : List ℕ) (p n : ℕ) → Bytes s → Bytes (take n (drop p s))
bytes_part s p n B k = by (ltb k n) refl
  where
    by : (b : Bool) → ltb k n ≡ b → get_or (take n (drop p s)) k 0 < 256
    by true e = rw (get_or-take n (drop p s) k 0 (ltb-true k n e), get_or-drop p s k 0) (B (p + k))
    by false e = rw (get_or-eq_default (take n (drop p s)) 0 {n = k} (omega (arith, ltb-false k n e, length-take n (drop p s)))) (omega arith)

module _ (s t : List ℕ) (S : Bytes s) (T : Bytes t) (i j n : ℕ) (fit_s : 4 * (i + n) ≤ length s) (fit_t : 4 * (j + n) ≤ length t) where
  pub bytes_same : (r : Bool) → r ≡ bytes_eq (take (4 * n) (drop (4 * i) s)) (take (4 * n) (drop (4 * j) t)) → r ≡ same_words (take n (drop i (words s))) (take n (drop j (words t)))
  bytes_same r e =
      let a : List ℕ = take (4 * n) (drop (4 * i) s) in
      let b : List ℕ = take (4 * n) (drop (4 * j) t) in
      let la : length a ≡ 4 * n = length-take-le (4 * n) (drop (4 * i) s) (omega (arith, length-drop (4 * i) s)) in
      let lb : length b ≡ 4 * n = length-take-le (4 * n) (drop (4 * j) t) (omega (arith, length-drop (4 * j) t)) in
      let wa : words a ≡ take n (drop i (words s)) = words_take n (drop (4 * i) s) ∙ ap (take n) (words_drop i s) in
      let wb : words b ≡ take n (drop j (words t)) = words_take n (drop (4 * j) t) ∙ ap (take n) (words_drop j t) in
      let d = bytes_eq-Decides a b in
      let w = words_decide (words a) (words b) in
      let back : words a ≡ words b → a ≡ b = words_inj a b (la ∙ sym lb) (omega arith) (bytes_part s (4 * i) (4 * n) S) (bytes_part t (4 * j) (4 * n) T) in
      e ∙ same_from_decides (bytes_eq a b) (same_words (words a) (words b)) d ((λ h. back (w.0 h)), λ h. w.1 (ap words h)) ∙ ap₂ same_words wa wb
