-- What a good line is. Assumes nothing.
use mathlib.Core.Path.{◌≡◌}
use mathlib.Core.Bool.{true, false, ◌&&◌, ◌||◌, false≢true}
use mathlib.Core.List.{List, [], ◌∷◌}
use Prim.Native.Nat.{ℕ, ◌+◌, ◌*◌, ◌<◌, ◌≤◌}
use native.Mathlib.Omega.{arith}
use borrow.Author.Tests.{eqb-true, eqb-false, eq-eqb, ne_eqb, ltb-true, leb-true}
use lib.Dec.{eqb, ltb, leb}
use lib.ListN.{length, get_or, drop, length-drop}
use Rattle.rules.specs.Base.{all}
use Rattle.rules.specs.Deck.{Known, rising}
use Rattle.meaning.specs.Truth.{by_truth, and_left, and_right}
use Rattle.states.specs.State.{rising_pairs, takes_class, rest_ok, follows_ok, line_ok}
use Rattle.states.specs.LineLaws.{Onward, line_onward}
use Rattle.layouts.specs.Lines.{before}

-- ---- a good line is short
-- elements that rise
few_rising : (n x : ℕ) (l : List ℕ) → rising (x ∷ l) ≡ true → all (λ e. ltb e n) (x ∷ l) ≡ true → x + length l < n
unfolding rising
few_rising n x [] h b = let q = ltb-true x n (and_left (ltb x n) true b) in omega arith
few_rising n x (y ∷ l) h b =
    let u = ltb-true x y (and_left (ltb x y) (rising (y ∷ l)) h) in
    let q = few_rising n y l (and_right (ltb x y) (rising (y ∷ l)) h) (and_right (ltb x n) (all (λ e. ltb e n) (y ∷ l)) b) in
    omega arith

rising_few : (n : ℕ) (l : List ℕ) → rising l ≡ true → all (λ e. ltb e n) l ≡ true → length l ≤ n
rising_few n [] h b = omega arith
rising_few n (x ∷ l) h b = let q = few_rising n x l h b in omega arith

-- pairs that rise
above : (a b c d : ℕ) → (ltb a c || (eqb a c && ltb b d)) ≡ true → b < 64 → 64 * a + b < 64 * c + d
above a b c d h s = by_truth (ltb a c) (λ e. let q = ltb-true a c e in omega arith)
    (λ e.
    let u : (eqb a c && ltb b d) ≡ true = rw e at h in
    let p = eqb-true a c (and_left (eqb a c) (ltb b d) u) in
    let q = ltb-true b d (and_right (eqb a c) (ltb b d) u) in
    omega arith)

few_pairs : (n a b : ℕ) (l : List ℕ) → n ≤ 64 → rising_pairs (a ∷ b ∷ l) ≡ true → all (λ e. ltb e n) (a ∷ b ∷ l) ≡ true → 2 * (64 * a + b) + length l ≤ 8190
unfolding rising_pairs
few_pairs n a b [] s h m =
    let p = ltb-true a n (and_left (ltb a n) (ltb b n && true) m) in
    let q = ltb-true b n (and_left (ltb b n) true (and_right (ltb a n) (ltb b n && true) m)) in
    omega arith
few_pairs n a b (c ∷ []) s h m = absurd (false≢true h)
few_pairs n a b (c ∷ d ∷ l) s h m =
    let t = ltb a c || (eqb a c && ltb b d) in
    let rest = and_right (ltb b n) (all (λ e. ltb e n) (c ∷ d ∷ l)) (and_right (ltb a n) (all (λ e. ltb e n) (b ∷ c ∷ d ∷ l)) m) in
    let q = ltb-true b n (and_left (ltb b n) (all (λ e. ltb e n) (c ∷ d ∷ l)) (and_right (ltb a n) (all (λ e. ltb e n) (b ∷ c ∷ d ∷ l)) m)) in
    let u = above a b c d (and_left t (rising_pairs (c ∷ d ∷ l)) h) (omega arith) in
    let g = few_pairs n c d l s (and_right t (rising_pairs (c ∷ d ∷ l)) h) rest in
    omega arith

pairs_few : (n : ℕ) (l : List ℕ) → n ≤ 64 → rising_pairs l ≡ true → all (λ e. ltb e n) l ≡ true → length l ≤ 8192
unfolding rising_pairs
pairs_few n [] s h m = omega arith
pairs_few n (a ∷ []) s h m = absurd (false≢true h)
pairs_few n (a ∷ b ∷ l) s h m = let q = few_pairs n a b l s h m in omega arith

-- ---- the parts of the test
pub record Fine (d : Known) (fresh kind id size : ℕ) (r : List ℕ) : Type 0 where
  pub two : 2 ≤ length r
  pub onward : Onward d fresh (before kind id size) (get_or r 0 0) (get_or r 1 0)
  pub below : all (λ e. ltb e size) (drop 2 r) ≡ true
  pub single : get_or r 0 0 ≡ 53 → length (drop 2 r) ≡ 1
  pub short : size ≤ 64 → length (drop 2 r) ≤ 8192

module _ (d : Known) (fresh kind id size : ℕ) (r : List ℕ) (h : line_ok d fresh (before kind id size) r ≡ true) where
  abbrev k : ℕ
  k = get_or r 0 0

  abbrev i : ℕ
  i = get_or r 1 0

  abbrev l : List ℕ
  l = drop 2 r

  begun : (leb 2 (length r) && follows_ok (before kind id size) k i && all (λ e. ltb e size) l) ≡ true
  begun = and_left (leb 2 (length r) && follows_ok (before kind id size) k i && all (λ e. ltb e size) l) (rest_ok d fresh k i l) h

  rest : rest_ok d fresh k i l ≡ true
  rest = and_right (leb 2 (length r) && follows_ok (before kind id size) k i && all (λ e. ltb e size) l) (rest_ok d fresh k i l) h

  elements : all (λ e. ltb e size) l ≡ true
  elements = and_right (leb 2 (length r) && follows_ok (before kind id size) k i) (all (λ e. ltb e size) l) begun

  of_class : k ≡ 51 → (takes_class d fresh i && rising l) ≡ true
  of_class e = rw (eq-eqb k 51 e) at rest

  of_role : k ≡ 52 → (ltb i d.header.roles && rising_pairs l) ≡ true
  of_role e = rw (ne_eqb k 51 (λ q. omega arith), eq-eqb k 52 e) at rest

  of_single : (k ≡ 51 → ⊥) → (k ≡ 52 → ⊥) → (ltb i d.header.individuals && eqb (length l) 1) ≡ true
  of_single e f = rw (ne_eqb k 51 e, ne_eqb k 52 f) at rest

  one_element : (k ≡ 51 → ⊥) → (k ≡ 52 → ⊥) → length l ≡ 1
  one_element e f = eqb-true (length l) 1 (and_right (ltb i d.header.individuals) (eqb (length l) 1) (of_single e f))

  pub line_fine : Fine d fresh kind id size r
  line_fine = record {
    two = leb-true 2 (length r) (and_left (leb 2 (length r)) (follows_ok (before kind id size) k i) (and_left (leb 2 (length r) && follows_ok (before kind id size) k i) (all (λ e. ltb e size) l) begun));
    onward = line_onward d fresh (before kind id size) r h;
    below = elements;
    single = λ e. one_element (λ q. omega arith) (λ q. omega arith);
    short = λ s. by_truth (eqb k 51)
        (λ e. let q = rising_few size l (and_right (takes_class d fresh i) (rising l) (of_class (eqb-true k 51 e))) elements in omega (arith, q, s))
        (λ e. by_truth (eqb k 52)
        (λ f. pairs_few size l s (and_right (ltb i d.header.roles) (rising_pairs l) (of_role (eqb-true k 52 f))) elements)
        (λ f. let q = one_element (eqb-false k 51 e) (eqb-false k 52 f) in omega (arith, q)));
  }

-- a longer one is bad
pub long_bad : (d : Known) (fresh kind id size : ℕ) (r : List ℕ) → size ≤ 64 → 40960 < length r → line_ok d fresh (before kind id size) r ≡ false
long_bad d fresh kind id size r s h = by_truth (line_ok d fresh (before kind id size) r)
    (λ e. let F = line_fine d fresh kind id size r e in let q = F.short s in let n = length-drop 2 r in absurd (omega (arith, q, n)))
    (λ e. e)
