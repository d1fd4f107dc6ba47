-- More of sets as numbers: what differs, what one lacks of another, one element more, the whole set, the least element. Assumes
-- nothing.
use Rattle.std.specs.Prelude.{◌≡◌, refl, Bool, true, false, not, ◌&&◌, ◌||◌, List, [], ◌∷◌, ℕ, zero, suc, ◌+◌, ◌*◌, ◌-◌, ◌/◌, ◌%◌, ◌^◌, ◌<◌, ◌≤◌, eqb}
use Rattle.std.proofs.Common.{sym, ap, ◌∙◌, arith, not-suc-le-zero, pow-suc, mul_comm, eq-eqb, ne_eqb, eqb-true}
use Rattle.std.proofs.lemmas.Bool.{false≢true, eqb-false}
use Rattle.std.proofs.Math.Option.{Option, none, some}
use Rattle.std.proofs.Math.Nat.{div-div-eq-div-mul}
use Rattle.std.specs.Int.Bits.{bit_or, bit_xor, differ, xor_step}
use Rattle.std.specs.Int.Count.{count_trailing_zeros, under}
use Rattle.ir.specs.Pick.{pick}
use Rattle.rules.specs.Base.{all}
use Rattle.rules.specs.Semantics.{one, same_truth}
use Rattle.meaning.specs.Truth.{by_truth}
use Rattle.states.specs.Conditions.{rises, behind, least_of}
use Rattle.states.specs.Masks.{mask_of, mask_or, mask_none, half, low}
use Rattle.states.specs.ChainLaws.{first_where, first_where_lem, first_same}

-- ---- the same elements
pub mask_same : (n : ℕ) (f g : ℕ → Bool) → ((x : ℕ) → x < n → f x ≡ g x) → mask_of n f ≡ mask_of n g
unfolding mask_of
mask_same zero f g h = refl
mask_same (suc n) f g h = rw (h 0 (omega arith), mask_same n (λ x. f (suc x)) (λ x. g (suc x)) (λ x k. h (suc x) (omega arith))) refl

-- ---- digit by digit
differ_low : (a b : Bool) → differ (one a) (one b) ≡ one (not (same_truth a b))
differ_low true true = refl
differ_low true false = refl
differ_low false true = refl
differ_low false false = refl

-- in one set and not in the other
pub mask_differ : (n : ℕ) (f g : ℕ → Bool) → bit_xor (mask_of n f) (mask_of n g) ≡ mask_of n (λ x. not (same_truth (f x) (g x)))
unfolding mask_of
mask_differ zero f g = refl
mask_differ (suc n) f g =
    let F = mask_of n (λ x. f (suc x)) in
    let G = mask_of n (λ x. g (suc x)) in
    let H = mask_of n (λ x. not (same_truth (f (suc x)) (g (suc x)))) in
    let e : bit_xor F G ≡ H = mask_differ n (λ x. f (suc x)) (λ x. g (suc x)) in
    let s = xor_step (one (f 0) + 2 * F) (one (g 0) + 2 * G) in
    let t : H * 2 + one (not (same_truth (f 0) (g 0))) ≡ one (not (same_truth (f 0) (g 0))) + 2 * H = omega arith in
    s ∙ rw (half (f 0) F, half (g 0) G, low (f 0) F, low (g 0) G, differ_low (f 0) (g 0), e) t

-- what the first set has and the second has not
split_low : (a b : Bool) → one a ≡ one (a && b) + one (a && not b)
split_low true true = refl
split_low true false = refl
split_low false b = refl

and_most : (n : ℕ) (f g : ℕ → Bool) → mask_of n (λ x. f x && g x) ≤ mask_of n f
unfolding mask_of
and_most zero f g = omega arith
and_most (suc n) f g = omega (arith, split_low (f 0) (g 0), and_most n (λ x. f (suc x)) (λ x. g (suc x)))

pub mask_without : (n : ℕ) (f g : ℕ → Bool) → mask_of n f - mask_of n (λ x. f x && g x) ≡ mask_of n (λ x. f x && not (g x))
unfolding mask_of
mask_without zero f g = refl
mask_without (suc n) f g =
    let e = mask_without n (λ x. f (suc x)) (λ x. g (suc x)) in
    let h = and_most n (λ x. f (suc x)) (λ x. g (suc x)) in
    let q = split_low (f 0) (g 0) in
    omega arith

-- ---- one element
pub mask_empty : (n : ℕ) → mask_of n (λ _. false) ≡ 0
unfolding mask_of
mask_empty zero = refl
mask_empty (suc n) = let e = mask_empty n in omega arith

pub mask_one : (n e : ℕ) → e < n → mask_of n (λ x. eqb x e) ≡ 2 ^ e
unfolding mask_of
mask_one zero e h = absurd (not-suc-le-zero h)
mask_one (suc n) zero h =
    let s : mask_of n (λ x. eqb (suc x) 0) ≡ 0 = mask_same n (λ x. eqb (suc x) 0) (λ _. false) (λ x _. ne_eqb (suc x) 0 (λ q. omega arith)) ∙ mask_empty n in
    rw s refl
mask_one (suc n) (suc e) h =
    let s : mask_of n (λ x. eqb (suc x) (suc e)) ≡ 2 ^ e = mask_same n (λ x. eqb (suc x) (suc e)) (λ x. eqb x e) (λ x _. next x) ∙ mask_one n e (omega arith) in
    rw (ne_eqb 0 (suc e) (λ q. omega arith), s, pow-suc 2 e) (omega arith)
  where
    next : (x : ℕ) → eqb (suc x) (suc e) ≡ eqb x e
    next x = by_truth (eqb x e) (λ q. let z = eqb-true x e q in eq-eqb (suc x) (suc e) (omega arith) ∙ sym q) (λ q. ne_eqb (suc x) (suc e) (λ z. eqb-false x e q (omega arith)) ∙ sym q)

pub mask_with : (n : ℕ) (f : ℕ → Bool) (e : ℕ) → e < n → bit_or (mask_of n f) (2 ^ e) ≡ mask_of n (λ x. f x || eqb x e)
mask_with n f e h = ap (bit_or (mask_of n f)) (sym (mask_one n e h)) ∙ mask_or n f (λ x. eqb x e)

-- element n behind the n before it
pub mask_snoc : (n : ℕ) (f : ℕ → Bool) → mask_of (suc n) f ≡ mask_of n f + one (f n) * 2 ^ n
unfolding mask_of
mask_snoc zero f = let p : 2 ^ 0 ≡ 1 = refl in rw p (omega arith)
mask_snoc (suc n) f =
    let e = mask_snoc n (λ x. f (suc x)) in
    rw (pow-suc 2 n) (go (f (suc n)) e)
  where
    go : (b : Bool) → one (f 1) + 2 * mask_of n (λ x. f (suc (suc x))) ≡ mask_of n (λ x. f (suc x)) + one b * 2 ^ n
        → one (f 0) + 2 * (one (f 1) + 2 * mask_of n (λ x. f (suc (suc x)))) ≡ one (f 0) + 2 * mask_of n (λ x. f (suc x)) + one b * (2 ^ n * 2)
    go true e = omega arith
    go false e = omega arith

-- every element
pub power_some : (n : ℕ) → 0 < 2 ^ n
power_some zero = omega arith
power_some (suc n) = let h = power_some n in rw (pow-suc 2 n) (omega arith)

pub mask_whole : (n : ℕ) → mask_of n (λ _. true) ≡ 2 ^ n - 1
unfolding mask_of
mask_whole zero = refl
mask_whole (suc n) = let e = mask_whole n in let h = power_some n in rw (pow-suc 2 n) (omega arith)

-- every number is the set of its digits
one_digit : (m : ℕ) → one (eqb (m / 2 ^ 0 % 2) 1) ≡ m % 2
one_digit m =
    let p : m / 2 ^ 0 ≡ m = omega arith in
    rw p (by_truth (eqb (m % 2) 1) (λ e. let q = eqb-true (m % 2) 1 e in rw e (sym q)) (λ e. let q = eqb-false (m % 2) 1 e in rw e (omega (arith, q))))

pub mask_digits : (k m : ℕ) → m < 2 ^ k → mask_of k (λ x. eqb (m / 2 ^ x % 2) 1) ≡ m
unfolding mask_of
mask_digits zero m h = omega arith
mask_digits (suc k) m h =
    let p : m < 2 ^ k * 2 = rw (pow-suc 2 k) at h in
    let e : mask_of k (λ x. eqb (m / 2 ^ suc x % 2) 1) ≡ m / 2 =
    mask_same k (λ x. eqb (m / 2 ^ suc x % 2) 1) (λ x. eqb (m / 2 / 2 ^ x % 2) 1) (λ x _. ap (λ (d : ℕ). eqb (d % 2) 1) (ap (λ (q : ℕ). m / q) (pow-suc 2 x ∙ mul_comm (2 ^ x) 2) ∙ sym (div-div-eq-div-mul m 2 (2 ^ x)))) ∙ mask_digits k (m / 2) (omega arith) in
    rw (one_digit m, e) (omega arith)

-- ---- the least element
abbrev pub lacks_all : (ℕ → Bool) → ℕ → ℕ → Bool
lacks_all f a n = all (λ x. not (f x)) (rises a n)

first_next : (f : ℕ → Bool) (a n : ℕ) → lacks_all (λ x. f (suc x)) a n ≡ false → first_where f (rises (suc a) n) ≡ suc (first_where (λ x. f (suc x)) (rises a n))
unfolding rises
first_next f a zero h = absurd (false≢true (sym h))
first_next f a (suc n) h = by_truth (f (suc a)) (λ e. rw e refl) (λ e. rw e (first_next f (suc a) n (rw e at h)))

pub first_below : (f : ℕ → Bool) (a n : ℕ) → lacks_all f a n ≡ false → first_where f (rises a n) < a + n
unfolding rises
first_below f a zero h = absurd (false≢true (sym h))
first_below f a (suc n) h = by_truth (f a) (λ e. rw e (omega arith)) (λ e. let q = first_below f (suc a) n (rw e at h) in rw e (omega arith))

pub first_is : (f : ℕ → Bool) (a n : ℕ) → lacks_all f a n ≡ false → f (first_where f (rises a n)) ≡ true
unfolding rises
first_is f a zero h = absurd (false≢true (sym h))
first_is f a (suc n) h = by_truth (f a) (λ e. rw e e) (λ e. rw e (first_is f (suc a) n (rw e at h)))

-- a set with an element
pub mask_some : (n : ℕ) (f : ℕ → Bool) → 0 < mask_of n f → lacks_all f 0 n ≡ false
mask_some n f h = sym (mask_none n f) ∙ ne_eqb (mask_of n f) 0 (λ e. omega arith)

pub mask_least : (k n : ℕ) (f : ℕ → Bool) → n ≤ k → 0 < mask_of n f → count_trailing_zeros k (mask_of n f) ≡ first_where f (rises 0 n)
unfolding mask_of rises count_trailing_zeros
mask_least k zero f h q = absurd (omega arith)
mask_least zero (suc n) f h q = absurd (omega arith)
mask_least (suc k) (suc n) f h q = ap (λ (d : ℕ). under d (count_trailing_zeros k ((one (f 0) + 2 * M) / 2))) (low (f 0) M) ∙ ap (λ (m : ℕ). under (one (f 0)) (count_trailing_zeros k m)) (half (f 0) M) ∙ go (f 0) q (λ p. mask_least k n (λ x. f (suc x)) (omega arith) p)
  where
    M : ℕ
    M = mask_of n (λ x. f (suc x))

    go : (b : Bool) → 0 < one b + 2 * M → (0 < M → count_trailing_zeros k M ≡ first_where (λ x. f (suc x)) (rises 0 n)) → under (one b) (count_trailing_zeros k M) ≡ pick b 0 (first_where f (rises 1 n))
    go true z rest = refl
    go false z rest =
        let p : 0 < M = omega arith in
        ap suc (rest p) ∙ sym (first_next f 0 n (mask_some n (λ x. f (suc x)) p))

-- ---- one element that breaks a test, by the set of those that do
pub least_one : (n : ℕ) (t : List ℕ → Bool) (f : ℕ → Bool) → ((x : ℕ) → x < n → f x ≡ not (t (x ∷ [])))
    → least_of (rises 0 n) 1 t ≡ pick (eqb (mask_of n f) 0) none (some (first_where f (rises 0 n) ∷ []))
unfolding least_of
least_one n t f h =
    first_same (λ x. behind x (pick (t (x ∷ [])) none (some []))) (λ x. pick (f x) (some (x ∷ [])) none) 0 n (λ x k. rw (h x (omega arith)) (turned x (t (x ∷ []))))
    ∙ first_where_lem f (λ x. x ∷ []) (rises 0 n) ∙ ap (λ b. pick {A = Option (List ℕ)} b none (some (first_where f (rises 0 n) ∷ []))) (sym (mask_none n f))
  where
    turned : (x : ℕ) (b : Bool) → behind x (pick b none (some [])) ≡ pick (not b) (some (x ∷ [])) none
    turned x true = refl
    turned x false = refl
