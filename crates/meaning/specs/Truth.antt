-- Truth values, and tests over the elements of an interpretation. Assumes nothing.
use Rattle.std.specs.Prelude.{◌≡◌, refl, Bool, true, false, not, ◌&&◌, ◌||◌, List, [], ◌∷◌, ◌++◌, ℕ, zero, suc, ◌+◌, ◌≤◌, ◌<◌}
use Rattle.std.proofs.Common.{sym, ap, ap₂, ◌∙◌, not-suc-le-zero, le_refl, arith}
use Rattle.std.proofs.lemmas.Bool.{false≢true}
use Rattle.std.proofs.Math.Decide.{ℕ_discrete}
use Rattle.std.proofs.Math.Bool.{and_assoc, or_assoc}
use Rattle.rules.specs.Base.{all, any}
use Rattle.rules.specs.Semantics.{elements_below, one, count, implies, same_truth}
use Rattle.rules.specs.Invariants.{Each}
-- laws of the library, by the names that they have here and above
pub use Rattle.std.proofs.Math.Bool.{or-false as or_none, or-true as or_unit, and-true as and_unit}
pub use Rattle.std.specs.Cmp.{first_so as and_left, second_so as and_right, both_ways}
pub use Rattle.rules.specs.TextLaws.{by_test as by_truth}

-- ---- connectives
pub and_both : {a b : Bool} → a ≡ true → b ≡ true → a && b ≡ true
and_both h k = rw (h, k)

pub not_intro : (x : Bool) → (x ≡ true → false ≡ true) → not x ≡ true
not_intro true h = h refl
not_intro false h = refl

pub not_elim : (x : Bool) → not x ≡ true → x ≡ true → ⊥
not_elim true h k = false≢true h
not_elim false h k = false≢true k

pub implies_elim : (a b : Bool) → implies a b ≡ true → a ≡ true → b ≡ true
implies_elim true b h k = h
implies_elim false b h k = absurd (false≢true k)

pub implies_intro : (a b : Bool) → (a ≡ true → b ≡ true) → implies a b ≡ true
implies_intro true b h = h refl
implies_intro false b h = refl

pub same_truth_lem : (a b : Bool) → same_truth a b ≡ true → a ≡ b
same_truth_lem true true h = refl
same_truth_lem true false h = sym h
same_truth_lem false true h = h
same_truth_lem false false h = refl

pub truth_same : (a b : Bool) → a ≡ b → same_truth a b ≡ true
truth_same true b e = rw (← e)
truth_same false b e = rw (← e)

-- tests of a and b that stand for one of both
pub not_and_not : (a b : Bool) → not (a && not b) ≡ implies a b
not_and_not true true = refl
not_and_not true false = refl
not_and_not false b = refl

pub or_nots : (a b : Bool) → not a || not b ≡ not (a && b)
or_nots true b = refl
or_nots false b = refl

pub implies_both : (a b c : Bool) → implies a (implies b c) ≡ implies (a && b) c
implies_both true b c = refl
implies_both false b c = refl

pub and_crossed : (a b c d : Bool) → (a && b) && (c && d) ≡ (a && c) && (b && d)
and_crossed true true c d = refl
and_crossed true false true d = refl
and_crossed true false false d = refl
and_crossed false b c d = refl

-- ---- lists
pub all_append : {A : Type 0} (p : A → Bool) (k l : List A) → all p (k ++ l) ≡ all p k && all p l
all_append p [] l = refl
all_append p (x ∷ k) l = ap (λ b. p x && b) (all_append p k l) ∙ sym (and_assoc (p x) (all p k) (all p l))

pub any_append : {A : Type 0} (p : A → Bool) (k l : List A) → any p (k ++ l) ≡ any p k || any p l
any_append p [] l = refl
any_append p (x ∷ k) l = ap (λ b. p x || b) (any_append p k l) ∙ sym (or_assoc (p x) (any p k) (any p l))

-- a test of a list's elements, at each of them
pub all_each : {A : Type 0} (p : A → Bool) (l : List A) → all p l ≡ true → Each (λ x. p x ≡ true) l
all_each p [] h = tt
all_each p (x ∷ l) h = (and_left (p x) (all p l) h, all_each p l (and_right (p x) (all p l) h))

pub each_all : {A : Type 0} (p : A → Bool) (l : List A) → Each (λ x. p x ≡ true) l → all p l ≡ true
each_all p [] h = refl
each_all p (x ∷ l) h = and_both h.0 (each_all p l h.1)

-- what passes for all passes for those of a kind
pub all_some : {A : Type 0} (kind p : A → Bool) (l : List A) → all p l ≡ true → all (λ x. not (kind x) || p x) l ≡ true
all_some kind p [] h = refl
all_some kind p (x ∷ l) h = rw (and_left (p x) (all p l) h, or_unit) (all_some kind p l (and_right (p x) (all p l) h))

-- ---- the elements below n
pub all_elements : (n : ℕ) (f : ℕ → Bool) → ((y : ℕ) → y < n → f y ≡ true) → all f (elements_below n) ≡ true
unfolding elements_below
all_elements zero f h = refl
all_elements (suc n) f h = and_both (h n (le_refl (suc n))) (all_elements n f (λ y k. h y (omega arith)))

pub elements_all : (n : ℕ) (f : ℕ → Bool) → all f (elements_below n) ≡ true → (y : ℕ) → y < n → f y ≡ true
unfolding elements_below
elements_all zero f h y k = absurd (not-suc-le-zero k)
elements_all (suc n) f h y k = go (ℕ_discrete y n) (elements_all n f (and_right (f n) (all f (elements_below n)) h) y)
  where
    go : Dec (y ≡ n) → (y < n → f y ≡ true) → f y ≡ true
    go (yes e) r = rw e (and_left (f n) (all f (elements_below n)) h)
    go (no e) r = r (omega arith)

pub any_elements : (n : ℕ) (f g : ℕ → Bool) → ((y : ℕ) → y < n → f y ≡ true → g y ≡ true) → any f (elements_below n) ≡ true → any g (elements_below n) ≡ true
unfolding elements_below
any_elements zero f g h k = k
any_elements (suc n) f g h k = go (f n) (h n (le_refl (suc n))) (any_elements n f g (λ y l. h y (omega arith))) k
  where
    go : (b : Bool) → (b ≡ true → g n ≡ true) → (any f (elements_below n) ≡ true → any g (elements_below n) ≡ true) → b || any f (elements_below n) ≡ true → g n || any g (elements_below n) ≡ true
    go true p q k = rw (p refl)
    go false p q k = rw (q k) (or_unit (g n))

pub all_same : (n : ℕ) (f g : ℕ → Bool) → ((y : ℕ) → y < n → f y ≡ g y) → all f (elements_below n) ≡ all g (elements_below n)
unfolding elements_below
all_same zero f g h = refl
all_same (suc n) f g h = ap₂ ◌&&◌ (h n (le_refl (suc n))) (all_same n f g (λ y k. h y (omega arith)))

pub any_same : (n : ℕ) (f g : ℕ → Bool) → ((y : ℕ) → y < n → f y ≡ g y) → any f (elements_below n) ≡ any g (elements_below n)
unfolding elements_below
any_same zero f g h = refl
any_same (suc n) f g h = ap₂ ◌||◌ (h n (le_refl (suc n))) (any_same n f g (λ y k. h y (omega arith)))

pub count_same : (n : ℕ) (f g : ℕ → Bool) → ((y : ℕ) → y < n → f y ≡ g y) → count f (elements_below n) ≡ count g (elements_below n)
unfolding elements_below
count_same zero f g h = refl
count_same (suc n) f g h = ap₂ (λ b k. one b + k) (h n (le_refl (suc n))) (count_same n f g (λ y k. h y (omega arith)))

pub count_more : (n : ℕ) (f g : ℕ → Bool) → ((y : ℕ) → y < n → f y ≡ true → g y ≡ true) → count f (elements_below n) ≤ count g (elements_below n)
unfolding elements_below
count_more zero f g h = le_refl 0
count_more (suc n) f g h = go (f n) (g n) (h n (le_refl (suc n))) (count_more n f g (λ y l. h y (omega arith)))
  where
    go : (b d : Bool) → (b ≡ true → d ≡ true) → count f (elements_below n) ≤ count g (elements_below n) → one b + count f (elements_below n) ≤ one d + count g (elements_below n)
    go true true q r = omega arith
    go true false q r = absurd (false≢true (q refl))
    go false true q r = omega arith
    go false false q r = omega arith

-- a witness, and one from any
pub any_at : (n : ℕ) (f : ℕ → Bool) (y : ℕ) → y < n → f y ≡ true → any f (elements_below n) ≡ true
unfolding elements_below
any_at zero f y l h = absurd (not-suc-le-zero l)
any_at (suc n) f y l h = by_truth (f n) (λ e. rw e) (λ e. rw e (any_at n f y (smaller (ℕ_discrete y n) e) h))
  where
    smaller : Dec (y ≡ n) → f n ≡ false → y < n
    smaller (yes q) e = absurd (false≢true (sym e ∙ ap f (sym q) ∙ h))
    smaller (no q) e = omega arith

pub any_find : (n : ℕ) (f : ℕ → Bool) → any f (elements_below n) ≡ true → (y : ℕ) × (y < n) × (f y ≡ true)
unfolding elements_below
any_find zero f h = absurd (false≢true h)
any_find (suc n) f h = by_truth (f n) (λ e. (n, le_refl (suc n), e)) (λ e. let t = any_find n f (rw e at h) in (t.0, omega (arith, t.1), t.2))
