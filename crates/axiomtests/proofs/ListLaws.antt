-- A list of sets, from its last number to its first. Assumes nothing.
use Rattle.std.proofs.Math.Bool.{and_assoc}
use mathlib.Core.Path.{◌≡◌, refl, sym, ap, ◌∙◌}
use mathlib.Core.Bool.{Bool, true, false, not, ◌&&◌, ◌||◌}
use mathlib.Core.List.{List, [], ◌∷◌}
use Prim.Native.Nat.{ℕ, ◌+◌, ◌-◌, ◌<◌}
use native.Mathlib.Omega.{arith}
use lib.ListN.{get_or}
use lib.Dec.{eqb}
use Rattle.rules.specs.Base.{all, any}
use Rattle.rules.specs.Axioms.{paired, later_pairs}
use Rattle.rules.specs.Semantics.{same_truth}
use Rattle.pool.specs.Tabs.{tab_next, tab_end}
use Rattle.states.specs.Masks.{mask_of}
use Rattle.states.specs.MaskLaws.{mask_same, mask_empty}
use Rattle.axiomtests.specs.declared.members.Sets.{Sets}
use Rattle.axiomtests.specs.Lists.{number_of, numbers_from, numbers_of, member_set, unlike_at, clash_at, clashes_at, Members}

-- ---- the numbers from j on
module _ (v : List ℕ) (l : Sets) where
  pub from_next : (j : ℕ) → j < l.count → numbers_from v l j ≡ number_of v l j ∷ numbers_from v l (j + 1)
  from_next j h = tab_next (λ i. get_or v i 0) l.at j l.count h

  pub from_end : numbers_from v l l.count ≡ []
  from_end = tab_end (λ i. get_or v i 0) l.at l.count l.count (omega arith)

  pub from_all : numbers_from v l 0 ≡ numbers_of v l
  from_all = let a : l.at + 0 ≡ l.at = omega arith in let b : l.count - 0 ≡ l.count = omega arith in rw (a, b) refl

-- ---- pairs of a list
module _ {A : Type 0} where
  pub all_paired : (p : A × A → Bool) (a : A) (l : List A) (rest : List (A × A)) → all p (paired a l rest) ≡ all (λ b. p (a, b)) l && all p rest
  unfolding paired
  all_paired p a [] rest = refl
  all_paired p a (b ∷ l) rest = ap (λ c. p (a, b) && c) (all_paired p a l rest) ∙ sym (and_assoc (p (a, b)) (all (λ c. p (a, c)) l) (all p rest))

  none_all : (q : A → Bool) (l : List A) → not (all (λ b. not (q b)) l) ≡ any q l
  none_all q [] = refl
  none_all q (b ∷ l) = go (q b) (none_all q l)
    where
      go : (c : Bool) → not (all (λ b. not (q b)) l) ≡ any q l → not (not c && all (λ b. not (q b)) l) ≡ c || any q l
      go true e = refl
      go false e = e

  -- a pair of the first with a later one, or of the later ones
  pub pair_next : (q : A × A → Bool) (a : A) (l : List A) → not (all (λ p. not (q p)) (later_pairs (a ∷ l))) ≡ any (λ b. q (a, b)) l || not (all (λ p. not (q p)) (later_pairs l))
  unfolding later_pairs
  pair_next q a l =
      ap not (all_paired (λ p. not (q p)) a l (later_pairs l)) ∙ parts (all (λ b. not (q (a, b))) l) (all (λ p. not (q p)) (later_pairs l))
      ∙ ap (λ b. b || not (all (λ p. not (q p)) (later_pairs l))) (none_all (λ b. q (a, b)) l)
    where
      parts : (x y : Bool) → not (x && y) ≡ not x || not y
      parts true y = refl
      parts false y = refl

module _ (f : ℕ → ℕ → Bool) where
  pub clashes_next : (always : Bool) (a : ℕ) (l : List ℕ) (x : ℕ) → any (λ b. clash_at always f a b x) l || clashes_at always f l x ≡ clashes_at always f (a ∷ l) x
  clashes_next always a l x = sym (pair_next (λ p. clash_at always f p.0 p.1 x) a l)

  -- unlike: in one and not in all
  in_all : (x : ℕ) (l : List ℕ) → all (λ b. same_truth true (f b x)) l ≡ all (λ b. f b x) l
  in_all x [] = refl
  in_all x (b ∷ l) = go (f b x) (in_all x l)
    where
      go : (c : Bool) → all (λ b. same_truth true (f b x)) l ≡ all (λ b. f b x) l → same_truth true c && all (λ b. same_truth true (f b x)) l ≡ c && all (λ b. f b x) l
      go true e = e
      go false e = refl

  in_none : (x : ℕ) (l : List ℕ) → all (λ b. same_truth false (f b x)) l ≡ not (any (λ b. f b x) l)
  in_none x [] = refl
  in_none x (b ∷ l) = go (f b x) (in_none x l)
    where
      go : (c : Bool) → all (λ b. same_truth false (f b x)) l ≡ not (any (λ b. f b x) l) → same_truth false c && all (λ b. same_truth false (f b x)) l ≡ not (c || any (λ b. f b x) l)
      go true e = refl
      go false e = e

  pub unlike_is : (x : ℕ) (l : List ℕ) → any (λ c. f c x) l && not (all (λ c. f c x) l) ≡ unlike_at f l x
  unfolding later_pairs
  unlike_is x [] = refl
  unlike_is x (a ∷ l) = sym (ap not (all_paired (λ q. same_truth (f q.0 x) (f q.1 x)) a l (later_pairs l)) ∙ go (f a x) (unlike_is x l))
    where
      P : Bool
      P = all (λ q. same_truth (f q.0 x) (f q.1 x)) (later_pairs l)

      in_first : (s o p : Bool) → o && not s ≡ not p → not (s && p) ≡ not s
      in_first true true p e = sym e
      in_first true false p e = sym e
      in_first false o p e = refl

      not_first : (s o p : Bool) → o && not s ≡ not p → not (not o && p) ≡ o && true
      not_first s true p e = refl
      not_first s false p e = sym e

      go : (g : Bool) → any (λ c. f c x) l && not (all (λ c. f c x) l) ≡ not P → not (all (λ b. same_truth g (f b x)) l && P) ≡ (g || any (λ c. f c x) l) && not (g && all (λ c. f c x) l)
      go true e = ap (λ b. not (b && P)) (in_all x l) ∙ in_first (all (λ c. f c x) l) (any (λ c. f c x) l) P e
      go false e = ap (λ b. not (b && P)) (in_none x l) ∙ not_first (all (λ c. f c x) l) (any (λ c. f c x) l) P e

-- ---- what is found of the numbers from j on, from the last to the first
abbrev pub Test : Type 0
Test = (ℕ → ℕ → Bool) → List ℕ → ℕ → Bool

abbrev pub some_at : Test
some_at f l x = any (λ c. f c x) l

abbrev pub every_at : Test
every_at f l x = all (λ c. f c x) l

-- with a number a that stands before them
abbrev pub clash_by : Bool → ℕ → Test
clash_by always a f l x = any (λ b. clash_at always f a b x) l

abbrev pub found_from : Test → (ℕ → ℕ → Bool) → (n : ℕ) → List ℕ → Sets → ℕ → ℕ
found_from T f n v l j = mask_of n (T f (numbers_from v l j))

module _ (T : Test) (f : ℕ → ℕ → Bool) (n : ℕ) (v : List ℕ) (l : Sets) where
  -- nothing behind the last
  pub found_none : found_from T f n v l l.count ≡ mask_of n (T f [])
  found_none = ap (λ (k : List ℕ). mask_of n (T f k)) (from_end v l)

  pub found_all : found_from T f n v l 0 ≡ mask_of n (T f (numbers_of v l))
  found_all = ap (λ (k : List ℕ). mask_of n (T f k)) (from_all v l)

  pub found_at : (found j k : ℕ) → found ≡ found_from T f n v l j → j ≡ k → found ≡ found_from T f n v l k
  found_at found j k e q = e ∙ ap (found_from T f n v l) q

  found_next : (j : ℕ) → j < l.count → mask_of n (T f (number_of v l j ∷ numbers_from v l (j + 1))) ≡ found_from T f n v l j
  found_next j h = ap (λ (k : List ℕ). mask_of n (T f k)) (sym (from_next v l j h))

-- the union and the intersection of two sets, as the code has them
abbrev pub Either : (a b r : ℕ) → Type 0
Either a b r = (n : ℕ) (f g : ℕ → Bool) → a ≡ mask_of n f → b ≡ mask_of n g → r ≡ mask_of n (λ x. f x || g x)

abbrev pub Both : (a b r : ℕ) → Type 0
Both a b r = (n : ℕ) (f g : ℕ → Bool) → a ≡ mask_of n f → b ≡ mask_of n g → r ≡ mask_of n (λ x. f x && g x)

-- ---- one number more, before those behind it
module _ (f : ℕ → ℕ → Bool) (n : ℕ) (v : List ℕ) (l : Sets) (M : Members n f v l) (j : ℕ) (h : j < l.count) where
  pub some_next : (found r : ℕ) → found ≡ found_from some_at f n v l (j + 1) → Either (member_set v l j) found r → r ≡ found_from some_at f n v l j
  some_next found r e E = E n (f (number_of v l j)) (some_at f (numbers_from v l (j + 1))) (M j h) e ∙ found_next some_at f n v l j h

  pub every_next : (found r : ℕ) → found ≡ found_from every_at f n v l (j + 1) → Both (member_set v l j) found r → r ≡ found_from every_at f n v l j
  every_next found r e E = E n (f (number_of v l j)) (every_at f (numbers_from v l (j + 1))) (M j h) e ∙ found_next every_at f n v l j h

  -- m is the set where the number a and number j clash, or number j and those behind it
  module _ (always : Bool) (m found r : ℕ) (E : Either m found r) where
    pub clash_next : (a : ℕ) → m ≡ mask_of n (clash_at always f a (number_of v l j)) → found ≡ found_from (clash_by always a) f n v l (j + 1) → r ≡ found_from (clash_by always a) f n v l j
    clash_next a d e = E n (clash_at always f a (number_of v l j)) (clash_by always a f (numbers_from v l (j + 1))) d e ∙ found_next (clash_by always a) f n v l j h

    pub pairs_next : m ≡ found_from (clash_by always (number_of v l j)) f n v l (j + 1) → found ≡ found_from (clashes_at always) f n v l (j + 1) → r ≡ found_from (clashes_at always) f n v l j
    pairs_next d e =
        E n (clash_by always (number_of v l j) f (numbers_from v l (j + 1))) (clashes_at always f (numbers_from v l (j + 1))) d e
        ∙ mask_same n (λ x. clash_by always (number_of v l j) f (numbers_from v l (j + 1)) x || clashes_at always f (numbers_from v l (j + 1)) x) (clashes_at always f (number_of v l j ∷ numbers_from v l (j + 1))) (λ x _. clashes_next f always (number_of v l j) (numbers_from v l (j + 1)) x)
        ∙ found_next (clashes_at always) f n v l j h

-- numbers that do not clash, and that do
module _ (n : ℕ) (f : ℕ → ℕ → Bool) (always : Bool) (a b : ℕ) where
  pub clash_none : always || not (eqb a b) ≡ false → 0 ≡ mask_of n (clash_at always f a b)
  clash_none e = sym (mask_same n (clash_at always f a b) (λ _. false) (λ x _. ap (λ c. c && (f a x && f b x)) e) ∙ mask_empty n)

  pub clash_both : always || not (eqb a b) ≡ true → mask_of n (λ x. f a x && f b x) ≡ mask_of n (clash_at always f a b)
  clash_both e = sym (mask_same n (clash_at always f a b) (λ x. f a x && f b x) (λ x _. ap (λ c. c && (f a x && f b x)) e))

pub unlike_mask : (n : ℕ) (f : ℕ → ℕ → Bool) (l : List ℕ) → mask_of n (λ x. some_at f l x && not (every_at f l x)) ≡ mask_of n (λ x. unlike_at f l x)
unlike_mask n f l = mask_same n (λ x. some_at f l x && not (every_at f l x)) (unlike_at f l) (λ x _. unlike_is f x l)
