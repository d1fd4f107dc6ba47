-- The line in scratch, number by number, and the loops over it. Assumes nothing.
use mathlib.Core.Path.{◌≡◌, refl, sym, ap, ◌∙◌}
use mathlib.Core.Bool.{Bool, true, false, ◌&&◌, ◌||◌}
use mathlib.Core.List.{List, [], ◌∷◌}
use Prim.Native.Nat.{ℕ, zero, suc, ◌+◌, ◌-◌, ◌%◌, ◌<◌, ◌≤◌}
use native.Mathlib.Omega.{arith}
use borrow.Author.Tests.{lt-ltb, le-ltb}
use lib.Dec.{eqb, ltb}
use lib.ListN.{length, get_or, take, drop, length-drop, drop_of_length-le}
use lib.Seq.{length-take-le, get_or-take, get_or-drop}
use Rattle.std.specs.List.{list_all, range_with_len}
use Rattle.rules.specs.Base.{all}
use Rattle.rules.specs.Deck.{rising}
use Rattle.words.specs.Words.{words}
use Rattle.words.specs.Laws.{length_words}
use Rattle.text.specs.RowLaws.{next}
use Rattle.states.specs.State.{rising_pairs}
use Rattle.sets.specs.Places.{line_at}
use Rattle.layouts.specs.Lines.{line_in, LineThere}
use Rattle.layouts.specs.Numbers.{numbers}
use Rattle.layouts.specs.declared.numbers.Numbers.{Numbers}

-- ---- where it stands
part_length : (l : List ℕ) (a n : ℕ) → a + n ≤ length l → length (take n (drop a l)) ≡ n
part_length l a n h = let d = length-drop a l in length-take-le n (drop a l) (omega arith)

part_at : (l : List ℕ) (a n k : ℕ) → k < n → get_or l (a + k) 0 ≡ get_or (take n (drop a l)) k 0
part_at l a n k h = sym (get_or-take n (drop a l) k 0 h ∙ get_or-drop a l k 0)

pub line_length : (scratch : List ℕ) (n : ℕ) → LineThere scratch n → length (line_in (words scratch) n) ≡ n
line_length scratch n h = part_length (words scratch) line_at n (omega (arith, length_words scratch, h.0, h.1))

pub count_is : (r : Numbers) → length (numbers r) ≡ r.count
count_is r = line_length r.scratch.now r.count (r.room, r.few)

pub line_number : (v : List ℕ) (n k : ℕ) → k < n → get_or v (line_at + k) 0 ≡ get_or (line_in v n) k 0
line_number v n k h = part_at v line_at n k h

-- ---- from number k on
module _ (l : List ℕ) (k x : ℕ) (h : k < length l) (e : x ≡ get_or l k 0) where
  pub rising_first : rising (x ∷ drop (k + 1) l) ≡ rising (drop k l)
  rising_first = rw (next l k x h e) refl

  pub rising_yes : (y : ℕ) → y < x → rising (x ∷ drop (k + 1) l) ≡ rising (y ∷ drop k l)
  unfolding rising
  rising_yes y c = rw (next l k x h e, lt-ltb _ _ c) refl

  pub rising_no : (y : ℕ) → x ≤ y → false ≡ rising (y ∷ drop k l)
  unfolding rising
  rising_no y c = rw (next l k x h e, le-ltb _ _ c) refl

-- no number is left
module _ (l : List ℕ) (k : ℕ) (h : length l ≤ k) where
  pub past : drop k l ≡ []
  past = drop_of_length-le l {i = k} h

  pub rising_none : true ≡ rising (drop k l)
  unfolding rising
  rising_none = rw past refl

  pub rising_end : (y : ℕ) → true ≡ rising (y ∷ drop k l)
  unfolding rising
  rising_end y = rw past refl

  pub pairs_none : true ≡ rising_pairs (drop k l)
  unfolding rising_pairs
  pairs_none = rw past refl

  pub pairs_end : (a b : ℕ) → true ≡ rising_pairs (a ∷ b ∷ drop k l)
  unfolding rising_pairs
  pairs_end a b = rw past refl

-- a test of the n numbers from number k on
pub all_from : (q : ℕ → Bool) (l : List ℕ) (k n : ℕ) → length l - k ≡ n → list_all (λ i. q (get_or l i 0)) (range_with_len k n) ≡ all q (drop k l)
all_from q l k zero e = rw (past l k (omega arith)) refl
all_from q l k (suc n) e = rw (next l k (get_or l k 0) (omega arith) refl) (ap (λ (b : Bool). q (get_or l k 0) && b) (all_from q l (k + 1) n (omega arith)))

-- ---- two numbers
pub two_next : (l : List ℕ) (k x y : ℕ) → k + 1 < length l → x ≡ get_or l k 0 → y ≡ get_or l (k + 1) 0 → drop k l ≡ x ∷ y ∷ drop (k + 2) l
two_next l k x y h e f =
    let t : k + 1 + 1 ≡ k + 2 = omega arith in
    next l k x (omega arith) e ∙ ap (λ (u : List ℕ). x ∷ u) (next l (k + 1) y h f ∙ ap (λ (j : ℕ). y ∷ drop j l) t)

module _ (l : List ℕ) (k x y : ℕ) (h : k + 1 < length l) (e : x ≡ get_or l k 0) (f : y ≡ get_or l (k + 1) 0) where
  pub pairs_first : rising_pairs (x ∷ y ∷ drop (k + 2) l) ≡ rising_pairs (drop k l)
  pairs_first = rw (two_next l k x y h e f) refl

  pub pairs_yes : (a b : ℕ) → (ltb a x || (eqb a x && ltb b y)) ≡ true → rising_pairs (x ∷ y ∷ drop (k + 2) l) ≡ rising_pairs (a ∷ b ∷ drop k l)
  unfolding rising_pairs
  pairs_yes a b c = rw (two_next l k x y h e f, c) refl

  pub pairs_no : (a b : ℕ) → (ltb a x || (eqb a x && ltb b y)) ≡ false → false ≡ rising_pairs (a ∷ b ∷ drop k l)
  unfolding rising_pairs
  pairs_no a b c = rw (two_next l k x y h e f, c) refl

pub pairs_odd : (l : List ℕ) → length l % 2 ≡ 1 → false ≡ rising_pairs l
unfolding rising_pairs
pairs_odd [] h = absurd (omega arith)
pairs_odd (a ∷ []) h = refl
pairs_odd (a ∷ b ∷ []) h = absurd (omega arith)
pairs_odd (a ∷ b ∷ c ∷ []) h = refl
pairs_odd (a ∷ b ∷ c ∷ d ∷ l) h = no (ltb a c || (eqb a c && ltb b d)) (pairs_odd (c ∷ d ∷ l) (omega arith))
  where
    no : (t : Bool) → false ≡ rising_pairs (c ∷ d ∷ l) → false ≡ t && rising_pairs (c ∷ d ∷ l)
    no true q = q
    no false q = refl
