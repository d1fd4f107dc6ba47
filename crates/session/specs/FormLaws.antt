-- The session's table: what its parts are, and when its bytes are a deck's. Assumes nothing.
use Rattle.std.specs.Prelude.{◌≡◌, refl, Bool, true, false, ◌&&◌, List, [], ◌∷◌, ◌++◌, ℕ, zero, suc, ◌+◌, ◌-◌, ◌<◌, ◌≤◌, eqb, length, get_or, set, take, drop, replicate, bytes_eq}
use Rattle.std.proofs.Common.{sym, ap, ap₂, ◌∙◌, arith, get_or-drop, take-append-drop, drop_at, drop-drop, take_all, length-take-le, length-drop, append_assoc, eqb-true, eq-eqb, ne_eqb}
use Rattle.std.proofs.lemmas.List.{drop-replicate}
use borrow.Rule.Slice.PartMut.{put_mid}
use Rattle.words.specs.Words.{words, bytes}
use Rattle.words.specs.Laws.{Bytes, words_drop, words_take, length_words}
use Rattle.words.specs.Bytes.{bytes_words}
use Rattle.ir.specs.Pick.{pick}
use Rattle.ir.specs.Records.{same_words}
use Rattle.ir.specs.RecordLaws.{same_words_lem}
use Rattle.rules.specs.Base.{all}
use Rattle.rules.specs.Deck.{most_bytes}
use Rattle.session.specs.Session.{session_bytes, stored, deck_in, is_stored}
use Rattle.session.specs.HeldLaws.{word_is, stored_long}

-- ---- the length's word
bytes_behind : (s : List ℕ) (n : ℕ) → Bytes s → Bytes (drop n s)
bytes_behind s n B k = rw (get_or-drop n s k 0) (B (n + k))

first_word : (w : List ℕ) → 0 < length w → w ≡ get_or w 0 0 ∷ drop 1 w
first_word [] h = absurd (omega arith)
first_word (x ∷ w) h = refl

set_first : (w : List ℕ) (n : ℕ) → 0 < length w → set w 0 n ≡ n ∷ drop 1 w
set_first [] n h = absurd (omega arith)
set_first (x ∷ w) n h = refl

bytes_first : (n : ℕ) (w : List ℕ) → bytes (n ∷ w) ≡ bytes (n ∷ []) ++ bytes w
unfolding bytes
bytes_first n w = refl

pub length_put : (s s' : List ℕ) (n : ℕ) → length s ≡ session_bytes → length s' ≡ length s → Bytes s → Bytes s' → words s' ≡ set (words s) 0 n → s' ≡ bytes (n ∷ []) ++ drop 4 s
length_put s s' n l m B C e =
    let long : 0 < length (words s) = omega (arith, length_words s) in
    sym (bytes_words s' (omega arith) C)
    ∙ ap bytes (e ∙ set_first (words s) n long)
    ∙ bytes_first n (drop 1 (words s))
    ∙ ap (λ (t : List ℕ). bytes (n ∷ []) ++ t) (ap bytes (sym (words_drop 1 s)) ∙ bytes_words (drop 4 s) (omega (arith, length-drop 4 s)) (bytes_behind s 4 B))

-- ---- zeros: each byte is the first one
zeros_go : (b : ℕ) (t : List ℕ) → all (λ c. eqb c 0) t ≡ bytes_eq t (take (length t) (0 ∷ t)) → (eqb b 0 && all (λ c. eqb c 0) t) ≡ (eqb b 0 && bytes_eq t (take (length t) (b ∷ t)))
zeros_go b t h = by (eqb b 0) refl
  where
    by : (x : Bool) → eqb b 0 ≡ x → (eqb b 0 && all (λ c. eqb c 0) t) ≡ (eqb b 0 && bytes_eq t (take (length t) (b ∷ t)))
    by true q = let z : b ≡ 0 = eqb-true b 0 q in rw (q, z) h
    by false q = rw q refl

zeros_next : (t : List ℕ) → all (λ b. eqb b 0) t ≡ bytes_eq t (take (length t) (0 ∷ t))
zeros_next [] = refl
zeros_next (y ∷ t) = zeros_go y t (zeros_next t)

zeros_all : (b : ℕ) (t : List ℕ) → all (λ c. eqb c 0) (b ∷ t) ≡ (eqb b 0 && bytes_eq t (take (length t) (b ∷ t)))
zeros_all b t = zeros_go b t (zeros_next t)

-- of a slice that begins with zero, as it is compared
pub zeros_from : (s x y : List ℕ) (r : Bool) → 0 < length s → get_or s 0 0 ≡ 0 → x ≡ drop 1 s → y ≡ take (length s - 1) s → r ≡ bytes_eq x y → r ≡ all (λ b. eqb b 0) s
zeros_from [] x y r h z a b e = absurd (omega arith)
zeros_from (c ∷ t) x y r h z a b e =
    let l : length (c ∷ t) - 1 ≡ length t = omega arith in
    rw (a, b, l, z) at e ∙ rw z (sym (zeros_all 0 t))

-- ---- words that are the same
same_behind : (p x y : List ℕ) → same_words (p ++ x) (p ++ y) ≡ same_words x y
same_behind [] x y = refl
same_behind (b ∷ p) x y = rw (eq-eqb b b refl) (same_behind p x y)

same_zeros : (z : List ℕ) → same_words z (replicate (length z) 0) ≡ all (λ b. eqb b 0) z
same_zeros [] = refl
same_zeros (y ∷ z) = by (eqb y 0) (same_zeros z)
  where
    by : (b : Bool) → same_words z (replicate (length z) 0) ≡ all (λ c. eqb c 0) z → pick b (same_words z (replicate (length z) 0)) false ≡ (b && all (λ c. eqb c 0) z)
    by true h = h
    by false h = refl

-- the length's word of a table that holds a deck
pub stored_word : (deck : List ℕ) → length deck ≤ most_bytes → get_or (words (stored deck)) 0 0 ≡ length deck
unfolding stored bytes words
stored_word deck h = word_is (length deck) h

-- ---- the parts
module _ (s : List ℕ) (l : length s ≡ session_bytes) (B : Bytes s) where
  first_is : take 4 s ≡ bytes (get_or (words s) 0 0 ∷ [])
  first_is =
      let long : 0 < length (words s) = omega (arith, length_words s) in
      let m : length (take 4 s) ≡ 4 = length-take-le 4 s (omega arith) in
      let w : words (take 4 s) ≡ get_or (words s) 0 0 ∷ [] = words_take 1 s ∙ ap (take 1) (first_word (words s) long) in
      sym (bytes_words (take 4 s) (omega arith) (bytes_front s 4 B)) ∙ ap bytes w
    where
      bytes_front : (s : List ℕ) (n : ℕ) → Bytes s → Bytes (take n s)
      bytes_front [] n B k = front_nil n k
        where
          front_nil : (n k : ℕ) → get_or (take n []) k 0 < 256
          front_nil zero k = omega arith
          front_nil (suc n) k = omega arith
      bytes_front (x ∷ s) zero B k = omega arith
      bytes_front (x ∷ s) (suc n) B zero = B 0
      bytes_front (x ∷ s) (suc n) B (suc k) = bytes_front s n (λ j. B (suc j)) k

  -- its bytes: the length, the live deck, what is behind it
  parts_of_table : s ≡ bytes (get_or (words s) 0 0 ∷ []) ++ (deck_in s ++ drop (4 + get_or (words s) 0 0) s)
  parts_of_table =
      let n = get_or (words s) 0 0 in
      sym (take-append-drop 4 s)
      ∙ ap₂ {C = List ℕ} ◌++◌ first_is (sym (take-append-drop n (drop 4 s)) ∙ ap (λ (t : List ℕ). deck_in s ++ t) (behind_four n))
    where
      behind_four : (n : ℕ) → drop n (drop 4 s) ≡ drop (4 + n) s
      behind_four n = drop-drop n 4 s

  deck_long : get_or (words s) 0 0 ≤ most_bytes → length (deck_in s) ≡ get_or (words s) 0 0
  deck_long h = length-take-le (get_or (words s) 0 0) (drop 4 s) (omega (arith, length-drop 4 s))

  stored_zeros : get_or (words s) 0 0 ≤ most_bytes → is_stored s ≡ all (λ b. eqb b 0) (drop (4 + get_or (words s) 0 0) s)
  unfolding stored
  stored_zeros h =
      let n = get_or (words s) 0 0 in
      let z : List ℕ = drop (4 + n) s in
      let k : most_bytes - n ≡ length z = omega (arith, length-drop (4 + n) s) in
      let a : stored (deck_in s) ≡ bytes (n ∷ []) ++ (deck_in s ++ replicate (length z) 0) = rw (deck_long h, k) refl in
      ap (λ (b : Bool). b && same_words s (stored (deck_in s))) (eq-eqb (length s) session_bytes l)
      ∙ ap₂ same_words parts_of_table a
      ∙ same_behind (bytes (n ∷ [])) (deck_in s ++ z) (deck_in s ++ replicate (length z) 0)
      ∙ same_behind (deck_in s) z (replicate (length z) 0)
      ∙ same_zeros z

  stored_long_not : most_bytes < get_or (words s) 0 0 → is_stored s ≡ false
  stored_long_not h = ap (λ (b : Bool). b && same_words s (stored (deck_in s))) (eq-eqb (length s) session_bytes l) ∙ by (same_words s (stored (deck_in s))) refl
    where
      whole : length (deck_in s) ≡ most_bytes
      whole = let n = get_or (words s) 0 0 in ap (λ (t : List ℕ). length t) (take_all n (drop 4 s) (omega (arith, length-drop 4 s))) ∙ omega (arith, length-drop 4 s)

      by : (b : Bool) → same_words s (stored (deck_in s)) ≡ b → same_words s (stored (deck_in s)) ≡ false
      by false q = q
      by true q =
          let e : s ≡ stored (deck_in s) = same_words_lem s (stored (deck_in s)) q in
          let w : get_or (words s) 0 0 ≡ length (deck_in s) = ap (λ (t : List ℕ). get_or (words t) 0 0) e ∙ stored_word (deck_in s) (omega (arith, whole)) in
          absurd (omega (arith, whole))

pub stored_short_not : (s : List ℕ) → (length s ≡ session_bytes → ⊥) → is_stored s ≡ false
stored_short_not s h = ap (λ (b : Bool). b && same_words s (stored (deck_in s))) (ne_eqb (length s) session_bytes h)

-- as the code tests it
pub stored_tested : (s z : List ℕ) (n : ℕ) (r : Bool) → length s ≡ session_bytes → Bytes s → n ≡ get_or (words s) 0 0 → n ≤ most_bytes → z ≡ drop (4 + n) s → r ≡ all (λ b. eqb b 0) z → r ≡ is_stored s
stored_tested s z n r l B e h d q = rw (d, e) at q ∙ sym (stored_zeros s l B (omega (arith, h, e)))

pub stored_untested : (s : List ℕ) (n : ℕ) → length s ≡ session_bytes → Bytes s → n ≡ get_or (words s) 0 0 → (n ≤ most_bytes → ⊥) → false ≡ is_stored s
stored_untested s n l B e h = sym (stored_long_not s l B (omega (arith, e, h)))

-- ---- the table, written
four_long : (n : ℕ) → length (bytes (n ∷ [])) ≡ 4
unfolding bytes
four_long n = refl

pub drop_word : (n : ℕ) (r : List ℕ) → drop 4 (bytes (n ∷ []) ++ r) ≡ r
drop_word n r = drop_at (bytes (n ∷ [])) r 4 (four_long n)

-- ys in the place of k bytes behind the word and i others
pub put_in : (n : ℕ) (r ys : List ℕ) (a i k : ℕ) → a ≡ 4 + i → put_mid a k (bytes (n ∷ []) ++ r) ys ≡ bytes (n ∷ []) ++ (take i r ++ (ys ++ drop (i + k) r))
unfolding bytes
put_in n r ys a i k e = rw e (ap₂ {C = List ℕ} ◌++◌ (take_word i) (ap (λ (t : List ℕ). ys ++ t) rest) ∙ append_assoc (bytes (n ∷ [])) (take i r) (ys ++ drop (i + k) r))
  where
    s : List ℕ
    s = bytes (n ∷ []) ++ r

    take_word : (i : ℕ) → take (4 + i) s ≡ bytes (n ∷ []) ++ take i r
    take_word i = let q : 4 + i ≡ suc (suc (suc (suc i))) = omega arith in rw q refl

    behind : drop (4 + i) s ≡ drop i r
    behind = let q : 4 + i ≡ suc (suc (suc (suc i))) = omega arith in rw q refl

    rest : drop k (drop (4 + i) s) ≡ drop (i + k) r
    rest = ap (drop k) behind ∙ drop-drop k i r

pub stored_put : (s c p ys deck : List ℕ) (k : ℕ) → c ≡ replicate (length s) 0 → length s ≡ session_bytes → length deck ≤ most_bytes → p ≡ bytes (length deck ∷ []) ++ drop 4 c → ys ≡ deck → k ≡ length deck
    → put_mid 4 k p ys ≡ stored deck
unfolding stored
stored_put s c p ys deck k z l h e q m =
    let r : drop 4 c ≡ replicate most_bytes 0 = rw (z, l) refl in
    let o : 0 + length deck ≡ length deck = omega arith in
    let d : drop {A = ℕ} (0 + length deck) (replicate most_bytes 0) ≡ replicate (most_bytes - length deck) 0 = rw o (drop-replicate {X = ℕ} (length deck) most_bytes 0) in
    rw (e, r, q, m) (put_in (length deck) (replicate most_bytes 0) deck 4 0 (length deck) refl ∙ ap (λ (t : List ℕ). bytes (length deck ∷ []) ++ (deck ++ t)) d)

-- ---- of a session that holds a deck
pub session_long : (s : List ℕ) → s ≡ stored (deck_in s) → length (deck_in s) ≤ most_bytes → length s ≡ session_bytes
session_long s e h = ap (λ (t : List ℕ). length t) e ∙ stored_long (deck_in s) h

pub session_word : (s : List ℕ) (n : ℕ) → s ≡ stored (deck_in s) → length (deck_in s) ≤ most_bytes → n ≡ get_or (words s) 0 0 → n ≡ length (deck_in s)
session_word s n e h w = w ∙ ap (λ (t : List ℕ). get_or (words t) 0 0) e ∙ stored_word (deck_in s) h
