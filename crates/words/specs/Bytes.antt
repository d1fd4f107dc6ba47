-- `bytes` and `words` are inverse: on words below 2 ^ 32, and on whole words of bytes. Assumes nothing.
use Rattle.std.specs.Prelude.{◌≡◌, refl, List, [], ◌∷◌, ◌++◌, ℕ, zero, suc, ◌*◌, ◌/◌, ◌%◌, ◌<◌, ◌^◌, length, get_or, replicate}
use Rattle.std.proofs.Common.{ap, ◌∙◌, arith}
use Rattle.words.specs.Words.{words, bytes}
use Rattle.words.specs.Laws.{split, Bytes, words_inj, length_words}

-- every number is a word
abbrev pub Words : List ℕ → Type 0
Words l = (k : ℕ) → get_or l k 0 < 2 ^ 32

pub length_bytes : (l : List ℕ) → length (bytes l) ≡ 4 * length l
unfolding bytes
length_bytes [] = refl
length_bytes (w ∷ l) = let h = length_bytes l in omega arith

pub bytes_append : (l m : List ℕ) → bytes (l ++ m) ≡ bytes l ++ bytes m
unfolding bytes
bytes_append [] m = refl
bytes_append (w ∷ l) m =
    ap (λ (t : List ℕ). (w % 256) ∷ (w / 256 % 256) ∷ (w / 65536 % 256) ∷ (w / 16777216 % 256) ∷ t) (bytes_append l m)

pub bytes_zeros : (n : ℕ) → bytes (replicate n 0) ≡ replicate (4 * n) 0
unfolding bytes
bytes_zeros zero = refl
bytes_zeros (suc n) =
    let e : 4 * suc n ≡ suc (suc (suc (suc (4 * n)))) = omega arith in
    rw (e, bytes_zeros n) refl

pub bytes_small : (l : List ℕ) → Bytes (bytes l)
unfolding bytes
bytes_small [] k = omega arith
bytes_small (w ∷ l) zero = omega arith
bytes_small (w ∷ l) (suc zero) = omega arith
bytes_small (w ∷ l) (suc (suc zero)) = omega arith
bytes_small (w ∷ l) (suc (suc (suc zero))) = omega arith
bytes_small (w ∷ l) (suc (suc (suc (suc k)))) = bytes_small l k

pub words_small : (s : List ℕ) → Bytes s → Words (words s)
unfolding words
words_small [] b k = omega arith
words_small (x ∷ []) b k = omega arith
words_small (x ∷ y ∷ []) b k = omega arith
words_small (x ∷ y ∷ z ∷ []) b k = omega arith
words_small (x ∷ y ∷ z ∷ v ∷ s) b zero = omega (arith, b 0, b 1, b 2, b 3)
words_small (x ∷ y ∷ z ∷ v ∷ s) b (suc k) = words_small s (λ n. b (suc (suc (suc (suc n))))) k

pub words_bytes : (l : List ℕ) → Words l → words (bytes l) ≡ l
unfolding words bytes
words_bytes [] h = refl
words_bytes (w ∷ l) h = rw (split w (h 0), words_bytes l (λ k. h (suc k))) refl

pub bytes_words : (s : List ℕ) → length s % 4 ≡ 0 → Bytes s → bytes (words s) ≡ s
bytes_words s m b =
    let e : length (bytes (words s)) ≡ length s = length_bytes (words s) ∙ rw (length_words s) (omega arith) in
    words_inj (bytes (words s)) s e (rw e m) (bytes_small (words s)) b (words_bytes (words s) (words_small s b))
