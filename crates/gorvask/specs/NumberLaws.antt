-- The table of numbers. Assumes nothing.
use Rattle.std.specs.Prelude.{◌≡◌, List, [], ◌++◌, ℕ, ◌+◌, length, drop, replicate}
use Rattle.std.proofs.Common.{sym, ap, ◌∙◌, append-nil, arith, drop_of_length-le}
use Prim.{tt}
use Rattle.std.proofs.lemmas.List.Edits.{sets, sets-eq}
use Rattle.words.specs.Words.{words, bytes}
use Rattle.words.specs.Laws.{Bytes, length_words}
use Rattle.words.specs.Bytes.{bytes_words}
use Rattle.statistics.specs.declared.ClauseStats.{ClauseStats}
use Rattle.clausify.specs.Reply.{Reply}
use Rattle.clausify.specs.Reply as Replies
use Rattle.clausify.specs.Answer.{ten_of}
use Rattle.gorvask.specs.Entry.{numbers_bytes}
use Rattle.gorvask.specs.Replies.{numbers_of, TenWords}

-- a whole table stored from its first word on
pub sets_all : (l w : List ℕ) → length w ≡ length l → sets w 0 l ≡ l
sets_all l w e =
    let k : drop (0 + length l) w ≡ [] = drop_of_length-le w {i = 0 + length l} (omega arith) in
    sets-eq l w 0 (omega arith) ∙ ap (λ (t : List ℕ). l ++ t) k ∙ append-nil l

pub ten_long : (s : List ℕ) → length s ≡ numbers_bytes → length (words s) ≡ 10
ten_long s e = omega (arith, length_words s)

pub ten_bytes : (s l : List ℕ) → Bytes s → length s ≡ numbers_bytes → words s ≡ l → s ≡ bytes l
ten_bytes s l b e h = sym (bytes_words s (omega arith) b) ∙ ap bytes h

-- ---- the table at exit, by the reply
pub numbers_ten : (n : ℕ) (s : List ℕ) (r : Reply) (x : ClauseStats) (fresh_ids visits : ℕ) → r ≡ Replies.Accepted x fresh_ids visits → Bytes s → length s ≡ numbers_bytes
    → words s ≡ ten_of x fresh_ids visits → (s ≡ numbers_of n r) × TenWords (words s) r
numbers_ten n s r x fresh_ids visits e b l h = rw e (ten_bytes s (ten_of x fresh_ids visits) b l h, h)

pub numbers_none : (n : ℕ) (s : List ℕ) (r : Reply) (k line : ℕ) → r ≡ Replies.Refused k line → s ≡ replicate n 0 → (s ≡ numbers_of n r) × TenWords (words s) r
numbers_none n s r k line e h = rw e (h, tt)
