-- What a table holds once a part that starts in its middle, lent to a call, is back. Assumes nothing.
use mathlib.Core.Path.{◌≡◌, refl, sym, ap, ◌∙◌}
use mathlib.Core.List.{List, ◌++◌, append-nil, append_assoc}
use Prim.Native.Nat.{ℕ, ◌+◌, ◌*◌, ◌-◌, ◌≤◌}
use native.Mathlib.Omega.{arith}
use lib.ListN.{length, take, drop, length-drop, drop_of_length-le}
use lib.Seq.{sets, sets-eq, take_all, drop-drop}
use borrow.Rule.Slice.PartMut.{put_mid, mid_of}
use Rattle.words.specs.Words.{words}
use Rattle.words.specs.Runs.{words_sets}

-- `&mut s[a..]`: what was lent, and what is back
pub lent_from : (a : ℕ) (s : List ℕ) → mid_of a (length s - a) s ≡ drop a s
lent_from a s = take_all (length s - a) (drop a s) (simp length-drop (omega arith))

pub back_from : (a : ℕ) (s ys : List ℕ) → put_mid a (length s - a) s ys ≡ take a s ++ ys
back_from a s ys =
    let h : length (drop a s) ≤ length s - a = simp length-drop (omega arith) in
    rw (drop_of_length-le (drop a s) h, append-nil)

-- `&mut s[a..b]`: a run of stores
pub back_part : (a b : ℕ) (s ys : List ℕ) → a ≤ b → b ≤ length s → length ys ≡ b - a → put_mid a (b - a) s ys ≡ sets s a ys
back_part a b s ys h k l =
    let e : a + length ys ≡ a + (b - a) = omega arith in
    sym (sets-eq ys s a (omega arith) ∙ rw (e, append_assoc, ← drop-drop (b - a) a s) refl)

-- the same in words
pub back_words : (a b : ℕ) (s ys : List ℕ) → a ≤ b → 4 * b ≤ length s → length ys ≡ 4 * b - 4 * a → words (put_mid (4 * a) (4 * b - 4 * a) s ys) ≡ sets (words s) a (words ys)
back_words a b s ys h k l = ap words (back_part (4 * a) (4 * b) s ys (omega arith) k l) ∙ words_sets s ys a (omega arith) (omega arith)
