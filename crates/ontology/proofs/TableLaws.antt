-- The reader's table in scratch. Assumes nothing.
use mathlib.Core.Path.{◌≡◌, sym, ap, ◌∙◌}
use mathlib.Core.List.{List}
use Prim.Native.Nat.{ℕ, ◌+◌, ◌*◌, ◌≤◌}
use native.Mathlib.Omega.{arith}
use borrow.Rule.Slice.PartMut.{mid_of}
use lib.ListN.{length, get_or, take, drop, length-drop}
use lib.Seq.{length-take-le}
use Rattle.words.specs.Words.{words}
use Rattle.words.specs.Laws.{words_take, words_drop, length_words}
use Rattle.ir.specs.Scratch.{lines_at, stack_at, hands_at}
use Rattle.deck.specs.Records.{table_bytes}
use Rattle.pool.specs.Tabs.{run_part, tab_same}
use Rattle.ontology.specs.Lines.{Kept, table_words, table_in, table_of}

-- the part that is lent
pub part_long : (s : List ℕ) → 4 * stack_at ≤ length s → length (mid_of 204800 28672 s) ≡ table_bytes
part_long s h = length-take-le table_bytes (drop (4 * lines_at) s) (simp length-drop (omega arith))

pub part_room : (s : List ℕ) → 4 * hands_at ≤ length s → table_bytes ≤ length (mid_of 204800 28672 s)
part_room s h = rw (part_long s (omega arith)) (omega arith)

-- its words
pub part_words : (s : List ℕ) → 4 * stack_at ≤ length s → words (mid_of 204800 28672 s) ≡ table_of (words s)
part_words s h =
    let l : lines_at + table_words ≤ length (words s) = rw (length_words s) (omega arith) in
    words_take table_words (drop (4 * lines_at) s) ∙ ap (take table_words) (words_drop lines_at s) ∙ sym (run_part (words s) lines_at table_words l)

pub table_words_lem : (s : List ℕ) → 4 * stack_at ≤ length s → words (table_in s) ≡ table_of (words s)
unfolding table_in
table_words_lem s h = part_words s h

-- words that leave it alone
pub table_kept : (a b : ℕ) (w w' : List ℕ) → a ≤ lines_at → stack_at ≤ b → Kept a b w w' → table_of w' ≡ table_of w
table_kept a b w w' h k K = tab_same (λ j. get_or w' j 0) (λ j. get_or w j 0) lines_at lines_at table_words (λ i l. K (lines_at + i) (omega arith) (omega arith))
