-- A deck that was read is its lines, and lines whose rows pass are a deck that is read. Assumes nothing.
use Rattle.std.specs.Prelude.{◌≡◌, refl, Bool, true, false, List, [], ◌∷◌, ℕ, suc, ◌≤◌, ◌<◌, ltb, length}
use Rattle.std.proofs.Common.{ap, ◌∙◌, arith, ltb-false, le-ltb}
use Rattle.ir.specs.Pick.{pick}
use Rattle.rules.specs.Invariants.{Each}
use Rattle.rules.specs.Deck.{most_bytes, Known, nothing, fine, refused, read_by, read_lines, read_deck}
use Rattle.spelling.specs.Lines.{Line, IsRow, text_of, check_rows, HasLines, read_rows, lines_read, not_fine}

pub deck_short : (deck : List ℕ) (d : Known) → read_deck deck ≡ fine d → length deck ≤ most_bytes
unfolding read_deck
deck_short deck d e = by (ltb most_bytes (length deck)) refl e
  where
    by : (b : Bool) → ltb most_bytes (length deck) ≡ b → pick b (refused 2 0) (read_lines deck) ≡ fine d → length deck ≤ most_bytes
    by true q e = not_fine 2 0 d e
    by false q e = ltb-false most_bytes (length deck) q

pub deck_lines : (deck : List ℕ) (d : Known) → read_deck deck ≡ fine d → HasLines nothing 1 deck d
unfolding read_deck
deck_lines deck d e = by (ltb most_bytes (length deck)) e
  where
    some : (s : List ℕ) → read_lines s ≡ fine d → HasLines nothing 1 s d
    some [] e = not_fine 3 1 d e
    some (b ∷ s) e = lines_read (suc (length (b ∷ s))) nothing 1 (b ∷ s) d e

    by : (b : Bool) → pick b (refused 2 0) (read_lines deck) ≡ fine d → HasLines nothing 1 deck d
    by true e = not_fine 2 0 d e
    by false e = some deck e

pub lines_deck : (deck : List ℕ) (l : List Line) → deck ≡ text_of l → Each IsRow l → length deck ≤ most_bytes → 0 < length deck → read_deck deck ≡ check_rows nothing 1 l
unfolding read_deck
lines_deck deck l e R h n = rw (le-ltb most_bytes (length deck) h) (some deck e n)
  where
    some : (s : List ℕ) → s ≡ text_of l → 0 < length s → read_lines s ≡ check_rows nothing 1 l
    some [] e n = absurd (omega arith)
    some (b ∷ s) e n = ap (λ (z : List ℕ). read_by (suc (length (b ∷ s))) nothing 1 z) e ∙ read_rows l (suc (length (b ∷ s))) nothing 1 R (omega (arith, ap (λ (z : List ℕ). length z) e))

pub deck_some : (deck : List ℕ) (d : Known) → read_deck deck ≡ fine d → 0 < length deck
unfolding read_deck
deck_some [] d e = not_fine 3 1 d e
deck_some (b ∷ s) d e = omega arith
