-- Words written at their new places in the tables. Assumes nothing.
use Rattle.std.specs.Prelude.{◌≡◌, List, ℕ, ◌+◌, ◌*◌, ◌-◌, take, drop}
use Rattle.std.proofs.Common.{ap, ◌∙◌, arith}
use Rattle.std.proofs.lemmas.List.Edits.{sets}
use Rattle.words.specs.Words.{words}
use Rattle.tables.specs.AtomLaws.{words_part}
use Rattle.decomposition.specs.Placing.{moved}

-- ---- n records of the bytes s from record `base` on, behind which others come down
pub part_then_moved : (s : List ℕ) (base n at from to m : ℕ) (a a₁ a₂ : List ℕ) → a₁ ≡ sets a at (words (take (24 * (base + n) - 24 * base) (drop (24 * base) s))) → a₂ ≡ moved a₁ from to m
    → a₂ ≡ moved (sets a at (take (6 * n) (drop (6 * base) (words s)))) from to m
part_then_moved s base n at from to m a a₁ a₂ e f =
    f ∙ ap (λ (x : List ℕ). moved x from to m) (e ∙ ap (sets a at) (words_part s (6 * base) (6 * n) (24 * base) (24 * (base + n)) (omega arith) (omega arith)))
