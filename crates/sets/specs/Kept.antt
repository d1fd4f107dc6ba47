-- Sets in words, two words to a set, the low one first.
use Rattle.std.specs.Prelude.{List, [], ◌∷◌, ℕ, ◌+◌, ◌*◌, ◌/◌, ◌%◌, get_or}
use Rattle.std.proofs.lemmas.List.Edits.{sets}

-- set i of the words w
abbrev pub set_at : List ℕ → ℕ → ℕ
set_at w i = get_or w (2 * i) 0 + 4294967296 * get_or w (2 * i + 1) 0

abbrev pub set_put : List ℕ → ℕ → ℕ → List ℕ
set_put w i m = sets w (2 * i) ((m % 4294967296) ∷ (m / 4294967296) ∷ [])
