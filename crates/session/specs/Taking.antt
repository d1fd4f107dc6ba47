-- Whether a session holds a deck, for a taking's refusal.
use Rattle.std.specs.Prelude.{Bool, true, false, List, ℕ}
use Rattle.session.specs.Session.{Holding, holds, no_deck, live}

abbrev pub is_held : Holding → Bool
is_held (holds deck d) = true
is_held no_deck = false

-- with scratch of n bytes
abbrev pub holds_deck : List ℕ → ℕ → Bool
holds_deck s n = is_held (live s n)
