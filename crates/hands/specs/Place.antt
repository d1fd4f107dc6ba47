-- Where hands stand in scratch.
use Rattle.std.specs.Prelude.{ℕ}

-- the first atom in hand, and the bytes of scratch up to the last one that a clause or an axiom needs
abbrev pub hand_at : ℕ
hand_at = 13500

abbrev pub in_hand_bytes : ℕ
in_hand_bytes = 338400
