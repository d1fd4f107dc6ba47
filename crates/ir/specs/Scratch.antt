-- The regions of scratch, by their first words; each ends where the next begins.
use Rattle.std.specs.Prelude.{ℕ}

abbrev pub marks_at : ℕ
marks_at = 30720

abbrev pub keys_at : ℕ
keys_at = 32768

abbrev pub roles_at : ℕ
roles_at = 36864

abbrev pub alternatives_at : ℕ
alternatives_at = 38912

abbrev pub axioms_at : ℕ
axioms_at = 43008

abbrev pub numbers_at : ℕ
numbers_at = 45056

abbrev pub lines_at : ℕ
lines_at = 51200

abbrev pub stack_at : ℕ
stack_at = 58368

abbrev pub normal_forms_at : ℕ
normal_forms_at = 76800

abbrev pub hands_at : ℕ
hands_at = 81000

abbrev pub limits_at : ℕ
limits_at = 300000

-- a count, and a filler and a name for each of 2,048 limits
abbrev pub limits_words : ℕ
limits_words = 4097
