-- The lister's output, byte for byte: 41, 42 and 43, or 49, each number in its 11 columns.
use Rattle.std.specs.Prelude.{Bool, true, false, List, [], ◌∷◌, ◌++◌, ℕ, zero, suc, ◌+◌, ◌*◌, ◌-◌, ◌/◌, ◌%◌, length, replicate, ltb}
use Rattle.ir.specs.Records.{six}
use Rattle.ir.specs.declared.atom.Atom.{Atom}
use Rattle.rules.specs.Text.{columns_of_field}
use Rattle.rules.specs.State.{Clause}
use Rattle.rules.specs.Run.{Lengths, Outcome, accepted, refused, Run, scratch_bytes, ten_numbers}

-- ---- numbers in decimal
abbrev pub decimal_with : (ℕ → List ℕ → List ℕ) → ℕ → List ℕ → Bool → List ℕ
decimal_with more n ds true = (48 + n) ∷ ds
decimal_with more n ds false = more (n / 10) ((48 + n % 10) ∷ ds)

-- the digits of n before ds; ten digits are enough for a word
unfoldable pub decimal_by : ℕ → ℕ → List ℕ → List ℕ
decimal_by zero n ds = ds
decimal_by (suc f) n ds = decimal_with (λ m es. decimal_by f m es) n ds (ltb n 10)

abbrev pub decimal : ℕ → List ℕ
decimal n = decimal_by 10 n []

abbrev pub field_text : ℕ → List ℕ
field_text n = replicate (columns_of_field - length (decimal n)) 32 ++ decimal n

unfoldable pub fields_text : List ℕ → List ℕ
fields_text [] = 10 ∷ []
fields_text (n ∷ l) = field_text n ++ fields_text l

-- ---- the listing
unfoldable pub atoms_text : List Atom → List ℕ
atoms_text [] = []
atoms_text (a ∷ l) = fields_text (42 ∷ six a) ++ atoms_text l

unfoldable pub clauses_text : ℕ → List Clause → List ℕ
clauses_text i [] = []
clauses_text i (c ∷ l) = fields_text (41 ∷ i ∷ length c.body ∷ length c.head ∷ []) ++ (atoms_text (c.body ++ c.head) ++ clauses_text (i + 1) l)

abbrev pub outcome_text : Outcome → List ℕ
outcome_text (accepted a) = clauses_text 0 a.clauses ++ fields_text (43 ∷ ten_numbers a)
outcome_text (refused k line) = fields_text (49 ∷ k ∷ line ∷ [])

-- 1,024 clauses, 2,048 atoms, 256 deferrals
abbrev pub lister_lengths : Lengths
lister_lengths = record { clauses = 12 * 1024; atoms = 24 * 2048; deferrals = 8 * 256; scratch = scratch_bytes }

unfoldable pub listing : List ℕ → List ℕ
listing deck = outcome_text (Run deck lister_lengths)
