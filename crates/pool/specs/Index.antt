-- The index: for each hash the last record that has it, for each record the one before it with its hash, as one more than its
-- number; 0 is none.
use Rattle.std.specs.Prelude.{List, [], ◌∷◌, ℕ, zero, suc, ◌+◌, ◌*◌, ◌%◌, eqb}
use Rattle.ir.specs.Pick.{pick}
use Rattle.rules.specs.Concept.{Concept}
use Rattle.pool.specs.declared.record.Record.{Record}
use Rattle.pool.specs.Layout.{plain, listed, concept_at}

abbrev pub mixed : ℕ → ℕ → ℕ
mixed h x = (31 * h + x) % 2048

unfoldable pub hash_by : ℕ → List ℕ → ℕ
hash_by h [] = h
hash_by h (x ∷ l) = hash_by (mixed h x) l

-- of a record's four words, and of a concept
abbrev pub record_hash : Record → ℕ
record_hash x = mixed (mixed (mixed (mixed 0 x.kind) x.role) x.number) x.child

abbrev pub hash_of : Concept → ℕ
hash_of e = hash_by (record_hash (plain e)) (listed e)

abbrev pub hash_at : List ℕ → ℕ → ℕ
hash_at w c = hash_of (concept_at w c)

-- one more than the last number below n whose hash is h, or 0
unfoldable pub last : (ℕ → ℕ) → ℕ → ℕ → ℕ
last H zero h = 0
last H (suc n) h = pick (eqb (H n) h) (suc n) (last H n h)
