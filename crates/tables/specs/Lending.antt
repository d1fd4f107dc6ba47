-- The lent tables as one value.
use Rattle.std.specs.Prelude.{◌≡◌, length}
use Rattle.tables.specs.declared.lent.Tables.{Tables}

-- they are the same tables, of the same sizes, whatever stands in them
abbrev pub SameReferences : Tables → Tables → Type 0
SameReferences t t' = (t'.clauses.ghost_name ≡ t.clauses.ghost_name) × (t'.atoms.ghost_name ≡ t.atoms.ghost_name) × (t'.deferrals.ghost_name ≡ t.deferrals.ghost_name)
    × (length t'.clauses.now ≡ length t.clauses.now) × (length t'.atoms.now ≡ length t.atoms.now) × (length t'.deferrals.now ≡ length t.deferrals.now)
