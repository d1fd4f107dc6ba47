-- The answer of head_atom_for beside the counters that it leaves: the atom, the Rust's None, or a refusal's number.
use Rattle.std.specs.Prelude.{ℕ, Option, Some, None, Result, Ok, Err}
use Rattle.ir.specs.Refusals.{refusal_number}
use Rattle.ir.specs.declared.atom.Atom.{Atom}
use Rattle.ir.specs.declared.counters.Counters.{Counters}
use Rattle.ir.specs.declared.refusal.Refusal.{Refusal}

pub data Headed : Type 0 where
  Made : Counters → Atom → Headed
  Absent : Counters → Headed
  Refused : ℕ → Headed

abbrev pub headed : Counters → Result (Option Atom) Refusal → Headed
headed k (Ok (Some a)) = Made k a
headed k (Ok None) = Absent k
headed k (Err e) = Refused (refusal_number e)
