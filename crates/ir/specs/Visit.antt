-- A visit: the counters with one more, or none is left.
use Rattle.std.specs.Prelude.{Result, Ok, Err}
use Prim.{Unit}
use Rattle.ir.specs.declared.counters.Counters.{Counters}
use Rattle.ir.specs.declared.refusal.Refusal.{Refusal}

pub data Visit : Type 0 where
  Begun : Counters → Visit
  Full : Visit

abbrev pub visit_of : Counters → Result (Unit {0}) Refusal → Visit
visit_of k (Ok u) = Begun k
visit_of k (Err e) = Full
