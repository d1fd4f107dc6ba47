use mathlib.Core.Path.{◌≡◌}
use lib.ListN.{length}
use Rattle.words.specs.Words.{words}
use Rattle.pool.specs.Layout.{pool_of}
use Rattle.rules.specs.Heads.{emit_head}
use Rattle.hands.specs.Hands.{four_of}
use Rattle.tables.specs.Lending.{SameReferences}
use Rattle.axioms.specs.Bodies.{BodiedAt, WaitsAt}
use Rattle.axioms.proofs.bodies.emit_bodies.Given as goal

abbrev pub invariant-loop-i : goal.invariant-loop-i
invariant-loop-i l = BodiedAt (λ env b. emit_head env (pool_of (words l.initial.scratch) l.initial.lent.counters.concepts) b l.head 0) l.initial.lent.counters l.sub l.y l.count (four_of (words l.initial.scratch) l.initial.lent) (four_of (words l.scratch) l.lent) l.lent.counters l.i
    × (length l.scratch ≡ length l.initial.scratch) × SameReferences l.initial.lent l.lent
    × WaitsAt (λ env b. emit_head env (pool_of (words l.initial.scratch) l.initial.lent.counters.concepts) b l.head 0) l.initial.lent.counters l.sub l.y l.count (four_of (words l.initial.scratch) l.initial.lent) (four_of (words l.scratch) l.lent) l.lent.counters l.i
