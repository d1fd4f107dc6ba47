use mathlib.Core.Path.{◌≡◌}
use Prim.Native.Nat.{◌+◌, ◌*◌}
use lib.ListN.{length}
use Rattle.words.specs.Words.{words}
use Rattle.pool.specs.Layout.{members_at, pool_of}
use Rattle.tables.specs.Lending.{SameReferences}
use Rattle.hands.specs.Hands.{four_of}
use Rattle.heads.specs.QueueLoops.{TurnQueues, TurnedQueues}
use Rattle.heads.specs.LoopLaws.{Turn, Turned}
use Rattle.heads.proofs.emit.+atomic_name_of_emit_all_emit_head_emit_or_emit_under_head_atom_for_name_filler_name_new.Given as goal

abbrev pub decreases-atomic_name_of : goal.decreases-atomic_name_of
decreases-atomic_name_of l = 8 * l.c + 3

abbrev pub decreases-emit_all : goal.decreases-emit_all
decreases-emit_all l = 8 * l.c

abbrev pub decreases-emit_head : goal.decreases-emit_head
decreases-emit_head l = 8 * l.c + 1

abbrev pub decreases-emit_or : goal.decreases-emit_or
decreases-emit_or l = 8 * l.c

abbrev pub decreases-emit_under : goal.decreases-emit_under
decreases-emit_under l = 8 * l.c

abbrev pub decreases-head_atom_for : goal.decreases-head_atom_for
decreases-head_atom_for l = 8 * l.c + 4

abbrev pub decreases-name_filler : goal.decreases-name_filler
decreases-name_filler l = 8 * l.c

abbrev pub decreases-name_new : goal.decreases-name_new
decreases-name_new l = 8 * l.c + 2

abbrev pub invariant-emit_all-loop-i : goal.invariant-emit_all-loop-i
invariant-emit_all-loop-i l =
    let w = words l.initial.scratch in
    let k = l.initial.lent.counters in
    let P = pool_of w k.concepts in
    let x = four_of w l.initial.lent in
    let y = four_of (words l.scratch) l.lent in
    Turn P w (members_at + l.start) l.count k l.base l.n l.c l.v x y l.lent.counters l.i × (length l.scratch ≡ length l.initial.scratch) × SameReferences l.initial.lent l.lent
    × TurnQueues P w (members_at + l.start) l.count k l.base l.n l.c l.v x y l.lent.counters l.i

abbrev pub invariant-emit_or-loop-i : goal.invariant-emit_or-loop-i
invariant-emit_or-loop-i l =
    let w = words l.initial.scratch in
    let k = l.initial.lent.counters in
    let P = pool_of w k.concepts in
    let x = four_of w l.initial.lent in
    let y = four_of (words l.scratch) l.lent in
    Turned P w (members_at + l.start) l.count k l.base l.n l.c l.v x y l.lent.counters l.i × (length l.scratch ≡ length l.initial.scratch) × SameReferences l.initial.lent l.lent
    × TurnedQueues P w (members_at + l.start) l.count k l.base l.n l.c l.v x y l.lent.counters l.i
