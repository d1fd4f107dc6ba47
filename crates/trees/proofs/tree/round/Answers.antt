use mathlib.Core.Path.{refl, ◌∙◌}
use native.Mathlib.Omega.{arith}
use Rattle.words.specs.Words.{words}
use Rattle.trees.specs.RoundLaws.{walking_start, walking_room, walking_next, walking_end}
use Rattle.std.proofs.Common.{true, is_some, unwrap_or}
use Rattle.trees.proofs.tree.round.Goals as goal
use Rattle.trees.proofs.tree.round.Goals.{in-Some, in_default}

pub loop-j-init : goal.loop-j-init
loop-j-init c = (refl, refl, walking_start (words c.args.scratch.now) c.args.placed.now c.args.atoms.base c.args.atoms.count c.args.bound c.requires.4)

pub visit-requires : goal.visit-requires
visit-requires c =
    let L = c.loop-j in
    let h = c.loop-j-test.true in
    (omega (arith, c.requires.0), omega (arith, c.requires.1, L.invariant.1), omega (arith, c.requires.3, L.invariant.0), λ e. rw c.unwrap_or-n.ensures (walking_room (words c.args.scratch.now) c.args.placed.now c.args.atoms.base c.args.atoms.count c.args.bound (words L.scratch) L.placed _ _ L.j L.invariant.2 c.requires.2 (omega (arith, c.requires.1, L.invariant.1)) h e))

pub loop-j-preserved : goal.loop-j-preserved
loop-j-preserved c =
    let L = c.loop-j in
    let r = c.visit in
    let n = unwrap_or L.grown c.args.bound in
    let m = is_some L.grown in
    let next = walking_next (words c.args.scratch.now) c.args.placed.now c.args.atoms.base c.args.atoms.count c.args.bound (words L.scratch) L.placed n m L.j L.invariant.2 c.loop-j-test.true c.requires.0 (omega (arith, c.requires.1, L.invariant.1)) in (
      r.auto.scratch ∙ L.invariant.0,
      r.auto.placed ∙ L.invariant.1,
      elim c.match-visit.branch [
        | in-Some w ↦ rw w.grown-is (next w.in-Some.m true (words r.new.scratch) r.new.placed (rw c.unwrap_or-n.ensures at (w.in-Some.ensures m)))
        | in_default w ↦ rw w.grown-is (next n m (words r.new.scratch) r.new.placed (rw c.unwrap_or-n.ensures at (w.in_default.ensures m)))
      ],
    )

pub returns : goal.returns
returns c = let L = c.loop-j in walking_end (words c.args.scratch.now) c.args.placed.now c.args.atoms.base c.args.atoms.count c.args.bound (words L.scratch) L.placed _ _ L.j L.invariant.2 c.loop-j-test.false
