use mathlib.Core.Path.{◌∙◌}
use native.Mathlib.Omega.{arith}
use Rattle.words.specs.Words.{words}
use Rattle.decomposition.specs.BranchRecords.{branch_room, branch_there, branches_next, clauses_are, atoms_are}
use Rattle.decomposition.proofs.place.put_named.Goals as goal

pub put_branch-requires : goal.put_branch-requires
put_branch-requires c =
    let e = c.args in
    let L = c.loop-i in
    let g = c.get_word-n in
    let r = branch_room (words e.scratch.now) e.s e.c e.to (words e.clauses.now) (words e.atoms.now) (words L.clauses) (words L.atoms) L.p L.a L.i L.invariant.0 c.requires.0 c.loop-i-test.true g.result g.ensures in (
      omega (arith, r.0, r.1, c.requires.2),
      omega (arith, r.2, c.requires.4, L.invariant.2),
      branch_there (words e.scratch.now) e.s e.c e.to (words e.clauses.now) (words e.atoms.now) (words L.clauses) (words L.atoms) L.p L.a L.i L.invariant.0 c.requires.0 c.loop-i-test.true g.result g.ensures,
      omega (arith, c.loop-i-test.true, c.requires.1, c.requires.3, c.requires.5.clauses),
    )

pub overflow_add-a : goal.overflow_add-a
overflow_add-a c =
    let e = c.args in
    let L = c.loop-i in
    let g = c.get_word-n in
    let r = branch_room (words e.scratch.now) e.s e.c e.to (words e.clauses.now) (words e.atoms.now) (words L.clauses) (words L.atoms) L.p L.a L.i L.invariant.0 c.requires.0 c.loop-i-test.true g.result g.ensures in
    omega (arith, r.2, c.requires.4, c.requires.5.atoms)

pub overflow_add-a-in-loop-i : goal.overflow_add-a-in-loop-i
overflow_add-a-in-loop-i c =
    let e = c.args in
    let L = c.loop-i in
    let g = c.get_word-n in
    let r = branch_room (words e.scratch.now) e.s e.c e.to (words e.clauses.now) (words e.atoms.now) (words L.clauses) (words L.atoms) L.p L.a L.i L.invariant.0 c.requires.0 c.loop-i-test.true g.result g.ensures in
    omega (arith, r.2, c.requires.4, c.requires.5.atoms)

pub loop-i-preserved : goal.loop-i-preserved
loop-i-preserved c =
    let e = c.args in
    let L = c.loop-i in (
      branches_next (words e.scratch.now) e.s e.c e.to (words e.clauses.now) (words e.atoms.now) (words L.clauses) (words L.atoms) L.p L.a L.i L.invariant.0 c.loop-i-test.true c.get_word-n.result c.get_word-n.ensures (words c.put_clause.new.clauses) (words c.put_branch.new.atoms) c.put_clause.ensures c.put_branch.ensures,
      c.put_clause.auto.clauses ∙ L.invariant.1,
      c.put_branch.auto.atoms ∙ L.invariant.2,
    )

pub returns-clause-clauses_after : goal.returns-clause-clauses_after
returns-clause-clauses_after c =
    let e = c.args in
    let L = c.loop-i in
    clauses_are (words e.scratch.now) e.s e.c e.to (words e.clauses.now) (words e.atoms.now) (words L.clauses) (words L.atoms) L.p L.a L.i L.invariant.0 c.loop-i-test.false

pub returns-clause-atoms_after : goal.returns-clause-atoms_after
returns-clause-atoms_after c =
    let e = c.args in
    let L = c.loop-i in
    atoms_are (words e.scratch.now) e.s e.c e.to (words e.clauses.now) (words e.atoms.now) (words L.clauses) (words L.atoms) L.p L.a L.i L.invariant.0 c.loop-i-test.false
