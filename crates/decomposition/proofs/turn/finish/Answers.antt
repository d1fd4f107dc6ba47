use mathlib.Core.Path.{refl, ap₂, ◌∙◌}
use mathlib.Core.List.{List}
use Prim.Native.Nat.{ℕ, ◌+◌, ◌*◌}
use native.Mathlib.Omega.{arith}
use lib.ListN.{replicate}
use lib.Seq.{sets}
use Rattle.words.specs.Words.{words}
use Rattle.words.specs.Laws.{length_words}
use Rattle.decomposition.specs.EndLaws.{end_named, end_used, end_clauses, end_atoms, end_to}
use Rattle.decomposition.specs.FinishLaws.{no_clauses, no_atoms, ends_shown}
use Rattle.decomposition.proofs.turn.finish.Goals as goal

pub overflow_add-last : goal.overflow_add-last
overflow_add-last c =
    let E = c.requires.0 in
    let k = c.args.k.now in
    let s = c.args.p.naming in
    let to = c.args.p.atoms in
    let n = c.args.p.rewritten in
    let w = words c.args.scratch.now in
    let cl = words c.args.clauses.now in
    let at = words c.args.atoms.now in
    let lc = length_words c.args.clauses.now in
    omega (arith, end_named k w cl at s to n E, end_clauses k w cl at s to n E, lc, c.requires.2.clauses)

pub overflow_add-end : goal.overflow_add-end
overflow_add-end c =
    let E = c.requires.0 in
    let k = c.args.k.now in
    let s = c.args.p.naming in
    let to = c.args.p.atoms in
    let n = c.args.p.rewritten in
    let w = words c.args.scratch.now in
    let cl = words c.args.clauses.now in
    let at = words c.args.atoms.now in
    let la = length_words c.args.atoms.now in
    omega (arith, end_used k w cl at s to n E, end_to k w cl at s to n E, end_atoms k w cl at s to n E, la, c.requires.2.atoms)

pub returns-then-clause_room-last : goal.returns-then-clause_room-last
returns-then-clause_room-last c =
    let k = c.args.k.now in
    let s = c.args.p.naming in
    let to = c.args.p.atoms in
    let n = c.args.p.rewritten in
    let w = words c.args.scratch.now in
    let cl = words c.args.clauses.now in
    let at = words c.args.atoms.now in
    let lc = length_words c.args.clauses.now in
    λ c0 a0 D P. no_clauses k c0 a0 D w cl at s to n P (omega (arith, c.if-clause_room-last.true, c.clause_room.ensures, lc, P.half.same_clauses, D.lent.clauses))

pub returns-then-atom_room-end : goal.returns-then-atom_room-end
returns-then-atom_room-end c =
    let k = c.args.k.now in
    let s = c.args.p.naming in
    let to = c.args.p.atoms in
    let n = c.args.p.rewritten in
    let w = words c.args.scratch.now in
    let cl = words c.args.clauses.now in
    let at = words c.args.atoms.now in
    let la = length_words c.args.atoms.now in
    λ c0 a0 D P. no_atoms k c0 a0 D w cl at s to n P (omega (arith, c.if-atom_room-end.true, c.atom_room.ensures, la, P.half.same_atoms, D.lent.atoms))

pub put_named-requires : goal.put_named-requires
put_named-requires c =
    let E = c.requires.0 in
    let k = c.args.k.now in
    let s = c.args.p.naming in
    let to = c.args.p.atoms in
    (record { state = E.passed.state; held = E.passed.held }, omega (arith, E.passed.first, E.before.classes), c.requires.1, omega (arith, c.if-clause_room-last.false, c.clause_room.ensures), omega (arith, c.if-atom_room-end.false, c.atom_room.ensures), c.requires.2)

pub clear_words-requires : goal.clear_words-requires
clear_words-requires c =
    let E = c.requires.0 in
    let k = c.args.k.now in
    let s = c.args.p.naming in
    let to = c.args.p.atoms in
    let n = c.args.p.rewritten in
    let w = words c.args.scratch.now in
    let cl = words c.args.clauses.now in
    let at = words c.args.atoms.now in
    let la = length_words c.args.atoms.now in
    let put = c.put_named in
    omega (arith, c.saturating_sub-left.ensures, end_atoms k w cl at s to n E, la, c.if-atom_room-end.false, c.atom_room.ensures, put.auto.atoms)

pub overflow_add-k : goal.overflow_add-k
overflow_add-k c =
    let E = c.requires.0 in
    omega (arith, E.passed.first, E.before.classes, end_named c.args.k.now (words c.args.scratch.now) (words c.args.clauses.now) (words c.args.atoms.now) c.args.p.naming c.args.p.atoms c.args.p.rewritten E)

pub returns : goal.returns
returns c =
    let k = c.args.k.now in
    let s = c.args.p.naming in
    let to = c.args.p.atoms in
    let n = c.args.p.rewritten in
    let w = words c.args.scratch.now in
    let cl = words c.args.clauses.now in
    let at = words c.args.atoms.now in
    let lc = length_words c.args.clauses.now in
    let la = length_words c.args.atoms.now in
    let put = c.put_named in
    let cleared = c.clear_words in
    let behind = c.saturating_sub-left in
    let end = to + s.used in
    λ c0 a0 D P.
    ends_shown k c0 a0 D w cl at s to n P
    (omega (arith, c.if-clause_room-last.false, c.clause_room.ensures, lc, P.half.same_clauses, D.lent.clauses))
    (omega (arith, c.if-atom_room-end.false, c.atom_room.ensures, la, P.half.same_atoms, D.lent.atoms))
    _ (words put.new.clauses) (words cleared.new.s) refl (put.ensures.clauses_after P.state P.held)
    (cleared.ensures ∙ ap₂ (λ (t : List ℕ) (j : ℕ). sets t (6 * end) (replicate (6 * j) 0)) (put.ensures.atoms_after P.state P.held) behind.ensures)
