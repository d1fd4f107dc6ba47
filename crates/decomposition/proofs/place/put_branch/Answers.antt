use mathlib.Core.Path.{◌∙◌}
use native.Mathlib.Omega.{arith}
use Rattle.words.specs.Words.{words}
use Rattle.decomposition.specs.BranchAtoms.{atom_fits, atoms_next, atoms_end}
use Rattle.decomposition.proofs.place.put_branch.Goals as goal

pub put_atom-requires : goal.put_atom-requires
put_atom-requires c =
    let L = c.loop-j in
    let a = c.args in
    let h = c.loop-j-test.true in (
      omega (arith, h, c.requires.1, L.invariant.1),
      atom_fits (words a.scratch.now) a.p a.n a.at a.name (words a.atoms.now) (words L.atoms) L.j L.invariant.0 h c.unpack.result (λ y k e. c.unpack.ensures y k (c.get_word.ensures ∙ e)) c.requires.2,
    )

pub loop-j-preserved : goal.loop-j-preserved
loop-j-preserved c =
    let L = c.loop-j in
    let a = c.args in
    let h = c.loop-j-test.true in (
      atoms_next (words a.scratch.now) a.p a.n a.at a.name (words a.atoms.now) (words L.atoms) L.j L.invariant.0 h c.unpack.result (λ y k e. c.unpack.ensures y k (c.get_word.ensures ∙ e)) (words c.put_atom.new.t) c.put_atom.ensures,
      c.put_atom.auto.t ∙ L.invariant.1,
    )

pub returns : goal.returns
returns c =
    let L = c.loop-j in
    let a = c.args in
    atoms_end (words a.scratch.now) a.p a.n a.at a.name (words a.atoms.now) (words L.atoms) L.j L.invariant.0 c.loop-j-test.false (words c.put_atom-2.new.t) c.put_atom-2.ensures
