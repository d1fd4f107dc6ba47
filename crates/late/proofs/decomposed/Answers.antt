use mathlib.Core.Path.{ap}
use mathlib.Core.Bool.{not}
use Rattle.words.specs.Words.{words}
use Rattle.ir.specs.Answer.{answer}
use Rattle.late.specs.LaterLaws.{decomposed_not, decomposed_so}
use Rattle.late.proofs.decomposed.Goals as goal

pub returns-then-not-body_decompose : goal.returns-then-not-body_decompose
returns-then-not-body_decompose c =
    let t = c.args in
    let b = c.body_decompose in
    λ D. decomposed_not t.k.now (words t.clauses.now) (words t.atoms.now) D b.result b.ensures (ap not c.if-not-body_decompose.true)

pub returns : goal.returns
returns c =
    let t = c.args in
    let b = c.body_decompose in
    let m = c.decompose_wide_bodies in
    let n = m.new in
    λ D. decomposed_so t.k.now (words t.clauses.now) (words t.atoms.now) D b.result b.ensures (ap not c.if-not-body_decompose.false) (words n.clauses) (words n.atoms) (answer n.k m.result) (m.ensures D)
