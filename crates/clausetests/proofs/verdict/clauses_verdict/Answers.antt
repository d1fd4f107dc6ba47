use mathlib.Core.Path.{◌≡◌, ap, ◌∙◌}
use Rattle.std.proofs.Common.{Err, rules}
use Rattle.words.specs.Words.{words}
use Rattle.sets.specs.Verdicts.{verdict_in}
use Rattle.clausetests.proofs.VerdictLaws.{tried_start, tried_here, tried_on, tried_stop, tried_end}
use Rattle.clausetests.proofs.verdict.clauses_verdict.Goals as goal

pub loop-i-init : goal.loop-i-init
loop-i-init c = let A = c.args in tried_start A.text.now A.clauses.now A.atoms.now A.store.now A.scratch.now A.count A.size

pub clause_verdict-requires : goal.clause_verdict-requires
clause_verdict-requires c =
    let L = c.loop-i in
    let A = c.args in
    tried_here A.text.now A.clauses.now A.atoms.now A.store.now A.scratch.now A.count A.size L.scratch L.i L.invariant c.loop-i-test.true c.requires

pub shape_of-scratch-in_err-clause_verdict : goal.shape_of-scratch-in_err-clause_verdict
shape_of-scratch-in_err-clause_verdict c =
    c.clause_verdict.auto.scratch ∙ c.loop-i.invariant.long

pub returns-in_err-clause_verdict : goal.returns-in_err-clause_verdict
returns-in_err-clause_verdict c =
    let L = c.loop-i in
    let A = c.args in
    let v = words c.clause_verdict.new.scratch in
    let same : c.from_residual.result ≡ Err c.in_err-clause_verdict.field-0.0 = search rules in
    rw same (tried_stop A.text.now A.clauses.now A.atoms.now A.store.now A.scratch.now A.count A.size L.scratch L.i L.invariant c.loop-i-test.true (verdict_in v c.clause_verdict.result) c.clause_verdict.ensures.result_after _ _ (ap (verdict_in v) c.in_err-clause_verdict.was))

pub loop-i-preserved : goal.loop-i-preserved
loop-i-preserved c =
    let L = c.loop-i in
    let A = c.args in
    tried_on A.text.now A.clauses.now A.atoms.now A.store.now A.scratch.now A.count A.size L.scratch L.i L.invariant c.loop-i-test.true (verdict_in (words c.clause_verdict.new.scratch) c.clause_verdict.result) c.clause_verdict.ensures.result_after (ap (verdict_in (words c.clause_verdict.new.scratch)) c.in_ok-clause_verdict.was)
    _ c.clause_verdict.auto.scratch c.clause_verdict.ensures.changed

pub shape_of-scratch : goal.shape_of-scratch
shape_of-scratch c = c.loop-i.invariant.long

pub returns : goal.returns
returns c =
    let L = c.loop-i in
    let A = c.args in
    tried_end A.text.now A.clauses.now A.atoms.now A.store.now A.scratch.now A.count A.size L.scratch L.i L.invariant c.loop-i-test.false
