use Rattle.words.specs.Words.{words}
use Rattle.ir.specs.Lined.{lined}
use Rattle.normalize.specs.ClearedLaws.{cleared_asks, cleared_known, cleared_did, cleared_kept}
use Rattle.normalize.proofs.forms.nnf_axioms.Goals as goal

pub nnf_each-requires : goal.nnf_each-requires
nnf_each-requires c =
    let A = c.requires.0 in
    (cleared_asks _ _ _ _ A c.clear_words.ensures c.clear_words.auto.s, c.requires.1, cleared_known _ _ _ _ A c.clear_words.ensures c.clear_words.auto.s)

pub returns-clause-scratch_after : goal.returns-clause-scratch_after
returns-clause-scratch_after c =
    cleared_did _ _ _ _ c.requires.0 c.clear_words.ensures c.clear_words.auto.s (lined c.nnf_each.new.k c.nnf_each.result) c.args.line (words c.nnf_each.new.scratch) c.nnf_each.ensures.scratch_after

pub returns-clause-kept : goal.returns-clause-kept
returns-clause-kept c =
    cleared_kept _ _ _ _ c.requires.0 c.clear_words.ensures c.clear_words.auto.s (words c.nnf_each.new.scratch) c.nnf_each.ensures.kept
