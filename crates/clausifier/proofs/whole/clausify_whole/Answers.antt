use mathlib.Core.Path.{sym, ◌∙◌}
use Rattle.words.specs.Words.{words}
use Rattle.ir.specs.Answer.{done}
use Rattle.ir.specs.Options.{equal_names}
use Rattle.ontology.specs.Layout.{axiom_at}
use Rattle.clausifier.specs.LimitedLaws.{both_names, limited_alone}
use Rattle.clausifier.proofs.whole.clausify_whole.Goals as goal

pub clausify_limited-requires : goal.clausify_limited-requires
clausify_limited-requires c =
    let q = c.names_limits in
    (c.requires.0, c.requires.1, c.requires.2, both_names _ (equal_names c.args.lent.now.counters.options) (sym c.if-names_limits.true ∙ q.ensures))

pub returns : goal.returns
returns c =
    let q = c.names_limits in
    let r = c.clausify_axiom in
    record {
      references = r.ensures.references;
      fact = limited_alone (axiom_at (words c.args.scratch.now) c.args.i) c.args.lent.now.counters _ _ (done r.new.lent.counters r.result) (sym c.if-names_limits.false ∙ q.ensures) r.ensures.fact;
      clausifying_after = r.ensures.clausifying_after;
    }
