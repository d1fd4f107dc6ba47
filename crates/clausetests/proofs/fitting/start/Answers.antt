use Rattle.words.specs.Words.{words}
use Rattle.clausetests.proofs.FittingLaws.{tables_start, changed_start}
use Rattle.clausetests.proofs.fitting.start.Goals as goal

pub returns : goal.returns
returns c =
    let k = c.args.k in
    let v = words c.args.scratch.now in
    let v1 = words c.fill.new.scratch in
    let v2 = words c.fill-2.new.scratch in
    let p = c.pairs.result in record {
      tables = tables_start c.args.size k c.whole-m.result p v v1 v2 c.requires.0 c.requires.1 c.pairs.ensures.0 c.fill-2.ensures.changed c.whole-m.ensures c.fill.ensures.by_index c.fill-2.ensures.by_index;
      changed = changed_start c.args.size k c.whole-m.result p v v1 v2 c.requires.0 c.requires.1 c.pairs.ensures.0 c.fill-2.ensures.changed c.fill.ensures.changed;
    }
