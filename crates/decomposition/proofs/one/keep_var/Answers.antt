use mathlib.Core.Path.{sym, ◌∙◌}
use native.Mathlib.Omega.{arith}
use Rattle.words.specs.Words.{words}
use Rattle.words.specs.Laws.{length_words}
use Rattle.branches.specs.Layout.{keep_at}
use Rattle.branches.specs.Renumbered.{run}
use Rattle.branches.specs.PlaceLaws.{place_some}
use Rattle.decomposition.specs.HeadVarLaws.{keep_x, keep_old, keep_new}
use Rattle.decomposition.proofs.one.keep_var.Goals as goal
use Rattle.decomposition.proofs.one.keep_var.Goals.{then-v-eq0-via-then-v-eq0, then-v-eq0-via-else-v-eq0+then-is_some}

pub returns-then-v-eq0-clause-by_index : goal.returns-then-v-eq0-clause-by_index
returns-then-v-eq0-clause-by_index c =
    let w = words c.args.scratch.now in
    elim c.then-v-eq0.branch [
      | then-v-eq0-via-then-v-eq0 b ↦ keep_x w c.args.n c.args.v b.if-v-eq0.true
      | then-v-eq0-via-else-v-eq0+then-is_some b ↦ keep_old w c.args.n c.args.v (sym (place_some (run w keep_at c.args.n) c.args.v b.place.result b.place.ensures) ∙ sym b.is_some.ensures ∙ b.if-is_some.true)
    ]

pub returns-clause-by_index : goal.returns-clause-by_index
returns-clause-by_index c =
    let w = words c.args.scratch.now in
    keep_new w (words c.put_word.new.s) c.args.n c.args.v (omega (arith, c.requires.0, c.requires.1, length_words c.args.scratch.now)) (omega (arith, c.requires.0)) c.if-v-eq0.false
    (sym (place_some (run w keep_at c.args.n) c.args.v c.place.result c.place.ensures) ∙ sym c.is_some.ensures ∙ c.if-is_some.false) c.put_word.ensures
