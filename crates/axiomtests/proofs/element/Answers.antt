use mathlib.Core.Path.{ap, ◌∙◌}
use Prim.Native.Nat.{ℕ}
use Rattle.words.specs.Words.{words}
use Rattle.pool.specs.Layout.{run}
use Rattle.states.specs.Conditions.{rises, least_of, axiom_holds_at}
use Rattle.ontology.specs.Rows.{row_axiom}
use Rattle.axiomtests.proofs.KindLaws.{element_vars}
use Rattle.axiomtests.proofs.element.Goals as goal

pub show_one-requires : goal.show_one-requires
show_one-requires c = c.requires.0.space

pub returns : goal.returns
returns c =
    let v = words c.args.scratch.now in record {
      aside = c.show_one.ensures.aside;
      broken = λ d I L.
          let a = row_axiom v c.args.line.kind c.args.line.at c.args.line.count in
          c.show_one.ensures.by_index I.size (axiom_holds_at I d.concepts a) L.ready.laid.few (c.element_mask-m.ensures d I L) ∙ ap (λ (k : ℕ). least_of (rises 0 I.size) k (axiom_holds_at I d.concepts a)) (element_vars (run v c.args.line.at c.args.line.count) c.args.line.kind L.section c.requires.1);
    }
