use Rattle.clausifier.specs.RowLaws.{axiom_few, row_axiom_lem, axiom_row_lem}
use Rattle.clausifier.specs.ArmLaws.{axiomed_as, unlimited, roles_unlimited}
use Rattle.ir.specs.Answer.{done}
use Rattle.ontology.specs.Layout.{axiom_at}
use Rattle.ontology.specs.KeptAxioms.{kind_inside}
use Rattle.words.specs.Words.{words}
use native.Mathlib.Omega.{arith}
use mathlib.Core.Path.{sym}
use Rattle.clausifier.proofs.axiom.clausify_axiom.Goals as goal

pub number-kind-requires : goal.number-kind-requires
number-kind-requires c =
    (axiom_few (words c.args.scratch.now) c.args.lent.now.counters c.args.i c.requires.1, omega (arith, c.requires.0.space), kind_inside (words c.args.scratch.now) c.requires.1.count c.args.i c.requires.1.axioms.held c.requires.1.among)

pub clausify_classes-requires : goal.clausify_classes-requires
clausify_classes-requires c =
    (c.requires.0, axiom_row_lem (words c.args.scratch.now) c.args.lent.now.counters c.args.i c.requires.1 c.number-kind.result c.start.result c.count-count.result c.number-kind.ensures c.start.ensures c.count-count.ensures, c.if-kind-lt27.true)

pub returns-then-kind-lt27 : goal.returns-then-kind-lt27
returns-then-kind-lt27 c =
    let r = c.clausify_classes in
    record {
      references = r.ensures.references;
      fact = axiomed_as (axiom_at (words c.args.scratch.now) c.args.i) _ c.args.lent.now.counters _ _ (done r.new.lent.counters r.result) (sym (row_axiom_lem (words c.args.scratch.now) c.args.lent.now.counters c.args.i c.requires.1 c.number-kind.result c.start.result c.count-count.result c.number-kind.ensures c.start.ensures c.count-count.ensures)) r.ensures.fact;
      clausifying_after = r.ensures.clausifying_after;
    }

pub clausify_roles-requires : goal.clausify_roles-requires
clausify_roles-requires c =
    (c.requires.0, axiom_row_lem (words c.args.scratch.now) c.args.lent.now.counters c.args.i c.requires.1 c.number-kind.result c.start.result c.count-count.result c.number-kind.ensures c.start.ensures c.count-count.ensures, c.if-kind-lt27.false)

pub returns : goal.returns
returns c =
    let r = c.clausify_roles in
    let w = words c.args.scratch.now in
    let n = c.number-kind in
    let t = c.start in
    let m = c.count-count in
    let R = axiom_row_lem w c.args.lent.now.counters c.args.i c.requires.1 n.result t.result m.result n.ensures t.ensures m.ensures in
    let e = row_axiom_lem w c.args.lent.now.counters c.args.i c.requires.1 n.result t.result m.result n.ensures t.ensures m.ensures in
    record {
      references = r.ensures.references;
      fact = axiomed_as (axiom_at w c.args.i) _ c.args.lent.now.counters _ _ (done r.new.lent.counters r.result) (sym e) (unlimited _ c.args.lent.now.counters _ _ (done r.new.lent.counters r.result) (roles_unlimited w c.args.lent.now.counters _ _ _ R c.if-kind-lt27.false) r.ensures.fact);
      clausifying_after = r.ensures.clausifying_after;
    }
