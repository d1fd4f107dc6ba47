use Rattle.clausifier.specs.ArmLaws.{gci_asks, gci_arm, equivalent_fits, equivalent_asks, equivalent_arm, disjoint_fits, disjoint_asks, disjoint_arm, union_fits, union_asks, union_arm, domain_asks, domain_arm}
use Rattle.axioms.specs.WholeLaws.{clausifying_after}
use Rattle.ir.specs.Answer.{done}
use Rattle.words.specs.Words.{words}
use native.Mathlib.Omega.{arith}
use mathlib.Core.Path.{refl}
use lib.Dec.{eqb}
use Rattle.clausifier.proofs.axiom.clausify_classes.Goals as goal

pub clausify_gci-requires : goal.clausify_gci-requires
clausify_gci-requires c =
    let q = gci_asks (words c.args.scratch.now) c.args.lent.now.counters c.args.line.kind c.args.line.at c.args.line.count c.requires.1 c.in-21.is c.get_word-a.result c.get_word-b.result c.get_word-a.ensures c.get_word-b.ensures in
    (c.requires.0, q.0, q.1)

pub overflow_sub-line : goal.overflow_sub-line
overflow_sub-line c =
    omega (arith, equivalent_fits (words c.args.scratch.now) c.args.lent.now.counters c.args.line.kind c.args.line.at c.args.line.count c.requires.1 c.in-22.is)

pub equivalent-requires : goal.equivalent-requires
equivalent-requires c =
    (c.requires.0, equivalent_asks (words c.args.scratch.now) c.args.lent.now.counters c.args.line.kind c.args.line.at c.args.line.count c.requires.1 c.in-22.is)

pub overflow_sub-line-in-23 : goal.overflow_sub-line-in-23
overflow_sub-line-in-23 c =
    omega (arith, disjoint_fits (words c.args.scratch.now) c.args.lent.now.counters c.args.line.kind c.args.line.at c.args.line.count c.requires.1 c.in-23.is)

pub disjoint-requires : goal.disjoint-requires
disjoint-requires c =
    (c.requires.0, disjoint_asks (words c.args.scratch.now) c.args.lent.now.counters c.args.line.kind c.args.line.at c.args.line.count c.requires.1 c.in-23.is)

pub overflow_sub-line-in-24 : goal.overflow_sub-line-in-24
overflow_sub-line-in-24 c =
    omega (arith, union_fits (words c.args.scratch.now) c.args.lent.now.counters c.args.line.kind c.args.line.at c.args.line.count c.requires.1 c.in-24.is c.get_word-a.result c.get_word-a.ensures)

pub union-requires : goal.union-requires
union-requires c =
    let q = union_asks (words c.args.scratch.now) c.args.lent.now.counters c.args.line.kind c.args.line.at c.args.line.count c.requires.1 c.in-24.is c.get_word-a.result c.get_word-a.ensures in
    (c.requires.0, q.0, q.1)

pub domain_or_range-requires : goal.domain_or_range-requires
domain_or_range-requires c =
    let m = c.in_default.in_default-own.rest in
    let q = domain_asks (words c.args.scratch.now) c.args.lent.now.counters c.args.line.kind c.args.line.at c.args.line.count c.requires.1 c.requires.2 m.0.0.0.1 m.0.0.1 m.0.1 m.1 c.get_word-a.result c.get_word-c.result c.get_word-a.ensures c.get_word-c.ensures in
    (c.requires.0.encoding.reading, c.requires.0.good, q.0, q.1, c.requires.0.queue)

pub returns-in-21 : goal.returns-in-21
returns-in-21 c =
    let r = c.clausify_gci in
    record {
      references = r.ensures.references;
      fact = gci_arm (words c.args.scratch.now) c.args.lent.now.counters c.args.line.kind c.args.line.at c.args.line.count c.requires.1 c.in-21.is c.get_word-a.result c.get_word-b.result c.get_word-a.ensures c.get_word-b.ensures _ _ _ r.ensures.clausified;
      clausifying_after = r.ensures.clausifying_after;
    }

pub returns-in-22 : goal.returns-in-22
returns-in-22 c =
    let r = c.equivalent in
    record {
      references = r.ensures.references;
      fact = equivalent_arm (words c.args.scratch.now) c.args.lent.now.counters c.args.line.kind c.args.line.at c.args.line.count c.requires.1 c.in-22.is _ _ _ r.ensures.clausified;
      clausifying_after = r.ensures.clausifying_after;
    }

pub returns-in-23 : goal.returns-in-23
returns-in-23 c =
    let r = c.disjoint in
    record {
      references = r.ensures.references;
      fact = disjoint_arm (words c.args.scratch.now) c.args.lent.now.counters c.args.line.kind c.args.line.at c.args.line.count c.requires.1 c.in-23.is _ _ _ r.ensures.fact;
      clausifying_after = r.ensures.clausifying_after;
    }

pub returns-in-24 : goal.returns-in-24
returns-in-24 c =
    let r = c.union in
    record {
      references = r.ensures.references;
      fact = union_arm (words c.args.scratch.now) c.args.lent.now.counters c.args.line.kind c.args.line.at c.args.line.count c.requires.1 c.in-24.is c.get_word-a.result c.get_word-a.ensures _ _ _ r.ensures.fact;
      clausifying_after = r.ensures.clausifying_after;
    }

pub returns-in_default : goal.returns-in_default
returns-in_default c =
    let m = c.in_default.in_default-own.rest in
    let r = c.domain_or_range in
    let D = r.ensures.did.0 in record {
      references = r.ensures.references;
      fact = domain_arm (words c.args.scratch.now) c.args.lent.now.counters c.args.line.kind c.args.line.at c.args.line.count c.requires.1 c.requires.2 m.0.0.0.1 m.0.0.1 m.0.1 m.1 c.get_word-a.result c.get_word-c.result c.get_word-a.ensures c.get_word-c.ensures (eqb c.args.line.kind 26) refl _ _ (done r.new.lent.counters r.result) c.requires.0.encoding.reading.ready.held r.ensures.did;
      clausifying_after = clausifying_after c.args.scratch.now _ c.args.lent.now.counters (done r.new.lent.counters r.result) c.requires.0 r.auto.scratch D.frame D.good D.kept;
    }
