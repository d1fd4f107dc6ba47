use Rattle.clausifier.specs.RoleArmLaws.{row_chain, chained, transitive_asks, transitive_arm, irreflexive_asks, irreflexive_arm, asymmetric_asks, asymmetric_arm, roles_fit, roles_asks, roles_arm, idle_arm}
use Rattle.axioms.specs.WholeLaws.{clausifying_after}
use Rattle.hands.specs.Hands.{four_of}
use Rattle.hands.specs.HandLaws.{sized_two}
use Rattle.ir.specs.Answer.{done}
use Rattle.words.specs.Words.{words}
use mathlib.Core.Path.{refl}
use native.Mathlib.Omega.{arith}
use Rattle.clausifier.proofs.axiom.clausify_roles.Goals as goal

pub clausify_chain-requires : goal.clausify_chain-requires
clausify_chain-requires c =
    (c.requires.0, row_chain (words c.args.scratch.now) c.args.lent.now.counters c.args.line.kind c.args.line.at c.args.line.count c.in-27.is c.requires.1)

pub chain-requires : goal.chain-requires
chain-requires c =
    let q = transitive_asks (words c.args.scratch.now) c.args.lent.now.counters c.args.line.kind c.args.line.at c.args.line.count c.requires.1 c.get_word-r.result c.get_word-r.ensures c.in-28.is in
    (q, q, q, omega (arith, c.requires.0.space), c.requires.0.good, sized_two c.args.lent.now.sized)

pub irreflexive-requires : goal.irreflexive-requires
irreflexive-requires c =
    let q = irreflexive_asks (words c.args.scratch.now) c.args.lent.now.counters c.args.line.kind c.args.line.at c.args.line.count c.requires.1 c.get_word-r.result c.get_word-r.ensures c.in-29.is in
    (q, omega (arith, c.requires.0.space), c.requires.0.good, sized_two c.args.lent.now.sized)

pub not_both-requires : goal.not_both-requires
not_both-requires c =
    let q = asymmetric_asks (words c.args.scratch.now) c.args.lent.now.counters c.args.line.kind c.args.line.at c.args.line.count c.requires.1 c.get_word-r.result c.get_word-r.ensures c.in-30.is in
    (q, q, omega (arith, c.requires.0.space), c.requires.0.good, sized_two c.args.lent.now.sized)

pub overflow_sub-line : goal.overflow_sub-line
overflow_sub-line c =
    omega (arith, roles_fit (words c.args.scratch.now) c.args.lent.now.counters c.args.line.kind c.args.line.at c.args.line.count c.requires.1 c.in-31.is)

pub disjoint_roles-requires : goal.disjoint_roles-requires
disjoint_roles-requires c =
    (c.requires.0, roles_asks (words c.args.scratch.now) c.args.lent.now.counters c.args.line.kind c.args.line.at c.args.line.count c.requires.1 c.in-31.is, sized_two c.args.lent.now.sized)

pub returns-in-27 : goal.returns-in-27
returns-in-27 c =
    let r = c.clausify_chain in
    record {
      references = r.ensures.references;
      fact = chained (words c.args.scratch.now) c.args.lent.now.counters c.args.line.kind c.args.line.at c.args.line.count c.in-27.is _ _ _ r.ensures.fact;
      clausifying_after = r.ensures.clausifying_after;
    }

pub returns-in-28-clause-fact : goal.returns-in-28-clause-fact
returns-in-28-clause-fact c =
    let r = c.chain in
    (transitive_arm (words c.args.scratch.now) c.args.lent.now.counters c.args.line.kind c.args.line.at c.args.line.count c.requires.1 c.get_word-r.result c.get_word-r.ensures c.in-28.is _ _ (done r.new.k r.result) c.requires.0.encoding.reading.ready.held (r.ensures (words c.args.lent.now.deferrals.now)))

pub returns-in-28-clause-clausifying_after : goal.returns-in-28-clause-clausifying_after
returns-in-28-clause-clausifying_after c =
    let r = c.chain in
    let D = r.ensures (words c.args.lent.now.deferrals.now) in
    clausifying_after c.args.scratch.now _ c.args.lent.now.counters (done r.new.k r.result) c.requires.0 r.auto.scratch D.frame D.good D.kept

pub returns-in-29-clause-fact : goal.returns-in-29-clause-fact
returns-in-29-clause-fact c =
    let r = c.irreflexive in
    (irreflexive_arm (words c.args.scratch.now) c.args.lent.now.counters c.args.line.kind c.args.line.at c.args.line.count c.requires.1 c.get_word-r.result c.get_word-r.ensures c.in-29.is _ _ (done r.new.k r.result) c.requires.0.encoding.reading.ready.held (r.ensures (words c.args.lent.now.deferrals.now)))

pub returns-in-29-clause-clausifying_after : goal.returns-in-29-clause-clausifying_after
returns-in-29-clause-clausifying_after c =
    let r = c.irreflexive in
    let D = r.ensures (words c.args.lent.now.deferrals.now) in
    clausifying_after c.args.scratch.now _ c.args.lent.now.counters (done r.new.k r.result) c.requires.0 r.auto.scratch D.frame D.good D.kept

pub returns-in-30-clause-fact : goal.returns-in-30-clause-fact
returns-in-30-clause-fact c =
    let r = c.not_both in
    (asymmetric_arm (words c.args.scratch.now) c.args.lent.now.counters c.args.line.kind c.args.line.at c.args.line.count c.requires.1 c.get_word-r.result c.get_word-r.ensures c.in-30.is _ _ (done r.new.k r.result) c.requires.0.encoding.reading.ready.held (r.ensures (words c.args.lent.now.deferrals.now)))

pub returns-in-30-clause-clausifying_after : goal.returns-in-30-clause-clausifying_after
returns-in-30-clause-clausifying_after c =
    let r = c.not_both in
    let D = r.ensures (words c.args.lent.now.deferrals.now) in
    clausifying_after c.args.scratch.now _ c.args.lent.now.counters (done r.new.k r.result) c.requires.0 r.auto.scratch D.frame D.good D.kept

pub returns-in-31-clause-fact : goal.returns-in-31-clause-fact
returns-in-31-clause-fact c =
    let r = c.disjoint_roles in
    (roles_arm (words c.args.scratch.now) c.args.lent.now.counters c.args.line.kind c.args.line.at c.args.line.count c.requires.1 c.in-31.is _ _ _ (r.ensures.fact (words c.args.lent.now.deferrals.now)))

pub returns-in_default : goal.returns-in_default
returns-in_default c =
    let m = c.in_default.in_default-own.rest in
    record {
      references = (refl, refl, refl, refl, refl, refl);
      fact = idle_arm (words c.args.scratch.now) c.args.lent.now.counters c.args.line.kind c.args.line.at c.args.line.count c.requires.1 c.requires.2 m.0.0.0.0.1 m.0.0.0.1 m.0.0.1 m.0.1 m.1 (four_of (words c.args.scratch.now) c.args.lent.now) c.requires.0.encoding.reading.ready.held c.requires.0.good;
      clausifying_after = c.requires.0;
    }
