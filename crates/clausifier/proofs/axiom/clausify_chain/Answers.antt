use Rattle.clausifier.specs.RoleArmLaws.{defer_arm, chain_asks, chain_arm}
use Rattle.axioms.specs.WholeLaws.{clausifying_after}
use Rattle.ir.specs.Answer.{done}
use Rattle.hands.specs.HandLaws.{sized_two}
use Rattle.words.specs.Words.{words}
use native.Mathlib.Omega.{arith}
use mathlib.Core.Path.{refl}
use Rattle.clausifier.proofs.axiom.clausify_chain.Goals as goal

pub returns-then-line-ne4-clause-fact : goal.returns-then-line-ne4-clause-fact
returns-then-line-ne4-clause-fact c =
    let p = c.defer.ensures in
    let t = c.args.lent.now in
    defer_arm (words c.args.scratch.now) t.counters c.args.line.at c.args.line.count c.requires.1 c.if-line-ne4.true (words t.deferrals.now) _ (words t.clauses.now) (words t.atoms.now) (done c.defer.new.k c.defer.result) c.requires.0.encoding.reading.ready.held (p.good_answer c.requires.0.good) p.kept_answer p.deferrals_after

pub returns-then-line-ne4-clause-clausifying_after : goal.returns-then-line-ne4-clause-clausifying_after
returns-then-line-ne4-clause-clausifying_after c =
    let p = c.defer.ensures in
    clausifying_after c.args.scratch.now c.args.scratch.now c.args.lent.now.counters (done c.defer.new.k c.defer.result) c.requires.0 refl refl (p.good_answer c.requires.0.good) p.kept_answer

pub chain-requires : goal.chain-requires
chain-requires c =
    let q = chain_asks (words c.args.scratch.now) c.args.lent.now.counters c.args.line.at c.args.line.count c.requires.1 c.if-line-ne4.false c.get_word-r.result c.get_word-a.result c.get_word-b.result c.get_word-r.ensures c.get_word-a.ensures c.get_word-b.ensures in
    (q.0, q.1, q.2, omega (arith, c.requires.0.space), c.requires.0.good, sized_two c.args.lent.now.sized)

pub returns-clause-fact : goal.returns-clause-fact
returns-clause-fact c =
    let r = c.chain in
    (chain_arm (words c.args.scratch.now) c.args.lent.now.counters c.args.line.at c.args.line.count c.requires.1 c.if-line-ne4.false c.get_word-r.result c.get_word-a.result c.get_word-b.result c.get_word-r.ensures c.get_word-a.ensures c.get_word-b.ensures _ _ _ c.requires.0.encoding.reading.ready.held (r.ensures (words c.args.lent.now.deferrals.now)))

pub returns-clause-clausifying_after : goal.returns-clause-clausifying_after
returns-clause-clausifying_after c =
    let r = c.chain in
    let D = r.ensures (words c.args.lent.now.deferrals.now) in
    clausifying_after c.args.scratch.now _ c.args.lent.now.counters (done r.new.k r.result) c.requires.0 r.auto.scratch D.frame D.good D.kept
