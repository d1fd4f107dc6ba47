use Rattle.std.proofs.Common.{sym, ap, ◌∙◌, ℕ, ◌+◌, ◌*◌, get_or, arith}
use Rattle.session.specs.RemovalLaws.{Standing, standing, end_there, at_feed, at_field}
use Rattle.session.proofs.removal.behind.Goals as goal

pub loop-end-init : goal.loop-end-init
loop-end-init c =
    let r = c.requires in
    let S : Standing c.args.text.now c.args.at = standing c.args.text.now c.args.at r.0 r.1 r.2 r.3 r.4 r.5 in
    (0, omega arith, omega (arith, S.long))

pub bounds-text-end : goal.bounds-text-end
bounds-text-end c =
    let r = c.requires in
    let S : Standing c.args.text.now c.args.at = standing c.args.text.now c.args.at r.0 r.1 r.2 r.3 r.4 r.5 in
    let I = c.loop-end.invariant in
    omega (arith, S.room, I.1, I.2)

pub overflow_add-end : goal.overflow_add-end
overflow_add-end c =
    let r = c.requires in
    let S : Standing c.args.text.now c.args.at = standing c.args.text.now c.args.at r.0 r.1 r.2 r.3 r.4 r.5 in
    let I = c.loop-end.invariant in
    let more = at_field c.args.text.now c.args.at I.0 S I.2 (λ q. c.loop-end-test.true (ap (λ (k : ℕ). get_or c.args.text.now k 0) I.1 ∙ q)) in
    record { fits = omega (arith, S.room, I.1, more) }

pub loop-end-smaller : goal.loop-end-smaller
loop-end-smaller c =
    let r = c.requires in
    let S : Standing c.args.text.now c.args.at = standing c.args.text.now c.args.at r.0 r.1 r.2 r.3 r.4 r.5 in
    let I = c.loop-end.invariant in
    omega (arith, S.room, I.1, I.2)

pub loop-end-preserved : goal.loop-end-preserved
loop-end-preserved c =
    let r = c.requires in
    let S : Standing c.args.text.now c.args.at = standing c.args.text.now c.args.at r.0 r.1 r.2 r.3 r.4 r.5 in
    let I = c.loop-end.invariant in
    (I.0 + 1, omega (arith, I.1), at_field c.args.text.now c.args.at I.0 S I.2 (λ q. c.loop-end-test.true (ap (λ (k : ℕ). get_or c.args.text.now k 0) I.1 ∙ q)))

pub returns : goal.returns
returns c l x m R t a =
    let I = c.loop-end.invariant in
    let e = at_feed c.args.text.now c.args.at (11 * I.0) I.2 (ap (λ (k : ℕ). get_or c.args.text.now k 0) (sym I.1) ∙ c.loop-end-test.false) in
    omega (arith, I.1, e, end_there c.args.text.now c.args.at l x m R t a)
