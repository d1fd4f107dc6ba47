use native.Mathlib.Omega.{arith}
use Rattle.words.specs.Words.{words}
use Rattle.words.specs.Laws.{length_words}
use Rattle.unfolding.specs.Unfolding.{unfolded}
use Rattle.unfolding.specs.ClauseLaws.{standing_at, standing_placed, standing_there, standing_body, standing_head}
use Rattle.unfolding.specs.UnfoldLaws.{atom_in_lem, hand_short, hand_there, unfold_other, unfold_trivial, unfold_among, unfold_new, answered_same, answered_then}
use Rattle.unfolding.proofs.unfold.unfold_at.Goals as goal

pub body_of-body-requires : goal.body_of-body-requires
body_of-body-requires c =
    let t = c.args.lent.now in
    let C = words t.clauses.now in
    let A = words t.atoms.now in
    standing_there t.counters C A c.requires.0 c.args.c c.requires.1

pub is_reflexive-requires : goal.is_reflexive-requires
is_reflexive-requires c =
    let t = c.args.lent.now in
    let C = words t.clauses.now in
    let A = words t.atoms.now in
    let B = c.body_of-body.ensures (standing_at t.counters C A c.requires.0 c.args.c c.requires.1) (standing_placed t.counters C A c.requires.0 c.args.c c.requires.1) in
    ((standing_body t.counters C A c.requires.0 c.args.c c.requires.1 _ B).0, atom_in_lem t.counters C A c.requires.0 c.args.c c.requires.1 _ B c.args.i c.requires.2, omega (arith, c.requires.5))

-- no role atom over a reflexive role
pub returns-then-not-is_reflexive-clause-fact : goal.returns-then-not-is_reflexive-clause-fact
returns-then-not-is_reflexive-clause-fact c =
    let t = c.args.lent.now in
    let C = words t.clauses.now in
    let A = words t.atoms.now in
    let B = c.body_of-body.ensures (standing_at t.counters C A c.requires.0 c.args.c c.requires.1) (standing_placed t.counters C A c.requires.0 c.args.c c.requires.1) in
    let r = c.is_reflexive in
    let no = c.if-not-is_reflexive.true in
    λ env roles left v u before after head x F L T es ei. unfold_other t.counters C A c.requires.0 c.args.c c.requires.1 _ B c.args.i c.requires.2 env roles c.args.originals left c.args.queued (words c.args.scratch.now) (words t.deferrals.now) v u T c.requires.3 before after head x es ei r.result r.ensures no F

pub head_of-requires : goal.head_of-requires
head_of-requires c =
    let t = c.args.lent.now in
    let C = words t.clauses.now in
    let A = words t.atoms.now in
    standing_there t.counters C A c.requires.0 c.args.c c.requires.1

pub put_contracted-requires : goal.put_contracted-requires
put_contracted-requires c =
    let t = c.args.lent.now in
    let C = words t.clauses.now in
    let A = words t.atoms.now in
    let B = c.body_of-body.ensures (standing_at t.counters C A c.requires.0 c.args.c c.requires.1) (standing_placed t.counters C A c.requires.0 c.args.c c.requires.1) in
    let H = c.head_of.ensures (standing_at t.counters C A c.requires.0 c.args.c c.requires.1) (standing_placed t.counters C A c.requires.0 c.args.c c.requires.1) in
    let x = standing_body t.counters C A c.requires.0 c.args.c c.requires.1 _ B in
    let y = standing_head t.counters C A c.requires.0 c.args.c c.requires.1 _ H in
    (x.0, y.0, atom_in_lem t.counters C A c.requires.0 c.args.c c.requires.1 _ B c.args.i c.requires.2, x.1, y.1, c.requires.5)

pub body_count-nb-requires : goal.body_count-nb-requires
body_count-nb-requires c =
    let t = c.args.lent.now in
    let C = words t.clauses.now in
    let A = words t.atoms.now in
    omega (arith, (standing_placed t.counters C A c.requires.0 c.args.c c.requires.1).row, length_words t.clauses.now)

pub head_count-nh-requires : goal.head_count-nh-requires
head_count-nh-requires c =
    let t = c.args.lent.now in
    let C = words t.clauses.now in
    let A = words t.atoms.now in
    omega (arith, (standing_placed t.counters C A c.requires.0 c.args.c c.requires.1).row, length_words t.clauses.now)

pub overflow_sub-hand : goal.overflow_sub-hand
overflow_sub-hand c =
    omega (arith, c.requires.2, c.body_count-nb.ensures)

pub is_trivial-requires : goal.is_trivial-requires
is_trivial-requires c =
    let t = c.args.lent.now in
    let C = words t.clauses.now in
    let A = words t.atoms.now in
    let B = c.body_of-body.ensures (standing_at t.counters C A c.requires.0 c.args.c c.requires.1) (standing_placed t.counters C A c.requires.0 c.args.c c.requires.1) in
    let r = c.is_reflexive in
    let yes = c.if-not-is_reflexive.false in
    let H = c.head_of.ensures (standing_at t.counters C A c.requires.0 c.args.c c.requires.1) (standing_placed t.counters C A c.requires.0 c.args.c c.requires.1) in
    let p = c.put_contracted in
    let b = c.body_count-nb in
    let h = c.head_count-nh in
    (hand_there t.counters C A c.requires.0 c.args.c c.requires.1 _ B c.args.i c.requires.2 (words c.args.scratch.now) r.result r.ensures yes _ H _ p.ensures.clause_in_hand p.ensures.scratch_unchanged b.result h.result b.ensures h.ensures, omega (arith, c.requires.5, p.auto.scratch))

-- a clause that always holds
pub returns-then-is_trivial-clause-fact : goal.returns-then-is_trivial-clause-fact
returns-then-is_trivial-clause-fact c =
    let t = c.args.lent.now in
    let C = words t.clauses.now in
    let A = words t.atoms.now in
    let B = c.body_of-body.ensures (standing_at t.counters C A c.requires.0 c.args.c c.requires.1) (standing_placed t.counters C A c.requires.0 c.args.c c.requires.1) in
    let r = c.is_reflexive in
    let yes = c.if-not-is_reflexive.false in
    let H = c.head_of.ensures (standing_at t.counters C A c.requires.0 c.args.c c.requires.1) (standing_placed t.counters C A c.requires.0 c.args.c c.requires.1) in
    let p = c.put_contracted in
    let b = c.body_count-nb in
    let h = c.head_count-nh in
    let q = c.is_trivial in
    λ env roles left v u before after head x F L T es ei. unfold_trivial t.counters C A c.requires.0 c.args.c c.requires.1 _ B c.args.i c.requires.2 (words c.args.scratch.now) r.result r.ensures yes _ H _ p.ensures.clause_in_hand p.ensures.scratch_unchanged b.result h.result b.ensures h.ensures env roles c.args.originals left c.args.queued (words t.deferrals.now) v u T c.requires.3 before after head x es ei F q.result q.ensures c.if-is_trivial.true

pub returns-then-is_trivial-clause-answered : goal.returns-then-is_trivial-clause-answered
returns-then-is_trivial-clause-answered c =
    answered_same c.args.lent.now.counters (words c.args.scratch.now) _ c.args.queued c.requires.4 c.put_contracted.ensures.scratch_unchanged

pub is_among-requires : goal.is_among-requires
is_among-requires c =
    let t = c.args.lent.now in
    let C = words t.clauses.now in
    let A = words t.atoms.now in
    let B = c.body_of-body.ensures (standing_at t.counters C A c.requires.0 c.args.c c.requires.1) (standing_placed t.counters C A c.requires.0 c.args.c c.requires.1) in
    let r = c.is_reflexive in
    let yes = c.if-not-is_reflexive.false in
    let H = c.head_of.ensures (standing_at t.counters C A c.requires.0 c.args.c c.requires.1) (standing_placed t.counters C A c.requires.0 c.args.c c.requires.1) in
    let p = c.put_contracted in
    let b = c.body_count-nb in
    let h = c.head_count-nh in
    (hand_there t.counters C A c.requires.0 c.args.c c.requires.1 _ B c.args.i c.requires.2 (words c.args.scratch.now) r.result r.ensures yes _ H _ p.ensures.clause_in_hand p.ensures.scratch_unchanged b.result h.result b.ensures h.ensures, record { list = c.requires.0.list; tabled = c.requires.0.tabled }, c.requires.3.first, omega (arith, c.requires.5, p.auto.scratch))

-- a clause that was derived before
pub returns-then-is_among-clause-fact : goal.returns-then-is_among-clause-fact
returns-then-is_among-clause-fact c =
    let t = c.args.lent.now in
    let C = words t.clauses.now in
    let A = words t.atoms.now in
    let B = c.body_of-body.ensures (standing_at t.counters C A c.requires.0 c.args.c c.requires.1) (standing_placed t.counters C A c.requires.0 c.args.c c.requires.1) in
    let r = c.is_reflexive in
    let yes = c.if-not-is_reflexive.false in
    let H = c.head_of.ensures (standing_at t.counters C A c.requires.0 c.args.c c.requires.1) (standing_placed t.counters C A c.requires.0 c.args.c c.requires.1) in
    let p = c.put_contracted in
    let b = c.body_count-nb in
    let h = c.head_count-nh in
    let q = c.is_trivial in
    let g = c.is_among in
    λ env roles left v u before after head x F L T es ei. unfold_among t.counters C A c.requires.0 c.args.c c.requires.1 _ B c.args.i c.requires.2 (words c.args.scratch.now) r.result r.ensures yes _ H _ p.ensures.clause_in_hand p.ensures.scratch_unchanged b.result h.result b.ensures h.ensures env roles c.args.originals left c.args.queued (words t.deferrals.now) v u T c.requires.3 before after head x es ei F q.result q.ensures c.if-is_trivial.false g.result g.ensures c.if-is_among.true

pub returns-then-is_among-clause-answered : goal.returns-then-is_among-clause-answered
returns-then-is_among-clause-answered c =
    answered_same c.args.lent.now.counters (words c.args.scratch.now) _ c.args.queued c.requires.4 c.put_contracted.ensures.scratch_unchanged

pub derive-requires : goal.derive-requires
derive-requires c =
    let t = c.args.lent.now in
    let C = words t.clauses.now in
    let A = words t.atoms.now in
    let B = c.body_of-body.ensures (standing_at t.counters C A c.requires.0 c.args.c c.requires.1) (standing_placed t.counters C A c.requires.0 c.args.c c.requires.1) in
    let r = c.is_reflexive in
    let yes = c.if-not-is_reflexive.false in
    let H = c.head_of.ensures (standing_at t.counters C A c.requires.0 c.args.c c.requires.1) (standing_placed t.counters C A c.requires.0 c.args.c c.requires.1) in
    let p = c.put_contracted in
    let b = c.body_count-nb in
    let h = c.head_count-nh in
    let u = hand_short t.counters C A c.requires.0 c.args.c c.requires.1 _ B c.args.i c.requires.2 (words c.args.scratch.now) r.result r.ensures yes _ H _ p.ensures.clause_in_hand p.ensures.scratch_unchanged b.result h.result b.ensures h.ensures in
    (c.requires.3, u.0, u.1, c.requires.4, omega (arith, c.requires.5, p.auto.scratch))

-- a new clause
pub returns-clause-fact : goal.returns-clause-fact
returns-clause-fact c =
    let t = c.args.lent.now in
    let C = words t.clauses.now in
    let A = words t.atoms.now in
    let B = c.body_of-body.ensures (standing_at t.counters C A c.requires.0 c.args.c c.requires.1) (standing_placed t.counters C A c.requires.0 c.args.c c.requires.1) in
    let r = c.is_reflexive in
    let yes = c.if-not-is_reflexive.false in
    let H = c.head_of.ensures (standing_at t.counters C A c.requires.0 c.args.c c.requires.1) (standing_placed t.counters C A c.requires.0 c.args.c c.requires.1) in
    let p = c.put_contracted in
    let b = c.body_count-nb in
    let h = c.head_count-nh in
    let q = c.is_trivial in
    let g = c.is_among in
    let n = c.derive in
    λ env roles left v u before after head x F L T es ei. unfold_new t.counters C A c.requires.0 c.args.c c.requires.1 _ B c.args.i c.requires.2 (words c.args.scratch.now) r.result r.ensures yes _ H _ p.ensures.clause_in_hand p.ensures.scratch_unchanged b.result h.result b.ensures h.ensures env roles c.args.originals left c.args.queued (words t.deferrals.now) v u T c.requires.3 before after head x es ei F q.result q.ensures c.if-is_trivial.false g.result g.ensures c.if-is_among.false _ (unfolded n.new.lent.counters n.result) (λ y U K G. n.ensures.fact env roles left v u y L U K G)

pub returns-clause-answered : goal.returns-clause-answered
returns-clause-answered c =
    let n = c.derive in
    answered_then c.args.lent.now.counters (words c.args.scratch.now) _ _ (unfolded n.new.lent.counters n.result) c.put_contracted.ensures.scratch_unchanged n.ensures.answered
