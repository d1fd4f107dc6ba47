use native.Mathlib.Omega.{arith}
use Rattle.words.specs.Words.{words}
use Rattle.normalforms.proofs.RoomLaws.{concepts_room, axioms_room, normal_room, normal_put}
use Rattle.normalforms.proofs.lines.put_normal.Goals as goal

pub put_concepts-p-requires : goal.put_concepts-p-requires
put_concepts-p-requires c =
    let w = words c.args.scratch.now in
    let k = c.args.k in
    let n = c.args.n in
    let H = c.requires.0.held in
    let A = c.requires.1 in
    (c.requires.0, omega (arith, concepts_room w k.members k.concepts H n A, c.requires.3))

pub put_axioms-q-requires : goal.put_axioms-q-requires
put_axioms-q-requires c =
    let p = c.put_concepts-p in
    let w = words c.args.scratch.now in
    let k = c.args.k in
    let n = c.args.n in
    let H = c.requires.0.held in
    let A = c.requires.1 in
    (c.requires.1, c.requires.2, omega (arith, concepts_room w k.members k.concepts H n A, axioms_room w k.members k.concepts H n A, c.requires.3, p.ensures.end, p.auto.out))

pub put_line-requires : goal.put_line-requires
put_line-requires c =
    let p = c.put_concepts-p in
    let q = c.put_axioms-q in
    let w = words c.args.scratch.now in
    let k = c.args.k in
    let n = c.args.n in
    let H = c.requires.0.held in
    let A = c.requires.1 in
    omega (arith, concepts_room w k.members k.concepts H n A, axioms_room w k.members k.concepts H n A, c.requires.3, p.ensures.end, p.auto.out, q.ensures.end, q.auto.out)

pub returns : goal.returns
returns c =
    let p = c.put_concepts-p in
    let q = c.put_axioms-q in
    let r = c.put_line in
    let w = words c.args.scratch.now in
    let k = c.args.k in
    let n = c.args.n in
    let H = c.requires.0.held in
    let A = c.requires.1 in
    let t = normal_put w k.members k.concepts H n k.visits p.ensures q.ensures r.ensures in
    record { put = t; upper_bound = omega (arith, t.end, normal_room w k.members k.concepts H n A k.visits) }
