use Rattle.std.proofs.lemmas.Result.{err_from_is_err_and}
use mathlib.Core.Path.{refl}
use native.Mathlib.Omega.{arith}
use Rattle.words.specs.Words.{words}
use Rattle.words.specs.Laws.{length_words}
use Rattle.decomposition.specs.HereLaws.{clause_here}
use Rattle.decomposition.specs.TurnLaws.{turn_full, turn_whole, turn_rewritten, there, there_parts, fits, there_shorter}
use Rattle.decomposition.proofs.turn.turn.Goals as goal

pub first_atom-first-requires : goal.first_atom-first-requires
first_atom-first-requires c =
    omega (arith, (there c.requires.0).is.row, length_words c.args.clauses.now)

pub body_count-nb-requires : goal.body_count-nb-requires
body_count-nb-requires c =
    omega (arith, (there c.requires.0).is.row, length_words c.args.clauses.now)

pub head_count-nh-requires : goal.head_count-nh-requires
head_count-nh-requires c =
    omega (arith, (there c.requires.0).is.row, length_words c.args.clauses.now)

pub body_of-body-requires : goal.body_of-body-requires
body_of-body-requires c = let H = there c.requires.0 in record { clause = H.clause; is = H.is }

pub head_of-head-requires : goal.head_of-head-requires
head_of-head-requires c = let H = there c.requires.0 in record { clause = H.clause; is = H.is }

pub decompose_one-requires : goal.decompose_one-requires
decompose_one-requires c =
    let T = c.requires.0 in
    (there_parts T _ _ c.body_of-body.ensures c.head_of-head.ensures, record { state = T.passed.state; held = T.passed.held }, omega (arith, T.passed.first, T.listed.classes), c.requires.1)

pub put_rewritten-requires : goal.put_rewritten-requires
put_rewritten-requires c =
    let h = c.head_count-nh in
    let m = c.body_count-nb in
    let f = c.first_atom-first in
    let T = c.requires.0 in
    let F = fits T f.ensures m.ensures h.ensures in
    let lc = length_words c.args.clauses.now in
    let la = length_words c.args.atoms.now in
    let H = there T in
    let one = c.decompose_one in
    let short = there_shorter T f.ensures m.ensures h.ensures (words one.new.scratch) _ c.in-Some.n (rw c.in-Some.is at (c.in_ok-naming.ensures H.clause T.passed.state (c.body_of-body.ensures H.clause H.is) (c.head_of-head.ensures H.clause H.is) T.passed.held)) in
    (omega (arith, short, F.short), omega (arith, one.auto.scratch, c.requires.1), omega (arith, F.row, lc), omega (arith, F.room, la), c.requires.2.atoms, omega (arith, short, F.low))

pub overflow_add-body_end : goal.overflow_add-body_end
overflow_add-body_end c =
    let h = c.head_count-nh in
    let m = c.body_count-nb in
    let f = c.first_atom-first in
    let T = c.requires.0 in
    let F = fits T f.ensures m.ensures h.ensures in
    let la = length_words c.args.atoms.now in
    let H = there T in
    let one = c.decompose_one in
    let short = there_shorter T f.ensures m.ensures h.ensures (words one.new.scratch) _ c.in-Some.n (rw c.in-Some.is at (c.in_ok-naming.ensures H.clause T.passed.state (c.body_of-body.ensures H.clause H.is) (c.head_of-head.ensures H.clause H.is) T.passed.held)) in
    omega (arith, short, F.low, F.room, la, c.requires.2.atoms)

pub overflow_add-atoms : goal.overflow_add-atoms
overflow_add-atoms c =
    let h = c.head_count-nh in
    let m = c.body_count-nb in
    let f = c.first_atom-first in
    let T = c.requires.0 in
    let F = fits T f.ensures m.ensures h.ensures in
    let la = length_words c.args.atoms.now in
    let H = there T in
    let one = c.decompose_one in
    let short = there_shorter T f.ensures m.ensures h.ensures (words one.new.scratch) _ c.in-Some.n (rw c.in-Some.is at (c.in_ok-naming.ensures H.clause T.passed.state (c.body_of-body.ensures H.clause H.is) (c.head_of-head.ensures H.clause H.is) T.passed.held)) in
    omega (arith, short, F.low, F.room, la, c.requires.2.atoms)

pub overflow_add-rewritten : goal.overflow_add-rewritten
overflow_add-rewritten c =
    let h = c.head_count-nh in
    let m = c.body_count-nb in
    let f = c.first_atom-first in
    let T = c.requires.0 in
    let F = fits T f.ensures m.ensures h.ensures in
    let lc = length_words c.args.clauses.now in
    omega (arith, F.fewer, F.row, lc, c.requires.2.clauses)

pub overflow_add-count : goal.overflow_add-count
overflow_add-count c =
    let h = c.head_count-nh in
    let m = c.body_count-nb in
    let f = c.first_atom-first in
    let T = c.requires.0 in
    let F = fits T f.ensures m.ensures h.ensures in
    let la = length_words c.args.atoms.now in
    omega (arith, F.room, la, c.requires.2.atoms)

pub put_whole-requires : goal.put_whole-requires
put_whole-requires c =
    let h = c.head_count-nh in
    let m = c.body_count-nb in
    let f = c.first_atom-first in
    let T = c.requires.0 in
    let F = fits T f.ensures m.ensures h.ensures in
    let lc = length_words c.args.clauses.now in
    let la = length_words c.args.atoms.now in
    (omega (arith, F.row, lc), omega (arith, F.room, la), F.low)

pub overflow_add-atoms-in-None : goal.overflow_add-atoms-in-None
overflow_add-atoms-in-None c =
    let h = c.head_count-nh in
    let m = c.body_count-nb in
    let f = c.first_atom-first in
    let T = c.requires.0 in
    let F = fits T f.ensures m.ensures h.ensures in
    let la = length_words c.args.atoms.now in
    omega (arith, F.low, F.room, la, c.requires.2.atoms)

pub returns-in-Some : goal.returns-in-Some
returns-in-Some c =
    let h = c.head_count-nh in
    let m = c.body_count-nb in
    let f = c.first_atom-first in
    let w = words c.args.scratch.now in
    let cl = words c.args.clauses.now in
    let at = words c.args.atoms.now in
    let i = c.args.c in
    let to = c.args.p.atoms in
    let n = c.args.p.rewritten in
    let s = c.args.p.naming in
    let one = c.decompose_one in
    let w1 = words one.new.scratch in
    let put = c.put_rewritten in
    let low = (fits c.requires.0 f.ensures m.ensures h.ensures).low in
    λ l fresh c0 a0 L k P.
    let H = clause_here l c0 a0 cl at i to P.done.clauses L.tabled P.half k in
    let r = c.in_ok-naming.ensures H.clause P.state (c.body_of-body.ensures H.clause H.is) (c.head_of-head.ensures H.clause H.is) P.held in
    turn_rewritten l fresh c0 a0 w cl at s i to n P H f.result m.result h.result f.ensures m.ensures h.ensures w1 (words put.new.clauses) (words put.new.atoms) _ _ _ (rw c.in-Some.is at r) low put.ensures.clauses_after put.ensures.atoms_after refl

pub returns-in-None : goal.returns-in-None
returns-in-None c =
    let h = c.head_count-nh in
    let m = c.body_count-nb in
    let f = c.first_atom-first in
    let w = words c.args.scratch.now in
    let cl = words c.args.clauses.now in
    let at = words c.args.atoms.now in
    let i = c.args.c in
    let to = c.args.p.atoms in
    let n = c.args.p.rewritten in
    let s = c.args.p.naming in
    let one = c.decompose_one in
    let w1 = words one.new.scratch in
    let put = c.put_whole in
    λ l fresh c0 a0 L k P.
    let H = clause_here l c0 a0 cl at i to P.done.clauses L.tabled P.half k in
    let r = c.in_ok-naming.ensures H.clause P.state (c.body_of-body.ensures H.clause H.is) (c.head_of-head.ensures H.clause H.is) P.held in
    turn_whole l fresh c0 a0 w cl at s i to n P H f.result m.result h.result f.ensures m.ensures h.ensures w1 (words put.new.clauses) (words put.new.atoms) _ (rw c.in-None.is at r) put.ensures.clauses_after put.ensures.atoms_after refl

pub returns-in_err-naming : goal.returns-in_err-naming
returns-in_err-naming c =
    let h = c.head_count-nh in
    let m = c.body_count-nb in
    let f = c.first_atom-first in
    let w = words c.args.scratch.now in
    let cl = words c.args.clauses.now in
    let at = words c.args.atoms.now in
    let i = c.args.c in
    let to = c.args.p.atoms in
    let n = c.args.p.rewritten in
    let s = c.args.p.naming in
    let one = c.decompose_one in
    let w1 = words one.new.scratch in
    let back = err_from_is_err_and c.from_residual.result c.from_residual.ensures.1 in rw (back.1, back.2)
    (λ l fresh c0 a0 L k P.
    let H = clause_here l c0 a0 cl at i to P.done.clauses L.tabled P.half k in
    let r = c.in_err-naming.ensures H.clause P.state (c.body_of-body.ensures H.clause H.is) (c.head_of-head.ensures H.clause H.is) P.held in
    turn_full l fresh c0 a0 w cl at s i to n P H w1 _ r)
