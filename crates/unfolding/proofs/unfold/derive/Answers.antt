use mathlib.Core.Path.{refl}
use Prim.Native.Nat.{◌+◌, ◌<◌}
use native.Mathlib.Omega.{arith}
use lib.ListN.{length}
use Rattle.std.proofs.lemmas.Result.{err_from_is_err_and}
use Rattle.words.specs.Words.{words}
use Rattle.words.specs.Laws.{length_words}
use Rattle.ir.specs.Answer.{Done, Refused}
use Rattle.ir.specs.Refusals.{refusal_number}
use Rattle.hands.specs.Hands.{four_of}
use Rattle.unfolding.specs.DeriveLaws.{derive_capped, derive_full, derive_more, derive_long}
use Rattle.unfolding.proofs.unfold.derive.Goals as goal

-- the cap, and its deferral
pub returns-in_err-defer-clause-fact : goal.returns-in_err-defer-clause-fact
returns-in_err-defer-clause-fact c =
    let p = err_from_is_err_and c.from_residual.result c.from_residual.ensures.1 in
    let t = c.args.lent.now in
    let C = words t.clauses.now in
    let A = words t.atoms.now in
    let D = words t.deferrals.now in
    rw (p.1, p.2) (λ env roles left v s x L T H F. derive_full env roles c.args.originals left t.counters c.args.queued (words c.args.scratch.now) C A D v s T c.requires.0 x (four_of (words c.args.scratch.now) t) (Refused (refusal_number c.in_err-defer.field-0.0)) c.if-number-originals-eq-CAP.true (c.in_err-defer.ensures.deferrals_after env s C A L T.drawn) _ refl)

pub returns-then-number-originals-eq-CAP-clause-fact : goal.returns-then-number-originals-eq-CAP-clause-fact
returns-then-number-originals-eq-CAP-clause-fact c =
    let t = c.args.lent.now in
    let C = words t.clauses.now in
    let A = words t.atoms.now in
    let D = words t.deferrals.now in
    λ env roles left v s x L T H F. derive_capped env roles c.args.originals left t.counters c.args.queued (words c.args.scratch.now) C A D v s T c.requires.0 x _ (Done c.defer.new.k 0) c.if-number-originals-eq-CAP.true (c.in_ok-defer.ensures.deferrals_after env s C A L T.drawn) _ 0 refl c.in_ok-defer.ensures.kept_answer

-- a clause more, and its number on the queue
pub returns-in_err-push_run-clause-fact : goal.returns-in_err-push_run-clause-fact
returns-in_err-push_run-clause-fact c =
    let p = err_from_is_err_and c.from_residual-in_err-push_run.result c.from_residual-in_err-push_run.ensures.1 in
    let t = c.args.lent.now in
    let C = words t.clauses.now in
    let A = words t.atoms.now in
    let D = words t.deferrals.now in
    let off = c.if-number-originals-eq-CAP.false in
    let room : c.args.queued < length (words c.args.scratch.now) = omega (arith, c.requires.0.first, c.requires.0.cap, c.requires.0.within, off, c.requires.4, length_words c.args.scratch.now) in
    rw (p.1, p.2) (λ env roles left v s x L T H F. derive_long env roles c.args.originals left t.counters c.args.queued (words c.args.scratch.now) C A D v s T c.requires.0 x room F (words c.push_run.new.clauses) (words c.push_run.new.atoms) (Refused (refusal_number c.in_err-push_run.field-0.0)) off (c.in_err-push_run.ensures.d_after env x.body x.head s D H.body H.hand L T.drawn) _ refl)

pub returns-clause-fact : goal.returns-clause-fact
returns-clause-fact c =
    let t = c.args.lent.now in
    let C = words t.clauses.now in
    let A = words t.atoms.now in
    let D = words t.deferrals.now in
    let off = c.if-number-originals-eq-CAP.false in
    let room : c.args.queued < length (words c.args.scratch.now) = omega (arith, c.requires.0.first, c.requires.0.cap, c.requires.0.within, off, c.requires.4, length_words c.args.scratch.now) in
    let q = c.push_run in
    (λ env roles left v s x L T H F. derive_more env roles c.args.originals left t.counters c.args.queued (words c.args.scratch.now) C A D v s T c.requires.0 x room F (words q.new.clauses) (words q.new.atoms) (Done q.new.k 0) off (c.in_ok-push_run.ensures.d_after env x.body x.head s D H.body H.hand L T.drawn) q.new.k 0 _ (0 + c.args.queued) refl c.in_ok-push_run.ensures.kept_answer (omega arith) c.put_word.ensures)
