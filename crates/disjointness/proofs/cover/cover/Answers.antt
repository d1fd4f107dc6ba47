use Rattle.heads.specs.FrameLaws.{reading_kept}
use Rattle.disjointness.specs.CoverLaws.{members_kept, first_hands, cover_all, cover_missing, cover_long}
use Rattle.words.specs.Laws.{length_words}
use Rattle.words.specs.Words.{words}
use Rattle.std.proofs.lemmas.Result.{err_from_is_err_and}
use lib.ListN.{length}
use mathlib.Core.Path.{ap, ◌∙◌}
use Rattle.std.specs.Prelude.{Ok}
use native.Mathlib.Omega.{arith}
use Prim.Native.Nat.{◌+◌, ◌*◌, ◌≤◌}
use Rattle.disjointness.proofs.cover.cover.Goals as goal

pub put_heads-requires : goal.put_heads-requires
put_heads-requires c = let A = c.args.lent.now.counters in let room : 6 * 13500 + 6 ≤ length (words c.args.scratch.now) = omega (arith, length_words c.args.scratch.now, c.requires.2) in
    let low = first_hands A c.args.class c.args.at c.args.count (words c.args.scratch.now) _ (words c.args.scratch.now) c.put_atom.ensures room c.requires.0.ready.held c.requires.1 in
    let l = c.put_atom.auto.t in
    (reading_kept c.args.scratch.now _ A 13500 c.requires.0 (omega arith) low l, members_kept (words c.args.scratch.now) _ A c.args.at c.args.count low c.requires.1, omega (arith, l, c.requires.2))

pub returns-then-branch-clause-did : goal.returns-then-branch-clause-did
returns-then-branch-clause-did c = let t = c.args.lent.now in let room : 6 * 13500 + 6 ≤ length (words c.args.scratch.now) = omega (arith, length_words c.args.scratch.now, c.requires.2) in
    let p = c.push_run.ensures in
    (cover_all t.counters c.args.class c.args.at c.args.count (words c.args.scratch.now) _ _ c.put_atom.ensures room c.requires.0.ready.held c.requires.1
    _ c.put_heads.ensures (words t.clauses.now) (words t.atoms.now) (words t.deferrals.now) _ _ (words t.deferrals.now) _ p.good_answer p.kept_answer (c.in_ok-put_heads.was ∙ ap Ok c.if-branch.true) p.d_after)

pub returns-else-branch-clause-did : goal.returns-else-branch-clause-did
returns-else-branch-clause-did c = let t = c.args.lent.now in let room : 6 * 13500 + 6 ≤ length (words c.args.scratch.now) = omega (arith, length_words c.args.scratch.now, c.requires.2) in
    let p = c.defer.ensures in
    cover_missing t.counters c.args.class c.args.at c.args.count (words c.args.scratch.now) _ _ c.put_atom.ensures room c.requires.0.ready.held c.requires.1
    _ c.put_heads.ensures (words t.clauses.now) (words t.atoms.now) (words t.deferrals.now) (words t.clauses.now) (words t.atoms.now) _ _ (p.good_answer c.requires.4) p.kept_answer (c.in_ok-put_heads.was ∙ ap Ok c.if-branch.false) p.deferrals_after

pub returns-in_err-put_heads-clause-did : goal.returns-in_err-put_heads-clause-did
returns-in_err-put_heads-clause-did c = let q = err_from_is_err_and c.from_residual.result c.from_residual.ensures.1 in let t = c.args.lent.now in let room : 6 * 13500 + 6 ≤ length (words c.args.scratch.now) = omega (arith, length_words c.args.scratch.now, c.requires.2) in
    rw (q.1, q.2) (cover_long t.counters c.args.class c.args.at c.args.count (words c.args.scratch.now) _ _ c.put_atom.ensures room c.requires.0.ready.held c.requires.1
    _ c.put_heads.ensures (words t.clauses.now) (words t.atoms.now) (words t.deferrals.now) _ c.in_err-put_heads.was)
