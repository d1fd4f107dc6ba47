use Rattle.std.proofs.Common.{sym, ◌∙◌}
use Rattle.words.specs.Words.{words}
use Rattle.axiomtests.proofs.ListLaws.{every_at, found_from, found_none, found_all, every_next}
use Rattle.axiomtests.proofs.members.every.Goals as goal

pub returns : goal.returns
returns c =
    let v = words c.args.scratch.now in
    let l = c.args.l in
    let n = c.args.size in
    λ f M.
    c.folded.ensures (found_from every_at f n v l) (c.whole.ensures ∙ sym (found_none every_at f n v l)) (λ j found r h e p. every_next f n v l M j h found r e p)
    ∙ found_all every_at f n v l
