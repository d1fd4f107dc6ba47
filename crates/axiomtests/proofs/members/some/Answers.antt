use Rattle.std.proofs.Common.{sym, ◌∙◌}
use Rattle.words.specs.Words.{words}
use Rattle.states.specs.MaskLaws.{mask_empty}
use Rattle.axiomtests.proofs.ListLaws.{some_at, found_from, found_none, found_all, some_next}
use Rattle.axiomtests.proofs.members.some.Goals as goal

pub returns : goal.returns
returns c =
    let v = words c.args.scratch.now in
    let l = c.args.l in
    λ n f M.
    c.folded.ensures (found_from some_at f n v l) (sym (found_none some_at f n v l ∙ mask_empty n)) (λ j found r h e p. some_next f n v l M j h found r e p)
    ∙ found_all some_at f n v l
