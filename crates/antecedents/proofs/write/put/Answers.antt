use Rattle.antecedents.proofs.Writing.{put_room, put_full}
use Rattle.antecedents.proofs.write.put.Goals as goal

pub returns-then-at-scratch : goal.returns-then-at-scratch
returns-then-at-scratch c =
    let s = c.args in
    put_room _ _ _ s.a c.if-at-scratch.true c.put_atom.ensures

pub returns : goal.returns
returns c = put_full _ _ c.args.a c.if-at-scratch.false
