use Rattle.std.proofs.Common.{arith, ◌+◌, ◌-◌, length}
use Rattle.session.specs.FormLaws.{session_long, session_word}
use Rattle.session.specs.AppendLaws.{stored_behind}
use Rattle.session.proofs.append.put_behind.Goals as goal

pub overflow_add-at : goal.overflow_add-at
overflow_add-at c = let n = session_word c.args.session.now c.length-n.result c.requires.0 (omega (arith, c.requires.1)) c.length-n.ensures in omega (arith, n, c.requires.1)

pub overflow_add-at-2 : goal.overflow_add-at-2
overflow_add-at-2 c = let n = session_word c.args.session.now c.length-n.result c.requires.0 (omega (arith, c.requires.1)) c.length-n.ensures in omega (arith, n, c.requires.1)

pub slice_bounds-copy-end : goal.slice_bounds-copy-end
slice_bounds-copy-end c =
    let n = session_word c.args.session.now c.length-n.result c.requires.0 (omega (arith, c.requires.1)) c.length-n.ensures in
    let l = session_long c.args.session.now c.requires.0 (omega (arith, c.requires.1)) in
    omega (arith, n, l, c.requires.1)

pub put_length-requires : goal.put_length-requires
put_length-requires c =
    let n = session_word c.args.session.now c.length-n.result c.requires.0 (omega (arith, c.requires.1)) c.length-n.ensures in
    let l = session_long c.args.session.now c.requires.0 (omega (arith, c.requires.1)) in
    (omega (arith, n, l, c.requires.1, c.copy.ensures), omega (arith, n, c.requires.1))

pub returns : goal.returns
returns c =
    let s = c.args.session.now in
    let n = c.length-n.result in
    let k = length c.args.text.now in
    stored_behind s c.args.text.now c.put_length.new.session c.copy.new.s n (4 + n) (4 + n + k - (4 + n)) c.requires.0 c.length-n.ensures c.requires.1 (omega arith) (omega arith) c.copy.ensures c.put_length.ensures
