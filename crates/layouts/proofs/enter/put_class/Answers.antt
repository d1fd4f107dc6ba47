use native.Mathlib.Omega.{arith}
use mathlib.Core.Path.{refl}
use borrow.Author.Tests.{le-leb, lt-leb}
use Rattle.words.specs.Words.{words}
use Rattle.words.specs.Laws.{length_words}
use Prim.Native.Nat.{◌+◌, ◌*◌, ◌≤◌, ◌<◌}
use lib.ListN.{length}
use Rattle.layouts.proofs.enter.put_class.Goals as goal

pub returns-then-c-store : goal.returns-then-c-store
returns-then-c-store c =
    let a = c.args in
    let l : 2 * a.c + 2 ≤ length (words a.store.now) = omega (arith, length_words a.store.now, c.if-c-store.true) in
    rw (le-leb _ _ l) c.put_set.ensures

pub returns-else-c-store : goal.returns-else-c-store
returns-else-c-store c =
    let a = c.args in
    let l : length (words a.store.now) < 2 * a.c + 2 = omega (arith, length_words a.store.now, c.if-c-store.false) in
    rw (lt-leb _ _ l) refl
