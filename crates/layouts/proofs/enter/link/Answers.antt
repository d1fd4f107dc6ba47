use native.Mathlib.Omega.{arith}
use mathlib.Core.Path.{sym, subst}
use mathlib.Core.List.{List}
use Prim.Native.Nat.{ℕ, ◌+◌, ◌*◌, ◌≤◌}
use lib.ListN.{length}
use Rattle.words.specs.Words.{words}
use Rattle.words.specs.Laws.{length_words}
use Rattle.sets.specs.Places.{rows_at}
use Rattle.layouts.specs.Drawn.{Linked}
use Rattle.layouts.proofs.Links.{link_put}
use Rattle.layouts.proofs.enter.link.Goals as goal

pub returns : goal.returns
returns c =
    let v = words c.args.scratch.now in
    let i = rows_at + 64 * c.args.code + c.args.x in
    let l : 2 * i + 2 ≤ length v = omega (arith, length_words c.args.scratch.now, c.requires.0, c.requires.1, c.requires.2) in
    subst (λ (t : List ℕ). Linked v t i c.args.y) (sym c.put_set.ensures) (link_put v i c.args.y c.get_set-row.result c.with.result l (omega arith) c.get_set-row.ensures c.with.ensures)
