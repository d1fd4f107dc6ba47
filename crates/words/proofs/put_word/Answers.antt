use mathlib.Core.Path.{◌≡◌, ap, ◌∙◌}
use Prim.Native.Nat.{suc, ◌+◌, ◌*◌}
use native.Mathlib.Omega.{arith}
use Rattle.std.specs.Int.{to_le_bytes, w32}
use Rattle.words.specs.Words.{words}
use Rattle.words.specs.Laws.{set_words}
use Rattle.words.proofs.Parts.{back_part}
use Rattle.words.proofs.put_word.Goals as goal

pub returns : goal.returns
returns c =
    let a = c.args in
    let at = 4 * a.i in
    let e1 : at + 1 ≡ suc at = omega arith in
    let e2 : at + 2 ≡ suc (suc at) = omega arith in
    let e3 : at + 3 ≡ suc (suc (suc at)) = omega arith in
    let e = rw (e1, e2, e3) at (set_words a.s.now a.i a.w c.ranges.w.fits c.requires) in
    rw (c.copy_from_slice.ensures.after, c.to_le_bytes.ensures) (ap words (back_part at (at + 4) a.s.now (to_le_bytes w32 a.w) (omega arith) c.requires (omega arith)) ∙ e)
