use mathlib.Core.Path.{◌≡◌, refl, ◌∙◌}
use mathlib.Core.List.{List}
use Prim.Native.Nat.{ℕ, ◌+◌, ◌-◌, ◌%◌, ◌≤◌}
use native.Mathlib.Omega.{arith}
use lib.ListN.{length, replicate}
use lib.Seq.{sets}
use borrow.Rule.Slice.PartMut.{put_mid, mid_of, mid_len}
use Rattle.words.proofs.Parts.{back_part}
use Rattle.rows.specs.RowLaws.{spaces, written_none, written_more, written_end}
use Rattle.rows.proofs.put_digits.Goals as goal

spaced : (s ys : List ℕ) (at : ℕ) → at + 11 ≤ length s → ys ≡ replicate (length (mid_of at (at + 11 - at) s)) 32 → put_mid at (at + 11 - at) s ys ≡ sets s at (spaces 11)
spaced s ys at h e =
    let k : at + 11 - at ≡ 11 = omega arith in
    let f : ys ≡ spaces 11 = e ∙ rw (mid_len at (at + 11) s h, k) refl in
    rw f (back_part at (at + 11) s (spaces 11) (omega arith) h (omega arith))

pub loop-j-init : goal.loop-j-init
loop-j-init c =
    let a = c.args in
    written_none a.out.now a.at a.number _ c.ranges.number.fits (spaced a.out.now c.fill.new.self a.at c.requires (c.fill.ensures.after (λ y h. h)))

pub loop-j-preserved : goal.loop-j-preserved
loop-j-preserved c = let l = c.loop-j in written_more _ c.args.at c.args.number l.rest (l.j - 1) l.out l.invariant (omega (arith, c.if-rest-eq0.false))

pub returns-then-rest-eq0 : goal.returns-then-rest-eq0
returns-then-rest-eq0 c =
    let l = c.loop-j in
    let a = c.args in
    let e : l.rest % 10 ≡ l.rest = omega (arith, c.if-rest-eq0.true) in
    rw e (written_end a.out.now a.at a.number l.rest (l.j - 1) _ l.out (spaced a.out.now c.fill.new.self a.at c.requires (c.fill.ensures.after (λ y h. h))) l.invariant (omega (arith, c.if-rest-eq0.true)))
