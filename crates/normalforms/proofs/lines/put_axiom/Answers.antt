use mathlib.Core.Path.{ap}
use Prim.Native.Nat.{ℕ, ◌+◌}
use native.Mathlib.Omega.{arith}
use Rattle.words.specs.Words.{words}
use Rattle.words.specs.Laws.{length_words}
use Rattle.ir.specs.Scratch.{numbers_at}
use Rattle.rows.specs.RowLaws.{words_long}
use Rattle.normalforms.proofs.LineLaws.{axiom_long, axiom_put_lem}
use Rattle.normalforms.proofs.lines.put_axiom.Goals as goal

pub put_words-p-requires : goal.put_words-p-requires
put_words-p-requires c =
    let w = words c.args.scratch.now in
    let i = c.args.i in
    let a = c.requires.0.within i c.requires.1 in
    let n = c.count-count.ensures in
    (omega (arith, a, n, c.start.ensures, c.requires.2), omega (arith, n, c.requires.3, axiom_long w c.args.n c.requires.0 i c.requires.1))

pub end_line-requires : goal.end_line-requires
end_line-requires c =
    let s = c.args.scratch.now in
    let w = words s in
    let i = c.args.i in
    let q = c.put_words-p in
    let n = c.count-count in
    let b = c.start in
    let l = words_long w (numbers_at + b.result) n.result (rw (length_words s) (omega (arith, c.requires.0.within i c.requires.1, n.ensures, b.ensures, c.requires.2))) in
    omega (arith, n.ensures, c.requires.3, axiom_long w c.args.n c.requires.0 i c.requires.1, q.ensures.end, l, q.auto.out)

pub returns : goal.returns
returns c =
    let s = c.args.scratch.now in
    let w = words s in
    let i = c.args.i in
    let n = c.count-count in
    let b = c.start in
    axiom_put_lem w c.args.n c.requires.0 i c.requires.1 (numbers_at + b.result) n.result (rw (length_words s) (omega (arith, c.requires.0.within i c.requires.1, c.requires.2)))
    (ap (λ (j : ℕ). numbers_at + j) b.ensures) n.ensures c.put_words-p.ensures c.end_line.ensures
