use mathlib.Core.Path.{subst}
use mathlib.Core.List.{List}
use Prim.Native.Nat.{ℕ}
use native.Mathlib.Omega.{arith}
use Rattle.words.specs.Words.{words}
use Rattle.rows.specs.Rows.{Put, texts_of}
use Rattle.rows.specs.RowLaws.{texts_all, text_fits, text_more, texts_end}
use Rattle.clauses.proofs.LineLaws.{deferral_text, deferral_long, deferral_texts_long, deferral_put_lem, deferring_text}
use Rattle.clauses.proofs.lines.put_deferrals.Goals as goal

pub loop-i-init : goal.loop-i-init
loop-i-init c =
    let a = c.args in
    texts_all (deferral_text (words a.deferrals.now)) 0 a.n a.n a.out.now a.at (omega arith)

pub deferral_line-line-requires : goal.deferral_line-line-requires
deferral_line-line-requires c = omega (arith, c.requires.0, c.loop-i-test.true)

pub deferral_kind-kind-requires : goal.deferral_kind-kind-requires
deferral_kind-kind-requires c = omega (arith, c.requires.0, c.loop-i-test.true)

pub put_line-p-requires : goal.put_line-p-requires
put_line-p-requires c =
    let a = c.args in
    let l = c.loop-i in
    let w = words a.deferrals.now in
    let f = text_fits (deferral_text w) l.i a.n a.out.now a.at (texts_of (deferral_text w) 0 a.n) l.out l.p c.loop-i-test.true l.invariant (omega (arith, deferral_texts_long w a.n 0, c.requires.1)) in
    omega (arith, f, deferral_long w l.i)

pub loop-i-preserved : goal.loop-i-preserved
loop-i-preserved c =
    let a = c.args in
    let l = c.loop-i in
    let t = c.loop-i-test.true in
    let f = deferral_text (words a.deferrals.now) in
    let P = deferral_put_lem (words a.deferrals.now) l.i c.deferral_line-line.result c.deferral_kind-kind.result c.deferral_line-line.ensures c.deferral_kind-kind.ensures c.put_line-p.ensures in
    text_more f l.i a.n a.out.now a.at (texts_of f 0 a.n) l.out l.p _ c.put_line-p.result t l.invariant P

pub returns : goal.returns
returns c = λ list D.
    let a = c.args in
    let l = c.loop-i in
    let f = deferral_text (words a.deferrals.now) in
    subst (λ (t : List ℕ). Put a.out.now a.at t l.out l.p) (deferring_text (words a.deferrals.now) a.n list D)
    (texts_end f l.i a.n a.out.now a.at (texts_of f 0 a.n) l.out l.p (omega arith) l.invariant)
