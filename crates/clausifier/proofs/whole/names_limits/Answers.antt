use borrow.Author.Tests.{not-true, not-false, ltb-true, ltb-false}
use native.Mathlib.Omega.{arith}
use mathlib.Core.Path.{refl, sym, ◌∙◌}
use lib.Dec.{ltb}
use Rattle.words.specs.Words.{words}
use Rattle.ir.specs.Options.{equal_names}
use Rattle.rules.specs.TextLaws.{by_test}
use Rattle.ontology.specs.Layout.{axiom_at}
use Rattle.ontology.specs.KeptAxioms.{kind_inside}
use Rattle.clausifier.specs.RowLaws.{axiom_few}
use Rattle.clausifier.specs.LimitedLaws.{names_limits_lem, names_none, names_off}
use Rattle.clausifier.proofs.whole.names_limits.Goals as goal

pub returns-then-not-equal_names : goal.returns-then-not-equal_names
returns-then-not-equal_names c =
    let q = c.equal_names in
    names_off (axiom_at (words c.args.scratch.now) c.args.i) (equal_names c.args.k.options) (sym q.ensures ∙ not-true q.result c.if-not-equal_names.true-raw)

pub number-requires : goal.number-requires
number-requires c =
    let w = words c.args.scratch.now in
    (axiom_few w c.args.k c.args.i c.requires.1, omega (arith, c.requires.0.space), kind_inside w c.requires.1.count c.args.i c.requires.1.axioms.held c.requires.1.among)

pub returns-in-21 : goal.returns-in-21
returns-in-21 c =
    let q = c.equal_names in
    let m = c.number in
    let on = sym q.ensures ∙ not-false q.result c.if-not-equal_names.false-raw in
    by_test (ltb m.result 22)
    (λ e. let x = ltb-true m.result 22 e in names_limits_lem (words c.args.scratch.now) c.args.k c.args.i m.result c.requires.1 m.ensures 21 (omega arith) refl (equal_names c.args.k.options) on)
    (λ e. let x = ltb-false m.result 22 e in names_limits_lem (words c.args.scratch.now) c.args.k c.args.i m.result c.requires.1 m.ensures 22 (omega arith) refl (equal_names c.args.k.options) on)

pub returns-in-21-2 : goal.returns-in-21-2
returns-in-21-2 c =
    let q = c.equal_names in
    let m = c.number in
    let on = sym q.ensures ∙ not-false q.result c.if-not-equal_names.false-raw in
    by_test (ltb m.result 26)
    (λ e. let x = ltb-true m.result 26 e in names_limits_lem (words c.args.scratch.now) c.args.k c.args.i m.result c.requires.1 m.ensures 25 (omega arith) refl (equal_names c.args.k.options) on)
    (λ e. let x = ltb-false m.result 26 e in names_limits_lem (words c.args.scratch.now) c.args.k c.args.i m.result c.requires.1 m.ensures 26 (omega arith) refl (equal_names c.args.k.options) on)

pub returns-in_default : goal.returns-in_default
returns-in_default c =
    let m = c.number in
    names_none (words c.args.scratch.now) c.args.k c.args.i m.result c.requires.1 m.ensures (λ z. omega arith) (λ z. omega arith) (λ z. omega arith) (λ z. omega arith) (equal_names c.args.k.options)

pub returns-in_default-2 : goal.returns-in_default-2
returns-in_default-2 c =
    let m = c.number in
    names_none (words c.args.scratch.now) c.args.k c.args.i m.result c.requires.1 m.ensures (λ z. omega arith) (λ z. omega arith) (λ z. omega arith) (λ z. omega arith) (equal_names c.args.k.options)

pub returns-in_default-3 : goal.returns-in_default-3
returns-in_default-3 c =
    let m = c.number in
    names_none (words c.args.scratch.now) c.args.k c.args.i m.result c.requires.1 m.ensures (λ z. omega arith) (λ z. omega arith) (λ z. omega arith) (λ z. omega arith) (equal_names c.args.k.options)
