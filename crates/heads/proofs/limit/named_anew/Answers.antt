use mathlib.Core.Path.{◌≡◌, refl, sym, ◌∙◌}
use native.Mathlib.Omega.{arith}
use lib.Dec.{ltb}
use borrow.Author.Tests.{ltb-true, ltb-false}
use Rattle.words.specs.Words.{words}
use Rattle.pool.specs.Layout.{field, concept_at}
use Rattle.rules.specs.TextLaws.{by_test}
use Rattle.leaves.specs.ReadLaws.{kind_of, concept_1, concept_3, concept_4, anew_kind}
use Rattle.heads.proofs.limit.named_anew.Goals as goal

pub returns-in-1 : goal.returns-in-1
returns-in-1 c = rw (concept_1 (words c.args.scratch.now) c.args.d (sym c.kind.ensures ∙ c.in-1.is)) refl

pub returns-in-1-2 : goal.returns-in-1-2
returns-in-1-2 c =
    let w = words c.args.scratch.now in
    let k = c.kind.result in
    by_test (ltb k 4)
    (λ e. let x = ltb-true k 4 e in let q : field w c.args.d 0 ≡ 3 = omega (arith, c.kind.ensures) in rw (concept_3 w c.args.d q) refl)
    (λ e. let x = ltb-false k 4 e in let q : field w c.args.d 0 ≡ 4 = omega (arith, c.kind.ensures) in rw (concept_4 w c.args.d q) refl)

pub returns-in_default : goal.returns-in_default
returns-in_default c =
    let e = c.kind.ensures ∙ kind_of c.args.scratch.now c.args.k c.requires.0 c.args.d c.requires.1 in
    anew_kind (concept_at (words c.args.scratch.now) c.args.d) (λ z. let y = e ∙ z in omega arith) (λ z. let y = e ∙ z in omega arith) (λ z. let y = e ∙ z in omega arith)
