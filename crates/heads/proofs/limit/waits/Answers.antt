use borrow.Author.Tests.{not-true, not-false}
use mathlib.Core.Path.{◌≡◌, refl, ◌∙◌}
use native.Mathlib.Omega.{arith}
use Rattle.words.specs.Words.{words}
use Rattle.pool.specs.Layout.{field, concept_at}
use Rattle.leaves.specs.ReadLaws.{kind_of, most_kind, concept_12, max_kind}
use Rattle.heads.proofs.limit.waits.Goals as goal

pub returns-then-not-equal_names : goal.returns-then-not-equal_names
returns-then-not-equal_names c = rw (← c.equal_names.ensures, not-true c.equal_names.result c.if-not-equal_names.true-raw) refl

pub returns-then-kind-lt-MAX : goal.returns-then-kind-lt-MAX
returns-then-kind-lt-MAX c =
    let q = c.equal_names in
    let w = words c.args.scratch.now in
    let e = c.kind.ensures ∙ kind_of c.args.scratch.now c.args.k c.requires.0 c.args.c c.requires.1 in
    let low = c.if-kind-lt-MAX.true in
    rw (← q.ensures, not-false q.result c.if-not-equal_names.false-raw, max_kind (concept_at w c.args.c) (λ z. omega (arith, low, e, z))) refl

pub returns : goal.returns
returns c =
    let q = c.equal_names in
    let w = words c.args.scratch.now in
    let most = most_kind c.args.scratch.now c.args.k c.requires.0 c.args.c c.requires.1 in
    let high = c.if-kind-lt-MAX.false in
    let kind : field w c.args.c 0 ≡ 12 = omega (arith, c.kind.ensures, high, most) in
    rw (← q.ensures, not-false q.result c.if-not-equal_names.false-raw, concept_12 w c.args.c kind) c.named_anew.ensures
