use Rattle.std.proofs.Common.{◌≡◌, refl, subst, ap, ◌∙◌, List, ℕ, length, take, arith}
use Rattle.rules.specs.Invariants.{Each}
use Rattle.spelling.specs.Lines.{Line, IsRow, text_of}
use Rattle.session.specs.PlaceLaws.{At, at_place}
use Rattle.session.specs.RemovalLaws.{lines_before, next_place}
use Rattle.session.proofs.removal.place.Goals as goal

pub loop-init : goal.loop-init
unfolding text_of
loop-init c = λ q R t h. refl

pub behind-at-requires : goal.behind-at-requires
behind-at-requires c =
    let r = c.requires in
    let i = c.loop.counter in
    let A : At r.0 i = at_place r.0 i (omega (arith, r.3)) in (
      A.first,
      A.it,
      A.later,
      subst (λ (z : List Line). Each IsRow z) A.is r.1,
      r.2 ∙ ap text_of A.is,
      c.loop.invariant r.0 r.1 r.2 r.3 ∙ ap (λ (z : List Line). length (text_of z)) (lines_before r.0 i A),
    )

pub loop-preserved : goal.loop-preserved
loop-preserved c = λ q R t h.
    let i = c.loop.counter in
    let A : At q i = at_place q i (omega arith) in
    let w = c.loop.invariant q R t h in
    let e = c.behind-at.ensures A.first A.it A.later (subst (λ (z : List Line). Each IsRow z) A.is R) (t ∙ ap text_of A.is) (w ∙ ap (λ (z : List Line). length (text_of z)) (lines_before q i A)) in
    e ∙ omega (arith, w) ∙ next_place q i A

pub returns : goal.returns
returns c = λ l R t h.
    let e : c.loop.counter ≡ c.args.k = omega arith in
    c.loop.invariant l R t h ∙ ap (λ (i : ℕ). length (text_of (take i l))) e
