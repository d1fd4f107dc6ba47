use Rattle.std.proofs.Common.{rules, arith, ap, sym, ◌∙◌, ◌++◌, ℕ}
use Rattle.deck.specs.Records.{known_in}
use Rattle.deck.proofs.ConceptLaws.{counted_known}
use Rattle.session.specs.Session.{checked, text_verdict, said_of}
use Rattle.session.specs.AppendLaws.{too_long, fits, told_checked}
use Rattle.session.proofs.append.check.Goals as goal

pub returns-then-n-text : goal.returns-then-n-text
returns-then-n-text c = λ s t e. rw c.from.ensures (too_long s (known_in s t c.args.st) c.args.text.now (omega (arith, e, c.if-n-text.true)))

pub returns : goal.returns
returns c =
    let u = c.args.text.now in
    λ s t e.
    let d = known_in s t c.args.st in
    let v = text_verdict d u in
    told_checked c.text_verdict.result c.map_err.result c.axiom_line-line.result v (s ++ u) _ (λ r d k. search rules) c.map_err.ensures.cases (c.text_verdict.ensures s t)
    ∙ ap said_of (ap (λ (line : ℕ). checked v line (s ++ u)) (omega (arith, c.axiom_line-line.ensures s t, (counted_known s t c.args.st).axioms)) ∙ sym (fits s d u (omega (arith, e, c.if-n-text.false, c.requires.0))))
