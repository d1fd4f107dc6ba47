use Rattle.std.proofs.Common.{◌≡◌, subst, ap, ◌∙◌, List, ◌++◌, ◌≤◌, length, take, drop, arith}
use Rattle.rules.specs.Invariants.{Each}
use Rattle.spelling.specs.Lines.{Line, IsRow, text_of}
use Rattle.session.specs.Session.{stored, deck_in, without}
use Rattle.session.specs.PlaceLaws.{At, at_place}
use Rattle.session.specs.RemovalLaws.{lines_before, line_cut}
use Rattle.session.proofs.removal.remove_line.Goals as goal
use Rattle.session.proofs.removal.remove_line.Goals.{After-behind-to}

pub behind-to-requires : goal.behind-to-requires
behind-to-requires c =
    let r = c.requires.2 in
    let k = c.args.k in
    let A : At r.0 k = at_place r.0 k r.3 in
    let e = c.place-from.ensures r.0 r.1 (c.deck.ensures ∙ r.2) (omega (arith, r.3)) in (
      A.first,
      A.it,
      A.later,
      subst (λ (z : List Line). Each IsRow z) A.is r.1,
      c.deck-2.ensures ∙ r.2 ∙ ap text_of A.is,
      e ∙ ap (λ (z : List Line). length (text_of z)) (lines_before r.0 k A),
    )

cuts : (c : After-behind-to) → (c.place-from.result ≤ c.behind-to.result) × (c.behind-to.result ≤ length (deck_in c.args.session.now))
    × (take c.place-from.result (deck_in c.args.session.now) ++ drop c.behind-to.result (deck_in c.args.session.now) ≡ without c.args.k (deck_in c.args.session.now))
cuts c =
    let r = c.requires.2 in
    let k = c.args.k in
    let A : At r.0 k = at_place r.0 k r.3 in
    let e = c.place-from.ensures r.0 r.1 (c.deck.ensures ∙ r.2) (omega (arith, r.3)) in
    let t = c.behind-to.ensures A.first A.it A.later (subst (λ (z : List Line). Each IsRow z) A.is r.1) (c.deck-2.ensures ∙ r.2 ∙ ap text_of A.is) (e ∙ ap (λ (z : List Line). length (text_of z)) (lines_before r.0 k A)) in
    line_cut (deck_in c.args.session.now) r.0 k c.place-from.result c.behind-to.result A r.1 r.2 e t

pub cut-requires : goal.cut-requires
cut-requires c = let w = cuts (goal.at.cut-requires c).After-behind-to in (c.requires.0, c.requires.1, w.0, w.1)

pub returns : goal.returns
returns c = c.cut.ensures ∙ ap stored (cuts (goal.at.returns c).After-behind-to).2
