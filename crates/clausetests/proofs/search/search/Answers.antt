use Rattle.std.proofs.Common.{◌≡◌, ◌-◌, ◌∙◌, arith}
use Rattle.clausetests.proofs.SearchLaws.{none_left, found_first, fits_four}
use Rattle.clausetests.proofs.search.search.Goals as goal

pub returns-then-k-eq0 : goal.returns-then-k-eq0
returns-then-k-eq0 c = λ one two T. none_left c.args.size two c.args.k one _ c.if-k-eq0.true

pub returns : goal.returns
returns c =
    let a = c.args in
    let all : a.k - 0 ≡ a.k = omega arith in
    λ one two T.
    let fit = fits_four a.size a.k _ _ _ _ one c.requires.0 (λ h. c.get_set.ensures ∙ T.ones 0 h) (λ h. c.get_set-2.ensures ∙ T.ones 1 h) (λ h. c.get_set-3.ensures ∙ T.ones 2 h) (λ h. c.get_set-4.ensures ∙ T.ones 3 h) in
    found_first a.k c.search_from.result ∙ (rw all at (c.search_from.ensures two one T.twos fit))
