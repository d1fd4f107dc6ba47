use mathlib.Core.Path.{sym, ◌∙◌}
use Prim.Native.Nat.{◌+◌, ◌<◌}
use native.Mathlib.Omega.{arith}
use lib.ListN.{get_or}
use Rattle.words.specs.Words.{words}
use Rattle.rules.specs.Semantics.{means}
use Rattle.axiomtests.proofs.LineLaws.{concept_small, code_small, element_small, concept_of_lem}
use Rattle.axiomtests.proofs.ArmLaws.{domain_in, domain_none, domain_set}
use Rattle.axiomtests.proofs.pairs.domain.Goals as goal

pub set_of-requires : goal.set_of-requires
set_of-requires c = let P = c.requires.0 in (concept_small P.line _ _ c.get_word-c.ensures (domain_in P.line).1, P.space)

pub returns-then-has : goal.returns-then-has
returns-then-has c =
    λ d I w L.
    let among : c.args.x < I.size = omega (arith, c.requires.1, L.fits.size) in
    domain_none L c.args.x (sym (c.has.ensures.by_index I.size (means I d.concepts (get_or (words c.args.scratch.now) (c.args.line.at + 2) 0)) among (concept_of_lem L _ _ _ c.get_word-c.ensures (domain_in L).1 c.set_of.ensures)) ∙ c.if-has.true)

pub row-requires : goal.row-requires
row-requires c = let P = c.requires.0 in (code_small P.line _ _ c.get_word-code.ensures (domain_in P.line).0, element_small P.line _ c.requires.1, P.space)

pub returns : goal.returns
returns c =
    λ d I w L.
    let among : c.args.x < I.size = omega (arith, c.requires.1, L.fits.size) in
    domain_set L c.args.x _ _ (sym (c.has.ensures.by_index I.size (means I d.concepts (get_or (words c.args.scratch.now) (c.args.line.at + 2) 0)) among (concept_of_lem L _ _ _ c.get_word-c.ensures (domain_in L).1 c.set_of.ensures)) ∙ c.if-has.false) c.get_word-code.ensures c.requires.1 c.row.ensures
