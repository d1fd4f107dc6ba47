use Rattle.words.specs.Words.{words}
use Rattle.pool.specs.Layout.{concept_at}
use mathlib.Core.Path.{◌∙◌, sym, refl}
use Rattle.std.proofs.lemmas.Bool.{ne_eqb}
use Rattle.leaves.specs.ReadLaws.{none_kind, kind_of, concept_11}
use Rattle.leaves.proofs.read.at_least_none.Goals as goal

pub returns-then-kind-eq-MIN : goal.returns-then-kind-eq-MIN
returns-then-kind-eq-MIN c = rw (concept_11 (words c.args.scratch.now) c.args.c (sym c.kind.ensures ∙ c.if-kind-eq-MIN.true)) (rw c.number.ensures refl)

pub returns-else-kind-eq-MIN : goal.returns-else-kind-eq-MIN
returns-else-kind-eq-MIN c = ne_eqb c.kind.result 11 c.if-kind-eq-MIN.false ∙ none_kind (concept_at (words c.args.scratch.now) c.args.c) (λ q. c.if-kind-eq-MIN.false (c.kind.ensures ∙ kind_of c.args.scratch.now c.args.k c.requires.0 c.args.c c.requires.1 ∙ q))
