use mathlib.Core.Path.{sym, ap, ◌∙◌}
use native.Mathlib.Omega.{arith}
use Rattle.ir.specs.Roles.{role_of}
use Rattle.inverse.specs.AxiomLaws.{axiom_idle, first_small, second_small, axiom_entry}
use Rattle.inverse.proofs.build.declare_axiom.Goals as goal

pub returns-then-number-ne-INVERSE-clause-made : goal.returns-then-number-ne-INVERSE-clause-made
returns-then-number-ne-INVERSE-clause-made c = axiom_idle c.args.scratch.now _ _ c.requires.0 c.requires.1 _ c.number.ensures c.if-number-ne-INVERSE.true _

pub declare-requires : goal.declare-requires
declare-requires c =
    let k = sym c.number.ensures ∙ c.if-number-ne-INVERSE.false in (
      first_small c.args.scratch.now _ _ c.requires.0 c.requires.1 k _ (c.of_code-r.ensures ∙ ap role_of c.number-2.ensures),
      second_small c.args.scratch.now _ _ c.requires.0 c.requires.1 k _ (c.of_code-s.ensures ∙ ap role_of c.number-3.ensures),
      omega (arith, c.requires.2, c.requires.1, c.requires.0.held.few),
      omega (arith, c.requires.0.space),
    )

pub returns-clause-made : goal.returns-clause-made
returns-clause-made c =
    axiom_entry c.args.scratch.now _ _ c.requires.0 c.requires.1 (sym c.number.ensures ∙ c.if-number-ne-INVERSE.false) _ _ _ _ _
    (c.of_code-r.ensures ∙ ap role_of c.number-2.ensures) (c.of_code-s.ensures ∙ ap role_of c.number-3.ensures) c.declare.ensures.made
