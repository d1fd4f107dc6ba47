use mathlib.Core.Path.{◌∙◌, sym, ap}
use mathlib.Core.Option.{some}
use Prim.{tt}
use native.Mathlib.Omega.{arith}
use Rattle.words.specs.Words.{words}
use Rattle.pool.specs.Layout.{concept_at, pool_of}
use Rattle.ir.specs.declared.role.Role.{Role}
use Rattle.ir.specs.declared.atom.Atom.TheVariants as AtomIs
use Rattle.leaves.specs.ReadLaws.{kind_of, concept_5, self_role, negated_class, negated_none}
use Rattle.leaves.proofs.leaf.negated.Goals as goal

pub canon-requires : goal.canon-requires
canon-requires c = (c.requires.0, c.requires.1, self_role (concept_at (words c.args.scratch.now) c.args.d) (sym (kind_of c.args.scratch.now c.args.k c.requires.0 c.args.d c.requires.1) ∙ sym c.kind.ensures ∙ c.if-kind-eq-SELF.true))

pub returns-then-kind-eq-SELF : goal.returns-then-kind-eq-SELF
returns-then-kind-eq-SELF c = let e = sym c.kind.ensures ∙ c.if-kind-eq-SELF.true in
    record {
      result_value = λ env E. rw (concept_5 (words c.args.scratch.now) c.args.d e) (ap (λ (r : Role). some (AtomIs.Role r c.args.v c.args.v)) (c.canon.ensures.value env E));
      literal_fits = c.canon.ensures.result_bound;
    }

pub returns-in_err-a : goal.returns-in_err-a
returns-in_err-a c = rw c.from_residual.ensures (record {
  result_value = λ env E. negated_none env (pool_of (words c.args.scratch.now) c.args.k.concepts) c.args.v 0 (concept_at (words c.args.scratch.now) c.args.d) (λ h. c.if-kind-eq-SELF.false (c.kind.ensures ∙ kind_of c.args.scratch.now c.args.k c.requires.0 c.args.d c.requires.1 ∙ h)) (c.in_err-a.ensures.result_value env E);
  literal_fits = tt;
})

pub returns : goal.returns
returns c = record {
  result_value = λ env E. negated_class env (pool_of (words c.args.scratch.now) c.args.k.concepts) c.args.v c.in_ok-a.a (concept_at (words c.args.scratch.now) c.args.d) (c.in_ok-a.ensures.result_value env E);
  literal_fits = (let h = c.in_ok-a.ensures.small_class in omega (arith, h));
}
