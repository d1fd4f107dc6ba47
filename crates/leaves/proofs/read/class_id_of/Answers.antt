use mathlib.Core.Path.{◌∙◌, sym, refl}
use Prim.{tt}
use native.Mathlib.Omega.{arith}
use Rattle.words.specs.Words.{words}
use Rattle.pool.specs.Layout.{concept_at}
use Rattle.leaves.specs.ReadLaws.{kind_of, concept_3, concept_4, class_small, nominal_small, class_none}
use Rattle.leaves.proofs.read.class_id_of.Goals as goal

pub overflow_add-result : goal.overflow_add-result
overflow_add-result c = let e = sym c.kind.ensures ∙ c.in-4.is in
    omega (arith, nominal_small c.args.scratch.now c.args.k c.requires.0 c.args.c c.requires.1 e, c.number-in-4.ensures, c.requires.0.nominals)

pub returns-in-3 : goal.returns-in-3
returns-in-3 c = let e = sym c.kind.ensures ∙ c.in-3.is in
    record {
      result_value = λ env E. rw (concept_3 (words c.args.scratch.now) c.args.c e, c.number.ensures) refl;
      small_class = omega (arith, class_small c.args.scratch.now c.args.k c.requires.0 c.args.c c.requires.1 e, c.number.ensures);
    }

pub returns-in-4 : goal.returns-in-4
returns-in-4 c = let e = sym c.kind.ensures ∙ c.in-4.is in
    record {
      result_value = λ env E. rw (concept_4 (words c.args.scratch.now) c.args.c e, c.number-in-4.ensures, ← E.nominals) refl;
      small_class = omega (arith, nominal_small c.args.scratch.now c.args.k c.requires.0 c.args.c c.requires.1 e, c.number-in-4.ensures, c.requires.0.nominals);
    }

pub returns-in_default : goal.returns-in_default
returns-in_default c = let x = c.in_default.in_default-own.rest in let f = c.kind.ensures ∙ kind_of c.args.scratch.now c.args.k c.requires.0 c.args.c c.requires.1 in
    record {
      result_value = λ env E. class_none env (concept_at (words c.args.scratch.now) c.args.c) (λ z. x.0.1 (f ∙ z)) (λ z. x.1 (f ∙ z));
      small_class = tt;
    }
