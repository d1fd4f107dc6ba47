use mathlib.Core.Path.{◌∙◌, refl, sym, ap}
use Prim.{tt}
use Prim.Native.Nat.{ℕ}
use native.Mathlib.Omega.{arith}
use Rattle.words.specs.Words.{words}
use Rattle.pool.specs.Layout.{field, concept_at, pool_of}
use Rattle.pool.specs.HeldLaws.{pool_at}
use Rattle.leaves.specs.Leaves.{negated_or, negated_atom}
use Rattle.leaves.specs.ReadLaws.{kind_of, concept_3, concept_4, concept_6, concept_9, class_small, nominal_small, child_6, disjunct_rest}
use Rattle.leaves.proofs.disjunct.disjunct_of.Goals as goal

pub overflow_add-result : goal.overflow_add-result
overflow_add-result c = let e = sym c.kind.ensures ∙ c.in-4.is in omega (arith, nominal_small c.args.scratch.now c.args.k c.requires.0 c.args.c c.requires.1 e, c.number-in-4.ensures, c.requires.0.nominals)

pub negated-requires : goal.negated-requires
negated-requires c = let e = sym c.kind.ensures ∙ c.in-6.is in (c.requires.0, omega (arith, child_6 c.args.scratch.now c.args.k c.requires.0 c.args.c c.requires.1 e, c.child.ensures, c.requires.1))

pub returns-in-3 : goal.returns-in-3
returns-in-3 c = let e = sym c.kind.ensures ∙ c.in-3.is in record {
  value = λ env E. rw (concept_3 (words c.args.scratch.now) c.args.c e, c.number.ensures) refl;
  disjunct_fits = omega (arith, class_small c.args.scratch.now c.args.k c.requires.0 c.args.c c.requires.1 e, c.number.ensures);
}

pub returns-in-4 : goal.returns-in-4
returns-in-4 c = let e = sym c.kind.ensures ∙ c.in-4.is in record {
  value = λ env E. rw (concept_4 (words c.args.scratch.now) c.args.c e, c.number-in-4.ensures, ← E.nominals) refl;
  disjunct_fits = omega (arith, nominal_small c.args.scratch.now c.args.k c.requires.0 c.args.c c.requires.1 e, c.number-in-4.ensures, c.requires.0.nominals);
}

pub returns-in-6 : goal.returns-in-6
returns-in-6 c = let e = sym c.kind.ensures ∙ c.in-6.is in let q = c.negated in let f = c.child.ensures in let b = child_6 c.args.scratch.now c.args.k c.requires.0 c.args.c c.requires.1 e in
    record {
      value = λ env E. c.excluded.ensures.value env (pool_of (words c.args.scratch.now) c.args.k.concepts) ∙ ap (negated_or env (pool_of (words c.args.scratch.now) c.args.k.concepts)) (q.ensures.result_value env E ∙ ap (λ (x : ℕ). negated_atom env (pool_of (words c.args.scratch.now) c.args.k.concepts) 0 (concept_at (words c.args.scratch.now) x)) f ∙ ap (negated_atom env (pool_of (words c.args.scratch.now) c.args.k.concepts) 0) (sym (pool_at (words c.args.scratch.now) c.args.k.concepts (field (words c.args.scratch.now) c.args.c 3) (omega (arith, b, c.requires.1))))) ∙ rw (concept_6 (words c.args.scratch.now) c.args.c e) refl;
      disjunct_fits = c.excluded.ensures.disjunct_fits (concept_at (words c.args.scratch.now) c.args.c);
    }

pub returns-in-9 : goal.returns-in-9
returns-in-9 c = let e = sym c.kind.ensures ∙ c.in-9.is in record {
  value = λ env E. rw (concept_9 (words c.args.scratch.now) c.args.c e) refl;
  disjunct_fits = rw (concept_9 (words c.args.scratch.now) c.args.c e) tt;
}

pub returns-in_default : goal.returns-in_default
returns-in_default c = let f = c.kind.ensures ∙ kind_of c.args.scratch.now c.args.k c.requires.0 c.args.c c.requires.1 in
    record {
      value = λ env E. disjunct_rest env (pool_of (words c.args.scratch.now) c.args.k.concepts) c.args.v (concept_at (words c.args.scratch.now) c.args.c) (λ z. let y = f ∙ z in omega arith) (λ z. let y = f ∙ z in omega arith) (λ z. let y = f ∙ z in omega arith) (λ z. let y = f ∙ z in omega arith) (λ z. let y = f ∙ z in omega arith) (λ z. let y = f ∙ z in omega arith);
      disjunct_fits = tt;
    }
