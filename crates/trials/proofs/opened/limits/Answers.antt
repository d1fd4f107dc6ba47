use mathlib.Core.Path.{refl}
use native.Mathlib.Omega.{arith}
use Rattle.trials.specs.JudgingLaws.{opened}
use Rattle.trials.proofs.opened.limits.Goals as goal

pub overflow_cast-result : goal.overflow_cast-result
overflow_cast-result c =
    let q = c.read in
    let O = opened c.args.deck.now q.new.t q.result c.unwrap-st.result c.requires.2.0 q.ensures.result_after c.unwrap-st.ensures c.requires.2.1 in
    record { fits = omega (arith, O.classes, O.inside.classes) }

pub overflow_cast-result-2 : goal.overflow_cast-result-2
overflow_cast-result-2 c =
    let q = c.read in
    let O = opened c.args.deck.now q.new.t q.result c.unwrap-st.result c.requires.2.0 q.ensures.result_after c.unwrap-st.ensures c.requires.2.1 in
    record { fits = omega (arith, O.individuals, O.inside.individuals) }

pub overflow_cast-result-3 : goal.overflow_cast-result-3
overflow_cast-result-3 c =
    let q = c.read in
    let O = opened c.args.deck.now q.new.t q.result c.unwrap-st.result c.requires.2.0 q.ensures.result_after c.unwrap-st.ensures c.requires.2.1 in
    record { fits = omega (arith, O.roles, O.inside.roles) }

pub invariant_of-result : goal.invariant_of-result
invariant_of-result c =
    let q = c.read in
    let O = opened c.args.deck.now q.new.t q.result c.unwrap-st.result c.requires.2.0 q.ensures.result_after c.unwrap-st.ensures c.requires.2.1 in
    record {
      few_classes = omega (arith, O.classes, O.inside.classes);
      few_individuals = omega (arith, O.individuals, O.inside.individuals);
      few_roles = omega (arith, O.roles, O.inside.roles);
      few_fresh = c.requires.1;
    }

pub returns : goal.returns
returns c =
    let q = c.read in (
      refl,
      λ d f. let N = opened c.args.deck.now q.new.t q.result c.unwrap-st.result d q.ensures.result_after c.unwrap-st.ensures f in record { classes = N.classes; individuals = N.individuals; roles = N.roles },
    )
