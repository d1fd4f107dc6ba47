use mathlib.Core.Path.{refl, ◌∙◌}
use mathlib.Core.List.{[]}
use native.Mathlib.Omega.{arith}
use Rattle.std.proofs.lemmas.Result.{err_from_is_err_and}
use Rattle.words.specs.Laws.{words_long}
use Rattle.axioms.specs.BodyLaws.{write_ready, hand_fits, bodies_start, short_body, bodies_next, bodies_stop, bodies_end}
use Rattle.axioms.proofs.bodies.push_bodies.Goals as goal

pub loop-i-init : goal.loop-i-init
loop-i-init c = (λ d. bodies_start _ _ _ _ _ _ c.requires.4, refl, refl, refl)

pub write_alternative-end-requires : goal.write_alternative-end-requires
write_alternative-end-requires c = let L = c.loop-i in
    write_ready c.args.scratch.now L.scratch c.args.k.now L.k 13500 c.args.sub c.requires.0 c.requires.1 (omega arith) (omega (arith, c.requires.2)) L.invariant.1 (L.invariant.0 []).frame (L.invariant.0 []).alike

pub overflow_sub-n : goal.overflow_sub-n
overflow_sub-n c = let L = c.loop-i in
    let sh = short_body _ _ _ _ _ _ _ _ _ (L.invariant.0 []) c.loop-i-test.true c.requires.0.reading.ready.held _ _ c.write_alternative-end.ensures c.requires.5 in
    omega (arith, sh.0)

pub overflow_cast-n : goal.overflow_cast-n
overflow_cast-n c = let L = c.loop-i in
    let sh = short_body _ _ _ _ _ _ _ _ _ (L.invariant.0 []) c.loop-i-test.true c.requires.0.reading.ready.held _ _ c.write_alternative-end.ensures c.requires.5 in
    omega (arith, sh.0, sh.1)

pub push_one-requires : goal.push_one-requires
push_one-requires c = let L = c.loop-i in
    let sh = short_body _ _ _ _ _ _ _ _ _ (L.invariant.0 []) c.loop-i-test.true c.requires.0.reading.ready.held _ _ c.write_alternative-end.ensures c.requires.5 in
    let l1 = c.write_alternative-end.auto.scratch in
    (omega (arith, sh.1), omega (arith, sh.0, sh.1, l1, c.requires.2, L.invariant.1), (L.invariant.0 []).good, c.requires.3, rw (L.invariant.2, L.invariant.3) c.requires.6)

pub returns-in_err-push_one : goal.returns-in_err-push_one
returns-in_err-push_one c = let p = err_from_is_err_and c.from_residual.result c.from_residual.ensures.1 in let L = c.loop-i in let W = c.write_alternative-end in
    rw (p.1, p.2) (λ d. bodies_stop _ _ _ _ _ _ _ _ _ (L.invariant.0 d) c.loop-i-test.true c.requires.0.reading.ready.held _ _ W.ensures (hand_fits c.args.scratch.now L.scratch (omega (arith, c.requires.2)) L.invariant.1)
    (record { clauses = words_long c.args.clauses.now L.clauses L.invariant.2; atoms = words_long c.args.atoms.now L.atoms L.invariant.3; deferrals = refl }) _ refl _ _ (c.in_err-push_one.ensures d) _ refl)

pub loop-i-preserved : goal.loop-i-preserved
loop-i-preserved c = let L = c.loop-i in let W = c.write_alternative-end in let P = c.push_one in (
  λ d. bodies_next _ _ _ _ _ _ _ _ _ (L.invariant.0 d) c.loop-i-test.true c.requires.0.reading.ready.held _ _ W.ensures (hand_fits c.args.scratch.now L.scratch (omega (arith, c.requires.2)) L.invariant.1)
      (record { clauses = words_long c.args.clauses.now L.clauses L.invariant.2; atoms = words_long c.args.atoms.now L.atoms L.invariant.3; deferrals = refl }) _ refl _ _ (c.in_ok-push_one.ensures d) _ 0 refl,
  W.auto.scratch ∙ L.invariant.1,
  P.auto.clauses ∙ L.invariant.2,
  P.auto.atoms ∙ L.invariant.3,
)

pub returns : goal.returns
returns c = λ d. bodies_end _ _ _ _ _ _ _ _ _ (c.loop-i.invariant.0 d) c.loop-i-test.false
