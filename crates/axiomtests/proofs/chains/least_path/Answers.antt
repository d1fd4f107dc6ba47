use Rattle.std.proofs.lemmas.Bool.{not-true, not-false}
use mathlib.Core.Path.{◌≡◌, sym, ap, ◌∙◌}
use mathlib.Core.Bool.{true, false, not}
use mathlib.Core.List.{List, ◌∷◌}
use Prim.Native.Nat.{ℕ, suc, ◌<◌}
use native.Mathlib.Omega.{arith}
use Rattle.words.specs.Words.{words}
use Rattle.ir.specs.Roles.{role_of}
use Rattle.ir.specs.declared.role.Role.{Role}
use Rattle.rules.specs.Semantics.{Interpretation}
use Rattle.states.specs.Conditions.{rises, least_of, place, chain_at}
use Rattle.states.specs.HoldsLaws.{onward}
use Rattle.states.specs.ChainLaws.{walk as walk_of}
use Rattle.axiomtests.specs.Breaking.{Aside}
use Rattle.axiomtests.specs.Chains.{parts_of, Chained, AllLeft, ChainIn}
use Rattle.axiomtests.proofs.AsideLaws.{aside_refl, aside_trans}
use Rattle.axiomtests.proofs.PathLaws.{chained_kept, chain_kept, parts_kept, length_parts, walk_start, path_here, path_nowhere, onward_is, tried_next}
use Rattle.axiomtests.proofs.chains.least_path.Goals as goal

pub loop-x-init : goal.loop-x-init
loop-x-init c = (aside_refl _, λ I C y h. absurd (omega arith))

pub fill_left-requires : goal.fill_left-requires
fill_left-requires c =
    let X = c.loop-x in
    let a = c.args.c in
    let u = words c.args.scratch.now in
    let C : ChainIn X.scratch c.args.c.size a = chain_kept c.args.scratch.now X.scratch c.args.c.size a X.invariant.0 X.auto.scratch c.requires in
    (C, c.loop-x-test.true)

pub get_set-left-requires : goal.get_set-left-requires
get_set-left-requires c =
    let X = c.loop-x in
    let a = c.args.c in
    let u = words c.args.scratch.now in
    let C : ChainIn X.scratch c.args.c.size a = chain_kept c.args.scratch.now X.scratch c.args.c.size a X.invariant.0 X.auto.scratch c.requires in
    omega (arith, c.requires.short, C.space, c.fill_left.auto.scratch)

pub has-requires : goal.has-requires
has-requires c =
    omega (arith, c.loop-x-test.true, c.requires.few)

pub walk-requires : goal.walk-requires
walk-requires c =
    let X = c.loop-x in
    let a = c.args.c in
    let u = words c.args.scratch.now in
    let v = words c.fill_left.new.scratch in
    let still : Aside u v = aside_trans u (words X.scratch) v X.invariant.0 c.fill_left.ensures.aside in
    let chained : (I : Interpretation) → Chained I u c.args.c.size a → Chained I v c.args.c.size a = λ I K. chained_kept u v a still c.requires.among I c.args.c.size K in
    let left : (I : Interpretation) → Chained I u c.args.c.size a → AllLeft I v a X.x = λ I K. c.fill_left.ensures.all_left I (chained_kept u (words X.scratch) a X.invariant.0 c.requires.among I c.args.c.size K) in
    let told : (I : Interpretation) → Chained I u c.args.c.size a → c.has.result ≡ not (onward I (role_of a.sup) X.x (parts_of u a) X.x) =
    λ I K. onward_is u v c.args.c.size a X.x still c.requires.among c.loop-x-test.true c.has.result (λ n g l e. c.has.ensures.by_index n g l (c.get_set-left.ensures ∙ e)) I (chained I K) (left I K) in
    let P = c.requires in
    walk_start c.args.scratch.now _ c.args.c.size a X.x P still (c.fill_left.auto.scratch ∙ X.auto.scratch) (left P.meant P.chained) c.loop-x-test.true (not-true _ (sym (told P.meant P.chained) ∙ c.if-has.true))

pub returns-then-has : goal.returns-then-has
returns-then-has c =
    let X = c.loop-x in
    let a = c.args.c in
    let u = words c.args.scratch.now in
    let v = words c.fill_left.new.scratch in
    let still : Aside u v = aside_trans u (words X.scratch) v X.invariant.0 c.fill_left.ensures.aside in
    let chained : (I : Interpretation) → Chained I u c.args.c.size a → Chained I v c.args.c.size a = λ I K. chained_kept u v a still c.requires.among I c.args.c.size K in
    let left : (I : Interpretation) → Chained I u c.args.c.size a → AllLeft I v a X.x = λ I K. c.fill_left.ensures.all_left I (chained_kept u (words X.scratch) a X.invariant.0 c.requires.among I c.args.c.size K) in
    let told : (I : Interpretation) → Chained I u c.args.c.size a → c.has.result ≡ not (onward I (role_of a.sup) X.x (parts_of u a) X.x) =
    λ I K. onward_is u v c.args.c.size a X.x still c.requires.among c.loop-x-test.true c.has.result (λ n g l e. c.has.ensures.by_index n g l (c.get_set-left.ensures ∙ e)) I (chained I K) (left I K) in
    let sup = role_of a.sup in
    let parts = parts_of u a in record {
      aside = aside_trans u v _ still c.walk.ensures.aside;
      result_after = λ I C.
          let l : X.x < I.size = omega (arith, c.loop-x-test.true, C.sized) in
          path_here I sup parts X.x _ l (λ y k. X.invariant.1 I C y k) (not-true _ (sym (told I C) ∙ c.if-has.true))
          (c.walk.ensures.parts_after I (chained I C) (left I C) ∙ ap (λ (p : List Role). X.x ∷ walk_of I sup X.x p X.x) (parts_kept u v a still c.requires.among))
          ∙ ap (λ (k : ℕ). least_of (rises 0 I.size) (suc k) (λ l. chain_at I sup (place l 0) parts l)) (length_parts u a);
    }

pub loop-x-preserved : goal.loop-x-preserved
loop-x-preserved c =
    let X = c.loop-x in
    let a = c.args.c in
    let u = words c.args.scratch.now in
    let v = words c.fill_left.new.scratch in
    let still : Aside u v = aside_trans u (words X.scratch) v X.invariant.0 c.fill_left.ensures.aside in
    let chained : (I : Interpretation) → Chained I u c.args.c.size a → Chained I v c.args.c.size a = λ I K. chained_kept u v a still c.requires.among I c.args.c.size K in
    let left : (I : Interpretation) → Chained I u c.args.c.size a → AllLeft I v a X.x = λ I K. c.fill_left.ensures.all_left I (chained_kept u (words X.scratch) a X.invariant.0 c.requires.among I c.args.c.size K) in
    let told : (I : Interpretation) → Chained I u c.args.c.size a → c.has.result ≡ not (onward I (role_of a.sup) X.x (parts_of u a) X.x) =
    λ I K. onward_is u v c.args.c.size a X.x still c.requires.among c.loop-x-test.true c.has.result (λ n g l e. c.has.ensures.by_index n g l (c.get_set-left.ensures ∙ e)) I (chained I K) (left I K) in (
      still,
      tried_next u v c.args.c.size a X.x still c.requires.among c.loop-x-test.true X.invariant.1 (λ I C. not-false _ (sym (told I C) ∙ c.if-has.false)),
    )

pub returns : goal.returns
returns c =
    let X = c.loop-x in
    let u = words c.args.scratch.now in
    let sup = role_of c.args.c.sup in
    let parts = parts_of u c.args.c in record {
      aside = X.invariant.0;
      result_after = λ I C. path_nowhere I sup parts (λ y l. X.invariant.1 I C y (omega (arith, C.sized, c.loop-x-test.false))) ∙ ap (λ (k : ℕ). least_of (rises 0 I.size) (suc k) (λ l. chain_at I sup (place l 0) parts l)) (length_parts u c.args.c);
    }
