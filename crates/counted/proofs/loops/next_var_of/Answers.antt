use Rattle.std.specs.Prelude.{◌≡◌, refl, ◌+◌, ◌/◌, length}
use Rattle.std.proofs.Common.{sym, ap, subst, rules, arith}
use Rattle.std.specs.List.{fold, range_with_len}
use Rattle.std.proofs.lemmas.Iterator.{YieldsList-from_range}
use Rattle.std.proofs.lemmas.Iterator.Consumers.{fold_from_yields_List}
use Rattle.words.specs.Words.{words}
use Rattle.counted.specs.VarLaws.{VarsAt, greater, vars_start, vars_fold, vars_end, vars_small}
use Rattle.counted.proofs.loops.next_var_of.Goals as goal

folded : (c : goal.After-fold-greatest) → VarsAt c.args.run.now (length c.args.run.now / 24) c.fold-greatest.result
folded c =
    let s = c.args.run.now in
    let n = length s / 24 in
    let h = greater (words s) in
    let e : c.fold-greatest.result ≡ fold h 0 (range_with_len 0 n) =
    fold_from_yields_List _ h 0 _ c.fold-greatest.ensures.ran (YieldsList-from_range 0 n n refl (omega arith)) (λ a x b q k. (search rules, search rules)) in
    let z : 0 + n ≡ n = omega arith in
    rw e (subst (λ i. VarsAt s i (fold h 0 (range_with_len 0 n))) z (vars_fold s n 0 0 (vars_start s) (omega arith)))

pub overflow_add-result : goal.overflow_add-result
overflow_add-result c = omega (arith, vars_small c.args.run.now _ _ (folded c) (omega arith) c.requires)

pub returns : goal.returns
returns c = λ l R. sym (ap (λ x. x + 1) (vars_end c.args.run.now _ _ (folded c) (omega arith) l R))
