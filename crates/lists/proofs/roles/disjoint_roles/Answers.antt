use mathlib.Core.Path.{refl, sym, ap, ◌∙◌}
use mathlib.Core.List.{List, [], map}
use Prim.Native.Nat.{ℕ}
use Rattle.std.proofs.lemmas.Result.{err_from_is_err_and}
use Rattle.words.specs.Words.{words}
use Rattle.ir.specs.Roles.{role_of}
use Rattle.rules.specs.Axioms.{later_pairs}
use Rattle.lists.specs.Listed.{pair_disjoint}
use Rattle.lists.specs.TurnLaws.{long_words_3}
use Rattle.lists.specs.ListTurns.{list_start, list_end, part_next, part_stop}
use Rattle.lists.specs.PairLaws.{later_end}
use Rattle.lists.specs.WordLaws.{left, left_all, left_end, roles_kept, later_roles}
use Rattle.lists.proofs.roles.disjoint_roles.Goals as goal

pub loop-i-init : goal.loop-i-init
loop-i-init c = (
  λ d. list_start pair_disjoint c.args.k.now c.args.scratch.now (words c.args.clauses.now) (words c.args.atoms.now) d _ _ c.requires.0
      (ap (λ (l : List ℕ). later_pairs (map role_of l)) (sym (left_all (words c.args.scratch.now) c.args.at c.args.count))),
  refl,
  refl,
  refl,
)

pub disjoint_roles_with-requires : goal.disjoint_roles_with-requires
disjoint_roles_with-requires c =
    let L = c.loop-i in
    let T = L.invariant.0 [] in
    let M = roles_kept (words c.args.scratch.now) (words L.scratch) T.passed.untouched c.args.at c.args.count c.requires.1 in
    (T.clausifying, M, c.loop-i-test.true, rw (L.invariant.2, L.invariant.3) c.requires.2)

pub returns-in_err-disjoint_roles_with-clause-fact : goal.returns-in_err-disjoint_roles_with-clause-fact
returns-in_err-disjoint_roles_with-clause-fact c =
    let p = err_from_is_err_and c.from_residual.result c.from_residual.ensures.1 in
    let L = c.loop-i in
    let T = L.invariant.0 in
    let r = c.disjoint_roles_with in
    let h = c.loop-i-test.true in
    let N = c.requires.1 in
    let q = later_roles (words c.args.scratch.now) (words L.scratch) (T []).passed.untouched c.args.at c.args.count N.above N.below L.i h in
    rw (p.1, p.2) ((λ d. part_stop pair_disjoint _ c.args.k.now L.k _ L.scratch (words L.clauses) (words L.atoms) d _ (T d) _ _ _ _ _ _ _ q (c.in_err-disjoint_roles_with.ensures.fact d, c.in_err-disjoint_roles_with.ensures.clausifying_after) _ refl))

pub loop-i-preserved : goal.loop-i-preserved
loop-i-preserved c =
    let L = c.loop-i in
    let T = L.invariant.0 in
    let r = c.disjoint_roles_with in
    let h = c.loop-i-test.true in
    let N = c.requires.1 in
    let q = later_roles (words c.args.scratch.now) (words L.scratch) (T []).passed.untouched c.args.at c.args.count N.above N.below L.i h in (
      (λ d. part_next pair_disjoint _ c.args.k.now L.k _ L.scratch (words L.clauses) (words L.atoms) d _ (T d) _ _ _ _ _ _ _ q (c.in_ok-disjoint_roles_with.ensures.fact d, c.in_ok-disjoint_roles_with.ensures.clausifying_after) (long_words_3 _ _ L.clauses L.atoms d _ _ r.auto.clauses r.auto.atoms) _ 0 refl),
      r.auto.scratch ∙ L.invariant.1,
      r.auto.clauses ∙ L.invariant.2,
      r.auto.atoms ∙ L.invariant.3,
    )

pub returns : goal.returns
returns c =
    let L = c.loop-i in
    let w = words c.args.scratch.now in
    let z = ap (map role_of) (left_end w c.args.at c.args.count L.i c.loop-i-test.false) in
    record {
      fact = (λ d. (list_end pair_disjoint _ c.args.k.now L.k _ L.scratch (words L.clauses) (words L.atoms) d _ (L.invariant.0 d) (later_end (map role_of (left w c.args.at c.args.count L.i)) z)).0);
      clausifying_after = (L.invariant.0 []).clausifying;
    }
