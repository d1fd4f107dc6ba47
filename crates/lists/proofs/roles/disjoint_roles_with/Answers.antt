use mathlib.Core.Path.{refl, sym, ap, ◌∙◌}
use mathlib.Core.List.{List, [], map}
use Prim.Native.Nat.{ℕ, ◌+◌}
use native.Mathlib.Omega.{arith}
use lib.ListN.{get_or}
use Rattle.std.proofs.lemmas.Result.{err_from_is_err_and}
use Rattle.words.specs.Words.{words}
use Rattle.ir.specs.Roles.{role_of}
use Rattle.rules.specs.Axioms.{paired}
use Rattle.lists.specs.Listed.{pair_disjoint}
use Rattle.lists.specs.TurnLaws.{long_words_3}
use Rattle.lists.specs.ListTurns.{list_start, list_end, list_pass, list_next, list_stop}
use Rattle.lists.specs.PairLaws.{paired_end}
use Rattle.lists.specs.WordLaws.{left, left_after, left_end, roles_kept, word_read, pair_roles}
use Rattle.lists.specs.CallLaws.{roles_turn, roles_nothing}
use Rattle.lists.proofs.roles.disjoint_roles_with.Goals as goal
use Rattle.lists.proofs.roles.disjoint_roles_with.Goals.{then-r-s+in_ok-not_both, else-r-s}

pub loop-j-init : goal.loop-j-init
loop-j-init c =
    let w₀ = words c.args.scratch.now in (
      λ d. list_start pair_disjoint c.args.k.now c.args.scratch.now (words c.args.clauses.now) (words c.args.atoms.now) d _ _ c.requires.0
          (ap (λ (l : List ℕ). paired (role_of (get_or w₀ (c.args.at + c.args.i) 0)) (map role_of l) []) (sym (left_after w₀ c.args.at c.args.count c.args.i))),
      refl,
      refl,
      refl,
    )

pub not_both-requires : goal.not_both-requires
not_both-requires c =
    let L = c.loop-j in
    let T = L.invariant.0 [] in
    let M = roles_kept (words c.args.scratch.now) (words L.scratch) T.passed.untouched c.args.at c.args.count c.requires.1 in
    let a = c.get_word-r.ensures in
    let b = c.get_word-s.ensures in
    let h = c.loop-j-test.true in
    (omega (arith, a, c.requires.1.codes c.args.i c.requires.2), omega (arith, b, M.codes L.j h), omega (arith, T.clausifying.space), T.clausifying.good, rw (L.invariant.2, L.invariant.3) c.requires.3)

pub returns-in_err-not_both-clause-fact : goal.returns-in_err-not_both-clause-fact
returns-in_err-not_both-clause-fact c =
    let p = err_from_is_err_and c.from_residual.result c.from_residual.ensures.1 in
    let L = c.loop-j in
    let T = L.invariant.0 in
    let h = c.loop-j-test.true in
    let w₀ = words c.args.scratch.now in
    let N = c.requires.1 in
    let U = (T []).passed.untouched in
    let m = c.get_word-r.result in
    let n = c.get_word-s.result in
    let a = c.get_word-r.ensures in
    let b = word_read w₀ (words L.scratch) U c.args.at c.args.count N.above N.below L.j n h c.get_word-s.ensures in
    let q = pair_roles w₀ c.args.at c.args.count L.j m (get_or w₀ (c.args.at + c.args.i) 0) n h a b in
    let r = c.not_both in rw (p.1, p.2) ((λ d. list_stop pair_disjoint _ c.args.k.now L.k _ L.scratch (words L.clauses) (words L.atoms) d _ (T d) _ _ _ _ _ (role_of m, role_of n) _ q
    (roles_turn L.k L.scratch (words L.clauses) (words L.atoms) d _ _ _ _ _ (T d).clausifying r.auto.scratch m n c.if-r-s.true (c.in_err-not_both.ensures d)) _ refl))

pub loop-j-preserved : goal.loop-j-preserved
loop-j-preserved c =
    let L = c.loop-j in
    let T = L.invariant.0 in
    let h = c.loop-j-test.true in
    let w₀ = words c.args.scratch.now in
    let N = c.requires.1 in
    let U = (T []).passed.untouched in
    let m = c.get_word-r.result in
    let n = c.get_word-s.result in
    let a = c.get_word-r.ensures in
    let b = word_read w₀ (words L.scratch) U c.args.at c.args.count N.above N.below L.j n h c.get_word-s.ensures in
    let q = pair_roles w₀ c.args.at c.args.count L.j m (get_or w₀ (c.args.at + c.args.i) 0) n h a b in
    elim c.if-r-s.branch [
      | then-r-s+in_ok-not_both w ↦ rw (w.scratch-is, w.clauses-is, w.atoms-is, w.k-is) (
          let r = w.not_both in (
            (λ d. list_next pair_disjoint _ c.args.k.now L.k _ L.scratch (words L.clauses) (words L.atoms) d _ (T d) _ _ _ _ _ (role_of m, role_of n) _ q
                (roles_turn L.k L.scratch (words L.clauses) (words L.atoms) d _ _ _ _ _ (T d).clausifying r.auto.scratch m n w.if-r-s.true (w.in_ok-not_both.ensures d)) (long_words_3 _ _ L.clauses L.atoms d _ _ r.auto.clauses r.auto.atoms) _ 0 refl),
            r.auto.scratch ∙ L.invariant.1,
            r.auto.clauses ∙ L.invariant.2,
            r.auto.atoms ∙ L.invariant.3,
          ))
      | else-r-s w ↦ rw (w.scratch-is, w.clauses-is, w.atoms-is, w.k-is) (
        (λ d. list_pass pair_disjoint _ c.args.k.now L.k _ L.scratch (words L.clauses) (words L.atoms) d _ (T d) (role_of m, role_of n) _ q (roles_nothing m n w.if-r-s.false)),
        L.invariant.1,
        L.invariant.2,
        L.invariant.3,
      )
    ]

pub returns : goal.returns
returns c =
    let L = c.loop-j in
    let w₀ = words c.args.scratch.now in
    let z = ap (map role_of) (left_end w₀ c.args.at c.args.count L.j c.loop-j-test.false) in
    record {
      fact = (λ d. (list_end pair_disjoint _ c.args.k.now L.k _ L.scratch (words L.clauses) (words L.atoms) d _ (L.invariant.0 d) (paired_end (role_of (get_or w₀ (c.args.at + c.args.i) 0)) (map role_of (left w₀ c.args.at c.args.count L.j)) z)).0);
      clausifying_after = (L.invariant.0 []).clausifying;
    }
