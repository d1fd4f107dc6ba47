use mathlib.Core.Path.{refl, sym, ◌∙◌}
use native.Mathlib.Omega.{arith}
use Rattle.std.proofs.lemmas.Result.{err_from_is_err_and}
use Rattle.words.specs.Words.{words}
use Rattle.lists.specs.TurnLaws.{long_words}
use Rattle.lists.specs.ListTurns.{list_start, list_end, list_next, list_stop}
use Rattle.lists.specs.WordLaws.{left_all, left_end, listed_kept, word_read, word_turn}
use Rattle.lists.specs.CallLaws.{member_of, member_turn}
use Rattle.lists.proofs.unions.union_members.Goals as goal

pub loop-i-init : goal.loop-i-init
loop-i-init c =
    let w = words c.args.scratch.now in (
      list_start (member_of c.args.class) c.args.lent.now.counters c.args.scratch.now (words c.args.lent.now.clauses.now) (words c.args.lent.now.atoms.now) (words c.args.lent.now.deferrals.now) _ _ c.requires.0
          (sym (left_all w c.args.at c.args.count)),
      refl,
      (refl, refl, refl, refl, refl, refl),
    )

pub union_member-requires : goal.union_member-requires
union_member-requires c =
    let L = c.loop-i in
    let T = L.invariant.0 in
    let M = listed_kept (words c.args.scratch.now) (words L.scratch) T.passed.untouched c.args.lent.now.counters L.lent.counters c.args.at c.args.count T.passed.onward c.requires.1 in
    let b = c.get_word-m.ensures in
    let h = c.loop-i-test.true in
    (T.clausifying.encoding, omega (arith, b, M.ids L.i h), omega (arith, T.clausifying.space), c.requires.2, T.clausifying.good)

pub returns-in_err-union_member-clause-fact : goal.returns-in_err-union_member-clause-fact
returns-in_err-union_member-clause-fact c =
    let p = err_from_is_err_and c.from_residual.result c.from_residual.ensures.1 in
    let L = c.loop-i in
    let T = L.invariant.0 in
    let r = c.union_member in
    let h = c.loop-i-test.true in
    let w = words c.args.scratch.now in
    let N = c.requires.1 in
    let b = word_read w (words L.scratch) T.passed.untouched c.args.at c.args.count N.above N.below L.i c.get_word-m.result h c.get_word-m.ensures in
    let q = word_turn w c.args.at c.args.count L.i c.get_word-m.result h b in
    let D = member_turn L.lent.counters L.scratch (words L.lent.clauses.now) (words L.lent.atoms.now) (words L.lent.deferrals.now) _ _ _ _ _ T.clausifying r.auto.scratch c.args.class c.get_word-m.result c.in_err-union_member.ensures.did in
    rw (p.1, p.2) (list_stop (member_of c.args.class) _ c.args.lent.now.counters L.lent.counters _ L.scratch (words L.lent.clauses.now) (words L.lent.atoms.now) (words L.lent.deferrals.now) _ T _ _ _ _ _ c.get_word-m.result _ q D _ refl)

pub loop-i-preserved : goal.loop-i-preserved
loop-i-preserved c =
    let L = c.loop-i in
    let S = L.invariant.2 in
    let T = L.invariant.0 in
    let r = c.union_member in let R = r.ensures.references in
    let h = c.loop-i-test.true in
    let w = words c.args.scratch.now in
    let N = c.requires.1 in
    let b = word_read w (words L.scratch) T.passed.untouched c.args.at c.args.count N.above N.below L.i c.get_word-m.result h c.get_word-m.ensures in
    let q = word_turn w c.args.at c.args.count L.i c.get_word-m.result h b in
    let D = member_turn L.lent.counters L.scratch (words L.lent.clauses.now) (words L.lent.atoms.now) (words L.lent.deferrals.now) _ _ _ _ _ T.clausifying r.auto.scratch c.args.class c.get_word-m.result c.in_ok-union_member.ensures.did in (
      list_next (member_of c.args.class) _ c.args.lent.now.counters L.lent.counters _ L.scratch (words L.lent.clauses.now) (words L.lent.atoms.now) (words L.lent.deferrals.now) _ T _ _ _ _ _ c.get_word-m.result _ q D (long_words _ _ L.lent.clauses.now L.lent.atoms.now L.lent.deferrals.now _ _ _ R.3 R.4 R.5) _ 0 refl,
      r.auto.scratch ∙ L.invariant.1,
      (R.0 ∙ S.0, R.1 ∙ S.1, R.2 ∙ S.2, R.3 ∙ S.3, R.4 ∙ S.4, R.5 ∙ S.5),
    )

pub returns : goal.returns
returns c =
    let L = c.loop-i in let both = list_end (member_of c.args.class) _ c.args.lent.now.counters L.lent.counters _ L.scratch (words L.lent.clauses.now) (words L.lent.atoms.now) (words L.lent.deferrals.now) _ L.invariant.0
    (left_end (words c.args.scratch.now) c.args.at c.args.count L.i c.loop-i-test.false) in record { references = L.invariant.2; fact = both.0; clausifying_after = both.1 }
