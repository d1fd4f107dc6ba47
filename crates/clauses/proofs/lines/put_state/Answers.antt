use mathlib.Core.List.{[], ◌∷◌}
use native.Mathlib.Omega.{arith}
use Rattle.words.specs.Words.{words}
use Rattle.words.specs.Laws.{length_words}
use Rattle.rows.specs.RowLaws.{length_line}
use Rattle.clauses.proofs.LineLaws.{state_listable, state_clauses, state_deferrals, clauses_end, deferrals_end, state_put}
use Rattle.clauses.proofs.lines.put_state.Goals as goal

pub put_clauses-p-requires : goal.put_clauses-p-requires
put_clauses-p-requires c =
    let a = c.args in
    let k = a.k in
    let c₁ = words a.clauses.now in
    let a₁ = words a.atoms.now in
    let d₁ = words a.deferrals.now in
    let S = c.requires.0 in
    state_listable k c₁ a₁ d₁ S.state S.shows _ c.requires.1

pub put_deferrals-q-requires : goal.put_deferrals-q-requires
put_deferrals-q-requires c =
    let a = c.args in
    let k = a.k in
    let c₁ = words a.clauses.now in
    let a₁ = words a.atoms.now in
    let d₁ = words a.deferrals.now in
    let S = c.requires.0 in
    let p = c.put_clauses-p in
    let x = state_clauses k c₁ a₁ d₁ S.state S.shows p.ensures in
    let few = state_deferrals k c₁ a₁ d₁ S.state S.shows in
    (omega (arith, few.1, length_words a.deferrals.now), omega (arith, few.0, clauses_end k c₁ a₁ d₁ S.state S.shows x, c.requires.1, p.auto.out))

pub put_sums-requires : goal.put_sums-requires
put_sums-requires c =
    let a = c.args in
    let k = a.k in
    let c₁ = words a.clauses.now in
    let a₁ = words a.atoms.now in
    let d₁ = words a.deferrals.now in
    let S = c.requires.0 in
    let p = c.put_clauses-p in
    let q = c.put_deferrals-q in
    let x = state_clauses k c₁ a₁ d₁ S.state S.shows p.ensures in
    omega (arith, deferrals_end k c₁ a₁ d₁ S.state S.shows x q.ensures, c.requires.1, p.auto.out, q.auto.out)

pub returns : goal.returns
returns c =
    let a = c.args in
    let k = a.k in
    let c₁ = words a.clauses.now in
    let a₁ = words a.atoms.now in
    let d₁ = words a.deferrals.now in
    let S = c.requires.0 in
    let p = c.put_clauses-p in
    let q = c.put_deferrals-q in
    let r = c.put_sums in
    let x = state_clauses k c₁ a₁ d₁ S.state S.shows p.ensures in record {
      put = (λ z T. state_put k c₁ a₁ d₁ z T (state_clauses k c₁ a₁ d₁ z T p.ensures) q.ensures r.ensures);
      upper_bound = omega (arith, deferrals_end k c₁ a₁ d₁ S.state S.shows x q.ensures, r.ensures.end, length_line (44 ∷ k.clauses ∷ k.atoms ∷ k.deferrals ∷ k.next_class ∷ k.visits ∷ k.concepts ∷ k.members ∷ []));
    }
