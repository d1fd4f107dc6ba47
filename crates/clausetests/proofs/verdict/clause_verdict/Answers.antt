use mathlib.Core.List.{◌++◌}
use lib.ListN.{take}
use Rattle.std.specs.Prelude as Code
use Prim.Native.Nat.{◌+◌, ◌*◌}
use native.Mathlib.Omega.{arith}
use Rattle.words.specs.Words.{words}
use Rattle.states.specs.Conditions.{clause_broken}
use Rattle.sets.specs.Places.{vars_at, shown_at}
use Rattle.clausetests.specs.Fitting.{clause_one, clause_two}
use Rattle.clausetests.proofs.FittingLaws.{changed_then, changed_wide}
use Rattle.clausetests.proofs.VerdictLaws.{clause_meant, found_broken, here_small, here_few, here_meant, verdict_none, verdict_some}
use Rattle.clausetests.proofs.verdict.clause_verdict.Goals as goal

pub clause_vars-v-requires : goal.clause_vars-v-requires
clause_vars-v-requires c =
    let H = c.requires in
    record { list = H.clause.body ++ H.clause.head; run = c.atoms_of.ensures H.clause H.is.at }

pub clause_tables-requires : goal.clause_tables-requires
clause_tables-requires c =
    let A = c.args in
    let H = c.requires in
    here_meant A.state.now.size A.i A.state.now.text.now A.clauses.now A.atoms.now A.state.now.store.now A.scratch.now H _ _ c.clause_vars-v.result (c.body_of-body.ensures H.clause H.is.at) (c.head_of-head.ensures H.clause H.is.at)
    (c.clause_vars-v.ensures (H.clause.body ++ H.clause.head) (c.atoms_of.ensures H.clause H.is.at))

pub search-requires : goal.search-requires
search-requires c =
    let A = c.args in
    let H = c.requires in (
      here_few A.state.now.size A.i A.state.now.text.now A.clauses.now A.atoms.now A.state.now.store.now A.scratch.now H c.clause_vars-v.result (c.clause_vars-v.ensures (H.clause.body ++ H.clause.head) (c.atoms_of.ensures H.clause H.is.at)),
      here_small A.state.now.size A.i A.state.now.text.now A.clauses.now A.atoms.now A.state.now.store.now A.scratch.now H,
      rw c.clause_tables.auto.scratch H.space,
    )

pub put_shown-requires : goal.put_shown-requires
put_shown-requires c =
    rw c.clause_tables.auto.scratch c.requires.space

pub returns-in-Some : goal.returns-in-Some
returns-in-Some c =
    let A = c.args in
    let H = c.requires in
    let v = c.clause_vars-v.result in
    let l = here_few A.state.now.size A.i A.state.now.text.now A.clauses.now A.atoms.now A.state.now.store.now A.scratch.now H v (c.clause_vars-v.ensures (H.clause.body ++ H.clause.head) (c.atoms_of.ensures H.clause H.is.at)) in record {
      result_after = (λ I roles x S.
          let R = c.clause_vars-v.ensures (x.body ++ x.head) (c.atoms_of.ensures x S.at) in
          let M = clause_meant I roles A.state.now.size x A.i A.state.now.text.now (words A.clauses.now) (words A.atoms.now) (words A.state.now.store.now) (words A.scratch.now) S v R in
          verdict_some A.i (clause_broken I x) (take v.n c.in-Some.found) _
          (found_broken I roles A.state.now.size x A.i A.state.now.text.now (words A.clauses.now) (words A.atoms.now) (words A.state.now.store.now) (words A.scratch.now) S v R (Code.Some c.in-Some.found)
          (c.in-Some.ensures (clause_one I x) (clause_two I x) (c.clause_tables.ensures.tables I roles x (c.body_of-body.ensures x S.at) (c.head_of-head.ensures x S.at) M)))
          (c.put_shown.ensures.by_index v.n l));
      changed = changed_then (2 * vars_at) (shown_at + 4) _ _ _ (changed_wide (2 * vars_at) shown_at (2 * vars_at) (shown_at + 4) _ _ (omega arith) (omega arith) c.clause_tables.ensures.changed)
          (changed_wide shown_at (shown_at + 4) (2 * vars_at) (shown_at + 4) _ _ (omega arith) (omega arith) c.put_shown.ensures.changed);
    }

pub returns : goal.returns
returns c =
    let A = c.args in
    let v = c.clause_vars-v.result in record {
      result_after = (λ I roles x S.
          let R = c.clause_vars-v.ensures (x.body ++ x.head) (c.atoms_of.ensures x S.at) in
          let M = clause_meant I roles A.state.now.size x A.i A.state.now.text.now (words A.clauses.now) (words A.atoms.now) (words A.state.now.store.now) (words A.scratch.now) S v R in
          verdict_none A.i (clause_broken I x)
          (found_broken I roles A.state.now.size x A.i A.state.now.text.now (words A.clauses.now) (words A.atoms.now) (words A.state.now.store.now) (words A.scratch.now) S v R Code.None
          (c.in_default.ensures (clause_one I x) (clause_two I x) (c.clause_tables.ensures.tables I roles x (c.body_of-body.ensures x S.at) (c.head_of-head.ensures x S.at) M))));
      changed = changed_wide (2 * vars_at) shown_at (2 * vars_at) (shown_at + 4) _ _ (omega arith) (omega arith) c.clause_tables.ensures.changed;
    }
