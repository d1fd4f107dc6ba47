use mathlib.Core.Path.{◌∙◌}
use mathlib.Core.Bool.{true, false}
use Prim.Native.Nat.{◌*◌}
use Rattle.words.specs.Words.{words}
use Rattle.rules.specs.Semantics.{clause_vars}
use Rattle.sets.specs.Places.{vars_at, shown_at}
use Rattle.clausetests.specs.Fitting.{ones_with, twos_with}
use Rattle.clausetests.proofs.FittingLaws.{changed_then}
use Rattle.clausetests.proofs.RunLaws.{clause_body, clause_head, meant_kept, meant_left, meant_right}
use Rattle.clausetests.proofs.fitting.clause_tables.Goals as goal

pub narrow_run-requires : goal.narrow_run-requires
narrow_run-requires c =
    let A = c.args in
    clause_body A.state.now.size A.body.now A.head.now A.v A.state.now.text.now A.state.now.store.now A.scratch.now _ c.start.auto.scratch c.start.ensures.changed c.requires

pub narrow_run-requires-2 : goal.narrow_run-requires-2
narrow_run-requires-2 c =
    let A = c.args in
    clause_head A.state.now.size A.body.now A.head.now A.v A.state.now.text.now A.state.now.store.now A.scratch.now _ (c.narrow_run.auto.scratch ∙ c.start.auto.scratch)
    (changed_then (2 * vars_at) shown_at (words A.scratch.now) (words c.start.new.scratch) _ c.start.ensures.changed c.narrow_run.ensures.changed) c.requires

pub returns : goal.returns
returns c =
    let A = c.args in
    let v = words A.scratch.now in
    let v1 = words c.start.new.scratch in
    let w = words A.state.now.store.now in
    let C1 = c.start.ensures.changed in
    let C2 = changed_then (2 * vars_at) shown_at v v1 _ C1 c.narrow_run.ensures.changed in record {
      tables = (λ I roles x Rb Rh M.
          let vs = clause_vars x in
          let T1 = c.narrow_run.ensures.tables I roles vs x.body (λ _ _. true) (λ _ _ _ _. true) Rb
          (meant_kept I roles vs A.state.now.size x.body A.v A.state.now.text.now w v (meant_left I roles vs A.state.now.size x.body x.head A.v A.state.now.text.now w v M) _ C1) c.start.ensures.tables in
          c.narrow_run-2.ensures.tables I roles vs x.head (ones_with I vs false x.body (λ _ _. true)) (twos_with I vs false x.body (λ _ _ _ _. true)) Rh
          (meant_kept I roles vs A.state.now.size x.head A.v A.state.now.text.now w v (meant_right I roles vs A.state.now.size x.body x.head A.v A.state.now.text.now w v M) _ C2) T1);
      changed = changed_then (2 * vars_at) shown_at v _ _ C2 c.narrow_run-2.ensures.changed;
    }
