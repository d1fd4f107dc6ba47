use mathlib.Core.Path.{ap, ◌∙◌}
use mathlib.Core.List.{List}
use Prim.Native.Nat.{ℕ, ◌+◌}
use native.Mathlib.Omega.{arith}
use Rattle.words.specs.Words.{words}
use Rattle.words.specs.Laws.{length_words}
use Rattle.sets.specs.Kept.{set_at}
use Rattle.sets.specs.KeptLaws.{set_put_lem}
use Rattle.clausetests.proofs.FittingLaws.{changed_none, changed_put, sets_done, sets_changed}
use Rattle.clausetests.proofs.fitting.fill.Goals as goal

pub loop-i-init : goal.loop-i-init
loop-i-init c = ((λ q l. absurd (omega arith)), changed_none _ _ _)

pub loop-i-preserved : goal.loop-i-preserved
loop-i-preserved c =
    let L = c.loop-i in
    let a = c.args in
    let v = words L.scratch in
    let lt = c.loop-i-test.true in
    let C = changed_put v _ (a.from + L.i) a.m c.put_set.ensures in (
      sets_done a.from L.i v _ C (λ _. a.m) L.invariant.0 (ap (λ (w : List ℕ). set_at w (a.from + L.i)) c.put_set.ensures ∙ set_put_lem v (a.from + L.i) a.m (omega (arith, length_words L.scratch, c.requires, lt))),
      sets_changed a.from L.i v _ C a.n _ lt L.invariant.1,
    )

pub returns : goal.returns
returns c =
    let L = c.loop-i in
    record { by_index = (λ i h. L.invariant.0 i (omega (arith, h, c.loop-i-test.false))); changed = L.invariant.1 }
