use Rattle.std.proofs.Common.{◌≡◌, ℕ, refl, ap, ◌∙◌, arith}
use Rattle.states.specs.Masks.{mask_of}
use Rattle.sets.proofs.filtered.Goals as goal

pub loop-x-init : goal.loop-x-init
unfolding mask_of
loop-x-init g c = λ f h. refl

pub loop-x-preserved : goal.loop-x-preserved
loop-x-preserved g c = λ f h. c.grown-m.ensures f (c.loop-x.invariant f h) (h c.loop-x.x c.test.result c.loop-x-test.true c.test.ensures)

pub returns : goal.returns
returns g c =
    let q : c.loop-x.x ≡ c.args.n = omega arith in
    λ f h. c.loop-x.invariant f h ∙ ap (λ (k : ℕ). mask_of k f) q
