use mathlib.Core.Path.{◌∙◌, sym, ap}
use mathlib.Core.Bool.{true, false}
use Prim.Native.Nat.{ℕ}
use native.Mathlib.Omega.{arith}
use Rattle.words.specs.Words.{words}
use Rattle.pool.specs.Layout.{concept_at, pool_of}
use Rattle.rules.specs.Heads.{is_top}
use Rattle.leaves.specs.ReadLaws.{kind_of, counted_at, form_counted}
use Rattle.leaves.proofs.form.counted.Goals as goal

pub returns-then-is_top : goal.returns-then-is_top
returns-then-is_top c = let w = words c.args.scratch.now in form_counted (pool_of w c.args.k.concepts) (concept_at w c.args.c) true (omega (arith, kind_of c.args.scratch.now c.args.k c.requires.0 c.args.c c.requires.1, c.requires.2)) (sym c.if-at_least_none.false ∙ c.at_least_none.ensures)
    (sym c.if-is_top.true ∙ c.is_top.ensures ∙ ap (λ (y : ℕ). is_top (concept_at w y)) c.child.ensures ∙ ap is_top (sym (counted_at c.args.scratch.now c.args.k c.requires.0 c.args.c c.requires.1 c.requires.2)))

pub returns : goal.returns
returns c = let w = words c.args.scratch.now in form_counted (pool_of w c.args.k.concepts) (concept_at w c.args.c) false (omega (arith, kind_of c.args.scratch.now c.args.k c.requires.0 c.args.c c.requires.1, c.requires.2)) (sym c.if-at_least_none.false ∙ c.at_least_none.ensures)
    (sym c.if-is_top.false ∙ c.is_top.ensures ∙ ap (λ (y : ℕ). is_top (concept_at w y)) c.child.ensures ∙ ap is_top (sym (counted_at c.args.scratch.now c.args.k c.requires.0 c.args.c c.requires.1 c.requires.2)))
