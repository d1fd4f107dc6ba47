use Rattle.leaves.specs.declared.disjunct.Disjunct.TheVariants as DisjunctIs
use Rattle.leaves.specs.declared.disjunct.Disjunct.TheVariants as DisjunctIs
use Rattle.leaves.specs.declared.disjunct.Disjunct.TheVariants as DisjunctIs
use mathlib.Core.Path.{◌∙◌, refl, sym, ap}
use Prim.{tt}
use Prim.Native.Nat.{ℕ}
use native.Mathlib.Omega.{arith}
use Rattle.words.specs.Words.{words}
use Rattle.pool.specs.Layout.{concept_at, pool_of}
use Rattle.rules.specs.Heads.{is_top}
use Rattle.leaves.specs.declared.disjunct.Disjunct.TheVariants as DisjunctIs
use Rattle.leaves.specs.ReadLaws.{kind_of, counted_child, counted_at, counted_is, counts_restrict}
use Rattle.leaves.proofs.disjunct.counted.Goals as goal

pub returns-then-no_atom : goal.returns-then-no_atom
returns-then-no_atom c = let l = c.requires.2 in let ek = kind_of c.args.scratch.now c.args.k c.requires.0 c.args.c c.requires.1 in record {
  value = λ env E. sym ((counted_is env (pool_of (words c.args.scratch.now) c.args.k.concepts) c.args.v (concept_at (words c.args.scratch.now) c.args.c) (omega (arith, l, ek))) ∙ rw (← c.no_atom.ensures env E, c.if-no_atom.true) refl);
  disjunct_fits = tt;
}

pub is_top-requires : goal.is_top-requires
is_top-requires c = let b = counted_child c.args.scratch.now c.args.k c.requires.0 c.args.c c.requires.1 c.requires.2 in (c.requires.0, omega (arith, b, c.child.ensures, c.requires.1))

pub returns-then-is_top : goal.returns-then-is_top
returns-then-is_top c = let l = c.requires.2 in let ek = kind_of c.args.scratch.now c.args.k c.requires.0 c.args.c c.requires.1 in record {
  value = λ env E. sym ((counted_is env (pool_of (words c.args.scratch.now) c.args.k.concepts) c.args.v (concept_at (words c.args.scratch.now) c.args.c) (omega (arith, l, ek))) ∙ rw (← c.no_atom.ensures env E, c.if-no_atom.false, (ap is_top (counted_at c.args.scratch.now c.args.k c.requires.0 c.args.c c.requires.1 l) ∙ ap (λ (x : ℕ). is_top (concept_at (words c.args.scratch.now) x)) (sym c.child.ensures) ∙ sym c.is_top.ensures ∙ c.if-is_top.true)) (ap DisjunctIs.Ready (sym (c.unqualified.ensures.value env E))));
  disjunct_fits = c.unqualified.ensures.fits;
}

pub returns : goal.returns
returns c = let l = c.requires.2 in let ek = kind_of c.args.scratch.now c.args.k c.requires.0 c.args.c c.requires.1 in record {
  value = λ env E. sym ((counted_is env (pool_of (words c.args.scratch.now) c.args.k.concepts) c.args.v (concept_at (words c.args.scratch.now) c.args.c) (omega (arith, l, ek))) ∙ rw (← c.no_atom.ensures env E, c.if-no_atom.false, (ap is_top (counted_at c.args.scratch.now c.args.k c.requires.0 c.args.c c.requires.1 l) ∙ ap (λ (x : ℕ). is_top (concept_at (words c.args.scratch.now) x)) (sym c.child.ensures) ∙ sym c.is_top.ensures ∙ c.if-is_top.false)) refl);
  disjunct_fits = counts_restrict (concept_at (words c.args.scratch.now) c.args.c) (omega (arith, l, ek));
}
