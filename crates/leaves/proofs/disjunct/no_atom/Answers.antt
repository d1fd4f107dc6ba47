use mathlib.Core.Path.{◌∙◌, refl, sym, ap}
use mathlib.Core.Bool.{not}
use Prim.Native.Nat.{ℕ}
use native.Mathlib.Omega.{arith}
use Rattle.words.specs.Words.{words}
use Rattle.pool.specs.Layout.{concept_at, pool_of}
use Rattle.rules.specs.Concept.{Concept}
use Rattle.rules.specs.State.{class_id_of, is_dkey}
use Rattle.leaves.specs.Classes.{at_least_none}
use Rattle.leaves.specs.ReadLaws.{kind_of, counted_child, counted_at, no_atom_is, or_rest}
use Rattle.leaves.proofs.disjunct.no_atom.Goals as goal

pub returns-then-not-card_disjunct_atoms : goal.returns-then-not-card_disjunct_atoms
returns-then-not-card_disjunct_atoms c = let l = c.requires.2 in let ek = kind_of c.args.scratch.now c.args.k c.requires.0 c.args.c c.requires.1 in λ env E. sym ((no_atom_is env (pool_of (words c.args.scratch.now) c.args.k.concepts) 0 (concept_at (words c.args.scratch.now) c.args.c) (omega (arith, l, ek))) ∙ rw (← E.option, ← c.card_disjunct_atoms.ensures, c.if-not-card_disjunct_atoms.true-raw) refl)

pub returns-then-at_least_none : goal.returns-then-at_least_none
returns-then-at_least_none c = let l = c.requires.2 in let ek = kind_of c.args.scratch.now c.args.k c.requires.0 c.args.c c.requires.1 in λ env E. sym ((no_atom_is env (pool_of (words c.args.scratch.now) c.args.k.concepts) 0 (concept_at (words c.args.scratch.now) c.args.c) (omega (arith, l, ek))) ∙ rw (← E.option, ← c.card_disjunct_atoms.ensures, c.if-not-card_disjunct_atoms.false-raw, ← c.at_least_none.ensures, c.if-at_least_none.true) refl)

pub over_dkey-requires : goal.over_dkey-requires
over_dkey-requires c = let b = counted_child c.args.scratch.now c.args.k c.requires.0 c.args.c c.requires.1 c.requires.2 in (c.requires.0, omega (arith, b, c.child.ensures, c.requires.1))

pub returns-else-at_least_none : goal.returns-else-at_least_none
returns-else-at_least_none c = let l = c.requires.2 in let ek = kind_of c.args.scratch.now c.args.k c.requires.0 c.args.c c.requires.1 in λ env E. sym ((no_atom_is env (pool_of (words c.args.scratch.now) c.args.k.concepts) 0 (concept_at (words c.args.scratch.now) c.args.c) (omega (arith, l, ek))) ∙ or_rest env.card_disjunct_atoms (at_least_none (concept_at (words c.args.scratch.now) c.args.c)) _ (ap not (sym E.option ∙ sym c.card_disjunct_atoms.ensures) ∙ c.if-not-card_disjunct_atoms.false-raw) (sym c.at_least_none.ensures ∙ c.if-at_least_none.false) ∙ ap (λ (z : Concept). is_dkey env (class_id_of env z)) (counted_at c.args.scratch.now c.args.k c.requires.0 c.args.c c.requires.1 l ∙ ap (λ (x : ℕ). concept_at (words c.args.scratch.now) x) (sym c.child.ensures)) ∙ sym (c.over_dkey.ensures env E))
