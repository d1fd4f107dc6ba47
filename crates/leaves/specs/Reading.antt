-- What the code asks of scratch to read a concept, and the ways that emit_head goes.
use Rattle.std.specs.Prelude.{List, ℕ, zero, suc, ◌*◌, ◌≤◌, length}
use Prim.{Unit}
use Rattle.words.specs.Words.{words}
use Rattle.ir.specs.Pick.{pick}
use Rattle.ir.specs.Scratch.{hands_at}
use Rattle.ir.specs.Records.{Fits}
use Rattle.ir.specs.declared.counters.Counters.{Counters}
use Rattle.rules.specs.Concept.{Concept}
use Rattle.rules.specs.Concept.{Top, Bot, Atomic, Nominal, SelfRestriction, Not, And, Or, Some, All, Min, Max}
use Rattle.rules.specs.Pool.{Pool, at}
use Rattle.rules.specs.Deck.{most_classes, most_individuals, most_roles}
use Rattle.rules.specs.Heads.{is_top}
use Rattle.rules.specs.Invariants.{Bounds, Wf}
use Rattle.pool.specs.Layout.{pool_of}
use Rattle.pool.specs.Held.{Ready}
use Rattle.tables.specs.Good.{most_names}
use Rattle.leaves.specs.Classes.{Restricts}
use Rattle.leaves.specs.declared.leaf.Leaf.{Leaf}
use Rattle.leaves.specs.declared.leaf.Leaf.TheVariants as LeafIs
use Rattle.leaves.specs.declared.disjunct.Disjunct.{Disjunct}
use Rattle.leaves.specs.declared.disjunct.Disjunct.TheVariants as DisjunctIs
use Rattle.leaves.specs.declared.form.Form.{Form}
use Rattle.leaves.specs.declared.form.Form.TheVariants as FormIs

-- a pool whose numbers are those of a deck, or names of limits, and the key marks and the role map behind it
pub record Reading (s : List ℕ) (k : Counters) : Type 0 where
  pub room : 4 * hands_at ≤ length s
  pub bounds : Bounds
  pub ready : Ready s k
  pub wf : Wf bounds (pool_of (words s) k.concepts)
  pub classes : bounds.classes ≤ most_names
  pub individuals : bounds.individuals ≤ most_individuals
  pub roles : bounds.roles ≤ most_roles
  pub nominals : k.nominal_base ≤ most_classes

-- which way emit_head goes
abbrev pub form_of : Pool → Concept → Form
form_of p Top = FormIs.Leaf
form_of p Bot = FormIs.Leaf
form_of p (Atomic _) = FormIs.Leaf
form_of p (Nominal _) = FormIs.Leaf
form_of p (SelfRestriction _) = FormIs.Leaf
form_of p (Not _) = FormIs.Leaf
form_of p (And _) = FormIs.And
form_of p (Or _) = FormIs.Or
form_of p (Some _ _) = FormIs.Named
form_of p (All _ _) = FormIs.All
form_of p (Min zero _ d) = FormIs.Leaf
form_of p (Min (suc _) _ d) = pick (is_top (at p d)) FormIs.Leaf FormIs.Named
form_of p (Max _ _ d) = pick (is_top (at p d)) FormIs.Leaf FormIs.Named

-- atoms that a record can hold
abbrev pub LeafFits : Leaf → Type 0
LeafFits LeafIs.Nothing = Unit {0}
LeafFits LeafIs.Empty = Unit {0}
LeafFits (LeafIs.Head a) = Fits a
LeafFits (LeafIs.Body a) = Fits a
LeafFits LeafIs.Deferred = Unit {0}

-- and a filler is a restriction's
abbrev pub DisjunctFits : Concept → Disjunct → Type 0
DisjunctFits e (DisjunctIs.Ready a) = Fits a
DisjunctFits e (DisjunctIs.Negated a) = Fits a
DisjunctFits e DisjunctIs.Absent = Unit {0}
DisjunctFits e DisjunctIs.Whole = Unit {0}
DisjunctFits e DisjunctIs.Filler = Restricts e
