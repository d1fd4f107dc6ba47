use mathlib.Core.Path.{sym, ap, subst}
use Prim.{tt}
use Rattle.std.specs.Prelude.{Option, IfSome}
use Rattle.ir.specs.Records.{Fits}
use Rattle.ir.specs.declared.atom.Atom.{Atom}
use Rattle.leaves.specs.Classes.{option_in}
use Rattle.leaves.specs.Leaves.{body_or}
use Rattle.leaves.proofs.leaf.joined.Goals as goal

pub returns-in-Some : goal.returns-in-Some
returns-in-Some c = record {
  value = λ env p. ap (λ (l : Option Atom). body_or env p (option_in l)) (sym c.in-Some.is);
  leaf_fits = subst (λ (l : Option Atom). IfSome l Fits) c.in-Some.is c.requires;
}

pub returns-in-None : goal.returns-in-None
returns-in-None c = record { value = λ env p. ap (λ (l : Option Atom). body_or env p (option_in l)) (sym c.in-None.is); leaf_fits = tt }
