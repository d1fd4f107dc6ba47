use mathlib.Core.Path.{sym, ap, ◌∙◌}
use Prim.Native.Nat.{ℕ}
use Rattle.rules.specs.Semantics.{atom_holds}
use Rattle.states.specs.Masks.{mask_of}
use Rattle.clausetests.proofs.fitting.narrow_one.Goals as goal

pub returns : goal.returns
returns c =
    let x = c.args.a in
    record {
      j_after = (λ I roles f G N e. c.narrow.ensures.by_index c.args.state.now.size f (λ y. atom_holds I (λ _. y) x) e (c.atom_set-m.ensures I roles G N ∙ ap (λ (m : ℕ). mask_of m (λ y. atom_holds I (λ _. y) x)) (sym G.elements)));
      changed = c.narrow.ensures.changed;
    }
