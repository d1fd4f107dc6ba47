use mathlib.Core.Path.{ap, ◌∙◌}
use mathlib.Core.List.{List}
use Prim.Native.Nat.{ℕ}
use native.Mathlib.Omega.{arith}
use Rattle.words.specs.Words.{words}
use Rattle.words.specs.Laws.{length_words}
use Rattle.sets.specs.Kept.{set_at}
use Rattle.sets.specs.KeptLaws.{set_put_lem}
use Rattle.clausetests.proofs.FittingLaws.{changed_put}
use Rattle.clausetests.proofs.fitting.narrow.Goals as goal

pub returns : goal.returns
returns c =
    let v = words c.args.scratch.now in
    let i = c.args.i in record {
      by_index = (λ n f h ef eh. ap (λ (w : List ℕ). set_at w i) c.put_set.ensures ∙ set_put_lem v i c.allowed.result (omega (arith, length_words c.args.scratch.now, c.requires)) ∙ c.allowed.ensures n f h (c.get_set-a.ensures ∙ ef) eh);
      changed = changed_put v _ i c.allowed.result c.put_set.ensures;
    }
