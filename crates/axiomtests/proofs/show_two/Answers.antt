use mathlib.Core.Bool.{not}
use mathlib.Core.List.{[], ◌∷◌}
use Prim.Native.Nat.{◌+◌, ◌<◌}
use native.Mathlib.Omega.{arith}
use lib.ListN.{length}
use Rattle.words.specs.Words.{words}
use Rattle.words.specs.Laws.{length_words}
use Rattle.sets.specs.Places.{shown_at}
use Rattle.axiomtests.proofs.AsideLaws.{aside_trans, aside_shown, shown_second, least_behind}
use Rattle.axiomtests.proofs.show_two.Goals as goal

pub overflow_cast-least : goal.overflow_cast-least
overflow_cast-least c = record { fits = omega (arith, c.least.ensures.upper_bound) }

pub returns : goal.returns
returns c =
    let v = words c.args.scratch.now in
    let long : shown_at + 1 < length v = omega (arith, length_words c.args.scratch.now, c.requires.2) in record {
      aside = aside_trans v _ _ (aside_shown v _ 0 _ (omega arith) c.put_word.ensures) (aside_shown _ _ 1 _ (omega arith) c.put_word-2.ensures);
      by_index = λ n t h q. least_behind n _ t q c.args.x _ _ (λ z. omega (arith, z)) (c.least.ensures.by_index n (λ x. not (t (x ∷ []))) h q).0 (shown_second v _ _ _ _ long c.put_word.ensures c.put_word-2.ensures);
    }
