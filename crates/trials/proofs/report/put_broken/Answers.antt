use mathlib.Core.Path.{refl}
use Prim.Native.Nat.{◌+◌, ◌*◌}
use Rattle.tables.specs.AtomLaws.{words_part}
use Rattle.sets.specs.Places.{shown_at}
use Rattle.trials.proofs.report.put_broken.Goals as goal

pub returns : goal.returns
returns c =
    let a = c.args in
    let p = words_part a.scratch.now shown_at a.k (4 * shown_at) (4 * (shown_at + a.k)) refl refl in
    rw (c.copy_words.ensures, c.put_word-2.ensures, c.put_word.ensures, p) refl
