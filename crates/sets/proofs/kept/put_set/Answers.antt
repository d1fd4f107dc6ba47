use mathlib.Core.Path.{refl}
use native.Mathlib.Numerals.{add-one}
use Rattle.sets.proofs.kept.put_set.Goals as goal

pub returns : goal.returns
returns c =
    rw (c.put_word-2.ensures, c.put_word.ensures, add-one) refl
