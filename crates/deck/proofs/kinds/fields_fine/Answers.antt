use native.Mathlib.Omega.{arith}
use Rattle.deck.proofs.KindLaws.{fixed_most}
use Rattle.deck.proofs.kinds.fields_fine.Goals as goal

pub overflow_add-least : goal.overflow_add-least
overflow_add-least c = omega (arith, c.fixed_of-least.ensures, fixed_most c.args.kind)
