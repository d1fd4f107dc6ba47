use Prim.Native.Nat.{◌-◌}
use Rattle.words.specs.Words.{words}
use Rattle.rules.specs.Deck.{most_roles}
use Rattle.inverse.specs.Layout.{Building}
use Rattle.reflexive.specs.Flags.{MapWithin}
use Rattle.reflexive.specs.Steps.{Closing}
use Rattle.reflexive.proofs.ids.reflexive_role_ids.Given as goal

abbrev pub invariant-loop-size : goal.invariant-loop-size
invariant-loop-size l = Closing l.initial.scratch l.scratch l.n l.size × Building l.initial.scratch l.n × MapWithin (words l.initial.scratch)

abbrev pub decreases-loop-size : goal.decreases-loop-size
decreases-loop-size l = most_roles - l.size
