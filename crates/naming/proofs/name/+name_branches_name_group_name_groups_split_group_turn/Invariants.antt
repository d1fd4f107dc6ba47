use Rattle.std.proofs.Common.{◌+◌, ◌*◌, ◌≡◌, length}
use Rattle.words.specs.Words.{words}
use Rattle.trees.specs.Grouping.{tops, counts}
use Rattle.naming.specs.GroupTurns.{Walk}
use Rattle.naming.proofs.name.+name_branches_name_group_name_groups_split_group_turn.Given as goal

abbrev pub decreases-name_branches : goal.decreases-name_branches
decreases-name_branches l = 5 * l.atoms.count + 4

abbrev pub decreases-name_group : goal.decreases-name_group
decreases-name_group l = 5 * l.atoms.count + 1

abbrev pub decreases-name_groups : goal.decreases-name_groups
decreases-name_groups l = 5 * l.atoms.count + 3

abbrev pub decreases-split_group : goal.decreases-split_group
decreases-split_group l = 5 * l.atoms.count

abbrev pub decreases-turn : goal.decreases-turn
decreases-turn l = 5 * l.child.count + 2

abbrev pub invariant-name_groups-loop-child : goal.invariant-name_groups-loop-child
invariant-name_groups-loop-child l = (length l.scratch ≡ length l.initial.scratch) × Walk (words l.initial.scratch) (tops l.children.each) (counts l.children.each) l.fn.atoms.base l.fn.atoms.count l.children.len l.root l.keep l.initial.reached.naming (words l.scratch) l.reached.naming l.reached.any l.p l.reached.end l.child-index
