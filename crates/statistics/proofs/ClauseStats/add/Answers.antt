use mathlib.Core.Bool.{Bool, true, false}
use mathlib.Core.Path.{◌≡◌, refl, ◌∙◌}
use Rattle.std.specs.Int.{from_bool}
use Rattle.rules.specs.Stats.{one}
use Rattle.statistics.specs.AddLaws.{one_more_lem}
use Rattle.statistics.proofs.ClauseStats.add.Goals as goal

one_is : (b : Bool) → from_bool b ≡ one b
one_is true = refl
one_is false = refl

pub returns : goal.returns
returns c =
    let e = c.has_exists-exists in
    let w = c.is_wide-wide in
    let m = c.atom_room-nh in
    one_more_lem c.args.body.now c.args.head.now m.result m.ensures e.result w.result e.ensures w.ensures c.args.self
    c.from.result c.from-2.result c.from-3.result c.from-4.result c.from-5.result
    (c.from.ensures ∙ one_is _) (c.from-2.ensures ∙ one_is _) (c.from-3.ensures ∙ one_is _) (c.from-4.ensures ∙ one_is _) (c.from-5.ensures ∙ one_is _)
