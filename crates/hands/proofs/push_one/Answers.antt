use mathlib.Core.Path.{refl}
use Prim.Native.Nat.{◌+◌, ◌*◌, ◌≤◌}
use native.Mathlib.Omega.{arith}
use lib.ListN.{length}
use Rattle.hands.specs.HandLaws.{hand_run}
use Rattle.hands.proofs.push_one.Goals as goal

pub returns : goal.returns
returns c =
    let q = c.push_headed.ensures in
    let fits : 24 * (c.args.base + c.args.n) ≤ length c.args.scratch.now = omega (arith, c.requires.1) in
    λ d. record {
      equal = λ env f b s l E i t.
          q.d_after env b s d E.lent
          (hand_run c.args.base c.args.n c.args.scratch.now b _ refl fits i) t;
      frame = refl;
      good = q.good_answer c.requires.2;
      kept = q.kept_answer;
    }
