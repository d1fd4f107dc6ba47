use mathlib.Core.Path.{refl}
use mathlib.Core.List.{[]}
use Rattle.hands.specs.HandLaws.{hand_none}
use Rattle.hands.proofs.push_none.Goals as goal

pub returns : goal.returns
returns c =
    let q = c.push_run.ensures in
    λ d. record {
      equal = λ env f b s l E i t. q.d_after env b [] s d i.long (hand_none _ _ _ b i) E.lent t;
      frame = refl;
      good = q.good_answer;
      kept = q.kept_answer;
    }
