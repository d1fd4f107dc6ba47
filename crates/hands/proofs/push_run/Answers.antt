use mathlib.Core.Path.{refl}
use Prim.Native.Nat.{◌+◌, ◌*◌, ◌≤◌}
use native.Mathlib.Omega.{arith}
use lib.ListN.{length}
use Rattle.words.specs.Words.{words}
use Rattle.words.specs.Laws.{length_words}
use Rattle.hands.specs.HandLaws.{hand_body, hand_head, hand_run}
use Rattle.hands.proofs.push_run.Goals as goal

pub returns-clause-d_after : goal.returns-clause-d_after
returns-clause-d_after c =
    let base = c.args.base in
    let n = c.args.n in
    let m = c.args.m in
    let t = c.args.scratch.now in
    let fit : 6 * base ≤ length (words t) = omega (arith, c.requires.2, length_words t) in
    let seam : 24 * (base + n) ≤ length t = omega (arith, c.requires.2) in
    λ env b h s d e i l r.
    c.push_clause.ensures.d_after env b h s d l
    (hand_run base n t b _ refl seam (hand_body base n m (words t) b h fit e i))
    (hand_run (base + n) m t h _ refl c.requires.2 (hand_head base n m (words t) b h fit e i)) r
