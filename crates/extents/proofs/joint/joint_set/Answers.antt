use mathlib.Core.Path.{◌≡◌, ap, ◌∙◌}
use Prim.Native.Nat.{ℕ, ◌+◌, ◌<◌}
use native.Mathlib.Omega.{arith}
use lib.ListN.{get_or}
use Rattle.words.specs.Words.{words}
use Rattle.meaning.specs.Joints.{joins, over}
use Rattle.pool.specs.Joints.{joint_of}
use Rattle.pool.specs.Layout.{members_at, tab, run}
use Rattle.states.specs.Masks.{mask_of}
use Rattle.sets.specs.Kept.{set_at}
use Rattle.sets.specs.Places.{concepts_at}
use Rattle.extents.proofs.Laws.{joint_more, member_at_lem}
use Rattle.extents.proofs.joint.joint_set.Goals as goal

pub loop-i-init : goal.loop-i-init
unfolding tab
loop-i-init c = λ k E. c.unit-m.ensures

pub set_of-set-requires : goal.set_of-set-requires
set_of-set-requires c =
    let h = member_at_lem (λ k. k < 2048) (words c.args.scratch.now) c.args.start c.args.count c.loop-i.i c.requires.3 c.loop-i-test.true in
    (omega (arith, h, c.member-c.ensures), c.requires.2)

pub loop-i-preserved : goal.loop-i-preserved
loop-i-preserved c =
    let a = c.args in
    let v = words a.scratch.now in
    let L = c.loop-i in
    let h = c.loop-i-test.true in
    let r = c.member-c.result in
    let e : r ≡ get_or v (members_at + a.start + L.i) 0 = let q : members_at + (a.start + L.i) ≡ members_at + a.start + L.i = omega arith in c.member-c.ensures ∙ ap (λ (k : ℕ). get_or v k 0) q in
    λ k E.
    c.joined-m.ensures a.n (λ x. over (joint_of a.j) (λ b. k b x) (run v (members_at + a.start) L.i)) (k r) (L.invariant k E)
    (c.set_of-set.ensures ∙ rw c.member-c.ensures (member_at_lem (λ b. set_at v (concepts_at + b) ≡ mask_of a.n (k b)) v a.start a.count L.i E h))
    ∙ ap (λ (b : ℕ). mask_of a.n (λ x. joins (joint_of a.j) (over (joint_of a.j) (λ c'. k c' x) (run v (members_at + a.start) L.i)) (k b x))) e
    ∙ joint_more v (members_at + a.start) L.i a.n (joint_of a.j) k

pub returns : goal.returns
returns c =
    let L = c.loop-i in
    let a = c.args in
    let q : L.i ≡ a.count = omega arith in
    λ k E. L.invariant k E ∙ ap (λ (i : ℕ). mask_of a.n (λ x. over (joint_of a.j) (λ b. k b x) (run (words a.scratch.now) (members_at + a.start) i))) q
