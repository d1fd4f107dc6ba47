use Rattle.std.proofs.Common.{◌≡◌, ◌+◌, ◌-◌, ap, ◌∙◌, arith}
use Rattle.axiomtests.proofs.members.folded.Goals as goal

pub loop-j-init : goal.loop-j-init
loop-j-init g c = λ h e s. e

pub loop-j-preserved : goal.loop-j-preserved
loop-j-preserved g c =
    let L = c.loop-j in
    let q : L.j ≡ L.j - 1 + 1 = omega arith in
    λ h e s. s (L.j - 1) L.found c.join-found.result (omega arith) (L.invariant h e s ∙ ap h q) (rw (← c.member.ensures) c.join-found.ensures)

pub returns : goal.returns
returns g c =
    let L = c.loop-j in
    let q : L.j ≡ 0 = omega arith in
    λ h e s. L.invariant h e s ∙ ap h q
