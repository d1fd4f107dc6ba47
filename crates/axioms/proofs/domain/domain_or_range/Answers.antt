use mathlib.Core.Path.{◌≡◌, ap, ◌∙◌}
use native.Mathlib.Omega.{arith}
use Rattle.ir.specs.Roles.{role_of}
use Rattle.ir.specs.declared.counters.Counters.{Counters}
use Rattle.axioms.specs.DomainLaws.{role_asked, domain_did, range_did, domain_queues, range_queues}
use Rattle.axioms.proofs.domain.domain_or_range.Goals as goal
use Rattle.axioms.proofs.domain.domain_or_range.Goals.{then-range, else-range}

pub emit_head-requires : goal.emit_head-requires
emit_head-requires c = let x = c.canon in let p = c.put_atom in let y = c.fresh_var-y.ensures in
    let e = ap (λ (x : Counters). x.next_var) c.restart_vars.ensures in
    let ey : c.fresh_var-y.result ≡ 1 = omega (arith, y.result_value, e) in
    role_asked c.args.scratch.now _ c.args.lent.now.counters _ _ x.result c.args.c c.requires.0 c.requires.4 c.restart_vars.ensures y.self_after (rw ey at p.ensures) c.requires.1 p.auto.t c.requires.3

pub returns-clause-did : goal.returns-clause-did
returns-clause-did c = let x = c.canon in let A = c.args.lent.now.counters in let y = c.fresh_var-y.ensures in
    let e = ap (λ (x : Counters). x.next_var) c.restart_vars.ensures in
    let ey : c.fresh_var-y.result ≡ 1 = omega (arith, y.result_value, e) in
    let p = rw ey at c.put_atom.ensures in
    elim c.if-range.branch [
      | then-range w ↦ let ev : c.if-range.v ≡ 1 = w.v-is ∙ ey in let d = rw ev at c.emit_head.ensures.did in
          rw w.if-range.true (range_did c.args.scratch.now _ A _ _ x.result c.args.c c.requires.0 c.requires.4 c.restart_vars.ensures y.self_after p (role_of c.args.role) x.ensures.value _ _ _ _ _ d.0, range_queues c.args.scratch.now _ A _ _ x.result c.args.c c.requires.0 c.requires.4 c.restart_vars.ensures y.self_after p (role_of c.args.role) x.ensures.value _ _ _ _ d.1)
      | else-range w ↦ let d = rw w.v-is at c.emit_head.ensures.did in
          rw w.if-range.false (domain_did c.args.scratch.now _ A _ _ x.result c.args.c c.requires.0 c.requires.4 c.restart_vars.ensures y.self_after p (role_of c.args.role) x.ensures.value _ _ _ _ _ d.0, domain_queues c.args.scratch.now _ A _ _ x.result c.args.c c.requires.0 c.requires.4 c.restart_vars.ensures y.self_after p (role_of c.args.role) x.ensures.value _ _ _ _ d.1)
    ]
