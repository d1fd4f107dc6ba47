use mathlib.Core.Path.{ap, subst}
use mathlib.Core.List.{List}
use Prim.Native.Nat.{ℕ}
use native.Mathlib.Omega.{arith}
use Rattle.words.specs.Words.{words}
use Rattle.ir.specs.Lined.{lined}
use Rattle.ir.specs.Refusals.{refusal_number}
use Rattle.rules.specs.Run.{nnf_axioms}
use Rattle.ontology.specs.Layout.{axioms_of}
use Rattle.rebuilding.specs.States.{state_of}
use Rattle.rows.specs.Rows.{Put}
use Rattle.normalforms.proofs.FormLaws.{finished_text, stopped_text, finished_held}
use Rattle.normalforms.proofs.forms.put_normalized.Goals as goal

pub nnf_axioms-requires : goal.nnf_axioms-requires
nnf_axioms-requires c = (c.requires.0, c.requires.1)

pub put_normal-requires : goal.put_normal-requires
put_normal-requires c =
    let m = c.nnf_axioms in
    let h = finished_held (lined m.new.k m.result) c.args.n (words m.new.scratch) m.new.k (ap (lined m.new.k) c.in-Ok.is) m.ensures.held_lined in
    (record { room = omega (arith, c.requires.0.space, m.auto.scratch); held = h.0 }, h.1, omega (arith, c.requires.0.space, m.auto.scratch), omega (arith, c.requires.2))

pub returns-in-Ok : goal.returns-in-Ok
returns-in-Ok c =
    let m = c.nnf_axioms in
    let p = c.put_normal in
    let w = words c.args.scratch.now in
    let w' = words m.new.scratch in
    let x = nnf_axioms c.args.k.line (axioms_of w c.args.n) (state_of c.args.k w) in
    let e = finished_text c.args.k x (lined m.new.k m.result) (axioms_of w' c.args.n) w' m.ensures.scratch_after m.new.k (ap (lined m.new.k) c.in-Ok.is) in
    record {
      put = subst (λ (t : List ℕ). Put c.args.out.now 0 t p.new.out p.result) e p.ensures.put;
      upper_bound = p.ensures.upper_bound;
    }

pub returns-in-Err : goal.returns-in-Err
returns-in-Err c =
    let m = c.nnf_axioms in
    let p = c.put_refusal in
    let w = words c.args.scratch.now in
    let w' = words m.new.scratch in
    let x = nnf_axioms c.args.k.line (axioms_of w c.args.n) (state_of c.args.k w) in
    let e = stopped_text c.args.k x (lined m.new.k m.result) (axioms_of w' c.args.n) w' m.ensures.scratch_after (refusal_number c.in-Err.e.refusal) c.in-Err.e.line (ap (lined m.new.k) c.in-Err.is) in
    record {
      put = subst (λ (t : List ℕ). Put c.args.out.now 0 t p.new.out p.result) e p.ensures.put;
      upper_bound = p.ensures.upper_bound;
    }
