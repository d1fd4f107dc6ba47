use mathlib.Core.Path.{sym, ap, subst}
use mathlib.Core.List.{List}
use Prim.Native.Nat.{ℕ}
use native.Mathlib.Omega.{arith}
use Rattle.words.specs.Words.{words}
use Rattle.ir.specs.Lined.{lined}
use Rattle.ir.specs.Refusals.{refusal_number}
use Rattle.rows.specs.Rows.{Put}
use Rattle.clauses.specs.Stage.{lined_text, lent}
use Rattle.staging.specs.StageLaws.{staged_is, staged_no}
use Rattle.clauses.proofs.StageLaws.{blank_sized}
use Rattle.clauses.proofs.stage.put_clausified.Goals as goal

pub invariant_of-lent : goal.invariant_of-lent
invariant_of-lent c = let a = c.args in record { sized = blank_sized a.clauses.now a.atoms.now a.deferrals.now c.requires.1 }

pub clausify_deck-done-requires : goal.clausify_deck-done-requires
clausify_deck-done-requires c = (c.requires.0, (lent, c.requires.1))

pub put_state-requires : goal.put_state-requires
put_state-requires c =
    let P = c.requires.0 in
    let m = c.clausify_deck-done in
    let R = m.ensures.references in
    let u = m.new.lent in
    let Q = staged_is P.limit lent P.known m.new.scratch c.args.n (words u.clauses.now) (words u.atoms.now) (words u.deferrals.now) (lined u.counters m.result) (m.ensures.did P lent c.requires.1) u.counters (ap (lined u.counters) c.in-Ok.is) in
    (rw (c.clauses-1.given.1.1 (sym R.0), c.atoms-1.given.1.1 (sym R.1), c.deferrals-1.given.1.1 (sym R.2)) (record { state = Q.state; shows = Q.shows }), omega (arith, c.requires.2))

pub returns-in-Ok : goal.returns-in-Ok
returns-in-Ok c =
    let a = c.args in
    let m = c.clausify_deck-done in
    let R = m.ensures.references in
    let u = m.new.lent in
    let p = c.put_state in record {
      put = (λ P.
          let Q = staged_is P.limit lent P.known m.new.scratch a.n (words u.clauses.now) (words u.atoms.now) (words u.deferrals.now) (lined u.counters m.result) (m.ensures.did P lent c.requires.1) u.counters (ap (lined u.counters) c.in-Ok.is) in
          subst (λ (t : List ℕ). Put a.out.now 0 t p.new.out p.result) (sym (ap lined_text Q.made)) (p.ensures.put Q.state (rw (c.clauses-1.given.1.1 (sym R.0), c.atoms-1.given.1.1 (sym R.1), c.deferrals-1.given.1.1 (sym R.2)) Q.shows)));
      upper_bound = p.ensures.upper_bound;
    }

pub returns-in-Err : goal.returns-in-Err
returns-in-Err c =
    let a = c.args in
    let m = c.clausify_deck-done in
    let R = m.ensures.references in
    let u = m.new.lent in
    let e = c.in-Err.e in
    let p = c.put_refusal in record {
      put = (λ P.
          let q = staged_no P.limit lent P.known m.new.scratch a.n (words u.clauses.now) (words u.atoms.now) (words u.deferrals.now) (lined u.counters m.result) (m.ensures.did P lent c.requires.1) (refusal_number e.refusal) e.line (ap (lined u.counters) c.in-Err.is) in
          subst (λ (t : List ℕ). Put a.out.now 0 t p.new.out p.result) (sym (ap lined_text q)) p.ensures.put);
      upper_bound = p.ensures.upper_bound;
    }
