use mathlib.Core.Path.{sym, ap, subst}
use mathlib.Core.List.{List}
use Prim.Native.Nat.{ℕ}
use native.Mathlib.Omega.{arith}
use Rattle.words.specs.Words.{words}
use Rattle.ir.specs.Refusals.{refusal_number}
use Rattle.rules.specs.Deck.{read_deck}
use Rattle.ontology.specs.Loads.{loaded_of}
use Rattle.normalize.specs.Loaded.{as_fine, as_refused}
use Rattle.rows.specs.Rows.{Put}
use Rattle.staging.specs.StageLaws.{fine_preparing}
use Rattle.clauses.specs.Stage.{stage_text, most_visits}
use Rattle.clauses.proofs.stage.put_stage.Goals as goal

pub put_clausified-requires : goal.put_clausified-requires
put_clausified-requires c =
    let deck = c.args.deck.now in
    let l = c.load in
    let s' = l.new.scratch in
    let F = as_fine most_visits (read_deck deck) (words s') (loaded_of l.result) l.ensures c.in-Ok.k c.in-Ok.n (ap loaded_of c.in-Ok.is) in
    (fine_preparing most_visits deck s' c.in-Ok.k c.in-Ok.n (omega arith) F (omega (arith, c.requires.0, l.auto.scratch)), c.requires.1, omega (arith, c.requires.2))

pub returns-in-Ok : goal.returns-in-Ok
returns-in-Ok c =
    let deck = c.args.deck.now in
    let l = c.load in
    let s' = l.new.scratch in
    let F = as_fine most_visits (read_deck deck) (words s') (loaded_of l.result) l.ensures c.in-Ok.k c.in-Ok.n (ap loaded_of c.in-Ok.is) in
    let p = c.put_clausified in
    let P = fine_preparing most_visits deck s' c.in-Ok.k c.in-Ok.n (omega arith) F (omega (arith, c.requires.0, l.auto.scratch)) in
    record {
      put = subst (λ (t : List ℕ). Put c.args.out.now 0 t p.new.out p.result) (sym (ap stage_text F.told)) (p.ensures.put P);
      upper_bound = p.ensures.upper_bound;
    }

pub returns-in-Err : goal.returns-in-Err
returns-in-Err c =
    let deck = c.args.deck.now in
    let l = c.load in
    let p = c.put_refusal in
    let e = as_refused most_visits (read_deck deck) (words l.new.scratch) (loaded_of l.result) l.ensures (refusal_number c.in-Err.e.refusal) c.in-Err.e.line (ap loaded_of c.in-Err.is) in
    record {
      put = subst (λ (t : List ℕ). Put c.args.out.now 0 t p.new.out p.result) (ap stage_text (sym e)) p.ensures.put;
      upper_bound = p.ensures.upper_bound;
    }
