use mathlib.Core.Path.{sym, ap, subst}
use mathlib.Core.List.{List}
use Prim.Native.Nat.{ℕ}
use native.Mathlib.Omega.{arith}
use Rattle.words.specs.Words.{words}
use Rattle.ir.specs.Refusals.{refusal_number}
use Rattle.rules.specs.Deck.{read_deck}
use Rattle.ontology.specs.Loads.{loaded_of}
use Rattle.rows.specs.Rows.{Put}
use Rattle.normalforms.specs.Forms.{forms_text, most_visits}
use Rattle.normalize.specs.Loaded.{as_fine, as_refused}
use Rattle.normalforms.proofs.FormLaws.{fine_ready, fine_line, fine_text}
use Rattle.normalforms.proofs.forms.put_forms.Goals as goal

pub load-requires : goal.load-requires
load-requires c = c.requires.0

pub put_normalized-requires : goal.put_normalized-requires
put_normalized-requires c =
    let deck = c.args.deck.now in
    let l = c.load in
    let s' = l.new.scratch in
    let F = as_fine most_visits (read_deck deck) (words s') (loaded_of l.result) l.ensures c.in-Ok.k c.in-Ok.n (ap loaded_of c.in-Ok.is) in
    (fine_ready deck s' c.in-Ok.k c.in-Ok.n F (omega (arith, c.requires.0, l.auto.scratch)), fine_line deck s' c.in-Ok.k c.in-Ok.n F, omega (arith, c.requires.1))

pub returns-in-Ok : goal.returns-in-Ok
returns-in-Ok c =
    let deck = c.args.deck.now in
    let l = c.load in
    let s' = l.new.scratch in
    let F = as_fine most_visits (read_deck deck) (words s') (loaded_of l.result) l.ensures c.in-Ok.k c.in-Ok.n (ap loaded_of c.in-Ok.is) in
    let p = c.put_normalized in
    record {
      put = subst (λ (t : List ℕ). Put c.args.out.now 0 t p.new.out p.result) (fine_text deck s' c.in-Ok.k c.in-Ok.n F) p.ensures.put;
      upper_bound = p.ensures.upper_bound;
    }

pub returns-in-Err : goal.returns-in-Err
returns-in-Err c =
    let deck = c.args.deck.now in
    let l = c.load in
    let p = c.put_refusal in
    let e = as_refused most_visits (read_deck deck) (words l.new.scratch) (loaded_of l.result) l.ensures (refusal_number c.in-Err.e.refusal) c.in-Err.e.line (ap loaded_of c.in-Err.is) in
    record {
      put = subst (λ (t : List ℕ). Put c.args.out.now 0 t p.new.out p.result) (ap forms_text (sym e)) p.ensures.put;
      upper_bound = p.ensures.upper_bound;
    }
