use mathlib.Core.Path.{ap, subst}
use mathlib.Core.List.{List}
use Prim.Native.Nat.{ℕ}
use native.Mathlib.Omega.{arith}
use Rattle.rows.specs.Rows.{Put}
use Rattle.ir.specs.Refusals.{refusal_number}
use Rattle.clausify.specs.Reply.{told_reply}
use Rattle.clausify.specs.Entry.{lent}
use Rattle.lister.specs.ReplyLaws.{accepted_listed, refused_text}
use Rattle.lister.proofs.lines.put_listing.Goals as goal

pub put_accepted-requires : goal.put_accepted-requires
put_accepted-requires c =
    let m = c.clausify_with_stats in
    let a = c.args in
    let t = lent a.clauses.now a.atoms.now a.deferrals.now a.scratch.now in
    let L = accepted_listed a.deck.now t c.requires.0 (told_reply m.result) m.ensures.reply m.new.clauses m.new.atoms m.ensures.clauses m.ensures.atoms c.in-Ok.n.stats c.in-Ok.n.fresh_ids c.in-Ok.n.visits (ap told_reply c.in-Ok.is) in
    (L.rows, omega (arith, c.requires.1))

pub returns-in-Ok : goal.returns-in-Ok
returns-in-Ok c =
    let m = c.clausify_with_stats in
    let a = c.args in
    let t = lent a.clauses.now a.atoms.now a.deferrals.now a.scratch.now in
    let L = accepted_listed a.deck.now t c.requires.0 (told_reply m.result) m.ensures.reply m.new.clauses m.new.atoms m.ensures.clauses m.ensures.atoms c.in-Ok.n.stats c.in-Ok.n.fresh_ids c.in-Ok.n.visits (ap told_reply c.in-Ok.is) in
    let p = c.put_accepted in
    subst (λ (x : List ℕ). Put a.out.now 0 x p.new.out p.result) L.text (p.ensures L.rows.list L.rows.tabled)

pub returns-in-Err : goal.returns-in-Err
returns-in-Err c =
    let m = c.clausify_with_stats in
    let a = c.args in
    let t = lent a.clauses.now a.atoms.now a.deferrals.now a.scratch.now in
    let p = c.put_line in
    subst (λ (x : List ℕ). Put a.out.now 0 x p.new.out p.result) (refused_text a.deck.now t c.requires.0 (told_reply m.result) m.ensures.reply (refusal_number c.in-Err.e.refusal) c.in-Err.e.line (ap told_reply c.in-Err.is)) (rw c.number.ensures at p.ensures)
