use mathlib.Core.Path.{◌∙◌, ap}
use Prim.Native.Nat.{ℕ}
use native.Mathlib.Omega.{arith}
use lib.ListN.{replicate}
use Rattle.words.specs.Words.{words}
use Rattle.rules.specs.Deck.{read_deck}
use Rattle.rules.specs.Run.{rooms_of, run_read, visit_limit}
use Rattle.std.specs.Prelude.{Ok}
use Rattle.clausify.specs.Reply.{told_reply}
use Rattle.clausify.specs.Entry.{lent}
use Rattle.clausify.specs.TableLaws.{sizes_whole, cleared_blank}
use Rattle.clausify.specs.AnswerLaws.{ran_kept, answered_kept, answered_stopped}
use Rattle.clausify.proofs.answer.settled.Goals as goal

pub run-requires : goal.run-requires
run-requires c =
    let a = c.args in
    let t = lent a.clauses.now a.atoms.now a.deferrals.now a.scratch.now in
    let W = sizes_whole t c.requires.0 in
    (omega arith, W.scratch, (rooms_of t, cleared_blank (rooms_of t) a.clauses.now a.atoms.now a.deferrals.now W.clauses W.atoms W.deferrals c.requires.1), W.sized)

pub accepted-requires : goal.accepted-requires
accepted-requires c =
    let a = c.args in
    let t = lent a.clauses.now a.atoms.now a.deferrals.now a.scratch.now in
    let W = sizes_whole t c.requires.0 in
    let q = c.run in
    let c' = q.new.clauses in
    let a' = q.new.atoms in
    let d' = q.new.deferrals in
    let h = q.ensures (rooms_of t) (cleared_blank (rooms_of t) a.clauses.now a.atoms.now a.deferrals.now W.clauses W.atoms W.deferrals c.requires.1) in
    let K = ran_kept (rooms_of t) (words c') (words a') (words d') (run_read visit_limit (rooms_of t) (read_deck a.deck.now)) q.result c.in-Ok.r h c.in-Ok.is in
    (record { rooms = rooms_of t; run = K.run; deferrals = words d'; left = K.left }, record { clauses = omega (arith, W.sized.clauses, q.auto.clauses); atoms = omega (arith, W.sized.atoms, q.auto.atoms); deferrals = omega arith })

pub returns-in-Ok : goal.returns-in-Ok
returns-in-Ok c =
    let a = c.args in
    let t = lent a.clauses.now a.atoms.now a.deferrals.now a.scratch.now in
    let W = sizes_whole t c.requires.0 in
    let q = c.run in
    let c' = q.new.clauses in
    let a' = q.new.atoms in
    let d' = q.new.deferrals in
    let h = q.ensures (rooms_of t) (cleared_blank (rooms_of t) a.clauses.now a.atoms.now a.deferrals.now W.clauses W.atoms W.deferrals c.requires.1) in
    answered_kept a.deck.now t c.requires.0 q.result c.in-Ok.r c' a' d' (told_reply (Ok c.accepted.result)) h c.in-Ok.is
    q.auto.clauses q.auto.atoms q.auto.deferrals (λ i. (c.slice_known-6-1.given i).fits) (λ i. (c.slice_known-7-1.given i).fits) (λ i. (c.slice_known-8-1.given i).fits) c.accepted.ensures

pub returns-in-Err : goal.returns-in-Err
returns-in-Err c =
    let a = c.args in
    let t = lent a.clauses.now a.atoms.now a.deferrals.now a.scratch.now in
    let W = sizes_whole t c.requires.0 in
    let q = c.run in
    let c' = q.new.clauses in
    let a' = q.new.atoms in
    let d' = q.new.deferrals in
    let h = q.ensures (rooms_of t) (cleared_blank (rooms_of t) a.clauses.now a.atoms.now a.deferrals.now W.clauses W.atoms W.deferrals c.requires.1) in
    let b = c.blank in
    answered_stopped a.deck.now t c.requires.0 q.result c.in-Err.e c' a' d' b.new.clauses b.new.atoms b.new.deferrals h c.in-Err.is
    (b.ensures.clauses_after ∙ ap (λ (n : ℕ). replicate n 0) q.auto.clauses)
    (b.ensures.atoms_after ∙ ap (λ (n : ℕ). replicate n 0) q.auto.atoms)
    (b.ensures.deferrals_after ∙ ap (λ (n : ℕ). replicate n 0) q.auto.deferrals)
