use mathlib.Core.Path.{refl}
use native.Mathlib.Omega.{arith}
use Rattle.std.proofs.lemmas.Result.{err_from_is_err_and}
use Rattle.words.specs.Words.{words}
use Rattle.words.specs.Laws.{words_long}
use Rattle.ir.specs.Answer.{Done, Refused, answer}
use Rattle.ir.specs.Refusals.{refusal_number}
use Rattle.hands.specs.HandLaws.{sized_two}
use Rattle.late.specs.LaterLaws.{later_flagged, late_decomposing, late_done, late_refused}
use Rattle.late.proofs.late_passes.Goals as goal

pub reflexive_passes-requires : goal.reflexive_passes-requires
reflexive_passes-requires c =
    let t = c.args.lent.now in
    let C = words t.clauses.now in
    let A = words t.atoms.now in
    let D = words t.deferrals.now in
    let L = c.requires in
    let i = c.reflexive_role_ids-size in
    later_flagged c.args.scratch.now t.counters c.args.n C A D L i.new.scratch i.result i.auto.scratch (i.ensures.flags_held L.env L.map)

pub returns-in_err-reflexive_passes-clause-did : goal.returns-in_err-reflexive_passes-clause-did
returns-in_err-reflexive_passes-clause-did c =
    let p = err_from_is_err_and c.from_residual.result c.from_residual.ensures.1 in
    let t = c.args.lent.now in
    let C = words t.clauses.now in
    let A = words t.atoms.now in
    let D = words t.deferrals.now in
    let i = c.reflexive_role_ids-size in
    let m = c.reflexive_passes in
    let n = m.new.lent in
    let C' = words n.clauses.now in
    let A' = words n.atoms.now in
    let D' = words n.deferrals.now in
    let R = m.ensures.references in
    rw (p.1, p.2) (λ L.
    let F = later_flagged c.args.scratch.now t.counters c.args.n C A D L i.new.scratch i.result i.auto.scratch (i.ensures.flags_held L.env L.map) in
    late_refused c.args.scratch.now t.counters c.args.n C A D L (Refused (refusal_number c.in_err-reflexive_passes.field-0.0)) C' A' D' (c.in_err-reflexive_passes.ensures.did F) _ refl)

pub decomposed-requires : goal.decomposed-requires
decomposed-requires c =
    let t = c.args.lent.now in
    let C = words t.clauses.now in
    let A = words t.atoms.now in
    let D = words t.deferrals.now in
    let i = c.reflexive_role_ids-size in
    let m = c.reflexive_passes in
    let n = m.new.lent in
    let C' = words n.clauses.now in
    let A' = words n.atoms.now in
    let D' = words n.deferrals.now in
    let R = m.ensures.references in
    let L = c.requires in
    let F = later_flagged c.args.scratch.now t.counters c.args.n C A D L i.new.scratch i.result i.auto.scratch (i.ensures.flags_held L.env L.map) in
    (late_decomposing c.args.scratch.now t.counters c.args.n C A D L (Done n.counters 0) C' A' D' (c.in_ok-reflexive_passes.ensures.did F) n.counters 0 refl (words_long t.clauses.now n.clauses.now R.3) (words_long t.atoms.now n.atoms.now R.4) (words_long t.deferrals.now n.deferrals.now R.5), omega (arith, L.space, i.auto.scratch, m.auto.scratch), sized_two n.sized)

pub returns-clause-did : goal.returns-clause-did
returns-clause-did c =
    let t = c.args.lent.now in
    let C = words t.clauses.now in
    let A = words t.atoms.now in
    let D = words t.deferrals.now in
    let i = c.reflexive_role_ids-size in
    let m = c.reflexive_passes in
    let n = m.new.lent in
    let C' = words n.clauses.now in
    let A' = words n.atoms.now in
    let D' = words n.deferrals.now in
    let R = m.ensures.references in
    let q = c.decomposed in
    (λ L.
    let F = later_flagged c.args.scratch.now t.counters c.args.n C A D L i.new.scratch i.result i.auto.scratch (i.ensures.flags_held L.env L.map) in
    let X = late_decomposing c.args.scratch.now t.counters c.args.n C A D L (Done n.counters 0) C' A' D' (c.in_ok-reflexive_passes.ensures.did F) n.counters 0 refl (words_long t.clauses.now n.clauses.now R.3) (words_long t.atoms.now n.atoms.now R.4) (words_long t.deferrals.now n.deferrals.now R.5) in
    late_done c.args.scratch.now t.counters c.args.n C A D L (Done n.counters 0) C' A' D' (c.in_ok-reflexive_passes.ensures.did F) n.counters 0 refl (words_long t.clauses.now n.clauses.now R.3) (words_long t.atoms.now n.atoms.now R.4) (words_long t.deferrals.now n.deferrals.now R.5) (words q.new.clauses) (words q.new.atoms) (answer q.new.k q.result) (q.ensures X))
