use Rattle.std.proofs.lemmas.Result.{err_from_is_err_and}
use Rattle.ir.specs.Refusals.{refusal_number}
use Rattle.ontology.specs.Loads.{stopped}
use Rattle.ontology.proofs.AnswerLaws.{back_room, back_answered, accepted_is, refused_is}
use Rattle.ontology.proofs.load.load.Goals as goal

pub load_lines-requires : goal.load_lines-requires
load_lines-requires c =
    let r = c.read in
    let s = c.args.scratch.now in
    let d = c.args.deck.now in
    (back_room s r.new.t c.requires r.auto.t, accepted_is d _ r.result (back_answered s r.new.t c.requires r.auto.t d r.result r.ensures.result_after r.ensures.kept) c.in_ok-st.st c.in_ok-st.was)

pub returns-in_err-st : goal.returns-in_err-st
returns-in_err-st c =
    let r = c.read in
    let s = c.args.scratch.now in
    let d = c.args.deck.now in
    let p = err_from_is_err_and c.from_residual.result c.from_residual.ensures.1 in
    rw (p.1, p.2) (stopped (refusal_number c.in_err-st.field-0.0.refusal) c.in_err-st.field-0.0.line (refused_is d _ r.result (back_answered s r.new.t c.requires r.auto.t d r.result r.ensures.result_after r.ensures.kept) c.in_err-st.field-0.0 c.in_err-st.was))
