use mathlib.Core.Path.{◌≡◌, refl, sym, ◌∙◌}
use native.Mathlib.Omega.{arith}
use Prim.Native.Nat.{◌+◌, ◌*◌, ◌≤◌}
use lib.ListN.{length}
use Rattle.words.specs.Words.{words}
use Rattle.words.specs.Laws.{length_words}
use Rattle.ir.specs.Scratch.{normal_forms_at, hands_at}
use Rattle.ir.specs.Answer.{Done, Refused, answer}
use Rattle.ir.specs.Refusals.{refusal_number}
use Rattle.std.proofs.lemmas.Result.{err_from_is_err_and}
use Prim.{tt}
use Rattle.pool.specs.Layout.{run}
use Rattle.normalize.specs.Known.{Known}
use Rattle.normalize.specs.KnownLaws.{settled, revisited_told, revisited_held, revisited_known, made_since, keep_told, keep_held, keep_kept, keep_known}
use Rattle.normalize.specs.KeptLaws.{kept_refl}
use Rattle.normalize.proofs.Turns.{Called, turn_first, turn_end, turn_below, turn_call, turn_kept, turn_stop, turn_next}
use Rattle.normalize.proofs.Visits.{Normalized, parted_after, visit_full, begun_known, parts_ready, parts_known, run_call, rebuild_call, visit_answer, visit_kept, visit_known}
use Rattle.normalize.proofs.nnf.+normal_normal_anew_normal_each.Goals as goal

pub normal-returns-in-Some : goal.normal-returns-in-Some
normal-returns-in-Some t c =
    let P = c.requires.0 in
    let w = words c.args.scratch.now in
    let known : Known w c.args.k.now.concepts = rw c.if-not-memo.false at c.requires.1 in
    let S = settled c.args.negated c.args.c c.in-Some.form w c.args.k.now.concepts known (omega (arith, P.held, P.ready.held.few)) (sym c.in-Some.is ∙ c.form_of.ensures) in
    let e = c.revisit.ensures.answered in
    record {
      by_index = λ f l. rw e (revisited_told P.bounds w c.args.k.now P.ready.held P.wf c.args.negated c.args.c c.in-Some.form P.held S f l);
      held_after = rw e (revisited_held P.bounds w c.args.k.now P.ready.held P.wf c.args.negated c.args.c c.in-Some.form P.held S);
      kept = kept_refl c.args.top 0 c.args.top w;
      known_after = rw e (revisited_known c.args.memo c.args.k.now c.in-Some.form w c.requires.1);
    }

pub normal-overflow_sub-visits : goal.normal-overflow_sub-visits
normal-overflow_sub-visits t c =
    let P = c.requires.0 in
    let E = c.in_ok-id.ensures in
    (made_since P.bounds (words c.args.scratch.now) (words c.normal_anew-2.new.scratch) c.args.k.now c.args.negated c.args.c P.wf P.held P.ready.held.few (Done c.normal_anew-2.new.k c.in_ok-id.id) E.by_index E.held_after).0

pub normal-returns : goal.normal-returns
normal-returns t c =
    let P = c.requires.0 in
    let f = P.ready.held.few in
    let w = words c.args.scratch.now in
    let w' = words c.normal_anew-2.new.scratch in
    let r = Done c.normal_anew-2.new.k c.in_ok-id.id in
    let E = c.in_ok-id.ensures in
    let e = c.keep.ensures in
    let top : c.args.top ≤ normal_forms_at = omega (arith, P.room) in
    let long : hands_at ≤ length w' = omega (arith, length_words c.normal_anew-2.new.scratch, c.normal_anew-2.auto.scratch, P.space) in
    record {
      by_index = λ g l. rw e (keep_told P.bounds w w' c.args.k.now c.args.negated c.args.c P.wf P.held f r E.by_index E.held_after c.args.top E.kept top g l);
      held_after = rw e (keep_held P.bounds w w' c.args.k.now c.args.negated c.args.c P.wf P.held f r E.by_index E.held_after c.args.top E.kept top);
      kept = rw e (keep_kept P.bounds w w' c.args.k.now c.args.negated c.args.c P.wf P.held f r E.by_index E.held_after c.args.top E.kept top);
      known_after = rw e (keep_known P.bounds w w' c.args.k.now c.args.negated c.args.c P.wf P.held f c.args.memo r E.by_index E.held_after long E.known_after);
    }

pub normal_anew-returns-in_err-visit-clause-by_index : goal.normal_anew-returns-in_err-visit-clause-by_index
normal_anew-returns-in_err-visit-clause-by_index t c =
    let E = c.in_err-visit.ensures in
    let x = err_from_is_err_and c.from_residual.result c.from_residual.ensures.1 in
    λ f l. rw (x.1, x.2, E.spent) (visit_full c.args.k.now (words c.args.scratch.now) c.args.c c.args.negated (sym E.self_after) f l)

pub normal_anew-part_negated-deeper-requires : goal.normal_anew-part_negated-deeper-requires
normal_anew-part_negated-deeper-requires t c =
    let parted = parted_after (sym c.in_ok-visit.ensures.self_after) c.requires.0 c.put_parts-n.ensures.value c.put_parts-n.auto.scratch c.put_parts-n.ensures.scratch_after in
    (parts_ready parted, parted.asked.held)

pub normal_anew-normal_each-requires : goal.normal_anew-normal_each-requires
normal_anew-normal_each-requires t c =
    let begun = sym c.in_ok-visit.ensures.self_after in
    let parted = parted_after begun c.requires.0 c.put_parts-n.ensures.value c.put_parts-n.auto.scratch c.put_parts-n.ensures.scratch_after in
    let m : c.args.c * 3 + 1 ≡ t = c.decreases in
    let known = begun_known c.args.k.now c.visit.new.self begun (words c.args.scratch.now) c.args.memo c.requires.1 in
    (omega arith, (run_call parted, parts_known parted c.args.memo known))

pub normal_anew-returns-in_err-normal_each : goal.normal_anew-returns-in_err-normal_each
normal_anew-returns-in_err-normal_each t c =
    let begun = sym c.in_ok-visit.ensures.self_after in
    let parted = parted_after begun c.requires.0 c.put_parts-n.ensures.value c.put_parts-n.auto.scratch c.put_parts-n.ensures.scratch_after in
    let E = c.in_err-normal_each.ensures in
    let r = Refused (refusal_number c.in_err-normal_each.field-0.0) in
    let normalized : Normalized c.args.memo c.visit.new.self c.args.top c.args.c c.args.negated c.put_parts-n.result c.put_parts-n.new.scratch c.part_negated-deeper.result c.normal_each.new.scratch r = record {
      turned = c.part_negated-deeper.ensures;
      len = c.normal_each.auto.scratch;
      gave = E.by_index;
      held = E.held_run;
      kept = E.kept;
      known = E.known_after;
    } in
    let x = err_from_is_err_and c.from_residual-in_err-normal_each.result c.from_residual-in_err-normal_each.ensures.1 in
    rw (x.1, x.2) (record {
      by_index = visit_answer parted c.normal_each.new.scratch r normalized refl c.args.k.now begun;
      held_after = tt;
      kept = visit_kept parted normalized c.normal_each.new.scratch refl;
      known_after = tt;
    })

pub normal_anew-rebuild-requires : goal.normal_anew-rebuild-requires
normal_anew-rebuild-requires t c =
    let begun = sym c.in_ok-visit.ensures.self_after in
    let parted = parted_after begun c.requires.0 c.put_parts-n.ensures.value c.put_parts-n.auto.scratch c.put_parts-n.ensures.scratch_after in
    let E = c.in_ok-normal_each.ensures in
    let normalized : Normalized c.args.memo c.visit.new.self c.args.top c.args.c c.args.negated c.put_parts-n.result c.put_parts-n.new.scratch c.part_negated-deeper.result c.normal_each.new.scratch (Done c.normal_each.new.k 0) = record {
      turned = c.part_negated-deeper.ensures;
      len = c.normal_each.auto.scratch;
      gave = E.by_index;
      held = E.held_run;
      kept = E.kept;
      known = E.known_after;
    } in
    rebuild_call parted normalized

pub normal_anew-returns : goal.normal_anew-returns
normal_anew-returns t c =
    let begun = sym c.in_ok-visit.ensures.self_after in
    let parted = parted_after begun c.requires.0 c.put_parts-n.ensures.value c.put_parts-n.auto.scratch c.put_parts-n.ensures.scratch_after in
    let E = c.in_ok-normal_each.ensures in
    let normalized : Normalized c.args.memo c.visit.new.self c.args.top c.args.c c.args.negated c.put_parts-n.result c.put_parts-n.new.scratch c.part_negated-deeper.result c.normal_each.new.scratch (Done c.normal_each.new.k 0) = record {
      turned = c.part_negated-deeper.ensures;
      len = c.normal_each.auto.scratch;
      gave = E.by_index;
      held = E.held_run;
      kept = E.kept;
      known = E.known_after;
    } in
    let r = answer c.rebuild.new.k c.rebuild.result in
    let s = c.rebuild.new.scratch in
    let R = c.rebuild.ensures in
    record {
      by_index = visit_answer parted s r normalized R.interned c.args.k.now begun;
      held_after = R.interned.held;
      kept = visit_kept parted normalized s R.scratch_unchanged;
      known_after = visit_known parted normalized s r R.interned R.scratch_unchanged;
    }

pub normal_each-loop-i-init : goal.normal_each-loop-i-init
normal_each-loop-i-init t c =
    turn_first c.requires.0 c.args.negated c.args.memo c.requires.1

pub normal_each-normal-requires : goal.normal_each-normal-requires
normal_each-normal-requires t c =
    let P = c.requires.0 in
    let T = c.loop-i.invariant in
    let m : c.args.c * 3 ≡ t = c.decreases in
    let d = turn_below P T c.loop-i-test.true c.get_word-d.ensures in
    (omega arith, (turn_call P T c.loop-i-test.true c.get_word-d.ensures, T.known))

pub normal_each-returns-in_err-e : goal.normal_each-returns-in_err-e
normal_each-returns-in_err-e t c =
    let P = c.requires.0 in
    let T = c.loop-i.invariant in
    let E = c.in_err-e.ensures in
    let e = refusal_number c.in_err-e.field-0.0 in
    let called : Called c.loop-i.scratch c.loop-i.k c.args.top c.args.negated c.args.memo c.get_word-d.result c.normal.new.scratch (Refused e) = record {
      len = c.normal.auto.scratch;
      gave = E.by_index;
      held = E.held_after;
      kept = E.kept;
      known = E.known_after;
    } in
    let x = err_from_is_err_and c.from_residual.result c.from_residual.ensures.1 in
    rw (x.1, x.2) (record {
      by_index = turn_stop P T c.loop-i-test.true c.get_word-d.ensures called e refl (run (words c.normal.new.scratch) c.args.at c.args.n);
      held_run = tt;
      kept = turn_kept P T c.loop-i-test.true c.get_word-d.ensures called;
      known_after = tt;
    })

pub normal_each-loop-i-preserved : goal.normal_each-loop-i-preserved
normal_each-loop-i-preserved t c =
    let P = c.requires.0 in
    let T = c.loop-i.invariant in
    let called : Called c.loop-i.scratch c.loop-i.k c.args.top c.args.negated c.args.memo c.get_word-d.result c.normal.new.scratch (Done c.normal.new.k c.in_ok-e.e) = record {
      len = c.normal.auto.scratch;
      gave = c.in_ok-e.ensures.by_index;
      held = c.in_ok-e.ensures.held_after;
      kept = c.in_ok-e.ensures.kept;
      known = c.in_ok-e.ensures.known_after;
    } in
    turn_next P T c.loop-i-test.true c.get_word-d.ensures called refl c.put_word.new.s c.put_word.auto.s c.put_word.ensures

pub normal_each-returns-clause-by_index : goal.normal_each-returns-clause-by_index
normal_each-returns-clause-by_index t c =
    turn_end c.requires.0 c.loop-i.invariant c.loop-i-test.false
