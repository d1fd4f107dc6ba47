use Rattle.std.proofs.Common.{arith, sym, ◌∙◌}
use Rattle.session.specs.LiveLaws.{live_short, live_unstored, live_read}
use Rattle.session.proofs.form.live.Goals as goal
use Rattle.session.proofs.form.live.Goals.{then-scratch-lt-SCRATCH-via-then-scratch-lt-SCRATCH, then-scratch-lt-SCRATCH-via-else-scratch-lt-SCRATCH+then-not-is_stored}

pub returns-then-scratch-lt-SCRATCH : goal.returns-then-scratch-lt-SCRATCH
returns-then-scratch-lt-SCRATCH c =
    elim c.then-scratch-lt-SCRATCH.branch [
      | then-scratch-lt-SCRATCH-via-then-scratch-lt-SCRATCH w ↦ live_short c.args.session.now _ w.if-scratch-lt-SCRATCH.true
      | then-scratch-lt-SCRATCH-via-else-scratch-lt-SCRATCH+then-not-is_stored w ↦ live_unstored c.args.session.now _ (sym w.is_stored.ensures ∙ w.if-not-is_stored.true)
    ]

pub returns : goal.returns
returns c =
    let q = c.read in
    rw c.ok.ensures.value
    (live_read c.args.session.now q.new.t c.deck.result.now _ q.result (omega arith) (sym c.is_stored.ensures ∙ c.if-not-is_stored.false) c.deck.ensures q.ensures.result_after q.ensures.kept)
