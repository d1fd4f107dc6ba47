use Rattle.std.proofs.Common.{arith, ap, sym, ◌∙◌}
use Rattle.std.proofs.lemmas.Result.{err_from_is_err_and}
use Rattle.deck.specs.Records.{known_in}
use Rattle.session.specs.Session.{deck_in, said_of, session_after}
use Rattle.session.specs.FormLaws.{session_word}
use Rattle.session.specs.LiveLaws.{live_of, live_counts}
use Rattle.session.specs.SaidLaws.{after_refused}
use Rattle.session.specs.AppendLaws.{add_is, room_behind}
use Rattle.session.proofs.append.append.Goals as goal

pub check-requires : goal.check-requires
check-requires c =
    let s = c.args.session.now in
    let L = live_of c.live.result c.from.result c.ok_or.ensures.value c.in_ok-st.was c.live.ensures in
    (omega (arith, session_word s c.length.result L.form L.held.small c.length.ensures, L.held.small), live_counts s c.live.new.scratch _ c.in_ok-st.st L)

pub returns-in_err-check-clause-reply : goal.returns-in_err-check-clause-reply
returns-in_err-check-clause-reply c =
    let s = c.args.session.now in
    let L = live_of c.live.result c.from.result c.ok_or.ensures.value c.in_ok-st.was c.live.ensures in
    let n = session_word s c.length.result L.form L.held.small c.length.ensures in
    let p = err_from_is_err_and c.from_residual-in_err-check.result c.from_residual-in_err-check.ensures.1 in
    rw (p.1, p.2) (c.in_err-check.ensures (deck_in s) c.live.new.scratch (sym n) ∙ ap said_of (sym (add_is c.args.text.now L)))

pub returns-in_err-check-clause-session : goal.returns-in_err-check-clause-session
returns-in_err-check-clause-session c =
    let s = c.args.session.now in
    let L = live_of c.live.result c.from.result c.ok_or.ensures.value c.in_ok-st.was c.live.ensures in
    let n = session_word s c.length.result L.form L.held.small c.length.ensures in
    after_refused s _ _ _ (c.in_err-check.ensures (deck_in s) c.live.new.scratch (sym n) ∙ ap said_of (sym (add_is c.args.text.now L)))

pub put_behind-requires : goal.put_behind-requires
put_behind-requires c =
    let s = c.args.session.now in
    let L = live_of c.live.result c.from.result c.ok_or.ensures.value c.in_ok-st.was c.live.ensures in
    let n = session_word s c.length.result L.form L.held.small c.length.ensures in
    (L.form, (room_behind (deck_in s) (known_in (deck_in s) c.live.new.scratch c.in_ok-st.st) c.args.text.now (c.in_ok-check.ensures (deck_in s) c.live.new.scratch (sym n))).0)

pub returns-clause-reply : goal.returns-clause-reply
returns-clause-reply c =
    let s = c.args.session.now in
    let L = live_of c.live.result c.from.result c.ok_or.ensures.value c.in_ok-st.was c.live.ensures in
    let n = session_word s c.length.result L.form L.held.small c.length.ensures in
    c.in_ok-check.ensures (deck_in s) c.live.new.scratch (sym n) ∙ ap said_of (sym (add_is c.args.text.now L))

pub returns-clause-session : goal.returns-clause-session
returns-clause-session c =
    let s = c.args.session.now in
    let L = live_of c.live.result c.from.result c.ok_or.ensures.value c.in_ok-st.was c.live.ensures in
    let n = session_word s c.length.result L.form L.held.small c.length.ensures in
    let r = room_behind (deck_in s) (known_in (deck_in s) c.live.new.scratch c.in_ok-st.st) c.args.text.now (c.in_ok-check.ensures (deck_in s) c.live.new.scratch (sym n)) in
    c.put_behind.ensures ∙ ap (session_after s) (sym (add_is c.args.text.now L ∙ r.1))
