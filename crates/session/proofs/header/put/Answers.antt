use Rattle.std.specs.Result.{is_ok}
use Rattle.std.proofs.Common.{rules, ℕ, refl, sym, ap, ◌∙◌, arith}
use Rattle.std.proofs.lemmas.Result.{err_from_is_err_and}
use Rattle.deck.proofs.LineLaws.{refusal_some, good_number, bad_number}
use Rattle.session.specs.Session.{said_of, session_after}
use Rattle.session.specs.Session as Session
use Rattle.session.specs.LiveLaws.{live_of}
use Rattle.session.specs.OptionedLaws.{written, in_deck, row_fits, put_refused, put_done, put_room, put_after}
use Rattle.session.proofs.header.put.Goals as goal

pub overflow_cast-numbers : goal.overflow_cast-numbers
overflow_cast-numbers c =
    let L = live_of c.live.result c.from.result c.ok_or.ensures.value c.in_ok-st.was c.live.ensures in
    let D = in_deck L in
    omega (arith, D.classes)

pub overflow_cast-numbers-2 : goal.overflow_cast-numbers-2
overflow_cast-numbers-2 c =
    let L = live_of c.live.result c.from.result c.ok_or.ensures.value c.in_ok-st.was c.live.ensures in
    let D = in_deck L in
    omega (arith, D.individuals)

pub overflow_cast-numbers-3 : goal.overflow_cast-numbers-3
overflow_cast-numbers-3 c =
    let L = live_of c.live.result c.from.result c.ok_or.ensures.value c.in_ok-st.was c.live.ensures in
    let D = in_deck L in
    omega (arith, D.roles)

pub returns-in_err-map_err-clause-reply : goal.returns-in_err-map_err-clause-reply
returns-in_err-map_err-clause-reply c =
    let k = c.in_ok-st.st in
    let e = c.in_err-map_err.field-0.0 in
    let L = live_of c.live.result c.from.result c.ok_or.ensures.value c.in_ok-st.was c.live.ensures in
    let w = c.verdict.ensures k.classes k.individuals k.roles c.args.options (row_fits L c.args.options (omega (arith, c.ranges.options.fits))) (written _ _ _ refl refl c.put_line.ensures.bytes) in
    let p = err_from_is_err_and c.from_residual-in_err-map_err.result c.from_residual-in_err-map_err.ensures.1 in
    let b = bad_number c.verdict.result c.map_err.result 1 _ (λ r d k. search rules) c.map_err.ensures.variant c.map_err.ensures.cases e c.in_err-map_err.was in
    rw (p.1, p.2, b.1) (ap (λ (i : ℕ). Session.Refused i 1) (b.0 ∙ w) ∙ ap said_of (put_refused L c.args.options (λ z. refusal_some e.refusal (b.0 ∙ w ∙ z))))

pub returns-in_err-map_err-clause-session : goal.returns-in_err-map_err-clause-session
returns-in_err-map_err-clause-session c =
    let k = c.in_ok-st.st in
    let e = c.in_err-map_err.field-0.0 in
    let L = live_of c.live.result c.from.result c.ok_or.ensures.value c.in_ok-st.was c.live.ensures in
    let w = c.verdict.ensures k.classes k.individuals k.roles c.args.options (row_fits L c.args.options (omega (arith, c.ranges.options.fits))) (written _ _ _ refl refl c.put_line.ensures.bytes) in
    let b = bad_number c.verdict.result c.map_err.result 1 _ (λ r d k. search rules) c.map_err.ensures.variant c.map_err.ensures.cases e c.in_err-map_err.was in
    ap (session_after c.args.session.now) (put_refused L c.args.options (λ z. refusal_some e.refusal (b.0 ∙ w ∙ z)))

pub put_header-requires : goal.put_header-requires
put_header-requires c =
    let L = live_of c.live.result c.from.result c.ok_or.ensures.value c.in_ok-st.was c.live.ensures in
    (L.form, put_room L c.args.options _ (written _ _ _ refl refl c.put_line.ensures.bytes))

pub returns-clause-reply : goal.returns-clause-reply
returns-clause-reply c =
    let k = c.in_ok-st.st in
    let L = live_of c.live.result c.from.result c.ok_or.ensures.value c.in_ok-st.was c.live.ensures in
    let w = c.verdict.ensures k.classes k.individuals k.roles c.args.options (row_fits L c.args.options (omega (arith, c.ranges.options.fits))) (written _ _ _ refl refl c.put_line.ensures.bytes) in
    let g = good_number c.verdict.result (sym c.map_err.ensures.variant ∙ ap is_ok c.in_ok-map_err.was) in
    ap said_of (put_done L c.args.options (sym w ∙ g))

pub returns-clause-session : goal.returns-clause-session
returns-clause-session c =
    let k = c.in_ok-st.st in
    let L = live_of c.live.result c.from.result c.ok_or.ensures.value c.in_ok-st.was c.live.ensures in
    let q = written _ _ _ refl refl c.put_line.ensures.bytes in
    let w = c.verdict.ensures k.classes k.individuals k.roles c.args.options (row_fits L c.args.options (omega (arith, c.ranges.options.fits))) q in
    let g = good_number c.verdict.result (sym c.map_err.ensures.variant ∙ ap is_ok c.in_ok-map_err.was) in
    c.put_header.ensures ∙ put_after L c.args.options c.put_line.new.out q (sym w ∙ g)
