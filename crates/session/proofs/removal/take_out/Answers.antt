use Rattle.std.proofs.Common.{◌≡◌, refl, sym, subst, ap, ◌∙◌, ℕ, ◌≤◌, ◌<◌, ◌-◌, length}
use Rattle.session.specs.Session.{deck_in, without, call_strike, session_after, refused, done}
use Rattle.session.specs.Told.{Live, LiveAs}
use Rattle.session.specs.RemovalLaws.{strike_low, strike_high, strike_done, struck_there, live_size}
use Rattle.session.proofs.removal.take_out.Goals as goal
use Rattle.session.proofs.removal.take_out.Goals.{In_ok-st, After-remove_line, then-line-axiom_line-via-then-line-axiom_line, then-line-axiom_line-via-else-line-axiom_line+then-axiom_line-line}

told : (c : In_ok-st) → Live c.args.session.now c.live.new.scratch (length c.args.scratch.now) c.in_ok-st.st
told c = subst (LiveAs c.args.session.now c.live.new.scratch (length c.args.scratch.now)) c.in_ok-st.ensures.ok_part c.live.ensures

-- no axiom stands on that line
pub returns-then-line-axiom_line-clause-reply : goal.returns-then-line-axiom_line-clause-reply
returns-then-line-axiom_line-clause-reply c =
    let s = c.args.session.now in
    let t = c.live.new.scratch in
    let n = length c.args.scratch.now in
    let k = c.in_ok-st.st in
    let L = told (goal.at.returns-then-line-axiom_line-clause-reply c).In_ok-st in
    let none : call_strike s c.args.line n ≡ refused 15 0
    = elim c.then-line-axiom_line.branch [
      | then-line-axiom_line-via-then-line-axiom_line w ↦ strike_low s t n k c.args.line L (subst (λ (z : ℕ). c.args.line < z) (c.axiom_line.ensures (deck_in s) t) w.if-line-axiom_line.true)
      | then-line-axiom_line-via-else-line-axiom_line+then-axiom_line-line w ↦ strike_high s t n k c.args.line L (subst (λ (z : ℕ). z ≤ c.args.line) (w.axiom_line-else-line-axiom_line.ensures (deck_in s) t) w.if-axiom_line-line.true)
    ] in
    rw (c.from-then-line-axiom_line.ensures, none) refl

pub returns-then-line-axiom_line-clause-session : goal.returns-then-line-axiom_line-clause-session
returns-then-line-axiom_line-clause-session c =
    let s = c.args.session.now in
    let t = c.live.new.scratch in
    let n = length c.args.scratch.now in
    let k = c.in_ok-st.st in
    let L = told (goal.at.returns-then-line-axiom_line-clause-session c).In_ok-st in
    let none : call_strike s c.args.line n ≡ refused 15 0
    = elim c.then-line-axiom_line.branch [
      | then-line-axiom_line-via-then-line-axiom_line w ↦ strike_low s t n k c.args.line L (subst (λ (z : ℕ). c.args.line < z) (c.axiom_line.ensures (deck_in s) t) w.if-line-axiom_line.true)
      | then-line-axiom_line-via-else-line-axiom_line+then-axiom_line-line w ↦ strike_high s t n k c.args.line L (subst (λ (z : ℕ). z ≤ c.args.line) (w.axiom_line-else-line-axiom_line.ensures (deck_in s) t) w.if-axiom_line-line.true)
    ] in
    rw none refl

pub remove_line-requires : goal.remove_line-requires
remove_line-requires c =
    let L = told (goal.at.remove_line-requires c).In_ok-st in
    let s = c.args.session.now in
    let t = c.live.new.scratch in
    let n = length c.args.scratch.now in
    let k = c.in_ok-st.st in
    (live_size s t n k c.args.line L, L.form, struck_there s t n k c.args.line L (subst (λ (z : ℕ). c.args.line < z) (c.axiom_line-else-line-axiom_line.ensures (deck_in s) t) c.if-axiom_line-line.false))

did : (c : After-remove_line) → Live c.args.session.now c.live.new.scratch (length c.args.scratch.now) c.in_ok-st.st → call_strike c.args.session.now c.args.line (length c.args.scratch.now) ≡ done (without (c.args.line - 1) (deck_in c.args.session.now))
did c L =
    let s = c.args.session.now in
    let t = c.live.new.scratch in
    strike_done s t (length c.args.scratch.now) c.in_ok-st.st c.args.line L (subst (λ (z : ℕ). z ≤ c.args.line) (c.axiom_line.ensures (deck_in s) t) c.if-line-axiom_line.false)
    (subst (λ (z : ℕ). c.args.line < z) (c.axiom_line-else-line-axiom_line.ensures (deck_in s) t) c.if-axiom_line-line.false)

pub returns-clause-reply : goal.returns-clause-reply
returns-clause-reply c = let a = goal.at.returns-clause-reply c in rw (did a.After-remove_line (told a.In_ok-st)) refl

pub returns-clause-session : goal.returns-clause-session
returns-clause-session c = let a = goal.at.returns-clause-session c in c.remove_line.ensures ∙ sym (ap (session_after c.args.session.now) (did a.After-remove_line (told a.In_ok-st)))
