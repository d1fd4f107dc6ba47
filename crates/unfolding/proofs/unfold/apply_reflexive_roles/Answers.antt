use mathlib.Core.Path.{refl, sym, ap, ◌∙◌}
use Prim.Native.Nat.{◌+◌, ◌-◌, ◌≤◌}
use native.Mathlib.Omega.{arith}
use Rattle.std.specs.Prelude.{Ok, Option, ℕ}
use Rattle.std.proofs.lemmas.Result.{err_from_is_err_and}
use Rattle.words.specs.Words.{words}
use Rattle.words.specs.Laws.{length_words}
use Rattle.hands.specs.Hands.{four_of}
use Rattle.unfolding.specs.Unfolding.{unfolded}
use Rattle.unfolding.specs.Passing.{Poised}
use Rattle.tables.specs.ClauseLaws.{tabled_long}
use Rattle.unfolding.specs.PopLaws.{turn_first, turn_long, poise_derived, poise_first}
use Rattle.unfolding.specs.UnrollLaws.{same_sizes, unroll_first}
use Rattle.unfolding.specs.PassLaws.{pass_end, pass_standing, pass_body, pass_turn, pass_next, pass_refused, pass_capped}
use Rattle.unfolding.proofs.unfold.apply_reflexive_roles.Goals as goal
use Rattle.unfolding.proofs.unfold.apply_reflexive_roles.Goals.{then-queued-gt0, else-queued-gt0, After-body_count-i-end}

-- the clause that was taken off the queue
poised : (c : After-body_count-i-end) → Poised c.args.lent.now.counters.clauses c.unfolding.left c.unfolding.queued c.args.lent.now.counters (four_of (words c.args.scratch.now) c.args.lent.now) c.unfolding.lent.counters c.if-queued-gt0.left c.if-queued-gt0.queued c.if-queued-gt0.c (four_of (words c.unfolding.scratch) c.unfolding.lent)
poised c =
    let o = c.unfolding in
    let j = c.if-queued-gt0 in
    elim j.branch [
      | then-queued-gt0 w ↦ poise_derived c.args.lent.now.counters.clauses o.left o.queued c.args.lent.now.counters (four_of (words c.args.scratch.now) c.args.lent.now) o.lent.counters (four_of (words c.unfolding.scratch) c.unfolding.lent) o.invariant.0 j.left j.queued j.c c.requires.1 w.if-queued-gt0.true w.left-is w.queued-is (0 + (o.queued - 1)) (omega arith) (w.c-is ∙ w.get_word-c.ensures)
      | else-queued-gt0 w ↦ poise_first c.args.lent.now.counters.clauses o.left o.queued c.args.lent.now.counters (four_of (words c.args.scratch.now) c.args.lent.now) o.lent.counters (four_of (words c.unfolding.scratch) c.unfolding.lent) o.invariant.0 j.left j.queued j.c w.if-queued-gt0.false c.unfolding-test.true w.left-is w.queued-is (w.c-is ∙ sym w.left-is)
    ]

pub unfolding-init : goal.unfolding-init
unfolding-init c =
    (turn_first c.args.lent.now.counters.clauses c.args.lent.now.counters (four_of (words c.args.scratch.now) c.args.lent.now) refl c.requires.2, (refl, refl, refl, refl, refl, refl))

pub overflow_add-left : goal.overflow_add-left
overflow_add-left c =
    let t = c.args.lent.now in
    let T = c.unfolding.invariant.0 in
    let few : t.counters.clauses ≤ 65536 = omega (arith, (tabled_long (words t.clauses.now) (words t.atoms.now) t.counters.clauses c.requires.0.list c.requires.0.tabled).0, length_words t.clauses.now, t.sized.clauses) in
    omega (arith, few, T.low, T.counted.cap, T.counted.within)

pub get_word-c-requires : goal.get_word-c-requires
get_word-c-requires c =
    let o = c.unfolding in
    omega (arith, o.invariant.0.counted.cap, o.invariant.0.counted.within, c.if-queued-gt0.true, o.auto.scratch, c.requires.3)

pub body_count-i-end-requires : goal.body_count-i-end-requires
body_count-i-end-requires c =
    let o = c.unfolding in
    let j = c.if-queued-gt0 in
    let Z : Poised c.args.lent.now.counters.clauses c.unfolding.left c.unfolding.queued c.args.lent.now.counters (four_of (words c.args.scratch.now) c.args.lent.now) c.unfolding.lent.counters c.if-queued-gt0.left c.if-queued-gt0.queued c.if-queued-gt0.c (four_of (words c.unfolding.scratch) c.unfolding.lent) = elim j.branch [
      | then-queued-gt0 w ↦ poise_derived c.args.lent.now.counters.clauses o.left o.queued c.args.lent.now.counters (four_of (words c.args.scratch.now) c.args.lent.now) o.lent.counters (four_of (words c.unfolding.scratch) c.unfolding.lent) o.invariant.0 j.left j.queued j.c c.requires.1 w.if-queued-gt0.true w.left-is w.queued-is (0 + (o.queued - 1)) (omega arith) (w.c-is ∙ w.get_word-c.ensures)
      | else-queued-gt0 w ↦ poise_first c.args.lent.now.counters.clauses o.left o.queued c.args.lent.now.counters (four_of (words c.args.scratch.now) c.args.lent.now) o.lent.counters (four_of (words c.unfolding.scratch) c.unfolding.lent) o.invariant.0 j.left j.queued j.c w.if-queued-gt0.false c.unfolding-test.true w.left-is w.queued-is (w.c-is ∙ sym w.left-is)
    ] in
    omega (arith, turn_long c.args.lent.now.counters.clauses o.left o.queued c.args.lent.now.counters (four_of (words c.args.scratch.now) c.args.lent.now) o.lent.counters (four_of (words c.unfolding.scratch) c.unfolding.lent) o.invariant.0 j.left j.queued j.c c.requires.1, Z.there, length_words o.lent.clauses.now)

pub loop-i-init : goal.loop-i-init
loop-i-init c =
    let o = c.unfolding in
    let j = c.if-queued-gt0 in
    let Z = poised (goal.at.loop-i-init c).After-body_count-i-end in
    (unroll_first c.args.lent.now.counters.clauses j.left j.c o.lent.counters j.queued (four_of (words c.unfolding.scratch) c.unfolding.lent) o.invariant.0.good Z.counted, (refl, refl, refl, refl, refl, refl))

pub unfolding-smaller : goal.unfolding-smaller
unfolding-smaller c =
    let Z = poised (goal.at.unfolding-smaller c).After-body_count-i-end in
    let U = c.loop-i.invariant.0 in
    omega (arith, Z.fewer, U.falls, U.counted.cap, c.unfolding.invariant.0.counted.cap)

pub unfolding-preserved : goal.unfolding-preserved
unfolding-preserved c =
    let t = c.args.lent.now in
    let o = c.unfolding in
    let j = c.if-queued-gt0 in
    let b = c.loop-i in
    let g = c.body_count-i-end in
    let So = o.invariant.1 in
    let Sb = b.invariant.1 in
    let e = same_sizes c.args.scratch.now t.clauses.now t.atoms.now t.deferrals.now o.scratch o.lent.clauses.now o.lent.atoms.now o.lent.deferrals.now So.3 So.4 So.5 in
    let Z = poised (goal.at.unfolding-preserved c).After-body_count-i-end in
    (pass_turn t.counters (four_of (words c.args.scratch.now) c.args.lent.now) c.requires.0 c.requires.1 t.counters.clauses o.left o.lent.counters o.queued (four_of (words c.unfolding.scratch) c.unfolding.lent) o.invariant.0 e j.left j.queued j.c Z b.lent.counters b.queued b.i (four_of (words b.scratch) b.lent) b.invariant.0 g.result g.ensures c.loop-i-test.false, (Sb.0 ∙ So.0, Sb.1 ∙ So.1, Sb.2 ∙ So.2, Sb.3 ∙ So.3, Sb.4 ∙ So.4, Sb.5 ∙ So.5))

pub unfold_at-requires : goal.unfold_at-requires
unfold_at-requires c =
    let t = c.args.lent.now in
    let o = c.unfolding in
    let j = c.if-queued-gt0 in
    let b = c.loop-i in
    let g = c.body_count-i-end in
    let So = o.invariant.1 in
    let Sb = b.invariant.1 in
    let e = same_sizes c.args.scratch.now t.clauses.now t.atoms.now t.deferrals.now o.scratch o.lent.clauses.now o.lent.atoms.now o.lent.deferrals.now So.3 So.4 So.5 in
    let Z = poised (goal.at.unfold_at-requires c).After-body_count-i-end in
    (pass_standing t.counters (four_of (words c.args.scratch.now) c.args.lent.now) c.requires.0 c.requires.1 t.counters.clauses o.left o.lent.counters o.queued (four_of (words c.unfolding.scratch) c.unfolding.lent) o.invariant.0 e j.left j.queued j.c Z b.lent.counters b.queued b.i (four_of (words b.scratch) b.lent) b.invariant.0 g.result g.ensures, omega (arith, Z.there, b.invariant.0.grows), pass_body t.counters (four_of (words c.args.scratch.now) c.args.lent.now) c.requires.0 c.requires.1 t.counters.clauses o.left o.lent.counters o.queued (four_of (words c.unfolding.scratch) c.unfolding.lent) o.invariant.0 e j.left j.queued j.c Z b.lent.counters b.queued b.i (four_of (words b.scratch) b.lent) b.invariant.0 g.result g.ensures c.loop-i-test.true, b.invariant.0.counted, b.invariant.0.good, omega (arith, c.requires.3, o.auto.scratch, b.auto.scratch))

-- a table is full
pub returns-in_err-more-clause-references : goal.returns-in_err-more-clause-references
returns-in_err-more-clause-references c =
    let So = c.unfolding.invariant.1 in
    let Sb = c.loop-i.invariant.1 in
    let R = c.unfold_at.ensures.references in
    (R.0 ∙ Sb.0 ∙ So.0, R.1 ∙ Sb.1 ∙ So.1, R.2 ∙ Sb.2 ∙ So.2, R.3 ∙ Sb.3 ∙ So.3, R.4 ∙ Sb.4 ∙ So.4, R.5 ∙ Sb.5 ∙ So.5)

pub returns-in_err-more-clause-fact : goal.returns-in_err-more-clause-fact
returns-in_err-more-clause-fact c =
    let p = err_from_is_err_and c.from_residual.result c.from_residual.ensures.1 in
    let t = c.args.lent.now in
    let o = c.unfolding in
    let j = c.if-queued-gt0 in
    let b = c.loop-i in
    let g = c.body_count-i-end in
    let So = o.invariant.1 in
    let Sb = b.invariant.1 in
    let e = same_sizes c.args.scratch.now t.clauses.now t.atoms.now t.deferrals.now o.scratch o.lent.clauses.now o.lent.atoms.now o.lent.deferrals.now So.3 So.4 So.5 in
    let Z = poised (goal.at.returns-in_err-more-clause-fact c).After-body_count-i-end in
    rw (p.1, p.2) (pass_refused t.counters (four_of (words c.args.scratch.now) c.args.lent.now) c.requires.0 c.requires.1 t.counters.clauses o.left o.lent.counters o.queued (four_of (words c.unfolding.scratch) c.unfolding.lent) o.invariant.0 e j.left j.queued j.c Z b.lent.counters b.queued b.i (four_of (words b.scratch) b.lent) b.invariant.0 g.result g.ensures c.loop-i-test.true (same_sizes o.scratch o.lent.clauses.now o.lent.atoms.now o.lent.deferrals.now b.scratch b.lent.clauses.now b.lent.atoms.now b.lent.deferrals.now Sb.3 Sb.4 Sb.5) _ _ c.in_err-more.ensures.answered c.in_err-more.ensures.fact _ refl)

-- the cap
pub returns-in_default-clause-references : goal.returns-in_default-clause-references
returns-in_default-clause-references c =
    let So = c.unfolding.invariant.1 in
    let Sb = c.loop-i.invariant.1 in
    let R = c.unfold_at.ensures.references in
    (R.0 ∙ Sb.0 ∙ So.0, R.1 ∙ Sb.1 ∙ So.1, R.2 ∙ Sb.2 ∙ So.2, R.3 ∙ Sb.3 ∙ So.3, R.4 ∙ Sb.4 ∙ So.4, R.5 ∙ Sb.5 ∙ So.5)

pub returns-in_default-clause-fact : goal.returns-in_default-clause-fact
returns-in_default-clause-fact c =
    let t = c.args.lent.now in
    let o = c.unfolding in
    let j = c.if-queued-gt0 in
    let b = c.loop-i in
    let g = c.body_count-i-end in
    let So = o.invariant.1 in
    let Sb = b.invariant.1 in
    let e = same_sizes c.args.scratch.now t.clauses.now t.atoms.now t.deferrals.now o.scratch o.lent.clauses.now o.lent.atoms.now o.lent.deferrals.now So.3 So.4 So.5 in
    let Z = poised (goal.at.returns-in_default-clause-fact c).After-body_count-i-end in
    let u = c.unfold_at.new.lent.counters in
    (pass_capped t.counters (four_of (words c.args.scratch.now) c.args.lent.now) c.requires.0 c.requires.1 t.counters.clauses o.left o.lent.counters o.queued (four_of (words c.unfolding.scratch) c.unfolding.lent) o.invariant.0 e j.left j.queued j.c Z b.lent.counters b.queued b.i (four_of (words b.scratch) b.lent) b.invariant.0 g.result g.ensures c.loop-i-test.true (same_sizes o.scratch o.lent.clauses.now o.lent.atoms.now o.lent.deferrals.now b.scratch b.lent.clauses.now b.lent.atoms.now b.lent.deferrals.now Sb.3 Sb.4 Sb.5) _ _ c.in_ok-more.ensures.answered c.in_ok-more.ensures.fact u (ap (λ (m : Option ℕ). unfolded u (Ok m)) c.in_default.is)).0

pub returns-in_default-clause-standing_after : goal.returns-in_default-clause-standing_after
returns-in_default-clause-standing_after c =
    let t = c.args.lent.now in
    let o = c.unfolding in
    let j = c.if-queued-gt0 in
    let b = c.loop-i in
    let g = c.body_count-i-end in
    let So = o.invariant.1 in
    let Sb = b.invariant.1 in
    let e = same_sizes c.args.scratch.now t.clauses.now t.atoms.now t.deferrals.now o.scratch o.lent.clauses.now o.lent.atoms.now o.lent.deferrals.now So.3 So.4 So.5 in
    let Z = poised (goal.at.returns-in_default-clause-standing_after c).After-body_count-i-end in
    let u = c.unfold_at.new.lent.counters in
    (pass_capped t.counters (four_of (words c.args.scratch.now) c.args.lent.now) c.requires.0 c.requires.1 t.counters.clauses o.left o.lent.counters o.queued (four_of (words c.unfolding.scratch) c.unfolding.lent) o.invariant.0 e j.left j.queued j.c Z b.lent.counters b.queued b.i (four_of (words b.scratch) b.lent) b.invariant.0 g.result g.ensures c.loop-i-test.true (same_sizes o.scratch o.lent.clauses.now o.lent.atoms.now o.lent.deferrals.now b.scratch b.lent.clauses.now b.lent.atoms.now b.lent.deferrals.now Sb.3 Sb.4 Sb.5) _ _ c.in_ok-more.ensures.answered c.in_ok-more.ensures.fact u (ap (λ (m : Option ℕ). unfolded u (Ok m)) c.in_default.is)).1

pub loop-i-preserved : goal.loop-i-preserved
loop-i-preserved c =
    let t = c.args.lent.now in
    let o = c.unfolding in
    let j = c.if-queued-gt0 in
    let b = c.loop-i in
    let g = c.body_count-i-end in
    let So = o.invariant.1 in
    let Sb = b.invariant.1 in
    let e = same_sizes c.args.scratch.now t.clauses.now t.atoms.now t.deferrals.now o.scratch o.lent.clauses.now o.lent.atoms.now o.lent.deferrals.now So.3 So.4 So.5 in
    let Z = poised (goal.at.loop-i-preserved c).After-body_count-i-end in
    let u = c.unfold_at.new.lent.counters in
    let R = c.unfold_at.ensures.references in
    (pass_next t.counters (four_of (words c.args.scratch.now) c.args.lent.now) c.requires.0 c.requires.1 t.counters.clauses o.left o.lent.counters o.queued (four_of (words c.unfolding.scratch) c.unfolding.lent) o.invariant.0 e j.left j.queued j.c Z b.lent.counters b.queued b.i (four_of (words b.scratch) b.lent) b.invariant.0 g.result g.ensures c.loop-i-test.true (same_sizes o.scratch o.lent.clauses.now o.lent.atoms.now o.lent.deferrals.now b.scratch b.lent.clauses.now b.lent.atoms.now b.lent.deferrals.now Sb.3 Sb.4 Sb.5) _ _ c.in_ok-more.ensures.answered c.in_ok-more.ensures.fact u c.in-Some.more (ap (λ (m : Option ℕ). unfolded u (Ok m)) c.in-Some.is), (R.0 ∙ Sb.0, R.1 ∙ Sb.1, R.2 ∙ Sb.2, R.3 ∙ Sb.3, R.4 ∙ Sb.4, R.5 ∙ Sb.5))

-- the queue is empty
pub returns-after-unfolding-clause-references : goal.returns-after-unfolding-clause-references
returns-after-unfolding-clause-references c =
    c.unfolding.invariant.1

pub returns-after-unfolding-clause-fact : goal.returns-after-unfolding-clause-fact
returns-after-unfolding-clause-fact c =
    let o = c.unfolding in
    (pass_end c.args.lent.now.counters (four_of (words c.args.scratch.now) c.args.lent.now) c.requires.0 c.requires.1 c.args.lent.now.counters.clauses o.left o.lent.counters o.queued (four_of (words c.unfolding.scratch) c.unfolding.lent) o.invariant.0 c.unfolding-test.false).0

pub returns-after-unfolding-clause-standing_after : goal.returns-after-unfolding-clause-standing_after
returns-after-unfolding-clause-standing_after c =
    let o = c.unfolding in
    (pass_end c.args.lent.now.counters (four_of (words c.args.scratch.now) c.args.lent.now) c.requires.0 c.requires.1 c.args.lent.now.counters.clauses o.left o.lent.counters o.queued (four_of (words c.unfolding.scratch) c.unfolding.lent) o.invariant.0 c.unfolding-test.false).1
