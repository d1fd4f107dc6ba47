use mathlib.Core.Path.{◌≡◌, refl, sym, subst, ap, ◌∙◌}
use Prim.Native.Nat.{ℕ, ◌+◌, ◌<◌, ◌≤◌}
use native.Mathlib.Omega.{arith}
use Rattle.std.specs.Prelude.{Ok}
use Rattle.std.proofs.lemmas.Result.{err_from_is_err_and}
use Rattle.words.specs.Words.{words}
use Rattle.words.specs.Laws.{length_words}
use Rattle.ir.specs.Encoded.{encoded}
use Rattle.rules.specs.Pool.{most_members}
use Rattle.leaves.specs.StepLaws.{alike_then}
use Rattle.axioms.specs.RoleLaws.{alike_restart, good_restart}
use Rattle.tables.specs.Good.{Alike}
use Rattle.inclusions.specs.Conjuncts.{count_in, conjunct_in, member_in, member_kept, count_few}
use Rattle.inclusions.specs.PartLaws.{ready_low, parts_start, parts_found, parts_sorted, next_inside, parts_soft, parts_hard, parts_stop}
use Rattle.inclusions.proofs.parts.partition.Goals as goal
use Rattle.inclusions.proofs.parts.partition.Goals.{in-Some, in-None}

pub conjunct_count-i-end-requires : goal.conjunct_count-i-end-requires
conjunct_count-i-end-requires c = (omega (arith, c.requires.0.ready.held.few, c.requires.2), c.requires.0.ready.room)

pub loop-i-init : goal.loop-i-init
loop-i-init c = (parts_start c.args.k.now c.args.c (words c.args.scratch.now) c.requires.0.ready.held c.requires.2 c.requires.1, refl, refl)

pub conjunct-p-requires : goal.conjunct-p-requires
conjunct-p-requires c =
    let L = c.loop-i in
    let w = words c.args.scratch.now in
    let H = c.requires.0.ready.held in
    let less : L.i < count_in w c.args.c = omega (arith, c.loop-i-test.true, c.conjunct_count-i-end.ensures) in
    let n : c.args.c < 2048 = omega (arith, H.few, c.requires.2) in
    (n, omega (arith, c.requires.0.ready.room, L.invariant.1), member_kept w (words L.scratch) L.invariant.0.frame c.args.c n L.i (member_in w c.args.k.now.concepts c.args.k.now.members H c.args.c c.requires.2 L.i less))

pub encode_antecedent-requires : goal.encode_antecedent-requires
encode_antecedent-requires c =
    let L = c.loop-i in
    let w = words c.args.scratch.now in
    let k = c.args.k.now in
    let v = c.restart_vars in
    let less : L.soft + L.hard < count_in w c.args.c = omega (arith, c.loop-i-test.true, c.conjunct_count-i-end.ensures, L.invariant.2) in
    let ep = subst (λ (i : ℕ). c.conjunct-p.result ≡ conjunct_in (words L.scratch) c.args.c i) (sym L.invariant.2) c.conjunct-p.ensures in
    let alike : Alike k v.new.self = alike_then k L.k v.new.self L.invariant.0.alike (alike_restart L.k v.new.self v.ensures) in
    let p = next_inside k c.args.c w c.requires.0.ready.held c.requires.2 (words L.scratch) L.k L.soft L.hard L.invariant.0 less c.conjunct-p.result ep in (
      ready_low c.args.scratch.now L.scratch k v.new.self L.invariant.1 L.invariant.0.frame alike c.requires.0.ready,
      omega (arith, p, alike.concepts),
      good_restart L.k v.new.self v.ensures L.invariant.0.good,
    )

pub put_word-requires : goal.put_word-requires
put_word-requires c =
    let L = c.loop-i in
    let w = words c.args.scratch.now in
    let few : count_in w c.args.c ≤ most_members = count_few w c.args.k.now.concepts c.args.k.now.members c.requires.0.ready.held c.args.c c.requires.2 in
    omega (arith, c.loop-i-test.true, c.conjunct_count-i-end.ensures, few, L.invariant.1, L.invariant.2, c.requires.3)

pub put_word-requires-in-None : goal.put_word-requires-in-None
put_word-requires-in-None c =
    let L = c.loop-i in
    let w = words c.args.scratch.now in
    let few : count_in w c.args.c ≤ most_members = count_few w c.args.k.now.concepts c.args.k.now.members c.requires.0.ready.held c.args.c c.requires.2 in
    omega (arith, c.loop-i-test.true, c.conjunct_count-i-end.ensures, few, L.invariant.1, L.invariant.2, c.requires.3)

pub overflow_add-soft-in-Some : goal.overflow_add-soft-in-Some
overflow_add-soft-in-Some c =
    let L = c.loop-i in
    let w = words c.args.scratch.now in
    let few : count_in w c.args.c ≤ most_members = count_few w c.args.k.now.concepts c.args.k.now.members c.requires.0.ready.held c.args.c c.requires.2 in
    omega (arith, c.loop-i-test.true, c.conjunct_count-i-end.ensures, few, L.invariant.2)

pub overflow_add-hard-in-None : goal.overflow_add-hard-in-None
overflow_add-hard-in-None c =
    let L = c.loop-i in
    let w = words c.args.scratch.now in
    let few : count_in w c.args.c ≤ most_members = count_few w c.args.k.now.concepts c.args.k.now.members c.requires.0.ready.held c.args.c c.requires.2 in
    omega (arith, c.loop-i-test.true, c.conjunct_count-i-end.ensures, few, L.invariant.2)

pub loop-i-preserved : goal.loop-i-preserved
loop-i-preserved c =
    let L = c.loop-i in
    let w = words c.args.scratch.now in
    let k = c.args.k.now in
    let H = c.requires.0.ready.held in
    let v = c.restart_vars in
    let r = c.encode_antecedent in
    let less : L.soft + L.hard < count_in w c.args.c = omega (arith, c.loop-i-test.true, c.conjunct_count-i-end.ensures, L.invariant.2) in
    let few : count_in w c.args.c ≤ most_members = count_few w k.concepts k.members H c.args.c c.requires.2 in
    let ep = subst (λ (i : ℕ). c.conjunct-p.result ≡ conjunct_in (words L.scratch) c.args.c i) (sym L.invariant.2) c.conjunct-p.ensures in
    elim c.match-branch-2.branch [
      | in-Some o ↦ rw (o.scratch-is, o.soft-is, o.hard-is) (
          let is = ap (encoded r.new.k) (c.in_ok-encode_antecedent.was ∙ ap Ok o.in-Some.is) in (
            parts_soft k c.args.c w H c.requires.2 (words L.scratch) L.k L.soft L.hard L.invariant.0 less c.conjunct-p.result ep v.new.self v.ensures (encoded r.new.k r.result) r.ensures.0 r.ensures.1
                r.new.k o.in-Some.field-0.count o.in-Some.field-0.longest (words o.put_word.new.s) is o.put_word.ensures (omega (arith, length_words L.scratch, less, few, L.invariant.1, c.requires.3)),
            o.put_word.auto.s ∙ L.invariant.1,
            omega (arith, L.invariant.2),
          ))
      | in-None o ↦ rw (o.scratch-is, o.soft-is, o.hard-is) (
          let is = ap (encoded r.new.k) (c.in_ok-encode_antecedent.was ∙ ap Ok o.in-None.is) in (
            parts_hard k c.args.c w H c.requires.2 (words L.scratch) L.k L.soft L.hard L.invariant.0 less c.conjunct-p.result ep v.new.self v.ensures (encoded r.new.k r.result) r.ensures.0 r.ensures.1
                r.new.k (words o.put_word-in-None.new.s) is o.put_word-in-None.ensures (omega (arith, length_words L.scratch, less, few, L.invariant.1, c.requires.3)),
            o.put_word-in-None.auto.s ∙ L.invariant.1,
            omega (arith, L.invariant.2),
          ))
    ]

pub returns-in_err-encode_antecedent-clause-scratch_after : goal.returns-in_err-encode_antecedent-clause-scratch_after
returns-in_err-encode_antecedent-clause-scratch_after c =
    let p = err_from_is_err_and c.from_residual.result c.from_residual.ensures.1 in
    let L = c.loop-i in
    let w = words c.args.scratch.now in
    let v = c.restart_vars in
    let r = c.encode_antecedent in
    let less : L.soft + L.hard < count_in w c.args.c = omega (arith, c.loop-i-test.true, c.conjunct_count-i-end.ensures, L.invariant.2) in
    let ep = subst (λ (i : ℕ). c.conjunct-p.result ≡ conjunct_in (words L.scratch) c.args.c i) (sym L.invariant.2) c.conjunct-p.ensures in
    rw (p.1, p.2) (parts_stop c.args.k.now c.args.c w c.requires.0.ready.held c.requires.2 (words L.scratch) L.k L.soft L.hard L.invariant.0 less c.conjunct-p.result ep v.new.self v.ensures (encoded r.new.k r.result) r.ensures.0 r.ensures.1 _ (ap (encoded r.new.k) c.in_err-encode_antecedent.was))

pub returns-in_err-encode_antecedent-clause-scratch_unchanged : goal.returns-in_err-encode_antecedent-clause-scratch_unchanged
returns-in_err-encode_antecedent-clause-scratch_unchanged c = c.loop-i.invariant.0.frame

pub returns : goal.returns
returns c =
    let L = c.loop-i in
    let w = words c.args.scratch.now in
    let H = c.requires.0.ready.held in
    let n : count_in w c.args.c ≤ L.soft + L.hard = omega (arith, c.loop-i-test.false, c.conjunct_count-i-end.ensures, L.invariant.2) in
    record {
      scratch_after = parts_found c.args.k.now c.args.c w H c.requires.2 (words L.scratch) L.k L.soft L.hard L.invariant.0 n;
      parts_in = parts_sorted c.args.k.now c.args.c w H c.requires.2 (words L.scratch) L.k L.soft L.hard L.invariant.0;
      scratch_unchanged = L.invariant.0.frame;
    }
