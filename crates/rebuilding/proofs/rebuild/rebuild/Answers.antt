use mathlib.Core.Path.{refl, sym, ◌∙◌}
use native.Mathlib.Omega.{arith}
use native.Mathlib.Numerals.{add-one}
use Prim.Native.Nat.{suc, ◌-◌}
use Rattle.rebuilding.proofs.RebuildLaws.{is_and, is_or, is_not, is_individual, is_some, is_all, is_self, is_min, is_max, is_top, is_bot, is_class, made_list, stays, made_leaf, part_below, made_of, made_part, part_itself, kinds, more_fits}
use Rattle.rebuilding.proofs.rebuild.rebuild.Goals as goal

pub returns-in-7-false-clause-interned : goal.returns-in-7-false-clause-interned
returns-in-7-false-clause-interned c =
    made_list c.requires (is_and c.requires (sym c.kind.ensures ∙ c.in-7-false.is-0)) c.in-7-false.is-1 c.mk_and.ensures.interned

pub returns-in-7-true-clause-interned : goal.returns-in-7-true-clause-interned
returns-in-7-true-clause-interned c =
    made_list c.requires (is_and c.requires (sym c.kind.ensures ∙ c.in-7-true.is-0)) c.in-7-true.is-1 c.mk_or.ensures.interned

pub returns-in-8-false-clause-interned : goal.returns-in-8-false-clause-interned
returns-in-8-false-clause-interned c =
    made_list c.requires (is_or c.requires (sym c.kind.ensures ∙ c.in-8-false.is-0)) c.in-8-false.is-1 c.mk_or-in-8-false.ensures.interned

pub returns-in-8-true-clause-interned : goal.returns-in-8-true-clause-interned
returns-in-8-true-clause-interned c =
    made_list c.requires (is_or c.requires (sym c.kind.ensures ∙ c.in-8-true.is-0)) c.in-8-true.is-1 c.mk_and-in-8-true.ensures.interned

pub returns-in-6-default-clause-interned : goal.returns-in-6-default-clause-interned
returns-in-6-default-clause-interned c =
    made_part c.requires (is_not c.requires (sym c.kind.ensures ∙ c.in-6-default.is-0)) {t = c.args.negated} refl _ c.get_word-part.ensures refl (part_itself c.args.negated c.args.c _ c.get_word-part.result)

pub returns-in-4-false-clause-interned : goal.returns-in-4-false-clause-interned
returns-in-4-false-clause-interned c =
    stays c.requires (is_individual c.requires (sym c.kind.ensures ∙ c.in-4-false.is-0)) c.in-4-false.is-1 refl

pub returns-in-4-true : goal.returns-in-4-true
returns-in-4-true c =
    let both = made_leaf c.requires (is_individual c.requires (sym c.kind.ensures ∙ c.in-4-true.is-0)) c.in-4-true.is-1 (c.mk_not.ensures.interned, c.mk_not.ensures.scratch_unchanged) in
    record { interned = both.0; scratch_unchanged = both.1 }

pub mk_some-requires : goal.mk_some-requires
mk_some-requires c =
    (c.requires.ready, part_below c.requires (is_some c.requires (sym c.kind.ensures ∙ c.in-9-false.is-0) _ c.role-role.ensures) c.in-9-false.is-1 _ c.get_word-part.ensures refl)

pub returns-in-9-false : goal.returns-in-9-false
returns-in-9-false c =
    let both = made_of c.requires (is_some c.requires (sym c.kind.ensures ∙ c.in-9-false.is-0) _ c.role-role.ensures) c.in-9-false.is-1 _ c.get_word-part.ensures refl (c.mk_some.ensures.interned, c.mk_some.ensures.scratch_unchanged) in
    record { interned = both.0; scratch_unchanged = both.1 }

pub mk_all-requires : goal.mk_all-requires
mk_all-requires c =
    (c.requires.ready, part_below c.requires (is_some c.requires (sym c.kind.ensures ∙ c.in-9-true.is-0) _ c.role-role.ensures) c.in-9-true.is-1 _ c.get_word-part.ensures refl)

pub returns-in-9-true : goal.returns-in-9-true
returns-in-9-true c =
    let both = made_of c.requires (is_some c.requires (sym c.kind.ensures ∙ c.in-9-true.is-0) _ c.role-role.ensures) c.in-9-true.is-1 _ c.get_word-part.ensures refl (c.mk_all.ensures.interned, c.mk_all.ensures.scratch_unchanged) in
    record { interned = both.0; scratch_unchanged = both.1 }

pub mk_all-requires-in-10-false : goal.mk_all-requires-in-10-false
mk_all-requires-in-10-false c =
    (c.requires.ready, part_below c.requires (is_all c.requires (sym c.kind.ensures ∙ c.in-10-false.is-0) _ c.role-role.ensures) c.in-10-false.is-1 _ c.get_word-part.ensures refl)

pub returns-in-10-false : goal.returns-in-10-false
returns-in-10-false c =
    let both = made_of c.requires (is_all c.requires (sym c.kind.ensures ∙ c.in-10-false.is-0) _ c.role-role.ensures) c.in-10-false.is-1 _ c.get_word-part.ensures refl (c.mk_all-in-10-false.ensures.interned, c.mk_all-in-10-false.ensures.scratch_unchanged) in
    record { interned = both.0; scratch_unchanged = both.1 }

pub mk_some-requires-in-10-true : goal.mk_some-requires-in-10-true
mk_some-requires-in-10-true c =
    (c.requires.ready, part_below c.requires (is_all c.requires (sym c.kind.ensures ∙ c.in-10-true.is-0) _ c.role-role.ensures) c.in-10-true.is-1 _ c.get_word-part.ensures refl)

pub returns-in-10-true : goal.returns-in-10-true
returns-in-10-true c =
    let both = made_of c.requires (is_all c.requires (sym c.kind.ensures ∙ c.in-10-true.is-0) _ c.role-role.ensures) c.in-10-true.is-1 _ c.get_word-part.ensures refl (c.mk_some-in-10-true.ensures.interned, c.mk_some-in-10-true.ensures.scratch_unchanged) in
    record { interned = both.0; scratch_unchanged = both.1 }

pub returns-in-5-false-clause-interned : goal.returns-in-5-false-clause-interned
returns-in-5-false-clause-interned c =
    stays c.requires (is_self c.requires (sym c.kind.ensures ∙ c.in-5-false.is-0) _ c.role-role.ensures) c.in-5-false.is-1 refl

pub returns-in-5-true : goal.returns-in-5-true
returns-in-5-true c =
    let both = made_leaf c.requires (is_self c.requires (sym c.kind.ensures ∙ c.in-5-true.is-0) _ c.role-role.ensures) c.in-5-true.is-1 (c.mk_not-in-5-true.ensures.interned, c.mk_not-in-5-true.ensures.scratch_unchanged) in
    record { interned = both.0; scratch_unchanged = both.1 }

pub mk_min-requires : goal.mk_min-requires
mk_min-requires c =
    (c.requires.ready, part_below c.requires (is_min c.requires (sym c.kind.ensures ∙ c.in-11-false.is-0) _ c.role-role.ensures _ c.number-number.ensures) c.in-11-false.is-1 _ c.get_word-part.ensures refl)

pub returns-in-11-false : goal.returns-in-11-false
returns-in-11-false c =
    let both = made_of c.requires (is_min c.requires (sym c.kind.ensures ∙ c.in-11-false.is-0) _ c.role-role.ensures _ c.number-number.ensures) c.in-11-false.is-1 _ c.get_word-part.ensures refl (c.mk_min.ensures.interned, c.mk_min.ensures.scratch_unchanged) in
    record { interned = both.0; scratch_unchanged = both.1 }

pub returns-in-11-true : goal.returns-in-11-true
returns-in-11-true c =
    let both = made_leaf c.requires (is_min c.requires (sym c.kind.ensures ∙ c.in-11-true.is-0) _ c.role-role.ensures 0 (sym c.if-number-eq0.true ∙ c.number-number.ensures)) c.in-11-true.is-1 (c.mk_bot.ensures.interned, c.mk_bot.ensures.scratch_unchanged) in
    record { interned = both.0; scratch_unchanged = both.1 }

pub mk_max-requires : goal.mk_max-requires
mk_max-requires c =
    (c.requires.ready, part_below c.requires (is_min c.requires (sym c.kind.ensures ∙ c.in-11-true.is-0) _ c.role-role.ensures (suc (c.number-number.result - 1)) (omega (arith, c.number-number.ensures))) c.in-11-true.is-1 _ c.get_word-part.ensures refl)

pub returns-in-11-true-2 : goal.returns-in-11-true-2
returns-in-11-true-2 c =
    let both = made_of c.requires (is_min c.requires (sym c.kind.ensures ∙ c.in-11-true.is-0) _ c.role-role.ensures (suc (c.number-number.result - 1)) (omega (arith, c.number-number.ensures))) c.in-11-true.is-1 _ c.get_word-part.ensures refl (c.mk_max.ensures.interned, c.mk_max.ensures.scratch_unchanged) in
    record { interned = both.0; scratch_unchanged = both.1 }

pub mk_max-requires-in-12-false : goal.mk_max-requires-in-12-false
mk_max-requires-in-12-false c =
    (c.requires.ready, part_below c.requires (is_max c.requires (sym c.kind.ensures ∙ c.in-12-false.is-0) _ c.role-role.ensures _ c.number-number.ensures) c.in-12-false.is-1 _ c.get_word-part.ensures refl)

pub returns-in-12-false : goal.returns-in-12-false
returns-in-12-false c =
    let both = made_of c.requires (is_max c.requires (sym c.kind.ensures ∙ c.in-12-false.is-0) _ c.role-role.ensures _ c.number-number.ensures) c.in-12-false.is-1 _ c.get_word-part.ensures refl (c.mk_max-in-12-false.ensures.interned, c.mk_max-in-12-false.ensures.scratch_unchanged) in
    record { interned = both.0; scratch_unchanged = both.1 }

pub overflow_add-number : goal.overflow_add-number
overflow_add-number c =
    omega (arith, more_fits c.requires _ (is_max c.requires (sym c.kind.ensures ∙ c.in-12-true.is-0) _ c.role-role.ensures _ c.number-number.ensures))

pub mk_min-requires-in-12-true : goal.mk_min-requires-in-12-true
mk_min-requires-in-12-true c =
    (c.requires.ready, part_below c.requires (is_max c.requires (sym c.kind.ensures ∙ c.in-12-true.is-0) _ c.role-role.ensures _ c.number-number.ensures) c.in-12-true.is-1 _ c.get_word-part.ensures refl)

pub returns-in-12-true : goal.returns-in-12-true
returns-in-12-true c =
    let both = made_of c.requires (is_max c.requires (sym c.kind.ensures ∙ c.in-12-true.is-0) _ c.role-role.ensures _ c.number-number.ensures) c.in-12-true.is-1 _ c.get_word-part.ensures refl (rw (← add-one c.number-number.result) c.mk_min-in-12-true.ensures.interned, c.mk_min-in-12-true.ensures.scratch_unchanged) in
    record { interned = both.0; scratch_unchanged = both.1 }

pub returns-in-1-false-clause-interned : goal.returns-in-1-false-clause-interned
returns-in-1-false-clause-interned c =
    stays c.requires (is_top c.requires (sym c.kind.ensures ∙ c.in-1-false.is-0)) c.in-1-false.is-1 refl

pub returns-in-1-true : goal.returns-in-1-true
returns-in-1-true c =
    let both = made_leaf c.requires (is_top c.requires (sym c.kind.ensures ∙ c.in-1-true.is-0)) c.in-1-true.is-1 (c.mk_bot-in-1-true.ensures.interned, c.mk_bot-in-1-true.ensures.scratch_unchanged) in
    record { interned = both.0; scratch_unchanged = both.1 }

pub returns-in-2-false-clause-interned : goal.returns-in-2-false-clause-interned
returns-in-2-false-clause-interned c =
    stays c.requires (is_bot c.requires (sym c.kind.ensures ∙ c.in-2-false.is-0)) c.in-2-false.is-1 refl

pub returns-in-2-true : goal.returns-in-2-true
returns-in-2-true c =
    let both = made_leaf c.requires (is_bot c.requires (sym c.kind.ensures ∙ c.in-2-true.is-0)) c.in-2-true.is-1 (c.mk_top.ensures.interned, c.mk_top.ensures.scratch_unchanged) in
    record { interned = both.0; scratch_unchanged = both.1 }

pub returns-in_default-false-clause-interned : goal.returns-in_default-false-clause-interned
returns-in_default-false-clause-interned c =
    stays c.requires (is_class c.requires (omega (arith, c.kind.ensures, kinds c.requires))) c.in_default-false.is-1 refl

pub returns-in_default-true : goal.returns-in_default-true
returns-in_default-true c =
    let both = made_leaf c.requires (is_class c.requires (omega (arith, c.kind.ensures, kinds c.requires))) c.in_default-true.is-1 (c.mk_not-in_default-true.ensures.interned, c.mk_not-in_default-true.ensures.scratch_unchanged) in
    record { interned = both.0; scratch_unchanged = both.1 }
