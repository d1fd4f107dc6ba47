use Rattle.std.proofs.Common.{◌≡◌, ℕ, ◌+◌, ◌<◌, ◌≤◌, sym, ap, ◌∙◌, length, false, eqb, arith, rules}
use borrow.Author.Tests.{ne_eqb}
use Rattle.words.specs.Words.{words}
use Rattle.rules.specs.Run.{scratch_bytes}
use Rattle.pool.specs.Layout.{field}
use Rattle.sets.specs.Kept.{set_at}
use Rattle.sets.specs.Places.{concepts_at}
use Rattle.extents.specs.Sets.{restricted}
use Rattle.extents.proofs.ThereLaws.{below_trial, size_fits, role_room, filler_room, is_restriction}
use Rattle.extents.proofs.filled_set.Goals.{After-set_of-set}
use Rattle.extents.proofs.filled_set.Goals as goal

-- what reading a row asks
room : (c : After-set_of-set) → (c.role-role.result < 2048) × (c.args.t.size ≤ 64) × (scratch_bytes ≤ length c.args.scratch.now)
room c =
    let a = c.args in
    let q = role_room a.scratch.now a.t a.c c.requires.0 c.requires.1 in
    (omega (arith, q, c.role-role.ensures), size_fits a.scratch.now a.t a.c c.requires.0, c.requires.0.space)

pub set_of-set-requires : goal.set_of-set-requires
set_of-set-requires c =
    let a = c.args in
    let q = filler_room a.scratch.now a.t a.c c.requires.0 c.requires.1 in
    (omega (arith, q, c.child-child.ensures), c.requires.0.space)

pub filtered-requires-clause-callable : goal.filtered-requires-clause-callable
filtered-requires-clause-callable c = let r = room ((goal.at.filtered-requires-clause-callable c).After-set_of-set) in search (rules, r)

pub filtered-requires-in-10-clause-callable : goal.filtered-requires-in-10-clause-callable
filtered-requires-in-10-clause-callable c = let r = room ((goal.at.filtered-requires-in-10-clause-callable c).After-set_of-set) in search (rules, r)

pub filtered-requires-in-11-clause-callable : goal.filtered-requires-in-11-clause-callable
filtered-requires-in-11-clause-callable c = let r = room ((goal.at.filtered-requires-in-11-clause-callable c).After-set_of-set) in search (rules, r)

pub filtered-requires-in_default-clause-callable : goal.filtered-requires-in_default-clause-callable
filtered-requires-in_default-clause-callable c = let r = room ((goal.at.filtered-requires-in_default-clause-callable c).After-set_of-set) in search (rules, r)

pub returns-in-9 : goal.returns-in-9
returns-in-9 c =
    let a = c.args in
    let v = words a.scratch.now in
    let k : field v a.c 0 ≡ 9 = sym c.kind.ensures ∙ c.in-9.is in
    λ w. is_restriction w v a.t a.c (below_trial a.scratch.now a.t a.c c.requires.0) _ c.requires.1
    (λ f g R e. rw k (c.filtered.ensures (λ x. restricted 9 (field v a.c 2) a.t.size (f x) g) (λ x b h p.
    let row = R x h in
    let set = c.set_of-set.ensures ∙ ap (λ (i : ℕ). set_at v (concepts_at + i)) c.child-child.ensures ∙ e in
    search (rules, row, set, c.role-role.ensures, c.number-limit.ensures))))

pub returns-in-10 : goal.returns-in-10
returns-in-10 c =
    let a = c.args in
    let v = words a.scratch.now in
    let k : field v a.c 0 ≡ 10 = sym c.kind.ensures ∙ c.in-10.is in
    λ w. is_restriction w v a.t a.c (below_trial a.scratch.now a.t a.c c.requires.0) _ c.requires.1
    (λ f g R e. rw k (c.filtered-in-10.ensures (λ x. restricted 10 (field v a.c 2) a.t.size (f x) g) (λ x b h p.
    let row = R x h in
    let set = c.set_of-set.ensures ∙ ap (λ (i : ℕ). set_at v (concepts_at + i)) c.child-child.ensures ∙ e in
    search (rules, row, set, c.role-role.ensures, c.number-limit.ensures))))

pub returns-in-11 : goal.returns-in-11
returns-in-11 c =
    let a = c.args in
    let v = words a.scratch.now in
    let k : field v a.c 0 ≡ 11 = sym c.kind.ensures ∙ c.in-11.is in
    λ w. is_restriction w v a.t a.c (below_trial a.scratch.now a.t a.c c.requires.0) _ c.requires.1
    (λ f g R e. rw k (c.filtered-in-11.ensures (λ x. restricted 11 (field v a.c 2) a.t.size (f x) g) (λ x b h p.
    let row = R x h in
    let set = c.set_of-set.ensures ∙ ap (λ (i : ℕ). set_at v (concepts_at + i)) c.child-child.ensures ∙ e in
    search (rules, row, set, c.role-role.ensures, c.number-limit.ensures))))

pub returns-in_default : goal.returns-in_default
returns-in_default c =
    let a = c.args in
    let v = words a.scratch.now in
    let k = field v a.c 0 in
    let d : eqb k 9 ≡ false = ne_eqb k 9 (λ e. omega arith) in
    let e : eqb k 10 ≡ false = ne_eqb k 10 (λ e. omega arith) in
    let l : eqb k 11 ≡ false = ne_eqb k 11 (λ e. omega arith) in
    λ w. is_restriction w v a.t a.c (below_trial a.scratch.now a.t a.c c.requires.0) _ c.requires.1
    (λ f g R q. rw (d, e, l) (c.filtered-in_default.ensures (λ x. restricted 12 (field v a.c 2) a.t.size (f x) g) (λ x b h p.
    let row = R x h in
    let set = c.set_of-set.ensures ∙ ap (λ (i : ℕ). set_at v (concepts_at + i)) c.child-child.ensures ∙ q in
    search (rules, row, set, c.role-role.ensures, c.number-limit.ensures))))
