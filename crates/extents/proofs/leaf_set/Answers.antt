use mathlib.Core.Path.{◌≡◌, refl, sym, ap, ◌∙◌}
use Prim.Native.Nat.{ℕ, ◌+◌}
use native.Mathlib.Omega.{arith}
use Rattle.words.specs.Words.{words}
use Rattle.pool.specs.Layout.{field}
use Rattle.sets.specs.Kept.{set_at}
use Rattle.extents.proofs.ThereLaws.{concept_there, kind_least, class_there, individual_there, is_top_lem, is_bot, is_atomic, is_nominal}
use Rattle.extents.proofs.leaf_set.Goals as goal

pub get_set-requires : goal.get_set-requires
get_set-requires c =
    let a = c.args in
    let q = class_there a.store.now a.scratch.now a.t a.c c.requires.0 c.requires.1 (sym c.kind-kind.ensures ∙ c.in-3.is) in
    omega (arith, q, c.number-number.ensures)

pub individual_set-requires : goal.individual_set-requires
individual_set-requires c =
    let a = c.args in
    let l = kind_least a.scratch.now a.t a.c (concept_there a.store.now a.scratch.now a.t a.c c.requires.0 c.requires.1) in
    let e : field (words a.scratch.now) a.c 0 ≡ 4 = omega (arith, l) in
    let q = individual_there a.store.now a.scratch.now a.t a.c c.requires.0 c.requires.1 e in
    (omega (arith, q, c.number-number.ensures), c.requires.0.room)

pub returns-in-1 : goal.returns-in-1
returns-in-1 c =
    let a = c.args in
    is_top_lem (words a.store.now) (words a.scratch.now) a.t a.c c.requires.1 _ (sym c.kind-kind.ensures ∙ c.in-1.is) c.whole.ensures

pub returns-in-2 : goal.returns-in-2
returns-in-2 c =
    let a = c.args in
    is_bot (words a.store.now) (words a.scratch.now) a.t a.c c.requires.1 _ (sym c.kind-kind.ensures ∙ c.in-2.is) refl

pub returns-in-3 : goal.returns-in-3
returns-in-3 c =
    let a = c.args in
    is_atomic a.store.now (words a.scratch.now) a.t a.c c.requires.1 c.requires.0.room _ (sym c.kind-kind.ensures ∙ c.in-3.is)
    (c.get_set.ensures ∙ ap (set_at (words a.store.now)) c.number-number.ensures)

pub returns-in_default : goal.returns-in_default
returns-in_default c =
    let a = c.args in
    let l = kind_least a.scratch.now a.t a.c (concept_there a.store.now a.scratch.now a.t a.c c.requires.0 c.requires.1) in
    let e : field (words a.scratch.now) a.c 0 ≡ 4 = omega (arith, l) in
    is_nominal a.store.now (words a.scratch.now) a.t a.c c.requires.1 c.requires.0.room _ e
    (c.individual_set.ensures ∙ ap (λ (i : ℕ). set_at (words a.store.now) (a.t.base + i)) c.number-number.ensures)
