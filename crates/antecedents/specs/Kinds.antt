-- The concept of a record, by the record's kind; and its parts are smaller ids. Assumes nothing.
use Rattle.std.specs.Prelude.{◌≡◌, Bool, true, false, List, ℕ, ◌+◌, ◌<◌, eqb, get_or}
use Rattle.std.proofs.Common.{subst, arith, ne_eqb}
use Rattle.ir.specs.Pick.{pick}
use Rattle.ir.specs.Roles.{role_of}
use Rattle.ir.specs.declared.role.Role.{Role}
use Rattle.rules.specs.Concept.{Concept}
use Rattle.rules.specs.Concept.{Top, Bot, Atomic, Nominal, SelfRestriction, Not, And, Or, Some, All, Min, Max}
use Rattle.rules.specs.Deck.{parts_of}
use Rattle.rules.specs.Invariants.{Each}
use Rattle.pool.specs.declared.record.Record.{Record}
use Rattle.pool.specs.Layout.{members_at, run, field, is_list, concept_from, concept_at}
use Rattle.pool.specs.Held.{Held}
use Rattle.pool.specs.HeldLaws.{list_within, list_below, concept_is}
use Rattle.pool.specs.Tabs.{tab_each}
use Rattle.antecedents.specs.Stands.{Listed}

module _ (w : List ℕ) (c : ℕ) where
  pub at_top : field w c 0 ≡ 1 → concept_at w c ≡ Top
  unfolding concept_from
  at_top e = concept_is w c 1 e

  pub at_class : field w c 0 ≡ 3 → concept_at w c ≡ Atomic (field w c 2)
  unfolding concept_from
  at_class e = concept_is w c 3 e

  pub at_nominal : field w c 0 ≡ 4 → concept_at w c ≡ Nominal (field w c 2)
  unfolding concept_from
  at_nominal e = concept_is w c 4 e

  pub at_and : field w c 0 ≡ 7 → concept_at w c ≡ And (run w (members_at + field w c 3) (field w c 2))
  unfolding concept_from
  at_and e = concept_is w c 7 e

  pub at_or : field w c 0 ≡ 8 → concept_at w c ≡ Or (run w (members_at + field w c 3) (field w c 2))
  unfolding concept_from
  at_or e = concept_is w c 8 e

  pub at_some : field w c 0 ≡ 9 → concept_at w c ≡ Some (role_of (field w c 1)) (field w c 3)
  unfolding concept_from
  at_some e = concept_is w c 9 e

-- none of the kinds 1, 3, 4, 7, 8, 9
pub record Other (kind : ℕ) : Type 0 where
  pub top : kind ≡ 1 → ⊥
  pub class : kind ≡ 3 → ⊥
  pub nominal : kind ≡ 4 → ⊥
  pub and : kind ≡ 7 → ⊥
  pub or : kind ≡ 8 → ⊥
  pub some : kind ≡ 9 → ⊥

-- what holds of the six kinds that are left
pub record OfOthers (P : Concept → Type 0) : Type 0 where
  pub bot : P Bot
  pub self : (r : Role) → P (SelfRestriction r)
  pub not : (c : ℕ) → P (Not c)
  pub all : (r : Role) (c : ℕ) → P (All r c)
  pub min : (n : ℕ) (r : Role) (c : ℕ) → P (Min n r c)
  pub max : (n : ℕ) (r : Role) (c : ℕ) → P (Max n r c)

pub by_other : (P : Concept → Type 0) → OfOthers P → (x : Record) (l : List ℕ) → Other x.kind → P (concept_from x l)
unfolding concept_from
by_other P o x l h =
    rw (ne_eqb x.kind 1 h.top, ne_eqb x.kind 3 h.class, ne_eqb x.kind 4 h.nominal, ne_eqb x.kind 7 h.and, ne_eqb x.kind 8 h.or, ne_eqb x.kind 9 h.some)
    (go (eqb x.kind 2) (eqb x.kind 5) (eqb x.kind 6) (eqb x.kind 10) (eqb x.kind 11))
  where
    go : (b2 b5 b6 b10 b11 : Bool) → P (pick b2 Bot (pick b5 (SelfRestriction (role_of x.role)) (pick b6 (Not x.child)
        (pick b10 (All (role_of x.role) x.child) (pick b11 (Min x.number (role_of x.role) x.child) (Max x.number (role_of x.role) x.child))))))
    go true b5 b6 b10 b11 = o.bot
    go false true b6 b10 b11 = o.self (role_of x.role)
    go false false true b10 b11 = o.not x.child
    go false false false true b11 = o.all (role_of x.role) x.child
    go false false false false true = o.min x.number (role_of x.role) x.child
    go false false false false false = o.max x.number (role_of x.role) x.child

-- ---- parts are smaller
module _ (w : List ℕ) (n m : ℕ) (H : Held w n m) (c : ℕ) (h : c < n) where
  pub listed_in : is_list (field w c 0) ≡ true → Listed w c (field w c 3) (field w c 2)
  listed_in a = record {
    within = omega (arith, list_within w n m H c h a, H.space);
    smaller = tab_each (λ j. get_or w j 0) (λ d. d < c) (members_at + field w c 3) (field w c 2) (list_below w n m H c h a);
  }

  pub some_below : field w c 0 ≡ 9 → field w c 3 < c
  some_below e = (subst (λ (x : Concept). Each (λ d. d < c) (parts_of x)) (at_some w c e) (H.records c h).below).0
