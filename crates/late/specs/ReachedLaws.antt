-- The state that a pass reached, by its answer. Assumes nothing.
use Rattle.std.specs.Prelude.{◌≡◌, refl, List, ℕ}
use Rattle.std.proofs.Common.{ap, subst, arith}
use Prim.{Unit, tt}
use Rattle.ir.specs.declared.counters.Counters.{Counters}
use Rattle.ir.specs.Answer.{Answer}
use Rattle.ir.specs.Answer.{Done, Refused}
use Rattle.rules.specs.Base.{Res, ok, refused}
use Rattle.rules.specs.State.{Rooms, Out}
use Rattle.rules.specs.Ends.{Ends, ends}
use Rattle.tables.specs.Drawn.{Tables, tables, show, shown, after, counters_in}
use Rattle.tables.specs.Good.{Alike}

-- the rule's answer X is a state that stands in the tables
pub record Reached (k : Counters) (rooms : Rooms) (X : Res Out (Unit {0})) (l : Counters) (c a d : List ℕ) : Type 0 where
  pub state : Out
  pub made : X ≡ ok tt state
  pub drawn : tables l c a d ≡ show k rooms state

pub reached : (k : Counters) (rooms : Rooms) (X : Res Out (Unit {0})) (r : Answer) (l : Counters) (i : ℕ) (c a d : List ℕ) → r ≡ Done l i → after r c a d ≡ shown (λ _. 0) k rooms X → Reached k rooms X l c a d
reached k rooms (ok u t) r l i c a d e h =
    let q : ◌≡◌ {A = Res Tables ℕ} (ok i (tables l c a d)) (ok 0 (show k rooms t)) = subst (λ (z : Answer). after z c a d ≡ ok 0 (show k rooms t)) e h in
    record { state = t; made = refl; drawn = cc }
reached k rooms (refused n) r l i c a d e h =
    let q : ◌≡◌ {A = Res Tables ℕ} (ok i (tables l c a d)) (refused n) = subst (λ (z : Answer). after z c a d ≡ refused n) e h in
    absurd (let z : ◌≡◌ {A = ℕ} 0 1 = cc in omega arith)

pub reached_not : (k : Counters) (rooms : Rooms) (X : Res Out (Unit {0})) (r : Answer) (n : ℕ) (c a d : List ℕ) → r ≡ Refused n → after r c a d ≡ shown (λ _. 0) k rooms X → X ≡ refused n
reached_not k rooms (ok u t) r n c a d e h =
    let q : ◌≡◌ {A = Res Tables ℕ} (refused n) (ok 0 (show k rooms t)) = subst (λ (z : Answer). after z c a d ≡ ok 0 (show k rooms t)) e h in
    absurd (let z : ◌≡◌ {A = ℕ} 0 1 = cc in omega arith)
reached_not k rooms (refused m) r n c a d e h =
    let q : ◌≡◌ {A = Res Tables ℕ} (refused n) (refused m) = subst (λ (z : Answer). after z c a d ≡ refused m) e h in
    cc

pub drawn_like : (k l : Counters) (rooms : Rooms) (t : Out) (c a d : List ℕ) → tables l c a d ≡ show k rooms t → Alike k l
unfolding show
drawn_like k l rooms t c a d e =
    let q = ap counters_in e in
    record {
      concepts = ap (λ (z : Counters). z.concepts) q;
      members = ap (λ (z : Counters). z.members) q;
      nominals = ap (λ (z : Counters). z.nominal_base) q;
      options = ap (λ (z : Counters). z.options) q;
    }

-- what a rule's answer has
pub ends_at_lem : {Q : Unit {0} → Out → Type 0} {X : Res Out (Unit {0})} {t : Out} → Ends Q X → X ≡ ok tt t → Q tt t
ends_at_lem {Q} {X} {t} h e = go (subst (Ends Q) e h)
  where
    go : Ends Q (ok tt t) → Q tt t
    go (ends p) = p
