-- What a write above the regions leaves alone, and the room that is left for a smaller concept. Assumes nothing.
use Rattle.std.specs.Prelude.{◌≡◌, refl, Bool, true, false, List, ℕ, ◌+◌, ◌*◌, ◌<◌, ◌≤◌, ◌^◌, length, get_or, take}
use Rattle.std.proofs.Common.{sym, ap, subst, ◌∙◌, arith}
use Rattle.words.specs.Words.{words}
use Rattle.words.specs.Laws.{words_long, frame_less}
use Rattle.ir.specs.Pick.{pick}
use Rattle.ir.specs.Scratch.{hands_at, limits_at}
use Rattle.ir.specs.declared.counters.Counters.{Counters}
use Rattle.rules.specs.Concept.{Concept}
use Rattle.rules.specs.Concept.{Top, Bot, Atomic, Nominal, SelfRestriction, Not, And, Or, Some, All, Min, Max}
use Rattle.rules.specs.Pool.{Pool, at, members}
use Rattle.rules.specs.Deck.{parts_of}
use Rattle.rules.specs.Invariants.{Wf, Each}
use Rattle.pool.specs.Layout.{pool_words, members_at, field, is_list, concept_at, pool_of, plain, starts_at}
use Rattle.pool.specs.declared.record.Record.{Record}
use Rattle.pool.specs.HeldLaws.{pool_at, pool_kept, held_kept, used_rises, list_grows, list_full, list_within, list_below}
use Rattle.pool.specs.Tabs.{tab_each}
use Rattle.tables.specs.declared.lent.Tables.{Tables}
use Rattle.tables.specs.Lending.{SameReferences}
use Rattle.tables.specs.Good.{Good, Alike}
use Rattle.waiting.specs.Limits.{appended}
use Rattle.waiting.specs.LimitLaws.{appended_below}
use Rattle.leaves.specs.Classes.{Restricts}
use Rattle.leaves.specs.Reading.{Reading}
use Rattle.leaves.specs.StepLaws.{word_below}
use Rattle.heads.specs.Emits.{room_of, Emitting}

pub reading_alike : (s : List ℕ) (k k' : Counters) → Alike k k' → Reading s k → Reading s k'
reading_alike s k k' A R = record {
  room = R.room;
  bounds = R.bounds;
  ready = record { room = R.ready.room; held = rw (A.concepts, A.members) R.ready.held };
  wf = rw A.concepts R.wf;
  classes = R.classes;
  individuals = R.individuals;
  roles = R.roles;
  nominals = rw A.nominals R.nominals;
}

-- what waits stands above
pub waited_below : (w w' : List ℕ) (filler name p : ℕ) (b : Bool) → w' ≡ pick b (appended w filler name) w → p ≤ limits_at → take p w' ≡ take p w
waited_below w w' filler name p true e h = ap (take p) e ∙ appended_below w filler name p h
waited_below w w' filler name p false e h = ap (take p) e

module _ (s s' : List ℕ) (k : Counters) (top : ℕ) (R : Reading s k) (ab : hands_at ≤ 6 * top) (e : take (6 * top) (words s') ≡ take (6 * top) (words s)) where
  front : take pool_words (words s') ≡ take pool_words (words s)
  front = frame_less pool_words (6 * top) (words s) (words s') (omega arith) e

  pub pool_on : pool_of (words s') k.concepts ≡ pool_of (words s) k.concepts
  pool_on = pool_kept (words s) (words s') k.concepts k.members R.ready.held front

  pub concept_on : (c : ℕ) → c < k.concepts → concept_at (words s') c ≡ concept_at (words s) c
  concept_on c h = sym (pool_at (words s') k.concepts c h) ∙ ap (λ (p : Pool). at p c) pool_on ∙ pool_at (words s) k.concepts c h

  pub field_on : (c j : ℕ) → c < k.concepts → j < 6 → field (words s') c j ≡ field (words s) c j
  field_on c j h l = word_below top (words s) (words s') ab e (6 * c + j) (omega (arith, R.ready.held.few))

  pub member_on : (i : ℕ) → i < 16384 → get_or (words s') (members_at + i) 0 ≡ get_or (words s) (members_at + i) 0
  member_on i l = word_below top (words s) (words s') ab e (members_at + i) (omega arith)

  pub room_on : (c : ℕ) → c < k.concepts → room_of (words s') c ≡ room_of (words s) c
  room_on c h = ap (λ (x : ℕ). 2 * c + x) (field_on c 4 h (omega arith))

  pub reading_kept : length s' ≡ length s → Reading s' k
  reading_kept l = record {
    room = rw l R.room;
    bounds = R.bounds;
    ready = record { room = rw l R.ready.room; held = held_kept (words s) (words s') k.concepts k.members R.ready.held front (words_long s s' l) };
    wf = subst (Wf R.bounds) (sym pool_on) R.wf;
    classes = R.classes;
    individuals = R.individuals;
    roles = R.roles;
    nominals = R.nominals;
  }

-- the pool, by counters that are alike
pub pool_alike : (w : List ℕ) (k k' : Counters) → Alike k k' → pool_of w k'.concepts ≡ pool_of w k.concepts
pool_alike w k k' A = ap (pool_of w) A.concepts

-- ---- room
module _ (s : List ℕ) (k : Counters) (R : Reading s k) (c : ℕ) (h : c < k.concepts) where
  pub fall : (d : ℕ) → d < c → room_of (words s) d + 2 ≤ room_of (words s) c
  fall d l = omega (arith, used_rises (words s) k.concepts k.members R.ready.held c h d l)

  module _ (a : is_list (field (words s) c 0) ≡ true) where
    gap : (d : ℕ) → d < c → room_of (words s) d + field (words s) c 2 + 2 ≤ room_of (words s) c
    gap d l = omega (arith, list_grows (words s) k.concepts k.members R.ready.held c h a d l)

    full : field (words s) c 2 ≤ room_of (words s) c
    full = omega (arith, list_full (words s) k.concepts k.members R.ready.held c h a)

    run_within : field (words s) c 3 + field (words s) c 2 ≤ 16384
    run_within = omega (arith, list_within (words s) k.concepts k.members R.ready.held c h a, R.ready.held.space)

    run_below : (i : ℕ) → i < field (words s) c 2 → get_or (words s) (members_at + field (words s) c 3 + i) 0 < c
    run_below i l = tab_each (λ j. get_or (words s) j 0) (λ d. d < c) (members_at + field (words s) c 3) (field (words s) c 2) (list_below (words s) k.concepts k.members R.ready.held c h a) i l

-- a list's run in the members, and the room that each member leaves
pub record Run (w : List ℕ) (c start count : ℕ) : Type 0 where
  pub within : start + count ≤ 16384
  pub below : (i : ℕ) → i < count → get_or w (members_at + start + i) 0 < c
  pub gap : (d : ℕ) → d < c → room_of w d + count + 2 ≤ room_of w c
  pub full : count ≤ room_of w c

pub run_of_lem : (s : List ℕ) (k : Counters) (c start count : ℕ) → Reading s k → c < k.concepts → is_list (field (words s) c 0) ≡ true → start ≡ field (words s) c 3 → count ≡ field (words s) c 2 → Run (words s) c start count
run_of_lem s k c start count R h a es ec = rw (es, ec) (record { within = run_within s k R c h a; below = run_below s k R c h a; gap = gap s k R c h a; full = full s k R c h a })

-- its member i, as it is read after some turns
pub member_of_lem : (s s' : List ℕ) (k : Counters) (top c start count i p : ℕ) → Reading s k → hands_at ≤ 6 * top → take (6 * top) (words s') ≡ take (6 * top) (words s) → Run (words s) c start count → i < count
    → p ≡ get_or (words s') (members_at + (start + i)) 0 → p ≡ get_or (words s) (members_at + start + i) 0
member_of_lem s s' k top c start count i p R ab e N l q =
    let z : members_at + (start + i) ≡ members_at + start + i = omega arith in
    q ∙ member_on s s' k top R ab e (start + i) (omega (arith, N.within)) ∙ ap (λ (j : ℕ). get_or (words s) j 0) z

-- and what the turn knows of it
pub record Member (s s' : List ℕ) (k k' : Counters) (c start i p : ℕ) : Type 0 where
  pub is : p ≡ get_or (words s) (members_at + start + i) 0
  pub less : p < c
  pub pool : pool_of (words s') k'.concepts ≡ pool_of (words s) k.concepts

pub member : (s s' : List ℕ) (k k' : Counters) (top c start count i p : ℕ) → Reading s k → Alike k k' → hands_at ≤ 6 * top → take (6 * top) (words s') ≡ take (6 * top) (words s) → Run (words s) c start count → i < count
    → p ≡ get_or (words s') (members_at + (start + i)) 0 → Member s s' k k' c start i p
member s s' k k' top c start count i p R A ab e N l q =
    let is : p ≡ get_or (words s) (members_at + start + i) 0 = member_of_lem s s' k top c start count i p R ab e N l q in
    record { is = is; less = omega (arith, is, N.below i l); pool = pool_alike (words s') k k' A ∙ pool_on s s' k top R ab e }

-- a call above what is in hand, on a concept that is no larger
pub emitting_on : (s s' : List ℕ) (k k' : Counters) (base n c base' n' c' top : ℕ) → Emitting s k base n c → Alike k k' → Good k' → base ≤ top → take (6 * top) (words s') ≡ take (6 * top) (words s) → length s' ≡ length s
    → c' ≤ c → base ≤ base' → n' ≤ 256 → base' + n' + room_of (words s) c' ≤ base + n + room_of (words s) c → Emitting s' k' base' n' c'
emitting_on s s' k k' base n c base' n' c' top E A G tp e l hc hb hn hr =
    let ab = E.room.above in
    let f = E.room.fits in
    let h = E.held in
    let at : hands_at ≤ 6 * top = omega arith in
    let ro = room_on s s' k top E.reading at e c' (omega (arith, h)) in
    record {
      reading = reading_alike s' k k' A (reading_kept s s' k top E.reading at e l);
      good = G;
      held = rw A.concepts (omega (arith, h));
      room = record { above = omega arith; short = hn; fits = omega (arith, f, hr, ro, l); below = omega (arith, E.room.below, hr, ro); queue = omega (arith, E.room.queue, l) };
    }

-- ---- the filler of a restriction
starts_restrict : (m : ℕ) (e : Concept) → Restricts e → (starts_at m (plain e)).child ≡ (plain e).child
starts_restrict m Top g = absurd g
starts_restrict m Bot g = absurd g
starts_restrict m (Atomic a) g = absurd g
starts_restrict m (Nominal i) g = absurd g
starts_restrict m (SelfRestriction r) g = absurd g
starts_restrict m (Not d) g = absurd g
starts_restrict m (And l) g = absurd g
starts_restrict m (Or l) g = absurd g
starts_restrict m (Some r d) g = refl
starts_restrict m (All r d) g = absurd g
starts_restrict m (Min n r d) g = refl
starts_restrict m (Max n r d) g = refl

parts_child : (c : ℕ) (e : Concept) → Restricts e → Each (λ d. d < c) (parts_of e) → (plain e).child < c
parts_child c Top g b = absurd g
parts_child c Bot g b = absurd g
parts_child c (Atomic a) g b = absurd g
parts_child c (Nominal i) g b = absurd g
parts_child c (SelfRestriction r) g b = absurd g
parts_child c (Not d) g b = absurd g
parts_child c (And l) g b = absurd g
parts_child c (Or l) g b = absurd g
parts_child c (Some r d) g b = b.0
parts_child c (All r d) g b = absurd g
parts_child c (Min n r d) g b = b.0
parts_child c (Max n r d) g b = b.0

module _ (s : List ℕ) (k : Counters) (R : Reading s k) (c : ℕ) (h : c < k.concepts) (g : Restricts (concept_at (words s) c)) where
  pub filler_is : field (words s) c 3 ≡ (plain (concept_at (words s) c)).child
  filler_is = ap (λ (x : Record). x.child) (R.ready.held.records c h).words ∙ starts_restrict (members (pool_of (words s) c)) (concept_at (words s) c) g

  pub filler_below : field (words s) c 3 < c
  filler_below = rw filler_is (parts_child c (concept_at (words s) c) g (R.ready.held.records c h).below)

-- ---- the lent tables
pub same_then : (t t' t'' : Tables) → SameReferences t t' → SameReferences t' t'' → SameReferences t t''
same_then t t' t'' a b = (b.0 ∙ a.0, b.1 ∙ a.1, b.2 ∙ a.2, b.3 ∙ a.3, b.4 ∙ a.4, b.5 ∙ a.5)

-- a fresh class fits
pub class_fits : (k : Counters) → Good k → k.next_class + 1 < 2 ^ 32
class_fits k g = omega (arith, g.most, g.seen, g.names)
