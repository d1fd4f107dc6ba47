-- A concept made again of its parts' normal forms, by its record. Assumes nothing.
use mathlib.Core.Path.{◌≡◌, refl, sym, ap, subst, ◌∙◌}
use mathlib.Core.Bool.{Bool, true, false}
use mathlib.Core.List.{List, [], ◌∷◌}
use Prim.Native.Nat.{ℕ, ◌+◌, ◌<◌, ◌≤◌}
use lib.ListN.{length, get_or, drop}
use lib.Seq.{drop-drop}
use Rattle.words.specs.Words.{words}
use Rattle.ir.specs.Roles.{role_of}
use Rattle.ir.specs.Scratch.{keys_at}
use Rattle.ir.specs.declared.counters.Counters.{Counters}
use Rattle.ir.specs.Answer.{Answer}
use Rattle.ir.specs.Answer.{Done}
use Rattle.rules.specs.Base.{ok, return}
use Rattle.rules.specs.Concept.{Concept}
use Rattle.rules.specs.Concept.{Top, Bot, Atomic, Nominal, SelfRestriction, Not, And, Or, Some, All, Min, Max}
use Rattle.rules.specs.Text.{most_number}
use Rattle.rules.specs.Pool.{at}
use Rattle.rules.specs.Invariants.{Each, Bounded}
use Rattle.pool.specs.Layout.{pool_words, members_at, tab, run, field, concept_from, concept_at, pool_of}
use Rattle.pool.specs.Held.{Held}
use Rattle.pool.specs.Answers.{sized, drawn, Interned}
use Rattle.pool.specs.HeldLaws.{pool_length, pool_at, kind_range, concept_is}
use Rattle.rebuilding.specs.Steps.{visited_parts, rebuilt}
use Rattle.rebuilding.specs.States.{Rebuilding}

-- a concept of the pool as it is
kept_id : {k : Counters} {w : List ℕ} (c : ℕ) → Held w k.concepts k.members → c < k.concepts → Interned k (return c) w w (Done k c)
kept_id {k} {w} c H h =
    let z : sized k (pool_of w k.concepts) ≡ k = rw (pool_length w k.concepts, ← H.count) refl in
    record { equal = ap (λ (x : Counters). ok c (drawn x (pool_of w k.concepts))) (sym z); held = (H, h) }

-- a complement is no step of its own
pub part_itself : (t : Bool) (c d part : ℕ) → return part ≡ rebuilt t c (Not d) (part ∷ [])
part_itself true c d part = refl
part_itself false c d part = refl

module _ {s : List ℕ} {k : Counters} {top c n : ℕ} {b : Bool} (R : Rebuilding s k top c n b) where
  abbrev w : List ℕ
  w = words s

  -- ---- concept c by its kind, in the table's order
  pub is_and : field w c 0 ≡ 7 → concept_at w c ≡ And (run w (members_at + field w c 3) (field w c 2))
  unfolding concept_from
  is_and e = concept_is w c 7 e

  pub is_or : field w c 0 ≡ 8 → concept_at w c ≡ Or (run w (members_at + field w c 3) (field w c 2))
  unfolding concept_from
  is_or e = concept_is w c 8 e

  pub is_not : field w c 0 ≡ 6 → concept_at w c ≡ Not (field w c 3)
  unfolding concept_from
  is_not e = concept_is w c 6 e

  pub is_individual : field w c 0 ≡ 4 → concept_at w c ≡ Nominal (field w c 2)
  unfolding concept_from
  is_individual e = concept_is w c 4 e

  pub is_some : field w c 0 ≡ 9 → (role : ℕ) → role ≡ field w c 1 → concept_at w c ≡ Some (role_of role) (field w c 3)
  unfolding concept_from
  is_some e role q = rw q (concept_is w c 9 e)

  pub is_all : field w c 0 ≡ 10 → (role : ℕ) → role ≡ field w c 1 → concept_at w c ≡ All (role_of role) (field w c 3)
  unfolding concept_from
  is_all e role q = rw q (concept_is w c 10 e)

  pub is_self : field w c 0 ≡ 5 → (role : ℕ) → role ≡ field w c 1 → concept_at w c ≡ SelfRestriction (role_of role)
  unfolding concept_from
  is_self e role q = rw q (concept_is w c 5 e)

  pub is_min : field w c 0 ≡ 11 → (role : ℕ) → role ≡ field w c 1 → (number : ℕ) → number ≡ field w c 2 → concept_at w c ≡ Min number (role_of role) (field w c 3)
  unfolding concept_from
  is_min e role q number u = rw (q, u) (concept_is w c 11 e)

  pub is_max : field w c 0 ≡ 12 → (role : ℕ) → role ≡ field w c 1 → (number : ℕ) → number ≡ field w c 2 → concept_at w c ≡ Max number (role_of role) (field w c 3)
  unfolding concept_from
  is_max e role q number u = rw (q, u) (concept_is w c 12 e)

  pub is_top : field w c 0 ≡ 1 → concept_at w c ≡ Top
  unfolding concept_from
  is_top e = concept_is w c 1 e

  pub is_bot : field w c 0 ≡ 2 → concept_at w c ≡ Bot
  unfolding concept_from
  is_bot e = concept_is w c 2 e

  pub is_class : field w c 0 ≡ 3 → concept_at w c ≡ Atomic (field w c 2)
  unfolding concept_from
  is_class e = concept_is w c 3 e

  -- and of no other
  pub kinds : (1 ≤ field w c 0) × (field w c 0 ≤ 12)
  kinds = kind_range w k.concepts k.members R.ready.held c R.held

  -- ---- and what is made of it, where it is e and the negation is t
  module _ {e : Concept} (h : concept_at w c ≡ e) {t : Bool} (q : b ≡ t) where
    -- of a list
    pub made_list : {w' : List ℕ} {r : Answer} → Interned k (rebuilt t c e (run w top n)) w w' r → Interned k (rebuilt b c (concept_at w c) (run w top n)) w w' r
    made_list I = rw (h, q) I

    -- of no part
    pub stays : return c ≡ rebuilt t c e (run w top n) → Interned k (rebuilt b c (concept_at w c) (run w top n)) w w (Done k c)
    stays m = made_list (rw (← m) (kept_id c R.ready.held R.held))

    pub made_leaf : {w' : List ℕ} {r : Answer} → Interned k (rebuilt t c e (run w top n)) w w' r × (drop pool_words w' ≡ drop pool_words w)
        → Interned k (rebuilt b c (concept_at w c) (run w top n)) w w' r × (drop keys_at w' ≡ drop keys_at w)
    made_leaf {w'} I = (made_list I.0, sym (drop-drop 2048 pool_words w') ∙ ap (drop 2048) I.1 ∙ drop-drop 2048 pool_words w)

    -- of one part, the word at top
    module _ (part : ℕ) (p : part ≡ get_or w top 0) (one : length (visited_parts t e) ≡ 1) where
      run_one : run w top n ≡ part ∷ []
      unfolding tab
      run_one =
          let m : n ≡ 1 = R.count ∙ ap (λ (d : Concept). length (visited_parts b d)) h ∙ ap (λ (x : Bool). length (visited_parts x e)) q ∙ one in
          rw (m, p) refl

      pub part_below : part < k.concepts
      part_below = let y : Each (λ d. d < k.concepts) (part ∷ []) = subst (Each (λ d. d < k.concepts)) run_one R.below in y.0

      pub made_of : {w' : List ℕ} {r : Answer} → Interned k (rebuilt t c e (part ∷ [])) w w' r × (drop pool_words w' ≡ drop pool_words w)
          → Interned k (rebuilt b c (concept_at w c) (run w top n)) w w' r × (drop keys_at w' ≡ drop keys_at w)
      made_of I = made_leaf (rw run_one I.0, I.1)

      -- the part itself
      pub made_part : return part ≡ rebuilt t c e (part ∷ []) → Interned k (rebuilt b c (concept_at w c) (run w top n)) w w (Done k part)
      made_part m = made_list (rw (run_one, ← m) (kept_id part R.ready.held part_below))

  -- a number is small enough for one more
  pub more_fits : {m d : ℕ} (role : ℕ) → concept_at w c ≡ Max m (role_of role) d → m < most_number
  more_fits {m} {d} role h =
      let z : at (pool_of w k.concepts) c ≡ Max m (role_of role) d = pool_at w k.concepts c R.held ∙ h in
      let y : Bounded R.bounds c (Max m (role_of role) d) = subst (Bounded R.bounds c) z (R.wf c (rw (pool_length w k.concepts) R.held)) in
      y.0
