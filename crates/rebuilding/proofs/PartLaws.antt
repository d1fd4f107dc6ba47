-- The visited parts of a list, by its record. Assumes nothing.
use mathlib.Core.Path.{◌≡◌, sym, ap, ◌∙◌}
use mathlib.Core.Bool.{Bool, true}
use mathlib.Core.List.{List}
use Prim.Native.Nat.{ℕ, ◌+◌, ◌*◌, ◌<◌, ◌≤◌}
use native.Mathlib.Omega.{arith}
use lib.ListN.{length, take, drop}
use lib.Seq.{sets}
use Rattle.words.specs.Words.{words}
use Rattle.words.specs.Laws.{length_words}
use Rattle.ir.specs.declared.counters.Counters.{Counters}
use Rattle.pool.specs.Layout.{members_at, run, field, is_list, concept_from, concept_at}
use Rattle.pool.specs.Shapes.{list_kinds_lem}
use Rattle.pool.specs.Tabs.{run_part}
use Rattle.pool.specs.HeldLaws.{members_next, list_count, list_within, concept_is}
use Rattle.rebuilding.specs.Steps.{visited_parts}
use Rattle.rebuilding.specs.States.{Normalizing}

parts_listed : (w : List ℕ) (c : ℕ) (b : Bool) → is_list (field w c 0) ≡ true → visited_parts b (concept_at w c) ≡ run w (members_at + field w c 3) (field w c 2)
unfolding concept_from
parts_listed w c b a = list_kinds_lem (field w c 0) a (λ e. ap (visited_parts b) (concept_is w c 7 e)) (λ e. ap (visited_parts b) (concept_is w c 8 e))

-- the record's words, as they are read
module _ {s : List ℕ} {k : Counters} {top c : ℕ} (N : Normalizing s k top c) {number child : ℕ} (en : number ≡ field (words s) c 2) (ed : child ≡ field (words s) c 3) (h : 7 ≤ field (words s) c 0) (l : field (words s) c 0 < 9) where
  list_kind : is_list (field (words s) c 0) ≡ true
  list_kind = grind arith

  -- the list lies inside the members, and fits on the stack
  pub list_fits : (4 * (members_at + child + number) ≤ length s) × (4 * (top + number) ≤ length s)
  list_fits = (
    omega (arith, ed, en, list_within (words s) k.concepts k.members N.ready.held c N.held list_kind, N.ready.held.space, N.ready.room),
    omega (arith, en, list_count (words s) k.concepts k.members N.ready.held c N.held list_kind, members_next (words s) c, N.room, N.space),
  )

  pub put_list : (b : Bool) (w' : List ℕ) → w' ≡ sets (words s) top (take number (drop (members_at + child) (words s))) → w' ≡ sets (words s) top (visited_parts b (concept_at (words s) c))
  put_list b w' q =
      let p : visited_parts b (concept_at (words s) c) ≡ run (words s) (members_at + child) number = rw (en, ed) (parts_listed (words s) c b list_kind) in
      q ∙ ap (sets (words s) top) (sym (p ∙ run_part (words s) (members_at + child) number (omega (arith, list_fits.0, length_words s))))
