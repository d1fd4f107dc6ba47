-- One concept of a deck that stands ready: what may be read of it, and its set. Assumes nothing.
use mathlib.Core.Path.{◌≡◌, ap, ◌∙◌}
use mathlib.Core.Bool.{Bool, true, not}
use mathlib.Core.List.{List}
use Prim.Native.Nat.{ℕ, ◌+◌, ◌*◌, ◌<◌, ◌≤◌}
use native.Mathlib.Omega.{arith}
use lib.ListN.{length}
use Rattle.words.specs.Words.{words}
use Rattle.rules.specs.Invariants.{Each}
use Rattle.rules.specs.JointLaws.{conj, disj}
use Rattle.rules.specs.Deck.{Known}
use Rattle.rules.specs.Semantics.{Interpretation}
use Rattle.meaning.specs.Joints.{over}
use Rattle.pool.specs.Layout.{members_at, field, is_list, run}
use Rattle.states.specs.Masks.{mask_of}
use Rattle.states.specs.Test.{store_bytes}
use Rattle.sets.specs.Kept.{set_at}
use Rattle.sets.specs.Places.{concepts_at}
use Rattle.extents.specs.declared.Trial.{Trial}
use Rattle.extents.specs.Ready.{Fits, ReadyThere}
use Rattle.extents.specs.ReadyLaws.{class_room, code_few}
use Rattle.sets.specs.Laid.{Rows}
use Rattle.extents.specs.Sets.{IsSet, ConceptThere, restricted}
use Rattle.extents.proofs.ConceptLaws.{kind_some, top_set, bot_set, class_in_lem, atomic_set, individual_in, nominal_set, self_code, self_set, not_child, not_set, list_room, list_few, and_set, or_set, restriction_code, restriction_child, restriction_set}

-- ---- what may be read
pub concept_there : (store scratch : List ℕ) (t : Trial) (c : ℕ) → ReadyThere store scratch t → c < t.concepts → ConceptThere scratch t c
concept_there store scratch t c P h = record {
  store = words store;
  known = P.known;
  meant = P.meant;
  ready = P.ready;
  fits = P.fits;
  space = P.space;
  below = omega (arith, P.fits.concepts);
}

module _ (scratch : List ℕ) (t : Trial) (c : ℕ) (P : ConceptThere scratch t c) where
  abbrev v : List ℕ
  v = words scratch

  pub below_trial : c < t.concepts
  below_trial = omega (arith, P.fits.concepts, P.below)

  pub concept_few : c < 1024
  concept_few = omega (arith, P.below, P.ready.inside.few_concepts)

  pub size_fits : t.size ≤ 64
  size_fits = omega (arith, P.fits.size, P.ready.laid.few)

  pub kind_least : 1 ≤ field v c 0
  kind_least = kind_some P.known P.meant P.store v P.ready c P.below

  pub self_room : field v c 0 ≡ 5 → field v c 1 < 2048
  self_room k = code_few P.known P.meant P.store v P.ready (field v c 1) (self_code P.known P.meant P.store v P.ready c P.below k)

  pub not_room : field v c 0 ≡ 6 → field v c 3 < 2048
  not_room k = omega (arith, not_child P.known P.meant P.store v P.ready c P.below k, concept_few)

  pub joint_room : is_list (field v c 0) ≡ true → field v c 3 + field v c 2 ≤ 16384
  joint_room = list_room P.known P.meant P.store v P.ready c P.below

  pub joint_few : is_list (field v c 0) ≡ true → Each (λ e. e < 2048) (run v (members_at + field v c 3) (field v c 2))
  joint_few = list_few P.known P.meant P.store v P.ready c P.below

  pub role_room : 9 ≤ field v c 0 → field v c 1 < 2048
  role_room k = code_few P.known P.meant P.store v P.ready (field v c 1) (restriction_code P.known P.meant P.store v P.ready c P.below k)

  pub filler_room : 9 ≤ field v c 0 → field v c 3 < 2048
  filler_room k = omega (arith, restriction_child P.known P.meant P.store v P.ready c P.below k, concept_few)

module _ (store scratch : List ℕ) (t : Trial) (c : ℕ) (P : ReadyThere store scratch t) (h : c < t.concepts) where
  below : c < length P.known.concepts
  below = omega (arith, P.fits.concepts)

  pub class_there : field (words scratch) c 0 ≡ 3 → 8 * field (words scratch) c 2 + 8 ≤ length store
  class_there k =
      let q = class_in_lem P.known P.meant (words store) (words scratch) P.ready c below k in
      (class_room P.known P.ready.inside store P.room (field (words scratch) c 2) (omega arith)).0

  pub individual_there : field (words scratch) c 0 ≡ 4 → t.base + field (words scratch) c 2 < 8192
  individual_there k = omega (arith, individual_in P.known P.meant (words store) (words scratch) P.ready c below k, P.fits.base, P.ready.inside.classes, P.ready.inside.individuals)

-- ---- its set
module _ (w v : List ℕ) (t : Trial) (c : ℕ) (h : c < t.concepts) (r : ℕ) where
  within : (d : Known) (I : Interpretation) → Fits d I t → c < length d.concepts
  within d I F = omega (arith, F.concepts)

  pub is_top_lem : field v c 0 ≡ 1 → r ≡ mask_of t.size (λ _. true) → IsSet w v t c r
  is_top_lem k q d I R F S = top_set d I w v R c (within d I F) k t.size r F.size q

  pub is_bot : field v c 0 ≡ 2 → r ≡ 0 → IsSet w v t c r
  is_bot k q d I R F S = bot_set d I w v R c (within d I F) k r q

  pub is_self : field v c 0 ≡ 5 → ((f : ℕ → ℕ → Bool) → Rows v (field v c 1) t.size f → r ≡ mask_of t.size (λ x. f x x)) → IsSet w v t c r
  is_self k q d I R F S = self_set d I w v R c (within d I F) k t.size r F.size q

  pub is_not : field v c 0 ≡ 6 → ((g : ℕ → Bool) → set_at v (concepts_at + field v c 3) ≡ mask_of t.size g → r ≡ mask_of t.size (λ x. not (g x))) → IsSet w v t c r
  is_not k q d I R F S = not_set d I w v R c (within d I F) k S t.size r F.size q

  abbrev list : List ℕ
  list = run v (members_at + field v c 3) (field v c 2)

  pub is_and : field v c 0 ≡ 7
      → ((k : ℕ → ℕ → Bool) → Each (λ e. set_at v (concepts_at + e) ≡ mask_of t.size (k e)) list → r ≡ mask_of t.size (λ x. over conj (λ e. k e x) list)) → IsSet w v t c r
  is_and k q d I R F S = and_set d I w v R c (within d I F) k S t.size r F.size q

  pub is_or : field v c 0 ≡ 8
      → ((k : ℕ → ℕ → Bool) → Each (λ e. set_at v (concepts_at + e) ≡ mask_of t.size (k e)) list → r ≡ mask_of t.size (λ x. over disj (λ e. k e x) list)) → IsSet w v t c r
  is_or k q d I R F S = or_set d I w v R c (within d I F) k S t.size r F.size q

  pub is_restriction : 9 ≤ field v c 0
      → ((f : ℕ → ℕ → Bool) (g : ℕ → Bool) → Rows v (field v c 1) t.size f → set_at v (concepts_at + field v c 3) ≡ mask_of t.size g
      → r ≡ mask_of t.size (λ x. restricted (field v c 0) (field v c 2) t.size (f x) g)) → IsSet w v t c r
  is_restriction k q d I R F S = restriction_set d I w v R c (within d I F) k S t.size r F.size q

module _ (store v : List ℕ) (t : Trial) (c : ℕ) (h : c < t.concepts) (room : store_bytes ≤ length store) (r : ℕ) where
  pub is_atomic : field v c 0 ≡ 3 → r ≡ set_at (words store) (field v c 2) → IsSet (words store) v t c r
  is_atomic k q d I R F S =
      let l : c < length d.concepts = omega (arith, F.concepts) in
      let b = class_in_lem d I (words store) v R c l k in
      atomic_set d I (words store) v R c l k (class_room d R.inside store room (field v c 2) (omega arith)).1 r q

  pub is_nominal : field v c 0 ≡ 4 → r ≡ set_at (words store) (t.base + field v c 2) → IsSet (words store) v t c r
  is_nominal k q d I R F S =
      let l : c < length d.concepts = omega (arith, F.concepts) in
      let b = individual_in d I (words store) v R c l k in
      nominal_set d I (words store) v R c l k (class_room d R.inside store room (d.header.classes + field v c 2) (omega arith)).1 r
      (q ∙ ap (λ (i : ℕ). set_at (words store) (i + field v c 2)) F.base)
