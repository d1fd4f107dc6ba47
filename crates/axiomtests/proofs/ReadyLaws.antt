-- A deck and the sets beside it stay ready where only elements are shown; and its axioms are lines. Assumes nothing.
use mathlib.Core.Path.{◌≡◌, refl, sym, ap, subst, ◌∙◌}
use mathlib.Core.List.{List, ◌∷◌}
use mathlib.Core.Option.{Option, none, some}
use Prim.Native.Nat.{ℕ, ◌+◌, ◌-◌, ◌<◌, ◌≤◌}
use native.Mathlib.Omega.{arith}
use native.Mathlib.Nat.{zero-add}
use lib.ListN.{length, drop, drop_of_length-le}
use Rattle.words.specs.Words.{words}
use Rattle.ir.specs.Scratch.{numbers_at, lines_at}
use Rattle.rules.specs.Concept.{Axiom}
use Rattle.rules.specs.Deck.{Known, most_listed}
use Rattle.rules.specs.DeckLaws.{bounds_of, axiom_width}
use Rattle.rules.specs.Invariants.{Each, AxiomIn}
use Rattle.rules.specs.Semantics.{Interpretation}
use Rattle.pool.specs.Layout.{tab}
use Rattle.pool.specs.Tabs.{tab_next, tab_each, drop_tab}
use Rattle.ontology.specs.Layout.{axiom_start, axiom_count, axiom_number, axiom_at}
use Rattle.ontology.specs.KeptAxioms.{kind_inside}
use Rattle.states.specs.Test.{holds, broken, first_broken}
use Rattle.sets.specs.Places.{deck_words}
use Rattle.sets.specs.Laid.{KeptTo}
use Rattle.extents.specs.declared.Trial.{Trial}
use Rattle.extents.specs.Ready.{Ready, Fits, ConceptSets, SetsThere}
use Rattle.extents.specs.ReadyLaws.{kept_less, ready_kept, sets_kept, sets_there_kept}
use Rattle.axiomtests.specs.Breaking.{Aside}
use Rattle.ontology.specs.Rows.{row_axiom}
use Rattle.axiomtests.specs.Lines.{Line, LineThere}

-- ---- what stays
aside_kept : (v v' : List ℕ) → Aside v v' → KeptTo 86016 v v'
aside_kept v v' A i h = A.before i (omega arith)

module _ (d : Known) (I : Interpretation) (w v v' : List ℕ) (A : Aside v v') (R : Ready d I w v) where
  pub ready_aside : Ready d I w v'
  ready_aside = ready_kept d I w v R v' (kept_less 86016 deck_words v v' (omega arith) (aside_kept v v' A)) (λ i h _. A.behind i (omega arith)) A.long

  pub sets_aside : ConceptSets d I (length d.concepts) v → ConceptSets d I (length d.concepts) v'
  sets_aside S = sets_kept d I (length d.concepts) v v' (omega (arith, R.inside.few_concepts)) S (λ i _ h. aside_kept v v' A i h)

pub there_aside : (store s s' : List ℕ) (t : Trial) → Aside (words s) (words s') → length s' ≡ length s → SetsThere store s t → SetsThere store s' t
there_aside store s s' t A e P = sets_there_kept store s s' t P e (aside_kept (words s) (words s') A) (λ i h _. A.behind i (omega arith))

-- ---- axiom i
module _ (d : Known) (I : Interpretation) (w v : List ℕ) (t : Trial) (i : ℕ) (R : Ready d I w v) (S : ConceptSets d I (length d.concepts) v) (F : Fits d I t) (h : i < t.axioms) where
  below : i < length d.axioms
  below = omega (arith, F.axioms)

  pub few_axioms_lem : i < 1024
  few_axioms_lem = omega (arith, below, R.inside.few_axioms)

  pub kind_there : numbers_at + axiom_start v i + 0 < lines_at
  kind_there = kind_inside v (length d.axioms) i R.lines below

  each_axiom : (P : Axiom → Type 0) → Each P d.axioms → P (axiom_at v i)
  each_axiom P E = let z : 0 + i ≡ i = zero-add i in subst (λ (k : ℕ). P (axiom_at v k)) z (tab_each (axiom_at v) P 0 (length d.axioms) (subst (Each P) (sym R.listed) E) i below)

  -- what is left from it on
  pub axioms_next : drop i d.axioms ≡ axiom_at v i ∷ drop (i + 1) d.axioms
  axioms_next =
      let n = length d.axioms in
      let z : 0 + i ≡ i = zero-add i in
      ap (drop i) (sym R.listed) ∙ drop_tab (axiom_at v) 0 n i ∙ tab_next (axiom_at v) 0 i n below ∙ ap (λ (k : ℕ). axiom_at v k ∷ tab (axiom_at v) (0 + (i + 1)) (n - (i + 1))) z
      ∙ ap (λ (l : List Axiom). axiom_at v i ∷ l) (sym (ap (drop (i + 1)) (sym R.listed) ∙ drop_tab (axiom_at v) 0 n (i + 1)))

  module _ (kind at count : ℕ) (ek : kind ≡ axiom_number v i 0) (ea : at ≡ numbers_at + axiom_start v i) (ec : count ≡ axiom_count v i) where
    pub row_axiom_lem : row_axiom v kind at count ≡ axiom_at v i
    row_axiom_lem = rw (ek, ea, ec) refl

    pub axiom_line_lem : Line d I w v t kind at count
    axiom_line_lem = record {
      ready = R;
      sets = S;
      fits = F;
      above = omega arith;
      below = omega (arith, R.lines.within i below);
      section = rw ek (R.lines.kinds i below);
      fields = rw (ek, ec) (R.lines.fields i below);
      inside = subst (AxiomIn (bounds_of d) (length d.concepts)) (sym row_axiom_lem) (each_axiom (AxiomIn (bounds_of d) (length d.concepts)) R.inside.axioms);
      narrow = subst (λ (a : Axiom). axiom_width a ≤ most_listed) (sym row_axiom_lem) (each_axiom (λ a. axiom_width a ≤ most_listed) R.inside.axiom_lists);
    }

pub axiom_there : (store s : List ℕ) (t : Trial) (i kind at count : ℕ) → SetsThere store s t → i < t.axioms → kind ≡ axiom_number (words s) i 0 → at ≡ numbers_at + axiom_start (words s) i → count ≡ axiom_count (words s) i → LineThere store s t kind at count
axiom_there store s t i kind at count P h ek ea ec = record {
  known = P.known;
  meant = P.meant;
  line = axiom_line_lem P.known P.meant (words store) (words s) t i P.ready P.sets P.fits h kind at count ek ea ec;
  room = P.room;
  space = P.space;
}

-- ---- the first broken one
module _ {A : Type 0} (f : A → Option (List ℕ)) where
  pub broken_on : (n m : ℕ) (a : A) (l k : List A) → l ≡ a ∷ k → m ≡ n + 1 → none ≡ f a → first_broken f n l ≡ first_broken f m k
  unfolding first_broken
  broken_on n m a l k e q h = rw (e, q, ← h) refl

  pub broken_here : (n : ℕ) (a : A) (l k : List A) (x : List ℕ) → l ≡ a ∷ k → some x ≡ f a → broken n x ≡ first_broken f n l
  unfolding first_broken
  broken_here n a l k x e h = rw (e, ← h) refl

  pub broken_none : (n i : ℕ) (l : List A) → length l ≤ i → holds ≡ first_broken f n (drop i l)
  unfolding first_broken
  broken_none n i l h = rw (drop_of_length-le l h) refl
