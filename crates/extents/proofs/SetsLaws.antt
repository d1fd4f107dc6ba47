-- The loop over the concepts: the first c sets are there, and the words around them as they were. Assumes nothing.
use mathlib.Core.Path.{◌≡◌, refl, sym, ap, ◌∙◌}
use mathlib.Core.List.{List}
use Prim.Native.Nat.{ℕ, ◌+◌, ◌*◌, ◌/◌, ◌<◌, ◌≤◌}
use native.Mathlib.Omega.{arith}
use native.Mathlib.Decide.{ℕ_discrete}
use lib.ListN.{length, get_or}
use Rattle.words.specs.Words.{words}
use Rattle.words.specs.Laws.{length_words}
use Rattle.rules.specs.Deck.{Known}
use Rattle.rules.specs.Semantics.{Interpretation, means}
use Rattle.states.specs.Masks.{mask_of}
use Rattle.sets.specs.Kept.{set_at, set_put}
use Rattle.sets.specs.KeptLaws.{set_put_lem, word_before, word_behind, set_before}
use Rattle.sets.specs.Places.{deck_words, concepts_at}
use Rattle.sets.specs.Laid.{KeptTo, KeptIn}
use Rattle.extents.specs.declared.Trial.{Trial}
use Rattle.extents.specs.Ready.{Ready, Fits, ConceptSets, ReadyThere}
use Rattle.extents.specs.ReadyLaws.{ready_kept, kept_trans, kept_in_trans}
use Rattle.extents.specs.Sets.{IsSet}

-- store and scratch by their bytes, s₀ before and s now
pub record SetsTo (store s₀ s : List ℕ) (t : Trial) (c : ℕ) : Type 0 where
  pub long : length s ≡ length s₀
  pub low : KeptTo deck_words (words s₀) (words s)
  pub high : KeptIn 86016 393216 (words s₀) (words s)
  pub sets : (d : Known) (I : Interpretation) → Ready d I (words store) (words s₀) → Fits d I t → ConceptSets d I c (words s)

pub sets_start : (store s : List ℕ) (t : Trial) → SetsTo store s s t 0
sets_start store s t = record {
  long = refl;
  low = λ i h. refl;
  high = λ i l h. refl;
  sets = λ d I R F c h. absurd (omega arith);
}

module _ (store s₀ s : List ℕ) (t : Trial) (c : ℕ) (T : SetsTo store s₀ s t c) where
  words_long : length (words s) ≡ length (words s₀)
  words_long = length_words s ∙ ap (λ (k : ℕ). k / 4) T.long ∙ sym (length_words s₀)

  still : (d : Known) (I : Interpretation) → Ready d I (words store) (words s₀) → Ready d I (words store) (words s)
  still d I R = ready_kept d I (words store) (words s₀) R (words s) T.low (λ i l h. T.high i (omega arith) h) words_long

  pub sets_ready : ReadyThere store s₀ t → ReadyThere store s t
  sets_ready P = record {
    known = P.known;
    meant = P.meant;
    ready = still P.known P.meant P.ready;
    fits = P.fits;
    room = P.room;
    space = rw T.long P.space;
  }

  module _ (P : ReadyThere store s₀ t) (h : c < t.concepts) where
    pub sets_few : c < 1024
    sets_few = omega (arith, P.fits.concepts, P.ready.inside.few_concepts)

    module _ (r : ℕ) (S : IsSet (words store) (words s) t c r) (s' : List ℕ) (e : words s' ≡ set_put (words s) (concepts_at + c) r) where
      room : 2 * (concepts_at + c) + 2 ≤ length (words s)
      room = omega (arith, sets_few, length_words s, T.long, P.space)

      put_low : KeptTo deck_words (words s) (words s')
      put_low i l = ap (λ (v : List ℕ). get_or v i 0) e ∙ word_before (words s) (concepts_at + c) r i (omega arith)

      put_high : KeptIn 86016 393216 (words s) (words s')
      put_high i l k = ap (λ (v : List ℕ). get_or v i 0) e ∙ word_behind (words s) (concepts_at + c) r i (omega (arith, sets_few))

      next : (d : Known) (I : Interpretation) → Ready d I (words store) (words s₀) → Fits d I t → ConceptSets d I (c + 1) (words s')
      next d I R F i l = go (ℕ_discrete i c)
        where
          go : Dec (i ≡ c) → set_at (words s') (concepts_at + i) ≡ mask_of I.size (means I d.concepts i)
          go (yes q) =
              rw q (ap (λ (v : List ℕ). set_at v (concepts_at + c)) e ∙ set_put_lem (words s) (concepts_at + c) r room
              ∙ S d I (still d I R) F (T.sets d I R F))
          go (no q) =
              ap (λ (v : List ℕ). set_at v (concepts_at + i)) e ∙ set_before (words s) (concepts_at + c) r (concepts_at + i) (omega arith)
              ∙ T.sets d I R F i (omega arith)

      pub sets_more : length s' ≡ length s → SetsTo store s₀ s' t (c + 1)
      sets_more n = record {
        long = n ∙ T.long;
        low = kept_trans deck_words (words s₀) (words s) (words s') T.low put_low;
        high = kept_in_trans 86016 393216 (words s₀) (words s) (words s') T.high put_high;
        sets = next;
      }

  -- all of them
  pub sets_end : t.concepts ≤ c → (d : Known) (I : Interpretation) → Ready d I (words store) (words s₀) → Fits d I t → ConceptSets d I (length d.concepts) (words s)
  sets_end h d I R F i l = T.sets d I R F i (omega (arith, F.concepts))
