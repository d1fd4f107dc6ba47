-- The set of one concept, by the sets of those before it.
use Rattle.std.specs.Prelude.{◌≡◌, Bool, ◌&&◌, List, ℕ, ◌<◌, ◌≤◌, eqb, leb, length}
use Rattle.ir.specs.Pick.{pick}
use Rattle.words.specs.Words.{words}
use Rattle.rules.specs.Base.{all, any}
use Rattle.rules.specs.Deck.{Known}
use Rattle.rules.specs.Run.{scratch_bytes}
use Rattle.rules.specs.Semantics.{Interpretation, means, elements_below, implies, count}
use Rattle.states.specs.Masks.{mask_of}
use Rattle.extents.specs.declared.Trial.{Trial}
use Rattle.extents.specs.Ready.{Ready, Fits, ConceptSets}

-- r is the set of concept c
abbrev pub IsSet : (w v : List ℕ) → Trial → ℕ → ℕ → Type 0
IsSet w v t c r = (d : Known) (I : Interpretation) → Ready d I w v → Fits d I t → ConceptSets d I c v → r ≡ mask_of I.size (means I d.concepts c)

-- what the code asks of scratch's bytes, where concept c is read
pub record ConceptThere (scratch : List ℕ) (t : Trial) (c : ℕ) : Type 0 where
  pub store : List ℕ
  pub known : Known
  pub meant : Interpretation
  pub ready : Ready known meant store (words scratch)
  pub fits : Fits known meant t
  pub space : scratch_bytes ≤ length scratch
  pub below : c < length known.concepts

-- Some, All, Min or Max at an element that is related to those of f, where the filler has those of g
abbrev pub restricted : (kind number n : ℕ) → (f g : ℕ → Bool) → Bool
restricted kind number n f g =
    pick (eqb kind 9) (any (λ y. f y && g y) (elements_below n))
    (pick (eqb kind 10) (all (λ y. implies (f y) (g y)) (elements_below n))
    (pick (eqb kind 11) (leb number (count (λ y. f y && g y) (elements_below n)))
    (leb (count (λ y. f y && g y) (elements_below n)) number)))
