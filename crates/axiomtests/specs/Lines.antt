-- An axiom where the code has it, its kind and the `count` words from `at` on, and an interpretation laid out beside it (w are
-- the store's words, v those of scratch).
use Rattle.std.specs.Prelude.{◌≡◌, Bool, true, not, ◌||◌, List, [], ◌∷◌, ℕ, ◌+◌, ◌<◌, ◌≤◌, length, eqb}
use Rattle.std.specs.Prelude as Found
use Rattle.std.proofs.Math.Option.{Option, none}
use Rattle.words.specs.Words.{words}
use Rattle.ir.specs.Scratch.{numbers_at, lines_at}
use Rattle.rules.specs.Concept.{Axiom}
use Rattle.rules.specs.Pool.{Pool}
use Rattle.rules.specs.Deck.{Known, most_listed, section_of, fields_ok}
use Rattle.rules.specs.DeckLaws.{bounds_of, axiom_width}
use Rattle.rules.specs.Invariants.{AxiomIn}
use Rattle.rules.specs.Run.{scratch_bytes}
use Rattle.rules.specs.Semantics.{Interpretation}
use Rattle.ontology.specs.Rows.{row_axiom}
use Rattle.states.specs.Conditions.{rises, behind, least_of, axiom_holds_at, axiom_broken}
use Rattle.states.specs.Masks.{mask_of}
use Rattle.states.specs.Test.{store_bytes}
use Rattle.extents.specs.declared.Trial.{Trial}
use Rattle.extents.specs.Ready.{Ready, Fits, ConceptSets}
use Rattle.axiomtests.specs.declared.pairs.First.{First}

pub record Line (d : Known) (I : Interpretation) (w v : List ℕ) (t : Trial) (kind at count : ℕ) : Type 0 where
  pub ready : Ready d I w v
  pub sets : ConceptSets d I (length d.concepts) v
  pub fits : Fits d I t
  pub above : numbers_at ≤ at
  pub below : at + count ≤ lines_at
  pub section : section_of kind ≡ 4
  pub fields : fields_ok kind count ≡ true
  pub inside : AxiomIn (bounds_of d) (length d.concepts) (row_axiom v kind at count)
  pub narrow : axiom_width (row_axiom v kind at count) ≤ most_listed

-- what the code asks of the bytes of scratch
pub record LineIn (scratch : List ℕ) (t : Trial) (kind at count : ℕ) : Type 0 where
  pub known : Known
  pub meant : Interpretation
  pub store : List ℕ
  pub line : Line known meant store (words scratch) t kind at count
  pub space : scratch_bytes ≤ length scratch

-- and of those of the store
pub record LineThere (store scratch : List ℕ) (t : Trial) (kind at count : ℕ) : Type 0 where
  pub known : Known
  pub meant : Interpretation
  pub line : Line known meant (words store) (words scratch) t kind at count
  pub room : store_bytes ≤ length store
  pub space : scratch_bytes ≤ length scratch

-- the kinds whose condition speaks of one element, and of two
abbrev pub of_element : ℕ → Bool
of_element k = eqb k 21 || eqb k 22 || eqb k 23 || eqb k 24 || eqb k 29 || eqb k 35

abbrev pub of_pair : ℕ → Bool
of_pair k = eqb k 25 || eqb k 26 || eqb k 30 || eqb k 31 || eqb k 32 || eqb k 33 || eqb k 34

-- the elements that break it, and those that do behind x
abbrev pub breakers : Interpretation → Pool → Axiom → ℕ → Bool
breakers I p a x = not (axiom_holds_at I p a (x ∷ []))

abbrev pub breakers_behind : Interpretation → Pool → Axiom → ℕ → ℕ → Bool
breakers_behind I p a x y = not (axiom_holds_at I p a (x ∷ y ∷ []))

-- r is the set of the elements that break the axiom, or of those that do behind x
abbrev pub Elements : (w v : List ℕ) → Trial → (kind at count r : ℕ) → Type 0
Elements w v t kind at count r = (d : Known) (I : Interpretation) → Line d I w v t kind at count → r ≡ mask_of I.size (breakers I d.concepts (row_axiom v kind at count))

abbrev pub Behind : List ℕ → Trial → (kind at count x r : ℕ) → Type 0
Behind v t kind at count x r = (d : Known) (I : Interpretation) (w : List ℕ) → Line d I w v t kind at count → r ≡ mask_of I.size (breakers_behind I d.concepts (row_axiom v kind at count) x)

-- the first element with a set that is not empty, and its set
pub record FirstAt (v : List ℕ) (t : Trial) (kind at count : ℕ) (r : First) : Type 0 where
  pub among : r.element < t.size
  pub some : 0 < r.set
  pub set : Behind v t kind at count r.element r.set
  pub least : (d : Known) (I : Interpretation) (w : List ℕ) → Line d I w v t kind at count
      → least_of (rises 0 I.size) 2 (axiom_holds_at I d.concepts (row_axiom v kind at count)) ≡ behind r.element (least_of (rises 0 I.size) 1 (λ l. axiom_holds_at I d.concepts (row_axiom v kind at count) (r.element ∷ l)))

-- or no pair breaks the axiom
abbrev pub FirstWith : List ℕ → Trial → (kind at count : ℕ) → Found.Option First → Type 0
FirstWith v t kind at count (Found.Some r) = FirstAt v t kind at count r
FirstWith v t kind at count Found.None = (d : Known) (I : Interpretation) (w : List ℕ) → Line d I w v t kind at count → least_of (rises 0 I.size) 2 (axiom_holds_at I d.concepts (row_axiom v kind at count)) ≡ none

-- o is the least assignment that breaks the axiom
abbrev pub Broken : (w v : List ℕ) → Trial → (kind at count : ℕ) → Option (List ℕ) → Type 0
Broken w v t kind at count o = (d : Known) (I : Interpretation) → Line d I w v t kind at count → o ≡ axiom_broken I d.concepts (row_axiom v kind at count)
