-- A deck in the words v of scratch, and an interpretation laid out beside it (w are the store's words).
use Rattle.std.specs.Prelude.{◌≡◌, List, ℕ, ◌+◌, ◌<◌, ◌≤◌, length}
use Rattle.rules.specs.Pool.{members}
use Rattle.rules.specs.Deck.{Known, axiom_line}
use Rattle.rules.specs.DeckLaws.{DeckIn}
use Rattle.rules.specs.Run.{scratch_bytes}
use Rattle.rules.specs.Semantics.{Interpretation, means}
use Rattle.rules.specs.Statements.{Proper}
use Rattle.words.specs.Words.{words}
use Rattle.pool.specs.Layout.{pool_of}
use Rattle.pool.specs.Held.{Held}
use Rattle.ontology.specs.Layout.{axioms_of, AxiomsHeld}
use Rattle.states.specs.Masks.{mask_of}
use Rattle.states.specs.Test.{store_bytes}
use Rattle.sets.specs.Kept.{set_at}
use Rattle.sets.specs.Places.{concepts_at}
use Rattle.sets.specs.Laid.{Laid}
use Rattle.extents.specs.declared.Trial.{Trial}

pub record Ready (d : Known) (I : Interpretation) (w v : List ℕ) : Type 0 where
  pub inside : DeckIn d
  pub held : Held v (length d.concepts) (members d.concepts)
  pub pool : pool_of v (length d.concepts) ≡ d.concepts
  pub lines : AxiomsHeld v (length d.axioms)
  pub listed : axioms_of v (length d.axioms) ≡ d.axioms
  pub laid : Laid I d.header.roles w v
  pub proper : Proper d I

-- the numbers of both
pub record Fits (d : Known) (I : Interpretation) (t : Trial) : Type 0 where
  pub size : t.size ≡ I.size
  pub base : t.base ≡ d.header.classes
  pub concepts : t.concepts ≡ length d.concepts
  pub axioms : t.axioms ≡ length d.axioms
  pub line : t.line ≡ axiom_line d 0

-- a set for each concept
abbrev pub ConceptSets : Known → Interpretation → ℕ → List ℕ → Type 0
ConceptSets d I n v = (c : ℕ) → c < n → set_at v (concepts_at + c) ≡ mask_of I.size (means I d.concepts c)

-- what the code asks of the bytes of the store and of scratch
pub record ReadyThere (store scratch : List ℕ) (t : Trial) : Type 0 where
  pub known : Known
  pub meant : Interpretation
  pub ready : Ready known meant (words store) (words scratch)
  pub fits : Fits known meant t
  pub room : store_bytes ≤ length store
  pub space : scratch_bytes ≤ length scratch

pub record SetsThere (store scratch : List ℕ) (t : Trial) : Type 0 where
  pub known : Known
  pub meant : Interpretation
  pub ready : Ready known meant (words store) (words scratch)
  pub fits : Fits known meant t
  pub sets : ConceptSets known meant (length known.concepts) (words scratch)
  pub room : store_bytes ≤ length store
  pub space : scratch_bytes ≤ length scratch
