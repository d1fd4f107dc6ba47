-- The normal form of axioms, as the code has it: the concepts of an axiom stand together in its numbers.
use Rattle.std.specs.Prelude.{List, ℕ, ◌+◌, ◌-◌, ◌*◌, ◌≤◌, length, eqb, ltb}
use Rattle.words.specs.Words.{words}
use Rattle.ir.specs.Pick.{pick}
use Rattle.ir.specs.Scratch.{numbers_at, hands_at}
use Rattle.ir.specs.declared.counters.Counters.{Counters}
use Rattle.ir.specs.Answer.{Answer}
use Rattle.ir.specs.Answer.{Done, Refused}
use Rattle.ir.specs.Lined.{Lined as CodeLined}
use Rattle.ir.specs.Lined.{Finished, Stopped}
use Rattle.rules.specs.Base.{Res, ok, refused}
use Rattle.rules.specs.Concept.{Axiom}
use Rattle.rules.specs.Normalize.{St}
use Rattle.rules.specs.Run.{Lined, done, stopped}
use Rattle.rules.specs.Invariants.{Each, Bounds, Wf, AxiomIn}
use Rattle.pool.specs.Layout.{pool_of}
use Rattle.pool.specs.Held.{Held, Ready}
use Rattle.pool.specs.Answers.{Drawn, drawn}
use Rattle.ontology.specs.Layout.{axiom_start, axiom_count, axiom_number, axioms_of, AxiomsHeld}
use Rattle.rebuilding.specs.States.{counted}

-- where the concepts of an axiom begin among its numbers, and how many they are where it has n numbers
abbrev pub first_concept : ℕ → ℕ
first_concept kind = pick (eqb kind 24) 2 (pick (eqb kind 25) 2 (pick (eqb kind 26) 2 1))

abbrev pub concept_count : ℕ → ℕ → ℕ
concept_count kind n = pick (eqb kind 36) 1 (pick (ltb kind 27) (n - first_concept kind) 0)

-- in the words w: the first number of axiom i, where its concepts begin, and how many they are
abbrev pub base_in : List ℕ → ℕ → ℕ
base_in w i = numbers_at + axiom_start w i

abbrev pub concepts_at : List ℕ → ℕ → ℕ
concepts_at w i = base_in w i + first_concept (axiom_number w i 0)

abbrev pub concepts_in : List ℕ → ℕ → ℕ
concepts_in w i = concept_count (axiom_number w i 0) (axiom_count w i)

-- the code's answers over scratch's words at exit, and the rule's
abbrev pub after_axiom : Answer → Axiom → List ℕ → Res Drawn Axiom
after_axiom (Done k i) a w = ok a (drawn k (pool_of w k.concepts))
after_axiom (Refused e) a w = refused e

abbrev pub after_axioms : CodeLined → List Axiom → List ℕ → Lined Drawn (List Axiom)
after_axioms (Finished k) l w = done l (drawn k (pool_of w k.concepts))
after_axioms (Stopped e line) l w = stopped e line

abbrev pub told_lined : {A : Type 0} → Counters → Lined St A → Lined Drawn A
told_lined k (done a s) = done a (drawn (counted k s) s.pool)
told_lined k (stopped e line) = stopped e line

abbrev pub HeldLined : CodeLined → ℕ → List ℕ → Type 0
HeldLined (Finished k) n w = Held w k.concepts k.members × AxiomsHeld w n
HeldLined (Stopped e line) n w = Unit {0}

-- what the code asks of scratch's bytes s
pub record NormalizingAxioms (s : List ℕ) (k : Counters) (n : ℕ) : Type 0 where
  pub bounds : Bounds
  pub ready : Ready s k
  pub wf : Wf bounds (pool_of (words s) k.concepts)
  pub held : AxiomsHeld (words s) n
  pub inside : Each (AxiomIn bounds k.concepts) (axioms_of (words s) n)
  pub space : 4 * hands_at ≤ length s
