-- A deck that was read can be normalised. Assumes nothing.
use Rattle.std.specs.Prelude.{◌≡◌, refl, List, ℕ, ◌*◌, ◌≤◌, length}
use Rattle.std.proofs.Common.{sym, ap, subst, arith}
use Rattle.words.specs.Words.{words}
use Rattle.ir.specs.Scratch.{hands_at}
use Rattle.ir.specs.declared.counters.Counters.{Counters}
use Rattle.rules.specs.Concept.{Axiom}
use Rattle.rules.specs.Normalize.{St}
use Rattle.rules.specs.Run.{Lined, nnf_axioms}
use Rattle.rules.specs.Invariants.{Each, Wf, AxiomIn}
use Rattle.rules.specs.Deck.{Known, Told, fine, refused, axiom_line}
use Rattle.rules.specs.DeckLaws.{bounds_of, DeckIn}
use Rattle.ontology.specs.Layout.{axioms_of}
use Rattle.ontology.specs.Loads.{Holds, Loaded, LoadedAs, loaded, stopped}
use Rattle.ontology.specs.Loads.{Accepted, Refused}
use Rattle.rebuilding.specs.States.{state_of}
use Rattle.normalize.specs.Axioms.{NormalizingAxioms}

-- the rules' state before the first visit, and their normal form
abbrev pub begun : Known → ℕ → St
begun d limit = record { pool = d.concepts; visits = 0; limit = limit }

abbrev pub normalized : Known → ℕ → Lined St (List Axiom)
normalized d limit = nnf_axioms (axiom_line d 0) d.axioms (begun d limit)

-- ---- load's answer
pub record Fine (limit : ℕ) (t : Told) (w : List ℕ) (k : Counters) (n : ℕ) : Type 0 where
  pub known : Known
  pub told : t ≡ fine known
  pub holds : Holds known limit w k n

abbrev Read : ℕ → Told → List ℕ → Loaded → Type 0
Read limit t w (Accepted k n) = Fine limit t w k n
Read limit t w (Refused e line) = t ≡ refused e line

read_as : (limit : ℕ) (t : Told) (w : List ℕ) (r : Loaded) → LoadedAs limit t w r → Read limit t w r
read_as limit t w r (loaded d k n e h) = record { known = d; told = e; holds = h }
read_as limit t w r (stopped e line h) = h

module _ (limit : ℕ) (t : Told) (w : List ℕ) (r : Loaded) (a : LoadedAs limit t w r) where
  pub as_fine : (k : Counters) (n : ℕ) → r ≡ Accepted k n → Fine limit t w k n
  as_fine k n e = subst (Read limit t w) e (read_as limit t w r a)

  pub as_refused : (n line : ℕ) → r ≡ Refused n line → t ≡ refused n line
  as_refused n line e = subst (Read limit t w) e (read_as limit t w r a)

-- ---- what nnf_axioms asks, and what it is told to do
module _ (d : Known) (D : DeckIn d) (limit : ℕ) (s : List ℕ) (k : Counters) (n : ℕ) (H : Holds d limit (words s) k n) where
  pub holds_ready : 4 * hands_at ≤ length s → NormalizingAxioms s k n
  holds_ready h =
      let c : length d.concepts ≡ k.concepts = sym (ap (λ (j : Counters). j.concepts) H.counters) in
      record {
        bounds = bounds_of d;
        ready = record { room = omega arith; held = H.held };
        wf = subst (Wf (bounds_of d)) (sym H.pool) D.wf;
        held = H.lines;
        inside = subst (Each (AxiomIn (bounds_of d) k.concepts)) (sym H.axioms) (subst (λ (m : ℕ). Each (AxiomIn (bounds_of d) m) d.axioms) c D.axioms);
        space = h;
      }

  pub holds_line : k.line ≤ 65536
  holds_line =
      let e : k.line ≡ axiom_line d 0 = ap (λ (j : Counters). j.line) H.counters in
      omega (arith, e, D.size)

  pub holds_rule : nnf_axioms k.line (axioms_of (words s) n) (state_of k (words s)) ≡ normalized d limit
  holds_rule =
      let line : k.line ≡ axiom_line d 0 = ap (λ (j : Counters). j.line) H.counters in
      let visits : k.visits ≡ 0 = ap (λ (j : Counters). j.visits) H.counters in
      let most : k.limit ≡ limit = ap (λ (j : Counters). j.limit) H.counters in
      rw (line, visits, most, H.axioms, H.pool) refl
