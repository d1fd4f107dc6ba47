-- A deck that was read, in scratch.
use Rattle.std.specs.Prelude.{◌≡◌, List, ℕ, length, Result, Ok, Err}
use Rattle.ir.specs.Counts.{counters}
use Rattle.ir.specs.Refusals.{refusal_number}
use Rattle.ir.specs.declared.answer.Refused.{Refused as CodeRefused}
use Rattle.ir.specs.declared.counters.Counters.{Counters}
use Rattle.rules.specs.Pool.{members}
use Rattle.rules.specs.Deck.{Known, Told, fine, refused, axiom_line}
use Rattle.rules.specs.Run.{first_fresh}
use Rattle.pool.specs.Layout.{pool_of}
use Rattle.pool.specs.Held.{Held}
use Rattle.ontology.specs.Layout.{axioms_of, AxiomsHeld, KeysHeld}

-- the counters before the first visit, at the first axiom's line
abbrev pub begin : Known → ℕ → Counters
begin d limit = counters 0 limit (length d.concepts) (members d.concepts) 1 (first_fresh d) 0 0 0 (axiom_line d 0) d.header.classes d.header.options

-- all that is known of a deck, in the words w, with n axioms
pub record Holds (d : Known) (limit : ℕ) (w : List ℕ) (k : Counters) (n : ℕ) : Type 0 where
  pub counters : k ≡ begin d limit
  pub held : Held w k.concepts k.members
  pub pool : pool_of w k.concepts ≡ d.concepts
  pub count : n ≡ length d.axioms
  pub lines : AxiomsHeld w n
  pub axioms : axioms_of w n ≡ d.axioms
  pub keys : KeysHeld w d.keys

-- the code's answer: the counters and the number of axioms, or a refusal's number and its line
pub data Loaded : Type 0 where
  Accepted : Counters → ℕ → Loaded
  Refused : ℕ → ℕ → Loaded

abbrev pub read_of : Counters × ℕ → Loaded
read_of r = Accepted r.0 r.1

abbrev pub loaded_of : Result (Counters × ℕ) CodeRefused → Loaded
loaded_of (Ok r) = read_of r
loaded_of (Err e) = Refused (refusal_number e.refusal) e.line

-- beside the reading's
pub data LoadedAs (limit : ℕ) (t : Told) (w : List ℕ) : Loaded → Type 0 where
  loaded : (d : Known) (k : Counters) (n : ℕ) → t ≡ fine d → Holds d limit w k n → LoadedAs limit t w (Accepted k n)
  stopped : (e line : ℕ) → t ≡ refused e line → LoadedAs limit t w (Refused e line)
