-- The rules' state in scratch and the counters, and an answer of the code beside a rule's.
use Rattle.std.specs.Prelude.{◌≡◌, Bool, List, ℕ, suc, ◌+◌, ◌*◌, ◌<◌, ◌≤◌, length, get_or}
use Rattle.words.specs.Words.{words}
use Rattle.ir.specs.Counts.{counters}
use Rattle.ir.specs.Scratch.{keys_at, normal_forms_at, hands_at}
use Rattle.ir.specs.declared.counters.Counters.{Counters}
use Rattle.ir.specs.Answer.{Answer}
use Rattle.ir.specs.Answer.{Done, Refused}
use Rattle.rules.specs.Base.{Res, ok, refused}
use Rattle.rules.specs.Pool.{members}
use Rattle.rules.specs.Normalize.{St}
use Rattle.rules.specs.Invariants.{Each, Bounds, Wf}
use Rattle.pool.specs.Layout.{run, concept_at, pool_of}
use Rattle.pool.specs.Held.{Held, Ready}
use Rattle.pool.specs.Answers.{Drawn, drawn, Interned}
use Rattle.rebuilding.specs.Steps.{visited_parts, rebuilt}

abbrev pub state_of : Counters → List ℕ → St
state_of k w = record { pool = pool_of w k.concepts; visits = k.visits; limit = k.limit }

-- the counters with a state's numbers
abbrev pub counted : Counters → St → Counters
counted k s = counters s.visits s.limit (length s.pool) (members s.pool) k.next_var k.next_class k.clauses k.atoms k.deferrals k.line k.nominal_base k.options

abbrev pub told : {A : Type 0} → Counters → Res St A → Res Drawn A
told k (ok a s) = ok a (drawn (counted k s) s.pool)
told k (refused e) = refused e

-- the code's answer for a run of words: the words at exit
abbrev pub after_run : Answer → List ℕ → List ℕ → Res Drawn (List ℕ)
after_run (Done k i) l w = ok l (drawn k (pool_of w k.concepts))
after_run (Refused e) l w = refused e

abbrev pub HeldRun : Answer → List ℕ → Type 0
HeldRun (Done k i) w = Held w k.concepts k.members
HeldRun (Refused e) w = Unit {0}

-- of the words above the marks only n from word i on, and the stack from top on, were written
pub record Kept (i n top : ℕ) (w w' : List ℕ) : Type 0 where
  pub before : (j : ℕ) → keys_at ≤ j → j < i → get_or w' j 0 ≡ get_or w j 0
  pub between : (j : ℕ) → i + n ≤ j → j < top → get_or w' j 0 ≡ get_or w j 0
  pub behind : (j : ℕ) → hands_at ≤ j → get_or w' j 0 ≡ get_or w j 0

-- ---- what the code asks of scratch's bytes s: the words of the stack from top on are free
-- for concept c, whose parts and those of the concepts below it fit there
pub record Normalizing (s : List ℕ) (k : Counters) (top c : ℕ) : Type 0 where
  pub bounds : Bounds
  pub ready : Ready s k
  pub wf : Wf bounds (pool_of (words s) k.concepts)
  pub held : c < k.concepts
  pub above : keys_at ≤ top
  pub room : top + members (pool_of (words s) (suc c)) + suc c ≤ normal_forms_at
  pub space : 4 * hands_at ≤ length s

-- for the concepts in the n words from i on, all below c
pub record NormalizingRun (s : List ℕ) (k : Counters) (i n top c : ℕ) : Type 0 where
  pub bounds : Bounds
  pub ready : Ready s k
  pub wf : Wf bounds (pool_of (words s) k.concepts)
  pub inside : c ≤ k.concepts
  pub below : Each (λ d. d < c) (run (words s) i n)
  pub above : keys_at ≤ i
  pub apart : i + n ≤ top
  pub room : top + members (pool_of (words s) c) + c ≤ normal_forms_at
  pub space : 4 * hands_at ≤ length s

-- to make concept c again of the normal forms in the n words from top on; the first of them is read of any concept
pub record Rebuilding (s : List ℕ) (k : Counters) (top c n : ℕ) (b : Bool) : Type 0 where
  pub bounds : Bounds
  pub ready : Ready s k
  pub wf : Wf bounds (pool_of (words s) k.concepts)
  pub held : c < k.concepts
  pub count : n ≡ length (visited_parts b (concept_at (words s) c))
  pub below : Each (λ d. d < k.concepts) (run (words s) top n)
  pub above : keys_at ≤ top
  pub within : 4 * (top + suc n) ≤ length s

abbrev pub RebuildingAfter : List ℕ → Answer → (top c n : ℕ) → Bool → Type 0
RebuildingAfter s (Done k i) top c n b = Rebuilding s k top c n b
RebuildingAfter s (Refused e) top c n b = Unit {0}

-- the concept made again, or the refusal handed on
abbrev pub RebuiltAfter : Answer → (top c n : ℕ) → Bool → (w w' : List ℕ) → Answer → Type 0
RebuiltAfter (Done k i) top c n b w w' r = Interned k (rebuilt b c (concept_at w c) (run w top n)) w w' r
RebuiltAfter (Refused e) top c n b w w' r = r ≡ Refused e
