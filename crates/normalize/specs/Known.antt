-- The words of scratch that say which normal forms are known.
use Rattle.std.specs.Prelude.{Bool, true, false, List, ℕ, ◌+◌, ◌*◌, ◌-◌, ◌/◌, ◌%◌, ◌<◌, ◌≤◌, get_or, set, eqb, ltb, leb, Option, Some, None}
use Rattle.ir.specs.Counts.{counters}
use Rattle.ir.specs.Pick.{pick}
use Rattle.ir.specs.Scratch.{normal_forms_at}
use Rattle.ir.specs.declared.counters.Counters.{Counters}
use Rattle.ir.specs.Answer.{Answer}
use Rattle.ir.specs.Answer.{Done, Refused}
use Rattle.rules.specs.Pool.{Pool, most_concepts}
use Rattle.pool.specs.Layout.{pool_of}
use Rattle.normalize.specs.declared.known.Form.{Form}
use Rattle.normalize.specs.Settled.{Settled}

-- the word of concept c, or of its negation
abbrev pub form_at : Bool → ℕ → ℕ
form_at false c = normal_forms_at + 2 * c
form_at true c = normal_forms_at + 2 * c + 1

-- 0, or the visits and the id
abbrev pub Says : Pool → Bool → ℕ → ℕ → Type 0
Says p b c x = 1 ≤ x → Settled p b c (x % most_concepts) (x / most_concepts)

pub record Known (w : List ℕ) (n : ℕ) : Type 0 where
  pub says : (b : Bool) (c : ℕ) → c < most_concepts → Says (pool_of w n) b c (get_or w (form_at b c) 0)

-- where a caller keeps them
abbrev pub KnownIf : Bool → List ℕ → ℕ → Type 0
KnownIf true w n = Known w n
KnownIf false w n = Unit {0}

abbrev pub KnownAfter : Bool → Answer → List ℕ → Type 0
KnownAfter b (Done k i) w = KnownIf b w k.concepts
KnownAfter b (Refused e) w = Unit {0}

-- the form of a word
abbrev pub read_form : ℕ → Option Form
read_form x = pick (eqb x 0) None (Some (record { id = x % most_concepts; visits = x / most_concepts }))

-- a form again, after its visits
abbrev pub visited_again : Counters → ℕ → Counters
visited_again k v = counters (k.visits + v) k.limit k.concepts k.members k.next_var k.next_class k.clauses k.atoms k.deferrals k.line k.nominal_base k.options

abbrev pub revisited : Counters → Form → Answer
revisited k x = pick (leb (k.visits + x.visits) k.limit) (Done (visited_again k x.visits) x.id) (Refused 10)

-- word j after concept i was made in v visits: 2 ^ 21 of them are too many for it
abbrev pub kept_form : List ℕ → (j i v : ℕ) → List ℕ
kept_form w j i v = pick (ltb v 2097152) (set w j (most_concepts * v + i)) w

-- an answer after at least `visits`, and its id in a word
abbrev pub MadeSince : ℕ → Answer → Type 0
MadeSince visits (Done k i) = (visits ≤ k.visits) × (i < most_concepts)
MadeSince visits (Refused e) = Unit {0}

abbrev pub kept_answer : List ℕ → (j visits : ℕ) → Answer → List ℕ
kept_answer w j visits (Done k i) = kept_form w j i (k.visits - visits)
kept_answer w j visits (Refused e) = w
