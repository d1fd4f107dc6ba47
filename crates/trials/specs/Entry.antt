-- What the entries promise: the reply, and the clauses' meaning by the numbers in the store.
use Rattle.std.specs.Prelude.{List, ℕ, length, get_or}
use Prim.{Unit}
use Rattle.words.specs.Words.{words}
use Rattle.clausify.specs.Entry.{lent, Meaning}
use Rattle.states.specs.Test.{Verdict, holds, broken, Tested, told, refused, Lent}
use Rattle.trials.specs.Tried.{Tried}
use Rattle.trials.specs.Tried as Replies

-- the lengths of what is lent
abbrev pub lent_all : List ℕ → List ℕ → List ℕ → List ℕ → List ℕ → Lent
lent_all clauses atoms deferrals store scratch = record { run = lent clauses atoms deferrals scratch; store = length store }

-- what is broken, by an axiom's line or a clause's number, and how many elements are shown
abbrev pub verdict_reply : Verdict → Tried
verdict_reply holds = Replies.Holds
verdict_reply (broken n l) = Replies.Broken n (length l)

abbrev pub tried_of : Tested → Tried
tried_of (told a v) = verdict_reply v
tried_of (refused n line) = Replies.Refused n line

-- demand 3 of the clauses in these bytes, by the ten numbers in the store's front
abbrev pub MeaningStored : (deck clauses atoms store : List ℕ) → Type 0
MeaningStored deck c a store = Meaning deck c a (get_or (words store) 0 0) (get_or (words store) 8 0) (get_or (words store) 5 0)

abbrev pub MeantTried : (deck clauses atoms store : List ℕ) → Tried → Type 0
MeantTried deck c a store Replies.Holds = MeaningStored deck c a store
MeantTried deck c a store (Replies.Broken n k) = MeaningStored deck c a store
MeantTried deck c a store (Replies.Refused n line) = Unit {0}
