-- encode_antecedent by its numbers alone: how many alternatives there are and how long the longest is.
use Rattle.std.specs.Prelude.{Bool, true, false, List, [], ◌∷◌, ℕ, zero, suc, ◌+◌, ◌*◌, max, eqb, leb}
use Prim.{Unit}
use Rattle.ir.specs.Pick.{pick}
use Rattle.ir.specs.Counts.{visited, fresh_var}
use Rattle.ir.specs.declared.counters.Counters.{Counters}
use Rattle.ir.specs.Visit.{Visit}
use Rattle.ir.specs.Visit.{Begun, Full}
use Rattle.ir.specs.Encoded.{Encoded}
use Rattle.ir.specs.Encoded.{Found, Unsupported, Refused}
use Rattle.rules.specs.Concept.{Concept}
use Rattle.rules.specs.Concept.{Top, Bot, Atomic, Nominal, SelfRestriction, Not, And, Or, Some, All, Min, Max}
use Rattle.rules.specs.Pool.{Pool, at}
use Rattle.pool.specs.declared.joint.Joint.{Joint}
use Rattle.pool.specs.declared.joint.Joint.TheVariants.{And as AndJoint, Or as OrJoint}
use Rattle.tables.specs.Good.{Good}

-- n alternatives, the longest of length l, with m of length j: every combination, and one list behind the other
abbrev pub crossed : Counters → ℕ → ℕ → ℕ → ℕ → Encoded
crossed k n l m j =
    pick (eqb (n * m) 0) (Found k 0 0)
    (pick (leb (l + j) 256) (pick (leb (n * m) 64) (Found k (n * m) (l + j)) (Unsupported k)) (Refused 12))

abbrev pub listed : Counters → ℕ → ℕ → ℕ → ℕ → Encoded
listed k n l m j = pick (leb (n + m) 64) (Found k (n + m) (max l j)) (Unsupported k)

-- And is true, Or false, in what follows
abbrev pub is_conj : Joint → Bool
is_conj AndJoint = true
is_conj OrJoint = false

-- the alternatives of no part
abbrev pub first_of : Bool → ℕ
first_of true = 1
first_of false = 0

-- a part of an And or Or more
abbrev pub joined : Bool → ℕ → ℕ → Encoded → Encoded
joined true n l (Found k m j) = crossed k n l m j
joined false n l (Found k m j) = listed k n l m j
joined b n l (Unsupported k) = Unsupported k
joined b n l (Refused e) = Refused e

-- one atom before each alternative
abbrev pub under : Encoded → Encoded
under (Found k n l) = pick (eqb n 0) (Found k 0 0) (pick (leb (l + 1) 256) (Found k n (l + 1)) (Refused 12))
under (Unsupported k) = Unsupported k
under (Refused e) = Refused e

abbrev pub on_found : Encoded → (Counters → ℕ → ℕ → Encoded) → Encoded
on_found (Found k n l) g = g k n l
on_found (Unsupported k) g = Unsupported k
on_found (Refused e) g = Refused e

unfoldable pub count_all : (Counters → ℕ → Encoded) → Bool → List ℕ → Encoded → Encoded
count_all G b [] acc = acc
count_all G b (x ∷ l) acc = on_found acc (λ k n j. count_all G b l (joined b n j (G k x)))

abbrev pub count_step : (Counters → ℕ → Encoded) → Counters → Concept → Encoded
count_step G k Top = Found k 1 0
count_step G k Bot = Unsupported k
count_step G k (Atomic _) = Found k 1 1
count_step G k (Nominal _) = Found k 1 1
count_step G k (SelfRestriction _) = Unsupported k
count_step G k (Not _) = Unsupported k
count_step G k (And l) = count_all G true l (Found k 1 0)
count_step G k (Or l) = count_all G false l (Found k 0 0)
count_step G k (Some _ d) = under (G (fresh_var k) d)
count_step G k (All _ _) = Unsupported k
count_step G k (Min _ _ _) = Unsupported k
count_step G k (Max _ _ _) = Unsupported k

abbrev pub on_visit : Visit → (Counters → Encoded) → Encoded
on_visit (Begun k) g = g k
on_visit Full g = Refused 10

unfoldable pub count : Pool → ℕ → Counters → ℕ → Encoded
count p zero k c = Refused 0
count p (suc f) k c = on_visit (visited k) (λ k₁. count_step (λ k₂ d. count p f k₂ d) k₁ (at p c))

abbrev pub GoodEncoded : Encoded → Type 0
GoodEncoded (Found k n l) = Good k
GoodEncoded (Unsupported k) = Good k
GoodEncoded (Refused e) = Unit {0}
