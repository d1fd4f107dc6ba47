-- Where the pool stands in the words w of scratch, and the pool that they are.
use Rattle.std.specs.Prelude.{Bool, true, List, [], ◌∷◌, ℕ, zero, suc, ◌+◌, ◌*◌, length, get_or, set, eqb}
use Rattle.std.proofs.lemmas.List.Edits.{sets}
use Rattle.ir.specs.Pick.{pick}
use Rattle.ir.specs.Roles.{role_code, role_of}
use Rattle.rules.specs.Concept.{Concept}
use Rattle.rules.specs.Concept.{Top, Bot, Atomic, Nominal, SelfRestriction, Not, And, Or, Some, All, Min, Max}
use Rattle.rules.specs.Pool.{Pool}
use Rattle.rules.specs.Deck.{parts_of}
use Rattle.pool.specs.declared.record.Record.{Record}

-- the first words of the lists' members, of the index's heads, and above the pool
abbrev pub members_at : ℕ
members_at = 12288

abbrev pub heads_at : ℕ
heads_at = 28672

abbrev pub pool_words : ℕ
pool_words = 30720

abbrev pub pool_bytes : ℕ
pool_bytes = 122880

-- f of i and the numbers after it, n of them
unfoldable pub tab : {A : Type 0} → (ℕ → A) → ℕ → ℕ → List A
tab f i zero = []
tab f i (suc n) = f i ∷ tab f (i + 1) n

-- n words from word i on
abbrev pub run : List ℕ → ℕ → ℕ → List ℕ
run w i n = tab (λ j. get_or w j 0) i n

-- word j of record c: kind, role code, number, child, list members in use after the record, and the index's link
abbrev pub field : List ℕ → ℕ → ℕ → ℕ
field w c j = get_or w (6 * c + j) 0

abbrev pub record_words : ℕ → ℕ → ℕ → ℕ → Record
record_words k r n c = record { kind = k; role = r; number = n; child = c }

abbrev pub record_at : List ℕ → ℕ → Record
record_at w c = record_words (field w c 0) (field w c 1) (field w c 2) (field w c 3)

-- And and Or
abbrev pub is_list : ℕ → Bool
is_list k = pick (eqb k 7) true (eqb k 8)

-- how many members a record has
abbrev pub count_of : Record → ℕ
count_of x = pick (is_list x.kind) x.number 0

-- a concept of its record and its list
unfoldable pub concept_from : Record → List ℕ → Concept
concept_from x l =
    pick (eqb x.kind 1) Top
    (pick (eqb x.kind 2) Bot
    (pick (eqb x.kind 3) (Atomic x.number)
    (pick (eqb x.kind 4) (Nominal x.number)
    (pick (eqb x.kind 5) (SelfRestriction (role_of x.role))
    (pick (eqb x.kind 6) (Not x.child)
    (pick (eqb x.kind 7) (And l)
    (pick (eqb x.kind 8) (Or l)
    (pick (eqb x.kind 9) (Some (role_of x.role) x.child)
    (pick (eqb x.kind 10) (All (role_of x.role) x.child)
    (pick (eqb x.kind 11) (Min x.number (role_of x.role) x.child)
    (Max x.number (role_of x.role) x.child)))))))))))

-- a concept of its record and the words of its list, from word i on
abbrev pub concept_over : List ℕ → ℕ → Record → Concept
concept_over w i x = concept_from x (run w i (count_of x))

abbrev pub concept_at : List ℕ → ℕ → Concept
concept_at w c = concept_over w (members_at + field w c 3) (record_at w c)

-- the first n concepts
abbrev pub pool_of : List ℕ → ℕ → Pool
pool_of w n = tab (concept_at w) 0 n

-- the other way: a concept's record, where the start of a list's run is left out; the start; a concept's list
abbrev pub plain : Concept → Record
plain Top = record_words 1 0 0 0
plain Bot = record_words 2 0 0 0
plain (Atomic a) = record_words 3 0 a 0
plain (Nominal i) = record_words 4 0 i 0
plain (SelfRestriction r) = record_words 5 (role_code r) 0 0
plain (Not c) = record_words 6 0 0 c
plain (And l) = record_words 7 0 (length l) 0
plain (Or l) = record_words 8 0 (length l) 0
plain (Some r c) = record_words 9 (role_code r) 0 c
plain (All r c) = record_words 10 (role_code r) 0 c
plain (Min n r c) = record_words 11 (role_code r) n c
plain (Max n r c) = record_words 12 (role_code r) n c

abbrev pub starts_at : ℕ → Record → Record
starts_at s x = record_words x.kind x.role x.number (pick (is_list x.kind) s x.child)

abbrev pub listed : Concept → List ℕ
listed e = pick (is_list (plain e).kind) (parts_of e) []

-- ---- writes
-- a record's six words, with the members in use after it and its link
abbrev pub six_of : Record → ℕ → ℕ → List ℕ
six_of x u k = x.kind ∷ x.role ∷ x.number ∷ x.child ∷ u ∷ k ∷ []

-- record n, and first in the index under hash h
abbrev pub record_put : List ℕ → ℕ → ℕ → Record → ℕ → List ℕ
record_put w n h x u = set (sets w (6 * n) (six_of x u (get_or w (heads_at + h) 0))) (heads_at + h) (n + 1)

-- a concept behind n others that have m list members: its list, then its record
abbrev pub concept_put : List ℕ → ℕ → ℕ → ℕ → Record → List ℕ → List ℕ
concept_put w n m h x l = record_put (sets w (members_at + m) l) n h (starts_at m x) (m + count_of x)
