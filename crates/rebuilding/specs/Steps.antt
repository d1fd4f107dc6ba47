-- One step of to_nnf, or where the concept is negated of push_negation_in, as three: the parts that are visited, whether they are
-- negated, and the concept that is made of their normal forms. Each by the rows of the class-expression table of OWL 2 Direct
-- Semantics, in its order, as the rules' `nnf_step`.
use Rattle.std.specs.Prelude.{Bool, true, false, not, List, [], ◌∷◌, ℕ, zero, suc, get_or}
use Rattle.rules.specs.Base.{M, return}
use Rattle.rules.specs.Concept.{Concept}
use Rattle.rules.specs.Concept.{Top, Bot, Atomic, Nominal, SelfRestriction, Not, And, Or, Some, All, Min, Max}
use Rattle.rules.specs.Pool.{Pool, mk_top, mk_bot, mk_not, mk_some, mk_all, mk_min, mk_max, mk_and, mk_or}

-- all that the concept names, but nothing of a negated Min 0
abbrev pub visited_parts : Bool → Concept → List ℕ
-- intersection
visited_parts _ (And l) = l
-- union
visited_parts _ (Or l) = l
-- complement
visited_parts _ (Not d) = d ∷ []
-- individuals
visited_parts _ (Nominal _) = []
-- Some
visited_parts _ (Some _ d) = d ∷ []
-- All
visited_parts _ (All _ d) = d ∷ []
-- Self
visited_parts _ (SelfRestriction _) = []
-- Min
visited_parts false (Min _ _ d) = d ∷ []
visited_parts true (Min zero _ d) = []
visited_parts true (Min (suc _) _ d) = d ∷ []
-- Max
visited_parts _ (Max _ _ d) = d ∷ []
-- Top, Bot and classes
visited_parts _ Top = []
visited_parts _ Bot = []
visited_parts _ (Atomic _) = []

-- whether a part is negated
abbrev pub part_negated : Bool → Concept → Bool
-- intersection
part_negated b (And _) = b
-- union
part_negated b (Or _) = b
-- complement
part_negated b (Not _) = not b
-- individuals
part_negated b (Nominal _) = b
-- Some
part_negated b (Some _ _) = b
-- All
part_negated b (All _ _) = b
-- Self
part_negated b (SelfRestriction _) = b
-- Min
part_negated b (Min _ _ _) = false
-- Max
part_negated b (Max _ _ _) = false
-- Top, Bot and classes
part_negated b Top = b
part_negated b Bot = b
part_negated b (Atomic _) = b

abbrev pub first : List ℕ → ℕ
first l = get_or l 0 0

-- concept c, which is e, of its parts' normal forms l
abbrev pub rebuilt : Bool → ℕ → Concept → List ℕ → M Pool ℕ
-- intersection
rebuilt false c (And _) l = mk_and l
rebuilt true c (And _) l = mk_or l
-- union
rebuilt false c (Or _) l = mk_or l
rebuilt true c (Or _) l = mk_and l
-- complement
rebuilt false c (Not _) l = return (first l)
rebuilt true c (Not _) l = return (first l)
-- individuals
rebuilt false c (Nominal _) l = return c
rebuilt true c (Nominal _) l = mk_not c
-- Some
rebuilt false c (Some r _) l = mk_some r (first l)
rebuilt true c (Some r _) l = mk_all r (first l)
-- All
rebuilt false c (All r _) l = mk_all r (first l)
rebuilt true c (All r _) l = mk_some r (first l)
-- Self
rebuilt false c (SelfRestriction _) l = return c
rebuilt true c (SelfRestriction _) l = mk_not c
-- Min
rebuilt false c (Min n r _) l = mk_min n r (first l)
rebuilt true c (Min zero r _) l = mk_bot
rebuilt true c (Min (suc n) r _) l = mk_max n r (first l)
-- Max
rebuilt false c (Max n r _) l = mk_max n r (first l)
rebuilt true c (Max n r _) l = mk_min (suc n) r (first l)
-- Top, Bot and classes
rebuilt false c Top l = return c
rebuilt true c Top l = mk_bot
rebuilt false c Bot l = return c
rebuilt true c Bot l = mk_top
rebuilt false c (Atomic _) l = return c
rebuilt true c (Atomic _) l = mk_not c
