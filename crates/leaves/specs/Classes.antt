-- The code's reading of classes and roles.
use Rattle.std.specs.Prelude.{Bool, true, false, eqb, Option, Some, None}
use Rattle.std.proofs.Math.Option as Rules
use Prim.{Unit}
use Rattle.rules.specs.Concept.{Concept}
use Rattle.rules.specs.Concept.{Top, Bot, Atomic, Nominal, SelfRestriction, Not, And, Or, Some, All, Min, Max}

-- the code's option as the rules have it
abbrev pub option_in : {A : Type 0} → Option A → Rules.Option A
option_in (Some a) = Rules.some a
option_in None = Rules.none

abbrev pub HasRole : Concept → Type 0
HasRole Top = ⊥
HasRole Bot = ⊥
HasRole (Atomic _) = ⊥
HasRole (Nominal _) = ⊥
HasRole (SelfRestriction _) = Unit {0}
HasRole (Not _) = ⊥
HasRole (And _) = ⊥
HasRole (Or _) = ⊥
HasRole (Some _ _) = Unit {0}
HasRole (All _ _) = Unit {0}
HasRole (Min _ _ _) = Unit {0}
HasRole (Max _ _ _) = Unit {0}

-- a restriction that is an atom over a named filler
abbrev pub Restricts : Concept → Type 0
Restricts Top = ⊥
Restricts Bot = ⊥
Restricts (Atomic _) = ⊥
Restricts (Nominal _) = ⊥
Restricts (SelfRestriction _) = ⊥
Restricts (Not _) = ⊥
Restricts (And _) = ⊥
Restricts (Or _) = ⊥
Restricts (Some _ _) = Unit {0}
Restricts (All _ _) = ⊥
Restricts (Min _ _ _) = Unit {0}
Restricts (Max _ _ _) = Unit {0}

abbrev pub at_least_none : Concept → Bool
at_least_none Top = false
at_least_none Bot = false
at_least_none (Atomic _) = false
at_least_none (Nominal _) = false
at_least_none (SelfRestriction _) = false
at_least_none (Not _) = false
at_least_none (And _) = false
at_least_none (Or _) = false
at_least_none (Some _ _) = false
at_least_none (All _ _) = false
at_least_none (Min n _ _) = eqb n 0
at_least_none (Max _ _ _) = false

abbrev pub is_max : Concept → Bool
is_max Top = false
is_max Bot = false
is_max (Atomic _) = false
is_max (Nominal _) = false
is_max (SelfRestriction _) = false
is_max (Not _) = false
is_max (And _) = false
is_max (Or _) = false
is_max (Some _ _) = false
is_max (All _ _) = false
is_max (Min _ _ _) = false
is_max (Max _ _ _) = true

-- neither Top nor a class or an individual: a name of it is a fresh one
abbrev pub anew : Concept → Bool
anew Top = false
anew Bot = true
anew (Atomic _) = false
anew (Nominal _) = false
anew (SelfRestriction _) = true
anew (Not _) = true
anew (And _) = true
anew (Or _) = true
anew (Some _ _) = true
anew (All _ _) = true
anew (Min _ _ _) = true
anew (Max _ _ _) = true
