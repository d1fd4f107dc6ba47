-- ir.rs: the pool. Ids are places in the list; interning finds the equal record or adds one, and refuses (11) beyond
-- 2,048 concepts or 16,384 list members.
use Rattle.std.specs.Prelude.{Bool, true, false, ◌&&◌, ◌||◌, List, [], ◌∷◌, ◌++◌, ℕ, zero, suc, ◌+◌, length, get_or, ltb, leb, eqb}
use Rattle.std.proofs.Math.Option.{Option, none, some}
use Rattle.ir.specs.declared.role.Role.{Role}
use Rattle.rules.specs.Base.{Res, ok, refused, M, return}
use Rattle.rules.specs.Concept.{Concept, same_concept}
use Rattle.rules.specs.Concept.{Top, Bot, Atomic, Nominal, SelfRestriction, Not, And, Or, Some, All, Min, Max}

-- what the constructors read and write
abbrev pub Pool : Type 0
Pool = List Concept

abbrev pub most_concepts : ℕ
most_concepts = 2048

abbrev pub most_members : ℕ
most_members = 16384

-- get
abbrev pub at : Pool → ℕ → Concept
at p c = get_or p c Top

-- by_expr.get: the id of the equal record
abbrev pub found_in : Bool → Option ℕ → Option ℕ
found_in true o = some zero
found_in false none = none
found_in false (some i) = some (suc i)

unfoldable pub find : Concept → Pool → Option ℕ
find e [] = none
find e (x ∷ p) = found_in (same_concept e x) (find e p)

-- how many list members a record holds, and a pool
abbrev pub width : Concept → ℕ
width Top = 0
width Bot = 0
width (Atomic _) = 0
width (Nominal _) = 0
width (SelfRestriction _) = 0
width (Not _) = 0
width (And l) = length l
width (Or l) = length l
width (Some _ _) = 0
width (All _ _) = 0
width (Min _ _ _) = 0
width (Max _ _ _) = 0

unfoldable pub members : Pool → ℕ
members [] = 0
members (x ∷ p) = width x + members p

-- intern_raw
abbrev pub room : Concept → Pool → Bool → Res Pool ℕ
room e p true = ok (length p) (p ++ (e ∷ []))
room e p false = refused 11

abbrev pub interned : Concept → Pool → Option ℕ → Res Pool ℕ
interned e p (some i) = ok i p
interned e p none = room e p (ltb (length p) most_concepts && leb (members p + width e) most_members)

unfoldable pub intern_raw : Concept → M Pool ℕ
intern_raw e p = interned e p (find e p)

-- top, bot, not, some, all, max
abbrev pub mk_top : M Pool ℕ
mk_top = intern_raw Top

abbrev pub mk_bot : M Pool ℕ
mk_bot = intern_raw Bot

abbrev pub mk_not : ℕ → M Pool ℕ
mk_not c = intern_raw (Not c)

abbrev pub mk_some : Role → ℕ → M Pool ℕ
mk_some r c = intern_raw (Some r c)

abbrev pub mk_all : Role → ℕ → M Pool ℕ
mk_all r c = intern_raw (All r c)

abbrev pub mk_max : ℕ → Role → ℕ → M Pool ℕ
mk_max n r c = intern_raw (Max n r c)

-- min: at least none is Top
unfoldable pub mk_min : ℕ → Role → ℕ → M Pool ℕ
mk_min zero r c = mk_top
mk_min (suc n) r c = intern_raw (Min (suc n) r c)

-- ---- and, or
-- what an operand gives to the list: nothing (the identity), the short cut (the annihilator), its own operands, or itself
pub data Operand : Type 0 where
  identity annihilator itself : Operand
  operands : List ℕ → Operand

abbrev pub and_operand : Concept → Operand
and_operand Top = identity
and_operand Bot = annihilator
and_operand (Atomic _) = itself
and_operand (Nominal _) = itself
and_operand (SelfRestriction _) = itself
and_operand (Not _) = itself
and_operand (And l) = operands l
and_operand (Or _) = itself
and_operand (Some _ _) = itself
and_operand (All _ _) = itself
and_operand (Min _ _ _) = itself
and_operand (Max _ _ _) = itself

abbrev pub or_operand : Concept → Operand
or_operand Top = annihilator
or_operand Bot = identity
or_operand (Atomic _) = itself
or_operand (Nominal _) = itself
or_operand (SelfRestriction _) = itself
or_operand (Not _) = itself
or_operand (And _) = itself
or_operand (Or l) = operands l
or_operand (Some _ _) = itself
or_operand (All _ _) = itself
or_operand (Min _ _ _) = itself
or_operand (Max _ _ _) = itself

abbrev pub added : Operand → ℕ → List ℕ → List ℕ
added identity a l = l
added annihilator a l = l
added itself a l = a ∷ l
added (operands k) a l = k ++ l

abbrev pub annihilates : Operand → Bool
annihilates identity = false
annihilates annihilator = true
annihilates itself = false
annihilates (operands _) = false

-- the list, flattened; and whether one of it is the short cut
unfoldable pub flattened : (ℕ → Operand) → List ℕ → List ℕ
flattened f [] = []
flattened f (a ∷ l) = added (f a) a (flattened f l)

unfoldable pub any_annihilates : (ℕ → Operand) → List ℕ → Bool
any_annihilates f [] = false
any_annihilates f (a ∷ l) = annihilates (f a) || any_annihilates f l

-- sort_unstable and dedup: into a rising list
abbrev pub placed : ℕ → ℕ → List ℕ → List ℕ → Bool → Bool → List ℕ
placed x y l r true b = x ∷ y ∷ l
placed x y l r false true = y ∷ l
placed x y l r false false = y ∷ r

unfoldable pub insert : ℕ → List ℕ → List ℕ
insert x [] = x ∷ []
insert x (y ∷ l) = placed x y l (insert x l) (ltb x y) (eqb x y)

unfoldable pub sort_dedup : List ℕ → List ℕ
sort_dedup [] = []
sort_dedup (x ∷ l) = insert x (sort_dedup l)

-- collapse: of none the identity, of one that one
abbrev pub collapsed : Concept → (List ℕ → Concept) → List ℕ → M Pool ℕ
collapsed unit list [] = intern_raw unit
collapsed unit list (a ∷ []) = return a
collapsed unit list (a ∷ b ∷ l) = intern_raw (list (a ∷ b ∷ l))

abbrev pub and_of : List ℕ → Bool → M Pool ℕ
and_of l true = mk_bot
and_of l false = collapsed Top And (sort_dedup l)

unfoldable pub mk_and : List ℕ → M Pool ℕ
mk_and args p = and_of (flattened (λ a. and_operand (at p a)) args) (any_annihilates (λ a. and_operand (at p a)) args) p

abbrev pub or_of : List ℕ → Bool → M Pool ℕ
or_of l true = mk_top
or_of l false = collapsed Bot Or (sort_dedup l)

unfoldable pub mk_or : List ℕ → M Pool ℕ
mk_or args p = or_of (flattened (λ a. or_operand (at p a)) args) (any_annihilates (λ a. or_operand (at p a)) args) p
