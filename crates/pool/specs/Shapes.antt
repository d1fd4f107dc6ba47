-- Concepts and their records: each is made of the other. Assumes nothing.
use Rattle.std.specs.Prelude.{◌≡◌, refl, Bool, true, false, List, ℕ, ◌≤◌, length, eqb}
use Rattle.std.proofs.Common.{sym, ap, ◌∙◌, arith, eqb-true}
use Rattle.ir.specs.Pick.{pick}
use Rattle.ir.specs.Roles.{role_code_lem}
use Rattle.rules.specs.Concept.{Concept}
use Rattle.rules.specs.Concept.{Top, Bot, Atomic, Nominal, SelfRestriction, Not, And, Or, Some, All, Min, Max}
use Rattle.rules.specs.Pool.{width}
use Rattle.rules.specs.TextLaws.{by_test}
use Rattle.pool.specs.declared.record.Record.{Record}
use Rattle.pool.specs.Layout.{record_words, is_list, count_of, concept_from, plain, starts_at, listed, tab, run, concept_over}

-- a concept is made of its record and its list
pub plain_back : (e : Concept) → concept_from (plain e) (listed e) ≡ e
unfolding concept_from
plain_back Top = refl
plain_back Bot = refl
plain_back (Atomic _) = refl
plain_back (Nominal _) = refl
plain_back (SelfRestriction r) = rw (role_code_lem r)
plain_back (Not _) = refl
plain_back (And _) = refl
plain_back (Or _) = refl
plain_back (Some r _) = rw (role_code_lem r)
plain_back (All r _) = rw (role_code_lem r)
plain_back (Min _ r _) = rw (role_code_lem r)
plain_back (Max _ r _) = rw (role_code_lem r)

pub width_listed : (e : Concept) → width e ≡ length (listed e)
width_listed Top = refl
width_listed Bot = refl
width_listed (Atomic _) = refl
width_listed (Nominal _) = refl
width_listed (SelfRestriction _) = refl
width_listed (Not _) = refl
width_listed (And _) = refl
width_listed (Or _) = refl
width_listed (Some _ _) = refl
width_listed (All _ _) = refl
width_listed (Min _ _ _) = refl
width_listed (Max _ _ _) = refl

pub count_plain : (e : Concept) → count_of (plain e) ≡ width e
count_plain Top = refl
count_plain Bot = refl
count_plain (Atomic _) = refl
count_plain (Nominal _) = refl
count_plain (SelfRestriction _) = refl
count_plain (Not _) = refl
count_plain (And _) = refl
count_plain (Or _) = refl
count_plain (Some _ _) = refl
count_plain (All _ _) = refl
count_plain (Min _ _ _) = refl
count_plain (Max _ _ _) = refl

pub plain_kind : (e : Concept) → (1 ≤ (plain e).kind) × ((plain e).kind ≤ 12)
plain_kind Top = omega arith
plain_kind Bot = omega arith
plain_kind (Atomic _) = omega arith
plain_kind (Nominal _) = omega arith
plain_kind (SelfRestriction _) = omega arith
plain_kind (Not _) = omega arith
plain_kind (And _) = omega arith
plain_kind (Or _) = omega arith
plain_kind (Some _ _) = omega arith
plain_kind (All _ _) = omega arith
plain_kind (Min _ _ _) = omega arith
plain_kind (Max _ _ _) = omega arith

-- the two kinds of lists
pub list_kinds_lem : {P : Type 0} (k : ℕ) → is_list k ≡ true → (k ≡ 7 → P) → (k ≡ 8 → P) → P
list_kinds_lem k h f g = by_test (eqb k 7) (λ a. f (eqb-true k 7 a)) (λ a. g (eqb-true k 8 (sym (rw a refl) ∙ h)))

-- a list is its own words, wherever its run starts
pub list_from : (x y : Record) (l : List ℕ) → x.kind ≡ y.kind → is_list x.kind ≡ true → concept_from x l ≡ concept_from y l
unfolding concept_from
list_from x y l e h = list_kinds_lem x.kind h
    (λ a. let b : y.kind ≡ 7 = sym e ∙ a in rw (a, b) refl)
    (λ a. let b : y.kind ≡ 8 = sym e ∙ a in rw (a, b) refl)

pub list_listed : (x : Record) (l : List ℕ) → is_list x.kind ≡ true → listed (concept_from x l) ≡ l
unfolding concept_from
list_listed x l h = list_kinds_lem x.kind h (λ a. rw a refl) (λ a. rw a refl)

pub from_starts : (s : ℕ) (x : Record) (l : List ℕ) → concept_from (starts_at s x) l ≡ concept_from x l
from_starts s x l = by_test (is_list x.kind) (λ a. list_from (starts_at s x) x l refl a)
    (λ a. ap (λ (c : ℕ). concept_from (record_words x.kind x.role x.number c) l) (ap (λ (b : Bool). pick b s x.child) a))

-- the list of a concept that was made of plain words
pub listed_over : (w : List ℕ) (i : ℕ) (x : Record) → plain (concept_over w i x) ≡ x → listed (concept_over w i x) ≡ run w i (count_of x)
unfolding tab
listed_over w i x h = by_test (is_list x.kind) (λ a. list_listed x (run w i (count_of x)) a)
    (λ a. let b : is_list (plain (concept_over w i x)).kind ≡ false = ap (λ (y : Record). is_list y.kind) h ∙ a in rw (b, a) refl)
