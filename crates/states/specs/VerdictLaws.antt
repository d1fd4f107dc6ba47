-- The verdict is 'holds' exactly when every axiom is satisfied, or every clause holds; otherwise it names the first broken one.
-- Assumes nothing.
use Rattle.std.specs.Prelude.{◌≡◌, Bool, true, false, ◌&&◌, ℕ, ◌+◌, length}
use Rattle.std.proofs.Math.Path.{refl, ap}
use Rattle.std.proofs.Common.{sym, ◌∙◌, arith}
use Rattle.std.proofs.lemmas.Bool.{false≢true}
use mathlib.Core.List.{List, [], ◌∷◌, ◌++◌, map}
use Rattle.std.proofs.Math.Option.{Option, none, some}
use Rattle.rules.specs.Base.{all}
use Rattle.rules.specs.State.{Clause}
use Rattle.rules.specs.Deck.{Known, axiom_line}
use Rattle.rules.specs.Invariants.{Each}
use Rattle.rules.specs.Semantics.{Interpretation, satisfied, clause_holds}
use Rattle.rules.specs.Statements.{satisfies_all, all_hold}
use Rattle.meaning.specs.Truth.{and_left, and_right, all_append}
use Rattle.states.specs.Conditions.{axiom_broken, clause_broken}
use Rattle.states.specs.LeastLaws.{is_none}
use Rattle.states.specs.HoldsLaws.{axiom_holds, clause_holds_lem}
use Rattle.states.specs.Test.{Verdict, holds, broken, or_broken, first_broken, axioms_verdict, clauses_verdict}

abbrev pub is_holds : Verdict → Bool
is_holds holds = true
is_holds (broken n l) = false

pub holds_is : (v : Verdict) → is_holds v ≡ true → v ≡ holds
holds_is holds h = refl
holds_is (broken n l) h = absurd (false≢true h)

module _ {A : Type 0} (f : A → Option (List ℕ)) where
  or_holds : (n : ℕ) (o : Option (List ℕ)) (v : Verdict) → is_holds (or_broken n o v) ≡ is_none o && is_holds v
  or_holds n none v = refl
  or_holds n (some l) v = refl

  pub first_holds : (n : ℕ) (l : List A) → is_holds (first_broken f n l) ≡ all (λ a. is_none (f a)) l
  unfolding first_broken
  first_holds n [] = refl
  first_holds n (a ∷ l) = or_holds n (f a) (first_broken f (n + 1) l) ∙ ap (λ b. is_none (f a) && b) (first_holds (n + 1) l)

  -- the first broken one: what stands before it is not broken
  pub record First (n : ℕ) (l : List A) (m : ℕ) (x : List ℕ) : Type 0 where
    pub before : List A
    pub this : A
    pub after : List A
    pub parts : l ≡ before ++ (this ∷ after)
    pub number : m ≡ n + length before
    pub whole : Each (λ a. f a ≡ none) before
    pub breaks : f this ≡ some x

  -- what passes for all passes for it
  pub first_passes : (n : ℕ) (l : List A) (m : ℕ) (x : List ℕ) (F : First n l m x) (p : A → Bool) → all p l ≡ true → p F.this ≡ true
  first_passes n l m x F p h =
      and_left (p F.this) (all p F.after) (and_right (all p F.before) (all p (F.this ∷ F.after)) (sym (all_append p F.before (F.this ∷ F.after)) ∙ ap (all p) (sym F.parts) ∙ h))

broken_number : (n m : ℕ) (x y : List ℕ) → broken n x ≡ broken m y → (m ≡ n) × (x ≡ y)
broken_number n m x y e = (sym (ap number e), ap shown e)
  where
    number : Verdict → ℕ
    number holds = 0
    number (broken n x) = n

    shown : Verdict → List ℕ
    shown holds = []
    shown (broken n x) = x

pub first_broken_lem : {A : Type 0} (f : A → Option (List ℕ)) (n : ℕ) (l : List A) (m : ℕ) (x : List ℕ) → first_broken f n l ≡ broken m x → First f n l m x
unfolding first_broken
first_broken_lem f n [] m x h = absurd (false≢true (ap is_holds (sym h)))
first_broken_lem f n (a ∷ l) m x h = go (λ q. first_broken_lem f (n + 1) l m x q) (f a) refl h
  where
    go : (first_broken f (n + 1) l ≡ broken m x → First f (n + 1) l m x) → (o : Option (List ℕ)) → f a ≡ o → or_broken n o (first_broken f (n + 1) l) ≡ broken m x → First f n (a ∷ l) m x
    go rest none e q =
        let F = rest q in
        record { before = a ∷ F.before; this = F.this; after = F.after; parts = ap (λ k. a ∷ k) F.parts; number = omega (arith, F.number); whole = (e, F.whole); breaks = F.breaks }
    go rest (some y) e q =
        let w = broken_number n m y x q in
        record { before = []; this = a; after = l; parts = refl; number = omega (arith, w.0); whole = tt; breaks = e ∙ ap some w.1 }

-- ---- of axioms and clauses
pub all_eq : {A : Type 0} (f g : A → Bool) (l : List A) → ((a : A) → f a ≡ g a) → all f l ≡ all g l
all_eq f g [] h = refl
all_eq f g (a ∷ l) h = rw (h a, all_eq f g l h) refl

pub axioms_hold : (I : Interpretation) (d : Known) → is_holds (axioms_verdict I d) ≡ satisfies_all d I
axioms_hold I d = first_holds (axiom_broken I d.concepts) (axiom_line d 0) d.axioms ∙ all_eq _ (satisfied I d.concepts) d.axioms (λ a. sym (axiom_holds I d.concepts a))

pub clauses_hold_lem : (I : Interpretation) (l : List Clause) → is_holds (clauses_verdict I l) ≡ all_hold I (map some l)
clauses_hold_lem I l = first_holds (clause_broken I) 0 l ∙ all_eq (λ c. is_none (clause_broken I c)) (clause_holds I) l (λ c. sym (clause_holds_lem I c)) ∙ sym (mapped l)
  where
    mapped : (l : List Clause) → all_hold I (map some l) ≡ all (clause_holds I) l
    mapped [] = refl
    mapped (c ∷ l) = ap (λ b. clause_holds I c && b) (mapped l)
