-- The first of a list, and how many variables are seen in the end. Assumes nothing.
use Rattle.std.specs.Prelude.{Bool, true, false, ◌||◌, ◌≡◌, refl, List, [], ◌∷◌, ◌++◌, ℕ, suc, ◌+◌, ◌≤◌, ◌<◌, length, get_or, take, drop, eqb}
use Rattle.std.proofs.Common.{ap, ◌∙◌, arith, add-one, length-append, length-take-le, drop-cons, get_or-take}
use Rattle.ir.specs.Pick.{pick}
use Rattle.rules.specs.Base.{contains}
use Rattle.rules.specs.Branches.{seen_var, distinct, met_with}
use Rattle.branches.specs.Seen.{mets}

-- ---- the first n, from i on
module _ (l : List ℕ) (n v i : ℕ) (long : n ≤ length l) where
  pub from : i < n → drop i (take n l) ≡ get_or l i 0 ∷ drop (i + 1) (take n l)
  from h =
      let k : length (take n l) ≡ n = length-take-le n l long in
      rw (add-one i) (drop-cons (take n l) i 0 (omega arith) ∙ ap (λ (x : ℕ). x ∷ drop (suc i) (take n l)) (get_or-take n l i 0 h))

-- ---- how many they are
met_long : (met : List ℕ) (v : ℕ) (b : Bool) → length met ≤ length (pick b met (met ++ (v ∷ [])))
met_long met v true = omega arith
met_long met v false = omega (arith, length-append met (v ∷ []))

pub mets_long : (met l : List ℕ) → length met ≤ length (mets met l)
unfolding mets
mets_long met [] = omega arith
mets_long met (v ∷ l) = omega (arith, mets_long (met_with met v) l, met_long met v (contains met v))

-- a new variable counts once, wherever it is put
or_three : (a b c : Bool) → (a || (b || c)) ≡ (b || (a || c))
or_three true true c = refl
or_three true false c = refl
or_three false true c = refl
or_three false false c = refl

contains_snoc : (l : List ℕ) (v u : ℕ) → contains (l ++ (v ∷ [])) u ≡ contains (v ∷ l) u
contains_snoc [] v u = refl
contains_snoc (x ∷ l) v u = rw (contains_snoc l v u) (or_three (eqb u x) (eqb u v) (contains l u))

-- the same variables, and as many
pub record SameVars (met seen : List ℕ) : Type 0 where
  pub long : length met ≡ length seen
  pub same : (u : ℕ) → contains met u ≡ contains seen u

same_more : (met seen : List ℕ) (v : ℕ) (b : Bool) → SameVars met seen → SameVars (pick b met (met ++ (v ∷ []))) (seen_var seen v b)
same_more met seen v true a = a
same_more met seen v false a = record {
  long = omega (arith, length-append met (v ∷ []), a.long);
  same = λ u. contains_snoc met v u ∙ rw (a.same u) refl;
}

pub mets_distinct : (met seen l : List ℕ) → SameVars met seen → length (mets met l) ≡ length (distinct seen l)
unfolding mets distinct
mets_distinct met seen [] a = a.long
mets_distinct met seen (v ∷ l) a = mets_distinct (met_with met v) (seen_var seen v (contains seen v)) l (rw (← a.same v) (same_more met seen v (contains met v) a))
