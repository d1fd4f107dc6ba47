-- The elements shown, one clause, and the clauses one after the other. Assumes nothing.
use mathlib.Core.Path.{◌≡◌, refl, sym, ap, ◌∙◌}
use mathlib.Core.Bool.{false, false≢true}
use mathlib.Core.List.{List, [], ◌++◌, append_assoc}
use mathlib.Core.Option.{Option, none, some}
use Prim.Native.Nat.{ℕ, ◌+◌, ◌*◌, ◌<◌, ◌≤◌}
use native.Mathlib.Omega.{arith}
use lib.ListN.{length, get_or, take, drop, drop_of_length-le}
use lib.Seq.{sets, sets-eq, drop_at, take-append-le, length-take-le}
use borrow.Author.Tests.{ltb-false}
use Rattle.std.specs.Prelude as Code
use Rattle.words.specs.Words.{words}
use Rattle.words.specs.Runs.{get_d_sets_before, get_d_sets_after}
use Rattle.rules.specs.Base.{any}
use Rattle.rules.specs.State.{Clause}
use Rattle.rules.specs.Invariants.{Each}
use Rattle.rules.specs.EachLaws.{each_append, each_nth}
use Rattle.rules.specs.Semantics.{Interpretation, clause_vars}
use Rattle.rules.specs.DeckLaws.{any_false}
use Rattle.meaning.specs.Choices.{in_vars}
use Rattle.states.specs.Conditions.{clause_broken}
use Rattle.states.specs.Test.{Verdict, holds, broken, or_broken, first_broken, clauses_verdict, most_vars, wide_clause}
use Rattle.states.specs.VerdictLaws.{is_holds}
use Rattle.sets.specs.Places.{vars_at, shown_at}
use Rattle.sets.specs.Verdicts.{shown}
use Rattle.tables.specs.Tabled.{Run, Tabled, ClauseThere, no_clause}
use Rattle.tables.specs.ClauseLaws.{clause_at, clause_split}
use Rattle.clausetests.specs.declared.listed.Vars.{Vars}
use Rattle.clausetests.specs.Vars.{VarsAs, few, many}
use Rattle.clausetests.specs.Given.{Given, NamesRoles}
use Rattle.clausetests.specs.Fitting.{clause_one, clause_two, Changed, Meant, ClauseMeant}
use Rattle.clausetests.specs.Search.{found_in, search_by}
use Rattle.clausetests.specs.Clauses.{ClauseNames, ClausesThere, ClauseIs, ClauseHere}
use Rattle.clausetests.proofs.FittingLaws.{changed_none, changed_then, given_kept}
use Rattle.clausetests.proofs.PlaceLaws.{vars_long}
use Rattle.clausetests.proofs.BreakLaws.{vars_distinct, broken_search}

-- ---- the elements shown
module _ (w w' xs : List ℕ) (four : length xs ≡ 4) (e : w' ≡ sets w shown_at xs) where
  pub shown_put : shown_at + 4 ≤ length w → (k : ℕ) → k ≤ 4 → shown w' k ≡ take k xs
  shown_put h k l =
      ap (λ (t : List ℕ). take k (drop shown_at t)) (e ∙ sets-eq xs w shown_at (omega arith) ∙ append_assoc (take shown_at w) xs (drop (shown_at + length xs) w))
      ∙ ap (take k) (drop_at (take shown_at w) (xs ++ drop (shown_at + length xs) w) shown_at (length-take-le shown_at w (omega arith)))
      ∙ take-append-le k xs (drop (shown_at + length xs) w) (omega arith)

  pub shown_changed : Changed shown_at (shown_at + 4) w w'
  shown_changed = rw e (record { before = λ i h. get_d_sets_before xs w shown_at i 0 h; behind = λ i h. get_d_sets_after xs w shown_at i 0 (omega arith) })

-- ---- one clause
vars_few : (c : Clause) (v : Vars) → VarsAs (clause_vars c) v → wide_clause c ≡ false → v.n ≤ 4
vars_few c v (few h e) w = h
vars_few c v (many h e) w = absurd (let l = ltb-false most_vars (length (clause_vars c)) w in omega arith)

module _ (I : Interpretation) (roles size : ℕ) (c : Clause) (i : ℕ) (text clauses atoms w s : List ℕ) (S : ClauseIs I roles size c i text clauses atoms w s) (v : Vars) (A : VarsAs (clause_vars c) v) where
  pub clause_meant : Meant I roles (clause_vars c) size (c.body ++ c.head) v text w s
  clause_meant = record {
    given = S.given;
    names = each_append (NamesRoles roles) c.body c.head S.names.0 S.names.1;
    are = A;
    few = vars_few c v A S.narrow;
    among = in_vars (c.body ++ c.head);
    distinct = vars_distinct c;
  }

  -- what was found by the tables
  pub found_broken : (f : Code.Option (List ℕ)) → found_in v.n f ≡ search_by size (clause_two I c) v.n 0 (clause_one I c) → found_in v.n f ≡ clause_broken I c
  found_broken f e =
      e ∙ ap (λ (m : ℕ). search_by m (clause_two I c) v.n 0 (clause_one I c)) S.given.elements
      ∙ ap (λ (m : ℕ). search_by I.size (clause_two I c) m 0 (clause_one I c)) (sym (vars_long (clause_vars c) v A (vars_few c v A S.narrow))) ∙ sym (broken_search I c)

module _ (size i : ℕ) (text clauses atoms store s : List ℕ) (H : ClauseHere size i text clauses atoms store s) where
  pub here_clause : ClauseThere (words clauses) (words atoms) i
  here_clause = record { clause = H.clause; is = H.is.at }

  pub here_small : size ≤ 64
  here_small = omega (arith, H.is.given.elements, H.is.given.laid.few)

  pub here_few : (v : Vars) → VarsAs (clause_vars H.clause) v → v.n ≤ 4
  here_few v A = vars_few H.clause v A H.is.narrow

  pub here_meant : (body head : List ℕ) (v : Vars) → Run body H.clause.body → Run head H.clause.head → VarsAs (clause_vars H.clause) v → ClauseMeant size body head v text store s
  here_meant body head v B C A = record {
    clause = H.clause;
    body_run = B;
    head_run = C;
    there = record {
      meant = H.meant;
      roles = H.roles;
      vars = clause_vars H.clause;
      so = clause_meant H.meant H.roles size H.clause i text (words clauses) (words atoms) (words store) (words s) H.is v A;
      space = H.space;
    };
  }

-- what is shown breaks it
pub verdict_some : (i : ℕ) (o : Option (List ℕ)) (k l : List ℕ) → some k ≡ o → l ≡ k → broken i l ≡ or_broken i o holds
verdict_some i o k l e g = rw (← e, g) refl

pub verdict_none : (i : ℕ) (o : Option (List ℕ)) → none ≡ o → holds ≡ or_broken i o holds
verdict_none i o e = rw (← e) refl

-- ---- the clauses one after the other
pub clause_is : (I : Interpretation) (roles size count i : ℕ) (l : List Clause) (text clauses atoms w s : List ℕ) → Given I roles size text w s → Tabled clauses atoms count l → Each (ClauseNames roles) l → any wide_clause l ≡ false → i < count
    → ClauseIs I roles size (get_or l i no_clause) i text clauses atoms w s
clause_is I roles size count i l text clauses atoms w s G T N W h = record {
  given = G;
  at = clause_at clauses atoms count l T i h;
  names = each_nth (ClauseNames roles) l i no_clause N (omega (arith, T.count));
  narrow = any_false wide_clause no_clause l W i (omega (arith, T.count));
}

goes_on : (i : ℕ) (o : Option (List ℕ)) (r : Verdict) → holds ≡ or_broken i o holds → or_broken i o r ≡ r
goes_on i none r e = refl
goes_on i (some l) r e = absurd (false≢true (sym (ap is_holds e)))

stops : (i : ℕ) (o : Option (List ℕ)) (n : ℕ) (l : List ℕ) (r : Verdict) → broken n l ≡ or_broken i o holds → broken n l ≡ or_broken i o r
stops i none n l r e = absurd (false≢true (ap is_holds e))
stops i (some k) n l r e = e

module _ (text clauses atoms store s₀ : List ℕ) (count size : ℕ) where
  -- before clause i
  pub record TriedTo (s : List ℕ) (i : ℕ) : Type 0 where
    pub long : length s ≡ length s₀
    pub other : Changed (2 * vars_at) (shown_at + 4) (words s₀) (words s)
    pub left : (I : Interpretation) (roles : ℕ) (l : List Clause) → Given I roles size text (words store) (words s₀) → Tabled (words clauses) (words atoms) count l → Each (ClauseNames roles) l → any wide_clause l ≡ false
        → first_broken (clause_broken I) i (drop i l) ≡ clauses_verdict I l

  pub tried_start : TriedTo s₀ 0
  tried_start = record { long = refl; other = changed_none (2 * vars_at) (shown_at + 4) (words s₀); left = λ I roles l G T N W. refl }

  module _ (s : List ℕ) (i : ℕ) (H : TriedTo s i) where
    kept : (I : Interpretation) (roles : ℕ) → Given I roles size text (words store) (words s₀) → Given I roles size text (words store) (words s)
    kept I roles G = given_kept (2 * vars_at) (shown_at + 4) (words s₀) (words s) H.other (omega arith) I roles size text (words store) G

    pub tried_here : i < count → ClausesThere size count text clauses atoms store s₀ → ClauseHere size i text clauses atoms store s
    tried_here h C = record {
      meant = C.meant;
      roles = C.roles;
      clause = get_or C.list i no_clause;
      is = clause_is C.meant C.roles size count i C.list text (words clauses) (words atoms) (words store) (words s) (kept C.meant C.roles C.given) C.tabled C.names C.narrow h;
      space = rw H.long C.space;
    }

    -- clause i's verdict is v
    module _ (h : i < count) (v : Verdict) (so : (I : Interpretation) (roles : ℕ) (c : Clause) → ClauseIs I roles size c i text (words clauses) (words atoms) (words store) (words s) → v ≡ or_broken i (clause_broken I c) holds) where
      here : (I : Interpretation) (roles : ℕ) (l : List Clause) → Given I roles size text (words store) (words s₀) → Tabled (words clauses) (words atoms) count l → Each (ClauseNames roles) l → any wide_clause l ≡ false
          → v ≡ or_broken i (clause_broken I (get_or l i no_clause)) holds
      here I roles l G T N W = so I roles (get_or l i no_clause) (clause_is I roles size count i l text (words clauses) (words atoms) (words store) (words s) (kept I roles G) T N W h)

      split : (I : Interpretation) (l : List Clause) → Tabled (words clauses) (words atoms) count l → first_broken (clause_broken I) i (drop i l) ≡ or_broken i (clause_broken I (get_or l i no_clause)) (first_broken (clause_broken I) (i + 1) (drop (i + 1) l))
      unfolding first_broken
      split I l T = ap (first_broken (clause_broken I) i) (clause_split (words clauses) (words atoms) count l T i h)

      pub tried_on : v ≡ holds → (s' : List ℕ) → length s' ≡ length s → Changed (2 * vars_at) (shown_at + 4) (words s) (words s') → TriedTo s' (i + 1)
      tried_on e s' g C = record {
        long = g ∙ H.long;
        other = changed_then (2 * vars_at) (shown_at + 4) (words s₀) (words s) (words s') H.other C;
        left = λ I roles l G T N W. sym (split I l T ∙ goes_on i (clause_broken I (get_or l i no_clause)) (first_broken (clause_broken I) (i + 1) (drop (i + 1) l)) (sym e ∙ here I roles l G T N W)) ∙ H.left I roles l G T N W;
      }

      pub tried_stop : (n : ℕ) (x : List ℕ) → v ≡ broken n x → (I : Interpretation) (roles : ℕ) (l : List Clause) → Given I roles size text (words store) (words s₀) → Tabled (words clauses) (words atoms) count l → Each (ClauseNames roles) l → any wide_clause l ≡ false
          → broken n x ≡ clauses_verdict I l
      tried_stop n x e I roles l G T N W = stops i (clause_broken I (get_or l i no_clause)) n x (first_broken (clause_broken I) (i + 1) (drop (i + 1) l)) (sym e ∙ here I roles l G T N W) ∙ sym (split I l T) ∙ H.left I roles l G T N W

    pub tried_end : count ≤ i → (I : Interpretation) (roles : ℕ) (l : List Clause) → Given I roles size text (words store) (words s₀) → Tabled (words clauses) (words atoms) count l → Each (ClauseNames roles) l → any wide_clause l ≡ false → holds ≡ clauses_verdict I l
    unfolding first_broken
    tried_end h I roles l G T N W =
        let m : length l ≤ i = omega (arith, T.count) in
        let e : drop i l ≡ [] = drop_of_length-le l m in
        sym (ap (first_broken (clause_broken I) i) e) ∙ H.left I roles l G T N W
