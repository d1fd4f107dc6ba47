-- The next clause of the list, where it stands. Assumes nothing.
use Rattle.std.specs.Prelude.{◌≡◌, List, ◌∷◌, ◌++◌, ℕ, ◌+◌, ◌*◌, ◌≤◌, ◌<◌, length, get_or, take, drop}
use Rattle.std.proofs.Common.{◌∙◌, arith, length-append}
use Rattle.rules.specs.State.{Clause, total}
use Rattle.rules.specs.Run.{flat}
use Rattle.rules.specs.DecodeLaws.{flat_long, flat_append}
use Rattle.rules.specs.Invariants.{ClauseIn}
use Rattle.rules.specs.EachLaws.{each_drop}
use Rattle.tables.specs.Tabled.{Tabled, first_atom, body_count, head_count, At, Run, no_clause, ClauseAt}
use Rattle.tables.specs.TabledLaws.{at_back}
use Rattle.tables.specs.ClauseLaws.{clause_at, clause_first, clause_split, clause_kept, first_same}
use Rattle.decomposition.specs.Bodies.{PartsThere}
use Rattle.decomposition.specs.Placing.{Half}
use Rattle.decomposition.specs.Turning.{Listed}

-- ---- the clause
pub record Here (l : List Clause) (c a : List ℕ) (i : ℕ) : Type 0 where
  pub clause : Clause
  pub split : drop i l ≡ clause ∷ drop (i + 1) l
  pub is : ClauseAt c a i clause
  pub first : first_atom c i ≡ total (take i l)
  pub room : 6 * (total (take i l) + length (clause.body ++ clause.head)) ≤ length a

module _ (l : List Clause) (c a c' a' : List ℕ) (i to : ℕ) (done : List Clause) (T : Tabled c a (length l) l) (H : Half l c a c' a' i to done) (h : i < length l) where
  pub clause_here : Here l c' a' i
  clause_here =
      let x = get_or l i no_clause in
      let C = clause_at c a (length l) l T i h in
      let f : first_atom c i ≡ total (take i l) = clause_first c a (length l) l T i h in
      let K = clause_kept c a c' a' i x H.clauses_rest (rw f H.atoms_rest) H.same_clauses H.same_atoms C in
      let g : first_atom c' i ≡ total (take i l) = first_same c c' i H.clauses_rest ∙ f in
      record {
        clause = x;
        split = clause_split c a (length l) l T i h;
        is = K;
        first = g;
        room = omega (arith, K.room, g, K.body, K.head, length-append x.body x.head);
      }

-- ---- as the functions over one clause ask
module _ (l : List Clause) (c a : List ℕ) (i : ℕ) (K : Here l c a i) where
  pub clause_in : (fresh : ℕ) (c0 a0 : List ℕ) (L : Listed l fresh c0 a0) → ClauseIn L.bounds fresh L.vars K.clause
  clause_in fresh c0 a0 L = each_drop (ClauseIn L.bounds fresh L.vars) l i K.clause (drop (i + 1) l) L.inside K.split

  pub parts_there : (fresh : ℕ) (c0 a0 : List ℕ) → Listed l fresh c0 a0 → (body head : List ℕ) → Run body K.clause.body → Run head K.clause.head → PartsThere body head
  parts_there fresh c0 a0 L body head B H = record {
    clause = K.clause;
    body_is = B;
    head_is = H;
    bounds = L.bounds;
    roles = L.roles;
    fresh = fresh;
    classes = omega (arith, L.classes);
    vars = L.vars;
    inside = clause_in fresh c0 a0 L;
  }

  -- the numbers of its record in terms of the list
  module _ (first nb nh : ℕ) (ef : first ≡ first_atom c i) (eb : nb ≡ body_count c i) (eh : nh ≡ head_count c i) where
    pub body_short_lem : (fresh : ℕ) (c0 a0 : List ℕ) → Listed l fresh c0 a0 → nb ≤ 256
    body_short_lem fresh c0 a0 L = omega (arith, (clause_in fresh c0 a0 L).body_short, K.is.body, eb)

    pub run_long : nb + nh ≡ length (K.clause.body ++ K.clause.head)
    run_long = omega (arith, length-append K.clause.body K.clause.head, K.is.body, K.is.head, eb, eh)

    pub run_in : 6 * (first + (nb + nh)) ≤ length a
    run_in = omega (arith, K.room, run_long, ef, K.first)

    pub head_at_lem : At a (6 * (first + nb)) (flat K.clause.head)
    head_at_lem =
        let x = K.clause in
        let runs : At a (6 * first_atom c i) (flat x.body ++ flat x.head) = rw (flat_append x.body x.head) at K.is.atoms in
        at_back a (6 * first_atom c i) (flat x.body) (flat x.head) runs (6 * (first + nb)) (omega (arith, flat_long x.body, K.is.body, ef, eb))
