-- The loop over a clause's body, and back to the queue; the pass's ends. Assumes nothing.
use Rattle.std.specs.Prelude.{◌≡◌, ℕ, ◌+◌, ◌<◌, ◌≤◌, get_or}
use Rattle.std.proofs.Math.Path.{refl, ap}
use Rattle.std.proofs.Common.{sym, subst, ◌∙◌, arith}
use mathlib.Core.List.{List, [], ◌∷◌, ◌++◌, append_assoc}
use Rattle.std.proofs.Math.ListN.{length, length-append, get_or-append}
use Rattle.std.proofs.lemmas.List.{nil_from_length}
use Rattle.words.specs.Words.{words}
use Rattle.words.specs.Laws.{words_long}
use Rattle.ir.specs.declared.counters.Counters.{Counters}
use Rattle.ir.specs.declared.atom.Atom.{Atom}
use Rattle.rules.specs.Base.{Res, ok, refused, then}
use Rattle.rules.specs.State.{Env, Out, Clause, clause}
use Rattle.rules.specs.Invariants.{Each, ClauseIn}
use Rattle.rules.specs.Reflexive.{Derived, more, capped, go_on, unfold_body}
use Rattle.rules.specs.Reflexive.{Unfolded as Turned}
use Rattle.tables.specs.Drawn.{tables, show, Lent}
use Rattle.tables.specs.DrawnLaws.{clauses_count}
use Rattle.tables.specs.Good.{Good}
use Rattle.hands.specs.Hands.{Four, four}
use Rattle.leaves.specs.StepLaws.{alike_same, alike_then, lent_kept}
use Rattle.unfolding.specs.Unfolding.{Unfolded}
use Rattle.unfolding.specs.Unfolding.{More, Capped, Refused as Refusal}
use Rattle.reflexive.specs.Flags.{FlagsHeld}
use Rattle.tables.specs.Tabled.{body_count, no_clause}
use Rattle.tables.specs.ClauseLaws.{clause_at}
use Rattle.unfolding.specs.Unfolding.{unfold_one, Counted, Stands, Inside, Moves, Moved, Stopped, Unfolds, GoodUnfolded, KeptUnfolded, Between, Answered}
use Rattle.unfolding.specs.Passing.{Partway, Unrolling}
use Rattle.tables.specs.ClauseLaws.{show_tabled}
use Rattle.unfolding.specs.QueueLaws.{one_then}
use Rattle.unfolding.specs.DeriveLaws.{moves_none}
use Rattle.unfolding.specs.FlagSet.{flags_kept}

-- tables of the same sizes
pub record SameSizes (x y : Four) : Type 0 where
  pub clauses : length y.clauses ≡ length x.clauses
  pub atoms : length y.atoms ≡ length x.atoms
  pub deferrals : length y.deferrals ≡ length x.deferrals

pub same_sizes : (w c a d w' c' a' d' : List ℕ) → length c' ≡ length c → length a' ≡ length a → length d' ≡ length d → SameSizes (four (words w) (words c) (words a) (words d)) (four (words w') (words c') (words a') (words d'))
same_sizes w c a d w' c' a' d' ec ea ed = record { clauses = words_long c c' ec; atoms = words_long a a' ea; deferrals = words_long d d' ed }

pub lent_same : (x y : Four) → SameSizes x y → (env : Env) → Lent env.rooms x.clauses x.atoms x.deferrals → Lent env.rooms y.clauses y.atoms y.deferrals
lent_same x y E env L = lent_kept env.rooms x.clauses x.atoms x.deferrals y.clauses y.atoms y.deferrals E.clauses E.atoms E.deferrals L

-- a list that has an element
record Longer (l : List Atom) : Type 0 where
  first : Atom
  others : List Atom
  is : l ≡ first ∷ others

longer : (l : List Atom) → 0 < length l → Longer l
longer [] h = absurd (omega arith)
longer (x ∷ l) h = record { first = x; others = l; is = refl }

moves_then : (v u z : Derived) (s t w : Out) → Moves v s u t → Moves u t z w → Moves v s z w
moves_then v u z s t w a b = record {
  new = a.new ++ b.new;
  grown = b.grown ∙ ap (λ (l : List Clause). l ++ b.new) a.grown ∙ append_assoc s.clauses a.new b.new;
  counted = omega (arith, a.counted, b.counted);
  inside = λ B fresh vars I. b.inside B fresh vars (a.inside B fresh vars I);
}

-- the cap was reached in the body of a clause
pub record Capping (env : Env) (roles : List ℕ) (c : Clause) (p : Counters) (y : Four) (v : Derived) (s : Out) : Type 0 where
  pub state : Out
  pub rule : unfold_body env roles [] c.body c.head v s ≡ ok capped state
  pub drawn : tables p y.clauses y.atoms y.deferrals ≡ show p env.rooms state
  pub inside : Inside s state

-- ---- at the body's first atom
pub unroll_first : (originals left number : ℕ) (k : Counters) (m : ℕ) (x : Four) → Good k → Counted originals k m → Unrolling originals left number k m x k m 0 x
unroll_first originals left number k m x g C = record {
  good = g;
  alike = alike_same k;
  between = λ j h l. refl;
  counted = C;
  grows = omega arith;
  falls = omega arith;
  so = λ env roles v s F L T. record {
    before = [];
    rest = (get_or s.clauses number no_clause).body;
    body = refl;
    at = refl;
    derived = v;
    state = s;
    stands = T;
    moves = moves_none v s;
    same = refl;
  };
}

-- ---- on the way; x is what stood there at the body's first atom, y what stands there now
module _ (originals left number : ℕ) (k : Counters) (m : ℕ) (x : Four) (l : Counters) (n i : ℕ) (y : Four) (U : Unrolling originals left number k m x l n i y)
    (there : number < k.clauses) (nb : ℕ) (eb : nb ≡ body_count x.clauses number) where
  module _ (env : Env) (roles : List ℕ) (v : Derived) (s : Out) (F : FlagsHeld x.scratch roles) (L : Lent env.rooms x.clauses x.atoms x.deferrals) (T : Stands env roles originals left k x m v s) where
    pub partway : Partway env roles originals left number l n i y v s
    partway = U.so env roles v s F L T

    abbrev itself : Clause
    itself = get_or s.clauses number no_clause

    long : nb ≡ length (partway.before ++ partway.rest)
    long = eb ∙ (clause_at x.clauses x.atoms k.clauses s.clauses (show_tabled env k x.clauses x.atoms x.deferrals s T.drawn) number there).body ∙ ap length partway.body

    -- the clause is the same later
    still : get_or partway.state.clauses number no_clause ≡ itself
    still =
        ap (λ (t : List Clause). get_or t number no_clause) partway.moves.grown
        ∙ get_or-append s.clauses partway.moves.new no_clause number (omega (arith, there, clauses_count env k s x.clauses x.atoms x.deferrals T.drawn))

    pub body_left : i < nb → i < body_count y.clauses number
    body_left lt =
        let z = (clause_at y.clauses y.atoms l.clauses partway.state.clauses (show_tabled env l y.clauses y.atoms y.deferrals partway.state partway.stands.drawn) number (omega (arith, there, U.grows))).body in
        let e : length (get_or partway.state.clauses number no_clause).body ≡ nb = ap (λ (c : Clause). length c.body) still ∙ ap length partway.body ∙ sym long in
        omega (arith, z, e, lt)

    -- at the body's end
    pub body_done : nb ≤ i → unfold_body env roles [] itself.body itself.head v s ≡ ok (more partway.derived) partway.state
    unfolding unfold_body
    body_done h =
        let z : length partway.rest ≡ 0 = omega (arith, long, length-append partway.before partway.rest, partway.at, h) in
        partway.same ∙ ap (λ (t : List Atom). unfold_body env roles partway.before t itself.head partway.derived partway.state) (nil_from_length partway.rest z)

    -- at an atom
    module _ (lt : i < nb) where
      now : Longer partway.rest
      now = longer partway.rest (omega (arith, long, length-append partway.before partway.rest, partway.at, lt))

      abbrev step : Res Out Turned
      step = unfold_one env roles partway.before now.others itself.head now.first partway.derived partway.state

      body_step : unfold_body env roles [] itself.body itself.head v s ≡ then step (go_on env roles (λ u. unfold_body env roles (partway.before ++ (now.first ∷ [])) now.others itself.head u))
      unfolding unfold_body
      body_step =
          partway.same ∙ ap (λ (t : List Atom). unfold_body env roles partway.before t itself.head partway.derived partway.state) now.is
          ∙ one_then env roles (λ u. unfold_body env roles (partway.before ++ (now.first ∷ [])) now.others itself.head u) partway.before now.others itself.head now.first partway.derived partway.state

      split_now : get_or partway.state.clauses number no_clause ≡ clause (partway.before ++ (now.first ∷ now.others)) itself.head
      split_now = still ∙ ap (λ (b : List Atom). clause b itself.head) (partway.body ∙ ap (λ (t : List Atom). partway.before ++ t) now.is)

  -- ---- what unfold_at did
  module _ (lt : i < nb) (same : SameSizes x y) (y' : Four) (r : Unfolded) (A : Answered l y.scratch y'.scratch r)
      (E : (env : Env) (roles : List ℕ) (left : ℕ) (v : Derived) (s : Out) (before after head : List Atom) (a : Atom) → FlagsHeld y.scratch roles → Lent env.rooms y.clauses y.atoms y.deferrals → Stands env roles originals left l y n v s
      → get_or s.clauses number no_clause ≡ clause (before ++ (a ∷ after)) head → i ≡ length before → Unfolds env roles originals left l n y' v s (unfold_one env roles before after head a v s) r) where
    between_now : Between x.scratch y'.scratch
    between_now j h g = A.between j h g ∙ U.between j h g

    module _ (env : Env) (roles : List ℕ) (v : Derived) (s : Out) (F : FlagsHeld x.scratch roles) (L : Lent env.rooms x.clauses x.atoms x.deferrals) (T : Stands env roles originals left k x m v s) where
      stepped : Unfolds env roles originals left l n y' (partway env roles v s F L T).derived (partway env roles v s F L T).state (step env roles v s F L T lt) r
      stepped =
          let Q = partway env roles v s F L T in
          E env roles left Q.derived Q.state Q.before (now env roles v s F L T lt).others (itself env roles v s F L T).head (now env roles v s F L T lt).first
          (flags_kept x.scratch y.scratch roles U.between F) (lent_same x y same env L) Q.stands (split_now env roles v s F L T lt) Q.at

      -- on to the next atom
      module _ (p : Counters) (q : ℕ) (e : r ≡ More p q) where
        stepped_more : Moved env roles originals left l n y' (partway env roles v s F L T).derived (partway env roles v s F L T).state (step env roles v s F L T lt) p q
        stepped_more = subst (λ (z : Unfolded). Unfolds env roles originals left l n y' (partway env roles v s F L T).derived (partway env roles v s F L T).state (step env roles v s F L T lt) z) e stepped

        partway_next : Partway env roles originals left number p q (i + 1) y' v s
        partway_next =
            let Q = partway env roles v s F L T in
            let N = now env roles v s F L T lt in
            let M = stepped_more in
            let c = itself env roles v s F L T in
            record {
              before = Q.before ++ (N.first ∷ []);
              rest = N.others;
              body = Q.body ∙ ap (λ (t : List Atom). Q.before ++ t) N.is ∙ sym (append_assoc Q.before (N.first ∷ []) N.others);
              at = omega (arith, Q.at, length-append Q.before (N.first ∷ []));
              derived = M.derived;
              state = M.state;
              stands = M.stands;
              moves = moves_then v Q.derived M.derived s Q.state M.state Q.moves M.moves;
              same = body_step env roles v s F L T lt ∙ ap (λ (z : Res Out Turned). then z (go_on env roles (λ u. unfold_body env roles (Q.before ++ (N.first ∷ [])) N.others c.head u))) M.rule;
            }

      -- a table is full, or the cap is reached
      pub body_refused : (e : ℕ) → r ≡ Refusal e → unfold_body env roles [] (itself env roles v s F L T).body (itself env roles v s F L T).head v s ≡ refused e
      body_refused e q =
          let Q = partway env roles v s F L T in
          let N = now env roles v s F L T lt in
          let g : step env roles v s F L T lt ≡ refused e
          = subst (λ (z : Unfolded). Unfolds env roles originals left l n y' Q.derived Q.state (step env roles v s F L T lt) z) q stepped in
          body_step env roles v s F L T lt ∙ ap (λ (z : Res Out Turned). then z (go_on env roles (λ u. unfold_body env roles (Q.before ++ (N.first ∷ [])) N.others (itself env roles v s F L T).head u))) g

      pub body_capped : (p : Counters) → r ≡ Capped p → Capping env roles (itself env roles v s F L T) p y' v s
      body_capped p q =
          let Q = partway env roles v s F L T in
          let N = now env roles v s F L T lt in
          let G : Stopped env y' Q.state (step env roles v s F L T lt) p
          = subst (λ (z : Unfolded). Unfolds env roles originals left l n y' Q.derived Q.state (step env roles v s F L T lt) z) q stepped in
          record {
            state = G.state;
            rule = body_step env roles v s F L T lt ∙ ap (λ (z : Res Out Turned). then z (go_on env roles (λ u. unfold_body env roles (Q.before ++ (N.first ∷ [])) N.others (itself env roles v s F L T).head u))) G.rule;
            drawn = G.drawn;
            inside = λ B fresh vars I. subst (Each (ClauseIn B fresh vars)) (sym G.same) (Q.moves.inside B fresh vars I);
          }

    -- the loop's next turn, for some state
    pub unroll_next : (env : Env) (roles : List ℕ) (v : Derived) (s : Out) → FlagsHeld x.scratch roles → Lent env.rooms x.clauses x.atoms x.deferrals → Stands env roles originals left k x m v s
        → (p : Counters) (q : ℕ) → r ≡ More p q → Unrolling originals left number k m x p q (i + 1) y'
    unroll_next env roles v s F L T p q e =
        let M = stepped_more env roles v s F L T p q e in
        record {
          good = subst GoodUnfolded e A.good;
          alike = alike_then k l p U.alike (subst (KeptUnfolded l) e A.kept);
          between = between_now;
          counted = M.counted;
          grows = omega (arith, U.grows, M.grows);
          falls = omega (arith, U.falls, M.falls);
          so = λ env' roles' v' s' F' L' T'. partway_next env' roles' v' s' F' L' T' p q e;
        }
