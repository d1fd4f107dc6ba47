-- From a deck that was read to its clauses. Assumes nothing.
use Rattle.std.specs.Prelude.{◌≡◌, refl, List, ℕ, ◌+◌, ◌*◌, ◌≤◌, length}
use Rattle.std.proofs.Common.{sym, ap, subst, ◌∙◌, arith}
use Prim.{Unit, tt}
use Rattle.words.specs.Words.{words}
use Rattle.ir.specs.Scratch.{limits_at, limits_words}
use Rattle.ir.specs.Options.{follow_roles}
use Rattle.ir.specs.declared.counters.Counters.{Counters}
use Rattle.ir.specs.Lined.{Lined as CodeLined}
use Rattle.ir.specs.Lined.{Finished, Stopped}
use Rattle.rules.specs.Concept.{Axiom}
use Rattle.rules.specs.Pool.{Pool}
use Rattle.rules.specs.Normalize.{St}
use Rattle.rules.specs.State.{Rooms, Env}
use Rattle.rules.specs.Axioms.{Clausifier}
use Rattle.rules.specs.Deck.{Known, read_deck, axiom_line}
use Rattle.rules.specs.DeckLaws.{bounds_of, DeckIn, read_in}
use Rattle.rules.specs.Run.{Lined, done, stopped, clausifier_at, clausify_axioms, env_of, start}
use Rattle.rules.specs.Invariants.{Each, AxiomIn, ClauseIn}
use Rattle.rules.specs.LinedPost.{LinedPost, done_post}
use Rattle.rules.proofs.NormalizeLaws.{AxiomsMade, nnf_axioms_made}
use Rattle.rules.proofs.AntecedentLaws.{canon_in}
use Rattle.rules.proofs.SettleLaws.{Whole, start_ready, run_axioms_made}
use Rattle.rules.specs.Handed.{Ready}
use Rattle.pool.specs.HeldLaws.{pool_length}
use Rattle.ontology.specs.Layout.{axioms_of}
use Rattle.normalize.specs.Loaded.{begun, normalized, Fine}
use Rattle.inverse.specs.Layout.{Building}
use Rattle.hands.specs.Hands.{four}
use Rattle.axioms.specs.Wholes.{standing, Clausifying, Onward}
use Rattle.axioms.specs.OnwardLaws.{roles_untouched}
use Rattle.clausifier.specs.Arms.{AxiomsOf}
use Rattle.ontology.specs.KeptAxioms.{axioms_kept}
use Rattle.clausifier.specs.KeptLaws.{axioms_of_kept}
use Rattle.clausifier.specs.All.{shown_lined, after_lined, ClausifyingLined, OnwardLined, ReadyForAll, ClausifiedAll}
use Rattle.clausifier.specs.Limited.{Readied}
use Rattle.clausifier.specs.Prepare.{Preparing, Prepared, PreparedAs}
use Rattle.staging.specs.Stage.{staged, Staged, StagedAs, Blank}
use Rattle.staging.specs.RoleLaws.{map_within}
use Rattle.staging.specs.BlankLaws.{blank_tables, SameLong, lent_kept}

-- ---- load's answer
abbrev pub fine_preparing : (limit : ℕ) (deck s : List ℕ) (k : Counters) (n : ℕ) → limit ≤ 1000000 → Fine limit (read_deck deck) (words s) k n → 4 * (limits_at + limits_words) ≤ length s → Preparing s k n
fine_preparing limit deck s k n l F h = record {
  known = F.known;
  inside = read_in deck F.known F.told;
  limit = limit;
  most = l;
  holds = F.holds;
  space = h;
}

-- ---- prepare's answer
module _ (d : Known) (limit : ℕ) (s : List ℕ) (n : ℕ) (r : CodeLined) (p : PreparedAs d limit s n r) where
  pub prepared_is : (v : Counters) → r ≡ Finished v → Prepared d limit s v n
  prepared_is v e = subst (PreparedAs d limit s n) e p

  pub prepared_stops : (m line : ℕ) → r ≡ Stopped m line → normalized d limit ≡ stopped m line
  prepared_stops m line e = subst (PreparedAs d limit s n) e p

-- ---- the rules' answers
-- the clauses of a deck name what it has
module _ (d : Known) (D : DeckIn d) (limit : ℕ) (rooms : Rooms) (normal : List Axiom) (t : St) (f : normalized d limit ≡ done normal t) where
  forms_made : AxiomsMade (bounds_of d) (begun d limit) d.axioms normal t
  forms_made = done_post (subst (LinedPost (AxiomsMade (bounds_of d) (begun d limit) d.axioms)) f (nnf_axioms_made (bounds_of d) (axiom_line d 0) d.axioms (begun d limit) D.wf D.axioms))

  pub clauses_inside : (z : Clausifier) → clausify_axioms (env_of d rooms normal) (axiom_line d 0) normal (start d t) ≡ done tt z
      → Each (ClauseIn (bounds_of d) z.out.next_fresh (z.out.visits + 3)) z.out.clauses
  clauses_inside z e =
      let A = forms_made in
      let X : Whole (bounds_of d) (start d t) (clausifier_at 0 z) = done_post (subst (LinedPost (λ _ y. Whole (bounds_of d) (start d t) (clausifier_at 0 y))) e
      (run_axioms_made (bounds_of d) d rooms (axiom_line d 0) normal t (omega arith) (omega arith) A.ran.wf A.inside)) in
      rw X.emitted.clauses X.emitted.new_in

  -- and its axioms are over the state before the first
  pub forms_ready : Ready (bounds_of d) (env_of d rooms normal) (start d t)
  forms_ready = start_ready (bounds_of d) d rooms normal t (omega arith) (omega arith) forms_made.ran.wf

-- what clausify_axioms asks
module _ (s : List ℕ) (k : Counters) (n : ℕ) (P : Preparing s k n) (rooms : Rooms) (s' : List ℕ) (v : Counters) (Q : Prepared P.known P.limit s' v n) (c a d : List ℕ) (B : Blank rooms c a d) where
  forms : AxiomsMade (bounds_of P.known) (begun P.known P.limit) P.known.axioms Q.normal Q.state
  forms = forms_made P.known P.inside P.limit rooms Q.normal Q.state Q.made

  pub standing_start : standing v (four (words s') c a d) (start P.known Q.state).out ≡ start P.known Q.state
  standing_start = ap (λ (q : Pool). record { pool = q; out = (start P.known Q.state).out }) Q.pool

  pub prepared_readied : Readied (env_of P.known rooms Q.normal) (bounds_of P.known) v (four (words s') c a d) (start P.known Q.state).out
  prepared_readied = record {
    held = record { read = Q.read rooms; lent = B.sizes };
    shown = blank_tables rooms c a d v B ∙ Q.shown rooms;
    roles = canon_in (bounds_of P.known) (length Q.state.pool) (follow_roles P.known.header.options) Q.normal forms.inside;
    ready = subst (Ready (bounds_of P.known) (env_of P.known rooms Q.normal)) (sym standing_start) (forms_ready P.known P.inside P.limit rooms Q.normal Q.state Q.made);
  }

  pub prepared_inside : Each (AxiomIn (bounds_of P.known) v.concepts) (axioms_of (words s') n)
  prepared_inside =
      let m : v.concepts ≡ length Q.state.pool = sym (pool_length (words s') v.concepts) ∙ ap (λ (q : Pool). length q) Q.pool in
      rw (Q.listed, m) forms.inside

  pub prepared_for : ReadyForAll n v (four (words s') c a d)
  prepared_for = record { env = env_of P.known rooms Q.normal; bounds = bounds_of P.known; state = (start P.known Q.state).out; readied = prepared_readied; inside = prepared_inside }

-- ---- clausify_axioms' answer, in scratch's bytes s before prepare, s' after it and s'' at the end
module _ (s : List ℕ) (k : Counters) (n : ℕ) (P : Preparing s k n) (rooms : Rooms) where
  pub staged_stops : (e line : ℕ) → normalized P.known P.limit ≡ stopped e line → staged P.limit rooms P.known ≡ stopped e line
  staged_stops e line h = rw h refl

  -- the line of the first axiom
  line_is : k.line ≡ axiom_line P.known 0
  line_is = ap (λ (j : Counters). j.line) P.holds.counters

  module _ (s' : List ℕ) (v : Counters) (Q : Prepared P.known P.limit s' v n) (c a d s'' c' a' d' : List ℕ) (r : CodeLined) (X : ClausifiedAll n k.line v (four (words s') c a d) (four (words s'') c' a' d') r)
      (C : ClausifyingLined s'' r) (B : Blank rooms c a d) (S : SameLong c a d c' a' d') where
    abbrev env : Env
    env = env_of P.known rooms Q.normal

    abbrev rule : Lined Clausifier (Unit {0})
    rule = clausify_axioms env (axiom_line P.known 0) Q.normal (start P.known Q.state)

    rule_is : staged P.limit rooms P.known ≡ rule
    rule_is = rw Q.made refl

    equal_is : after_lined r (four (words s'') c' a' d') ≡ shown_lined v rooms rule
    equal_is =
        let o = (start P.known Q.state).out in
        let x = four (words s') c a d in
        let p = standing_start s k n P rooms s' v Q c a d B in
        let m : clausify_axioms env k.line (axioms_of (words s') n) (standing v x o) ≡ rule = rw (line_is, Q.listed, p) refl in
        X.equal env (bounds_of P.known) o (prepared_readied s k n P rooms s' v Q c a d B) (prepared_inside s k n P rooms s' v Q c a d B) ∙ ap (shown_lined v rooms) m

    axioms_are : axioms_of (words s'') n ≡ Q.normal
    axioms_are = axioms_kept (words s') (words s'') n Q.axioms.held X.untouched.axioms ∙ Q.listed

    module _ (m : Counters) (G : Clausifying s'' m) (O : Onward v m) where
      building : Building s'' n
      building =
          let A : AxiomsOf (words s'') m n = axioms_of_kept (words s') (words s'') v m n X.untouched O.concepts Q.axioms in
          record {
            space = omega (arith, G.space);
            held = A.held;
            bounds = A.bounds;
            few = A.roles;
            concepts = m.concepts;
            inside = A.inside;
          }

      finished : (z : Clausifier) → rule ≡ done tt z → after_lined (Finished m) (four (words s'') c' a' d') ≡ shown_lined v rooms (done tt z) → Staged P.limit rooms P.known s'' n m c' a' d'
      finished z e h =
          let R = roles_untouched (words s') (words s'') env.inverse_canon X.untouched (Q.read rooms).roles in
          record {
            normal = Q.normal;
            begun = Q.state;
            state = z;
            formed = Q.made;
            made = rule_is ∙ e;
            shows = record { base = v; shown = cc; sizes = lent_kept rooms c a d c' a' d' S B.sizes };
            listed = axioms_are;
            map = R;
            within = map_within s'' n (follow_roles P.known.header.options) Q.normal building axioms_are R;
            building = building;
            inside = clauses_inside P.known P.inside P.limit rooms Q.normal Q.state Q.made z e;
            good = G.good;
            options = O.options ∙ Q.options;
          }

    answered : (o : CodeLined) (x : Lined Clausifier (Unit {0})) → rule ≡ x → after_lined o (four (words s'') c' a' d') ≡ shown_lined v rooms x → ClausifyingLined s'' o → OnwardLined v o → StagedAs P.limit rooms P.known s'' n c' a' d' o
    answered (Finished m) (done tt z) e h G O = finished m G O z e h
    answered (Finished m) (stopped i line) e h G O = absurd (let z : ◌≡◌ {A = ℕ} 0 1 = cc in omega arith)
    answered (Stopped i line) (done tt z) e h G O = absurd (let z : ◌≡◌ {A = ℕ} 0 1 = cc in omega arith)
    answered (Stopped i line) (stopped j l) e h G O = let q = rule_is in cc

    pub staged_as : StagedAs P.limit rooms P.known s'' n c' a' d' r
    staged_as = answered r rule refl equal_is C X.onward

-- ---- clausify_deck's answer
module _ (limit : ℕ) (rooms : Rooms) (deck : Known) (s : List ℕ) (n : ℕ) (c a d : List ℕ) (r : CodeLined) (h : StagedAs limit rooms deck s n c a d r) where
  pub staged_is : (v : Counters) → r ≡ Finished v → Staged limit rooms deck s n v c a d
  staged_is v e = subst (StagedAs limit rooms deck s n c a d) e h

  pub staged_no : (m line : ℕ) → r ≡ Stopped m line → staged limit rooms deck ≡ stopped m line
  staged_no m line e = subst (StagedAs limit rooms deck s n c a d) e h
