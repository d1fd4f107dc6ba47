-- Option 4, name by name, of the clauses that an accepted run leaves. In plain words: docs/MEANING.md. Assumes nothing.
use Rattle.std.specs.Prelude.{◌≡◌, refl, true, false, ℕ, ◌+◌, eqb}
use Rattle.std.proofs.Common.{sym, ◌∙◌, subst, le_refl, not-suc-le-zero, arith}
use Rattle.std.proofs.Math.Path.{ap}
use mathlib.Core.List.{List, [], ◌∷◌, ◌++◌, map, Memᴰ}
use Rattle.std.proofs.Math.Option.{some}
use Rattle.ir.specs.Options.{body_decompose}
use Rattle.rules.specs.Base.{any}
use Rattle.rules.specs.Concept.{Axiom}
use Rattle.rules.specs.Normalize.{St}
use Rattle.rules.specs.State.{Deferred, Limit, Env, Out}
use Rattle.rules.specs.Axioms.{Clausifier}
use Rattle.rules.specs.Deck.{Known, axiom_line}
use Rattle.rules.specs.Run.{Lengths, Accepted, Lined, done, lined, lined_then, at_line, clausifier_at, clausify_normal, late_passes, first_fresh, accepted_of, env_of, start, rooms_of, visit_limit}
use Rattle.rules.specs.Post.{post_map}
use Rattle.rules.specs.Ends.{ends_post}
use Rattle.rules.specs.EachLaws.{each_map, each_member}
use Rattle.rules.proofs.LateLaws.{late_in}
use Rattle.rules.proofs.SettleLaws.{Whole, run_axioms_made}
use Rattle.rules.specs.LinedPost.{LinedPost, lined_post, lined_both, done_post}
use Rattle.rules.specs.Invariants.{Each, up_to, Wf, ClauseIn}
use Rattle.rules.specs.PoolLaws.{grown_refl}
use Rattle.rules.specs.LimitLaws.{wf_up}
use Rattle.rules.proofs.NormalizeLaws.{AxiomsMade, nnf_axioms_made}
use Rattle.rules.specs.DeckLaws.{bounds_of, read_in}
use Rattle.rules.proofs.RunLaws.{Sized, deck_run, run_from, run_decoded}
use Rattle.rules.specs.Semantics.{Interpretation, means, satisfied}
use Rattle.rules.specs.Statements.{all_hold}
use Rattle.rules.specs.EqualNames.{Call, Settles, NameIsFiller, Clausifies, Models, calls_of, LimitsHaveHalves, SettledNames, LimitsOfAxiom, NamesOfAxiom}
use Rattle.meaning.specs.Truth.{both_ways}
use Rattle.meaning.specs.Choices.{Follows, all_follow}
use Rattle.meaning.specs.Valuations.{ClauseUnder}
use Rattle.meaning.proofs.Finite.{nnf_axioms_mean}
use Rattle.meaning.specs.Kinds.{SameKinds, nnf_kinds}
use Rattle.meaning.specs.Adds.{Setting}
use Rattle.meaning.proofs.Axioms.{axioms_mean}
use Rattle.meaning.proofs.Composition.{setting, late_back}
use Rattle.meaning.proofs.AxiomNames.{HasHalves, RanAll, axioms_run}
use Rattle.meaning.proofs.EqualNames.{went_refl, both_halves, axioms_calls_lem}

-- an answer with its line that is there
done_given : {S A : Type 0} {Q : A → S → Type 0} {a : A} {s : S} {r : Lined S A} → r ≡ done a s → LinedPost Q r → Q a s
done_given {Q = Q} e h = done_post (subst (LinedPost Q) e h)

members : {A : Type 0} (l : List A) → Each (λ a. Memᴰ a l) l
members [] = tt
members (a ∷ l) = (Memᴰ.head refl, each_map (λ b. Memᴰ b l) (λ b. Memᴰ b (a ∷ l)) (λ b m. Memᴰ.tail m) l (members l))

module _ (deck : List ℕ) (t : Lengths) (d : Known) (a : Accepted) (axioms : List Axiom) (s : St) (z : Clausifier) (C : Clausifies deck t d a axioms s z) where
  abbrev begun : St
  begun = record { pool = d.concepts; visits = 0; limit = visit_limit }

  abbrev env : Env
  env = env_of d (rooms_of t) axioms

  -- the run, from the state after the last axiom
  run_on : deck_run visit_limit (rooms_of t) d ≡ lined 0 (late_passes env axioms (body_decompose d.header.options) (at_line 0 z.out))
  unfolding clausify_normal
  run_on = ap (λ r. lined_then r (λ axioms s. clausify_normal d (rooms_of t) axioms s)) C.normal
      ∙ ap (λ r. lined_then r (λ _ z. lined 0 (late_passes env axioms (body_decompose d.header.options) (at_line 0 z.out)))) C.clausified

  normal_in : AxiomsMade (bounds_of d) begun d.axioms axioms s
  normal_in = let D = read_in deck d C.read in done_given C.normal (nnf_axioms_made (bounds_of d) (axiom_line d 0) d.axioms begun D.wf D.axioms)

  wf : Wf (bounds_of d) s.pool
  wf = normal_in.ran.wf

  up : Wf (up_to (bounds_of d) (first_fresh d)) s.pool
  up = wf_up (bounds_of d) {m = (bounds_of d).classes} (omega arith) s.pool wf

  -- ---- the deferrals of the axioms are left
  late_deferrals : (late : List Deferred) × (a.deferrals ≡ z.out.deferrals ++ late)
  late_deferrals = go (run_from visit_limit deck t d a C.read C.ran (subst (LinedPost (λ _ u. (late : List Deferred) × (u.deferrals ≡ z.out.deferrals ++ late))) (sym run_on)
      (lined_post 0 (post_map (ends_post (late_in env axioms (body_decompose d.header.options) (bounds_of d) (z.out.visits + 3) (z.out.visits + 513) (at_line 0 z.out) (omega arith) (omega arith)
      (subst (Each (ClauseIn (bounds_of d) z.out.next_fresh (z.out.visits + 3))) (sym whole.emitted.clauses) whole.emitted.new_in))) (λ _ u L. (L.deferring, L.deferrals))))))
    where
      whole : Whole (bounds_of d) (start d s) (clausifier_at 0 z)
      whole = done_given C.clausified (run_axioms_made (bounds_of d) d (rooms_of t) (axiom_line d 0) axioms s (omega arith) (omega arith) wf normal_in.inside)

      go : Sized t × (n : ℕ) × (u : Out) × ((late : List Deferred) × (u.deferrals ≡ z.out.deferrals ++ late)) × (accepted_of d n u ≡ a) → (late : List Deferred) × (a.deferrals ≡ z.out.deferrals ++ late)
      go x = (x.3.0, ap (λ y. y.deferrals) (sym x.4) ∙ x.3.1)

  -- ---- the limits of an axiom
  -- an interpretation without elements, which asks nothing of the roles
  abbrev empty : Interpretation
  empty = record { size = 0; class = λ _ _. false; role = λ _ _ _. false; individual = λ _. 0 }

  empty_setting : Setting empty (bounds_of d) env (first_fresh d)
  empty_setting = record { classes = omega arith; individuals = λ i h. omega arith; keeps = λ r x y h. absurd (not-suc-le-zero h) }

  ran : RanAll env (calls_of t d axioms s) empty (bounds_of d) (first_fresh d) empty_setting (start d s) z (calls_of t d axioms s)
  ran = done_given C.clausified (axioms_run env (calls_of t d axioms s) empty (bounds_of d) (first_fresh d) empty_setting s.pool (axiom_line d 0) axioms (start d s) (grown_refl s.pool) up (le_refl (first_fresh d)) refl normal_in.inside)

  limits_settle : d.keys ≡ [] → (c : Call) → Memᴰ c (calls_of t d axioms s) → any (λ e. eqb e.line c.before.out.line) a.deferrals ≡ false
      → (w : Limit) → c.of ≡ some w → Settles env (calls_of t d axioms s) w
  limits_settle keys c m free =
      each_member (λ c. any (λ e. eqb e.line c.before.out.line) a.deferrals ≡ false → (w : Limit) → c.of ≡ some w → Settles env (calls_of t d axioms s) w)
      (ran.settled keys a.deferrals late_deferrals.0 late_deferrals.1 (members (calls_of t d axioms s))) m free

  module _ (I : Interpretation) (M : Models t d a I) where
    normal_means : SameKinds d.axioms axioms × (map (satisfied I s.pool) axioms ≡ map (satisfied I d.concepts) d.axioms)
    normal_means =
        let D = read_in deck d C.read in
        let X = done_given C.normal (lined_both (nnf_kinds (axiom_line d 0) d.axioms begun) (nnf_axioms_mean I (bounds_of d) (axiom_line d 0) d.axioms begun D.wf D.axioms)) in
        (X.0, X.1.1)

    S : Setting I (bounds_of d) env (first_fresh d)
    S = setting I d (read_in deck d C.read) M.proper M.inverses (rooms_of t) axioms s normal_means.0 normal_means.1

    under : Each (ClauseUnder z.out.next_fresh) z.out.clauses
    under =
        let whole = done_given C.clausified (axioms_mean I (bounds_of d) env (first_fresh d) S s.pool wf (axiom_line d 0) axioms (start d s) (grown_refl s.pool) up (le_refl (first_fresh d)) refl normal_in.inside) in
        subst (Each (ClauseUnder z.out.next_fresh)) (sym whole.grown) whole.under

    -- the clauses after the last axiom hold
    follow : Each (Follows I) z.out.clauses
    follow = go (run_from visit_limit deck t d a C.read C.ran (subst (LinedPost (λ _ u. Each (Follows I) u.clauses → Each (Follows I) z.out.clauses)) (sym run_on)
        (lined_post 0 (late_back I env axioms (body_decompose d.header.options) (at_line 0 z.out) under))))
      where
        go : Sized t × (n : ℕ) × (u : Out) × (Each (Follows I) u.clauses → Each (Follows I) z.out.clauses) × (accepted_of d n u ≡ a) → Each (Follows I) z.out.clauses
        go x = x.3 (subst (λ y. Each (Follows I) y.clauses) (sym x.4) (all_follow I M.proper.inhabited a.clauses (subst (λ l. all_hold I l ≡ true) (run_decoded deck t d a C.read C.ran) M.clauses)))

    names_are : (w : Limit) → Settles env (calls_of t d axioms s) w → NameIsFiller I z.pool w
    names_are w h x l =
        let made = done_given C.clausified (axioms_calls_lem I (bounds_of d) env (first_fresh d) S s.pool wf (axiom_line d 0) axioms (start d s) (grown_refl s.pool) up (le_refl (first_fresh d)) refl normal_in.inside normal_in.normal) in
        let both = (both_halves I (bounds_of d) env (first_fresh d) S.individuals S.keeps z I.class (record { alone = M.proper.alone }) follow C.option (made.1 z (went_refl z)) h).0 in
        both_ways (I.class w.name x) (means I z.pool w.filler x) (both.1 x l) (both.0 x l)

pub limits_have_halves : LimitsHaveHalves
limits_have_halves deck t d a axioms s z C c m ws e =
    each_member (HasHalves (env_of d (rooms_of t) axioms) (calls_of t d axioms s)) ((ran deck t d a axioms s z C).halves (members (calls_of t d axioms s))) m ws e

pub settled_names : SettledNames
settled_names deck t d a axioms s z C I M w h = names_are deck t d a axioms s z C I M w h

pub limits_of_axiom : LimitsOfAxiom
limits_of_axiom deck t d a axioms s z C keys c m free w is = limits_settle deck t d a axioms s z C keys c m free w is

pub names_of_axiom : NamesOfAxiom
names_of_axiom deck t d a axioms s z C keys I M c m free w is = settled_names deck t d a axioms s z C I M w (limits_of_axiom deck t d a axioms s z C keys c m free w is)
