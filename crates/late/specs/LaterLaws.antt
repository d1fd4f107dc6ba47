-- From the axioms' reflexive roles to the decomposition. Assumes nothing.
use Rattle.std.specs.Prelude.{◌≡◌, Bool, true, false, not, List, ℕ, ◌+◌, length}
use Rattle.std.proofs.Math.Path.{refl}
use Rattle.std.proofs.Common.{sym, ap, subst, ◌∙◌, arith}
use Rattle.std.proofs.lemmas.Bool.{false≢true}
use Prim.{Unit}
use Rattle.words.specs.Words.{words}
use Rattle.ir.specs.Options.{body_decompose}
use Rattle.ir.specs.declared.counters.Counters.{Counters}
use Rattle.ir.specs.Answer.{Answer}
use Rattle.ir.specs.Answer.{Done, Refused}
use Rattle.rules.specs.Base.{Res, ok, refused, then}
use Rattle.rules.specs.Concept.{Axiom}
use Rattle.rules.specs.State.{Out}
use Rattle.rules.specs.Invariants.{Each, ClauseIn}
use Rattle.rules.proofs.BoundLaws.{clauses_grow}
use Rattle.rules.specs.Added.{Added, added_all}
use Rattle.rules.specs.Reflexive.{reflexive_role_ids}
use Rattle.rules.specs.Branches.{decompose_wide_bodies}
use Rattle.rules.specs.Run.{reflexive_passes, decomposition, late_passes}
use Rattle.rules.proofs.LateLaws.{passes_in}
use Rattle.ontology.specs.Layout.{axioms_of}
use Rattle.tables.specs.Drawn.{tables, show, shown, after}
use Rattle.leaves.specs.StepLaws.{class_is, lent_kept, drawn_alike, shown_alike}
use Rattle.reflexive.specs.Flags.{FlagsHeld}
use Rattle.late.specs.Later.{Later}
use Rattle.late.specs.Flagged.{Flagged}
use Rattle.decomposition.specs.Decomposing.{Decomposing}
use Rattle.late.specs.ReachedLaws.{Reached, reached, reached_not, drawn_like, ends_at_lem}

module _ (s : List ℕ) (k : Counters) (n : ℕ) (c a d : List ℕ) (L : Later s k n c a d) where
  -- ---- the roles are flagged
  abbrev role_set : List ℕ
  role_set = reflexive_role_ids L.env L.axioms

  abbrev pub later_flagged : (s' : List ℕ) (size : ℕ) → length s' ≡ length s
      → FlagsHeld (words s') (reflexive_role_ids L.env (axioms_of (words s) n)) × (size ≡ length (reflexive_role_ids L.env (axioms_of (words s) n))) → Flagged s' k size c a d
  later_flagged s' size e h = record {
    env = L.env;
    state = L.state;
    set = role_set;
    flags = subst (λ (l : List Axiom). FlagsHeld (words s') (reflexive_role_ids L.env l)) L.listed h.0;
    sized = h.1 ∙ ap (λ (l : List Axiom). length (reflexive_role_ids L.env l)) L.listed;
    lent = L.lent;
    drawn = L.drawn;
    bounds = L.bounds;
    roles = L.roles;
    vars = L.vars;
    few = L.few;
    inside = L.inside;
    good = L.good;
    space = omega (arith, L.space, e);
  }

  -- ---- after the reflexive passes
  module _ (r : Answer) (c' a' d' : List ℕ) (h : after r c' a' d' ≡ shown (λ _. 0) k L.env.rooms (reflexive_passes L.env role_set L.state)) where
    pub rule : Res Out (Unit {0})
    rule = reflexive_passes L.env role_set L.state

    is_rule : after r c' a' d' ≡ shown (λ _. 0) k L.env.rooms rule
    unfolding rule
    is_rule = h

    both : late_passes L.env L.axioms (body_decompose k.options) L.state ≡ then rule (λ _. decomposition L.env (body_decompose k.options))
    unfolding late_passes rule
    both = refl

    pub late_refused : (e : ℕ) → r ≡ Refused e → after (Refused e) c' a' d' ≡ shown (λ m. m) k L.env.rooms (late_passes L.env L.axioms (body_decompose k.options) L.state)
    late_refused e q =
        let x : rule ≡ refused e = reached_not k L.env.rooms rule r e c' a' d' q is_rule in
        ap (shown (λ m. m) k L.env.rooms) (sym (both ∙ ap (λ (z : Res Out (Unit {0})). then z (λ _. decomposition L.env (body_decompose k.options))) x))

    module _ (l : Counters) (i : ℕ) (q : r ≡ Done l i) where
      pub late_at : Reached k L.env.rooms rule l c' a' d'
      late_at = reached k L.env.rooms rule r l i c' a' d' q is_rule

      pub late_drawn : tables l c' a' d' ≡ show l L.env.rooms late_at.state
      late_drawn = drawn_alike k l L.env.rooms late_at.state c' a' d' (drawn_like k l L.env.rooms late_at.state c' a' d' late_at.drawn) late_at.drawn

      pub late_added : Added L.env (ClauseIn L.bounds L.state.next_fresh (L.vars + 1)) L.state late_at.state
      unfolding rule
      late_added = ends_at_lem (passes_in L.env role_set L.bounds L.state.next_fresh L.vars L.state L.inside) late_at.made

      pub late_inside : Each (ClauseIn L.bounds late_at.state.next_fresh (L.vars + 1)) late_at.state.clauses
      late_inside = rw late_added.same_fresh (added_all late_added (clauses_grow L.bounds (omega arith) (omega arith) L.state.clauses L.inside))

      module _ (lc : length c' ≡ length c) (la : length a' ≡ length a) (ld : length d' ≡ length d) where
        abbrev pub late_decomposing : Decomposing l c' a'
        late_decomposing = record {
          env = L.env;
          state = late_at.state;
          deferrals = d';
          lent = lent_kept L.env.rooms c a d c' a' d' lc la ld L.lent;
          drawn = late_drawn;
          bounds = L.bounds;
          roles = L.roles;
          vars = L.vars + 1;
          inside = late_inside;
          classes = omega (arith, late_added.same_fresh, class_is k L.env.rooms L.state c a d L.drawn, L.good.most, L.good.seen, L.good.names);
        }

        pub late_done : (c'' a'' : List ℕ) (r' : Answer)
            → after r' c'' a'' d' ≡ shown (λ m. m) l L.env.rooms (decomposition L.env (body_decompose l.options) late_at.state)
            → after r' c'' a'' d' ≡ shown (λ m. m) k L.env.rooms (late_passes L.env L.axioms (body_decompose k.options) L.state)
        late_done c'' a'' r' p =
            let A = drawn_like k l L.env.rooms late_at.state c' a' d' late_at.drawn in
            let X : Bool → Res Out ℕ = λ b. decomposition L.env b late_at.state in
            let x : late_passes L.env L.axioms (body_decompose k.options) L.state ≡ X (body_decompose k.options) =
            both ∙ ap (λ (z : Res Out (Unit {0})). then z (λ _. decomposition L.env (body_decompose k.options))) late_at.made in
            p
            ∙ shown_alike (λ m. m) k l L.env.rooms (X (body_decompose l.options)) A
            ∙ ap (λ (o : ℕ). shown (λ m. m) k L.env.rooms (X (body_decompose o))) A.options
            ∙ ap (shown (λ m. m) k L.env.rooms) (sym x)

-- ---- with the option or not
module _ (k : Counters) (c a : List ℕ) (D : Decomposing k c a) (b : Bool) (is : b ≡ body_decompose k.options) where
  pub decomposed_not : not b ≡ true → after (Done k 0) c a D.deferrals ≡ shown (λ n. n) k D.env.rooms (decomposition D.env (body_decompose k.options) D.state)
  decomposed_not h = go b is h
    where
      go : (o : Bool) → o ≡ body_decompose k.options → not o ≡ true → after (Done k 0) c a D.deferrals ≡ shown (λ n. n) k D.env.rooms (decomposition D.env (body_decompose k.options) D.state)
      go false e h = ap (ok 0) D.drawn ∙ ap (λ (o : Bool). shown (λ n. n) k D.env.rooms (decomposition D.env o D.state)) e
      go true e h = absurd (false≢true h)

  pub decomposed_so : not b ≡ false → (c' a' : List ℕ) (r : Answer) → after r c' a' D.deferrals ≡ shown (λ n. n) k D.env.rooms (decompose_wide_bodies D.env D.state)
      → after r c' a' D.deferrals ≡ shown (λ n. n) k D.env.rooms (decomposition D.env (body_decompose k.options) D.state)
  decomposed_so h c' a' r p = p ∙ go b is h
    where
      go : (o : Bool) → o ≡ body_decompose k.options → not o ≡ false → shown (λ n. n) k D.env.rooms (decompose_wide_bodies D.env D.state) ≡ shown (λ n. n) k D.env.rooms (decomposition D.env (body_decompose k.options) D.state)
      go true e h = ap (λ (o : Bool). shown (λ n. n) k D.env.rooms (decomposition D.env o D.state)) e
      go false e h = absurd (false≢true (sym h))
