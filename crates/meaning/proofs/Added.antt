-- What a rule adds over a whole axiom, where the variables start again: Adds without the next variable; its sequence, its small
-- steps, and loops. Assumes nothing.
use Rattle.std.specs.Prelude.{◌≡◌, refl, Bool, ◌&&◌, ℕ, ◌<◌, ◌+◌, ◌≤◌, ltb}
use Rattle.std.proofs.Math.Path.{sym}
use Rattle.std.proofs.Common.{ap, ◌∙◌, subst, le_trans, arith}
use Rattle.std.proofs.Math.Bool.{true, false}
use mathlib.Core.List.{List, [], ◌∷◌, ◌++◌, append-nil, append_assoc}
use Rattle.std.proofs.Math.Nat.{le_refl}
use Rattle.std.proofs.Math.ListN.{length, length-append}
use Rattle.std.proofs.Math.Dec.{leb}
use Rattle.ir.specs.declared.atom.Atom.{Atom}
use Rattle.ir.specs.declared.deferral.Deferral.{Deferral}
use Rattle.rules.specs.Base.{M, for_each}
use Rattle.rules.specs.State.{Limit, Clause, clause, total, Env, Out, push_in, push, defer_in, defer}
use Rattle.rules.specs.Pool.{Pool}
use Rattle.rules.specs.Post.{Post, give, refuses, post_then, post_map}
use Rattle.rules.specs.Invariants.{Each, Wf, Bounds, Grown}
use Rattle.rules.specs.Semantics.{Interpretation, with_classes, means}
use Rattle.rules.specs.EachLaws.{each_append, each_left, each_right}
use Rattle.meaning.proofs.Finite.{means_grown}
use Rattle.meaning.specs.Choices.{Follows}
use Rattle.meaning.specs.Valuations.{Valuation, Agree, agree_refl, agree_trans, AtomUnder, ClauseUnder, each_of_lem, atom_under_more, clause_under_more, follows_agree, follow_agree}
use Rattle.rules.specs.PoolLaws.{grown_refl, grown_length}
use Rattle.meaning.specs.Tracks.{track_grown, Track, track_still, track_refl, track_trans, track_push, track_defer}
use Rattle.meaning.specs.Adds.{Inside, insides_agree, Setting, Alone, alone_agree, Fine, Adds, Nothing}
use Rattle.meaning.proofs.Antecedents.{Quiet, quiet_still}

-- what holds of the classes below base stays
abbrev pub Stable : ℕ → (Valuation → Type 0) → Type 0
Stable base H = (k l : Valuation) → Agree base k l → H k → H l

pub each_stable : {A : Type 0} (base : ℕ) (P : A → Type 0) (H : A → Valuation → Type 0) → ((a : A) → P a → Stable base (H a)) → (l : List A) → Each P l → Stable base (λ k. Each (λ a. H a k) l)
each_stable base P H st [] u k i a h = tt
each_stable base P H st (x ∷ l) u k i a h = (st x u.0 k i a h.0, each_stable base P H st l u.1 k i a h.1)

pub agree_below : {m n : ℕ} {k l : Valuation} → m ≤ n → Agree n k l → Agree m k l
agree_below h a = record { same = λ c u. a.same c (omega arith) }

module _ (I : Interpretation) (B : Bounds) (env : Env) (base : ℕ) (S : Setting I B env base) (p : Pool) (wf : Wf B p) where
  pub record Added (s : Out) (H G C : Valuation → Type 0) (t : Out) : Type 0 where
    pub new : List Clause
    pub grown : t.clauses ≡ s.clauses ++ new
    pub fresh : s.next_fresh ≤ t.next_fresh
    pub defers : length s.deferrals ≤ length t.deferrals
    pub under : Each (ClauseUnder t.next_fresh) new
    pub waiting : List Limit
    pub waits : t.limits ≡ s.limits ++ waiting
    pub named : Each (λ w. w.name < t.next_fresh) waiting
    pub held : Each (λ w. w.filler < length p) waiting
    pub gets : (k : Valuation) → Alone I B env k → H k → (l : Valuation) × Agree s.next_fresh k l × Each (Follows (with_classes I l)) new × Each (Inside I B env base S p wf l) waiting × G l
    pub says : (k : Valuation) → Alone I B env k → Each (Follows (with_classes I k)) new → Each (Inside I B env base S p wf k) waiting → (env.equal_names ≡ false → Each (Fine base) new) → env.dkey_classes ≡ []
        → length t.deferrals ≡ length s.deferrals → C k
    pub track : Track env p s t waiting

  pub adds_added : {s t : Out} {H G C : Valuation → Type 0} → Adds I B env base S p wf s H G C t → Added s H G C t
  adds_added A = record { new = A.new; grown = A.grown; fresh = A.fresh; defers = A.defers; under = A.under; waiting = A.waiting; waits = A.waits; named = A.named; held = A.held; gets = A.gets; says = A.says; track = A.track }

  -- nothing added
  pub added_none : {H C : Valuation → Type 0} (s : Out) → ((k : Valuation) → Alone I B env k → C k) → Added s H (Nothing I B env base S p wf) C s
  added_none s c = record {
    new = [];
    grown = sym (append-nil s.clauses);
    fresh = le_refl s.next_fresh;
    defers = le_refl (length s.deferrals);
    under = tt;
    waiting = [];
    waits = sym (append-nil s.limits);
    named = tt;
    held = tt;
    gets = λ k m h. (k, agree_refl s.next_fresh k, tt, tt, tt);
    says = λ k m _ _ _ _ _. c k m;
    track = track_refl env p s;
  }

  pub added_map : {s t : Out} {H C H' C' : Valuation → Type 0} → ((k : Valuation) → Alone I B env k → H' k → H k) → ((k : Valuation) → Alone I B env k → C k → C' k)
      → Added s H (Nothing I B env base S p wf) C t → Added s H' (Nothing I B env base S p wf) C' t
  added_map hh cc' A = record {
    new = A.new;
    grown = A.grown;
    fresh = A.fresh;
    defers = A.defers;
    under = A.under;
    waiting = A.waiting;
    waits = A.waits;
    named = A.named;
    held = A.held;
    gets = λ k m h. A.gets k m (hh k m h);
    says = λ k m f w n q d. cc' k m (A.says k m f w n q d);
    track = A.track;
  }

  -- one rule after another
  pub added_seq : {s s₁ s₂ : Out} {H₁ G₁ C₁ H₂ G₂ C₂ H G C : Valuation → Type 0} → base ≤ s.next_fresh → Added s H₁ G₁ C₁ s₁ → Added s₁ H₂ G₂ C₂ s₂
      → ((k : Valuation) → H k → H₁ k)
      → ((k l : Valuation) → H k → Agree s.next_fresh k l → Alone I B env l → G₁ l → H₂ l)
      → ((k l : Valuation) → Agree s₁.next_fresh k l → G₁ k → G₂ l → G l)
      → ((k : Valuation) → Alone I B env k → C₁ k → C₂ k → C k)
      → Added s H G C s₂
  added_seq {s} {s₁} {s₂} b A D hh mid gg cc' = record {
    new = A.new ++ D.new;
    grown = D.grown ∙ ap (λ z. z ++ D.new) A.grown ∙ append_assoc s.clauses A.new D.new;
    fresh = omega (arith, A.fresh, D.fresh);
    defers = omega (arith, A.defers, D.defers);
    under = each_append (ClauseUnder s₂.next_fresh) A.new D.new (each_of_lem (clause_under_more D.fresh) A.new A.under) D.under;
    waiting = A.waiting ++ D.waiting;
    waits = D.waits ∙ ap (λ z. z ++ D.waiting) A.waits ∙ append_assoc s.limits A.waiting D.waiting;
    named = each_append (λ w. w.name < s₂.next_fresh) A.waiting D.waiting (each_of_lem (λ w h. omega (arith, D.fresh)) A.waiting A.named) D.named;
    held = each_append (λ w. w.filler < length p) A.waiting D.waiting A.held D.held;
    gets = λ k m h.
        let t = A.gets k m (hh k h) in
        let m₁ : Alone I B env t.0 = alone_agree I B env base S b t.1 m in
        let u = D.gets t.0 m₁ (mid k t.0 h t.1 m₁ t.4) in (
          u.0,
          agree_trans A.fresh t.1 u.1,
          each_append (Follows (with_classes I u.0)) A.new D.new (follow_agree I u.1 A.new A.under t.2) u.2,
          each_append (Inside I B env base S p wf u.0) A.waiting D.waiting (insides_agree I B env base S p wf (omega (arith, A.fresh)) u.1 A.waiting A.named t.3) u.3,
          gg t.0 u.0 u.1 t.4 u.4,
        );
    says = λ k m f w n q d.
        cc' k m (A.says k m (each_left (Follows (with_classes I k)) A.new D.new f) (each_left (Inside I B env base S p wf k) A.waiting D.waiting w) (λ e. each_left (Fine base) A.new D.new (n e)) q (omega (arith, A.defers, D.defers)))
        (D.says k m (each_right (Follows (with_classes I k)) A.new D.new f) (each_right (Inside I B env base S p wf k) A.waiting D.waiting w) (λ e. each_right (Fine base) A.new D.new (n e)) q (omega (arith, A.defers, D.defers)));
    track = track_trans env (grown_refl p) A.track D.track;
  }

  -- the same, where nothing is said of the fresh sets
  pub added_then : {s s₁ s₂ : Out} {H₁ C₁ H₂ C₂ : Valuation → Type 0} → base ≤ s.next_fresh → Stable base H₂ → Added s H₁ (Nothing I B env base S p wf) C₁ s₁ → Added s₁ H₂ (Nothing I B env base S p wf) C₂ s₂
      → Added s (λ k. H₁ k × H₂ k) (Nothing I B env base S p wf) (λ k. C₁ k × C₂ k) s₂
  added_then b st A D = added_seq b A D (λ k h. h.0) (λ k l h a _ _. st k l (agree_below b a) h.1) (λ k l a _ _. tt) (λ k m p q. (p, q))

  -- after what only reads
  pub quiet_added : {s s₁ t : Out} {H G C : Valuation → Type 0} → Quiet s s₁ → Added s₁ H G C t → Added s H G C t
  quiet_added {s} {s₁} {t} {H} {G} {C} Q A = record {
    new = A.new;
    grown = A.grown ∙ ap (λ z. z ++ A.new) Q.clauses;
    fresh = omega (arith, A.fresh, Q.fresh);
    defers = subst (λ z. length z ≤ length t.deferrals) Q.deferrals A.defers;
    under = A.under;
    waiting = A.waiting;
    waits = A.waits ∙ ap (λ z. z ++ A.waiting) Q.limits;
    named = A.named;
    held = A.held;
    gets = λ k m h. let u = A.gets k m h in (u.0, subst (λ z. Agree z k u.0) Q.fresh u.1, u.2, u.3, u.4);
    says = λ k m f w n q d. A.says k m f w n q (d ∙ ap length (sym Q.deferrals));
    track = track_trans env (grown_refl p) (track_still env p (quiet_still Q)) A.track;
  }

  -- ---- a clause, and a deferral, after which the second half is not asked
  pub push_added : (b h : List Atom) (s : Out) → base ≤ s.next_fresh → Each (AtomUnder base) b → Each (AtomUnder base) h
      → Post (λ _ t. Added s (λ k. Follows (with_classes I k) (clause b h)) (Nothing I B env base S p wf) (λ k. Follows (with_classes I k) (clause b h)) t) (push env b h s)
  unfolding push
  push_added b h s l ub uh = go (ltb (length s.clauses) env.rooms.clauses && leb (total s.clauses + length (b ++ h)) env.rooms.atoms)
    where
      go : (r : Bool) → Post (λ _ t. Added s (λ k. Follows (with_classes I k) (clause b h)) (Nothing I B env base S p wf) (λ k. Follows (with_classes I k) (clause b h)) t) (push_in (clause b h) s r)
      go true = give (record {
        new = clause b h ∷ [];
        grown = refl;
        fresh = le_refl s.next_fresh;
        defers = le_refl (length s.deferrals);
        under = (record { body = each_of_lem (atom_under_more l) b ub; head = each_of_lem (atom_under_more l) h uh }, tt);
        waiting = [];
        waits = sym (append-nil s.limits);
        named = tt;
        held = tt;
        gets = λ k m f. (k, agree_refl s.next_fresh k, (f, tt), tt, tt);
        says = λ k m f _ _ _ _. f.0;
        track = track_push env p s b h;
      })
      go false = refuses

  pub defer_added : {H C : Valuation → Type 0} (d : Deferral) (s : Out) → Post (λ _ t. Added s H (Nothing I B env base S p wf) C t) (defer env d s)
  unfolding defer
  defer_added {H} {C} d s = go (ltb (length s.deferrals) env.rooms.deferrals)
    where
      go : (r : Bool) → Post (λ _ t. Added s H (Nothing I B env base S p wf) C t) (defer_in d s r)
      go true = give (record {
        new = [];
        grown = sym (append-nil s.clauses);
        fresh = le_refl s.next_fresh;
        defers = simp length-append (omega arith);
        under = tt;
        waiting = [];
        waits = sym (append-nil s.limits);
        named = tt;
        held = tt;
        gets = λ k m h. (k, agree_refl s.next_fresh k, tt, tt, tt);
        says = λ k m _ _ _ _ e. absurd (omega (arith, simp length-append at e));
        track = track_defer env p s d;
      })
      go false = refuses

  pub follows_stable : (b h : List Atom) → Each (AtomUnder base) b → Each (AtomUnder base) h → Stable base (λ k. Follows (with_classes I k) (clause b h))
  follows_stable b h ub uh k l a f = follows_agree I a (clause b h) (record { body = ub; head = uh }) f

  -- ---- loops, over a state that holds clauses; G: what else a step does to it
  module _ {T : Type 0} (out_of : T → Out) (G : T → T → Type 0) where
    pub record Does (s : T) (H C : Valuation → Type 0) (t : T) : Type 0 where
      pub moved : G s t
      pub added : Added (out_of s) H (Nothing I B env base S p wf) C (out_of t)

    module _ (s₀ : T) (still : (s : T) → G s₀ s → G s s) (join : (s t u : T) → G s t → G t u → G s u) where
      pub each_does : {A : Type 0} (P : A → Type 0) (H C : A → Valuation → Type 0) (f : A → M T (Unit {0})) → ((a : A) → P a → Stable base (H a))
          → ((a : A) → P a → (s : T) → G s₀ s → base ≤ (out_of s).next_fresh → Post (λ _ t. Does s (H a) (C a) t) (f a s))
          → (l : List A) → Each P l → (s : T) → G s₀ s → base ≤ (out_of s).next_fresh
          → Post (λ _ t. Does s (λ k. Each (λ a. H a k) l) (λ k. Each (λ a. C a k) l) t) (for_each f l s)
      unfolding for_each
      each_does P H C f st one [] u s g b = give (record { moved = still s g; added = added_none (out_of s) (λ k m. tt) })
      each_does P H C f st one (a ∷ l) u s g b =
          post_then (one a u.0 s g b) (λ _ s₁ A.
          post_map (each_does P H C f st one l u.1 s₁ (join s₀ s s₁ g A.moved) (omega (arith, A.added.fresh))) (λ _ s₂ D.
          record { moved = join s s₁ s₂ A.moved D.moved; added = added_then b (each_stable base P H st l u.1) A.added D.added }))

-- ---- what waits, read in a larger pool
module _ (I : Interpretation) where
  pub insides_grown : {p q : Pool} → Grown p q → (k : Valuation) (ws : List Limit) → Each (λ w. w.filler < length p) ws
      → Each (λ w. (x : ℕ) → x < I.size → means (with_classes I k) p w.filler x ≡ true → k w.name x ≡ true) ws
      → Each (λ w. (x : ℕ) → x < I.size → means (with_classes I k) q w.filler x ≡ true → k w.name x ≡ true) ws
  insides_grown g k [] u i = tt
  insides_grown g k (w ∷ ws) u i = (λ x l e. i.0 x l (ap (λ f. f x) (sym (means_grown (with_classes I k) g w.filler u.0)) ∙ e), insides_grown g k ws u.1 i.1)

  pub insides_shrunk : {p q : Pool} → Grown p q → (k : Valuation) (ws : List Limit) → Each (λ w. w.filler < length p) ws
      → Each (λ w. (x : ℕ) → x < I.size → means (with_classes I k) q w.filler x ≡ true → k w.name x ≡ true) ws
      → Each (λ w. (x : ℕ) → x < I.size → means (with_classes I k) p w.filler x ≡ true → k w.name x ≡ true) ws
  insides_shrunk g k [] u i = tt
  insides_shrunk g k (w ∷ ws) u i = (λ x l e. i.0 x l (ap (λ f. f x) (means_grown (with_classes I k) g w.filler u.0) ∙ e), insides_shrunk g k ws u.1 i.1)

pub added_grown : (I : Interpretation) (B : Bounds) (env : Env) (base : ℕ) (S : Setting I B env base) {p q : Pool} (wp : Wf B p) (wq : Wf B q) → Grown p q → {s t : Out} {H C : Valuation → Type 0}
    → Added I B env base S p wp s H (Nothing I B env base S p wp) C t → Added I B env base S q wq s H (Nothing I B env base S q wq) C t
added_grown I B env base S {p} {q} wp wq g {s} {t} A = record {
  new = A.new;
  grown = A.grown;
  fresh = A.fresh;
  defers = A.defers;
  under = A.under;
  waiting = A.waiting;
  waits = A.waits;
  named = A.named;
  held = each_of_lem (λ _ h. le_trans h (grown_length g)) A.waiting A.held;
  gets = λ k m h. let u = A.gets k m h in (u.0, u.1, u.2, insides_grown I g u.0 A.waiting A.held u.3, tt);
  says = λ k m f w n e d. A.says k m f (insides_shrunk I g k A.waiting A.held w) n e d;
  track = track_grown env g A.track;
}
