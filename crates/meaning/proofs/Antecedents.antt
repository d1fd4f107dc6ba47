-- Antecedents: where encode_antecedent answers, an alternative holds exactly where the concept does; and it only reads. Assumes
-- nothing.
use Rattle.std.specs.Prelude.{◌≡◌, Bool, false, ◌&&◌, length, leb, ltb}
use Rattle.std.proofs.Math.Path.{refl, sym, ap, ap₂}
use Rattle.std.proofs.Common.{◌∙◌, not-suc-le-zero, le_refl, arith}
use Rattle.std.proofs.Math.Bool.{true, ◌||◌, and-false, and-or_distrib_left, and-or_distrib_right, and_assoc, or_assoc}
use Rattle.std.proofs.lemmas.Bool.{false≢true, or_left, or_right}
use mathlib.Core.List.{List, [], ◌∷◌, ◌++◌, map}
use Rattle.std.proofs.Math.Option.{Option, none, some}
use Prim.Native.Nat.{ℕ, zero, suc, ◌+◌, ◌≤◌, ◌<◌}
use Rattle.ir.specs.declared.role.Role.{Role}
use Rattle.ir.specs.declared.atom.Atom.{Atom}
use Rattle.ir.specs.declared.atom.Atom.TheVariants.{Class, Role as RoleAtom}
use Rattle.rules.specs.Base.{ok, then, all, any}
use Rattle.rules.specs.Concept.{Concept}
use Rattle.rules.specs.Concept.{Top, Bot, Atomic, Nominal, SelfRestriction, Not, And, Or, Some, All, Min, Max}
use Rattle.rules.specs.Pool.{Pool, at}
use Rattle.rules.specs.State.{Env, Out, out, E, canon, begun, visit, fresh_var}
use Rattle.rules.specs.Antecedents.{Alternatives, cross, in_hand, within, antecedent_dnf_cap, and_with, encode_and, or_with, encode_or, some_with, encode_step, encode_by}
use Rattle.rules.specs.Post.{Post, give, refuses, post_then, post_map}
use Rattle.rules.specs.Invariants.{Each, Bounds, Bounded, Wf}
use Rattle.rules.specs.PoolLaws.{bounded_more}
use Rattle.rules.specs.Semantics.{Interpretation, with_classes, related, concept_means, means, atom_holds, chosen}
use Rattle.rules.specs.EachLaws.{each_append}
use Rattle.rules.proofs.AntecedentLaws.{each_one, each_cross}
use Rattle.meaning.specs.Truth.{or_none, and_unit, and_left, and_right, and_both, all_append, any_append, any_at, any_find}
use Rattle.meaning.proofs.Finite.{means_at}
use Rattle.meaning.specs.Choices.{Choice}
use Rattle.meaning.specs.Valuations.{Valuation, AtomUnder, each_of_lem}
use Rattle.meaning.specs.Tracks.{Still}
use Rattle.meaning.specs.Adds.{VarsUnder, Setting, Alone}
use Rattle.meaning.specs.Steps.{body_agree, chosen_at, chosen_below, chosen_choice, vars_under_more}

-- ---- what only reads: no clause, no deferral, no fresh class
pub record Quiet (s t : Out) : Type 0 where
  pub clauses : t.clauses ≡ s.clauses
  pub deferrals : t.deferrals ≡ s.deferrals
  pub fresh : t.next_fresh ≡ s.next_fresh
  pub limits : t.limits ≡ s.limits
  pub line : t.line ≡ s.line

pub quiet_trans : {s t u : Out} → Quiet s t → Quiet t u → Quiet s u
quiet_trans Q R = record { clauses = R.clauses ∙ Q.clauses; deferrals = R.deferrals ∙ Q.deferrals; fresh = R.fresh ∙ Q.fresh; limits = R.limits ∙ Q.limits; line = R.line ∙ Q.line }

pub quiet_still : {s t : Out} → Quiet s t → Still s t
quiet_still Q = record { clauses = Q.clauses; deferrals = Q.deferrals; limits = Q.limits; line = Q.line; fresh = omega (arith, Q.fresh) }

-- and takes variables on from the last
pub record Reads (s t : Out) : Type 0 where
  pub quiet : Quiet s t
  pub var : s.next_var ≤ t.next_var

pub reads_refl : (s : Out) → Reads s s
reads_refl s = record { quiet = record { clauses = refl; deferrals = refl; fresh = refl; limits = refl; line = refl }; var = le_refl s.next_var }

pub reads_trans : {s t u : Out} → Reads s t → Reads t u → Reads s u
reads_trans Q R = record { quiet = quiet_trans Q.quiet R.quiet; var = omega (arith, Q.var, R.var) }

pub visit_reads : (s : Out) → Post (λ _ t. Reads s t) (visit s)
unfolding visit
visit_reads s = go (ltb s.visits s.limit)
  where
    go : (b : Bool) → Post (λ _ t. Reads s t) (begun s b)
    go true = give (record { quiet = record { clauses = refl; deferrals = refl; fresh = refl; limits = refl; line = refl }; var = le_refl s.next_var })
    go false = refuses

-- ---- alternatives
-- one of them holds
abbrev pub some_holds : Interpretation → (ℕ → ℕ) → Alternatives → Bool
some_holds I f l = any (λ b. all (atom_holds I f) b) l

module _ (I : Interpretation) (f : ℕ → ℕ) where
  before_holds : (a : List Atom) (k : Alternatives) → some_holds I f (map (λ b. a ++ b) k) ≡ all (atom_holds I f) a && some_holds I f k
  before_holds a [] = sym (and-false (all (atom_holds I f) a))
  before_holds a (b ∷ k) = ap₂ ◌||◌ (all_append (atom_holds I f) a b) (before_holds a k) ∙ sym (and-or_distrib_left (all (atom_holds I f) a) (all (atom_holds I f) b) (some_holds I f k))

  one_holds : (a : Atom) (k : Alternatives) → some_holds I f (map (λ b. a ∷ b) k) ≡ atom_holds I f a && some_holds I f k
  one_holds a [] = sym (and-false (atom_holds I f a))
  one_holds a (b ∷ k) = ap (λ z. (atom_holds I f a && all (atom_holds I f) b) || z) (one_holds a k) ∙ sym (and-or_distrib_left (atom_holds I f a) (all (atom_holds I f) b) (some_holds I f k))

  cross_holds : (l k : Alternatives) → some_holds I f (cross l k) ≡ some_holds I f l && some_holds I f k
  unfolding cross
  cross_holds [] k = refl
  cross_holds (a ∷ l) k =
      any_append (λ b. all (atom_holds I f) b) (map (λ b. a ++ b) k) (cross l k)
      ∙ ap₂ ◌||◌ (before_holds a k) (cross_holds l k)
      ∙ sym (and-or_distrib_right (all (atom_holds I f) a) (some_holds I f l) (some_holds I f k))

some_choice_lem : (I : Interpretation) (n : ℕ) (f g : ℕ → ℕ) → ((v : ℕ) → v < n → f v ≡ g v) → (l : Alternatives) → Each (Each (VarsUnder n)) l → some_holds I f l ≡ some_holds I g l
some_choice_lem I n f g h [] u = refl
some_choice_lem I n f g h (b ∷ l) u = ap₂ ◌||◌ (body_agree I n f g h b u.0) (some_choice_lem I n f g h l u.1)

-- P of every atom of every alternative
pub each_deep : {P Q : Atom → Type 0} → ((a : Atom) → P a → Q a) → (l : Alternatives) → Each (Each P) l → Each (Each Q) l
each_deep h l u = each_of_lem (λ b. each_of_lem h b) l u

module _ (I : Interpretation) (B : Bounds) (env : Env) (base : ℕ) (S : Setting I B env base) where
  -- alternatives l for what f says of the variable v
  pub record Encoded (s : Out) (f : Valuation → ℕ → Bool) (v : ℕ) (l : Alternatives) (t : Out) : Type 0 where
    pub reads : Reads s t
    pub under : Each (Each (AtomUnder base)) l
    pub vars : Each (Each (VarsUnder t.next_var)) l
    pub sound : (k : Valuation) → Alone I B env k → (g : ℕ → ℕ) → Choice I g → some_holds (with_classes I k) g l ≡ true → f k (g v) ≡ true
    pub full : (k : Valuation) → Alone I B env k → (g : ℕ → ℕ) → Choice I g → f k (g v) ≡ true
        → (h : ℕ → ℕ) × Choice I h × ((u : ℕ) → u < s.next_var → g u ≡ h u) × (some_holds (with_classes I k) h l ≡ true)

  abbrev pub Coded : Out → (Valuation → ℕ → Bool) → ℕ → Option Alternatives → Out → Type 0
  Coded s f v none t = Reads s t
  Coded s f v (some l) t = Encoded s f v l t

  pub coded_reads : (s t : Out) (f : Valuation → ℕ → Bool) (v : ℕ) (o : Option Alternatives) → Coded s f v o t → Reads s t
  coded_reads s t f v none A = A
  coded_reads s t f v (some l) A = A.reads

  -- both
  pub cross_coded : {s s₁ s₂ : Out} (f g : Valuation → ℕ → Bool) (v : ℕ) (l k : Alternatives) → v < s.next_var → Encoded s f v l s₁ → Encoded s₁ g v k s₂ → Encoded s (λ m x. f m x && g m x) v (cross l k) s₂
  cross_coded {s} {s₁} {s₂} f g v l k h A D = record {
    reads = reads_trans A.reads D.reads;
    under = each_cross (AtomUnder base) l k A.under D.under;
    vars = each_cross (VarsUnder s₂.next_var) l k (each_deep (vars_under_more D.reads.var) l A.vars) D.vars;
    sound = λ m n i c e.
        let e' = sym (cross_holds (with_classes I m) i l k) ∙ e in
        and_both (A.sound m n i c (and_left (some_holds (with_classes I m) i l) (some_holds (with_classes I m) i k) e'))
        (D.sound m n i c (and_right (some_holds (with_classes I m) i l) (some_holds (with_classes I m) i k) e'));
    full = λ m n i c e.
        let p = A.full m n i c (and_left (f m (i v)) (g m (i v)) e) in
        let q = D.full m n p.0 p.1 (ap (g m) (sym (p.2 v h)) ∙ and_right (f m (i v)) (g m (i v)) e) in (
          q.0,
          q.1,
          λ u z. p.2 u z ∙ q.2 u (omega (arith, A.reads.var)),
          cross_holds (with_classes I m) q.0 l k ∙ and_both (sym (some_choice_lem (with_classes I m) s₁.next_var p.0 q.0 q.2 l A.vars) ∙ p.3) q.3,
        );
  }

  -- one of the two
  either_coded : {s s₁ s₂ : Out} (f g : Valuation → ℕ → Bool) (v : ℕ) (l k : Alternatives) → Encoded s f v l s₁ → Encoded s₁ g v k s₂ → Encoded s (λ m x. f m x || g m x) v (l ++ k) s₂
  either_coded {s} {s₁} {s₂} f g v l k A D = record {
    reads = reads_trans A.reads D.reads;
    under = each_append (Each (AtomUnder base)) l k A.under D.under;
    vars = each_append (Each (VarsUnder s₂.next_var)) l k (each_deep (vars_under_more D.reads.var) l A.vars) D.vars;
    sound = λ m n i c e. split m n i c (some_holds (with_classes I m) i l) refl (sym (any_append (λ b. all (atom_holds (with_classes I m) i) b) l k) ∙ e);
    full = λ m n i c e. choose m n i c (f m (i v)) refl e;
  }
    where
      split : (m : Valuation) → Alone I B env m → (i : ℕ → ℕ) → Choice I i → (d : Bool) → some_holds (with_classes I m) i l ≡ d → d || some_holds (with_classes I m) i k ≡ true → f m (i v) || g m (i v) ≡ true
      split m n i c true q e = or_left (f m (i v)) (g m (i v)) (A.sound m n i c q)
      split m n i c false q e = or_right (f m (i v)) (g m (i v)) (D.sound m n i c e)

      choose : (m : Valuation) → Alone I B env m → (i : ℕ → ℕ) → Choice I i → (d : Bool) → f m (i v) ≡ d → d || g m (i v) ≡ true
          → (h : ℕ → ℕ) × Choice I h × ((u : ℕ) → u < s.next_var → i u ≡ h u) × (some_holds (with_classes I m) h (l ++ k) ≡ true)
      choose m n i c true q e =
          let p = A.full m n i c q in
          (p.0, p.1, p.2, any_append (λ b. all (atom_holds (with_classes I m) p.0) b) l k ∙ or_left (some_holds (with_classes I m) p.0 l) (some_holds (with_classes I m) p.0 k) p.3)
      choose m n i c false q e =
          let p = D.full m n i c e in (
            p.0,
            p.1,
            λ u z. p.2 u (omega (arith, A.reads.var)),
            any_append (λ b. all (atom_holds (with_classes I m) p.0) b) l k ∙ or_right (some_holds (with_classes I m) p.0 l) (some_holds (with_classes I m) p.0 k) p.3,
          )

  -- one class atom
  leaf_coded : (a v : ℕ) (f : Valuation → ℕ → Bool) (s : Out) → a < base → v < s.next_var → ((m : Valuation) → Alone I B env m → (x : ℕ) → x < I.size → m a x ≡ f m x)
      → Encoded s f v ((Class a v ∷ []) ∷ []) s
  leaf_coded a v f s h w is = record {
    reads = reads_refl s;
    under = ((h, tt), tt);
    vars = ((w, tt), tt);
    sound = λ m n i c e. sym (is m n (i v) (c v)) ∙ sym (both (m a (i v))) ∙ e;
    full = λ m n i c e. (i, c, λ u z. refl, both (m a (i v)) ∙ is m n (i v) (c v) ∙ e);
  }
    where
      both : (b : Bool) → (b && true) || false ≡ b
      both true = refl
      both false = refl

  true_coded : (v : ℕ) (s : Out) → Encoded s (λ m x. true) v ([] ∷ []) s
  true_coded v s = record { reads = reads_refl s; under = (tt, tt); vars = (tt, tt); sound = λ m n i c e. refl; full = λ m n i c e. (i, c, λ u z. refl, refl) }

  false_coded : (v : ℕ) (s : Out) → Encoded s (λ m x. false) v [] s
  false_coded v s = record { reads = reads_refl s; under = tt; vars = tt; sound = λ m n i c e. e; full = λ m n i c e. absurd (false≢true e) }

  coded_as : {s t : Out} {f g : Valuation → ℕ → Bool} {v : ℕ} {l : Alternatives} → ((m : Valuation) (x : ℕ) → f m x ≡ g m x) → Encoded s f v l t → Encoded s g v l t
  coded_as {v} q A = record {
    reads = A.reads;
    under = A.under;
    vars = A.vars;
    sound = λ m n i c e. sym (q m (i v)) ∙ A.sound m n i c e;
    full = λ m n i c e. A.full m n i c (q m (i v) ∙ e);
  }

  coded_opt : (s t : Out) (f g : Valuation → ℕ → Bool) (v : ℕ) (o : Option Alternatives) → ((m : Valuation) (x : ℕ) → f m x ≡ g m x) → Coded s f v o t → Coded s g v o t
  coded_opt s t f g v none q A = A
  coded_opt s t f g v (some l) q A = coded_as q A

  after_reading : (s s₁ s₂ : Out) (f : Valuation → ℕ → Bool) (v : ℕ) (o : Option Alternatives) → Reads s s₁ → Coded s₁ f v o s₂ → Coded s f v o s₂
  after_reading s s₁ s₂ f v none R A = reads_trans R A
  after_reading s s₁ s₂ f v (some l) R A = record {
    reads = reads_trans R A.reads;
    under = A.under;
    vars = A.vars;
    sound = A.sound;
    full = λ m n i c e. let p = A.full m n i c e in (p.0, p.1, λ u z. p.2 u (omega (arith, R.var)), p.3);
  }

  module _ (pool : Pool) (w : Wf B pool) where
    abbrev meant : Valuation → ℕ → ℕ → Bool
    meant m = means (with_classes I m) pool

    abbrev says : Concept → Valuation → ℕ → Bool
    says e m = concept_means (with_classes I m) (meant m) e

    -- a role to the next variable
    abbrev step : Role → ℕ → Out → Atom
    step r v s = RoleAtom (canon env r) v s.next_var

    abbrev next : Out → Out
    next s = out s.visits s.limit (s.next_var + 1) s.next_fresh s.clauses s.deferrals s.line s.limits

    next_reads : (s : Out) → Reads s (next s)
    next_reads s = record { quiet = record { clauses = refl; deferrals = refl; fresh = refl; limits = refl; line = refl }; var = omega arith }

    some_coded : (r : Role) (d v : ℕ) (s t : Out) (k : Alternatives) → v < s.next_var → Encoded (next s) (λ m. meant m d) s.next_var k t → Encoded s (says (Some r d)) v (map (λ b. step r v s ∷ b) k) t
    some_coded r d v s t k h A = record {
      reads = reads_trans (next_reads s) A.reads;
      under = each_one (AtomUnder base) (step r v s) k tt A.under;
      vars = each_one (VarsUnder t.next_var) (step r v s) k (omega (arith, A.reads.var), omega (arith, A.reads.var)) A.vars;
      sound = λ m n i c e.
          let e' = sym (one_holds (with_classes I m) i (step r v s) k) ∙ e in
          any_at I.size (λ y. related I r (i v) y && meant m d y) (i s.next_var) (c s.next_var)
          (and_both (sym (S.keeps r (i v) (i s.next_var) (c v) (c s.next_var)) ∙ and_left (related I (canon env r) (i v) (i s.next_var)) (some_holds (with_classes I m) i k) e')
          (A.sound m n i c (and_right (related I (canon env r) (i v) (i s.next_var)) (some_holds (with_classes I m) i k) e')));
      full = λ m n i c e.
          let z = any_find I.size (λ y. related I r (i v) y && meant m d y) e in
          let j = chosen i s.next_var z.0 in
          let here : j s.next_var ≡ z.0 = chosen_at i s.next_var z.0 in
          let p = A.full m n j (chosen_choice I i s.next_var z.0 c z.1) (ap (meant m d) here ∙ and_right (related I r (i v) z.0) (meant m d z.0) z.2) in
          let old : (u : ℕ) → u < s.next_var → i u ≡ p.0 u = λ u l. chosen_below i s.next_var z.0 u l ∙ p.2 u (omega arith) in
          let new : p.0 s.next_var ≡ z.0 = sym (p.2 s.next_var (omega arith)) ∙ here in
          let edge : related I (canon env r) (p.0 v) (p.0 s.next_var) ≡ true =
          ap₂ (related I (canon env r)) (sym (old v h)) new ∙ S.keeps r (i v) z.0 (c v) z.1 ∙ and_left (related I r (i v) z.0) (meant m d z.0) z.2 in
          (p.0, p.1, old, one_holds (with_classes I m) p.0 (step r v s) k ∙ and_both {a = related I (canon env r) (p.0 v) (p.0 s.next_var)} edge p.3);
    }

    -- encode answers so for the ids below n
    abbrev Encodes : (ℕ → ℕ → E (Option Alternatives)) → ℕ → Type 0
    Encodes encode n = (c v : ℕ) (s : Out) → c < n → c < length pool → v < s.next_var → Post (λ o t. Coded s (λ m. meant m c) v o t) (encode c v s)

    module _ (encode : ℕ → ℕ → E (Option Alternatives)) (n : ℕ) (W : Encodes encode n) where
      within_post : {Q : Option Alternatives → Out → Type 0} (rest : Alternatives → E (Option Alternatives)) (l : Alternatives) (s : Out) → Q none s → Post Q (rest l s) → (a b : Bool) → Post Q (within a b l rest s)
      within_post rest l s q p false b = refuses
      within_post rest l s q p true false = give q
      within_post rest l s q p true true = p

      and_coded : (l : List ℕ) (v : ℕ) (f : Valuation → ℕ → Bool) (acc : Alternatives) (s₀ s : Out) → Each (λ c. c < n) l → Each (λ c. c < length pool) l → v < s₀.next_var → Encoded s₀ f v acc s
          → Post (λ o t. Coded s₀ (λ m x. f m x && all (λ c. meant m c x) l) v o t) (encode_and env pool encode l v acc s)
      unfolding encode_and
      and_coded [] v f acc s₀ s u i h A = give (coded_as (λ m x. sym (and_unit (f m x))) A)
      and_coded (c ∷ l) v f acc s₀ s u i h A = post_then (W c v s u.0 i.0 (omega (arith, A.reads.var)))
          (λ o s₁ D. go (λ k s₁ N. and_coded l v (λ m x. f m x && meant m c x) k s₀ s₁ u.1 i.1 h N) o s₁ D)
        where
          go : ((k : Alternatives) (s₁ : Out) → Encoded s₀ (λ m x. f m x && meant m c x) v k s₁ → Post (λ o t. Coded s₀ (λ m x. (f m x && meant m c x) && all (λ c. meant m c x) l) v o t) (encode_and env pool encode l v k s₁))
              → (o : Option Alternatives) (s₁ : Out) → Coded s (λ m. meant m c) v o s₁
              → Post (λ o t. Coded s₀ (λ m x. f m x && (meant m c x && all (λ c. meant m c x) l)) v o t) (and_with env pool encode (λ k. encode_and env pool encode l v k) acc o s₁)
          go rest none s₁ D = give (reads_trans A.reads D)
          go rest (some k) s₁ D = within_post (λ k. encode_and env pool encode l v k) (cross acc k) s₁ (reads_trans A.reads D.reads)
              (post_map (rest (cross acc k) s₁ (cross_coded f (λ m. meant m c) v acc k h A D))
              (λ o s₂ N. coded_opt s₀ s₂ (λ m x. (f m x && meant m c x) && all (λ c. meant m c x) l) (λ m x. f m x && (meant m c x && all (λ c. meant m c x) l)) v o (λ m x. and_assoc (f m x) (meant m c x) (all (λ c. meant m c x) l)) N))
              (all in_hand (cross acc k)) (leb (length (cross acc k)) antecedent_dnf_cap)

      or_coded : (l : List ℕ) (v : ℕ) (f : Valuation → ℕ → Bool) (acc : Alternatives) (s₀ s : Out) → Each (λ c. c < n) l → Each (λ c. c < length pool) l → v < s₀.next_var → Encoded s₀ f v acc s
          → Post (λ o t. Coded s₀ (λ m x. f m x || any (λ c. meant m c x) l) v o t) (encode_or env pool encode l v acc s)
      unfolding encode_or
      or_coded [] v f acc s₀ s u i h A = give (coded_as (λ m x. sym (or_none (f m x))) A)
      or_coded (c ∷ l) v f acc s₀ s u i h A = post_then (W c v s u.0 i.0 (omega (arith, A.reads.var)))
          (λ o s₁ D. go (λ k s₁ N. or_coded l v (λ m x. f m x || meant m c x) k s₀ s₁ u.1 i.1 h N) o s₁ D)
        where
          go : ((k : Alternatives) (s₁ : Out) → Encoded s₀ (λ m x. f m x || meant m c x) v k s₁ → Post (λ o t. Coded s₀ (λ m x. (f m x || meant m c x) || any (λ c. meant m c x) l) v o t) (encode_or env pool encode l v k s₁))
              → (o : Option Alternatives) (s₁ : Out) → Coded s (λ m. meant m c) v o s₁
              → Post (λ o t. Coded s₀ (λ m x. f m x || (meant m c x || any (λ c. meant m c x) l)) v o t) (or_with env pool encode (λ k. encode_or env pool encode l v k) acc o s₁)
          go rest none s₁ D = give (reads_trans A.reads D)
          go rest (some k) s₁ D = within_post (λ k. encode_or env pool encode l v k) (acc ++ k) s₁ (reads_trans A.reads D.reads)
              (post_map (rest (acc ++ k) s₁ (either_coded f (λ m. meant m c) v acc k A D))
              (λ o s₂ N. coded_opt s₀ s₂ (λ m x. (f m x || meant m c x) || any (λ c. meant m c x) l) (λ m x. f m x || (meant m c x || any (λ c. meant m c x) l)) v o (λ m x. or_assoc (f m x) (meant m c x) (any (λ c. meant m c x) l)) N))
              true (leb (length (acc ++ k)) antecedent_dnf_cap)

      some_step : (r : Role) (d v : ℕ) (s : Out) → d < n → d < length pool → v < s.next_var
          → Post (λ o t. Coded s (says (Some r d)) v o t) (then (encode d s.next_var (next s)) (λ o. some_with env pool encode (step r v s) o))
      some_step r d v s u i h = post_then (W d s.next_var (next s) u i (omega arith)) (λ o s₁ A. go o s₁ A)
        where
          go : (o : Option Alternatives) (s₁ : Out) → Coded (next s) (λ m. meant m d) s.next_var o s₁ → Post (λ o t. Coded s (says (Some r d)) v o t) (some_with env pool encode (step r v s) o s₁)
          go none s₁ A = give (reads_trans (next_reads s) A)
          go (some k) s₁ A = within_post (λ l s. ok (some l) s) (map (λ b. step r v s ∷ b) k) s₁ (reads_trans (next_reads s) A.reads) (give (some_coded r d v s s₁ k h A)) (all in_hand (map (λ b. step r v s ∷ b) k)) true

      unanswered : (f : Valuation → ℕ → Bool) (v : ℕ) (s : Out) → Post (λ o t. Coded s f v o t) (ok none s)
      unanswered f v s = give (reads_refl s)

      step_coded : (v : ℕ) (s : Out) → v < s.next_var → (e : Concept) → Bounded B n e → Bounded B (length pool) e → Post (λ o t. Coded s (says e) v o t) (encode_step env pool encode v e s)
      unfolding encode_step fresh_var
      step_coded v s h Top u i = give (true_coded v s)
      step_coded v s h Bot u i = unanswered (says Bot) v s
      step_coded v s h (Atomic a) u i = give (leaf_coded a v (says (Atomic a)) s (omega (arith, S.classes)) h (λ m n x l. refl))
      step_coded v s h (Nominal j) u i = give (leaf_coded (env.nominal_base + j) v (says (Nominal j)) s (S.individuals j u) h (λ m n x l. n.alone j x u l))
      step_coded v s h (SelfRestriction r) u i = unanswered (says (SelfRestriction r)) v s
      step_coded v s h (Not c) u i = unanswered (says (Not c)) v s
      step_coded v s h (And l) u i = and_coded l v (λ m x. true) ([] ∷ []) s s u i h (true_coded v s)
      step_coded v s h (Or l) u i = or_coded l v (λ m x. false) [] s s u i h (false_coded v s)
      step_coded v s h (Some r c) u i = some_step r c v s u.1 i.1 h
      step_coded v s h (All r c) u i = unanswered (says (All r c)) v s
      step_coded v s h (Min k r c) u i = unanswered (says (Min k r c)) v s
      step_coded v s h (Max k r c) u i = unanswered (says (Max k r c)) v s

    pub encode_means : (f c v : ℕ) (s : Out) → c < f → c < length pool → v < s.next_var → Post (λ o t. Coded s (λ m. means (with_classes I m) pool c) v o t) (encode_by env pool f c v s)
    unfolding encode_by
    encode_means zero c v s h k b = absurd (not-suc-le-zero h)
    encode_means (suc f) c v s h k b = go (encode_means f)
      where
        go : Encodes (λ c v. encode_by env pool f c v) f → Post (λ o t. Coded s (λ m. meant m c) v o t) (encode_by env pool (suc f) c v s)
        go ih = post_then (visit_reads s) (λ _ s₁ R.
            post_map (step_coded (λ c v. encode_by env pool f c v) f ih v s₁ (omega (arith, R.var)) (at pool c)
            (bounded_more B c f (at pool c) (omega arith) (w c k)) (bounded_more B c (length pool) (at pool c) (omega arith) (w c k)))
            (λ o s₂ A. coded_opt s s₂ (says (at pool c)) (λ m. meant m c) v o (λ m x. ap (λ z. z x) (sym (means_at (with_classes I m) B pool w c k)))
            (after_reading s s₁ s₂ (says (at pool c)) v o R A)))
