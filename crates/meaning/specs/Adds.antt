-- What a rule that emits clauses adds: both halves of the meaning, and how they go through a sequence of rules. Assumes nothing.
use Rattle.std.specs.Prelude.{◌≡◌, Bool, true, false, ℕ, suc, ◌+◌, ◌≤◌, ◌<◌, length, eqb}
use Rattle.std.proofs.Math.Path.{refl, ap}
use Rattle.std.proofs.Common.{sym, ◌∙◌, le_refl}
use mathlib.Core.List.{List, [], ◌∷◌, ◌++◌, append-nil, append_assoc}
use native.Mathlib.Omega.{arith}
use Rattle.ir.specs.declared.role.Role.{Role}
use Rattle.ir.specs.declared.atom.Atom.{Atom}
use Rattle.ir.specs.declared.atom.Atom.TheVariants.{Class, Exists, AtMost, AtLeast, Equal, Role as RoleAtom}
use Rattle.rules.specs.Base.{all}
use Rattle.rules.specs.Concept.{Concept}
use Rattle.rules.specs.Concept.{Top, Bot, Atomic, Nominal, SelfRestriction, Not, And, Or, Some, All, Min, Max}
use Rattle.rules.specs.Pool.{Pool, at}
use Rattle.rules.specs.State.{Clause, Limit, Env, Out, canon}
use Rattle.rules.specs.Heads.{emit_by}
use Rattle.rules.specs.Post.{Post}
use Rattle.rules.specs.Invariants.{Each, Bounds, Bounded, Wf, QualifierIn}
use Rattle.rules.specs.Semantics.{Interpretation, with_classes, related, atom_holds, concept_means, meaning_at, meanings_from, means}
use Rattle.rules.specs.EachLaws.{each_append, each_left, each_right}
use Rattle.meaning.specs.Choices.{Choice, Follows}
use Rattle.rules.specs.PoolLaws.{grown_refl}
use Rattle.meaning.specs.Tracks.{Track, track_refl, track_trans}
use Rattle.meaning.specs.Valuations.{Valuation, Agree, agree_refl, agree_trans, AtomUnder, ClauseUnder, each_of_lem, clause_under_more, follow_agree}

-- ---- an atom's variables are below n
abbrev pub VarsUnder : ℕ → Atom → Type 0
VarsUnder n (Class c v) = v < n
VarsUnder n (RoleAtom r u v) = (u < n) × (v < n)
VarsUnder n (Exists r c v) = v < n
VarsUnder n (AtMost r q k v) = v < n
VarsUnder n (AtLeast r q k v) = v < n
VarsUnder n (Equal u v) = (u < n) × (v < n)

-- ---- no at-most atom names a class from base on
abbrev pub FineAtom : ℕ → Atom → Type 0
FineAtom base (Class _ _) = Unit {0}
FineAtom base (RoleAtom _ _ _) = Unit {0}
FineAtom base (Exists _ _ _) = Unit {0}
FineAtom base (AtMost _ q _ _) = QualifierIn base q
FineAtom base (AtLeast _ _ _ _) = Unit {0}
FineAtom base (Equal _ _) = Unit {0}

abbrev pub Fine : ℕ → Clause → Type 0
Fine base c = Each (FineAtom base) c.head

-- ---- the setting of a run: the classes and individuals' classes are those below base, the map keeps the roles' pairs, and
-- the pool is well formed
pub record Setting (I : Interpretation) (B : Bounds) (env : Env) (base : ℕ) : Type 0 where
  pub classes : B.classes ≤ base
  pub individuals : (i : ℕ) → i < B.individuals → env.nominal_base + i < base
  pub keeps : (r : Role) (x y : ℕ) → x < I.size → y < I.size → related I (canon env r) x y ≡ related I r x y

-- the classes that a record names
abbrev pub NamesIn : Bounds → Concept → Type 0
NamesIn B Top = Unit {0}
NamesIn B Bot = Unit {0}
NamesIn B (Atomic a) = a < B.classes
NamesIn B (Nominal _) = Unit {0}
NamesIn B (SelfRestriction _) = Unit {0}
NamesIn B (Not _) = Unit {0}
NamesIn B (And _) = Unit {0}
NamesIn B (Or _) = Unit {0}
NamesIn B (Some _ _) = Unit {0}
NamesIn B (All _ _) = Unit {0}
NamesIn B (Min _ _ _) = Unit {0}
NamesIn B (Max _ _ _) = Unit {0}

names_of : (B : Bounds) (n : ℕ) (e : Concept) → Bounded B n e → NamesIn B e
names_of B n Top b = tt
names_of B n Bot b = tt
names_of B n (Atomic a) b = b
names_of B n (Nominal _) b = tt
names_of B n (SelfRestriction _) b = tt
names_of B n (Not _) b = tt
names_of B n (And _) b = tt
names_of B n (Or _) b = tt
names_of B n (Some _ _) b = tt
names_of B n (All _ _) b = tt
names_of B n (Min _ _ _) b = tt
names_of B n (Max _ _ _) b = tt

pub names_in_lem : (B : Bounds) (p : Pool) (n : ℕ) → ((c : ℕ) → c < length p → Bounded B (n + c) (at p c)) → Each (NamesIn B) p
names_in_lem B [] n w = tt
names_in_lem B (e ∷ p) n w =
    (names_of B (n + 0) e (w 0 (omega arith)), names_in_lem B p (suc n) (λ c h. let q : n + suc c ≡ suc n + c = omega arith in rw q at (w (suc c) (omega arith))))

-- the class of an individual holds that individual alone
pub record Alone (I : Interpretation) (B : Bounds) (env : Env) (k : Valuation) : Type 0 where
  pub alone : (i x : ℕ) → i < B.individuals → x < I.size → k (env.nominal_base + i) x ≡ eqb x (I.individual i)

module _ (I : Interpretation) (B : Bounds) (env : Env) (base : ℕ) (S : Setting I B env base) where
  pub alone_agree : {n : ℕ} {k l : Valuation} → base ≤ n → Agree n k l → Alone I B env k → Alone I B env l
  alone_agree h a m = record { alone = λ i x b u. let q = S.individuals i b in ap (λ f. f x) (sym (a.same (env.nominal_base + i) (omega arith))) ∙ m.alone i x b u }

  -- a concept's meaning rests on the classes below base
  concept_agree : {n : ℕ} {k l : Valuation} → base ≤ n → Agree n k l → (f : ℕ → ℕ → Bool) (e : Concept) → NamesIn B e → concept_means (with_classes I k) f e ≡ concept_means (with_classes I l) f e
  concept_agree h a f Top d = refl
  concept_agree h a f Bot d = refl
  concept_agree h a f (Atomic c) d = let q = S.classes in a.same c (omega arith)
  concept_agree h a f (Nominal _) d = refl
  concept_agree h a f (SelfRestriction _) d = refl
  concept_agree h a f (Not _) d = refl
  concept_agree h a f (And _) d = refl
  concept_agree h a f (Or _) d = refl
  concept_agree h a f (Some _ _) d = refl
  concept_agree h a f (All _ _) d = refl
  concept_agree h a f (Min _ _ _) d = refl
  concept_agree h a f (Max _ _ _) d = refl

  meanings_agree : {n : ℕ} {k l : Valuation} → base ≤ n → Agree n k l → (ms : List (ℕ → Bool)) (p : Pool) → Each (NamesIn B) p → meanings_from (with_classes I k) ms p ≡ meanings_from (with_classes I l) ms p
  unfolding meanings_from
  meanings_agree h a ms [] d = refl
  meanings_agree {k} {l} h a ms (e ∷ p) d =
      ap (λ f. meanings_from (with_classes I k) (ms ++ (f ∷ [])) p) (concept_agree h a (meaning_at ms) e d.0)
      ∙ meanings_agree h a (ms ++ (concept_means (with_classes I l) (meaning_at ms) e ∷ [])) p d.1

  pub means_agree : {n : ℕ} {k l : Valuation} → base ≤ n → Agree n k l → (p : Pool) → Wf B p → means (with_classes I k) p ≡ means (with_classes I l) p
  unfolding means
  means_agree h a p w = ap meaning_at (meanings_agree h a [] p (names_in_lem B p 0 (λ c h. let q : 0 + c ≡ c = omega arith in rw q (w c h))))

  -- ---- the limits that wait
  module _ (p : Pool) (wf : Wf B p) where
    -- the filler is inside its name
    abbrev pub Inside : Valuation → Limit → Type 0
    Inside k w = (x : ℕ) → x < I.size → means (with_classes I k) p w.filler x ≡ true → k w.name x ≡ true

    pub insides_agree : {n : ℕ} {k l : Valuation} → base ≤ n → Agree n k l → (ws : List Limit) → Each (λ w. w.name < n) ws → Each (Inside k) ws → Each (Inside l) ws
    insides_agree h a [] u i = tt
    insides_agree h a (w ∷ ws) u i = (
      λ x s e. ap (λ f. f x) (sym (a.same w.name u.0)) ∙ i.0 x s (ap (λ m. m w.filler x) (means_agree h a p wf) ∙ e),
      insides_agree h a ws u.1 i.1,
    )

  module _ (p : Pool) (wf : Wf B p) where
    -- what a rule adds, from s to t. H: what must hold for its clauses; G: what then holds with the sets for the fresh classes;
    -- C: what holds where its clauses do
    pub record Adds (s : Out) (H G C : Valuation → Type 0) (t : Out) : Type 0 where
      pub new : List Clause
      pub grown : t.clauses ≡ s.clauses ++ new
      pub fresh : s.next_fresh ≤ t.next_fresh
      pub var : s.next_var ≤ t.next_var
      pub defers : length s.deferrals ≤ length t.deferrals
      pub under : Each (ClauseUnder t.next_fresh) new
      pub waiting : List Limit
      pub waits : t.limits ≡ s.limits ++ waiting
      pub named : Each (λ w. w.name < t.next_fresh) waiting
      pub held : Each (λ w. w.filler < length p) waiting
      pub gets : (k : Valuation) → Alone I B env k → H k → (l : Valuation) × Agree s.next_fresh k l × Each (Follows (with_classes I l)) new × Each (Inside p wf l) waiting × G l
      pub says : (k : Valuation) → Alone I B env k → Each (Follows (with_classes I k)) new → Each (Inside p wf k) waiting → (env.equal_names ≡ false → Each (Fine base) new) → env.dkey_classes ≡ []
          → length t.deferrals ≡ length s.deferrals → C k
      pub track : Track env p s t waiting

    -- nothing added
    pub stay : {H G C : Valuation → Type 0} (s : Out) → ((k : Valuation) → Alone I B env k → H k → G k) → ((k : Valuation) → Alone I B env k → C k) → Adds s H G C s
    stay s g c = record {
      new = [];
      grown = sym (append-nil s.clauses);
      fresh = le_refl s.next_fresh;
      var = le_refl s.next_var;
      defers = le_refl (length s.deferrals);
      under = tt;
      waiting = [];
      waits = sym (append-nil s.limits);
      named = tt;
      held = tt;
      gets = λ k m h. (k, agree_refl s.next_fresh k, tt, tt, g k m h);
      says = λ k m _ _ _ _ _. c k m;
      track = track_refl env p s;
    }

    pub adds_map : {s t : Out} {H G C H' G' C' : Valuation → Type 0} → ((k : Valuation) → H' k → H k) → ((k : Valuation) → G k → G' k) → ((k : Valuation) → C k → C' k) → Adds s H G C t → Adds s H' G' C' t
    adds_map hh gg cc' A = record {
      new = A.new;
      grown = A.grown;
      fresh = A.fresh;
      var = A.var;
      defers = A.defers;
      under = A.under;
      waiting = A.waiting;
      waits = A.waits;
      named = A.named;
      held = A.held;
      gets = λ k m h. let t = A.gets k m (hh k h) in (t.0, t.1, t.2, t.3, gg t.0 t.4);
      says = λ k m f w n q d. cc' k (A.says k m f w n q d);
      track = A.track;
    }

    -- one rule after another
    pub seq : {s s₁ s₂ : Out} {H₁ G₁ C₁ H₂ G₂ C₂ H G C : Valuation → Type 0} → base ≤ s.next_fresh → Adds s H₁ G₁ C₁ s₁ → Adds s₁ H₂ G₂ C₂ s₂
        → ((k : Valuation) → H k → H₁ k)
        → ((k l : Valuation) → H k → Agree s.next_fresh k l → Alone I B env l → G₁ l → H₂ l)
        → ((k l : Valuation) → Agree s₁.next_fresh k l → G₁ k → G₂ l → G l)
        → ((k : Valuation) → Alone I B env k → C₁ k → C₂ k → C k)
        → Adds s H G C s₂
    seq {s} {s₁} {s₂} b A D hh mid gg cc' = record {
      new = A.new ++ D.new;
      grown = D.grown ∙ ap (λ z. z ++ D.new) A.grown ∙ append_assoc s.clauses A.new D.new;
      fresh = omega (arith, A.fresh, D.fresh);
      var = omega (arith, A.var, D.var);
      defers = omega (arith, A.defers, D.defers);
      under = each_append (ClauseUnder s₂.next_fresh) A.new D.new (each_of_lem (clause_under_more D.fresh) A.new A.under) D.under;
      waiting = A.waiting ++ D.waiting;
      waits = D.waits ∙ ap (λ z. z ++ D.waiting) A.waits ∙ append_assoc s.limits A.waiting D.waiting;
      named = each_append (λ w. w.name < s₂.next_fresh) A.waiting D.waiting (each_of_lem (λ w h. omega (arith, D.fresh)) A.waiting A.named) D.named;
      held = each_append (λ w. w.filler < length p) A.waiting D.waiting A.held D.held;
      gets = λ k m h.
          let t = A.gets k m (hh k h) in
          let m₁ : Alone I B env t.0 = alone_agree b t.1 m in
          let u = D.gets t.0 m₁ (mid k t.0 h t.1 m₁ t.4) in (
            u.0,
            agree_trans A.fresh t.1 u.1,
            each_append (Follows (with_classes I u.0)) A.new D.new (follow_agree I u.1 A.new A.under t.2) u.2,
            each_append (Inside p wf u.0) A.waiting D.waiting (insides_agree p wf (omega (arith, A.fresh)) u.1 A.waiting A.named t.3) u.3,
            gg t.0 u.0 u.1 t.4 u.4,
          );
      says = λ k m f w n q d.
          cc' k m (A.says k m (each_left (Follows (with_classes I k)) A.new D.new f) (each_left (Inside p wf k) A.waiting D.waiting w) (λ e. each_left (Fine base) A.new D.new (n e)) q (omega (arith, A.defers, D.defers)))
          (D.says k m (each_right (Follows (with_classes I k)) A.new D.new f) (each_right (Inside p wf k) A.waiting D.waiting w) (λ e. each_right (Fine base) A.new D.new (n e)) q (omega (arith, A.defers, D.defers)));
      track = track_trans env (grown_refl p) A.track D.track;
    }

    -- ---- heads: what emit_head is handed, and what a body and a head concept say
    pub record Pre (s : Out) (b : List Atom) (v : ℕ) : Type 0 where
      pub above : base ≤ s.next_fresh
      pub root : 0 < s.next_var
      pub var : v < s.next_var
      pub under : Each (AtomUnder s.next_fresh) b
      pub vars : Each (VarsUnder s.next_var) b

    -- wherever the body holds, the concept holds at the variable
    abbrev pub Gives : List Atom → ℕ → ℕ → Valuation → Type 0
    Gives b c v k = (f : ℕ → ℕ) → Choice I f → all (atom_holds (with_classes I k) f) b ≡ true → means (with_classes I k) p c (f v) ≡ true

    abbrev pub Nothing : Valuation → Type 0
    Nothing k = Unit {0}

    -- both halves of emit_head
    abbrev pub EmitMeans : Type 0
    EmitMeans = (f : ℕ) (b : List Atom) (c v : ℕ) (s : Out) → c < length p → c < f → Pre s b v
        → Post (λ _ t. Adds s (Gives b c v) Nothing (Gives b c v) t) (emit_by env p f b c v s)
