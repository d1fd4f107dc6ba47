-- A clause is broken by an assignment where each of its body atoms holds and each of its head atoms fails; and this can be tested
-- an element at a time: with each further variable, the atoms whose variables are now all known. Assumes nothing.
use Rattle.std.specs.Prelude.{◌≡◌, Bool, ◌&&◌, ◌||◌, ℕ, zero, suc, length, take, eqb}
use Rattle.std.proofs.Math.Path.{refl, ap}
use Rattle.std.proofs.Common.{sym, ap₂, ◌∙◌, length-append, add-one, eqb-true}
use Rattle.std.proofs.Math.Bool.{true, false, not}
use Rattle.std.proofs.lemmas.Bool.{false≢true}
use mathlib.Core.List.{List, [], ◌∷◌, ◌++◌, append-nil, append_assoc}
use Rattle.ir.specs.Atoms.{atom_vars}
use Rattle.ir.specs.declared.atom.Atom.{Atom}
use Rattle.ir.specs.declared.atom.Atom.TheVariants.{Class, Exists, AtMost, AtLeast, Equal, Role as RoleAtom}
use Rattle.rules.specs.Base.{all, any, contains}
use Rattle.rules.specs.State.{Clause}
use Rattle.rules.specs.Invariants.{Each}
use Rattle.rules.specs.Semantics.{Interpretation, implies, chosen, atom_holds, clause_vars, clause_holds_at}
use Rattle.rules.specs.EachLaws.{each_map, each_any}
use Rattle.meaning.specs.Truth.{by_truth, all_each, each_all, and_unit, and_crossed}
use Rattle.meaning.specs.Choices.{atom_agree}
use Rattle.states.specs.Conditions.{rises, chosen_from, clause_true_at, clause_broken}
use Rattle.states.specs.SearchLaws.{least_same, fits, search, search_least}

-- ---- all literals broken
any_not : {A : Type 0} (f : A → Bool) (l : List A) → any f l ≡ not (all (λ a. not (f a)) l)
any_not f [] = refl
any_not f (a ∷ l) = go (f a) (any_not f l)
  where
    go : (b : Bool) → any f l ≡ not (all (λ a. not (f a)) l) → (b || any f l) ≡ not (not b && all (λ a. not (f a)) l)
    go true h = refl
    go false h = h

implies_not : (a b : Bool) → implies a (not b) ≡ not (a && b)
implies_not true b = refl
implies_not false b = refl

abbrev pub literals : Interpretation → Clause → (ℕ → ℕ) → Bool
literals I c f = all (atom_holds I f) c.body && all (λ a. not (atom_holds I f a)) c.head

pub clause_literals : (I : Interpretation) (c : Clause) (f : ℕ → ℕ) → clause_holds_at I c f ≡ not (literals I c f)
clause_literals I c f = ap (implies (all (atom_holds I f) c.body)) (any_not (atom_holds I f) c.head) ∙ implies_not (all (atom_holds I f) c.body) (all (λ a. not (atom_holds I f a)) c.head)

-- ---- variables, each once, and a choice for the first of them
abbrev pub Distinct : List ℕ → Type 0
Distinct [] = Unit {0}
Distinct (v ∷ vs) = (contains vs v ≡ false) × Distinct vs

pub unchosen : (f : ℕ → ℕ) (vs l : List ℕ) (u : ℕ) → contains vs u ≡ false → chosen_from f vs l u ≡ f u
unfolding chosen_from
unchosen f [] l u h = refl
unchosen f (v ∷ vs) [] u h = refl
unchosen f (v ∷ vs) (x ∷ l) u h = by_truth (eqb u v)
    (λ e. absurd (false≢true (sym h ∙ rw e refl)))
    (λ e. unchosen (chosen f v x) vs l u (sym (rw e refl) ∙ h) ∙ rw e refl)

-- more elements change nothing for the variables that have theirs
pub chosen_more : (f : ℕ → ℕ) (vs p q : List ℕ) (u : ℕ) → Distinct vs → contains (take (length p) vs) u ≡ true → chosen_from f vs (p ++ q) u ≡ chosen_from f vs p u
unfolding chosen_from
chosen_more f [] p q u D h = refl
chosen_more f (v ∷ vs) [] q u D h = absurd (false≢true h)
chosen_more f (v ∷ vs) (x ∷ p) q u D h = by_truth (contains (take (length p) vs) u)
    (λ e. chosen_more (chosen f v x) vs p q u D.1 e)
    (λ e. let w : eqb u v ≡ true = left (eqb u v) (contains (take (length p) vs) u) h e in
    let g : contains vs u ≡ false = ap (contains vs) (eqb-true u v w) ∙ D.0 in
    unchosen (chosen f v x) vs (p ++ q) u g ∙ sym (unchosen (chosen f v x) vs p u g))
  where
    left : (a b : Bool) → a || b ≡ true → b ≡ false → a ≡ true
    left true b h e = refl
    left false b h e = absurd (false≢true (sym e ∙ h))

-- ---- atoms by the place of their last variable
-- all variables of the atom are among the first k
abbrev pub decided : List ℕ → ℕ → Atom → Bool
decided vs k a = all (contains (take k vs)) (atom_vars a)

contains_more : (k : ℕ) (vs : List ℕ) (u : ℕ) → contains (take k vs) u ≡ true → contains (take (suc k) vs) u ≡ true
contains_more zero vs u h = absurd (false≢true h)
contains_more (suc k) [] u h = h
contains_more (suc k) (v ∷ vs) u h = by_truth (eqb u v) (λ e. rw e refl) (λ e. rw e (contains_more k vs u (sym (rw e refl) ∙ h)))

decided_more : (vs : List ℕ) (k : ℕ) (l : List ℕ) → all (contains (take k vs)) l ≡ true → all (contains (take (suc k) vs)) l ≡ true
decided_more vs k l h = each_all (contains (take (suc k) vs)) l (each_map (λ v. contains (take k vs) v ≡ true) (λ v. contains (take (suc k) vs) v ≡ true) (contains_more k vs) l (all_each (contains (take k vs)) l h))

pub all_and : {A : Type 0} (f g : A → Bool) (l : List A) → all (λ a. f a && g a) l ≡ all f l && all g l
all_and f g [] = refl
all_and f g (a ∷ l) = ap (λ b. (f a && g a) && b) (all_and f g l) ∙ and_crossed (f a) (g a) (all f l) (all g l)

pub all_on : {A : Type 0} (f g : A → Bool) (l : List A) → Each (λ a. f a ≡ g a) l → all f l ≡ all g l
all_on f g [] h = refl
all_on f g (a ∷ l) h = rw (h.0, all_on f g l h.1) refl

module _ (vs : List ℕ) (T : List ℕ → Atom → Bool) (known : (p q : List ℕ) (a : Atom) → decided vs (length p) a ≡ true → T (p ++ q) a ≡ T p a) where
  -- the atoms that become known with one element more
  abbrev pub next_all : List Atom → List ℕ → ℕ → Bool
  next_all l p x = all (λ a. implies (decided vs (suc (length p)) a && not (decided vs (length p) a)) (T (p ++ (x ∷ [])) a)) l

  unfoldable pub stepwise : List Atom → List ℕ → List ℕ → Bool
  stepwise l p [] = true
  stepwise l p (x ∷ q) = next_all l p x && stepwise l (p ++ (x ∷ [])) q

  one_step : (p : List ℕ) (x : ℕ) (q : List ℕ) (a : Atom)
      → implies (not (decided vs (length p) a)) (T (p ++ (x ∷ q)) a) ≡ implies (decided vs (suc (length p)) a && not (decided vs (length p) a)) (T (p ++ (x ∷ [])) a) && implies (not (decided vs (length (p ++ (x ∷ []))) a)) (T ((p ++ (x ∷ [])) ++ q) a)
  one_step p x q a =
      let e : length (p ++ (x ∷ [])) ≡ suc (length p) = length-append p (x ∷ []) ∙ add-one (length p) in
      let f : (p ++ (x ∷ [])) ++ q ≡ p ++ (x ∷ q) = append_assoc p (x ∷ []) q in
      rw (e, f) (go (decided vs (length p) a) (decided vs (suc (length p)) a) (decided_more vs (length p) (atom_vars a)) (λ h. sym (ap (λ (l : List ℕ). T l a) f) ∙ known (p ++ (x ∷ [])) q a (ap (λ (k : ℕ). decided vs k a) e ∙ h)))
    where
      go : (b c : Bool) → (b ≡ true → c ≡ true) → (c ≡ true → T (p ++ (x ∷ q)) a ≡ T (p ++ (x ∷ [])) a) → implies (not b) (T (p ++ (x ∷ q)) a) ≡ implies (c && not b) (T (p ++ (x ∷ [])) a) && implies (not c) (T (p ++ (x ∷ q)) a)
      go true true m k = refl
      go true false m k = absurd (false≢true (m refl))
      go false true m k = k refl ∙ sym (and_unit (T (p ++ (x ∷ [])) a))
      go false false m k = refl

  pub step_all : (l : List Atom) (p q : List ℕ) → Each (λ a. decided vs (length (p ++ q)) a ≡ true) l → all (λ a. implies (not (decided vs (length p) a)) (T (p ++ q) a)) l ≡ stepwise l p q
  unfolding stepwise
  step_all l p [] h = all_on (λ a. implies (not (decided vs (length p) a)) (T (p ++ []) a)) (λ _. true) l (each_map (λ a. decided vs (length (p ++ [])) a ≡ true) (λ a. implies (not (decided vs (length p) a)) (T (p ++ []) a) ≡ true)
      (λ a k. rw (sym (ap (λ (t : List ℕ). decided vs (length t) a) (append-nil p)) ∙ k) refl) l h) ∙ all_true l
    where
      all_true : (l : List Atom) → all (λ _. true) l ≡ true
      all_true [] = refl
      all_true (a ∷ l) = all_true l
  step_all l p (x ∷ q) h =
      all_on (λ a. implies (not (decided vs (length p) a)) (T (p ++ (x ∷ q)) a)) (λ a. implies (decided vs (suc (length p)) a && not (decided vs (length p) a)) (T (p ++ (x ∷ [])) a) && implies (not (decided vs (length (p ++ (x ∷ []))) a)) (T ((p ++ (x ∷ [])) ++ q) a)) l
      (each_any (λ a. implies (not (decided vs (length p) a)) (T (p ++ (x ∷ q)) a) ≡ (implies (decided vs (suc (length p)) a && not (decided vs (length p) a)) (T (p ++ (x ∷ [])) a) && implies (not (decided vs (length (p ++ (x ∷ []))) a)) (T ((p ++ (x ∷ [])) ++ q) a))) (one_step p x q) l)
      ∙ all_and (λ a. implies (decided vs (suc (length p)) a && not (decided vs (length p) a)) (T (p ++ (x ∷ [])) a)) (λ a. implies (not (decided vs (length (p ++ (x ∷ []))) a)) (T ((p ++ (x ∷ [])) ++ q) a)) l
      ∙ ap (λ b. next_all l p x && b) (step_all l (p ++ (x ∷ [])) q (each_map (λ a. decided vs (length (p ++ (x ∷ q))) a ≡ true) (λ a. decided vs (length ((p ++ (x ∷ [])) ++ q)) a ≡ true)
      (λ a k. ap (λ (t : List ℕ). decided vs (length t) a) (append_assoc p (x ∷ []) q) ∙ k) l h))

-- ---- the clause
module _ (I : Interpretation) (c : Clause) where
  abbrev pub vs : List ℕ
  vs = clause_vars c

  abbrev pub choice : List ℕ → ℕ → ℕ
  choice p = chosen_from (λ _. 0) vs p

  abbrev pub held : List ℕ → Atom → Bool
  held p a = atom_holds I (choice p) a

  abbrev pub failed : List ℕ → Atom → Bool
  failed p a = not (atom_holds I (choice p) a)

  module _ (D : Distinct vs) where
    pub held_known : (p q : List ℕ) (a : Atom) → decided vs (length p) a ≡ true → held (p ++ q) a ≡ held p a
    held_known p q a h = atom_agree I (choice (p ++ q)) (choice p) a
        (each_map (λ v. contains (take (length p) vs) v ≡ true) (λ v. choice (p ++ q) v ≡ choice p v) (λ v k. chosen_more (λ _. 0) vs p q v D k) (atom_vars a) (all_each (contains (take (length p) vs)) (atom_vars a) h))

    pub failed_known : (p q : List ℕ) (a : Atom) → decided vs (length p) a ≡ true → failed (p ++ q) a ≡ failed p a
    failed_known p q a h = ap not (held_known p q a h)

    -- element x behind the elements p breaks every atom that it makes known
    abbrev pub next_breaks : List ℕ → ℕ → Bool
    next_breaks p x = next_all vs held held_known c.body p x && next_all vs failed failed_known c.head p x

    undecided : (a : Atom) → decided vs 0 a ≡ false
    undecided (Class k v) = refl
    undecided (RoleAtom r u v) = refl
    undecided (Exists r k v) = refl
    undecided (AtMost r q n v) = refl
    undecided (AtLeast r q n v) = refl
    undecided (Equal u v) = refl

    from_start : (T : List ℕ → Atom → Bool) (q : List ℕ) (l : List Atom) → all (T q) l ≡ all (λ a. implies (not (decided vs 0 a)) (T q a)) l
    from_start T q l = all_on (T q) (λ a. implies (not (decided vs 0 a)) (T q a)) l (each_any (λ a. T q a ≡ implies (not (decided vs 0 a)) (T q a)) (λ a. rw (undecided a) refl) l)

    two_steps : (E p q : List ℕ) → fits E next_breaks p q ≡ stepwise vs held held_known c.body p q && stepwise vs failed failed_known c.head p q
    unfolding fits stepwise
    two_steps E p [] = refl
    two_steps E p (x ∷ q) =
        ap (λ b. next_breaks p x && b) (two_steps E (p ++ (x ∷ [])) q)
        ∙ and_crossed (next_all vs held held_known c.body p x) (next_all vs failed failed_known c.head p x) (stepwise vs held held_known c.body (p ++ (x ∷ [])) q) (stepwise vs failed failed_known c.head (p ++ (x ∷ [])) q)

    -- the search, variable by variable, finds the least assignment that breaks the clause
    pub clause_search : Each (λ a. decided vs (length vs) a ≡ true) c.body → Each (λ a. decided vs (length vs) a ≡ true) c.head
        → clause_broken I c ≡ search (rises 0 I.size) next_breaks (length vs) []
    clause_search B H =
        least_same I.size (length vs) (clause_true_at I c) (λ l. not (fits (rises 0 I.size) next_breaks [] l)) (λ l A. clause_literals I c (choice l) ∙ ap not (same l A.many))
        ∙ search_least (rises 0 I.size) next_breaks (length vs) []
      where
        long : (l : List ℕ) (k : List Atom) → length l ≡ length vs → Each (λ a. decided vs (length vs) a ≡ true) k → Each (λ a. decided vs (length l) a ≡ true) k
        long l k e h = each_map (λ a. decided vs (length vs) a ≡ true) (λ a. decided vs (length l) a ≡ true) (λ a q. ap (λ (n : ℕ). decided vs n a) e ∙ q) k h

        same : (l : List ℕ) → length l ≡ length vs → literals I c (choice l) ≡ fits (rises 0 I.size) next_breaks [] l
        same l e =
            ap₂ ◌&&◌ (from_start held l c.body ∙ step_all vs held held_known c.body [] l (long l c.body e B)) (from_start failed l c.head ∙ step_all vs failed failed_known c.head [] l (long l c.head e H))
            ∙ sym (two_steps (rises 0 I.size) [] l)
