-- The small steps of the rules that emit clauses, and what each adds: a visit, a variable, a class, an atom in hand, a clause,
-- a deferral, and the restart of the variables. Assumes nothing.
use Rattle.std.specs.Prelude.{◌≡◌, refl, Bool, ◌&&◌, List, [], ◌∷◌, ◌++◌, ℕ, ◌+◌, ◌≤◌, ◌<◌, ltb, eqb}
use Rattle.std.proofs.Math.Path.{sym}
use Rattle.std.proofs.Common.{ap, ap₂, ◌∙◌, append-nil, arith, eq-eqb, ne_eqb}
use Rattle.std.proofs.Math.Bool.{true, false}
use Rattle.std.proofs.Math.Nat.{le_refl}
use Rattle.std.proofs.Math.ListN.{length, length-append}
use Rattle.std.proofs.Math.Dec.{leb}
use Rattle.ir.specs.Pick.{pick}
use Rattle.ir.specs.Atoms.{atom_vars}
use Rattle.ir.specs.declared.atom.Atom.{Atom}
use Rattle.ir.specs.declared.atom.Atom.TheVariants.{Class, Exists, AtMost, AtLeast, Equal, Role as RoleAtom}
use Rattle.ir.specs.declared.deferral.Deferral.{Deferral}
use Rattle.rules.specs.Base.{then, all}
use Rattle.rules.specs.State.{clause, total, Env, Out, out, E, most_in_hand, begun, visit, fresh_var, longer, with, push_in, push, defer_in, defer}
use Rattle.rules.specs.Post.{Post, give, refuses, post_map}
use Rattle.rules.specs.Pool.{Pool}
use Rattle.rules.specs.Invariants.{Each, Bounds, Wf}
use Rattle.rules.specs.Semantics.{Interpretation, with_classes, atom_holds, chosen}
pub use Rattle.meaning.specs.Choices.{chosen_choice}
use Rattle.meaning.specs.Choices.{Follows, AgreeOn, atom_agree}
use Rattle.meaning.specs.Valuations.{Valuation, Agree, agree_refl, AtomUnder, each_of_lem, atom_under_more}
use Rattle.rules.specs.PoolLaws.{grown_refl}
use Rattle.meaning.specs.Tracks.{track_still, track_trans, track_push, track_defer}
use Rattle.meaning.specs.Adds.{VarsUnder, FineAtom, Setting, Alone, Adds, stay, Pre}

-- ---- choices of elements: a body reads its own variables alone
module _ (I : Interpretation) (n : ℕ) (f g : ℕ → ℕ) (h : (v : ℕ) → v < n → f v ≡ g v) where
  vars_agree : (a : Atom) → VarsUnder n a → AgreeOn (atom_vars a) f g
  vars_agree (Class c v) u = (h v u, tt)
  vars_agree (RoleAtom r x v) u = (h x u.0, (h v u.1, tt))
  vars_agree (Exists r c v) u = (h v u, tt)
  vars_agree (AtMost r q k v) u = (h v u, tt)
  vars_agree (AtLeast r q k v) u = (h v u, tt)
  vars_agree (Equal x v) u = (h x u.0, (h v u.1, tt))

  pub body_agree : (b : List Atom) → Each (VarsUnder n) b → all (atom_holds I f) b ≡ all (atom_holds I g) b
  body_agree [] u = refl
  body_agree (a ∷ b) u = ap₂ ◌&&◌ (atom_agree I f g a (vars_agree a u.0)) (body_agree b u.1)

pub chosen_at : (f : ℕ → ℕ) (v x : ℕ) → chosen f v x v ≡ x
chosen_at f v x = ap (λ t. pick t x (f v)) (eq-eqb v v refl)

pub chosen_below : (f : ℕ → ℕ) (v x u : ℕ) → u < v → f u ≡ chosen f v x u
chosen_below f v x u h = sym (ap (λ t. pick t x (f u)) (ne_eqb u v (λ e. omega arith)))

pub vars_under_more : {m n : ℕ} → m ≤ n → (a : Atom) → VarsUnder m a → VarsUnder n a
vars_under_more h (Class c v) u = omega arith
vars_under_more h (RoleAtom r x v) u = (omega arith, omega arith)
vars_under_more h (Exists r c v) u = omega arith
vars_under_more h (AtMost r q k v) u = omega arith
vars_under_more h (AtLeast r q k v) u = omega arith
vars_under_more h (Equal x v) u = (omega arith, omega arith)

-- what every valuation satisfies
abbrev pub Always : Valuation → Type 0
Always k = Unit {0}

-- ---- a valuation with another set for one class
abbrev pub with_set : Valuation → ℕ → (ℕ → Bool) → Valuation
with_set k q f c = pick (eqb c q) f (k c)

pub set_at_lem : (k : Valuation) (q : ℕ) (f : ℕ → Bool) → with_set k q f q ≡ f
set_at_lem k q f = ap (λ t. pick t f (k q)) (eq-eqb q q refl)

pub set_agree : (k : Valuation) (q : ℕ) (f : ℕ → Bool) → Agree q k (with_set k q f)
set_agree k q f = record { same = λ c h. sym (ap (λ t. pick t f (k c)) (ne_eqb c q (λ e. omega arith))) }

-- the states after visit, freshVar and freshClass
abbrev pub moved : Out → (visits var : ℕ) → Out
moved s n x = out n s.limit x s.next_fresh s.clauses s.deferrals s.line s.limits

abbrev pub visited : Out → Out
visited s = moved s (s.visits + 1) s.next_var

abbrev pub next_variable : Out → Out
next_variable s = moved s s.visits (s.next_var + 1)

abbrev pub next_class : Out → Out
next_class s = out s.visits s.limit s.next_var (s.next_fresh + 1) s.clauses s.deferrals s.line s.limits

-- a visit, a restart or a variable, and what follows it
pub visit_then : {A : Type 0} {Q : A → Out → Type 0} (s : Out) (f : E A) → Post Q (f (visited s)) → Post Q (then (visit s) (λ _. f))
unfolding visit
visit_then {Q} s f h = go (ltb s.visits s.limit)
  where
    go : (t : Bool) → Post Q (then (begun s t) (λ _. f))
    go true = h
    go false = refuses

pub variable_then : {A : Type 0} {Q : A → Out → Type 0} (s : Out) (f : ℕ → E A) → Post Q (f s.next_var (next_variable s)) → Post Q (then (fresh_var s) f)
unfolding fresh_var
variable_then s f h = h

-- one atom more in hand
pub with_then : {A : Type 0} {Q : A → Out → Type 0} (l : List Atom) (a : Atom) (s : Out) (f : List Atom → E A) → Post Q (f (l ++ (a ∷ [])) s) → Post Q (then (with l a s) f)
unfolding with
with_then {Q} l a s f h = go (ltb (length l) most_in_hand)
  where
    go : (t : Bool) → Post Q (then (longer l a t s) f)
    go true = h
    go false = refuses

module _ (I : Interpretation) (B : Bounds) (env : Env) (base : ℕ) (S : Setting I B env base) (p : Pool) (wf : Wf B p) where
  -- the class q is the set f
  abbrev pub Is : (Valuation → ℕ → Bool) → ℕ → Valuation → Type 0
  Is f q k = (x : ℕ) → x < I.size → k q x ≡ f k x

  pub pre_more : {s t : Out} {b : List Atom} {v : ℕ} → s.next_fresh ≤ t.next_fresh → s.next_var ≤ t.next_var → Pre I B env base S p wf s b v → Pre I B env base S p wf t b v
  pre_more {s} {t} {b} h k P = record {
    above = omega (arith, P.above);
    root = omega (arith, P.root);
    var = omega (arith, P.var);
    under = each_of_lem (atom_under_more h) b P.under;
    vars = each_of_lem (vars_under_more k) b P.vars;
  }

  -- a visit keeps what is handed on
  pub pre_visited : (s : Out) (b : List Atom) (v : ℕ) → Pre I B env base S p wf s b v → Pre I B env base S p wf (visited s) b v
  pre_visited s b v P = record { above = P.above; root = P.root; var = P.var; under = P.under; vars = P.vars }

  -- `Adds-map` where individuals' classes are right
  pub adds_alone : {s t : Out} {H G C H' G' C' : Valuation → Type 0} → ((k : Valuation) → Alone I B env k → H' k → H k) → ((k : Valuation) → G k → G' k) → ((k : Valuation) → Alone I B env k → C k → C' k)
      → Adds I B env base S p wf s H G C t → Adds I B env base S p wf s H' G' C' t
  adds_alone hh gg cc' A = record {
    new = A.new;
    grown = A.grown;
    fresh = A.fresh;
    var = A.var;
    defers = A.defers;
    under = A.under;
    waiting = A.waiting;
    waits = A.waits;
    named = A.named;
    held = A.held;
    gets = λ k m h. let t = A.gets k m (hh k m h) in (t.0, t.1, t.2, t.3, gg t.0 t.4);
    says = λ k m f w n q d. cc' k m (A.says k m f w n q d);
    track = A.track;
  }

  -- a step that only counts a visit or takes a variable
  pub adds_moved : {t : Out} {H G C : Valuation → Type 0} (s : Out) (n x : ℕ) → s.next_var ≤ x → Adds I B env base S p wf (moved s n x) H G C t → Adds I B env base S p wf s H G C t
  adds_moved s n x h A = record {
    new = A.new;
    grown = A.grown;
    fresh = A.fresh;
    var = omega (arith, A.var);
    defers = A.defers;
    under = A.under;
    waiting = A.waiting;
    waits = A.waits;
    named = A.named;
    held = A.held;
    gets = A.gets;
    says = A.says;
    track = track_trans env (grown_refl p) (track_still env p (record { clauses = refl; deferrals = refl; limits = refl; line = refl; fresh = le_refl s.next_fresh })) A.track;
  }

  pub adds_visited : {t : Out} {H G C : Valuation → Type 0} (s : Out) → Adds I B env base S p wf (visited s) H G C t → Adds I B env base S p wf s H G C t
  adds_visited s A = adds_moved s (s.visits + 1) s.next_var (le_refl s.next_var) A

  pub visit_adds : (s : Out) → Post (λ _ t. Adds I B env base S p wf s Always Always Always t) (visit s)
  unfolding visit
  visit_adds s = go (ltb s.visits s.limit)
    where
      go : (t : Bool) → Post (λ _ t. Adds I B env base S p wf s Always Always Always t) (begun s t)
      go true = give (adds_visited s (stay I B env base S p wf (visited s) (λ _ _ _. tt) (λ _ _. tt)))
      go false = refuses

  pub variable_adds : (s : Out) → Adds I B env base S p wf s Always Always Always (next_variable s)
  variable_adds s = adds_moved s s.visits (s.next_var + 1) (omega arith) (stay I B env base S p wf (next_variable s) (λ _ _ _. tt) (λ _ _. tt))

  -- a fresh class can be given any set that rests on the classes before it
  pub fresh_adds : (f : Valuation → ℕ → Bool) (s : Out) → ((k l : Valuation) → Agree s.next_fresh k l → f k ≡ f l)
      → Adds I B env base S p wf s Always (Is f s.next_fresh) Always (next_class s)
  fresh_adds f s rests = record {
    new = [];
    grown = sym (append-nil s.clauses);
    fresh = omega arith;
    var = le_refl s.next_var;
    defers = le_refl (length s.deferrals);
    under = tt;
    waiting = [];
    waits = sym (append-nil s.limits);
    named = tt;
    held = tt;
    gets = λ k _ _.
        let l = with_set k s.next_fresh (f k) in
        let a : Agree s.next_fresh k l = set_agree k s.next_fresh (f k) in
        (l, a, tt, tt, λ x _. ap (λ z. z x) (set_at_lem k s.next_fresh (f k) ∙ rests k l a));
    says = λ _ _ _ _ _ _ _. tt;
    track = track_still env p (record { clauses = refl; deferrals = refl; limits = refl; line = refl; fresh = omega arith });
  }

  -- a clause b → h: it is asked for, and given back
  pub push_adds : (b h : List Atom) (s : Out) → Each (AtomUnder s.next_fresh) b → Each (AtomUnder s.next_fresh) h
      → Post (λ _ t. Adds I B env base S p wf s (λ k. Follows (with_classes I k) (clause b h)) Always (λ k. Follows (with_classes I k) (clause b h) × (env.equal_names ≡ false → Each (FineAtom base) h)) t) (push env b h s)
  unfolding push
  push_adds b h s ub uh = go (ltb (length s.clauses) env.rooms.clauses && leb (total s.clauses + length (b ++ h)) env.rooms.atoms)
    where
      go : (t : Bool) → Post (λ _ t. Adds I B env base S p wf s (λ k. Follows (with_classes I k) (clause b h)) Always (λ k. Follows (with_classes I k) (clause b h) × (env.equal_names ≡ false → Each (FineAtom base) h)) t) (push_in (clause b h) s t)
      go true = give (record {
        new = clause b h ∷ [];
        grown = refl;
        fresh = le_refl s.next_fresh;
        var = le_refl s.next_var;
        defers = le_refl (length s.deferrals);
        under = (record { body = ub; head = uh }, tt);
        waiting = [];
        waits = sym (append-nil s.limits);
        named = tt;
        held = tt;
        gets = λ k _ c. (k, agree_refl s.next_fresh k, (c, tt), tt, tt);
        says = λ k _ c _ u _ _. (c.0, λ e. (u e).0);
        track = track_push env p s b h;
      })
      go false = refuses

  -- a clause for what implies it, and what it implies
  pub push_for : {H C : Valuation → Type 0} (b h : List Atom) (s : Out) → Each (AtomUnder s.next_fresh) b → Each (AtomUnder s.next_fresh) h
      → ((k : Valuation) → Alone I B env k → H k → Follows (with_classes I k) (clause b h))
      → ((k : Valuation) → Alone I B env k → Follows (with_classes I k) (clause b h) → (env.equal_names ≡ false → Each (FineAtom base) h) → C k)
      → Post (λ _ t. Adds I B env base S p wf s H Always C t) (push env b h s)
  push_for b h s ub uh to back = post_map (push_adds b h s ub uh) (λ _ t A. adds_alone to (λ k g. g) (λ k m c. back k m c.0 c.1) A)

  -- a deferral keeps the first half, and the second is not asked
  pub defer_adds : {H C : Valuation → Type 0} (d : Deferral) (s : Out) → Post (λ _ t. Adds I B env base S p wf s H Always C t) (defer env d s)
  unfolding defer
  defer_adds {H} {C} d s = go (ltb (length s.deferrals) env.rooms.deferrals)
    where
      longer_by : length (s.deferrals ++ (record { line = s.line; kind = d } ∷ [])) ≡ length s.deferrals + 1
      longer_by = length-append s.deferrals (record { line = s.line; kind = d } ∷ [])

      go : (t : Bool) → Post (λ _ t. Adds I B env base S p wf s H Always C t) (defer_in d s t)
      go true = give (record {
        new = [];
        grown = sym (append-nil s.clauses);
        fresh = le_refl s.next_fresh;
        var = le_refl s.next_var;
        defers = omega (arith, longer_by);
        under = tt;
        waiting = [];
        waits = sym (append-nil s.limits);
        named = tt;
        held = tt;
        gets = λ k _ _. (k, agree_refl s.next_fresh k, tt, tt, tt);
        says = λ _ _ _ _ _ _ e. absurd (omega (arith, longer_by, e));
        track = track_defer env p s d;
      })
      go false = refuses
