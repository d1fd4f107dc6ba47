-- What the small steps of an emission do, and what a sequence of them does: clauses, deferrals and limits that wait are appended,
-- and classes and variables stay within bounds.
use Rattle.std.specs.Prelude.{◌≡◌, refl, Bool, true, false, ◌&&◌, List, [], ◌∷◌, ◌++◌, ℕ, suc, ◌+◌, ◌≤◌, ◌<◌, length, ltb, leb}
use Rattle.std.proofs.Common.{sym, ap, ◌∙◌, append-nil, append_assoc, le_refl, le_trans, arith, length-append, ltb-true}
use Rattle.ir.specs.declared.atom.Atom.{Atom}
use Rattle.ir.specs.declared.atom.Atom.TheVariants.{Class, Exists, AtMost, AtLeast, Equal, Role as RoleAtom}
use Rattle.ir.specs.Qualifiers.{Qualifier}
use Rattle.std.specs.Prelude.{None, Some}
use Rattle.ir.specs.declared.deferral.Deferral.{Deferral}
use Rattle.rules.specs.Handed.{Above}
use Rattle.rules.specs.Base.{Res, M, then, for_each}
use Rattle.rules.specs.State.{Limit, Clause, clause, total, Env, Out, out, E, most_in_hand, begun, visit, longer, with, push_in, push, defer_in, defer, with_limits}
use Rattle.rules.specs.Invariants.{Each, Bounds, QualifierIn, AtomIn, ClauseIn, NamesFrom, Emitted}
use Rattle.rules.specs.Post.{Post, give, refuses, post_then, post_map}
use Rattle.rules.specs.EachLaws.{each_map, each_append}

-- ---- each element of a list
-- a loop keeps what each of its rounds keeps
pub for_each_lem : {S A : Type 0} (J : S → Type 0) (Q : A → Type 0) (f : A → M S (Unit {0})) → ((a : A) (s : S) → Q a → J s → Post (λ _ t. J t) (f a s))
    → (l : List A) → Each Q l → (s : S) → J s → Post (λ _ t. J t) (for_each f l s)
unfolding for_each
for_each_lem J Q f h [] u s j = give j
for_each_lem J Q f h (a ∷ l) u s j = post_then (h a s u.0 j) (λ _ t k. for_each_lem J Q f h l u.1 t k)

-- ---- more classes and variables
pub qualifier_more : {m n : ℕ} → m ≤ n → (q : Qualifier) → QualifierIn m q → QualifierIn n q
qualifier_more h None u = tt
qualifier_more h (Some k) u = omega arith

pub atom_more : (B : Bounds) {m n u v : ℕ} → m ≤ n → u ≤ v → (a : Atom) → AtomIn B m u a → AtomIn B n v a
atom_more B h k (Class c x) i = (omega arith, omega arith)
atom_more B h k (RoleAtom r x y) i = (i.0, omega arith, omega arith)
atom_more B h k (Exists r c x) i = (i.0, omega arith, omega arith)
atom_more B h k (AtMost r q n x) i = (i.0, qualifier_more h q i.1, i.2, omega arith)
atom_more B h k (AtLeast r q n x) i = (i.0, qualifier_more h q i.1, i.2, omega arith)
atom_more B h k (Equal x y) i = (omega arith, omega arith)

-- the atoms of a body or of a head
pub record AtomsIn (B : Bounds) (fresh vars : ℕ) (l : List Atom) : Type 0 where
  pub each : Each (AtomIn B fresh vars) l
  pub short : length l ≤ most_in_hand

pub atoms_more : {B : Bounds} {m n u v : ℕ} → m ≤ n → u ≤ v → {l : List Atom} → AtomsIn B m u l → AtomsIn B n v l
atoms_more {B} {m} {n} {u} {v} h k {l} A = record { each = each_map (AtomIn B m u) (AtomIn B n v) (atom_more B h k) l A.each; short = A.short }

-- one atom, or several, at a state
abbrev pub AtomAt : Bounds → Out → Atom → Type 0
AtomAt B s a = AtomIn B s.next_fresh s.next_var a

abbrev pub AtomsAt : Bounds → Out → List Atom → Type 0
AtomsAt B s l = AtomsIn B s.next_fresh s.next_var l

pub atoms_with : {B : Bounds} {m u : ℕ} {l : List Atom} (a : Atom) → AtomsIn B m u l → AtomIn B m u a → length l < most_in_hand → AtomsIn B m u (l ++ (a ∷ []))
atoms_with {B} {m} {u} {l} a A i h = record { each = each_append (AtomIn B m u) l (a ∷ []) A.each (i, tt); short = simp length-append (omega arith) }

pub atoms_none : (B : Bounds) (m u : ℕ) → AtomsIn B m u []
atoms_none B m u = record { each = tt; short = omega arith }

pub atoms_one : (B : Bounds) (m u : ℕ) (a : Atom) → AtomIn B m u a → AtomsIn B m u (a ∷ [])
atoms_one B m u a i = record { each = (i, tt); short = omega arith }

pub clause_in : {B : Bounds} {m u : ℕ} {b h : List Atom} → AtomsIn B m u b → AtomsIn B m u h → ClauseIn B m u (clause b h)
clause_in X Y = record { body_in = X.each; head_in = Y.each; body_short = X.short; head_short = Y.short }

pub clause_more : {B : Bounds} {m n u v : ℕ} → m ≤ n → u ≤ v → (c : Clause) → ClauseIn B m u c → ClauseIn B n v c
clause_more {B} {m} {n} {u} {v} h k c i = record {
  body_in = each_map (AtomIn B m u) (AtomIn B n v) (atom_more B h k) c.body i.body_in;
  head_in = each_map (AtomIn B m u) (AtomIn B n v) (atom_more B h k) c.head i.head_in;
  body_short = i.body_short;
  head_short = i.head_short;
}

-- ---- what a run rests on
pub above_more : {B : Bounds} {env : Env} {m n : ℕ} → m ≤ n → Above B env m → Above B env n
above_more h A = record { classes = λ a k. le_trans (A.classes a k) h; individuals = λ i k. le_trans (A.individuals i k) h }

-- ---- names that rise
pub names_from : (r : ℕ) {p q : ℕ} → p ≤ q → (l : List Limit) → NamesFrom q l r → NamesFrom p l r
names_from r h [] u = le_trans h u
names_from r h (w ∷ l) u = (le_trans h u.0, u.1)

pub names_append : (q m r : ℕ) (k l : List Limit) → NamesFrom q k m → NamesFrom m l r → NamesFrom q (k ++ l) r
names_append q m r [] l u v = names_from r u l v
names_append q m r (w ∷ k) l u v = (u.0, names_append (suc w.name) m r k l u.1 v)

-- ---- steps
-- of one axiom's run, where variables only grow, at most one a visit
pub record Stepped (B : Bounds) (s t : Out) : Type 0 where
  pub emitted : Emitted B t.next_var s t
  pub more : s.next_var ≤ t.next_var
  pub vars : t.next_var + s.visits ≤ s.next_var + t.visits

pub emitted_trans : {B : Bounds} {v w : ℕ} {s t u : Out} → v ≤ w → Emitted B v s t → Emitted B w t u → Emitted B w s u
emitted_trans {B} {v} {w} {s} {t} {u} h X Y = record {
  new = X.new ++ Y.new;
  clauses = Y.clauses ∙ ap (λ z. z ++ Y.new) X.clauses ∙ append_assoc s.clauses X.new Y.new;
  new_in = each_append (ClauseIn B u.next_fresh w) X.new Y.new (each_map (ClauseIn B t.next_fresh v) (ClauseIn B u.next_fresh w) (clause_more Y.fresh h) X.new X.new_in) Y.new_in;
  deferring = X.deferring ++ Y.deferring;
  deferrals = Y.deferrals ∙ ap (λ z. z ++ Y.deferring) X.deferrals ∙ append_assoc s.deferrals X.deferring Y.deferring;
  waiting = X.waiting ++ Y.waiting;
  limits = Y.limits ∙ ap (λ z. z ++ Y.waiting) X.limits ∙ append_assoc s.limits X.waiting Y.waiting;
  named = names_append s.next_fresh t.next_fresh u.next_fresh X.waiting Y.waiting X.named Y.named;
  limit = Y.limit ∙ X.limit;
  line = Y.line ∙ X.line;
  visits = le_trans X.visits Y.visits;
  within = λ k. Y.within (X.within k);
  fresh = le_trans X.fresh Y.fresh;
  names = omega (arith, X.names, Y.names);
}

pub stepped_trans : {B : Bounds} {s t u : Out} → Stepped B s t → Stepped B t u → Stepped B s u
stepped_trans X Y = record { emitted = emitted_trans Y.more X.emitted Y.emitted; more = le_trans X.more Y.more; vars = omega (arith, X.vars, Y.vars) }

-- what is said before a step, after it
pub stepped_after : {B : Bounds} {A : Type 0} {s t : Out} {r : Res Out A} → Stepped B s t → Post (λ _ u. Stepped B t u) r → Post (λ _ u. Stepped B s u) r
stepped_after X h = post_map h (λ _ u Y. stepped_trans X Y)

pub atoms_after : {B : Bounds} {s t : Out} {l : List Atom} → Stepped B s t → AtomsAt B s l → AtomsAt B t l
atoms_after X A = atoms_more X.emitted.fresh X.more A

pub above_after : {B : Bounds} {env : Env} {s t : Out} → Stepped B s t → Above B env s.next_fresh → Above B env t.next_fresh
above_after X A = above_more X.emitted.fresh A

-- no clause, no deferral and no limit: visits v, next variable x, next class q
pub still : (B : Bounds) (vars : ℕ) (s : Out) (v x q : ℕ) → s.visits ≤ v → (s.visits ≤ s.limit → v ≤ s.limit) → s.next_fresh ≤ q → q + s.visits ≤ s.next_fresh + v
    → Emitted B vars s (out v s.limit x q s.clauses s.deferrals s.line s.limits)
still B vars s v x q a b c d = record {
  new = [];
  clauses = sym (append-nil s.clauses);
  new_in = tt;
  deferring = [];
  deferrals = sym (append-nil s.deferrals);
  waiting = [];
  limits = sym (append-nil s.limits);
  named = c;
  limit = refl;
  line = refl;
  visits = a;
  within = b;
  fresh = c;
  names = d;
}

-- the states after the small steps
abbrev pub visited : Out → Out
visited s = out (s.visits + 1) s.limit s.next_var s.next_fresh s.clauses s.deferrals s.line s.limits

abbrev pub with_var : Out → Out
with_var s = out s.visits s.limit (s.next_var + 1) s.next_fresh s.clauses s.deferrals s.line s.limits

abbrev pub with_class : Out → Out
with_class s = out s.visits s.limit s.next_var (s.next_fresh + 1) s.clauses s.deferrals s.line s.limits

abbrev pub pushed : List Atom → List Atom → Out → Out
pushed b h s = out s.visits s.limit s.next_var s.next_fresh (s.clauses ++ (clause b h ∷ [])) s.deferrals s.line s.limits

abbrev pub deferred : Deferral → Out → Out
deferred k s = out s.visits s.limit s.next_var s.next_fresh s.clauses (s.deferrals ++ (record { line = s.line; kind = k } ∷ [])) s.line s.limits

-- the filler c waits, with the next class for its name
abbrev pub awaiting : ℕ → Out → Out
awaiting c s = with_limits (s.limits ++ (record { filler = c; name = s.next_fresh } ∷ [])) s

pub emitted_refl : (B : Bounds) (vars : ℕ) (s : Out) → Emitted B vars s s
emitted_refl B vars s = still B vars s s.visits s.next_var s.next_fresh (le_refl s.visits) (λ h. h) (le_refl s.next_fresh) (le_refl (s.next_fresh + s.visits))

pub emitted_more : {B : Bounds} {v w : ℕ} {s t : Out} → v ≤ w → Emitted B v s t → Emitted B w s t
emitted_more {B} {w = w} {t = t} h X = emitted_trans h X (emitted_refl B w t)

pub stepped_refl : (B : Bounds) (s : Out) → Stepped B s s
stepped_refl B s = record { emitted = emitted_refl B s.next_var s; more = le_refl s.next_var; vars = le_refl (s.next_var + s.visits) }

-- a visit alone, and a visit with the one variable or class that it pays for
pub visited_stepped : (B : Bounds) (s : Out) → s.visits < s.limit → Stepped B s (visited s)
visited_stepped B s h = record { emitted = still B s.next_var s (s.visits + 1) s.next_var s.next_fresh (omega arith) (omega arith) (omega arith) (omega arith); more = omega arith; vars = omega arith }

pub visited_var : (B : Bounds) (s : Out) → s.visits < s.limit → Stepped B s (with_var (visited s))
visited_var B s h = record { emitted = still B (s.next_var + 1) s (s.visits + 1) (s.next_var + 1) s.next_fresh (omega arith) (omega arith) (omega arith) (omega arith); more = omega arith; vars = omega arith }

pub visited_class : (B : Bounds) (s : Out) → s.visits < s.limit → Stepped B s (with_class (visited s))
visited_class B s h = record { emitted = still B s.next_var s (s.visits + 1) s.next_var (s.next_fresh + 1) (omega arith) (omega arith) (omega arith) (omega arith); more = omega arith; vars = omega arith }

-- the name of a filler that waits
pub visited_limit : (B : Bounds) (c : ℕ) (s : Out) → s.visits < s.limit → Stepped B s (with_class (visited (awaiting c s)))
visited_limit B c s h =
    let X = visited_class B s h in
    record {
      emitted = record {
        new = X.emitted.new;
        clauses = X.emitted.clauses;
        new_in = X.emitted.new_in;
        deferring = X.emitted.deferring;
        deferrals = X.emitted.deferrals;
        waiting = record { filler = c; name = s.next_fresh } ∷ [];
        limits = refl;
        named = omega arith;
        limit = refl;
        line = refl;
        visits = X.emitted.visits;
        within = X.emitted.within;
        fresh = X.emitted.fresh;
        names = X.emitted.names;
      };
      more = X.more;
      vars = X.vars;
    }

pub pushed_emitted : {B : Bounds} {vars : ℕ} {b h : List Atom} (s : Out) → AtomsIn B s.next_fresh vars b → AtomsIn B s.next_fresh vars h → Emitted B vars s (pushed b h s)
pushed_emitted {b = b} {h = h} s X Y = record {
  new = clause b h ∷ [];
  clauses = refl;
  new_in = (clause_in X Y, tt);
  deferring = [];
  deferrals = sym (append-nil s.deferrals);
  waiting = [];
  limits = sym (append-nil s.limits);
  named = le_refl s.next_fresh;
  limit = refl;
  line = refl;
  visits = le_refl s.visits;
  within = λ k. k;
  fresh = le_refl s.next_fresh;
  names = le_refl (s.next_fresh + s.visits);
}

pub pushed_stepped : {B : Bounds} {b h : List Atom} (s : Out) → AtomsAt B s b → AtomsAt B s h → Stepped B s (pushed b h s)
pushed_stepped s X Y = record { emitted = pushed_emitted s X Y; more = le_refl s.next_var; vars = le_refl (s.next_var + s.visits) }

pub deferred_emitted : (B : Bounds) (vars : ℕ) (k : Deferral) (s : Out) → Emitted B vars s (deferred k s)
deferred_emitted B vars k s = record {
  new = [];
  clauses = sym (append-nil s.clauses);
  new_in = tt;
  deferring = record { line = s.line; kind = k } ∷ [];
  deferrals = refl;
  waiting = [];
  limits = sym (append-nil s.limits);
  named = le_refl s.next_fresh;
  limit = refl;
  line = refl;
  visits = le_refl s.visits;
  within = λ h. h;
  fresh = le_refl s.next_fresh;
  names = le_refl (s.next_fresh + s.visits);
}

pub deferred_stepped : (B : Bounds) (k : Deferral) (s : Out) → Stepped B s (deferred k s)
deferred_stepped B k s = record { emitted = deferred_emitted B s.next_var k s; more = le_refl s.next_var; vars = le_refl (s.next_var + s.visits) }

-- ---- what follows a step is asked at the state after it
pub visit_then : {A : Type 0} {Q : A → Out → Type 0} (s : Out) (f : Unit {0} → E A) → (s.visits < s.limit → Post Q (f tt (visited s))) → Post Q (then (visit s) f)
unfolding visit
visit_then {Q = Q} s f h = go (ltb s.visits s.limit) refl
  where
    go : (b : Bool) → ltb s.visits s.limit ≡ b → Post Q (then (begun s b) f)
    go true e = h (ltb-true s.visits s.limit e)
    go false e = refuses

pub with_then : {A : Type 0} {Q : A → Out → Type 0} (l : List Atom) (a : Atom) (s : Out) (f : List Atom → E A) → (length l < most_in_hand → Post Q (f (l ++ (a ∷ [])) s)) → Post Q (then (with l a s) f)
unfolding with
with_then {Q = Q} l a s f h = go (ltb (length l) most_in_hand) refl
  where
    go : (b : Bool) → ltb (length l) most_in_hand ≡ b → Post Q (then (longer l a b s) f)
    go true e = h (ltb-true (length l) most_in_hand e)
    go false e = refuses

pub push_post : {Q : Unit {0} → Out → Type 0} (env : Env) (b h : List Atom) (s : Out) → Q tt (pushed b h s) → Post Q (push env b h s)
unfolding push
push_post {Q = Q} env b h s q = go (ltb (length s.clauses) env.rooms.clauses && leb (total s.clauses + length (b ++ h)) env.rooms.atoms)
  where
    go : (k : Bool) → Post Q (push_in (clause b h) s k)
    go true = give q
    go false = refuses

pub defer_post : {Q : Unit {0} → Out → Type 0} (env : Env) (k : Deferral) (s : Out) → Q tt (deferred k s) → Post Q (defer env k s)
unfolding defer
defer_post {Q = Q} env k s q = go (ltb (length s.deferrals) env.rooms.deferrals)
  where
    go : (b : Bool) → Post Q (defer_in k s b)
    go true = give q
    go false = refuses

pub push_made : {B : Bounds} (env : Env) {b h : List Atom} (s : Out) → AtomsAt B s b → AtomsAt B s h → Post (λ _ t. Stepped B s t) (push env b h s)
push_made env {b} {h} s X Y = push_post env b h s (pushed_stepped s X Y)

pub defer_made : (B : Bounds) (env : Env) (k : Deferral) (s : Out) → Post (λ _ t. Stepped B s t) (defer env k s)
defer_made B env k s = defer_post env k s (deferred_stepped B k s)
