-- What a rule did that only appends: clauses with a property, and deferrals at the state's line, within the tables' rooms;
-- counters, limit, line and the limits that wait stay. Its small steps, and how such rules follow one another.
use Rattle.std.specs.Prelude.{◌≡◌, Bool, ◌&&◌, ℕ, ◌+◌, ◌≤◌}
use Rattle.std.proofs.Math.Path.{refl, sym}
use Rattle.std.proofs.Common.{ap, ◌∙◌}
use Rattle.std.proofs.Math.Bool.{true, false}
use Rattle.std.proofs.lemmas.Bool.{and_parts}
use mathlib.Core.List.{List, [], ◌∷◌, ◌++◌, append-nil, append_assoc}
use native.Mathlib.Omega.{arith}
use Rattle.std.proofs.Math.ListN.{length, length-append}
use Rattle.std.proofs.Math.Dec.{ltb, leb}
use borrow.Author.Tests.{ltb-true, leb-true}
use Rattle.ir.specs.declared.atom.Atom.{Atom}
use Rattle.ir.specs.declared.deferral.Deferral.{Deferral}
use Rattle.rules.specs.Base.{for_each}
use Rattle.rules.specs.State.{Env, Out, Clause, clause, Deferred, total, push_in, push, defer_in, defer}
use Rattle.rules.specs.Invariants.{Each, Bounds, ClauseIn, Emitted}
use Rattle.rules.specs.Ends.{Ends, end, stop, ends_then, ends_map}
use Rattle.rules.specs.EachLaws.{each_append, each_map}

pub total_append : (k l : List Clause) → total (k ++ l) ≡ total k + total l
unfolding total
total_append [] l = omega arith
total_append (c ∷ k) l = let h = total_append k l in omega arith

-- the tables hold what stands in the state
pub record Roomy (env : Env) (s : Out) : Type 0 where
  pub clauses : length s.clauses ≤ env.rooms.clauses
  pub atoms : total s.clauses ≤ env.rooms.atoms
  pub deferrals : length s.deferrals ≤ env.rooms.deferrals

pub record Added (env : Env) (P : Clause → Type 0) (s t : Out) : Type 0 where
  pub new : List Clause
  pub clauses : t.clauses ≡ s.clauses ++ new
  pub new_all : Each P new
  pub deferring : List Deferred
  pub deferrals : t.deferrals ≡ s.deferrals ++ deferring
  pub deferring_at : Each (λ d. d.line ≡ s.line) deferring
  pub same_visits : t.visits ≡ s.visits
  pub same_limit : t.limit ≡ s.limit
  pub same_var : t.next_var ≡ s.next_var
  pub same_fresh : t.next_fresh ≡ s.next_fresh
  pub same_line : t.line ≡ s.line
  pub same_limits : t.limits ≡ s.limits
  pub roomy : Roomy env s → Roomy env t

module _ (env : Env) (P : Clause → Type 0) where
  pub added_none : (s : Out) → Added env P s s
  added_none s = record {
    new = [];
    clauses = sym (append-nil s.clauses);
    new_all = tt;
    deferring = [];
    deferrals = sym (append-nil s.deferrals);
    deferring_at = tt;
    same_visits = refl;
    same_limit = refl;
    same_var = refl;
    same_fresh = refl;
    same_line = refl;
    same_limits = refl;
    roomy = λ r. r;
  }

  pub added_then : {s t u : Out} → Added env P s t → Added env P t u → Added env P s u
  added_then {s} {t} {u} a b = record {
    new = a.new ++ b.new;
    clauses = b.clauses ∙ ap (λ (l : List Clause). l ++ b.new) a.clauses ∙ append_assoc s.clauses a.new b.new;
    new_all = each_append P a.new b.new a.new_all b.new_all;
    deferring = a.deferring ++ b.deferring;
    deferrals = b.deferrals ∙ ap (λ (l : List Deferred). l ++ b.deferring) a.deferrals ∙ append_assoc s.deferrals a.deferring b.deferring;
    deferring_at = each_append (λ (d : Deferred). d.line ≡ s.line) a.deferring b.deferring a.deferring_at (rw a.same_line at b.deferring_at);
    same_visits = b.same_visits ∙ a.same_visits;
    same_limit = b.same_limit ∙ a.same_limit;
    same_var = b.same_var ∙ a.same_var;
    same_fresh = b.same_fresh ∙ a.same_fresh;
    same_line = b.same_line ∙ a.same_line;
    same_limits = b.same_limits ∙ a.same_limits;
    roomy = λ r. b.roomy (a.roomy r);
  }

  pub push_adds : (b h : List Atom) (s : Out) → P (clause b h) → Ends (λ _ t. Added env P s t) (push env b h s)
  unfolding push total
  push_adds b h s p = go (ltb (length s.clauses) env.rooms.clauses && leb (total s.clauses + length (b ++ h)) env.rooms.atoms) refl
    where
      go : (k : Bool) → (ltb (length s.clauses) env.rooms.clauses && leb (total s.clauses + length (b ++ h)) env.rooms.atoms) ≡ k
          → Ends (λ _ t. Added env P s t) (push_in (clause b h) s k)
      go false e = stop 11
      go true e =
          let q = and_parts (ltb (length s.clauses) env.rooms.clauses) (leb (total s.clauses + length (b ++ h)) env.rooms.atoms) e in
          let x = ltb-true (length s.clauses) env.rooms.clauses q.0 in
          let y = leb-true (total s.clauses + length (b ++ h)) env.rooms.atoms q.1 in
          let z = total_append s.clauses (clause b h ∷ []) in
          let w = length-append s.clauses (clause b h ∷ []) in
          end (record {
            new = clause b h ∷ [];
            clauses = refl;
            new_all = (p, tt);
            deferring = [];
            deferrals = sym (append-nil s.deferrals);
            deferring_at = tt;
            same_visits = refl;
            same_limit = refl;
            same_var = refl;
            same_fresh = refl;
            same_line = refl;
            same_limits = refl;
            roomy = λ r. record { clauses = omega arith; atoms = omega arith; deferrals = r.deferrals };
          })

  pub defer_adds : (k : Deferral) (s : Out) → Ends (λ _ t. Added env P s t) (defer env k s)
  unfolding defer
  defer_adds k s = go (ltb (length s.deferrals) env.rooms.deferrals) refl
    where
      go : (b : Bool) → ltb (length s.deferrals) env.rooms.deferrals ≡ b → Ends (λ _ t. Added env P s t) (defer_in k s b)
      go false e = stop 11
      go true e =
          let d : Deferred = record { line = s.line; kind = k } in
          let x = ltb-true (length s.deferrals) env.rooms.deferrals e in
          let w = length-append s.deferrals (d ∷ []) in
          end (record {
            new = [];
            clauses = sym (append-nil s.clauses);
            new_all = tt;
            deferring = d ∷ [];
            deferrals = refl;
            deferring_at = (refl, tt);
            same_visits = refl;
            same_limit = refl;
            same_var = refl;
            same_fresh = refl;
            same_line = refl;
            same_limits = refl;
            roomy = λ r. record { clauses = r.clauses; atoms = r.atoms; deferrals = omega arith };
          })

  -- one clause after the other
  pub pushes_add : (l : List Clause) (s : Out) → Each P l → Ends (λ _ t. Added env P s t) (for_each (λ c. push env c.body c.head) l s)
  unfolding for_each
  pushes_add [] s p = end (added_none s)
  pushes_add (c ∷ l) s p =
      ends_then (push_adds c.body c.head s p.0) (λ _ t a. ends_map (pushes_add l t p.1) (λ _ u b. added_then a b))

-- all clauses have the property, if they had it before
pub added_all : {env : Env} {P : Clause → Type 0} {s t : Out} → Added env P s t → Each P s.clauses → Each P t.clauses
added_all {env} {P} {s} {t} a h = rw a.clauses (each_append P s.clauses a.new h a.new_all)

-- a weaker property
pub added_map : {env : Env} {P Q : Clause → Type 0} {s t : Out} → ((c : Clause) → P c → Q c) → Added env P s t → Added env Q s t
added_map {P = P} {Q = Q} f a = record {
  new = a.new;
  clauses = a.clauses;
  new_all = each_map P Q f a.new a.new_all;
  deferring = a.deferring;
  deferrals = a.deferrals;
  deferring_at = a.deferring_at;
  same_visits = a.same_visits;
  same_limit = a.same_limit;
  same_var = a.same_var;
  same_fresh = a.same_fresh;
  same_line = a.same_line;
  same_limits = a.same_limits;
  roomy = a.roomy;
}

-- as the invariants of emitted clauses state it
pub added_emitted : {env : Env} {B : Bounds} {vars : ℕ} {s t : Out} → Added env (ClauseIn B s.next_fresh vars) s t → Emitted B vars s t
added_emitted {env} {B} {vars} {s} {t} a = record {
  new = a.new;
  clauses = a.clauses;
  new_in = rw a.same_fresh a.new_all;
  deferring = a.deferring;
  deferrals = a.deferrals;
  waiting = [];
  limits = a.same_limits ∙ sym (append-nil s.limits);
  named = omega (arith, a.same_fresh);
  limit = a.same_limit;
  line = a.same_line;
  visits = omega (arith, a.same_visits);
  within = λ h. omega (arith, a.same_visits, a.same_limit);
  fresh = omega (arith, a.same_fresh);
  names = omega (arith, a.same_fresh, a.same_visits);
}
