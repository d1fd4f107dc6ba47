-- The head of a restriction whose filler is named, and what goes on after an answer that names a class. Assumes nothing.
use Rattle.std.specs.Prelude.{◌≡◌, refl, true, false, List, [], ◌∷◌, ℕ}
use Rattle.std.proofs.Common.{ap, subst, ◌∙◌, arith}
use Prim.{Unit, tt}
use Rattle.ir.specs.Records.{Fits}
use Rattle.ir.specs.declared.counters.Counters.{Counters}
use Rattle.ir.specs.Answer.{Answer}
use Rattle.ir.specs.Answer.{Done, Refused}
use Rattle.ir.specs.Headed as Head
use Rattle.ir.specs.declared.atom.Atom.{Atom}
use Rattle.rules.specs.Base.{Res, ok}
use Rattle.rules.specs.Concept.{Concept}
use Rattle.rules.specs.Concept.{Top, Bot, Atomic, Nominal, SelfRestriction, Not, And, Or, Some, All, Min, Max}
use Rattle.rules.specs.Pool.{Pool}
use Rattle.rules.specs.State.{Env, Out, push}
use Rattle.tables.specs.Drawn.{shown, after}
use Rattle.tables.specs.Good.{Good, Alike}
use Rattle.hands.specs.Hands.{Four, EnvIn, Did}
use Rattle.leaves.specs.Classes.{Restricts}
use Rattle.leaves.specs.Leaves.{emit_named, drops_head, filler_atom}
use Rattle.leaves.specs.Made.{DidAfter, MadeAfter}
use Rattle.leaves.specs.StepLaws.{alike_same, env_alike, shown_alike, drawn_alike, kept_then, after_done, after_no, made_done, made_no}

module _ (env : Env) (pool : Pool) (v q : ℕ) (b : List Atom) (s : Out) where
  named_dropped_is : (e : Concept) → Restricts e → drops_head env pool e q ≡ true → ok tt s ≡ emit_named env pool v e b q s
  named_dropped_is Top g h = absurd g
  named_dropped_is Bot g h = absurd g
  named_dropped_is (Atomic a) g h = absurd g
  named_dropped_is (Nominal i) g h = absurd g
  named_dropped_is (SelfRestriction r) g h = absurd g
  named_dropped_is (Not d) g h = absurd g
  named_dropped_is (And l) g h = absurd g
  named_dropped_is (Or l) g h = absurd g
  named_dropped_is (Some r d) g h = absurd (let z : ◌≡◌ {A = ℕ} 0 1 = cc in omega arith)
  named_dropped_is (All r d) g h = absurd g
  named_dropped_is (Min n r d) g h = rw h refl
  named_dropped_is (Max n r d) g h = rw h refl

  named_pushed_is : (e : Concept) → Restricts e → drops_head env pool e q ≡ false → push env b (filler_atom env pool v e q ∷ []) s ≡ emit_named env pool v e b q s
  named_pushed_is Top g h = absurd g
  named_pushed_is Bot g h = absurd g
  named_pushed_is (Atomic a) g h = absurd g
  named_pushed_is (Nominal i) g h = absurd g
  named_pushed_is (SelfRestriction r) g h = absurd g
  named_pushed_is (Not d) g h = absurd g
  named_pushed_is (And l) g h = absurd g
  named_pushed_is (Or l) g h = absurd g
  named_pushed_is (Some r d) g h = refl
  named_pushed_is (All r d) g h = absurd g
  named_pushed_is (Min n r d) g h = rw h refl
  named_pushed_is (Max n r d) g h = rw h refl

module _ (k : Counters) (base n v : ℕ) (pool : Pool) (e : Concept) (q : ℕ) where
  pub named_dropped : (x : Four) → Good k → Restricts e → ((env : Env) → EnvIn env k x.scratch → drops_head env pool e q ≡ true) → Did (λ _. 0) 0 (λ env f b s. emit_named env pool v e b q s) k base n x x (Done k 0)
  named_dropped x g r h = record {
    equal = λ env f b s lo E i t. ap (ok 0) t ∙ ap (shown (λ _. 0) k env.rooms) (named_dropped_is env pool v q b s e r (h env E.read));
    frame = refl;
    good = g;
    kept = alike_same k;
  }

  pub named_pushed : (x y : Four) (r : Answer) (head : Atom) → Restricts e → ((env : Env) → EnvIn env k x.scratch → drops_head env pool e q ≡ false) → ((env : Env) → EnvIn env k x.scratch → head ≡ filler_atom env pool v e q)
      → Did (λ _. 0) 0 (λ env f b s. push env b (head ∷ []) s) k base n x y r → Did (λ _. 0) 0 (λ env f b s. emit_named env pool v e b q s) k base n x y r
  named_pushed x y r head g h p D = record {
    equal = λ env f b s lo E i t. D.equal env f b s lo E i t
        ∙ ap (λ (z : Atom). shown (λ _. 0) k env.rooms (push env b (z ∷ []) s)) (p env E.read)
        ∙ ap (shown (λ _. 0) k env.rooms) (named_pushed_is env pool v q b s e g (h env E.read));
    frame = D.frame;
    good = D.good;
    kept = D.kept;
  }

-- ---- after an answer that names a class
module _ (rule : Env → List Atom → ℕ → Out → Res Out (Unit {0})) (k : Counters) (base n : ℕ) where
  pub did_after : (l : Counters) (q : ℕ) (x y : Four) (r : Answer) → Alike k l → Did (λ _. 0) 0 (λ env f b s. rule env b q s) l base n x y r → DidAfter rule k (Done l q) base n x y r
  did_after l q x y r A D = record {
    equal = λ env b X E i t. after_done (λ (i : ℕ). i) (λ (_ : Unit {0}). 0) k env.rooms x.clauses x.atoms x.deferrals (Done l q) l q X (after r y.clauses y.atoms y.deferrals) (λ i s. rule env b i s) refl t
        (λ j s z u. subst (λ (i : ℕ). after r y.clauses y.atoms y.deferrals ≡ shown (λ _. 0) k env.rooms (rule env b i s)) z
        (D.equal env 0 b s (omega arith) (record { read = env_alike env k l x.scratch A E.read; lent = E.lent }) i (drawn_alike k l env.rooms s x.clauses x.atoms x.deferrals A u)
        ∙ shown_alike (λ _. 0) k l env.rooms (rule env b q s) A));
    frame = D.frame;
    good = D.good;
    kept = kept_then k l r A D.kept;
  }

  pub did_after_no : (m : ℕ) (x : Four) → DidAfter rule k (Refused m) base n x x (Refused m)
  did_after_no m x = record {
    equal = λ env b X E i t. after_no (λ (i : ℕ). i) (λ (_ : Unit {0}). 0) k env.rooms x.clauses x.atoms x.deferrals (Refused m) m X (λ i s. rule env b i s) refl t;
    frame = refl;
    good = tt;
    kept = tt;
  }

-- the atom that is made of it
module _ (atom : Env → ℕ → Atom) (k : Counters) (w : List ℕ) where
  pub made_after : (l : Counters) (q : ℕ) (x : Atom) → Good l → Alike k l → Fits x → ((env : Env) → EnvIn env k w → x ≡ atom env q) → MadeAfter atom k (Done l q) w (Head.Made l x)
  made_after l q x g A f p = record {
    equal = λ env c a d X E t. made_done (λ (i : ℕ). i) env k c a d (Done l q) l q X (atom env) x refl t (λ i h. p env E ∙ ap (atom env) h);
    good = (g, f);
    kept = A;
  }

  pub made_after_no : (e : ℕ) → MadeAfter atom k (Refused e) w (Head.Refused e)
  made_after_no e = record {
    equal = λ env c a d X E t. made_no (λ (i : ℕ). i) env k c a d (Refused e) e X (atom env) refl t;
    good = tt;
    kept = tt;
  }
