-- Each arm of the cycle, over plain values: what a part did gives what the whole did. Assumes nothing.
use Rattle.std.specs.Prelude.{◌≡◌, refl, Bool, false, not, ◌&&◌, ltb, length, take}
use Rattle.std.proofs.Math.Path.{sym, ap}
use Rattle.std.proofs.Common.{subst, ◌∙◌, arith, lt-ltb, le-ltb, ltb-true}
use Rattle.std.proofs.Math.Bool.{true}
use mathlib.Core.List.{List, [], ◌∷◌, ◌++◌}
use Rattle.std.proofs.Math.Option.{Option, none, some}
use Prim.{Unit, tt}
use Prim.Native.Nat.{ℕ, zero, suc, ◌+◌, ◌*◌, ◌≤◌, ◌<◌}
use Rattle.std.proofs.lemmas.List.Edits.{sets}
use Rattle.words.specs.Words.{words}
use Rattle.words.specs.Laws.{frame_less}
use Rattle.ir.specs.Pick.{pick}
use Rattle.ir.specs.Counts.{tick, visited, fresh_var, fresh_class}
use Rattle.ir.specs.Records.{six, Fits}
use Rattle.ir.specs.Scratch.{hands_at}
use Rattle.ir.specs.declared.counters.Counters.{Counters}
use Rattle.ir.specs.Visit.{Begun, Full}
use Rattle.ir.specs.declared.role.Role.{Role}
use Rattle.ir.specs.Answer.{Answer}
use Rattle.ir.specs.Answer.{Done, Refused}
use Rattle.ir.specs.Headed.{Headed}
use Rattle.ir.specs.Headed as Head
use Rattle.ir.specs.declared.atom.Atom.{Atom}
use Rattle.ir.specs.declared.atom.Atom.TheVariants.{Class, Role as RoleAtom}
use Rattle.rules.specs.Base.{Res, ok, refused, then}
use Rattle.rules.specs.Concept.{Concept}
use Rattle.rules.specs.Concept.{Top, Bot, Atomic, Nominal, SelfRestriction, Not, And, Or, Some, All, Min, Max}
use Rattle.rules.specs.Pool.{Pool, at}
use Rattle.rules.specs.State.{Limit, Env, Out, Rooms, canon, visit, with_limits, await, with, class_id_of, fresh_var as new_var, fresh_class as new_class}
use Rattle.rules.specs.Heads.{emit_by, emit_step, atomic_name_of, name_or, head_atom_for, atom_or, is_top, named_anew}
use Rattle.pool.specs.Layout.{concept_at, pool_of, plain}
use Rattle.pool.specs.HeldLaws.{pool_at}
use Rattle.tables.specs.Drawn.{Tables, tables, show, shown, after}
use Rattle.tables.specs.Good.{Good, GoodAnswer, Alike, KeptAnswer}
use Rattle.hands.specs.Hands.{InHand, Four, four, EnvIn, EnvHeld, Did}
use Rattle.hands.specs.HandLaws.{put_frame, hand_kept, hand_more}
use Rattle.leaves.specs.declared.leaf.Leaf.{Leaf}
use Rattle.leaves.specs.declared.leaf.Leaf.TheVariants as LeafIs
use Rattle.leaves.specs.declared.form.Form.TheVariants as FormIs
use Rattle.leaves.specs.declared.disjunct.Disjunct.{Disjunct}
use Rattle.leaves.specs.declared.disjunct.Disjunct.TheVariants as DisjunctIs
use Rattle.leaves.specs.Classes.{Restricts, is_max}
use Rattle.leaves.specs.Leaves.{is_leaf, leaf_of, emit_leaf, emit_named, filler_of, filler_atom, disjunct_of, name_filler, disjunct_atom, name_negated}
use Rattle.leaves.specs.LeafLaws.{is_named, emit_leaf_lem, emit_named_lem, head_disjunct}
use Rattle.leaves.specs.Reading.{form_of}
use Rattle.leaves.specs.Made.{headed, shown_atom, DidAtom, DidAfter, MadeAfter}
use Rattle.leaves.specs.StepLaws.{alike_same, alike_tick, alike_var, alike_class, shown_alike, shown_atom_alike, kept_then, headed_then, env_alike, env_kept, lent_kept, ticked, vared, classed, visits_are, limit_is, var_is_lem, class_is, drawn_classed, drawn_vared, drawn_ticked, hand_zero}
use Rattle.heads.specs.Emits.{Emitting}
use Rattle.heads.specs.FrameLaws.{reading_alike, pool_alike}

-- ---- the visit
pub begun_by : (x : Bool) (k l : Counters) → pick x (Begun (tick k)) Full ≡ Begun l → (x ≡ true) × (l ≡ tick k)
begun_by true k l e = (refl, cc)
begun_by false k l e = absurd (let z : ◌≡◌ {A = ℕ} 0 1 = cc in omega arith)

pub full_by : (x : Bool) (k : Counters) → pick x (Begun (tick k)) Full ≡ Full → x ≡ false
full_by true k e = absurd (let z : ◌≡◌ {A = ℕ} 0 1 = cc in omega arith)
full_by false k e = refl

ticks : (k l : Counters) → visited k ≡ Begun l → l ≡ tick k
ticks k l e = (begun_by (ltb k.visits k.limit) k l e).1

good_tick : (k l : Counters) → visited k ≡ Begun l → Good k → Good l × (l.next_var ≤ l.visits + 3) × (l.next_class ≤ l.visits + 8191)
good_tick k l e g =
    let b = begun_by (ltb k.visits k.limit) k l e in
    let h : k.visits < k.limit = ltb-true k.visits k.limit b.0 in
    let m = g.most in let v = g.vars in let q = g.names in
    subst (λ (x : Counters). Good x × (x.next_var ≤ x.visits + 3) × (x.next_class ≤ x.visits + 8191)) (sym b.1)
    (record { most = g.most; seen = omega arith; vars = omega arith; names = omega arith }, omega arith, omega arith)

-- what is known once the visit has begun
pub record Visiting (s : List ℕ) (k l : Counters) (base n c : ℕ) : Type 0 where
  pub begun : visited k ≡ Begun l
  pub alike : Alike k l
  pub emitting : Emitting s l base n c
  pub vars : l.next_var ≤ l.visits + 3
  pub names : l.next_class ≤ l.visits + 8191
  pub pool : pool_of (words s) l.concepts ≡ pool_of (words s) k.concepts
  pub before : at (pool_of (words s) k.concepts) c ≡ concept_at (words s) c
  pub here : at (pool_of (words s) l.concepts) c ≡ concept_at (words s) c

pub visiting : (s : List ℕ) (k l : Counters) (base n c : ℕ) → visited k ≡ Begun l → Emitting s k base n c → Visiting s k l base n c
visiting s k l base n c ev M =
    let A = alike_tick k l (ticks k l ev) in
    let g = good_tick k l ev M.good in
    let h : c < l.concepts = rw A.concepts M.held in
    record {
      begun = ev;
      alike = A;
      emitting = record { reading = reading_alike s k l A M.reading; good = g.0; held = h; room = M.room };
      vars = g.1;
      names = g.2;
      pool = pool_alike (words s) k l A;
      before = pool_at (words s) k.concepts c M.held;
      here = pool_at (words s) l.concepts c h;
    }

pub visit_is : (k : Counters) (rooms : Rooms) (s : Out) (c a d : List ℕ) → tables k c a d ≡ show k rooms s → (x : Bool) → ltb k.visits k.limit ≡ x → ltb s.visits s.limit ≡ x
visit_is k rooms s c a d e x h = rw (← visits_are k rooms s c a d e, ← limit_is k rooms s c a d e) h

pub did_low : {A : Type 0} (value : A → ℕ) (low low' : ℕ) (rule : Env → ℕ → List Atom → Out → Res Out A) (k : Counters) (base n : ℕ) (x y : Four) (r : Answer) → low ≤ low' → Did value low rule k base n x y r → Did value low' rule k base n x y r
did_low value low low' rule k base n x y r h D = record { equal = λ env f b s lo E i t. D.equal env f b s (omega arith) E i t; frame = D.frame; good = D.good; kept = D.kept }

-- ---- emit_head: the visit, then the arm
module _ (k l : Counters) (base n c v : ℕ) (x y : Four) (r : Answer) (P Q : Pool) (e : Concept) where
  pub head_step : visited k ≡ Begun l → Q ≡ P → at P c ≡ e → Did (λ _. 0) c (λ env f b s. emit_step env Q (λ h d u. emit_by env Q f h d u) b v e s) l base n x y r
      → Did (λ _. 0) (suc c) (λ env f b s. emit_by env P f b c v s) k base n x y r
  unfolding emit_by visit
  head_step ev q ea D =
      let b = begun_by (ltb k.visits k.limit) k l ev in
      let A = alike_tick k l b.1 in
      record { equal = λ env f h s. eq b A env f h s; frame = D.frame; good = D.good; kept = kept_then k l r A D.kept }
    where
      eq : (ltb k.visits k.limit ≡ true) × (l ≡ tick k) → Alike k l → (env : Env) (f : ℕ) (b : List Atom) (s : Out) → suc c ≤ f → EnvHeld env k x → InHand x.scratch base n b → tables k x.clauses x.atoms x.deferrals ≡ show k env.rooms s
          → after r y.clauses y.atoms y.deferrals ≡ shown (λ _. 0) k env.rooms (emit_by env P f b c v s)
      eq bg A env zero b s lo E i t = absurd (omega arith)
      eq bg A env (suc f) b s lo E i t =
          rw (visit_is k env.rooms s x.clauses x.atoms x.deferrals t true bg.0, ea)
          (subst (λ (p : Pool). after r y.clauses y.atoms y.deferrals ≡ shown (λ _. 0) k env.rooms (emit_step env p (λ h d u. emit_by env p f h d u) b v e (ticked s))) q
          (D.equal env f b (ticked s) (omega arith) (record { read = env_alike env k l x.scratch A E.read; lent = E.lent }) i (drawn_ticked k l env.rooms s x.clauses x.atoms x.deferrals bg.1 t)
          ∙ shown_alike (λ _. 0) k l env.rooms (emit_step env Q (λ h d u. emit_by env Q f h d u) b v e (ticked s)) A))

pub head_full : (k : Counters) (base n c v : ℕ) (x : Four) (P : Pool) → visited k ≡ Full → Did (λ _. 0) (suc c) (λ env f b s. emit_by env P f b c v s) k base n x x (Refused 10)
unfolding emit_by visit
head_full k base n c v x P ev = record { equal = λ env f b s. eq env f b s; frame = refl; good = tt; kept = tt }
  where
    eq : (env : Env) (f : ℕ) (b : List Atom) (s : Out) → suc c ≤ f → EnvHeld env k x → InHand x.scratch base n b → tables k x.clauses x.atoms x.deferrals ≡ show k env.rooms s → refused 10 ≡ shown (λ _. 0) k env.rooms (emit_by env P f b c v s)
    eq env zero b s lo E i t = absurd (omega arith)
    eq env (suc f) b s lo E i t = rw (visit_is k env.rooms s x.clauses x.atoms x.deferrals t false (full_by (ltb k.visits k.limit) k ev)) refl

-- ---- a leaf
leaf_pool : (env : Env) (p q : Pool) (b : List Atom) (z : Leaf) (s : Out) → emit_leaf env p b z s ≡ emit_leaf env q b z s
leaf_pool env p q b LeafIs.Nothing s = refl
leaf_pool env p q b LeafIs.Empty s = refl
leaf_pool env p q b (LeafIs.Head a) s = refl
leaf_pool env p q b (LeafIs.Body a) s = refl
leaf_pool env p q b LeafIs.Deferred s = refl

module _ (env : Env) (P : Pool) where
  pick_leaf : (t : Bool) → FormIs.Leaf ≡ pick t FormIs.Leaf FormIs.Named → t ≡ true
  pick_leaf true h = refl
  pick_leaf false h = absurd (let z : ◌≡◌ {A = ℕ} 0 1 = cc in omega arith)

  pick_named : (t : Bool) → FormIs.Named ≡ pick t FormIs.Leaf FormIs.Named → not t ≡ true
  pick_named false h = refl
  pick_named true h = absurd (let z : ◌≡◌ {A = ℕ} 0 1 = cc in omega arith)

  pub form_leaf : (e : Concept) → FormIs.Leaf ≡ form_of P e → is_leaf env P e ≡ true
  form_leaf Top h = refl
  form_leaf Bot h = refl
  form_leaf (Atomic a) h = refl
  form_leaf (Nominal i) h = refl
  form_leaf (SelfRestriction r) h = refl
  form_leaf (Not d) h = refl
  form_leaf (And l) h = absurd (let z : ◌≡◌ {A = ℕ} 0 1 = cc in omega arith)
  form_leaf (Or l) h = absurd (let z : ◌≡◌ {A = ℕ} 0 1 = cc in omega arith)
  form_leaf (Some r d) h = absurd (let z : ◌≡◌ {A = ℕ} 0 1 = cc in omega arith)
  form_leaf (All r d) h = absurd (let z : ◌≡◌ {A = ℕ} 0 1 = cc in omega arith)
  form_leaf (Min zero r d) h = refl
  form_leaf (Min (suc n) r d) h = pick_leaf (is_top (at P d)) h
  form_leaf (Max n r d) h = pick_leaf (is_top (at P d)) h

  pub form_named : (emit : List Atom → ℕ → ℕ → Out → Res Out (Unit {0})) (e : Concept) → FormIs.Named ≡ form_of P e → is_named env P emit e ≡ true
  form_named emit Top h = absurd (let z : ◌≡◌ {A = ℕ} 0 1 = cc in omega arith)
  form_named emit Bot h = absurd (let z : ◌≡◌ {A = ℕ} 0 1 = cc in omega arith)
  form_named emit (Atomic a) h = absurd (let z : ◌≡◌ {A = ℕ} 0 1 = cc in omega arith)
  form_named emit (Nominal i) h = absurd (let z : ◌≡◌ {A = ℕ} 0 1 = cc in omega arith)
  form_named emit (SelfRestriction r) h = absurd (let z : ◌≡◌ {A = ℕ} 0 1 = cc in omega arith)
  form_named emit (Not d) h = absurd (let z : ◌≡◌ {A = ℕ} 0 1 = cc in omega arith)
  form_named emit (And l) h = absurd (let z : ◌≡◌ {A = ℕ} 0 1 = cc in omega arith)
  form_named emit (Or l) h = absurd (let z : ◌≡◌ {A = ℕ} 0 1 = cc in omega arith)
  form_named emit (Some r d) h = refl
  form_named emit (All r d) h = absurd (let z : ◌≡◌ {A = ℕ} 0 1 = cc in omega arith)
  form_named emit (Min zero r d) h = absurd (let z : ◌≡◌ {A = ℕ} 0 1 = cc in omega arith)
  form_named emit (Min (suc n) r d) h = pick_named (is_top (at P d)) h
  form_named emit (Max n r d) h = pick_named (is_top (at P d)) h

module _ (P : Pool) where
  pub named_restricts : (e : Concept) → FormIs.Named ≡ form_of P e → Restricts e
  named_restricts Top h = absurd (let z : ◌≡◌ {A = ℕ} 0 1 = cc in omega arith)
  named_restricts Bot h = absurd (let z : ◌≡◌ {A = ℕ} 0 1 = cc in omega arith)
  named_restricts (Atomic a) h = absurd (let z : ◌≡◌ {A = ℕ} 0 1 = cc in omega arith)
  named_restricts (Nominal i) h = absurd (let z : ◌≡◌ {A = ℕ} 0 1 = cc in omega arith)
  named_restricts (SelfRestriction r) h = absurd (let z : ◌≡◌ {A = ℕ} 0 1 = cc in omega arith)
  named_restricts (Not d) h = absurd (let z : ◌≡◌ {A = ℕ} 0 1 = cc in omega arith)
  named_restricts (And l) h = absurd (let z : ◌≡◌ {A = ℕ} 0 1 = cc in omega arith)
  named_restricts (Or l) h = absurd (let z : ◌≡◌ {A = ℕ} 0 1 = cc in omega arith)
  named_restricts (Some r d) h = tt
  named_restricts (All r d) h = absurd (let z : ◌≡◌ {A = ℕ} 0 1 = cc in omega arith)
  named_restricts (Min zero r d) h = tt
  named_restricts (Min (suc n) r d) h = tt
  named_restricts (Max n r d) h = tt

pub filler_child : (e : Concept) (env : Env) (P : Pool) → Restricts e → filler_of env P e ≡ (plain e).child
filler_child Top env P g = absurd g
filler_child Bot env P g = absurd g
filler_child (Atomic a) env P g = absurd g
filler_child (Nominal i) env P g = absurd g
filler_child (SelfRestriction r) env P g = absurd g
filler_child (Not d) env P g = absurd g
filler_child (And l) env P g = absurd g
filler_child (Or l) env P g = absurd g
filler_child (Some r d) env P g = refl
filler_child (All r d) env P g = absurd g
filler_child (Min n r d) env P g = refl
filler_child (Max n r d) env P g = refl

module _ (k : Counters) (base n c v : ℕ) (x y : Four) (r : Answer) (P : Pool) (e : Concept) where
  pub leaf_step : (z : Leaf) → FormIs.Leaf ≡ form_of P e → ((env : Env) → EnvIn env k x.scratch → z ≡ leaf_of env P v e) → Did (λ _. 0) 0 (λ env f b s. emit_leaf env [] b z s) k base n x y r
      → Did (λ _. 0) c (λ env f b s. emit_step env P (λ h d u. emit_by env P f h d u) b v e s) k base n x y r
  leaf_step z h q D = record {
    equal = λ env f b s lo E i t. D.equal env f b s (omega arith) E i t
        ∙ ap (shown (λ _. 0) k env.rooms) (leaf_pool env [] P b z s ∙ ap (λ (u : Leaf). emit_leaf env P b u s) (q env E.read) ∙ sym (emit_leaf_lem env P (λ h d u. emit_by env P f h d u) b v s e (form_leaf env P e h)));
    frame = D.frame;
    good = D.good;
    kept = D.kept;
  }

  -- a restriction: its filler is named, then its head is pushed
  pub named_step : (x1 : Four) (r1 : Answer) (P2 : Pool) (e2 : Concept) → FormIs.Named ≡ form_of P e → P2 ≡ P → e2 ≡ e → hands_at ≤ 6 * base
      → length x1.clauses ≡ length x.clauses → length x1.atoms ≡ length x.atoms → length x1.deferrals ≡ length x.deferrals
      → Did (λ q. q) c (λ env f b s. name_filler env P (atomic_name_of env P (λ h d u. emit_by env P f h d u)) e s) k (base + n) 0 x x1 r1
      → DidAfter (λ env b q s. emit_named env P2 v e2 b q s) k r1 base n x1 y r
      → Did (λ _. 0) c (λ env f b s. emit_step env P (λ h d u. emit_by env P f h d u) b v e s) k base n x y r
  named_step x1 r1 P2 e2 h ep ee ab lc la ld D F =
      let z : base + n + 0 ≡ base + n = omega arith in
      let fr : take (6 * (base + n)) x1.scratch ≡ take (6 * (base + n)) x.scratch = rw z at D.frame in
      record {
        equal = λ env f b s lo E i t.
            F.equal env b (name_filler env P (atomic_name_of env P (λ h d u. emit_by env P f h d u)) e s)
            (record { read = env_kept env k x.scratch x1.scratch (base + n) (omega arith) fr E.read; lent = lent_kept env.rooms x.clauses x.atoms x.deferrals x1.clauses x1.atoms x1.deferrals lc la ld E.lent })
            (hand_kept base n x.scratch x1.scratch b fr i)
            (D.equal env f [] s lo E (hand_zero x.scratch (base + n)) t)
            ∙ ap (shown (λ _. 0) k env.rooms)
            (ap (λ (p : Pool). then (name_filler env P (atomic_name_of env P (λ h d u. emit_by env P f h d u)) e s) (λ q u. emit_named env p v e2 b q u)) ep
            ∙ ap (λ (a : Concept). then (name_filler env P (atomic_name_of env P (λ h d u. emit_by env P f h d u)) e s) (λ q u. emit_named env P v a b q u)) ee
            ∙ sym (emit_named_lem env P (λ h d u. emit_by env P f h d u) b v s e (form_named env P (λ h d u. emit_by env P f h d u) e h)));
        frame = F.frame ∙ fr;
        good = F.good;
        kept = F.kept;
      }

-- ---- the filler of a restriction
-- the limits of a state are not drawn
pub drawn_limits : (k : Counters) (rooms : Rooms) (s : Out) (c a d : List ℕ) (l : List Limit) → tables k c a d ≡ show k rooms s → tables k c a d ≡ show k rooms (with_limits l s)
unfolding show
drawn_limits k rooms s c a d l e = e

-- those that wait after c is awaited
abbrev pub awaited : Env → ℕ → Bool → Out → List Limit
awaited env c named s = pick (env.equal_names && named) (s.limits ++ (record { filler = c; name = s.next_fresh } ∷ [])) s.limits

pub filler_step : (k : Counters) (base c d : ℕ) (w w1 a1 a2 a3 : List ℕ) (y : Four) (r : Answer) (P Q : Pool) (e : Concept) → Q ≡ P → hands_at ≤ 6 * base → take (6 * base) w1 ≡ take (6 * base) w → Restricts e → (plain e).child ≡ d → d < c
    → Did (λ q. q) (suc d) (λ env f b s. atomic_name_of env Q (λ h d u. emit_by env Q f h d u) d s) k base 0 (four w1 a1 a2 a3) y r
    → Did (λ q. q) c (λ env f b s. name_filler env P (atomic_name_of env P (λ h d u. emit_by env P f h d u)) e s) k base 0 (four w a1 a2 a3) y r
unfolding await
filler_step k base c d w w1 a1 a2 a3 y r P Q e ep ab fr g ed lt D =
    let z : base + 0 ≡ base = omega arith in
    let f0 : take (6 * (base + 0)) w1 ≡ take (6 * (base + 0)) w = rw z fr in
    record {
      equal = λ env f b s lo E i t.
          let fe : filler_of env P e ≡ d = filler_child e env P g ∙ ed in
          let l : List Limit = awaited env (filler_of env P e) (is_max e && named_anew env (at P (filler_of env P e))) s in
          D.equal env f b (with_limits l s) (omega arith) (record { read = env_kept env k w w1 base ab fr E.read; lent = E.lent }) (hand_kept base 0 w w1 b f0 i) (drawn_limits k env.rooms s a1 a2 a3 l t)
          ∙ ap (λ (p : Pool). shown (λ q. q) k env.rooms (atomic_name_of env p (λ h d u. emit_by env p f h d u) d (with_limits l s))) ep
          ∙ ap (λ (a : ℕ). shown (λ q. q) k env.rooms (atomic_name_of env P (λ h d u. emit_by env P f h d u) a (with_limits l s))) (sym fe);
      frame = D.frame ∙ f0;
      good = D.good;
      kept = D.kept;
    }

-- ---- All
pub under_full : (k : Counters) (base n c v : ℕ) (x : Four) (P : Pool) (e : Concept) (r : Role) (d : ℕ) → e ≡ All r d → 256 ≤ n
    → Did (λ _. 0) c (λ env f b s. emit_step env P (λ h d u. emit_by env P f h d u) b v e s) k base n x x (Refused 12)
unfolding emit_step with new_var
under_full k base n c v x P e r d q h = record { equal = λ env f b s lo E i t. rw (q, le-ltb (length b) 256 (omega (arith, i.long))) refl; frame = refl; good = tt; kept = tt }

pub under_go : (k l : Counters) (base n c v y : ℕ) (w w1 a1 a2 a3 : List ℕ) (z : Four) (ans : Answer) (P Q : Pool) (e : Concept) (r cr : Role) (d : ℕ)
    → e ≡ All r d → Q ≡ P → n < 256 → hands_at ≤ 6 * base → y ≡ k.next_var → l ≡ fresh_var k → ((env : Env) → EnvIn env k w → cr ≡ canon env r) → w1 ≡ sets w (6 * (base + n)) (six (RoleAtom cr v y)) → 6 * (base + n) + 6 ≤ length w → d < c
    → Did (λ _. 0) (suc d) (λ env f b s. emit_by env Q f b d y s) l base (n + 1) (four w1 a1 a2 a3) z ans
    → Did (λ _. 0) c (λ env f b s. emit_step env P (λ h d u. emit_by env P f h d u) b v e s) k base n (four w a1 a2 a3) z ans
unfolding emit_step with new_var
under_go k l base n c v y w w1 a1 a2 a3 z ans P Q e r cr d q ep h ab ey el ec ew fit lt D =
    let fr : take (6 * (base + n)) w1 ≡ take (6 * (base + n)) w = put_frame base n w w1 (six (RoleAtom cr v y)) (6 * (base + n)) ew fit in
    let A = alike_var k l el in
    record {
      equal = λ env f b s lo E i t.
          let u : s.next_var ≡ y = sym (var_is_lem k env.rooms s a1 a2 a3 t) ∙ sym ey in
          let m : cr ≡ canon env r = ec env E.read in
          let go : after ans z.clauses z.atoms z.deferrals ≡ shown (λ _. 0) k env.rooms (emit_by env P f (b ++ (RoleAtom (canon env r) v y ∷ [])) d y (vared s)) =
          D.equal env f (b ++ (RoleAtom cr v y ∷ [])) (vared s) (omega arith) (record { read = env_alike env k l w1 A (env_kept env k w w1 (base + n) (omega arith) fr E.read); lent = E.lent })
          (hand_more base n w w1 b (RoleAtom cr v y) ew fit i) (drawn_vared k l env.rooms s a1 a2 a3 el t)
          ∙ shown_alike (λ _. 0) k l env.rooms (emit_by env Q f (b ++ (RoleAtom cr v y ∷ [])) d y (vared s)) A
          ∙ ap (λ (p : Pool). shown (λ _. 0) k env.rooms (emit_by env p f (b ++ (RoleAtom cr v y ∷ [])) d y (vared s))) ep
          ∙ ap (λ (o : Role). shown (λ _. 0) k env.rooms (emit_by env P f (b ++ (RoleAtom o v y ∷ [])) d y (vared s))) m in
          rw (q, lt-ltb (length b) 256 (omega (arith, i.long)))
          (subst (λ (j : ℕ). after ans z.clauses z.atoms z.deferrals ≡ shown (λ _. 0) k env.rooms (emit_by env P f (b ++ (RoleAtom (canon env r) v j ∷ [])) d j (vared s))) (sym u) go);
      frame = frame_less (6 * (base + n)) (6 * (base + (n + 1))) w1 z.scratch (omega arith) D.frame ∙ fr;
      good = D.good;
      kept = kept_then k l ans A D.kept;
    }

-- ---- atomic_name_of
module _ (k l : Counters) (base c : ℕ) (x y : Four) (r : Answer) (P Q : Pool) where
  pub name_step_lem : visited k ≡ Begun l → Q ≡ P → Did (λ q. q) (suc c) (λ env f b s. name_or env Q (λ h d u. emit_by env Q f h d u) c (class_id_of env (at Q c)) s) l base 0 x y r
      → Did (λ q. q) (suc c) (λ env f b s. atomic_name_of env P (λ h d u. emit_by env P f h d u) c s) k base 0 x y r
  unfolding atomic_name_of visit
  name_step_lem ev ep D =
      let b = begun_by (ltb k.visits k.limit) k l ev in
      let A = alike_tick k l b.1 in
      record {
        equal = λ env f h s lo E i t.
            rw (visit_is k env.rooms s x.clauses x.atoms x.deferrals t true b.0)
            (subst (λ (p : Pool). after r y.clauses y.atoms y.deferrals ≡ shown (λ q. q) k env.rooms (name_or env p (λ h d u. emit_by env p f h d u) c (class_id_of env (at p c)) (ticked s))) ep
            (D.equal env f h (ticked s) lo (record { read = env_alike env k l x.scratch A E.read; lent = E.lent }) i (drawn_ticked k l env.rooms s x.clauses x.atoms x.deferrals b.1 t)
            ∙ shown_alike (λ q. q) k l env.rooms (name_or env Q (λ h d u. emit_by env Q f h d u) c (class_id_of env (at Q c)) (ticked s)) A));
        frame = D.frame;
        good = D.good;
        kept = kept_then k l r A D.kept;
      }

  -- none of its own
  pub name_is_new : ((env : Env) → EnvIn env l x.scratch → none ≡ class_id_of env (at Q c)) → Did (λ q. q) (suc c) (λ env f b s. name_or env Q (λ h d u. emit_by env Q f h d u) c none s) l base 0 x y r
      → Did (λ q. q) (suc c) (λ env f b s. name_or env Q (λ h d u. emit_by env Q f h d u) c (class_id_of env (at Q c)) s) l base 0 x y r
  name_is_new h D = record {
    equal = λ env f b s lo E i t. D.equal env f b s lo E i t ∙ ap (λ (o : Option ℕ). shown (λ q. q) l env.rooms (name_or env Q (λ h d u. emit_by env Q f h d u) c o s)) (h env E.read);
    frame = D.frame;
    good = D.good;
    kept = D.kept;
  }

pub name_is_class : (l : Counters) (base c a : ℕ) (x : Four) (Q : Pool) → ((env : Env) → EnvIn env l x.scratch → some a ≡ class_id_of env (at Q c)) → Good l
    → Did (λ q. q) (suc c) (λ env f b s. name_or env Q (λ h d u. emit_by env Q f h d u) c (class_id_of env (at Q c)) s) l base 0 x x (Done l a)
unfolding name_or
name_is_class l base c a x Q h g = record { equal = λ env f b s lo E i t. rw (← h env E.read) (ap (ok a) t); frame = refl; good = g; kept = alike_same l }

pub name_full : (k : Counters) (base c : ℕ) (x : Four) (P : Pool) → visited k ≡ Full → Did (λ q. q) (suc c) (λ env f b s. atomic_name_of env P (λ h d u. emit_by env P f h d u) c s) k base 0 x x (Refused 10)
unfolding atomic_name_of visit
name_full k base c x P ev = record { equal = λ env f b s lo E i t. rw (visit_is k env.rooms s x.clauses x.atoms x.deferrals t false (full_by (ltb k.visits k.limit) k ev)) refl; frame = refl; good = tt; kept = tt }

-- a fresh class
shown_value : (k : Counters) (rooms : Rooms) (X : Res Out (Unit {0})) (q : ℕ) → then (shown (λ _. 0) k rooms X) (λ _ h. ok q h) ≡ shown (λ i. i) k rooms (then X (λ _ s. ok q s))
shown_value k rooms (ok i s) q = refl
shown_value k rooms (refused n) q = refl

pub name_go : (k l : Counters) (base c q : ℕ) (w w1 a1 a2 a3 : List ℕ) (z : Four) (r r2 : Answer) (P Q : Pool) → Q ≡ P → hands_at ≤ 6 * base → q ≡ k.next_class → l ≡ fresh_class k → w1 ≡ sets w (6 * base) (six (Class q 0)) → 6 * base + 6 ≤ length w
    → GoodAnswer r2 → KeptAnswer l r2 → ((c a d : List ℕ) → after r2 c a d ≡ then (after r c a d) (λ _ h. ok q h))
    → Did (λ _. 0) (suc c) (λ env f b s. emit_by env Q f b c 0 s) l base 1 (four w1 a1 a2 a3) z r
    → Did (λ i. i) (suc c) (λ env f b s. name_or env P (λ h d u. emit_by env P f h d u) c none s) k base 0 (four w a1 a2 a3) z r2
unfolding name_or new_class
name_go k l base c q w w1 a1 a2 a3 z r r2 P Q ep ab eq el ew fit good kept val D =
    let z0 : base + 0 ≡ base = omega arith in
    let ew0 : w1 ≡ sets w (6 * (base + 0)) (six (Class q 0)) = rw z0 ew in
    let fr : take (6 * base) w1 ≡ take (6 * base) w = put_frame base 0 w w1 (six (Class q 0)) (6 * base) ew fit in
    let A = alike_class k l el in
    record {
      equal = λ env f b s lo E i t.
          let u : s.next_fresh ≡ q = sym (class_is k env.rooms s a1 a2 a3 t) ∙ sym eq in
          let i1 : InHand w1 base 1 (Class q 0 ∷ []) = hand_more base 0 w w1 [] (Class q 0) ew0 (omega arith) (hand_zero w base) in
          let go : after r z.clauses z.atoms z.deferrals ≡ shown (λ _. 0) k env.rooms (emit_by env P f (Class q 0 ∷ []) c 0 (classed s)) =
          D.equal env f (Class q 0 ∷ []) (classed s) lo (record { read = env_alike env k l w1 A (env_kept env k w w1 base ab fr E.read); lent = E.lent }) i1 (drawn_classed k l env.rooms s a1 a2 a3 el t)
          ∙ shown_alike (λ _. 0) k l env.rooms (emit_by env Q f (Class q 0 ∷ []) c 0 (classed s)) A
          ∙ ap (λ (p : Pool). shown (λ _. 0) k env.rooms (emit_by env p f (Class q 0 ∷ []) c 0 (classed s))) ep in
          subst (λ (j : ℕ). after r2 z.clauses z.atoms z.deferrals ≡ shown (λ i. i) k env.rooms (then (emit_by env P f (Class j 0 ∷ []) c 0 (classed s)) (λ _ v. ok j v))) (sym u)
          (val z.clauses z.atoms z.deferrals ∙ ap (λ (t : Res Tables ℕ). then t (λ _ h. ok q h)) go ∙ shown_value k env.rooms (emit_by env P f (Class q 0 ∷ []) c 0 (classed s)) q);
      frame = rw z0 (frame_less (6 * base) (6 * (base + 1)) w1 z.scratch (omega arith) D.frame ∙ fr);
      good = good;
      kept = kept_then k l r2 A kept;
    }

-- ---- head_atom_for
module _ (k l : Counters) (base c v : ℕ) (x y : Four) (r : Headed) (P Q : Pool) (e : Concept) (D : Disjunct) where
  pub atom_step : visited k ≡ Begun l → Q ≡ P → at Q c ≡ e → ((env : Env) → EnvIn env l x.scratch → D ≡ disjunct_of env Q v e)
      → DidAtom (suc c) (λ env f s. disjunct_atom env Q (atomic_name_of env Q (λ h d u. emit_by env Q f h d u)) c v e D s) l base x y r
      → DidAtom (suc c) (λ env f s. head_atom_for env P (λ h d u. emit_by env P f h d u) c v s) k base x y r
  unfolding head_atom_for visit
  atom_step ev ep ea hd M =
      let b = begun_by (ltb k.visits k.limit) k l ev in
      let A = alike_tick k l b.1 in
      record {
        equal = λ env f s lo E t.
            let E1 : EnvHeld env l x = record { read = env_alike env k l x.scratch A E.read; lent = E.lent } in
            rw (visit_is k env.rooms s x.clauses x.atoms x.deferrals t true b.0)
            (subst (λ (p : Pool). headed r y.clauses y.atoms y.deferrals ≡ shown_atom env k (atom_or env p (λ h d u. emit_by env p f h d u) c v (class_id_of env (at p c)) (ticked s))) ep
            (M.equal env f (ticked s) lo E1 (drawn_ticked k l env.rooms s x.clauses x.atoms x.deferrals b.1 t)
            ∙ shown_atom_alike env k l (disjunct_atom env Q (atomic_name_of env Q (λ h d u. emit_by env Q f h d u)) c v e D (ticked s)) A
            ∙ ap (shown_atom env k) (ap (λ (z : Disjunct). disjunct_atom env Q (atomic_name_of env Q (λ h d u. emit_by env Q f h d u)) c v e z (ticked s)) (hd env E1.read)
            ∙ sym (head_disjunct env Q (λ h d u. emit_by env Q f h d u) c v (ticked s) e ea) ∙ ap (λ (z : Concept). atom_or env Q (λ h d u. emit_by env Q f h d u) c v (class_id_of env z) (ticked s)) (sym ea))));
        frame = M.frame;
        good = M.good;
        kept = headed_then k l r A M.kept;
      }

pub atom_full : (k : Counters) (base c v : ℕ) (x : Four) (P : Pool) → visited k ≡ Full → DidAtom (suc c) (λ env f s. head_atom_for env P (λ h d u. emit_by env P f h d u) c v s) k base x x (Head.Refused 10)
unfolding head_atom_for visit
atom_full k base c v x P ev = record { equal = λ env f s lo E t. rw (visit_is k env.rooms s x.clauses x.atoms x.deferrals t false (full_by (ltb k.visits k.limit) k ev)) refl; frame = refl; good = tt; kept = tt }

module _ (l : Counters) (base c v : ℕ) (Q : Pool) (e : Concept) (D : Disjunct) where
  pub atom_ready : (x : Four) (a : Atom) → D ≡ DisjunctIs.Ready a → Good l → Fits a → DidAtom (suc c) (λ env f s. disjunct_atom env Q (atomic_name_of env Q (λ h d u. emit_by env Q f h d u)) c v e D s) l base x x (Head.Made l a)
  atom_ready x a q g h = record { equal = λ env f s lo E t. rw q (ap (ok (some a)) t); frame = refl; good = (g, h); kept = alike_same l }

  pub atom_absent : (x : Four) → D ≡ DisjunctIs.Absent → Good l → DidAtom (suc c) (λ env f s. disjunct_atom env Q (atomic_name_of env Q (λ h d u. emit_by env Q f h d u)) c v e D s) l base x x (Head.Absent l)
  atom_absent x q g = record { equal = λ env f s lo E t. rw q (ap (ok none) t); frame = refl; good = g; kept = alike_same l }

  module _ (x y : Four) (r : Headed) where
    pub atom_negated : (a : Atom) → D ≡ DisjunctIs.Negated a → DidAtom 0 (λ env f s. name_negated env [] v a s) l base x y r
        → DidAtom (suc c) (λ env f s. disjunct_atom env Q (atomic_name_of env Q (λ h d u. emit_by env Q f h d u)) c v e D s) l base x y r
    atom_negated a q M = record { equal = λ env f s lo E t. rw q (M.equal env f s (omega arith) E t); frame = M.frame; good = M.good; kept = M.kept }

    -- the atom of a class that is named first
    atom_after : (low : ℕ) (name : Env → ℕ → Out → Res Out ℕ) (atom : Env → ℕ → Atom) (r1 : Answer) → low ≤ suc c → hands_at ≤ 6 * base → Did (λ q. q) low (λ env f b s. name env f s) l base 0 x y r1 → MadeAfter atom l r1 y.scratch r
        → DidAtom (suc c) (λ env f s. then (name env f s) (λ q t. ok (some (atom env q)) t)) l base x y r
    atom_after low name atom r1 h ab N M =
        let z : base + 0 ≡ base = omega arith in
        let fr : take (6 * base) y.scratch ≡ take (6 * base) x.scratch = rw z at N.frame in
        record {
          equal = λ env f s lo E t. M.equal env y.clauses y.atoms y.deferrals (name env f s) (env_kept env l x.scratch y.scratch base ab fr E.read)
              (N.equal env f [] s (omega arith) E (hand_zero x.scratch base) t);
          frame = fr;
          good = M.good;
          kept = M.kept;
        }

    pub atom_whole : (r1 : Answer) → D ≡ DisjunctIs.Whole → hands_at ≤ 6 * base → Did (λ q. q) (suc c) (λ env f b s. atomic_name_of env Q (λ h d u. emit_by env Q f h d u) c s) l base 0 x y r1 → MadeAfter (λ env q. Class q v) l r1 y.scratch r
        → DidAtom (suc c) (λ env f s. disjunct_atom env Q (atomic_name_of env Q (λ h d u. emit_by env Q f h d u)) c v e D s) l base x y r
    atom_whole r1 q ab N M =
        let T = atom_after (suc c) (λ env f s. atomic_name_of env Q (λ h d u. emit_by env Q f h d u) c s) (λ env q. Class q v) r1 (omega arith) ab N M in
        record { equal = λ env f s lo E t. rw q (T.equal env f s lo E t); frame = T.frame; good = T.good; kept = T.kept }

    pub atom_filler : (r1 : Answer) (Q2 : Pool) (e2 : Concept) → D ≡ DisjunctIs.Filler → hands_at ≤ 6 * base → Q2 ≡ Q → e2 ≡ e
        → Did (λ q. q) c (λ env f b s. name_filler env Q (atomic_name_of env Q (λ h d u. emit_by env Q f h d u)) e s) l base 0 x y r1 → MadeAfter (λ env q. filler_atom env Q2 v e2 q) l r1 y.scratch r
        → DidAtom (suc c) (λ env f s. disjunct_atom env Q (atomic_name_of env Q (λ h d u. emit_by env Q f h d u)) c v e D s) l base x y r
    atom_filler r1 Q2 e2 q ab eq ee N M =
        let T = atom_after c (λ env f s. name_filler env Q (atomic_name_of env Q (λ h d u. emit_by env Q f h d u)) e s) (λ env q. filler_atom env Q2 v e2 q) r1 (omega arith) ab N M in
        record {
          equal = λ env f s lo E t.
              rw q (T.equal env f s lo E t
              ∙ ap (shown_atom env l)
              (ap (λ (p : Pool). then (name_filler env Q (atomic_name_of env Q (λ h d u. emit_by env Q f h d u)) e s) (λ q t. ok (some (filler_atom env p v e2 q)) t)) eq
              ∙ ap (λ (a : Concept). then (name_filler env Q (atomic_name_of env Q (λ h d u. emit_by env Q f h d u)) e s) (λ q t. ok (some (filler_atom env Q v a q)) t)) ee));
          frame = T.frame;
          good = T.good;
          kept = T.kept;
        }
