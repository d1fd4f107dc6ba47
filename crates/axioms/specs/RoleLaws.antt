-- One, two and three atoms in hand, and the clauses of the axioms over roles. Assumes nothing.
use Rattle.std.specs.Prelude.{◌≡◌, Bool, List, [], ◌∷◌, ◌++◌, ℕ, ◌+◌, ◌*◌, ◌≤◌, length, take}
use Rattle.std.proofs.Math.Path.{refl, ap}
use Rattle.std.proofs.Common.{sym, subst, ◌∙◌, arith, take-take}
use Prim.{Unit}
use Rattle.std.proofs.lemmas.List.Edits.{sets}
use Rattle.std.proofs.Math.Seq.{length-sets}
use Rattle.words.specs.Laws.{frame_less}
use Rattle.ir.specs.Counts.{fresh_var, vars_restarted}
use Rattle.ir.specs.Records.{six}
use Rattle.ir.specs.Scratch.{hands_at}
use Rattle.ir.specs.declared.counters.Counters.{Counters}
use Rattle.ir.specs.Answer.{Answer}
use Rattle.ir.specs.declared.role.Role.{Role}
use Rattle.ir.specs.declared.atom.Atom.{Atom}
use Rattle.ir.specs.declared.atom.Atom.TheVariants.{Role as RoleAtom}
use Rattle.rules.specs.Pool.{Pool}
use Rattle.rules.specs.State.{Limit, Env, Out, Rooms, E, canon, push, restarted, restart_vars, fresh_var as new_var}
use Rattle.rules.specs.Axioms.{chain}
use Rattle.tables.specs.Drawn.{Tables, tables, show, shown, after, Lent, counters_in, clauses_in, atoms_in, deferrals_in}
use Rattle.tables.specs.Good.{Good, GoodAnswer, Alike, KeptAnswer}
use Rattle.waiting.specs.Limits.{Waits, Behind}
use Rattle.waiting.specs.LimitLaws.{waits_kept}
use Rattle.hands.specs.Hands.{InHand, Four, four, EnvIn, EnvHeld, Did, Waiting, Queues}
use Rattle.hands.specs.HandLaws.{put_frame, hand_more}
use Rattle.leaves.specs.StepLaws.{alike_same, alike_then, alike_var, show_alike, shown_alike, kept_then, env_alike, env_kept, drawn_vared, vared, hand_zero}
use Rattle.axioms.specs.RoleAxioms.{irreflexive, second_atom, not_both}

-- ---- the variables begin again
pub alike_restart : (k k' : Counters) → k' ≡ vars_restarted k → Alike k k'
alike_restart k k' e = subst (Alike k) (sym e) (record { concepts = refl; members = refl; nominals = refl; options = refl })

pub alike_one : (k k1 k2 : Counters) → k1 ≡ vars_restarted k → k2 ≡ fresh_var k1 → Alike k k2
alike_one k k1 k2 q1 q2 = alike_then k k1 k2 (alike_restart k k1 q1) (alike_var k1 k2 q2)

drawn_restart : (k : Counters) (rooms : Rooms) (s : Out) (c a d : List ℕ) → tables k c a d ≡ show k rooms s → tables (vars_restarted k) c a d ≡ show k rooms (restarted s)
unfolding show
drawn_restart k rooms s c a d e = ap (λ (h : Tables). tables (vars_restarted (counters_in h)) (clauses_in h) (atoms_in h) (deferrals_in h)) e

pub drawn_restarted : (k k' : Counters) (rooms : Rooms) (s : Out) (c a d : List ℕ) → k' ≡ vars_restarted k → tables k c a d ≡ show k rooms s → tables k' c a d ≡ show k' rooms (restarted s)
drawn_restarted k k' rooms s c a d q e =
    subst (λ (z : Counters). tables z c a d ≡ show z rooms (restarted s)) (sym q)
    (drawn_restart k rooms s c a d e ∙ sym (show_alike k (vars_restarted k) rooms (restarted s) (alike_restart k (vars_restarted k) refl)))

pub drawn_one : (k k1 k2 : Counters) (c a d : List ℕ) → k1 ≡ vars_restarted k → k2 ≡ fresh_var k1 → (rooms : Rooms) (s : Out) → tables k c a d ≡ show k rooms s → tables k2 c a d ≡ show k2 rooms (vared (restarted s))
drawn_one k k1 k2 c a d q1 q2 rooms s t = drawn_vared k1 k2 rooms (restarted s) c a d q2 (drawn_restarted k k1 rooms s c a d q1 t)

pub good_restart : (k k' : Counters) → k' ≡ vars_restarted k → Good k → Good k'
good_restart k k' e g = subst Good (sym e) (record { most = g.most; seen = g.seen; vars = omega arith; names = g.names })

pub good_vars : (k k1 k2 k3 : Counters) → k1 ≡ vars_restarted k → k2 ≡ fresh_var k1 → k3 ≡ fresh_var k2 → Good k → Good k2 × Good k3
good_vars k k1 k2 k3 e1 e2 e3 g =
    let q2 : k2 ≡ fresh_var (vars_restarted k) = e2 ∙ ap fresh_var e1 in
    let q3 : k3 ≡ fresh_var (fresh_var (vars_restarted k)) = e3 ∙ ap fresh_var q2 in (
      subst Good (sym q2) (record { most = g.most; seen = g.seen; vars = omega arith; names = g.names }),
      subst Good (sym q3) (record { most = g.most; seen = g.seen; vars = omega arith; names = g.names }),
    )

-- ---- atoms in hand
module _ (base : ℕ) (w w1 : List ℕ) (x : Atom) (e1 : w1 ≡ sets w (6 * base) (six x)) where
  pub frame_one : 6 * base + 6 ≤ length w → take (6 * base) w1 ≡ take (6 * base) w
  frame_one fit = put_frame base 0 w w1 (six x) (6 * base) e1 fit

  pub hand_one : 6 * base + 6 ≤ length w → InHand w1 base 1 (x ∷ [])
  hand_one fit =
      let z : base + 0 ≡ base = omega arith in
      let e0 : w1 ≡ sets w (6 * (base + 0)) (six x) = rw z e1 in
      hand_more base 0 w w1 [] x e0 (omega arith) (hand_zero w base)

  long_one : length w1 ≡ length w
  long_one = ap length e1 ∙ length-sets w (6 * base) (six x)

  module _ (w2 : List ℕ) (y : Atom) (e2 : w2 ≡ sets w1 (6 * (base + 1)) (six y)) where
    pub frame_two : 6 * base + 12 ≤ length w → take (6 * base) w2 ≡ take (6 * base) w
    frame_two fit =
        let l = long_one in
        sym (take-take (6 * base) (6 * (base + 1)) w2 (omega arith)) ∙ ap (take (6 * base)) (put_frame base 1 w1 w2 (six y) (6 * (base + 1)) e2 (omega arith))
        ∙ take-take (6 * base) (6 * (base + 1)) w1 (omega arith) ∙ frame_one (omega arith)

    pub hand_two : 6 * base + 12 ≤ length w → InHand w2 base 2 (x ∷ y ∷ [])
    hand_two fit = let l = long_one in hand_more base 1 w1 w2 (x ∷ []) y e2 (omega arith) (hand_one (omega arith))

    long_two : length w2 ≡ length w
    long_two = ap length e2 ∙ length-sets w1 (6 * (base + 1)) (six y) ∙ long_one

    module _ (w3 : List ℕ) (z : Atom) (e3 : w3 ≡ sets w2 (6 * (base + 2)) (six z)) where
      pub frame_three : 6 * base + 18 ≤ length w → take (6 * base) w3 ≡ take (6 * base) w
      frame_three fit =
          let l = long_two in
          sym (take-take (6 * base) (6 * (base + 2)) w3 (omega arith)) ∙ ap (take (6 * base)) (put_frame base 2 w2 w3 (six z) (6 * (base + 2)) e3 (omega arith))
          ∙ take-take (6 * base) (6 * (base + 2)) w2 (omega arith) ∙ frame_two (omega arith)

      pub hand_three : 6 * base + 18 ≤ length w → InHand w3 base 3 (x ∷ y ∷ z ∷ [])
      hand_three fit = let l = long_two in hand_more base 2 w2 w3 (x ∷ y ∷ []) z e3 (omega arith) (hand_two (omega arith))

-- a role's canonical form, as the code found it
abbrev pub CanonOf : List ℕ → Role → Role → Type 0
CanonOf w x r = (env : Env) (k : Counters) → EnvIn env k w → x ≡ canon env r

-- what push_run says of its tables, with `body` atoms and `all` in all
abbrev Pushes : List ℕ → Counters → ℕ → ℕ → ℕ → (c a c' a' : List ℕ) → Answer → Type 0
Pushes w m base body all c a c' a' z = (env : Env) (b h : List Atom) (s : Out) (d : List ℕ) → body ≡ length b → InHand w base all (b ++ h) → Lent env.rooms c a d → tables m c a d ≡ show m env.rooms s
    → after z c' a' d ≡ shown (λ _. 0) m env.rooms (push env b h s)

module _ (k k1 k2 k3 : Counters) (base : ℕ) (pool : Pool) (w w3 c a c' a' d : List ℕ) (x1 x2 x3 r1 r2 r3 : Role) (z : Answer)
    (q1 : k1 ≡ vars_restarted k) (q2 : k2 ≡ fresh_var k1) (q3 : k3 ≡ fresh_var k2)
    (i1 : CanonOf w x1 r1) (i2 : CanonOf w x2 r2) (i3 : CanonOf w x3 r3)
    (frame : take (6 * (base + 0)) w3 ≡ take (6 * (base + 0)) w)
    (hand : InHand w3 base 3 (RoleAtom x1 0 1 ∷ RoleAtom x2 1 2 ∷ RoleAtom x3 0 2 ∷ []))
    (P : Pushes w3 k3 base 2 3 c a c' a' z) (g : GoodAnswer z) (kept : KeptAnswer k3 z) where
  alike : Alike k k3
  alike = alike_then k k2 k3 (alike_one k k1 k2 q1 q2) (alike_var k2 k3 q3)

  pub chain_did : Did (λ _. 0) 0 (λ env f b s. chain env r1 r2 r3 pool s) k base 0 (four w c a d) (four w3 c' a' d) z
  unfolding chain restart_vars new_var
  chain_did = record {
    equal = λ env f b s lo E i t.
        let s3 : Out = vared (vared (restarted s)) in
        let t3 = drawn_vared k2 k3 env.rooms (vared (restarted s)) c a d q3 (drawn_one k k1 k2 c a d q1 q2 env.rooms s t) in
        P env (RoleAtom x1 0 1 ∷ RoleAtom x2 1 2 ∷ []) (RoleAtom x3 0 2 ∷ []) s3 d refl hand E.lent t3
        ∙ shown_alike (λ _. 0) k k3 env.rooms (push env (RoleAtom x1 0 1 ∷ RoleAtom x2 1 2 ∷ []) (RoleAtom x3 0 2 ∷ []) s3) alike
        ∙ ap (λ (x : Role). shown (λ _. 0) k env.rooms (push env (RoleAtom x 0 1 ∷ RoleAtom x2 1 2 ∷ []) (RoleAtom x3 0 2 ∷ []) s3)) (i1 env k E.read)
        ∙ ap (λ (x : Role). shown (λ _. 0) k env.rooms (push env (RoleAtom (canon env r1) 0 1 ∷ RoleAtom x 1 2 ∷ []) (RoleAtom x3 0 2 ∷ []) s3)) (i2 env k E.read)
        ∙ ap (λ (x : Role). shown (λ _. 0) k env.rooms (push env (RoleAtom (canon env r1) 0 1 ∷ RoleAtom (canon env r2) 1 2 ∷ []) (RoleAtom x 0 2 ∷ []) s3)) (i3 env k E.read);
    frame = frame;
    good = g;
    kept = kept_then k k3 z alike kept;
  }

-- ---- a rule over the body in hand, one step of the counters on
module _ (k k' : Counters) (step : Out → Out) (base n : ℕ) (w w' c a d : List ℕ) (y : Four) (rule : Env → List Atom → E (Unit {0})) (body : List Atom) (meant : Env → List Atom)
    (ab : hands_at ≤ 6 * base) (A : Alike k k') (go : (rooms : Rooms) (s : Out) → tables k c a d ≡ show k rooms s → tables k' c a d ≡ show k' rooms (step s))
    (is : (env : Env) → EnvIn env k w → body ≡ meant env) (frame : take (6 * base) w' ≡ take (6 * base) w) (hand : InHand w' base n body) where
  there : (env : Env) → EnvHeld env k (four w c a d) → EnvHeld env k' (four w' c a d)
  there env E = record { read = env_alike env k k' w' A (env_kept env k w w' base ab frame E.read); lent = E.lent }

  pub hand_did : (z : Answer) → Did (λ _. 0) 0 (λ env f b s. rule env b s) k' base n (four w' c a d) y z → Did (λ _. 0) 0 (λ env f b s. rule env (meant env) (step s)) k base 0 (four w c a d) y z
  hand_did z D =
      let e : base + 0 ≡ base = omega arith in
      record {
        equal = λ env f b s lo E i t.
            D.equal env 0 body (step s) (omega arith) (there env E) hand (go env.rooms s t)
            ∙ shown_alike (λ _. 0) k k' env.rooms (rule env body (step s)) A
            ∙ ap (λ (o : List Atom). shown (λ (_ : Unit {0}). 0) k env.rooms (rule env o (step s))) (is env E.read);
        frame = rw e (frame_less (6 * base) (6 * (base + n)) w' y.scratch (omega arith) D.frame ∙ frame);
        good = D.good;
        kept = kept_then k k' z A D.kept;
      }

  -- the step lets the limits be, and the body stands below them
  pub hand_queues : ((s : Out) → (step s).limits ≡ s.limits) → Behind w w' → Queues 0 (λ env f b s. rule env b s) k' base n (four w' c a d) y → Queues 0 (λ env f b s. rule env (meant env) (step s)) k base 0 (four w c a d) y
  hand_queues same B Q = record {
    waits = λ env f b s p lo E i t W.
        subst (λ (o : List Atom). Waiting y.scratch p (rule env o (step s))) (is env E.read)
        (Q.waits env 0 body (step s) p (omega arith) (there env E) hand (go env.rooms s t)
        (waits_kept w w' (p ++ (step s).limits) B (subst (λ (l : List Limit). Waits w (p ++ l)) (sym (same s)) W)));
  }

module _ (k : Counters) (base : ℕ) (w w1 c a d : List ℕ) (y : Four) (x r : Role) (z : Answer) (ab : hands_at ≤ 6 * base)
    (i1 : CanonOf w x r) (frame : take (6 * base) w1 ≡ take (6 * base) w) (hand : InHand w1 base 1 (RoleAtom x 0 0 ∷ []))
    (D : Did (λ _. 0) 0 (λ env f b s. push env b [] s) k base 1 (four w1 c a d) y z) where
  pub irreflexive_did : Did (λ _. 0) 0 (λ env f b s. irreflexive env r s) k base 0 (four w c a d) y z
  irreflexive_did =
      hand_did k k (λ s. s) base 1 w w1 c a d y (λ env b. push env b []) (RoleAtom x 0 0 ∷ []) (λ env. RoleAtom (canon env r) 0 0 ∷ []) ab (alike_same k) (λ rooms s t. t)
      (λ env E. ap (λ (o : Role). RoleAtom o 0 0 ∷ []) (i1 env k E)) frame hand z D

module _ (k k1 k2 : Counters) (base : ℕ) (w w2 c a d : List ℕ) (y : Four) (x1 x2 r1 r2 : Role) (o : Atom) (back : Bool) (z : Answer) (ab : hands_at ≤ 6 * base)
    (q1 : k1 ≡ vars_restarted k) (q2 : k2 ≡ fresh_var k1) (i1 : CanonOf w x1 r1) (i2 : CanonOf w x2 r2) (eo : o ≡ second_atom x2 1 back)
    (frame : take (6 * base) w2 ≡ take (6 * base) w) (hand : InHand w2 base 2 (RoleAtom x1 0 1 ∷ o ∷ []))
    (D : Did (λ _. 0) 0 (λ env f b s. push env b [] s) k2 base 2 (four w2 c a d) y z) where
  pub not_both_did : Did (λ _. 0) 0 (λ env f b s. not_both env r1 r2 back s) k base 0 (four w c a d) y z
  unfolding restart_vars new_var
  not_both_did =
      hand_did k k2 (λ s. vared (restarted s)) base 2 w w2 c a d y (λ env b. push env b []) (RoleAtom x1 0 1 ∷ o ∷ []) (λ env. RoleAtom (canon env r1) 0 1 ∷ second_atom (canon env r2) 1 back ∷ []) ab
      (alike_one k k1 k2 q1 q2) (drawn_one k k1 k2 c a d q1 q2) (λ env E. rw (eo, i1 env k E, i2 env k E) refl) frame hand z D
