-- The loops of And and Or: what the turns to come give is what the whole gives. Assumes nothing.
use Rattle.std.specs.Prelude.{◌≡◌, refl, ℕ, suc, ◌+◌, ◌*◌, ◌-◌, ◌≤◌, ◌<◌}
use Rattle.std.proofs.Common.{sym, ap, ◌∙◌, lt-ltb, le-ltb}
use Rattle.std.proofs.Math.Path.{subst}
use mathlib.Core.List.{List, [], ◌∷◌, ◌++◌, append_assoc}
use Rattle.std.proofs.Math.Option.{Option, none, some}
use Prim.{Unit, tt}
use native.Mathlib.Omega.{arith}
use Rattle.std.proofs.Math.ListN.{length, take, get_or, length-append}
use Rattle.std.proofs.Math.Seq.{sets}
use Rattle.words.specs.Words.{words}
use Rattle.words.specs.Laws.{words_long, frame_less}
use Rattle.ir.specs.Records.{six}
use Rattle.ir.specs.Scratch.{hands_at}
use Rattle.ir.specs.declared.counters.Counters.{Counters}
use Rattle.ir.specs.Answer.{Answer}
use Rattle.ir.specs.Answer.{Done, Refused}
use Rattle.ir.specs.Headed.{Headed}
use Rattle.ir.specs.Headed as Head
use Rattle.ir.specs.declared.atom.Atom.{Atom}
use Rattle.ir.specs.declared.deferral.Deferral.TheVariants.{HeadOrDisjunct}
use Rattle.rules.specs.Base.{Res, ok, refused, then, for_each}
use Rattle.rules.specs.Concept.{Concept}
use Rattle.rules.specs.Concept.{And, Or}
use Rattle.rules.specs.Pool.{Pool}
use Rattle.rules.specs.State.{Env, Out, with, push, defer}
use Rattle.rules.specs.Heads.{emit_by, emit_step, head_atom_for, heads, head_or, push_heads}
use Rattle.pool.specs.Layout.{run}
use Rattle.pool.specs.Tabs.{tab_next, tab_end}
use Rattle.tables.specs.declared.lent.Tables.{Tables as Lending}
use Rattle.tables.specs.Lending.{SameReferences}
use Rattle.tables.specs.Drawn.{Tables, tables, show, shown, after, Lent}
use Rattle.tables.specs.Good.{Good, GoodAnswer, Alike, KeptAnswer}
use Rattle.hands.specs.Hands.{InHand, Four, four, four_of, EnvHeld, Did}
use Rattle.hands.specs.HandLaws.{put_frame, hand_kept, hand_more}
use Rattle.leaves.specs.Made.{headed, shown_atom, GoodHeaded, KeptHeaded, DidAtom}
use Rattle.leaves.specs.StepLaws.{alike_then, shown_alike, shown_atom_alike, kept_then, env_alike, env_kept, lent_kept, after_done, after_no, drawn_alike}

-- tables of the same sizes
pub record SameSizes (x y : Four) : Type 0 where
  pub clauses : length y.clauses ≡ length x.clauses
  pub atoms : length y.atoms ≡ length x.atoms
  pub deferrals : length y.deferrals ≡ length x.deferrals

pub sizes_on : (w w' c a d c' a' d' : List ℕ) → length c' ≡ length c → length a' ≡ length a → length d' ≡ length d → SameSizes (four w (words c) (words a) (words d)) (four w' (words c') (words a') (words d'))
sizes_on w w' c a d c' a' d' x y z = record { clauses = words_long c c' x; atoms = words_long a a' y; deferrals = words_long d d' z }

pub sizes_of : (w w' : List ℕ) (t t' : Lending) → SameReferences t t' → SameSizes (four_of w t) (four_of w' t')
sizes_of w w' t t' R = sizes_on w w' t.clauses.now t.atoms.now t.deferrals.now t'.clauses.now t'.atoms.now t'.deferrals.now R.3 R.4 R.5

-- what does not change, as it stands after some turns
pub held_on : (env : Env) (k₀ k : Counters) (x₀ x : Four) (top : ℕ) → Alike k₀ k → hands_at ≤ 6 * top → take (6 * top) x.scratch ≡ take (6 * top) x₀.scratch → SameSizes x₀ x → EnvHeld env k₀ x₀ → EnvHeld env k x
held_on env k₀ k x₀ x top A ab fr S E = record {
  read = env_alike env k₀ k x.scratch A (env_kept env k₀ x₀.scratch x.scratch top ab fr E.read);
  lent = lent_kept env.rooms x₀.clauses x₀.atoms x₀.deferrals x.clauses x.atoms x.deferrals S.clauses S.atoms S.deferrals E.lent;
}

-- ---- And
pub record Turn (P : Pool) (w₀ : List ℕ) (a count : ℕ) (k₀ : Counters) (base n c v : ℕ) (x₀ x : Four) (k : Counters) (i : ℕ) : Type 0 where
  pub within : i ≤ count
  pub good : Good k
  pub alike : Alike k₀ k
  pub frame : take (6 * (base + n)) x.scratch ≡ take (6 * (base + n)) x₀.scratch
  pub rest : (env : Env) (f : ℕ) (b : List Atom) (s : Out) (Y : Res Tables ℕ) → c ≤ f → EnvHeld env k₀ x₀ → InHand x₀.scratch base n b → tables k₀ x₀.clauses x₀.atoms x₀.deferrals ≡ show k₀ env.rooms s
      → ((s' : Out) → tables k x.clauses x.atoms x.deferrals ≡ show k₀ env.rooms s' → Y ≡ shown (λ _. 0) k₀ env.rooms (for_each (λ p. emit_by env P f b p v) (run w₀ (a + i) (count - i)) s'))
      → Y ≡ shown (λ _. 0) k₀ env.rooms (for_each (λ p. emit_by env P f b p v) (run w₀ a count) s)

module _ (P : Pool) (w₀ : List ℕ) (a count : ℕ) (k₀ : Counters) (base n c v : ℕ) (x₀ : Four) where
  module _ (x : Four) (k : Counters) (i : ℕ) (T : Turn P w₀ a count k₀ base n c v x₀ x k i) where
    pub turn_end : (e : Concept) → e ≡ And (run w₀ a count) → count ≤ i → Did (λ _. 0) c (λ env f b s. emit_step env P (λ h d u. emit_by env P f h d u) b v e s) k₀ base n x₀ x (Done k 0)
    unfolding emit_step for_each
    turn_end e q h = record {
      equal = λ env f b s lo E j t. rw q (T.rest env f b s (ok 0 (tables k x.clauses x.atoms x.deferrals)) lo E j t (λ s' t'. rw (tab_end (λ z. get_or w₀ z 0) a i count h) (ap (ok 0) t')));
      frame = T.frame;
      good = T.good;
      kept = T.alike;
    }

    module _ (m : ℕ) (Q : Pool) (y : Four) (r : Answer) (ab : hands_at ≤ 6 * base) (S : SameSizes x₀ x) (lt : i < count) (em : m ≡ get_or w₀ (a + i) 0) (less : m < c) (ep : Q ≡ P)
        (D : Did (λ _. 0) (suc m) (λ env f b s. emit_by env Q f b m v s) k base n x y r) where
      pub went : (env : Env) (f : ℕ) (b : List Atom) (s' : Out) → c ≤ f → EnvHeld env k₀ x₀ → InHand x₀.scratch base n b → tables k x.clauses x.atoms x.deferrals ≡ show k₀ env.rooms s'
          → after r y.clauses y.atoms y.deferrals ≡ shown (λ _. 0) k₀ env.rooms (emit_by env P f b m v s')
      went env f b s' lo E j t =
          D.equal env f b s' (omega arith) (held_on env k₀ k x₀ x (base + n) T.alike (omega arith) T.frame S E) (hand_kept base n x₀.scratch x.scratch b T.frame j)
          (drawn_alike k₀ k env.rooms s' x.clauses x.atoms x.deferrals T.alike t)
          ∙ shown_alike (λ _. 0) k₀ k env.rooms (emit_by env Q f b m v s') T.alike
          ∙ ap (λ (p : Pool). shown (λ _. 0) k₀ env.rooms (emit_by env p f b m v s')) ep

      pub one : run w₀ (a + i) (count - i) ≡ m ∷ run w₀ (a + (i + 1)) (count - (i + 1))
      one = tab_next (λ z. get_or w₀ z 0) a i count lt ∙ ap (λ (z : ℕ). z ∷ run w₀ (a + (i + 1)) (count - (i + 1))) (sym em)

      pub turn_stop : (e : Concept) → e ≡ And (run w₀ a count) → (o : ℕ) → r ≡ Refused o → Did (λ _. 0) c (λ env f b s. emit_step env P (λ h d u. emit_by env P f h d u) b v e s) k₀ base n x₀ y (Refused o)
      unfolding emit_step for_each
      turn_stop e q o er = record {
        equal = λ env f b s lo E j t. rw q (T.rest env f b s (refused o) lo E j t (λ s' t'. rw one
            (after_no (λ (_ : Unit {0}). 0) (λ (_ : Unit {0}). 0) k₀ env.rooms y.clauses y.atoms y.deferrals r o (emit_by env P f b m v s') (λ _ u. for_each (λ p. emit_by env P f b p v) (run w₀ (a + (i + 1)) (count - (i + 1))) u) er (went env f b s' lo E j t'))));
        frame = D.frame ∙ T.frame;
        good = tt;
        kept = tt;
      }

      pub turn_next : (k' : Counters) (o : ℕ) → r ≡ Done k' o → Turn P w₀ a count k₀ base n c v x₀ y k' (i + 1)
      unfolding for_each
      turn_next k' o er = record {
        within = omega arith;
        good = subst GoodAnswer er D.good;
        alike = alike_then k₀ k k' T.alike (subst (KeptAnswer k) er D.kept);
        frame = D.frame ∙ T.frame;
        rest = λ env f b s Y lo E j t go. T.rest env f b s Y lo E j t (λ s' t'. rw one
            (after_done (λ (_ : Unit {0}). 0) (λ (_ : Unit {0}). 0) k₀ env.rooms y.clauses y.atoms y.deferrals r k' o (emit_by env P f b m v s') Y (λ _ u. for_each (λ p. emit_by env P f b p v) (run w₀ (a + (i + 1)) (count - (i + 1))) u) er (went env f b s' lo E j t')
            (λ z s₁ h₁ t₁. go s₁ t₁)));
      }

-- ---- after an answer of head_atom_for
then_then : {A B C : Type 0} (X : Res Out A) (f : A → Out → Res Out B) (g : B → Out → Res Out C) → then (then X f) g ≡ then X (λ a s. then (f a s) g)
then_then (ok a s) f g = refl
then_then (refused n) f g = refl

module _ (env : Env) (k : Counters) (c a d : List ℕ) (r : Headed) (g : Option Atom → Out → Res Out (Unit {0})) where
  heads_made : (X : Res Out (Option Atom)) (k' : Counters) (y : Atom) (Y : Res Tables ℕ) → r ≡ Head.Made k' y → headed r c a d ≡ shown_atom env k X
      → ((s : Out) → tables k' c a d ≡ show k env.rooms s → Y ≡ shown (λ _. 0) k env.rooms (g (some y) s)) → Y ≡ shown (λ _. 0) k env.rooms (then X g)
  heads_made (ok o s) k' y Y e h f =
      let t : ◌≡◌ {A = Res Tables (Option Atom)} (ok (some y) (tables k' c a d)) (ok o (show k env.rooms s)) = subst (λ (z : Headed). headed z c a d ≡ ok o (show k env.rooms s)) e h in
      let u : some y ≡ o = cc in
      subst (λ (z : Option Atom). Y ≡ shown (λ _. 0) k env.rooms (g z s)) u (f s (cc))
  heads_made (refused n) k' y Y e h f =
      let t : ◌≡◌ {A = Res Tables (Option Atom)} (ok (some y) (tables k' c a d)) (refused n) = subst (λ (z : Headed). headed z c a d ≡ refused n) e h in
      absurd (let z : ◌≡◌ {A = ℕ} 0 1 = cc in omega arith)

  heads_absent : (X : Res Out (Option Atom)) (k' : Counters) (Y : Res Tables ℕ) → r ≡ Head.Absent k' → headed r c a d ≡ shown_atom env k X
      → ((s : Out) → tables k' c a d ≡ show k env.rooms s → Y ≡ shown (λ _. 0) k env.rooms (g none s)) → Y ≡ shown (λ _. 0) k env.rooms (then X g)
  heads_absent (ok o s) k' Y e h f =
      let t : ◌≡◌ {A = Res Tables (Option Atom)} (ok none (tables k' c a d)) (ok o (show k env.rooms s)) = subst (λ (z : Headed). headed z c a d ≡ ok o (show k env.rooms s)) e h in
      let u : none ≡ o = cc in
      subst (λ (z : Option Atom). Y ≡ shown (λ _. 0) k env.rooms (g z s)) u (f s (cc))
  heads_absent (refused n) k' Y e h f =
      let t : ◌≡◌ {A = Res Tables (Option Atom)} (ok none (tables k' c a d)) (refused n) = subst (λ (z : Headed). headed z c a d ≡ refused n) e h in
      absurd (let z : ◌≡◌ {A = ℕ} 0 1 = cc in omega arith)

  heads_no : (X : Res Out (Option Atom)) (o : ℕ) → r ≡ Head.Refused o → headed r c a d ≡ shown_atom env k X → refused o ≡ shown (λ _. 0) k env.rooms (then X g)
  heads_no (ok x s) o e h =
      let t : ◌≡◌ {A = Res Tables (Option Atom)} (refused o) (ok x (show k env.rooms s)) = subst (λ (z : Headed). headed z c a d ≡ ok x (show k env.rooms s)) e h in
      absurd (let z : ◌≡◌ {A = ℕ} 0 1 = cc in omega arith)
  heads_no (refused n) o e h =
      let t : ◌≡◌ {A = Res Tables (Option Atom)} (refused o) (refused n) = subst (λ (z : Headed). headed z c a d ≡ refused n) e h in
      cc

-- ---- Or: the heads in hand stand above the body
abbrev pub or_from : Env → Pool → ℕ → List Atom → ℕ → List ℕ → List Atom → Out → Res Out (Unit {0})
or_from env P f b v l hs s = then (heads env P (λ h d u. emit_by env P f h d u) l v hs s) (λ o u. push_heads env P (λ h d u. emit_by env P f h d u) b o u)

pub record Turned (P : Pool) (w₀ : List ℕ) (a count : ℕ) (k₀ : Counters) (base n c v : ℕ) (x₀ x : Four) (k : Counters) (i : ℕ) : Type 0 where
  pub within : i ≤ count
  pub few : i ≤ 256
  pub good : Good k
  pub alike : Alike k₀ k
  pub frame : take (6 * (base + n)) x.scratch ≡ take (6 * (base + n)) x₀.scratch
  pub rest : (env : Env) (f : ℕ) (b : List Atom) (s : Out) (Y : Res Tables ℕ) → c ≤ f → EnvHeld env k₀ x₀ → InHand x₀.scratch base n b → tables k₀ x₀.clauses x₀.atoms x₀.deferrals ≡ show k₀ env.rooms s
      → ((s' : Out) (hs : List Atom) → i ≡ length hs → InHand x.scratch base (n + i) (b ++ hs) → tables k x.clauses x.atoms x.deferrals ≡ show k₀ env.rooms s' → Y ≡ shown (λ _. 0) k₀ env.rooms (or_from env P f b v (run w₀ (a + i) (count - i)) hs s'))
      → Y ≡ shown (λ _. 0) k₀ env.rooms (or_from env P f b v (run w₀ a count) [] s)

module _ (P : Pool) (w₀ : List ℕ) (a count : ℕ) (k₀ : Counters) (base n c v : ℕ) (x₀ : Four) where
  module _ (e : Concept) (q : e ≡ Or (run w₀ a count)) (x : Four) (k : Counters) (i : ℕ) (T : Turned P w₀ a count k₀ base n c v x₀ x k i) (ab : hands_at ≤ 6 * base) (S : SameSizes x₀ x) where
    -- the clause, at the end
    pub or_end : (c' a' : List ℕ) (r : Answer) → count ≤ i → GoodAnswer r → KeptAnswer k r
        → ((env : Env) (b h : List Atom) (s : Out) (d : List ℕ) → n ≡ length b → InHand x.scratch base (n + count) (b ++ h) → Lent env.rooms x.clauses x.atoms d → tables k x.clauses x.atoms d ≡ show k env.rooms s → after r c' a' d ≡ shown (λ _. 0) k env.rooms (push env b h s))
        → Did (λ _. 0) c (λ env f b s. emit_step env P (λ h d u. emit_by env P f h d u) b v e s) k₀ base n x₀ (four x.scratch c' a' x.deferrals) r
    unfolding emit_step heads
    or_end c' a' r h g kp D = record {
      equal = λ env f b s lo E j t. rw q (T.rest env f b s (after r c' a' x.deferrals) lo E j t (λ s' hs l inh t'.
          let wi = T.within in let eq : i ≡ count = omega arith in
          let H = held_on env k₀ k x₀ x (base + n) T.alike (omega arith) T.frame S E in
          rw (tab_end (λ z. get_or w₀ z 0) a i count h) (D env b hs s' x.deferrals j.long (subst (λ (z : ℕ). InHand x.scratch base (n + z) (b ++ hs)) eq inh) H.lent (drawn_alike k₀ k env.rooms s' x.clauses x.atoms x.deferrals T.alike t')
          ∙ shown_alike (λ _. 0) k₀ k env.rooms (push env b hs s') T.alike)));
      frame = T.frame;
      good = g;
      kept = kept_then k₀ k r T.alike kp;
    }

    module _ (m : ℕ) (Q : Pool) (y : Four) (r : Headed) (top : ℕ) (et : top ≡ base + n + i) (S2 : SameSizes x₀ y) (lt : i < count) (em : m ≡ get_or w₀ (a + i) 0) (less : m < c) (ep : Q ≡ P)
        (D : DidAtom (suc m) (λ env f s. head_atom_for env Q (λ h d u. emit_by env Q f h d u) m v s) k top x y r) where
      pub asked : (env : Env) (f : ℕ) (s' : Out) → c ≤ f → EnvHeld env k₀ x₀ → tables k x.clauses x.atoms x.deferrals ≡ show k₀ env.rooms s'
          → headed r y.clauses y.atoms y.deferrals ≡ shown_atom env k₀ (head_atom_for env P (λ h d u. emit_by env P f h d u) m v s')
      asked env f s' lo E t =
          D.equal env f s' (omega arith) (held_on env k₀ k x₀ x (base + n) T.alike (omega arith) T.frame S E) (drawn_alike k₀ k env.rooms s' x.clauses x.atoms x.deferrals T.alike t)
          ∙ shown_atom_alike env k₀ k (head_atom_for env Q (λ h d u. emit_by env Q f h d u) m v s') T.alike
          ∙ ap (λ (p : Pool). shown_atom env k₀ (head_atom_for env p (λ h d u. emit_by env p f h d u) m v s')) ep

      pub first_of_lem : run w₀ (a + i) (count - i) ≡ m ∷ run w₀ (a + (i + 1)) (count - (i + 1))
      first_of_lem = tab_next (λ z. get_or w₀ z 0) a i count lt ∙ ap (λ (z : ℕ). z ∷ run w₀ (a + (i + 1)) (count - (i + 1))) (sym em)

      kept_all : take (6 * (base + (n + i))) y.scratch ≡ take (6 * (base + (n + i))) x.scratch
      kept_all = let z : top ≡ base + (n + i) = omega arith in subst (λ (t : ℕ). take (6 * t) y.scratch ≡ take (6 * t) x.scratch) z D.frame

      pub or_frame : take (6 * (base + n)) y.scratch ≡ take (6 * (base + n)) x₀.scratch
      or_frame = frame_less (6 * (base + n)) (6 * (base + (n + i))) x.scratch y.scratch (omega arith) kept_all ∙ T.frame

      -- one turn of the rule
      unfoldable pub next : Env → ℕ → List Atom → List Atom → Option Atom → Out → Res Out (Unit {0})
      next env f b hs o u = then (head_or env P (λ h d u. emit_by env P f h d u) (λ more. heads env P (λ h d u. emit_by env P f h d u) (run w₀ (a + (i + 1)) (count - (i + 1))) v more) hs o u) (λ o u. push_heads env P (λ h d u. emit_by env P f h d u) b o u)

      pub turn : (env : Env) (f : ℕ) (b hs : List Atom) (s' : Out) → or_from env P f b v (m ∷ run w₀ (a + (i + 1)) (count - (i + 1))) hs s' ≡ then (head_atom_for env P (λ h d u. emit_by env P f h d u) m v s') (next env f b hs)
      unfolding heads next
      turn env f b hs s' = then_then (head_atom_for env P (λ h d u. emit_by env P f h d u) m v s') (λ o. head_or env P (λ h d u. emit_by env P f h d u) (λ more. heads env P (λ h d u. emit_by env P f h d u) (run w₀ (a + (i + 1)) (count - (i + 1))) v more) hs o) (λ o u. push_heads env P (λ h d u. emit_by env P f h d u) b o u)

      pub or_stop : (o : ℕ) → r ≡ Head.Refused o → Did (λ _. 0) c (λ env f b s. emit_step env P (λ h d u. emit_by env P f h d u) b v e s) k₀ base n x₀ y (Refused o)
      unfolding emit_step
      or_stop o er = record {
        equal = λ env f b s lo E j t. rw q (T.rest env f b s (refused o) lo E j t (λ s' hs l inh t'. rw (first_of_lem, turn env f b hs s')
            (heads_no env k₀ y.clauses y.atoms y.deferrals r (next env f b hs) (head_atom_for env P (λ h d u. emit_by env P f h d u) m v s') o er (asked env f s' lo E t'))));
        frame = or_frame;
        good = tt;
        kept = tt;
      }

      pub or_long : (k' : Counters) (z : Atom) → r ≡ Head.Made k' z → 256 ≤ i → Did (λ _. 0) c (λ env f b s. emit_step env P (λ h d u. emit_by env P f h d u) b v e s) k₀ base n x₀ y (Refused 12)
      unfolding emit_step with next
      or_long k' z er big = record {
        equal = λ env f b s lo E j t. rw q (T.rest env f b s (refused 12) lo E j t (λ s' hs l inh t'. rw (first_of_lem, turn env f b hs s')
            (heads_made env k₀ y.clauses y.atoms y.deferrals r (next env f b hs) (head_atom_for env P (λ h d u. emit_by env P f h d u) m v s') k' z (refused 12) er (asked env f s' lo E t')
            (λ s₁ t₁. rw (le-ltb (length hs) 256 (omega arith)) refl))));
        frame = or_frame;
        good = tt;
        kept = tt;
      }

      -- the Rust's None
      pub or_absent : (k' : Counters) (d' : List ℕ) (r' : Answer) → r ≡ Head.Absent k' → (Good k' → GoodAnswer r') → KeptAnswer k' r'
          → ((env : Env) (s : Out) (c a : List ℕ) → Lent env.rooms c a y.deferrals → tables k' c a y.deferrals ≡ show k' env.rooms s → after r' c a d' ≡ shown (λ _. 0) k' env.rooms (defer env HeadOrDisjunct s))
          → Did (λ _. 0) c (λ env f b s. emit_step env P (λ h d u. emit_by env P f h d u) b v e s) k₀ base n x₀ (four y.scratch y.clauses y.atoms d') r'
      unfolding emit_step next
      or_absent k' d' r' er g kp F =
          let A = alike_then k₀ k k' T.alike (subst (KeptHeaded k) er D.kept) in
          record {
            equal = λ env f b s lo E j t. rw q (T.rest env f b s (after r' y.clauses y.atoms d') lo E j t (λ s' hs l inh t'. rw (first_of_lem, turn env f b hs s')
                (heads_absent env k₀ y.clauses y.atoms y.deferrals r (next env f b hs) (head_atom_for env P (λ h d u. emit_by env P f h d u) m v s') k' (after r' y.clauses y.atoms d') er (asked env f s' lo E t')
                (λ s₁ t₁. F env s₁ y.clauses y.atoms (lent_kept env.rooms x₀.clauses x₀.atoms x₀.deferrals y.clauses y.atoms y.deferrals S2.clauses S2.atoms S2.deferrals E.lent) (drawn_alike k₀ k' env.rooms s₁ y.clauses y.atoms y.deferrals A t₁)
                ∙ shown_alike (λ _. 0) k₀ k' env.rooms (defer env HeadOrDisjunct s₁) A))));
            frame = or_frame;
            good = g (subst GoodHeaded er D.good);
            kept = kept_then k₀ k' r' A kp;
          }

      pub or_next : (k' : Counters) (z : Atom) (w' : List ℕ) → r ≡ Head.Made k' z → i < 256 → w' ≡ sets y.scratch (6 * top) (six z) → 6 * top + 6 ≤ length y.scratch
          → Turned P w₀ a count k₀ base n c v x₀ (four w' y.clauses y.atoms y.deferrals) k' (i + 1)
      unfolding with next
      or_next k' z w' er few ew fit =
          let zt : top ≡ base + (n + i) = omega arith in
          let ew2 : w' ≡ sets y.scratch (6 * (base + (n + i))) (six z) = subst (λ (t : ℕ). w' ≡ sets y.scratch (6 * t) (six z)) zt ew in
          let fit2 : 6 * (base + (n + i)) + 6 ≤ length y.scratch = omega arith in
          let f0 : take (6 * (base + (n + i))) w' ≡ take (6 * (base + (n + i))) y.scratch = put_frame base (n + i) y.scratch w' (six z) (6 * (base + (n + i))) ew2 fit2 in
          record {
            within = omega arith;
            few = omega arith;
            good = (subst GoodHeaded er D.good).0;
            alike = alike_then k₀ k k' T.alike (subst (KeptHeaded k) er D.kept);
            frame = frame_less (6 * (base + n)) (6 * (base + (n + i))) y.scratch w' (omega arith) f0 ∙ or_frame;
            rest = λ env f b s Y lo E j t go. T.rest env f b s Y lo E j t (λ s' hs l inh t'. rw (first_of_lem, turn env f b hs s')
                (heads_made env k₀ y.clauses y.atoms y.deferrals r (next env f b hs) (head_atom_for env P (λ h d u. emit_by env P f h d u) m v s') k' z Y er (asked env f s' lo E t')
                (λ s₁ t₁.
                let la = length-append hs (z ∷ []) in
                let ih : InHand w' base (n + i + 1) (b ++ hs ++ (z ∷ [])) = hand_more base (n + i) y.scratch w' (b ++ hs) z ew2 fit2 (hand_kept base (n + i) x.scratch y.scratch (b ++ hs) kept_all inh) in
                let zn : n + i + 1 ≡ n + (i + 1) = omega arith in
                rw (lt-ltb (length hs) 256 (omega arith)) (go s₁ (hs ++ (z ∷ [])) (omega arith) (subst (λ (t : List Atom). InHand w' base (n + (i + 1)) t) (append_assoc b hs (z ∷ [])) (subst (λ (t : ℕ). InHand w' base t (b ++ hs ++ (z ∷ []))) zn ih)) t₁))));
          }
