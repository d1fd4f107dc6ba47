-- One alternative after the other: the turns of a loop. Assumes nothing.
use Rattle.std.specs.Prelude.{◌≡◌, refl, ℕ, suc, ◌+◌, ◌*◌, ◌<◌, ◌≤◌, length, get_or, take}
use Rattle.std.proofs.Common.{sym, subst, ◌∙◌, arith, take-take, drop-cons}
use Rattle.std.proofs.Math.Path.{ap}
use mathlib.Core.List.{List, [], ◌∷◌}
use Prim.{Unit, tt}
use Rattle.std.proofs.Math.ListN.{drop, drop_of_length-le}
use Rattle.ir.specs.Scratch.{hands_at}
use Rattle.ir.specs.declared.counters.Counters.{Counters}
use Rattle.ir.specs.Answer.{Answer}
use Rattle.ir.specs.Answer.{Done, Refused}
use Rattle.ir.specs.declared.atom.Atom.{Atom}
use Rattle.rules.specs.Base.{Res, ok, refused, then, for_each}
use Rattle.rules.specs.State.{Env, Rooms, Out, E}
use Rattle.rules.specs.Antecedents.{Alternatives}
use Rattle.pool.specs.Held.{Held}
use Rattle.tables.specs.Drawn.{Tables, tables, show, shown, after}
use Rattle.tables.specs.Good.{Good, Alike}
use Rattle.hands.specs.Hands.{four, EnvHeld}
use Rattle.leaves.specs.StepLaws.{alike_same, alike_then, after_no}
use Rattle.antecedents.specs.Writes.{Stored, Written}
use Rattle.axioms.specs.Bodies.{Sourced}
use Rattle.axioms.specs.BodyLaws.{encodes_kept}
use Rattle.disjointness.specs.Turns.{Has, Turn, Turned, TurnsSo, TurnsAt}

-- ---- scratch that is changed above top alone
pub below_top : (top : ℕ) (w w' : List ℕ) → 13500 ≤ top → take (6 * top) w' ≡ take (6 * top) w → take hands_at w' ≡ take hands_at w
below_top top w w' h e = sym (take-take hands_at (6 * top) w' (omega arith)) ∙ ap (take hands_at) e ∙ take-take hands_at (6 * top) w (omega arith)

abbrev pub has_kept : (env : Env) (w w' : List ℕ) (k m : Counters) (c y count : ℕ) → take hands_at w' ≡ take hands_at w → Alike k m → Held w k.concepts k.members → Has env w k c y count → Has env w' m c y count
has_kept env w w' k m c y count e A H q = record {
  bound = q.bound;
  start = q.start;
  alternatives = q.alternatives;
  end = q.end;
  encodes = encodes_kept env w w' k m c y count q.bound q.start q.alternatives q.end e A H q.encodes;
}

pub sourced_has : (w : List ℕ) (k : Counters) (c y count : ℕ) (X : Sourced w k c y count) → Has X.env w k c y count
sourced_has w k c y count X = record { bound = X.bound; start = X.start; alternatives = X.alternatives; end = X.end; encodes = X.encodes }

pub sourced_kept : (w w' : List ℕ) (k m : Counters) (c y count : ℕ) → take hands_at w' ≡ take hands_at w → Alike k m → Held w k.concepts k.members → Sourced w k c y count → Sourced w' m c y count
sourced_kept w w' k m c y count e A H X = record {
  env = X.env;
  bound = X.bound;
  start = X.start;
  alternatives = X.alternatives;
  end = X.end;
  encodes = encodes_kept X.env w w' k m c y count X.bound X.start X.alternatives X.end e A H X.encodes;
}

-- ---- what is left to do
left : (turn : List Atom → E (Unit {0})) (l : Alternatives) (i : ℕ) (u : Out) → i < length l → for_each turn (drop i l) u ≡ then (turn (get_or l i []) u) (λ _. for_each turn (drop (i + 1) l))
unfolding for_each
left turn l i u h =
    let p : i + 1 ≡ suc i = omega arith in
    let q : drop i l ≡ get_or l i [] ∷ drop (suc i) l = drop-cons l i [] (omega arith) in
    rw (p, q) refl

go_on_lem : (turn : List Atom → E (Unit {0})) (k : Counters) (rooms : Rooms) (c a d : List ℕ) (l : Alternatives) (s : Out) (i : ℕ) (X : Res Out (Unit {0})) (v : Counters) (j : ℕ)
    → ◌≡◌ {A = Res Tables ℕ} (ok j (tables v c a d)) (shown (λ _. 0) k rooms X) → for_each turn l s ≡ then X (λ _. for_each turn (drop (i + 1) l)) → TurnsSo turn k rooms v c a d l s (i + 1)
go_on_lem turn k rooms c a d l s i (ok x u) v j e q = record { state = u; drawn = cc; rest = q }
go_on_lem turn k rooms c a d l s i (refused x) v j e q = absurd (let z : ◌≡◌ {A = ℕ} 0 1 = cc in omega arith)

-- ---- the loop
module _ (top : ℕ) (P : Env → Type 0) (turn : Turn P) (k : Counters) (c y count : ℕ) (w₀ c₀ a₀ : List ℕ) where
  pub turns_start : Good k → TurnsAt top P turn k c y count w₀ c₀ a₀ w₀ c₀ a₀ k 0
  turns_start g = record {
    within = omega arith;
    frame = refl;
    good = g;
    alike = alike_same k;
    so = λ d env p q s E t. record { state = s; drawn = t; rest = refl };
  }

  pub turns_end : (w ci ai : List ℕ) (m : Counters) (i : ℕ) → TurnsAt top P turn k c y count w₀ c₀ a₀ w ci ai m i → count ≤ i → (d : List ℕ) → Turned top P turn k c y count (four w₀ c₀ a₀ d) (four w ci ai d) (Done m 0)
  unfolding for_each
  turns_end w ci ai m i A h d = record {
    equal = λ env p q s E t.
        let S = A.so d env p q s E t in
        let z : drop i q.alternatives ≡ [] = drop_of_length-le q.alternatives {i = i} (omega (arith, h, q.encodes.long)) in
        let e : for_each (turn env p) q.alternatives s ≡ ok tt S.state = S.rest ∙ ap (λ (x : Alternatives). for_each (turn env p) x S.state) z in
        ap (ok 0) S.drawn ∙ ap (shown (λ _. 0) k env.rooms) (sym e);
    frame = A.frame;
    good = A.good;
    kept = A.alike;
  }

  module _ (w ci ai : List ℕ) (m : Counters) (i : ℕ) (A : TurnsAt top P turn k c y count w₀ c₀ a₀ w ci ai m i) (lt : i < count) where
    -- the alternative that was written
    module _ (above : 13500 ≤ top) (H : Held w₀ k.concepts k.members) (w1 : List ℕ) (r : ℕ) (W : Written w m top c 0 y i w1 r) where
      pub turn_stored : (env : Env) (q : Has env w₀ k c y count) → Stored w top (get_or q.alternatives i []) w1 r
      turn_stored env q =
          let N = encodes_kept env w₀ w k m c y count q.bound q.start q.alternatives q.end (below_top top w₀ w above A.frame) A.alike H q.encodes in
          W.rule env q.bound q.start q.alternatives q.end N.roles N.first N.above N.begins N.fine N.encoded (omega (arith, lt, N.long))

      -- its end, for some env
      pub turn_short : Sourced w₀ k c y count → (top ≤ r) × (r ≤ top + 256)
      turn_short X = let S = turn_stored X.env (sourced_has w₀ k c y count X) in (omega (arith, S.next), omega (arith, S.next, S.short))

      pub written_frame : take (6 * top) w1 ≡ take (6 * top) w₀
      written_frame = W.kept.low ∙ A.frame

    -- the turn's answer
    module _ (w2 c2 a2 : List ℕ) (z : Answer) (frame : take (6 * top) w2 ≡ take (6 * top) w₀)
        (D : (d : List ℕ) (env : Env) (p : P env) (q : Has env w₀ k c y count) (u : Out) → EnvHeld env k (four w₀ c₀ a₀ d) → tables m ci ai d ≡ show k env.rooms u
        → after z c2 a2 d ≡ shown (λ _. 0) k env.rooms (turn env p (get_or q.alternatives i []) u)) where
      pub turns_next : (v : Counters) (j : ℕ) → z ≡ Done v j → Good v → Alike m v → TurnsAt top P turn k c y count w₀ c₀ a₀ w2 c2 a2 v (i + 1)
      turns_next v j e g B = record {
        within = omega arith;
        frame = frame;
        good = g;
        alike = alike_then k m v A.alike B;
        so = λ d env p q s E t.
            let S = A.so d env p q s E t in
            go_on_lem (turn env p) k env.rooms c2 a2 d q.alternatives s i (turn env p (get_or q.alternatives i []) S.state) v j
            (subst (λ (x : Answer). after x c2 a2 d ≡ shown (λ _. 0) k env.rooms (turn env p (get_or q.alternatives i []) S.state)) e (D d env p q S.state E S.drawn))
            (S.rest ∙ left (turn env p) q.alternatives i S.state (omega (arith, lt, q.encodes.long)));
      }

      pub turns_stop : (x : ℕ) → z ≡ Refused x → (d : List ℕ) → Turned top P turn k c y count (four w₀ c₀ a₀ d) (four w2 c2 a2 d) (Refused x)
      turns_stop x e d = record {
        equal = λ env p q s E t.
            let S = A.so d env p q s E t in
            after_no (λ (_ : Unit {0}). 0) (λ (_ : Unit {0}). 0) k env.rooms c2 a2 d z x (turn env p (get_or q.alternatives i []) S.state) (λ _. for_each (turn env p) (drop (i + 1) q.alternatives)) e (D d env p q S.state E S.drawn)
            ∙ ap (shown (λ _. 0) k env.rooms) (sym (S.rest ∙ left (turn env p) q.alternatives i S.state (omega (arith, lt, q.encodes.long))));
        frame = frame;
        good = tt;
        kept = tt;
      }
