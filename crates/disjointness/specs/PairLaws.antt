-- The turns of push_with and of push_pairs. Assumes nothing.
use Rattle.std.specs.Prelude.{◌≡◌, refl, Bool, true, false, List, [], ◌++◌, ℕ, ◌+◌, ◌*◌, ◌-◌, ◌<◌, ◌≤◌, leb, length, get_or, take}
use Rattle.std.proofs.Common.{sym, ap, subst, ◌∙◌, append_assoc, arith, le-leb, length-append}
use Rattle.std.proofs.lemmas.Bool.{lt-leb}
use Rattle.ir.specs.declared.counters.Counters.{Counters}
use Rattle.ir.specs.Answer.{Answer}
use Rattle.ir.specs.Answer.{Done, Refused}
use Rattle.ir.specs.declared.atom.Atom.{Atom}
use Rattle.rules.specs.Base.{for_each}
use Rattle.rules.specs.State.{Env, Out, push}
use Rattle.rules.specs.Run.{flat}
use Rattle.rules.specs.DecodeLaws.{flat_append}
use Rattle.rules.specs.Axioms.{push_pair}
use Rattle.pool.specs.Held.{Held}
use Rattle.tables.specs.Drawn.{tables, show, shown, after}
use Rattle.tables.specs.Good.{GoodAnswer, Alike, KeptAnswer}
use Rattle.hands.specs.Hands.{InHand, four, EnvHeld, Did}
use Rattle.hands.specs.HandLaws.{hand_kept}
use Rattle.leaves.specs.StepLaws.{shown_alike, env_alike, env_kept, lent_kept, drawn_alike}
use Rattle.antecedents.specs.Writes.{Stored, Written}
use Rattle.axioms.specs.BodyLaws.{hand_stored}
use Rattle.disjointness.specs.Turns.{Has, TurnsAt}
use Rattle.disjointness.specs.TurnLaws.{below_top, has_kept, turn_stored, written_frame, turns_next, turns_stop}
use Rattle.disjointness.specs.PairTurns.{Before, both, behind, before, PushedWith, PushedPairs}

-- one body behind the other
pub hand_append : (w : List ℕ) (base n m : ℕ) (a b : List Atom) → InHand w base n a → InHand w (base + n) m b → InHand w base (n + m) (a ++ b)
hand_append w base n m a b I J =
    let e : base + (n + m) ≡ base + n + m = omega arith in
    let l = length-append a b in
    record {
      long = omega (arith, l, I.long, J.long);
      are = ap (λ (x : ℕ). take (6 * x) w) e ∙ J.are ∙ ap (λ (t : List ℕ). t ++ flat b) I.are ∙ append_assoc (take (6 * base) w) (flat a) (flat b)
          ∙ ap (λ (t : List ℕ). take (6 * base) w ++ t) (sym (flat_append a b));
    }

-- what an env reads, and the tables' sizes, at a later time
env_later : (env : Env) (k m : Counters) (top : ℕ) (w c a w' c' a' d : List ℕ) → 13500 ≤ top → take (6 * top) w' ≡ take (6 * top) w → length c' ≡ length c → length a' ≡ length a → Alike k m
    → EnvHeld env k (four w c a d) → EnvHeld env m (four w' c' a' d)
env_later env k m top w c a w' c' a' d above fr lc la A E = record { read = env_alike env k m w' A (env_kept env k w w' top (omega arith) fr E.read); lent = lent_kept env.rooms c a d c' a' d lc la refl E.lent }

-- ---- push_with
module _ (k : Counters) (top b y count : ℕ) (w₀ c₀ a₀ w ci ai : List ℕ) (m : Counters) (j : ℕ) (A : TurnsAt top (Before w₀ top) (behind w₀ top) k b y count w₀ c₀ a₀ w ci ai m j) (lt : j < count)
    (above : 13500 ≤ top) (H : Held w₀ k.concepts k.members) (w1 : List ℕ) (r : ℕ) (W : Written w m top b 0 y j w1 r) where
  stored : (env : Env) (q : Has env w₀ k b y count) → Stored w top (get_or q.alternatives j []) w1 r
  stored = turn_stored top (Before w₀ top) (behind w₀ top) k b y count w₀ c₀ a₀ w ci ai m j A lt above H w1 r W

  frame : take (6 * top) w1 ≡ take (6 * top) w₀
  frame = written_frame top (Before w₀ top) (behind w₀ top) k b y count w₀ c₀ a₀ w ci ai m j A lt above H w1 r W

  long_both : (env : Env) (p : Before w₀ top env) (q : Has env w₀ k b y count) → length (p.atoms ++ get_or q.alternatives j []) ≡ r - 13500
  long_both env p q = let S = stored env q in length-append p.atoms (get_or q.alternatives j []) ∙ omega (arith, above, p.hand.long, S.next)

  -- more than 256 atoms
  pub with_long : 13500 + 256 < r → (d : List ℕ) → PushedWith k top b count y (four w₀ c₀ a₀ d) (four w1 ci ai d) (Refused 12)
  with_long h d =
      turns_stop top (Before w₀ top) (behind w₀ top) k b y count w₀ c₀ a₀ w ci ai m j A lt w1 ci ai (Refused 12) frame
      (λ d env p q u E t.
      let x : List Atom = p.atoms ++ get_or q.alternatives j [] in
      let n = long_both env p q in
      let e : leb (length x) 256 ≡ false = lt-leb (length x) 256 (omega (arith, h, n)) in
      ap (λ (f : Bool). shown (λ _. 0) k env.rooms (push_pair env x f u)) (sym e))
      12 refl d

  module _ (fit : 6 * (top + 256) ≤ length w) (lc : length ci ≡ length c₀) (la : length ai ≡ length a₀) (n : ℕ) (en : n ≡ r - 13500) (few : r ≤ 13500 + 256) (c2 a2 : List ℕ) (z : Answer)
      (D : (d : List ℕ) → Did (λ _. 0) 0 (λ env f b s. push env b [] s) m 13500 n (four w1 ci ai d) (four w1 c2 a2 d) z) where
    hand : (env : Env) (p : Before w₀ top env) (q : Has env w₀ k b y count) → InHand w1 13500 n (p.atoms ++ get_or q.alternatives j [])
    hand env p q =
        let S = stored env q in
        let x : 13500 + (top - 13500) ≡ top = omega arith in
        let v : (top - 13500) + (r - top) ≡ n = omega (arith, en, above, S.next) in
        let I : InHand w1 13500 (top - 13500) p.atoms = hand_kept 13500 (top - 13500) w₀ w1 p.atoms (rw x frame) p.hand in
        let J : InHand w1 top (r - top) (get_or q.alternatives j []) = hand_stored w w1 top r (r - top) (get_or q.alternatives j []) S refl (omega (arith, fit, S.short)) in
        subst (λ (o : ℕ). InHand w1 13500 o (p.atoms ++ get_or q.alternatives j [])) v
        (hand_append w1 13500 (top - 13500) (r - top) p.atoms (get_or q.alternatives j []) I (subst (λ (o : ℕ). InHand w1 o (r - top) (get_or q.alternatives j [])) (sym x) J))

    pushed : (d : List ℕ) (env : Env) (p : Before w₀ top env) (q : Has env w₀ k b y count) (u : Out) → EnvHeld env k (four w₀ c₀ a₀ d) → tables m ci ai d ≡ show k env.rooms u
        → after z c2 a2 d ≡ shown (λ _. 0) k env.rooms (both env p.atoms (get_or q.alternatives j []) u)
    pushed d env p q u E t =
        let x : List Atom = p.atoms ++ get_or q.alternatives j [] in
        let l = long_both env p q in
        let e : leb (length x) 256 ≡ true = le-leb (length x) 256 (omega (arith, few, l)) in
        (D d).equal env 0 x u (omega arith) (env_later env k m top w₀ c₀ a₀ w1 ci ai d above frame lc la A.alike E) (hand env p q) (drawn_alike k m env.rooms u ci ai d A.alike t)
        ∙ shown_alike (λ _. 0) k m env.rooms (push env x [] u) A.alike
        ∙ ap (λ (f : Bool). shown (λ _. 0) k env.rooms (push_pair env x f u)) (sym e)

    pub with_next : (v : Counters) (i : ℕ) → z ≡ Done v i → TurnsAt top (Before w₀ top) (behind w₀ top) k b y count w₀ c₀ a₀ w1 c2 a2 v (j + 1)
    with_next v i e = turns_next top (Before w₀ top) (behind w₀ top) k b y count w₀ c₀ a₀ w ci ai m j A lt w1 c2 a2 z frame pushed v i e (subst GoodAnswer e (D []).good) (subst (KeptAnswer m) e (D []).kept)

    pub with_stop : (x : ℕ) → z ≡ Refused x → (d : List ℕ) → PushedWith k top b count y (four w₀ c₀ a₀ d) (four w1 c2 a2 d) (Refused x)
    with_stop x e d = turns_stop top (Before w₀ top) (behind w₀ top) k b y count w₀ c₀ a₀ w ci ai m j A lt w1 c2 a2 z frame pushed x e d

-- ---- push_pairs
module _ (k : Counters) (a count b others y : ℕ) (w₀ c₀ a₀ w ci ai : List ℕ) (m : Counters) (i : ℕ)
    (A : TurnsAt 13500 (λ env. Has env w₀ k b y others) (before w₀ k b y others) k a 1 count w₀ c₀ a₀ w ci ai m i) (lt : i < count) (H : Held w₀ k.concepts k.members)
    (w1 : List ℕ) (r : ℕ) (W : Written w m 13500 a 0 1 i w1 r) (fit : 6 * (13500 + 256) ≤ length w) (lc : length ci ≡ length c₀) (la : length ai ≡ length a₀) (w2 c2 a2 : List ℕ) (z : Answer) (up : 13500 ≤ r)
    (D : (d : List ℕ) → PushedWith m r b others y (four w1 ci ai d) (four w2 c2 a2 d) z) where
  stored_first : (env : Env) (q : Has env w₀ k a 1 count) → Stored w 13500 (get_or q.alternatives i []) w1 r
  stored_first = turn_stored 13500 (λ env. Has env w₀ k b y others) (before w₀ k b y others) k a 1 count w₀ c₀ a₀ w ci ai m i A lt (omega arith) H w1 r W

  frame_first : take (6 * 13500) w1 ≡ take (6 * 13500) w₀
  frame_first = written_frame 13500 (λ env. Has env w₀ k b y others) (before w₀ k b y others) k a 1 count w₀ c₀ a₀ w ci ai m i A lt (omega arith) H w1 r W

  frame_pairs : take (6 * 13500) w2 ≡ take (6 * 13500) w₀
  frame_pairs = below_top r w1 w2 up (D []).frame ∙ frame_first

  paired : (d : List ℕ) (env : Env) (p : Has env w₀ k b y others) (q : Has env w₀ k a 1 count) (u : Out) → EnvHeld env k (four w₀ c₀ a₀ d) → tables m ci ai d ≡ show k env.rooms u
      → after z c2 a2 d ≡ shown (λ _. 0) k env.rooms (for_each (both env (get_or q.alternatives i [])) p.alternatives u)
  paired d env p q u E t =
      let S = stored_first env q in
      let x : List Atom = get_or q.alternatives i [] in
      (D d).equal env (record { atoms = x; hand = hand_stored w w1 13500 r (r - 13500) x S refl (omega (arith, fit, S.short)) })
      (has_kept env w₀ w1 k m b y others frame_first A.alike H p) u
      (env_later env k m 13500 w₀ c₀ a₀ w1 ci ai d (omega arith) frame_first lc la A.alike E) (drawn_alike k m env.rooms u ci ai d A.alike t)
      ∙ shown_alike (λ _. 0) k m env.rooms (for_each (both env x) p.alternatives u) A.alike

  pub pairs_next : (v : Counters) (j : ℕ) → z ≡ Done v j → TurnsAt 13500 (λ env. Has env w₀ k b y others) (before w₀ k b y others) k a 1 count w₀ c₀ a₀ w2 c2 a2 v (i + 1)
  pairs_next v j e = turns_next 13500 (λ env. Has env w₀ k b y others) (before w₀ k b y others) k a 1 count w₀ c₀ a₀ w ci ai m i A lt w2 c2 a2 z frame_pairs paired v j e (subst GoodAnswer e (D []).good) (subst (KeptAnswer m) e (D []).kept)

  pub pairs_stop : (x : ℕ) → z ≡ Refused x → (d : List ℕ) → PushedPairs k a count b others y (four w₀ c₀ a₀ d) (four w2 c2 a2 d) (Refused x)
  pairs_stop x e d = turns_stop 13500 (λ env. Has env w₀ k b y others) (before w₀ k b y others) k a 1 count w₀ c₀ a₀ w ci ai m i A lt w2 c2 a2 z frame_pairs paired x e d
