-- After the encodings of a disjoint pair's two. Assumes nothing.
use Rattle.std.specs.Prelude.{◌≡◌, refl, Bool, true, false, List, ℕ, suc, ◌<◌}
use Rattle.std.proofs.Common.{sym, ap, subst, ◌∙◌, arith}
use Rattle.std.proofs.Math.Option.{Option}
use Rattle.std.specs.Prelude as Code
use Prim.{Unit, tt}
use Rattle.words.specs.Words.{words}
use Rattle.ir.specs.Counts.{vars_restarted}
use Rattle.ir.specs.declared.counters.Counters.{Counters}
use Rattle.ir.specs.Answer.{Answer}
use Rattle.ir.specs.Answer as Answers
use Rattle.ir.specs.Encoded.{Encoded, encoded}
use Rattle.ir.specs.Encoded.{Found, Unsupported, Refused}
use Rattle.ir.specs.declared.answer.Alternatives.{Alternatives as Counts}
use Rattle.ir.specs.declared.deferral.Deferral.TheVariants.{DisjointAntecedent}
use Rattle.rules.specs.Base.{Res, ok, refused, then}
use Rattle.rules.specs.Pool.{Pool}
use Rattle.rules.specs.State.{Env, Out, E, restarted, restart_vars, defer}
use Rattle.rules.specs.Antecedents.{Alternatives, encode_by}
use Rattle.rules.specs.Axioms.{pair_with, push_pairs}
use Rattle.pool.specs.Layout.{pool_of}
use Rattle.tables.specs.Drawn.{Tables, tables, show, shown, after, Lent}
use Rattle.tables.specs.Good.{Good, GoodAnswer, Alike, KeptAnswer}
use Rattle.hands.specs.Hands.{Four, four, Did}
use Rattle.leaves.specs.StepLaws.{alike_same, alike_then, shown_alike, kept_then, env_alike, var_is_lem}
use Rattle.antecedents.specs.States.{summary}
use Rattle.antecedents.specs.Counts.{GoodEncoded}
use Rattle.axioms.specs.RoleLaws.{alike_restart, good_restart, drawn_restarted}
use Rattle.axioms.specs.Bodies.{Encoding, Sourced}
use Rattle.axioms.specs.BodyLaws.{encoding_kept}
use Rattle.axioms.specs.MemberLaws.{AlikeEncoded, encoded_alike, found_is, found_source}
use Rattle.disjointness.specs.TurnLaws.{sourced_kept}
use Rattle.disjointness.specs.Pairs.{unencoded, pair_rule}
use Rattle.disjointness.specs.PairTurns.{PushedPairs, GaveUp, First, pair_from}
use Rattle.disjointness.specs.EncodedLaws.{Tells, Ended, found_ended, refused_is, as_found, as_none, counted_drawn, ended_alike, ended_drawn, told_drawn, found_has}

-- ---- a pair that cannot be encoded
pub gave_up : (k : Counters) (deferred : Bool) (d d' : List ℕ) (r : Answer) → deferred ≡ true
    → ((env : Env) (s : Out) (c a : List ℕ) → Lent env.rooms c a d → tables k c a d ≡ show k env.rooms s → after r c a d' ≡ shown (λ _. 0) k env.rooms (defer env DisjointAntecedent s))
    → (Good k → GoodAnswer r) → KeptAnswer k r → GaveUp k deferred d d' r
gave_up k deferred d d' r e D g kept = subst (λ (b : Bool). GaveUp k b d d' r) (sym e) (record { equal = D; good = g; kept = kept })

pub passed_over : (k : Counters) (deferred : Bool) (d : List ℕ) → deferred ≡ false → GaveUp k deferred d d (Answers.Done k 0)
passed_over k deferred d e = subst (λ (b : Bool). GaveUp k b d d (Answers.Done k 0)) (sym e) (record { equal = λ env s c a l t. ap (ok 0) t; good = λ g. g; kept = alike_same k })

-- ---- the rule, one encoding after the other
module _ (env : Env) (pool : Pool) (other : E (Unit {0})) (x y : ℕ) (k : Counters) (s : Out) where
  one_refused : (n : ℕ) → encode_by env pool (suc x) x 0 s ≡ refused n → refused n ≡ shown (λ _. 0) k env.rooms (pair_from env other x y pool s)
  one_refused n e = sym (ap (λ (v : Res Out (Option Alternatives)). shown (λ _. 0) k env.rooms (then v (λ o u. then (encode_by env pool (suc y) y 0 u) (λ q. pair_with env other o q)))) e)

  module _ (l : Counters) (N : Ended k l (encode_by env pool (suc x) x 0 s)) where
    second : shown (λ _. 0) k env.rooms (pair_from env other x y pool s) ≡ shown (λ _. 0) k env.rooms (then (encode_by env pool (suc y) y 0 N.end) (λ q. pair_with env other N.value q))
    second = ap (λ (v : Res Out (Option Alternatives)). shown (λ _. 0) k env.rooms (then v (λ o u. then (encode_by env pool (suc y) y 0 u) (λ q. pair_with env other o q)))) N.is

    other_refused : (n : ℕ) → encode_by env pool (suc y) y 0 N.end ≡ refused n → refused n ≡ shown (λ _. 0) k env.rooms (pair_from env other x y pool s)
    other_refused n e = sym (second ∙ ap (λ (v : Res Out (Option Alternatives)). shown (λ _. 0) k env.rooms (then v (λ q. pair_with env other N.value q))) e)

    both_ended : (m : Counters) (M : Ended l m (encode_by env pool (suc y) y 0 N.end)) (Z : Res Tables ℕ) → Z ≡ shown (λ _. 0) m env.rooms (pair_with env other N.value M.value M.end)
        → Z ≡ shown (λ _. 0) k env.rooms (pair_from env other x y pool s)
    both_ended m M Z e =
        e ∙ shown_alike (λ _. 0) k m env.rooms (pair_with env other N.value M.value M.end)
        (alike_then k l m (ended_alike k l (encode_by env pool (suc x) x 0 s) N) (ended_alike l m (encode_by env pool (suc y) y 0 N.end) M))
        ∙ sym (second ∙ ap (λ (v : Res Out (Option Alternatives)). shown (λ _. 0) k env.rooms (then v (λ q. pair_with env other N.value q))) M.is)

-- ---- what the first's answer says
module _ (s : List ℕ) (x y : ℕ) (first : Encoded) (F : First s x y first) where
  pub first_alike : AlikeEncoded F.counters first
  first_alike = encoded_alike (words s) F.counters x first F.told

  pub encoding_at : (m : Counters) → Alike F.counters m → Encoding s m
  encoding_at m A = encoding_kept s s F.counters m refl refl A F.encoding

  pub first_source : (l m : Counters) (count j : ℕ) → first ≡ Found l count j → Alike l m → Sourced (words s) m x 1 count
  first_source l m count j q A =
      let B : Alike F.counters l = subst (AlikeEncoded F.counters) q first_alike in
      let S = found_source (words s) F.counters l x count j F.encoding.canon first F.encoding.roles F.good F.told q in
      sourced_kept (words s) (words s) l m x 1 count refl A (encoding_at l B).reading.ready.held (subst (λ (v : ℕ). Sourced (words s) l x v count) F.begins S)

  module _ (deferred : Bool) (c a d : List ℕ) where
    abbrev pub SecondDid : Four → Answer → Type 0
    SecondDid x' z = Did (λ _. 0) 0 (λ env f h t. pair_from env (unencoded env deferred) x y (pool_of (words s) F.counters.concepts) t) F.counters 13500 0 (four (words s) c a d) x' z

    abbrev One : Env → Out → Res Out (Option Alternatives)
    One env t = encode_by env (pool_of (words s) F.counters.concepts) (suc x) x 0 t

    abbrev Other : Env → Out → Res Out (Option Alternatives)
    Other env t = encode_by env (pool_of (words s) F.counters.concepts) (suc y) y 0 t

    pub first_refused : (n : ℕ) → first ≡ Refused n → SecondDid (four (words s) c a d) (Answers.Refused n)
    first_refused n q = record {
      equal = λ env f h t lo E i e. one_refused env (pool_of (words s) F.counters.concepts) (unencoded env deferred) x y F.counters t n (refused_is F.counters n (One env t) (sym q ∙ told_drawn (words s) F.counters x first F.told env t c a d e));
      frame = refl;
      good = tt;
      kept = tt;
    }

    -- the second's answer r, after counters l
    module _ (l : Counters) (G : (X : Res Out (Option Alternatives)) → first ≡ summary F.counters X → Ended F.counters l X) (A : Alike F.counters l) (r : Encoded) (C : Tells (words s) l y r) where
      abbrev ended : (env : Env) (t : Out) → tables F.counters c a d ≡ show F.counters env.rooms t → Ended F.counters l (One env t)
      ended env t e = G (One env t) (told_drawn (words s) F.counters x first F.told env t c a d e)

      drawn_first : (env : Env) (t : Out) (N : Ended F.counters l (One env t)) → tables F.counters c a d ≡ show F.counters env.rooms t → tables l c a d ≡ show l env.rooms N.end
      drawn_first env t N e = ended_drawn env (pool_of (words s) F.counters.concepts) (suc x) x 0 t F.counters l c a d N e

      told_second : (env : Env) (t : Out) (N : Ended F.counters l (One env t)) → tables F.counters c a d ≡ show F.counters env.rooms t → r ≡ summary l (Other env N.end)
      told_second env t N e = told_drawn (words s) l y r C env N.end c a d (drawn_first env t N e) ∙ ap (λ (n : ℕ). summary l (encode_by env (pool_of (words s) n) (suc y) y 0 N.end)) A.concepts

      drawn_second : (env : Env) (t : Out) (N : Ended F.counters l (One env t)) (m : Counters) (M : Ended l m (Other env N.end)) → tables F.counters c a d ≡ show F.counters env.rooms t
          → tables m c a d ≡ show m env.rooms M.end
      drawn_second env t N m M e = ended_drawn env (pool_of (words s) F.counters.concepts) (suc y) y 0 N.end l m c a d M (drawn_first env t N e)

      pub second_refused : (n : ℕ) → r ≡ Refused n → SecondDid (four (words s) c a d) (Answers.Refused n)
      second_refused n q = record {
        equal = λ env f h t lo E i e.
            let N = ended env t e in
            other_refused env (pool_of (words s) F.counters.concepts) (unencoded env deferred) x y F.counters t l N n (refused_is l n (Other env N.end) (sym q ∙ told_second env t N e));
        frame = refl;
        good = tt;
        kept = tt;
      }

      -- one of the two cannot be encoded
      pub second_given_up : (m : Counters) (H : (Y : Res Out (Option Alternatives)) → r ≡ summary l Y → Ended l m Y) (d' : List ℕ) (z : Answer)
          → ((env : Env) (X Y : Res Out (Option Alternatives)) (p : first ≡ summary F.counters X) (q : r ≡ summary l Y) (u : Out) → pair_with env (unencoded env deferred) (G X p).value (H Y q).value u ≡ unencoded env deferred u)
          → Alike l m → Good m → GaveUp m deferred d d' z → SecondDid (four (words s) c a d') z
      second_given_up m H d' z none B g U = record {
        equal = λ env f h t lo E i e.
            let N = ended env t e in
            let M = H (Other env N.end) (told_second env t N e) in
            both_ended env (pool_of (words s) F.counters.concepts) (unencoded env deferred) x y F.counters t l N m M (after z c a d')
            (U.equal env M.end c a E.lent (drawn_second env t N m M e)
            ∙ ap (shown (λ _. 0) m env.rooms) (sym (none env (One env t) (Other env N.end) (told_drawn (words s) F.counters x first F.told env t c a d e) (told_second env t N e) M.end)));
        frame = refl;
        good = U.good g;
        kept = kept_then F.counters m z (alike_then F.counters l m A B) U.kept;
      }

    -- a clause for each pair of alternatives
    module _ (l : Counters) (count j : ℕ) (q : first ≡ Found l count j) (A : Alike F.counters l) (r : Encoded) (C : Tells (words s) l y r) (m : Counters) (others i : ℕ) (q' : r ≡ Found m others i) (B : Alike l m) (g : Good l)
        (w' c' a' : List ℕ) (z : Answer) (D : PushedPairs m x count y others l.next_var (four (words s) c a d) (four w' c' a' d) z) where
      pub second_pairs : SecondDid (four w' c' a' d) z
      unfolding push_pairs
      second_pairs = record {
        equal = λ env f h t lo E v e.
            let p = told_drawn (words s) F.counters x first F.told env t c a d e in
            let G = as_found F.counters l count j first q in
            let N = G (One env t) p in
            let n1 = found_is F.counters l count j (One env t) (sym q ∙ p) in
            let n2 = found_is l m others i (Other env N.end) (sym q' ∙ told_second l G A r C env t N e) in
            let M = found_ended l m others (Other env N.end) n2 in
            let AB = alike_then F.counters l m A B in
            let e1 = drawn_first l G A r C env t N e in
            both_ended env (pool_of (words s) F.counters.concepts) (unencoded env deferred) x y F.counters t l N m M (after z c' a' d)
            (D.equal env
            (found_has env (words s) F.counters l m m y l.next_var others N.end E.read AB g (counted_drawn l env.rooms N.end c a d e1) (var_is_lem l env.rooms N.end c a d e1) n2)
            (found_has env (words s) F.counters F.counters l m x 1 count t E.read AB F.good (counted_drawn F.counters env.rooms t c a d e) (sym F.begins ∙ var_is_lem F.counters env.rooms t c a d e) n1)
            M.end (record { read = env_alike env F.counters m (words s) AB E.read; lent = E.lent }) (drawn_second l G A r C env t N m M e));
        frame = D.frame;
        good = D.good;
        kept = kept_then F.counters m z (alike_then F.counters l m A B) D.kept;
      }

-- not both have alternatives
module _ (s : List ℕ) (x y : ℕ) (l m : Counters) (deferred : Bool) (c a d d' : List ℕ) (z : Answer) where
  pub unpaired : (o o' : Code.Option Counts) (F : First s x y (encoded l (Code.Ok o))) → Tells (words s) l y (encoded m (Code.Ok o')) → Good m → ((p q : Counts) → o ≡ Code.Some p → o' ≡ Code.Some q → ⊥)
      → GaveUp m deferred d d' z → SecondDid s x y (encoded l (Code.Ok o)) F deferred c a d (four (words s) c a d') z
  unpaired (Code.Some p) (Code.Some q) F C g n U = absurd (n p q refl refl)
  unpaired (Code.Some p) Code.None F C g n U =
      let r : Encoded = Found l p.count p.longest in
      second_given_up s x y r F deferred c a d l (as_found F.counters l p.count p.longest r refl) (first_alike s x y r F) (Unsupported m) C m (as_none l m (Unsupported m) refl) d' z (λ env X Y p q u. refl) (encoded_alike (words s) l y (Unsupported m) C) g U
  unpaired Code.None (Code.Some q) F C g n U =
      let r : Encoded = Found m q.count q.longest in
      second_given_up s x y (Unsupported l) F deferred c a d l (as_none F.counters l (Unsupported l) refl) (first_alike s x y (Unsupported l) F) r C m (as_found l m q.count q.longest r refl) d' z (λ env X Y p q u. refl) (encoded_alike (words s) l y r C) g U
  unpaired Code.None Code.None F C g n U =
      second_given_up s x y (Unsupported l) F deferred c a d l (as_none F.counters l (Unsupported l) refl) (first_alike s x y (Unsupported l) F) (Unsupported m) C m (as_none l m (Unsupported m) refl) d' z (λ env X Y p q u. refl) (encoded_alike (words s) l y (Unsupported m) C) g U

-- ---- and the variables begin again before
abbrev pub first_restarted : (s : List ℕ) (k k1 : Counters) (x y : ℕ) (r : Encoded) → k1 ≡ vars_restarted k → Encoding s k → Good k → x < k.concepts → y < k.concepts → Tells (words s) k1 x r → GoodEncoded r → First s x y r
first_restarted s k k1 x y r q R g h h' C e =
    let A = alike_restart k k1 q in
    let n = A.concepts in
    record {
      counters = k1;
      encoding = encoding_kept s s k k1 refl refl A R;
      begins = ap (λ (z : Counters). z.next_var) q;
      good = good_restart k k1 q g;
      one = omega (arith, n, h);
      other = omega (arith, n, h');
      told = C;
      fine = e;
    }

pub pair_restarted : (k k1 : Counters) (x y : ℕ) (deferred : Bool) (w c a d : List ℕ) (x' : Four) (z : Answer) → k1 ≡ vars_restarted k
    → Did (λ _. 0) 0 (λ env f h t. pair_from env (unencoded env deferred) x y (pool_of w k1.concepts) t) k1 13500 0 (four w c a d) x' z
    → Did (λ _. 0) 0 (λ env f h t. pair_rule env (unencoded env deferred) x y (pool_of w k.concepts) t) k 13500 0 (four w c a d) x' z
unfolding restart_vars
pair_restarted k k1 x y deferred w c a d x' z q D =
    let A = alike_restart k k1 q in
    record {
      equal = λ env f h t lo E i e.
          D.equal env f h (restarted t) lo (record { read = env_alike env k k1 w A E.read; lent = E.lent }) i (drawn_restarted k k1 env.rooms t c a d q e)
          ∙ shown_alike (λ _. 0) k k1 env.rooms (pair_from env (unencoded env deferred) x y (pool_of w k1.concepts) (restarted t)) A
          ∙ ap (λ (n : ℕ). shown (λ _. 0) k env.rooms (pair_from env (unencoded env deferred) x y (pool_of w n) (restarted t))) A.concepts;
      frame = D.frame;
      good = D.good;
      kept = kept_then k k1 z A D.kept;
    }
