-- One alternative after the other, for any rule of a body. Assumes nothing.
use Rattle.std.specs.Prelude.{◌≡◌, length, take}
use Rattle.std.proofs.Math.Path.{refl, ap, subst}
use Rattle.std.proofs.Common.{sym, ◌∙◌, length-append, take-take, take_at, length-take-le}
use mathlib.Core.List.{List, [], ◌∷◌, ◌++◌}
use Prim.{Unit, tt}
use Prim.Native.Nat.{ℕ, suc, ◌+◌, ◌*◌, ◌-◌, ◌<◌, ◌≤◌}
use native.Mathlib.Omega.{arith}
use Rattle.std.proofs.Math.ListN.{get_or, drop, drop_of_length-le}
use Rattle.std.proofs.lemmas.List.Edits.{sets-eq}
use Rattle.std.proofs.Math.Seq.{drop-cons}
use Rattle.words.specs.Words.{words}
use Rattle.words.specs.Laws.{length_words, frame_less}
use Rattle.ir.specs.Scratch.{hands_at, limits_at}
use Rattle.ir.specs.declared.counters.Counters.{Counters}
use Rattle.ir.specs.Answer.{Answer}
use Rattle.ir.specs.Answer.{Done, Refused}
use Rattle.ir.specs.declared.atom.Atom.{Atom}
use Rattle.rules.specs.Base.{Res, ok, refused, then, for_each}
use Rattle.rules.specs.Pool.{Pool}
use Rattle.rules.specs.State.{Limit, Env, Out, E}
use Rattle.rules.specs.Run.{flat}
use Rattle.rules.specs.DecodeLaws.{flat_long}
use Rattle.rules.specs.Antecedents.{Alternatives, encode_by}
use Rattle.rules.specs.Post.{gives, give}
use Rattle.pool.specs.Layout.{pool_of}
use Rattle.pool.specs.Held.{Held, Ready}
use Rattle.tables.specs.Drawn.{Tables, tables, shown, after}
use Rattle.tables.specs.Good.{Good, GoodAnswer, Alike, KeptAnswer}
use Rattle.waiting.specs.Limits.{Waits, Behind}
use Rattle.waiting.specs.LimitLaws.{waits_kept}
use Rattle.hands.specs.Hands.{InHand, Four, four, EnvHeld, Did, Waiting, Queues}
use Rattle.hands.specs.HandLaws.{put_behind}
use Rattle.hands.specs.QueueLaws.{waiting_no}
use Rattle.leaves.specs.StepLaws.{alike_same, alike_then, shown_alike, env_alike, env_kept, lent_kept, drawn_alike, after_no}
use Rattle.antecedents.specs.Table.{Numbered}
use Rattle.antecedents.specs.Writes.{Named, Stored, Written}
use Rattle.antecedents.specs.WriteLaws.{hands_pool, hands_roles, hands_numbered}
use Rattle.heads.specs.FrameLaws.{reading_alike, reading_kept}
use Rattle.heads.specs.LoopLaws.{SameSizes}
use Rattle.axioms.specs.Bodies.{Encoding, Encodes, Sourced, Bodied, BodiedWaits, BodiedSo, BodiedAt, WaitsSo, WaitsAt}

-- ---- scratch and counters that a call left alone
pub pool_still : (w w' : List ℕ) (k m : Counters) → take hands_at w' ≡ take hands_at w → Alike k m → Held w k.concepts k.members → pool_of w' m.concepts ≡ pool_of w k.concepts
pool_still w w' k m e A H = ap (pool_of w') A.concepts ∙ hands_pool w w' e k.concepts k.members H

pub encoding_kept : (s s' : List ℕ) (k m : Counters) → length s' ≡ length s → take hands_at (words s') ≡ take hands_at (words s) → Alike k m → Encoding s k → Encoding s' m
encoding_kept s s' k m l e A R = record {
  reading = reading_alike s' k m A (reading_kept s s' k 13500 R.reading (omega arith) e l);
  rows = rw A.concepts (hands_numbered (words s) (words s') e k.concepts k.members k.concepts R.reading.ready.held (omega arith) R.rows);
  canon = R.canon;
  roles = hands_roles (words s) (words s') e R.canon R.roles;
}

pub encoding_named : (s : List ℕ) (k : Counters) → Encoding s k → Named (pool_of (words s) k.concepts) k.nominal_base
encoding_named s k R = let r = R.reading in record { bounds = r.bounds; wf = r.wf; classes = r.classes; individuals = r.individuals; roles = r.roles; first = r.nominals }

-- what write_alternative asks
pub write_ready : (s s' : List ℕ) (k m : Counters) (base c : ℕ) → Encoding s k → c < k.concepts → hands_at ≤ 6 * base → 24 * (base + 256) ≤ length s → length s' ≡ length s → take hands_at (words s') ≡ take hands_at (words s) → Alike k m
    → Ready s' m × Numbered (words s') (pool_of (words s') m.concepts) m.concepts × Named (pool_of (words s') m.concepts) m.nominal_base × (c < m.concepts) × (hands_at ≤ 6 * base) × (24 * (base + 256) ≤ length s')
write_ready s s' k m base c R lt ab room l e A =
    let R' = encoding_kept s s' k m l e A R in
    let q = A.concepts in
    (R'.reading.ready, R'.rows, encoding_named s' m R', omega (arith, q, lt), ab, omega (arith, room, l))

pub hand_fits : (s s' : List ℕ) → 24 * (13500 + 256) ≤ length s → length s' ≡ length s → 6 * (13500 + 256) ≤ length (words s')
hand_fits s s' room l = omega (arith, length_words s', room, l)

pub encodes_kept : (env : Env) (w w' : List ℕ) (k m : Counters) (c y count f : ℕ) (t : Out) (l : Alternatives) (s : Out) → take hands_at w' ≡ take hands_at w → Alike k m → Held w k.concepts k.members
    → Encodes env w k c y count f t l s → Encodes env w' m c y count f t l s
encodes_kept env w w' k m c y count f t l s e A H N = record {
  roles = hands_roles w w' e env.inverse_canon N.roles;
  first = A.nominals ∙ N.first;
  above = N.above;
  begins = N.begins;
  fine = N.fine;
  encoded = ap (λ (p : Pool). encode_by env p f c 0 t) (pool_still w w' k m e A H) ∙ N.encoded;
  long = N.long;
}

-- ---- an alternative in hand
pub hand_stored : (w w' : List ℕ) (base r n : ℕ) (b : List Atom) → Stored w base b w' r → n ≡ r - base → 6 * (base + length b) ≤ length w → InHand w' base n b
hand_stored w w' base r n b S en fit =
    let lf : length (flat b) ≡ 6 * length b = flat_long b in
    let q : n ≡ length b = omega (arith, en, S.next) in
    let l : length (take (6 * base) w) ≡ 6 * base = length-take-le (6 * base) w (omega arith) in
    let z : w' ≡ take (6 * base) w ++ flat b ++ drop (6 * base + length (flat b)) w = S.words ∙ sets-eq (flat b) w (6 * base) (omega arith) in
    let la = length-append (take (6 * base) w) (flat b) in
    let t1 : take (6 * (base + n)) w' ≡ take (6 * base) w ++ flat b = ap (take (6 * (base + n))) z ∙ take_at (take (6 * base) w ++ flat b) (drop (6 * base + length (flat b)) w) (6 * (base + n)) (omega arith) in
    let t2 : take (6 * base) w' ≡ take (6 * base) w =
    sym (take-take (6 * base) (6 * (base + n)) w' (omega arith)) ∙ ap (take (6 * base)) t1 ∙ take_at (take (6 * base) w) (flat b) (6 * base) l in
    record { long = q; are = t1 ∙ ap (λ (u : List ℕ). u ++ flat b) (sym t2) }

pub stored_behind : (w w' : List ℕ) (base r : ℕ) (b : List Atom) → Stored w base b w' r → 6 * (base + 256) ≤ limits_at → Behind w w'
stored_behind w w' base r b S h = put_behind w w' (flat b) (6 * base) S.words (omega (arith, flat_long b, S.short, h))

-- ---- the loop
module _ (each : Env → List Atom → E (Unit {0})) (k : Counters) (c y count : ℕ) (x₀ : Four) where
  pub bodies_start : Good k → BodiedAt each k c y count x₀ x₀ k 0
  bodies_start g = record {
    within = omega arith;
    frame = refl;
    good = g;
    alike = alike_same k;
    so = λ env f t l s E N q. record { state = s; drawn = q; rest = refl };
  }

  pub waits_start : WaitsAt each k c y count x₀ x₀ k 0
  waits_start = record { so = λ env f t l s p E N q W. record { so = record { state = s; drawn = q; rest = refl }; waits = W } }

  -- a refusal
  pub waits_stop : (x : Four) (o : ℕ) → Bodied each k c y count x₀ x (Refused o) → BodiedWaits each k c y count x₀ x
  waits_stop x o B = record {
    waits = λ env f t l s p E N q W. waiting_no (λ (_ : Unit {0}). 0) k env.rooms x.clauses x.atoms x.deferrals x.scratch p (Refused o) o (for_each (each env) l s) refl (B.equal env f t l s E N q);
  }

  module _ (x : Four) (m : Counters) (i : ℕ) (A : BodiedAt each k c y count x₀ x m i) where
    pub bodies_end : count ≤ i → Bodied each k c y count x₀ x (Done m 0)
    unfolding for_each
    bodies_end h = record {
      equal = λ env f t l s E N q.
          let S = A.so env f t l s E N q in
          let z : drop i l ≡ [] = drop_of_length-le l {i = i} (omega (arith, h, N.long)) in
          let e : for_each (each env) l s ≡ ok tt S.state = S.rest ∙ ap (λ (o : Alternatives). for_each (each env) o S.state) z in
          ap (ok 0) S.drawn ∙ ap (shown (λ _. 0) k env.rooms) (sym e);
      frame = A.frame;
      good = A.good;
      kept = A.alike;
    }

    pub waits_end : count ≤ i → WaitsAt each k c y count x₀ x m i → BodiedWaits each k c y count x₀ x
    unfolding for_each
    waits_end h U = record {
      waits = λ env f t l s p E N q W.
          let S = U.so env f t l s p E N q W in
          let z : drop i l ≡ [] = drop_of_length-le l {i = i} (omega (arith, h, N.long)) in
          let e : for_each (each env) l s ≡ ok tt S.so.state = S.so.rest ∙ ap (λ (o : Alternatives). for_each (each env) o S.so.state) z in
          subst (Waiting x.scratch p) (sym e) (give S.waits);
    }

    module _ (lt : i < count) (H : Held x₀.scratch k.concepts k.members) (w1 : List ℕ) (r : ℕ) (W : Written x.scratch m 13500 c 0 y i w1 r) where
      stored : (env : Env) (f : ℕ) (t : Out) (l : Alternatives) (s : Out) → Encodes env x₀.scratch k c y count f t l s → Stored x.scratch 13500 (get_or l i []) w1 r
      stored env f t l s N =
          let M = encodes_kept env x₀.scratch x.scratch k m c y count f t l s A.frame A.alike H N in
          W.rule env f t l s M.roles M.first M.above M.begins M.fine M.encoded (omega (arith, lt, N.long))

      -- the numbers, for some env
      pub short_body : Sourced x₀.scratch k c y count → (13500 ≤ r) × (r - 13500 ≤ 256)
      short_body X = let S = stored X.env X.bound X.start X.alternatives X.end X.encodes in (omega (arith, S.next), omega (arith, S.next, S.short))

      pub written_frame : take (6 * 13500) w1 ≡ take (6 * 13500) x₀.scratch
      written_frame = W.kept.low ∙ A.frame

      -- the rule was run on it
      module _ (fit : 6 * (13500 + 256) ≤ length x.scratch) (T : SameSizes x₀ x) (n : ℕ) (en : n ≡ r - 13500) (x' : Four) (z : Answer)
          (D : Did (λ _. 0) 0 (λ env f b s. each env b s) m 13500 n (four w1 x.clauses x.atoms x.deferrals) x' z) where
        run_frame : take (6 * 13500) x'.scratch ≡ take (6 * 13500) x₀.scratch
        run_frame = frame_less (6 * 13500) (6 * (13500 + n)) w1 x'.scratch (omega arith) D.frame ∙ written_frame

        -- where it was run
        run_env : (env : Env) → EnvHeld env k x₀ → EnvHeld env m (four w1 x.clauses x.atoms x.deferrals)
        run_env env E = record {
          read = env_alike env k m w1 A.alike (env_kept env k x₀.scratch w1 13500 (omega arith) written_frame E.read);
          lent = lent_kept env.rooms x₀.clauses x₀.atoms x₀.deferrals x.clauses x.atoms x.deferrals T.clauses T.atoms T.deferrals E.lent;
        }

        run_hand : (b : List Atom) → Stored x.scratch 13500 b w1 r → InHand w1 13500 n b
        run_hand b B = hand_stored x.scratch w1 13500 r n b B en (omega (arith, fit, B.short))

        -- what it did, and what is left
        run_so : (env : Env) (f : ℕ) (t : Out) (l : Alternatives) (s : Out) → EnvHeld env k x₀ → Encodes env x₀.scratch k c y count f t l s → (S : BodiedSo each env k m x l s i)
            → after z x'.clauses x'.atoms x'.deferrals ≡ shown (λ _. 0) k env.rooms (each env (get_or l i []) S.state)
        run_so env f t l s E N S =
            D.equal env 0 (get_or l i []) S.state (omega arith) (run_env env E) (run_hand (get_or l i []) (stored env f t l s N))
            (drawn_alike k m env.rooms S.state x.clauses x.atoms x.deferrals A.alike S.drawn)
            ∙ shown_alike (λ _. 0) k m env.rooms (each env (get_or l i []) S.state) A.alike

        left : (env : Env) (l : Alternatives) (u : Out) → count ≡ length l → for_each (each env) (drop i l) u ≡ then (each env (get_or l i []) u) (λ _. for_each (each env) (drop (i + 1) l))
        unfolding for_each
        left env l u e =
            let p : i + 1 ≡ suc i = omega arith in
            let q : drop i l ≡ get_or l i [] ∷ drop (suc i) l = drop-cons l i [] (omega arith) in
            rw (p, q) refl

        go_on_lem : (env : Env) (l : Alternatives) (s : Out) (X : Res Out (Unit {0})) (v : Counters) (j : ℕ) → ◌≡◌ {A = Res Tables ℕ} (ok j (tables v x'.clauses x'.atoms x'.deferrals)) (shown (λ _. 0) k env.rooms X)
            → for_each (each env) l s ≡ then X (λ _. for_each (each env) (drop (i + 1) l)) → BodiedSo each env k v x' l s (i + 1)
        go_on_lem env l s (ok o u) v j e q = record { state = u; drawn = cc; rest = q }
        go_on_lem env l s (refused o) v j e q = absurd (let z : ◌≡◌ {A = ℕ} 0 1 = cc in omega arith)

        pub bodies_next : (v : Counters) (j : ℕ) → z ≡ Done v j → BodiedAt each k c y count x₀ x' v (i + 1)
        bodies_next v j e = record {
          within = omega arith;
          frame = run_frame;
          good = subst GoodAnswer e D.good;
          alike = alike_then k m v A.alike (subst (KeptAnswer m) e D.kept);
          so = λ env f t l s E N q.
              let S = A.so env f t l s E N q in
              go_on_lem env l s (each env (get_or l i []) S.state) v j
              (subst (λ (a : Answer). after a x'.clauses x'.atoms x'.deferrals ≡ shown (λ _. 0) k env.rooms (each env (get_or l i []) S.state)) e (run_so env f t l s E N S))
              (S.rest ∙ left env l S.state N.long);
        }

        pub bodies_stop : (o : ℕ) → z ≡ Refused o → Bodied each k c y count x₀ x' (Refused o)
        bodies_stop o e = record {
          equal = λ env f t l s E N q.
              let S = A.so env f t l s E N q in
              after_no (λ (_ : Unit {0}). 0) (λ (_ : Unit {0}). 0) k env.rooms x'.clauses x'.atoms x'.deferrals z o (each env (get_or l i []) S.state) (λ _. for_each (each env) (drop (i + 1) l)) e (run_so env f t l s E N S)
              ∙ ap (shown (λ _. 0) k env.rooms) (sym (S.rest ∙ left env l S.state N.long));
          frame = run_frame;
          good = tt;
          kept = tt;
        }

        -- the limits that wait after it
        module _ (Q : Queues 0 (λ env f b s. each env b s) m 13500 n (four w1 x.clauses x.atoms x.deferrals) x') where
          run_waits : (env : Env) (f : ℕ) (t : Out) (l : Alternatives) (s : Out) (p : List Limit) → EnvHeld env k x₀ → Encodes env x₀.scratch k c y count f t l s → (S : BodiedSo each env k m x l s i)
              → Waits x.scratch (p ++ S.state.limits) → Waiting x'.scratch p (each env (get_or l i []) S.state)
          run_waits env f t l s p E N S W =
              let B = stored env f t l s N in
              Q.waits env 0 (get_or l i []) S.state p (omega arith) (run_env env E) (run_hand (get_or l i []) B)
              (drawn_alike k m env.rooms S.state x.clauses x.atoms x.deferrals A.alike S.drawn)
              (waits_kept x.scratch w1 (p ++ S.state.limits) (stored_behind x.scratch w1 13500 r (get_or l i []) B (omega arith)) W)

          wait_on : (env : Env) (l : Alternatives) (s : Out) (p : List Limit) (X : Res Out (Unit {0})) (v : Counters) (j : ℕ) → ◌≡◌ {A = Res Tables ℕ} (ok j (tables v x'.clauses x'.atoms x'.deferrals)) (shown (λ _. 0) k env.rooms X)
              → for_each (each env) l s ≡ then X (λ _. for_each (each env) (drop (i + 1) l)) → Waiting x'.scratch p X → WaitsSo each env k v x' l s p (i + 1)
          wait_on env l s p (ok o u) v j e q (gives W) = record { so = record { state = u; drawn = cc; rest = q }; waits = W }
          wait_on env l s p (refused o) v j e q W = absurd (let z : ◌≡◌ {A = ℕ} 0 1 = cc in omega arith)

          pub waits_next : WaitsAt each k c y count x₀ x m i → (v : Counters) (j : ℕ) → z ≡ Done v j → WaitsAt each k c y count x₀ x' v (i + 1)
          waits_next U v j e = record {
            so = λ env f t l s p E N q W.
                let S = U.so env f t l s p E N q W in
                wait_on env l s p (each env (get_or l i []) S.so.state) v j
                (subst (λ (a : Answer). after a x'.clauses x'.atoms x'.deferrals ≡ shown (λ _. 0) k env.rooms (each env (get_or l i []) S.so.state)) e (run_so env f t l s E N S.so))
                (S.so.rest ∙ left env l S.so.state N.long) (run_waits env f t l s p E N S.so S.waits);
          }
