-- What is done after encode_antecedent, with the alternatives or without. Assumes nothing.
use Rattle.std.specs.Prelude.{◌≡◌, refl, List, ℕ, suc}
use Rattle.std.proofs.Common.{sym, subst, ◌∙◌, arith}
use Rattle.std.proofs.Math.Path.{ap}
use Rattle.std.proofs.Math.Option.{Option, none, some}
use Prim.{Unit, tt}
use Rattle.ir.specs.Counts.{vars_restarted}
use Rattle.ir.specs.declared.counters.Counters.{Counters}
use Rattle.ir.specs.Answer.{Answer}
use Rattle.ir.specs.Answer as Answers
use Rattle.ir.specs.Encoded.{Encoded}
use Rattle.ir.specs.Encoded.{Found, Unsupported, Refused}
use Rattle.ir.specs.declared.atom.Atom.{Atom}
use Rattle.rules.specs.Base.{Res, ok, refused, then, for_each}
use Rattle.rules.specs.Inverse.{InverseCanon}
use Rattle.rules.specs.Post.{Post, gives}
use Rattle.rules.specs.State.{Env, Out, E, restarted, restart_vars}
use Rattle.rules.specs.Antecedents.{Alternatives, encode_by, encode_antecedent}
use Rattle.pool.specs.Layout.{pool_of}
use Rattle.inverse.specs.Layout.{RolesHeld}
use Rattle.tables.specs.Drawn.{tables, show, shown, after, Lent}
use Rattle.tables.specs.Good.{Good, GoodAnswer, Alike, KeptAnswer}
use Rattle.hands.specs.Hands.{Four, four, EnvIn, Did}
use Rattle.leaves.specs.StepLaws.{alike_then, shown_alike, kept_then, env_alike, show_alike, visits_are, limit_is, var_is_lem}
use Rattle.antecedents.specs.States.{Counted, varied, summary}
use Rattle.antecedents.specs.PickLaws.{fine_counted}
use Rattle.axioms.specs.RoleLaws.{alike_restart, drawn_restarted}
use Rattle.axioms.specs.Bodies.{Encodes, Sourced, Bodied, encoded_then}
use Rattle.axioms.specs.QuietLaws.{Quiet, encode_quiet, drawn_quiet}
use Rattle.axioms.specs.MemberLaws.{EncodedBy, found_is, alike_varied, AlikeEncoded, encoded_alike, found_source}

-- concept m has alternatives, or none, and the tables of n show the state that the rule leaves
pub record FoundShown (env : Env) (k n : Counters) (m count : ℕ) (w c a d : List ℕ) (s : Out) : Type 0 where
  pub alternatives : Alternatives
  pub end : Out
  pub is : encode_antecedent env (pool_of w k.concepts) m 0 s ≡ ok (some alternatives) end
  pub drawn : tables n c a d ≡ show n env.rooms end
  pub encodes : Encodes env w n m k.next_var count (suc m) s alternatives end

pub record NoneShown (env : Env) (k n : Counters) (m : ℕ) (w c a d : List ℕ) (s : Out) : Type 0 where
  pub end : Out
  pub is : encode_antecedent env (pool_of w k.concepts) m 0 s ≡ ok none end
  pub drawn : tables n c a d ≡ show n env.rooms end

-- ---- the state after it
module _ (env : Env) (k : Counters) (m : ℕ) (w c a d : List ℕ) (s : Out) (r : Encoded) (C : EncodedBy w k m r) (t : tables k c a d ≡ show k env.rooms s) where
  counted : Counted k s
  counted = record { visits = visits_are k env.rooms s c a d t; limit = limit_is k env.rooms s c a d t; vars = var_is_lem k env.rooms s c a d t }

  told : r ≡ summary k (encode_antecedent env (pool_of w k.concepts) m 0 s)
  told = C env (suc m) 0 s (omega arith) counted

  drawn_after : (n : Counters) (o : Option Alternatives) (u : Out) → n ≡ varied k u → Post (λ _ v. Quiet s v) (ok o u) → tables n c a d ≡ show n env.rooms u
  drawn_after n o u q (gives Q) =
      subst (λ (y : Counters). tables y c a d ≡ show k env.rooms u) (sym q) (drawn_quiet k env.rooms s u c a d Q t) ∙ sym (show_alike k n env.rooms u (alike_varied k n u q))

  quiet : Post (λ _ v. Quiet s v) (encode_antecedent env (pool_of w k.concepts) m 0 s)
  quiet = encode_quiet env (pool_of w k.concepts) (suc m) m 0 s

  pub found_shown : (n : Counters) (count j : ℕ) → r ≡ Found n count j → Good k → EnvIn env k w → FoundShown env k n m count w c a d s
  found_shown n count j q g E =
      let F = found_is k n count j (encode_antecedent env (pool_of w k.concepts) m 0 s) (sym q ∙ told) in
      let A = alike_varied k n F.end F.counters in
      record {
        alternatives = F.alternatives;
        end = F.end;
        is = F.is;
        drawn = drawn_after n (some F.alternatives) F.end F.counters (subst (Post (λ _ v. Quiet s v)) F.is quiet);
        encodes = record {
          roles = E.roles;
          first = A.nominals ∙ E.nominals;
          above = omega arith;
          begins = counted.vars;
          fine = fine_counted k s g counted;
          encoded = ap (λ (p : ℕ). encode_by env (pool_of w p) (suc m) m 0 s) A.concepts ∙ F.is;
          long = F.long;
        };
      }

  none_by : (n : Counters) (X : Res Out (Option Alternatives)) → encode_antecedent env (pool_of w k.concepts) m 0 s ≡ X → Post (λ _ v. Quiet s v) X → Unsupported n ≡ summary k X → NoneShown env k n m w c a d s
  none_by n (ok (some l) u) i Q e = absurd (let z : ◌≡◌ {A = ℕ} 0 1 = cc in omega arith)
  none_by n (ok none u) i Q e = let q : n ≡ varied k u = cc in record { end = u; is = i; drawn = drawn_after n none u q Q }
  none_by n (refused x) i Q e = absurd (let z : ◌≡◌ {A = ℕ} 0 1 = cc in omega arith)

  pub none_shown : (n : Counters) → r ≡ Unsupported n → NoneShown env k n m w c a d s
  none_shown n q = none_by n (encode_antecedent env (pool_of w k.concepts) m 0 s) refl quiet (sym q ∙ told)

  refused_by : (e : ℕ) (X : Res Out (Option Alternatives)) → Refused e ≡ summary k X → X ≡ refused e
  refused_by e (ok (some l) u) z = absurd (let z : ◌≡◌ {A = ℕ} 0 1 = cc in omega arith)
  refused_by e (ok none u) z = absurd (let z : ◌≡◌ {A = ℕ} 0 1 = cc in omega arith)
  refused_by e (refused x) z = let y : x ≡ e = cc in ap refused y

  pub refused_is : (e : ℕ) → r ≡ Refused e → encode_antecedent env (pool_of w k.concepts) m 0 s ≡ refused e
  refused_is e q = refused_by e (encode_antecedent env (pool_of w k.concepts) m 0 s) (sym q ∙ told)

-- ---- the variables begin anew before it
module _ (k k1 : Counters) (m : ℕ) (w : List ℕ) (r : Encoded) (q1 : k1 ≡ vars_restarted k) (C : EncodedBy w k1 m r) where
  pub found_alike : (n : Counters) (count j : ℕ) → r ≡ Found n count j → Alike k n
  found_alike n count j q = alike_then k k1 n (alike_restart k k1 q1) (subst (AlikeEncoded k1) q (encoded_alike w k1 m r C))

  pub none_alike : (n : Counters) → r ≡ Unsupported n → Alike k n
  none_alike n q = alike_then k k1 n (alike_restart k k1 q1) (subst (AlikeEncoded k1) q (encoded_alike w k1 m r C))

  pub found_sourced : (canon : InverseCanon) → RolesHeld w canon → Good k1 → (n : Counters) (count j : ℕ) → r ≡ Found n count j → Sourced w n m 1 count
  found_sourced canon R g n count j q = subst (λ (y : ℕ). Sourced w n m y count) (ap (λ (x : Counters). x.next_var) q1) (found_source w k1 n m count j canon r R g C q)

  -- and `rest` is done with what it answers
  module _ (c a d : List ℕ) (rest : Env → Option Alternatives → E (Unit {0})) where
    -- the rule, by its encoding
    rule_is : (env : Env) (s : Out) (X : Res Out (Option Alternatives)) → encode_antecedent env (pool_of w k1.concepts) m 0 (restarted s) ≡ X
        → shown (λ _. 0) k env.rooms (then X (λ o. rest env o)) ≡ shown (λ _. 0) k env.rooms (encoded_then env (pool_of w k.concepts) m (rest env) s)
    unfolding restart_vars
    rule_is env s X e =
        ap (λ (Y : Res Out (Option Alternatives)). shown (λ (_ : Unit {0}). 0) k env.rooms (then Y (λ o. rest env o)))
        (sym e ∙ ap (λ (p : ℕ). encode_antecedent env (pool_of w p) m 0 (restarted s)) (alike_restart k k1 q1).concepts)

    -- with the alternatives; for each, what the call did
    pub encoded_found : (each : Env → List Atom → E (Unit {0})) → ((env : Env) (l : Alternatives) (s : Out) → rest env (some l) s ≡ for_each (each env) l s) → (n : Counters) (count j : ℕ) (y : Four) (z : Answer) → r ≡ Found n count j → Good k1
        → Bodied each n m 1 count (four w c a d) y z → Did (λ _. 0) 0 (λ env f b s. encoded_then env (pool_of w k.concepts) m (rest env) s) k 13500 0 (four w c a d) y z
    encoded_found each some_is n count j y z q g B =
        let A = found_alike n count j q in
        record {
          equal = λ env f b s lo E i t.
              let t1 = drawn_restarted k k1 env.rooms s c a d q1 t in
              let F = found_shown env k1 m w c a d (restarted s) r C t1 n count j q g (env_alike env k k1 w (alike_restart k k1 q1) E.read) in
              let N = subst (λ (v : ℕ). Encodes env w n m v count (suc m) (restarted s) F.alternatives F.end) (ap (λ (x : Counters). x.next_var) q1) F.encodes in
              B.equal env (suc m) (restarted s) F.alternatives F.end (record { read = env_alike env k n w A E.read; lent = E.lent }) N F.drawn
              ∙ shown_alike (λ _. 0) k n env.rooms (for_each (each env) F.alternatives F.end) A
              ∙ ap (shown (λ _. 0) k env.rooms) (sym (some_is env F.alternatives F.end))
              ∙ rule_is env s (ok (some F.alternatives) F.end) F.is;
          frame = B.frame;
          good = B.good;
          kept = kept_then k n z A B.kept;
        }

    -- without; only the deferral table changes
    pub encoded_none : (n : Counters) (d' : List ℕ) (z : Answer) → r ≡ Unsupported n → GoodAnswer z → KeptAnswer n z
        → ((env : Env) (s : Out) (c a : List ℕ) → Lent env.rooms c a d → tables n c a d ≡ show n env.rooms s → after z c a d' ≡ shown (λ _. 0) n env.rooms (rest env none s))
        → Did (λ _. 0) 0 (λ env f b s. encoded_then env (pool_of w k.concepts) m (rest env) s) k 13500 0 (four w c a d) (four w c a d') z
    encoded_none n d' z q g kept P =
        let A = none_alike n q in
        record {
          equal = λ env f b s lo E i t.
              let N = none_shown env k1 m w c a d (restarted s) r C (drawn_restarted k k1 env.rooms s c a d q1 t) n q in
              P env N.end c a E.lent N.drawn ∙ shown_alike (λ _. 0) k n env.rooms (rest env none N.end) A ∙ rule_is env s (ok none N.end) N.is;
          frame = refl;
          good = g;
          kept = kept_then k n z A kept;
        }

    pub encoded_refused : (e : ℕ) → r ≡ Refused e → Did (λ _. 0) 0 (λ env f b s. encoded_then env (pool_of w k.concepts) m (rest env) s) k 13500 0 (four w c a d) (four w c a d) (Answers.Refused e)
    encoded_refused e q = record {
      equal = λ env f b s lo E i t. rule_is env s (refused e) (refused_is env k1 m w c a d (restarted s) r C (drawn_restarted k k1 env.rooms s c a d q1 t) e q);
      frame = refl;
      good = tt;
      kept = tt;
    }
