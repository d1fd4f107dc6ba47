-- A disjoint union: its pairs, its members, its covering. Assumes nothing.
use Rattle.std.specs.Prelude.{◌≡◌, false, ℕ}
use Rattle.std.proofs.Math.Path.{refl, ap}
use Rattle.std.proofs.Common.{sym, ◌∙◌, arith}
use mathlib.Core.List.{List, []}
use Prim.{Unit}
use Rattle.words.specs.Words.{words}
use Rattle.ir.specs.Counts.{vars_restarted}
use Rattle.ir.specs.declared.counters.Counters.{Counters}
use Rattle.ir.specs.Answer.{Answer}
use Rattle.ir.specs.Answer.{Done, Refused}
use Rattle.rules.specs.Base.{Res, ok, refused, then, ◌>>◌}
use Rattle.rules.specs.Concept.{DisjointUnion}
use Rattle.rules.specs.State.{Env, Out, restarted, restart_vars}
use Rattle.rules.specs.Axioms.{Clausifier, C, back_out, in_out, later_pairs, cover, clausify_axiom}
use Rattle.pool.specs.Layout.{pool_of}
use Rattle.tables.specs.Good.{Alike}
use Rattle.hands.specs.Hands.{Four, four}
use Rattle.axioms.specs.RoleLaws.{alike_restart, drawn_restarted, good_restart}
use Rattle.axioms.specs.BodyLaws.{encoding_kept}
use Rattle.axioms.specs.Wholes.{Clausifying, Clausified}
use Rattle.lists.specs.Turns.{SameLong, DidTurn, Turned}
use Rattle.lists.specs.TurnLaws.{turned_start, turned_moved, turned_step, turned_halt}
use Rattle.lists.specs.ListTurns.{each_of}
use Rattle.lists.specs.CallLaws.{pair_of, member_of}

pub clausifying_restart : (s : List ℕ) (k n : Counters) → n ≡ vars_restarted k → Clausifying s k → Clausifying s n
clausifying_restart s k n q G = record { encoding = encoding_kept s s k n refl refl (alike_restart k n q) G.encoding; good = good_restart k n q G.good; space = G.space; queue = G.queue }

module _ (class : ℕ) (l : List ℕ) where
  abbrev pub union_rule : Env → C (Unit {0})
  union_rule env = clausify_axiom env (DisjointUnion class l)

  -- what is left after the pairs, and after the members
  abbrev pub cover_rule : Env → C (Unit {0})
  cover_rule env = in_out (λ pool. restart_vars >> cover env pool class l [])

  abbrev pub members_rule : Env → C (Unit {0})
  members_rule env = each_of (member_of class) l env >> cover_rule env

  after_pairs : (env : Env) (z : Clausifier) → union_rule env z ≡ then (each_of (pair_of false) (later_pairs l) env z) (λ _. members_rule env)
  unfolding clausify_axiom
  after_pairs env z = refl

  module _ (k : Counters) (s c a d : List ℕ) (G : Clausifying s k) (s' c' a' d' : List ℕ) (r : Answer) (D : DidTurn (each_of (pair_of false) (later_pairs l)) k s c a d s' c' a' d' r) where
    begun : Turned union_rule union_rule k k (four (words s) c a d) s c a d
    begun = turned_start union_rule k s c a d G

    pub pairs_done : SameLong (four (words s) c a d) (four (words s') c' a' d') → (m : Counters) (j : ℕ) → r ≡ Done m j → Turned union_rule members_rule k m (four (words s) c a d) s' c' a' d'
    pairs_done L m j e = turned_step union_rule union_rule k k (four (words s) c a d) s c a d begun s' c' a' d' r (each_of (pair_of false) (later_pairs l)) members_rule after_pairs D L m j e

    pub pairs_refused : (n : ℕ) → r ≡ Refused n → Clausified union_rule k (four (words s) c a d) (four (words s') c' a' d') (Refused n)
    pairs_refused n e = turned_halt union_rule union_rule k k (four (words s) c a d) s c a d begun s' c' a' d' r (each_of (pair_of false) (later_pairs l)) members_rule after_pairs D n e

  -- the list is p as the members are read
  module _ (k m : Counters) (x : Four) (s c a d : List ℕ) (T : Turned union_rule members_rule k m x s c a d) (p : List ℕ) (same : p ≡ l)
      (s' c' a' d' : List ℕ) (r : Answer) (D : DidTurn (each_of (member_of class) p) m s c a d s' c' a' d' r) where
    after_members : (env : Env) (z : Clausifier) → members_rule env z ≡ then (each_of (member_of class) p env z) (λ _. cover_rule env)
    after_members env z = ap (λ (t : List ℕ). then (each_of (member_of class) t env z) (λ _. cover_rule env)) (sym same)

    pub members_done : SameLong (four (words s) c a d) (four (words s') c' a' d') → (m' : Counters) (j : ℕ) → r ≡ Done m' j → Turned union_rule cover_rule k m' x s' c' a' d'
    members_done L m' j e = turned_step union_rule members_rule k m x s c a d T s' c' a' d' r (each_of (member_of class) p) cover_rule after_members D L m' j e

    pub members_refused : (n : ℕ) → r ≡ Refused n → Clausified union_rule k x (four (words s') c' a' d') (Refused n)
    members_refused n e = turned_halt union_rule members_rule k m x s c a d T s' c' a' d' r (each_of (member_of class) p) cover_rule after_members D n e

  -- and p as it is covered
  module _ (k m n : Counters) (x : Four) (s c a d : List ℕ) (T : Turned union_rule cover_rule k m x s c a d) (q : n ≡ vars_restarted m) (p : List ℕ) (same : p ≡ l) where
    abbrev pub covering : Env → C (Unit {0})
    covering env = in_out (λ pool. cover env pool class p [])

    abbrev restart : Env → Clausifier → Clausifier
    restart env z = record { pool = z.pool; out = restarted z.out }

    after_restart : (env : Env) (z : Clausifier) → cover_rule env z ≡ covering env (restart env z)
    unfolding restart_vars
    after_restart env z = again (cover env z.pool class l [] (restarted z.out)) ∙ ap (λ (t : List ℕ). in_out (λ pool. cover env pool class t []) (restart env z)) (sym same)
      where
        again : (u : Res Out (Unit {0})) → back_out z u ≡ back_out (restart env z) u
        again (ok b o) = refl
        again (refused e) = refl

    like : Alike m n
    like = alike_restart m n q

    pub restart_done : Turned union_rule covering k n x s c a d
    restart_done = turned_moved union_rule cover_rule k m x s c a d T covering restart n
        (record { nominals = like.nominals; options = like.options; concepts = omega (arith, like.concepts) })
        (clausifying_restart s m n q T.clausifying)
        (λ env z S. record { pool = ap (pool_of (words s)) like.concepts ∙ S.pool; tables = drawn_restarted m n env.rooms z.out c a d q S.tables })
        after_restart
