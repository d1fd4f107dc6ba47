-- What the parts of a disjoint pair's code promise.
use Rattle.std.specs.Prelude.{◌≡◌, Bool, List, ◌++◌, ℕ, ◌-◌, ◌<◌}
use Prim.{Unit}
use Rattle.words.specs.Words.{words}
use Rattle.ir.specs.declared.counters.Counters.{Counters}
use Rattle.ir.specs.Answer.{Answer}
use Rattle.ir.specs.Encoded.{Encoded}
use Rattle.ir.specs.declared.atom.Atom.{Atom}
use Rattle.rules.specs.Base.{◌>>=◌, for_each}
use Rattle.rules.specs.Pool.{Pool}
use Rattle.rules.specs.State.{Env, Out, E}
use Rattle.rules.specs.Antecedents.{in_hand, encode_by, encode_antecedent}
use Rattle.rules.specs.Axioms.{push_pair, pair_with}
use Rattle.pool.specs.Layout.{pool_of}
use Rattle.tables.specs.Drawn.{tables, show, shown, after, Lent}
use Rattle.tables.specs.Good.{Good, GoodAnswer, KeptAnswer}
use Rattle.hands.specs.Hands.{InHand, Four}
use Rattle.antecedents.specs.States.{Counted, summary}
use Rattle.antecedents.specs.Counts.{GoodEncoded}
use Rattle.axioms.specs.RoleAxioms.{hand_at}
use Rattle.axioms.specs.Bodies.{Encoding}
use Rattle.disjointness.specs.Turns.{Has, Turned}
use Rattle.disjointness.specs.Pairs.{unencoded}

-- the atoms in hand below top
pub record Before (w : List ℕ) (top : ℕ) (env : Env) : Type 0 where
  pub atoms : List Atom
  pub hand : InHand w hand_at (top - hand_at) atoms

-- a clause of two bodies
abbrev pub both : Env → List Atom → List Atom → E (Unit {0})
both env a b = push_pair env (a ++ b) (in_hand (a ++ b))

abbrev pub behind : (w : List ℕ) (top : ℕ) (env : Env) → Before w top env → List Atom → E (Unit {0})
behind w top env p b = both env p.atoms b

-- one for each alternative of the second
abbrev pub before : (w : List ℕ) (k : Counters) (b y others : ℕ) (env : Env) → Has env w k b y others → List Atom → E (Unit {0})
before w k b y others env p a = for_each (both env a) p.alternatives

-- push_with and push_pairs
abbrev pub PushedWith : Counters → (top b count y : ℕ) → Four → Four → Answer → Type 0
PushedWith k top b count y x x' r = Turned top (Before x.scratch top) (behind x.scratch top) k b y count x x' r

abbrev pub PushedPairs : Counters → (a count b others y : ℕ) → Four → Four → Answer → Type 0
PushedPairs k a count b others y x x' r = Turned hand_at (λ env. Has env x.scratch k b y others) (before x.scratch k b y others) k a 1 count x x' r

-- the deferral of a pair, or nothing; d, d': the deferral table
pub record GaveUp (k : Counters) (deferred : Bool) (d d' : List ℕ) (r : Answer) : Type 0 where
  pub equal : (env : Env) (s : Out) (c a : List ℕ) → Lent env.rooms c a d → tables k c a d ≡ show k env.rooms s → after r c a d' ≡ shown (λ _. 0) k env.rooms (unencoded env deferred s)
  pub good : Good k → GoodAnswer r
  pub kept : KeptAnswer k r

-- the first of a pair was encoded, beginning with these counters
pub record First (s : List ℕ) (a b : ℕ) (first : Encoded) : Type 0 where
  pub counters : Counters
  pub encoding : Encoding s counters
  pub begins : counters.next_var ≡ 1
  pub good : Good counters
  pub one : a < counters.concepts
  pub other : b < counters.concepts
  pub told : (env : Env) (f v : ℕ) (t : Out) → a < f → Counted counters t → first ≡ summary counters (encode_by env (pool_of (words s) counters.concepts) f a v t)
  pub fine : GoodEncoded first

-- pairRule, but for its restart
abbrev pub pair_from : Env → E (Unit {0}) → ℕ → ℕ → Pool → E (Unit {0})
pair_from env other a b pool = encode_antecedent env pool a 0 >>= (λ x. encode_antecedent env pool b 0 >>= (λ y. pair_with env other x y))
