-- What a call leaves of key marks and role map, and a rule from the state that another call left. Assumes nothing.
use Rattle.std.specs.Prelude.{◌≡◌, refl, List, ℕ, ◌+◌, ◌<◌, ◌≤◌, get_or}
use Rattle.std.proofs.Common.{ap, ◌∙◌, arith}
use Prim.{Unit, tt}
use Rattle.ir.specs.Options.{card_disjunct_atoms, equal_names}
use Rattle.ir.specs.Scratch.{keys_at, roles_at, stack_at}
use Rattle.ir.specs.declared.counters.Counters.{Counters}
use Rattle.ir.specs.Answer.{Answer}
use Rattle.ir.specs.Answer.{Done, Refused}
use Rattle.rules.specs.Base.{Res, ok, refused}
use Rattle.rules.specs.Inverse.{InverseCanon}
use Rattle.rules.specs.State.{Rooms, Env}
use Rattle.rules.specs.Axioms.{Clausifier, C}
use Rattle.pool.specs.Layout.{pool_of}
use Rattle.inverse.specs.Layout.{RolesHeld}
use Rattle.tables.specs.Good.{Alike}
use Rattle.hands.specs.Hands.{Four, four, EnvIn, EnvHeld}
use Rattle.axioms.specs.Wholes.{Whole, shown_whole, after_whole, standing, Untouched, Onward, OnwardAnswer, Clausified}
use Rattle.axioms.specs.WholeLaws.{Standing, drawn_same}

-- ---- key marks and role map
pub roles_untouched : (w w' : List ℕ) (canon : InverseCanon) → Untouched w w' → RolesHeld w canon → RolesHeld w' canon
roles_untouched w w' canon U R = record { mapped = λ r h. U.maps (roles_at + r) (omega arith) (omega arith) ∙ R.mapped r h }

pub env_untouched : (env : Env) (k k' : Counters) (w w' : List ℕ) → Untouched w w' → Onward k k' → EnvIn env k w → EnvIn env k' w'
env_untouched env k k' w w' U O E = record {
  nominals = O.nominals ∙ E.nominals;
  option = ap card_disjunct_atoms O.options ∙ E.option;
  names = ap equal_names O.options ∙ E.names;
  keys = record { marked = λ a l. rw (U.maps (keys_at + a) (omega arith) (omega arith)) (E.keys.marked a l) };
  no_keys = E.no_keys;
  roles = roles_untouched w w' env.inverse_canon U E.roles;
}

pub untouched_same : (w : List ℕ) → Untouched w w
untouched_same w = record { maps = λ j a b. refl; axioms = λ j a b. refl }

pub untouched_then : (w w' w'' : List ℕ) → Untouched w w' → Untouched w' w'' → Untouched w w''
untouched_then w w' w'' U Q = record { maps = λ j a b. Q.maps j a b ∙ U.maps j a b; axioms = λ j a b. Q.axioms j a b ∙ U.axioms j a b }

-- words from the key marks to the stack are as they were
pub untouched_kept : (w w' : List ℕ) → ((j : ℕ) → keys_at ≤ j → j < stack_at → get_or w' j 0 ≡ get_or w j 0) → Untouched w w'
untouched_kept w w' e = record { maps = λ j a b. e j a (omega arith); axioms = λ j a b. e j (omega arith) (omega arith) }

pub onward_same : (k : Counters) → Onward k k
onward_same k = record { nominals = refl; options = refl; concepts = omega arith }

pub onward_alike : (k k' : Counters) → Alike k k' → Onward k k'
onward_alike k k' A = record { nominals = A.nominals; options = A.options; concepts = omega (arith, A.concepts) }

pub onward_then : (k k' k'' : Counters) → Onward k k' → Onward k' k'' → Onward k k''
onward_then k k' k'' O P = record { nominals = P.nominals ∙ O.nominals; options = P.options ∙ O.options; concepts = omega (arith, O.concepts, P.concepts) }

pub onward_answer : (k k' : Counters) (r : Answer) → Onward k k' → OnwardAnswer k' r → OnwardAnswer k r
onward_answer k k' (Done l i) O P = onward_then k k' l O P
onward_answer k k' (Refused e) O P = tt

-- ---- from a state that stands behind another call
pub stood : (k : Counters) (x : Four) (z : Clausifier) → pool_of x.scratch k.concepts ≡ z.pool → standing k x z.out ≡ z
stood k x z p = rw p refl

-- what a call did from there, of the state z
pub stands_on : (rule : Env → C (Unit {0})) (k l : Counters) (w w1 c a d : List ℕ) (y : Four) (r : Answer) → Untouched w w1 → Onward k l → Clausified rule l (four w1 c a d) y r
    → (env : Env) (z : Clausifier) → EnvHeld env k (four w c a d) → Standing l env.rooms (four w1 c a d) z → after_whole r y ≡ shown_whole (λ _. 0) l env.rooms (rule env z)
stands_on rule k l w w1 c a d y r U O K env z E S =
    K.equal env z.out (record { read = env_untouched env k l w w1 U O E.read; lent = E.lent }) S.tables
    ∙ ap (λ (u : Clausifier). shown_whole (λ _. 0) l env.rooms (rule env u)) (stood l (four w1 c a d) z S.pool)

-- ---- answers drawn by counters of the same deck
pub shown_same : {A : Type 0} (value : A → ℕ) (k l : Counters) (rooms : Rooms) → Onward k l → (X : Res Clausifier A) → shown_whole value l rooms X ≡ shown_whole value k rooms X
shown_same value k l rooms O (ok b u) = ap (λ (x : Whole). ok (value b) x) (drawn_same k l rooms O.nominals O.options u)
shown_same value k l rooms O (refused n) = refl

-- a rule that answers the same
pub clausified_is : (rule rule' : Env → C (Unit {0})) (k : Counters) (x y : Four) (r : Answer) → ((env : Env) (z : Clausifier) → rule env z ≡ rule' env z) → Clausified rule k x y r → Clausified rule' k x y r
clausified_is rule rule' k x y r e K = record {
  equal = λ env s E t. K.equal env s E t ∙ ap (shown_whole (λ _. 0) k env.rooms) (e env (standing k x s));
  untouched = K.untouched;
  onward = K.onward;
}
