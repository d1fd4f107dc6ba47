-- One call after another. Assumes nothing.
use Rattle.std.specs.Prelude.{◌≡◌, refl, List, ℕ, length}
use Rattle.std.proofs.Common.{sym, ap, subst, ◌∙◌, arith}
use Prim.{Unit, tt}
use Rattle.words.specs.Words.{words}
use Rattle.words.specs.Laws.{words_long}
use Rattle.ir.specs.declared.counters.Counters.{Counters}
use Rattle.ir.specs.Answer.{Answer}
use Rattle.ir.specs.Answer.{Done, Refused}
use Rattle.rules.specs.Base.{Res, ok, refused, then}
use Rattle.rules.specs.Pool.{Pool}
use Rattle.rules.specs.State.{Rooms, Env, Out, E}
use Rattle.rules.specs.Axioms.{Clausifier, C, in_out}
use Rattle.pool.specs.Layout.{pool_of}
use Rattle.pool.specs.Held.{Held}
use Rattle.pool.specs.Answers.{sized}
use Rattle.pool.specs.AnswerLaws.{sized_same}
use Rattle.tables.specs.Drawn.{tables, show, Sized}
use Rattle.tables.specs.DrawnLaws.{show_same}
use Rattle.hands.specs.Hands.{Four, four, EnvHeld, Did}
use Rattle.leaves.specs.StepLaws.{lent_kept}
use Rattle.axioms.specs.RoleAxioms.{hand_at}
use Rattle.axioms.specs.Wholes.{Whole, whole, drawn, shown_whole, after_whole, standing, Clausifying, ClausifyingAfter, Untouched, Onward, Clausified}
use Rattle.axioms.specs.WholeLaws.{Standing, drawn_same, did_clausified, clausifying_after}
use Rattle.axioms.specs.OnwardLaws.{env_untouched, untouched_same, untouched_then, onward_same, onward_then, onward_answer, shown_same}
use Rattle.lists.specs.Turns.{SameLong, Answered, Passed, DidTurn, Turned}

-- ---- what a call leaves as it was
pub long_same : (x : Four) → SameLong x x
long_same x = record { clauses = refl; atoms = refl; deferrals = refl }

pub long_then : (x y z : Four) → SameLong x y → SameLong y z → SameLong x z
long_then x y z A B = record { clauses = B.clauses ∙ A.clauses; atoms = B.atoms ∙ A.atoms; deferrals = B.deferrals ∙ A.deferrals }

-- tables of as many bytes
pub long_words : (w w' : List ℕ) (c a d c' a' d' : List ℕ) → length c' ≡ length c → length a' ≡ length a → length d' ≡ length d
    → SameLong (four w (words c) (words a) (words d)) (four w' (words c') (words a') (words d'))
long_words w w' c a d c' a' d' ec ea ed = record { clauses = words_long c c' ec; atoms = words_long a a' ea; deferrals = words_long d d' ed }

pub long_words_3 : (w w' : List ℕ) (c a d c' a' : List ℕ) → length c' ≡ length c → length a' ≡ length a → SameLong (four w (words c) (words a) d) (four w' (words c') (words a') d)
long_words_3 w w' c a d c' a' ec ea = record { clauses = words_long c c' ec; atoms = words_long a a' ea; deferrals = refl }

pub sized_kept : (c a d c' a' d' : ℕ) → c' ≡ c → a' ≡ a → d' ≡ d → Sized c a d → Sized c' a' d'
sized_kept c a d c' a' d' ec ea ed S = rw (ec, ea, ed) S

pub env_turned : (env : Env) (k m : Counters) (x y : Four) → Untouched x.scratch y.scratch → Onward k m → SameLong x y → EnvHeld env k x → EnvHeld env m y
env_turned env k m x y U O L E = record {
  read = env_untouched env k m x.scratch y.scratch U O E.read;
  lent = lent_kept env.rooms x.clauses x.atoms x.deferrals y.clauses y.atoms y.deferrals L.clauses L.atoms L.deferrals E.lent;
}

-- ---- a state and the answer that it stands for
pub own_state : (m : Counters) (rooms : Rooms) (y : Four) (z : Clausifier) → Standing m rooms y z → standing m y z.out ≡ z
own_state m rooms y z S = ap (λ (p : Pool). record { pool = p; out = z.out }) S.pool

-- drawn by k
pub standing_drawn : (k m : Counters) (rooms : Rooms) (y : Four) (z : Clausifier) → Held y.scratch m.concepts m.members → Onward k m → Standing m rooms y z
    → whole (pool_of y.scratch m.concepts) (tables m y.clauses y.atoms y.deferrals) ≡ drawn k rooms z
standing_drawn k m rooms y z H O S =
    let u : sized m z.pool ≡ m = ap (sized m) (sym S.pool) ∙ sized_same y.scratch m H in
    let d : drawn k rooms z ≡ drawn m rooms z = sym (drawn_same k m rooms O.nominals O.options z) in
    rw (d, u, S.pool, S.tables) refl

-- the state after an answer
pub whole_answered : (m m' : Counters) (j : ℕ) (rooms : Rooms) (y' : Four) (r : Res Clausifier (Unit {0})) → after_whole (Done m' j) y' ≡ shown_whole (λ _. 0) m rooms r → Answered m' rooms y' r
whole_answered m m' j rooms y' (ok tt z) e =
    let p : pool_of y'.scratch m'.concepts ≡ z.pool = cc in
    let t : tables m' y'.clauses y'.atoms y'.deferrals ≡ show (sized m z.pool) rooms z.out = cc in
    record { state = z; is = refl; stands = record { pool = p; tables = show_same (sized m z.pool) m' rooms z.out y'.clauses y'.atoms y'.deferrals t } }
whole_answered m m' j rooms y' (refused n) e = absurd (let z : ◌≡◌ {A = ℕ} 0 1 = cc in omega arith)

pub refused_is : (m : Counters) (rooms : Rooms) (n : ℕ) (r : Res Clausifier (Unit {0})) → refused n ≡ shown_whole (λ _. 0) m rooms r → r ≡ refused n
refused_is m rooms n (ok a z) e = absurd (let z : ◌≡◌ {A = ℕ} 0 1 = cc in omega arith)
refused_is m rooms n (refused o) e = cc

-- ---- on the way from `begin` at (k, x)
pub passed_start : {R : Type 0} (begin : Env → Clausifier → R) (k : Counters) (x : Four) → Passed begin begin k k x x
passed_start begin k x = record {
  so = λ env s E t. record { state = standing k x s; stands = record { pool = refl; tables = t }; same = refl };
  untouched = untouched_same x.scratch;
  onward = onward_same k;
  long = long_same x;
}

module _ {R : Type 0} (begin rest : Env → Clausifier → R) (k m : Counters) (x y : Four) (P : Passed begin rest k m x y) where
  pub passed_env : (env : Env) → EnvHeld env k x → EnvHeld env m y
  passed_env env E = env_turned env k m x y P.untouched P.onward P.long E

  -- the same, said otherwise
  pub passed_skip : (rest' : Env → Clausifier → R) → ((env : Env) (z : Clausifier) → rest env z ≡ rest' env z) → Passed begin rest' k m x y
  passed_skip rest' f = record {
    so = λ env s E t. let S = P.so env s E t in record { state = S.state; stands = S.stands; same = S.same ∙ f env S.state };
    untouched = P.untouched;
    onward = P.onward;
    long = P.long;
  }

  -- a step of the counters alone
  pub passed_moved : (rest' : Env → Clausifier → R) (move : Env → Clausifier → Clausifier) (m' : Counters) → Onward m m'
      → ((env : Env) (z : Clausifier) → Standing m env.rooms y z → Standing m' env.rooms y (move env z))
      → ((env : Env) (z : Clausifier) → rest env z ≡ rest' env (move env z)) → Passed begin rest' k m' x y
  passed_moved rest' move m' O g f = record {
    so = λ env s E t. let S = P.so env s E t in record { state = move env S.state; stands = g env S.state S.stands; same = S.same ∙ f env S.state };
    untouched = P.untouched;
    onward = onward_then k m m' P.onward O;
    long = P.long;
  }

  -- then a call
  module _ (one : Env → C (Unit {0})) (y' : Four) where
    -- its rule's answer
    pub called : (r : Answer) → Clausified one m y y' r → (env : Env) (z : Clausifier) → EnvHeld env k x → Standing m env.rooms y z → after_whole r y' ≡ shown_whole (λ _. 0) m env.rooms (one env z)
    called r D env z E S =
        D.equal env z.out (passed_env env E) S.tables ∙ ap (λ (u : Clausifier). shown_whole (λ _. 0) m env.rooms (one env u)) (own_state m env.rooms y z S)

    pub passed_next : (rest' : Env → Clausifier → R) (m' : Counters) (j : ℕ) → SameLong y y' → Clausified one m y y' (Done m' j)
        → ((env : Env) (z z' : Clausifier) → one env z ≡ ok tt z' → rest env z ≡ rest' env z') → Passed begin rest' k m' x y'
    passed_next rest' m' j L D f = record {
      so = λ env s E t.
          let S = P.so env s E t in
          let A = whole_answered m m' j env.rooms y' (one env S.state) (called (Done m' j) D env S.state E S.stands) in
          record { state = A.state; stands = A.stands; same = S.same ∙ f env S.state A.state A.is };
      untouched = untouched_then x.scratch y.scratch y'.scratch P.untouched D.untouched;
      onward = onward_then k m m' P.onward D.onward;
      long = long_then x y y' P.long L;
    }

    pub passed_refused : (e : ℕ) (a : R) → Clausified one m y y' (Refused e) → ((env : Env) (z : Clausifier) → one env z ≡ refused e → rest env z ≡ a)
        → (env : Env) (s : Out) → EnvHeld env k x → tables k x.clauses x.atoms x.deferrals ≡ show k env.rooms s → begin env (standing k x s) ≡ a
    passed_refused e a D f env s E t =
        let S = P.so env s E t in
        S.same ∙ f env S.state (refused_is m env.rooms e (one env S.state) (called (Refused e) D env S.state E S.stands))

-- the same where `rest` is one of the clausifier's rules
module _ (begin rest : Env → C (Unit {0})) (k m : Counters) (x y : Four) (P : Passed begin rest k m x y) where
  module _ (one rest' : Env → C (Unit {0})) (y' : Four) (f : (env : Env) (z : Clausifier) → rest env z ≡ then (one env z) (λ _. rest' env)) where
    pub passed_step : (m' : Counters) (j : ℕ) → SameLong y y' → Clausified one m y y' (Done m' j) → Passed begin rest' k m' x y'
    passed_step m' j L D = passed_next begin rest k m x y P one y' rest' m' j L D (λ env z z' e. f env z ∙ ap (λ (r : Res Clausifier (Unit {0})). then r (λ _. rest' env)) e)

    pub passed_stop : (e : ℕ) → Clausified one m y y' (Refused e) → Clausified begin k x y' (Refused e)
    passed_stop e D = record {
      equal = λ env s E t.
          ap (shown_whole (λ _. 0) k env.rooms)
          (sym (passed_refused begin rest k m x y P one y' e (refused e) D (λ env z q. f env z ∙ ap (λ (r : Res Clausifier (Unit {0})). then r (λ _. rest' env)) q) env s E t));
      untouched = untouched_then x.scratch y.scratch y'.scratch P.untouched D.untouched;
      onward = tt;
    }

  pub passed_last : (y' : Four) (r : Answer) → Clausified rest m y y' r → Clausified begin k x y' r
  passed_last y' r D = record {
    equal = λ env s E t.
        let S = P.so env s E t in
        called begin rest k m x y P rest y' r D env S.state E S.stands ∙ shown_same (λ _. 0) k m env.rooms P.onward (rest env S.state) ∙ ap (shown_whole (λ _. 0) k env.rooms) (sym S.same);
    untouched = untouched_then x.scratch y.scratch y'.scratch P.untouched D.untouched;
    onward = onward_answer k m r P.onward D.onward;
  }

  pub passed_end : Held y.scratch m.concepts m.members → ((env : Env) (z : Clausifier) → rest env z ≡ ok tt z) → Clausified begin k x y (Done m 0)
  passed_end H f = record {
    equal = λ env s E t.
        let S = P.so env s E t in
        ap (λ (u : Whole). ok 0 u) (standing_drawn k m env.rooms y S.state H P.onward S.stands) ∙ ap (shown_whole (λ _. 0) k env.rooms) (sym (S.same ∙ f env S.state));
    untouched = P.untouched;
    onward = P.onward;
  }

-- ---- a call that only reads the pool
pub did_turn : (rule : Env → Pool → E (Unit {0})) (k : Counters) (s c a d s' c' a' d' : List ℕ) (r : Answer) → Clausifying s k → length s' ≡ length s
    → Did (λ _. 0) 0 (λ env f b u. rule env (pool_of (words s) k.concepts) u) k hand_at 0 (four (words s) c a d) (four (words s') c' a' d') r → DidTurn (λ env. in_out (rule env)) k s c a d s' c' a' d' r
did_turn rule k s c a d s' c' a' d' r G l D = (
  did_clausified rule k (four (words s) c a d) (four (words s') c' a' d') r G.encoding.reading.ready.held D,
  clausifying_after s s' k r G l D.frame D.good D.kept,
)

-- ---- on the way, with scratch's bytes
pub turned_start : {R : Type 0} (begin : Env → Clausifier → R) (k : Counters) (s c a d : List ℕ) → Clausifying s k → Turned begin begin k k (four (words s) c a d) s c a d
turned_start begin k s c a d G = record { passed = passed_start begin k (four (words s) c a d); clausifying = G }

module _ {R : Type 0} (begin rest : Env → Clausifier → R) (k m : Counters) (x : Four) (s c a d : List ℕ) (T : Turned begin rest k m x s c a d) where
  pub turned_skip : (rest' : Env → Clausifier → R) → ((env : Env) (z : Clausifier) → rest env z ≡ rest' env z) → Turned begin rest' k m x s c a d
  turned_skip rest' f = record { passed = passed_skip begin rest k m x (four (words s) c a d) T.passed rest' f; clausifying = T.clausifying }

  pub turned_moved : (rest' : Env → Clausifier → R) (move : Env → Clausifier → Clausifier) (m' : Counters) → Onward m m' → Clausifying s m'
      → ((env : Env) (z : Clausifier) → Standing m env.rooms (four (words s) c a d) z → Standing m' env.rooms (four (words s) c a d) (move env z))
      → ((env : Env) (z : Clausifier) → rest env z ≡ rest' env (move env z)) → Turned begin rest' k m' x s c a d
  turned_moved rest' move m' O G g f = record { passed = passed_moved begin rest k m x (four (words s) c a d) T.passed rest' move m' O g f; clausifying = G }

module _ (begin rest : Env → C (Unit {0})) (k m : Counters) (x : Four) (s c a d : List ℕ) (T : Turned begin rest k m x s c a d) where
  -- no rule is left
  pub turned_finish : ((env : Env) (z : Clausifier) → rest env z ≡ ok tt z) → Clausified begin k x (four (words s) c a d) (Done m 0) × Clausifying s m
  turned_finish f = (passed_end begin rest k m x (four (words s) c a d) T.passed T.clausifying.encoding.reading.ready.held f, T.clausifying)

  module _ (s' c' a' d' : List ℕ) (r : Answer) where
    -- a call for all that is left
    pub turned_last : DidTurn rest m s c a d s' c' a' d' r → Clausified begin k x (four (words s') c' a' d') r × ClausifyingAfter s' r
    turned_last D = (passed_last begin rest k m x (four (words s) c a d) T.passed (four (words s') c' a' d') r D.0, D.1)

    -- or for the first rule
    module _ (one rest' : Env → C (Unit {0})) (f : (env : Env) (z : Clausifier) → rest env z ≡ then (one env z) (λ _. rest' env)) (D : DidTurn one m s c a d s' c' a' d' r) where
      pub turned_step : SameLong (four (words s) c a d) (four (words s') c' a' d') → (m' : Counters) (j : ℕ) → r ≡ Done m' j → Turned begin rest' k m' x s' c' a' d'
      turned_step L m' j e =
          let G = subst (DidTurn one m s c a d s' c' a' d') e D in
          record { passed = passed_step begin rest k m x (four (words s) c a d) T.passed one rest' (four (words s') c' a' d') f m' j L G.0; clausifying = G.1 }

      pub turned_halt : (n : ℕ) → r ≡ Refused n → Clausified begin k x (four (words s') c' a' d') (Refused n)
      turned_halt n e = passed_stop begin rest k m x (four (words s) c a d) T.passed one rest' (four (words s') c' a' d') f n (subst (DidTurn one m s c a d s' c' a' d') e D).0

-- a call for all that is left, where that only reads the pool
pub turned_did : (begin : Env → C (Unit {0})) (rule : Env → Pool → E (Unit {0})) (k m : Counters) (x : Four) (s c a d : List ℕ) → Turned begin (λ env. in_out (rule env)) k m x s c a d
    → (s' c' a' d' : List ℕ) (r : Answer) → length s' ≡ length s
    → Did (λ _. 0) 0 (λ env f b u. rule env (pool_of (words s) m.concepts) u) m hand_at 0 (four (words s) c a d) (four (words s') c' a' d') r
    → Clausified begin k x (four (words s') c' a' d') r × ClausifyingAfter s' r
turned_did begin rule k m x s c a d T s' c' a' d' r l D = turned_last begin (λ env. in_out (rule env)) k m x s c a d T s' c' a' d' r (did_turn rule m s c a d s' c' a' d' r T.clausifying l D)
