-- From a rule that only reads the pool to one of the clausifier. Assumes nothing.
use Rattle.std.specs.Prelude.{◌≡◌, refl, List, [], ℕ, length, take}
use Rattle.std.proofs.Common.{sym, ap, ◌∙◌, arith}
use Prim.{tt}
use Rattle.words.specs.Words.{words}
use Rattle.ir.specs.Scratch.{hands_at}
use Rattle.ir.specs.declared.counters.Counters.{Counters}
use Rattle.ir.specs.Answer.{Answer}
use Rattle.ir.specs.Answer.{Done, Refused}
use Rattle.rules.specs.Base.{Res, ok, refused, then}
use Rattle.rules.specs.Pool.{Pool}
use Rattle.rules.specs.State.{Rooms, Env, Out, E, total}
use Rattle.rules.specs.Normalize.{St}
use Rattle.rules.specs.Axioms.{Clausifier, back_out, in_out, visited_to, back_nnf}
use Rattle.pool.specs.Layout.{pool_of}
use Rattle.pool.specs.Held.{Held}
use Rattle.pool.specs.Answers.{sized}
use Rattle.pool.specs.Answers.{after as after_pool}
use Rattle.pool.specs.AnswerLaws.{sized_same}
use Rattle.rebuilding.specs.States.{counted, told}
use Rattle.tables.specs.Drawn.{tables, show, shown, after, counters_in, clauses_in, atoms_in, deferrals_in}
use Rattle.tables.specs.Good.{GoodAnswer, KeptAnswer}
use Rattle.tables.specs.DrawnLaws.{show_same}
use Rattle.hands.specs.Hands.{Four, Did}
use Rattle.antecedents.specs.WriteLaws.{hands_word, hands_pool}
use Rattle.axioms.specs.RoleAxioms.{hand_at}
use Rattle.axioms.specs.BodyLaws.{encoding_kept}
use Rattle.axioms.specs.Wholes.{Whole, drawn, shown_whole, after_whole, standing, Clausifying, ClausifyingAfter, Untouched, OnwardAnswer, Clausified}
use Rattle.leaves.specs.StepLaws.{hand_zero}

-- an answer of a rule over the state alone
pub out_whole : {A : Type 0} (value : A → ℕ) (k : Counters) (rooms : Rooms) (x y : Four) (r : Answer) (m : Res Out A) (z : Clausifier)
    → Held x.scratch k.concepts k.members → z.pool ≡ pool_of x.scratch k.concepts
    → pool_of y.scratch k.concepts ≡ pool_of x.scratch k.concepts → KeptAnswer k r
    → after r y.clauses y.atoms y.deferrals ≡ shown value k rooms m
    → after_whole r y ≡ shown_whole value k rooms (back_out z m)
out_whole value k rooms x y (Done k' i) (ok a s) z H p q K e =
    let n : i ≡ value a = cc in
    let t : tables k' y.clauses y.atoms y.deferrals ≡ show k rooms s = cc in
    let o : pool_of y.scratch k'.concepts ≡ z.pool = ap (pool_of y.scratch) K.concepts ∙ q ∙ sym p in
    let u : sized k z.pool ≡ k = ap (sized k) p ∙ sized_same x.scratch k H in
    rw (n, t, o, u) refl
out_whole value k rooms x y (Done k' i) (refused n) z H p q K e = absurd (let z : ◌≡◌ {A = ℕ} 0 1 = cc in omega arith)
out_whole value k rooms x y (Refused n) (ok a s) z H p q K e = absurd (let z : ◌≡◌ {A = ℕ} 0 1 = cc in omega arith)
out_whole value k rooms x y (Refused n) (refused o) z H p q K e = cc

-- ---- an answer of the normal form's rules: pool and visits change, the tables do not
-- other sizes and visits
pub show_visited : (k : Counters) (rooms : Rooms) (o : Out) (c a d : List ℕ) (s : St) → tables k c a d ≡ show k rooms o → s.limit ≡ k.limit
    → tables (counted k s) c a d ≡ show (sized k s.pool) rooms (visited_to s.visits o)
unfolding show
show_visited k rooms o c a d s e l =
    let q = ap counters_in e in
    let x : k.limit ≡ o.limit = ap (λ (z : Counters). z.limit) q in
    let v : k.next_var ≡ o.next_var = ap (λ (z : Counters). z.next_var) q in
    let f : k.next_class ≡ o.next_fresh = ap (λ (z : Counters). z.next_class) q in
    let n : k.clauses ≡ length o.clauses = ap (λ (z : Counters). z.clauses) q in
    let t : k.atoms ≡ total o.clauses = ap (λ (z : Counters). z.atoms) q in
    let g : k.deferrals ≡ length o.deferrals = ap (λ (z : Counters). z.deferrals) q in
    let h : k.line ≡ o.line = ap (λ (z : Counters). z.line) q in
    let lx : s.limit ≡ o.limit = l ∙ x in
    rw (lx, v, f, n, t, g, h, ap clauses_in e, ap atoms_in e, ap deferrals_in e) refl

pub nnf_whole : (k : Counters) (rooms : Rooms) (y : Four) (r : Answer) (m : Res St ℕ) (z : Clausifier)
    → tables k y.clauses y.atoms y.deferrals ≡ show k rooms z.out
    → ((i : ℕ) (s : St) → m ≡ ok i s → s.limit ≡ k.limit)
    → after_pool r y.scratch ≡ told k m
    → after_whole r y ≡ shown_whole (λ i. i) k rooms (back_nnf z m)
nnf_whole k rooms y (Done k' j) (ok i s) z t l e =
    let n : j ≡ i = cc in
    let c : k' ≡ counted k s = cc in
    let p : pool_of y.scratch k'.concepts ≡ s.pool = cc in
    let u : tables k' y.clauses y.atoms y.deferrals ≡ show (sized k s.pool) rooms (visited_to s.visits z.out) =
    ap (λ (x : Counters). tables x y.clauses y.atoms y.deferrals) c ∙ show_visited k rooms z.out y.clauses y.atoms y.deferrals s t (l i s refl) in
    rw (n, p, u) refl
nnf_whole k rooms y (Done k' j) (refused n) z t l e = absurd (let z : ◌≡◌ {A = ℕ} 0 1 = cc in omega arith)
nnf_whole k rooms y (Refused n) (ok i s) z t l e = absurd (let z : ◌≡◌ {A = ℕ} 0 1 = cc in omega arith)
nnf_whole k rooms y (Refused n) (refused o) z t l e = cc

-- ---- one call after another
-- the state that an answer stands for, drawn by its own counters
pub record Standing (k' : Counters) (rooms : Rooms) (y : Four) (z : Clausifier) : Type 0 where
  pub pool : pool_of y.scratch k'.concepts ≡ z.pool
  pub tables : tables k' y.clauses y.atoms y.deferrals ≡ show k' rooms z.out

-- the state of an answer that is one
pub whole_stands : {A : Type 0} (value : A → ℕ) (k : Counters) (rooms : Rooms) (y : Four) (a : A) (z : Clausifier) (k' : Counters) (i : ℕ)
    → after_whole (Done k' i) y ≡ shown_whole value k rooms (ok a z) → (i ≡ value a) × Standing k' rooms y z
whole_stands value k rooms y a z k' i e =
    let n : i ≡ value a = cc in
    let p : pool_of y.scratch k'.concepts ≡ z.pool = cc in
    let t : tables k' y.clauses y.atoms y.deferrals ≡ show (sized k z.pool) rooms z.out = cc in
    (n, record { pool = p; tables = show_same (sized k z.pool) k' rooms z.out y.clauses y.atoms y.deferrals t })

-- what a rule answered, and how the code's answer goes on or is handed on
pub whole_then : {A : Type 0} (value : A → ℕ) (k : Counters) (rooms : Rooms) (y : Four) (m : Res Clausifier A) (k' : Counters) (i : ℕ) (W : Res Whole ℕ) (g : A → Clausifier → Res Clausifier (Unit {0}))
    → after_whole (Done k' i) y ≡ shown_whole value k rooms m
    → ((a : A) (z : Clausifier) → i ≡ value a → Standing k' rooms y z → W ≡ shown_whole (λ _. 0) k' rooms (g a z))
    → ((z : Clausifier) → drawn k' rooms z ≡ drawn k rooms z)
    → W ≡ shown_whole (λ _. 0) k rooms (then m g)
whole_then value k rooms y (ok a z) k' i W g e f same =
    let S = whole_stands value k rooms y a z k' i e in
    f a z S.0 S.1 ∙ again (g a z)
  where
    again : (r : Res Clausifier (Unit {0})) → shown_whole (λ _. 0) k' rooms r ≡ shown_whole (λ _. 0) k rooms r
    again (ok b u) = ap (λ (x : Whole). ok 0 x) (same u)
    again (refused o) = refl
whole_then value k rooms y (refused n) k' i W g e f same = absurd (let z : ◌≡◌ {A = ℕ} 0 1 = cc in omega arith)

pub whole_refused : {A : Type 0} (value : A → ℕ) (k : Counters) (rooms : Rooms) (y : Four) (m : Res Clausifier A) (n : ℕ) (g : A → Clausifier → Res Clausifier (Unit {0}))
    → after_whole (Refused n) y ≡ shown_whole value k rooms m → refused n ≡ shown_whole (λ _. 0) k rooms (then m g)
whole_refused value k rooms y (ok a z) n g e = absurd (let z : ◌≡◌ {A = ℕ} 0 1 = cc in omega arith)
whole_refused value k rooms y (refused o) n g e = cc

-- counters that differ in nothing that a drawing takes from them draw alike
pub drawn_same : (k k' : Counters) (rooms : Rooms) → k'.nominal_base ≡ k.nominal_base → k'.options ≡ k.options → (z : Clausifier) → drawn k' rooms z ≡ drawn k rooms z
unfolding show
drawn_same k k' rooms b o z = rw (b, o) refl

-- ---- an axiom's function that only reads the pool
pub untouched_below : (w w' : List ℕ) → take hands_at w' ≡ take hands_at w → Untouched w w'
untouched_below w w' e = record { maps = λ j a b. hands_word w w' e j (omega arith); axioms = λ j a b. hands_word w w' e j (omega arith) }

pub onward_kept : (k : Counters) (r : Answer) → KeptAnswer k r → OnwardAnswer k r
onward_kept k (Done k' i) A = record { nominals = A.nominals; options = A.options; concepts = omega (arith, A.concepts) }
onward_kept k (Refused e) A = tt

pub did_clausified : (rule : Env → Pool → E (Unit {0})) (k : Counters) (x y : Four) (r : Answer) → Held x.scratch k.concepts k.members
    → Did (λ _. 0) 0 (λ env f b s. rule env (pool_of x.scratch k.concepts) s) k hand_at 0 x y r → Clausified (λ env. in_out (rule env)) k x y r
did_clausified rule k x y r H D =
    let e : take hands_at y.scratch ≡ take hands_at x.scratch = D.frame in
    record {
      equal = λ env s E t.
          out_whole (λ _. 0) k env.rooms x y r (rule env (pool_of x.scratch k.concepts) s) (standing k x s) H refl (hands_pool x.scratch y.scratch e k.concepts k.members H) D.kept
          (D.equal env 0 [] s (omega arith) E (hand_zero x.scratch hand_at) t);
      untouched = untouched_below x.scratch y.scratch e;
      onward = onward_kept k r D.kept;
    }

pub clausifying_after : (s s' : List ℕ) (k : Counters) (r : Answer) → Clausifying s k → length s' ≡ length s → take hands_at (words s') ≡ take hands_at (words s) → GoodAnswer r → KeptAnswer k r → ClausifyingAfter s' r
clausifying_after s s' k (Done k' i) C l e g A = record { encoding = encoding_kept s s' k k' l e A C.encoding; good = g; space = rw l C.space; queue = rw l C.queue }
clausifying_after s s' k (Refused n) C l e g A = tt
