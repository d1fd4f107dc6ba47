-- Steps over plain values: what goes on after an answer, one counter more, and what a write above the regions leaves alone.
-- Assumes nothing.
use Rattle.std.specs.Prelude.{◌≡◌, refl, ℕ, ◌+◌, ◌*◌, ◌≤◌, ◌<◌, ◌^◌, length, get_or}
use Rattle.std.proofs.Math.Path.{sym, ap, subst}
use Rattle.std.proofs.Common.{◌∙◌, arith, lt-ltb, le-ltb, take-take, get_or-take}
use mathlib.Core.List.{List, [], ◌∷◌, ◌++◌, append-nil}
use Rattle.std.proofs.Math.Option.{Option, some}
use Prim.{tt}
use Rattle.std.proofs.Math.ListN.{take}
use Rattle.std.proofs.lemmas.List.Edits.{sets}
use Rattle.ir.specs.Counts.{tick, fresh_var, fresh_class}
use Rattle.ir.specs.Options.{card_disjunct_atoms, equal_names}
use Rattle.ir.specs.Records.{six}
use Rattle.ir.specs.Scratch.{hands_at, keys_at, roles_at}
use Rattle.ir.specs.declared.counters.Counters.{Counters}
use Rattle.ir.specs.Answer.{Answer}
use Rattle.ir.specs.Answer.{Done, Refused}
use Rattle.ir.specs.Headed.{Headed}
use Rattle.ir.specs.Headed as Head
use Rattle.ir.specs.declared.atom.Atom.{Atom}
use Rattle.ir.specs.declared.atom.Atom.TheVariants.{Class}
use Rattle.ir.specs.declared.deferral.Deferral.TheVariants.{HeadNotNonatomic}
use Rattle.rules.specs.Base.{Res, ok, refused, then}
use Rattle.rules.specs.State.{Env, Out, out, Rooms, push, with, defer, fresh_class as new_class}
use Rattle.rules.specs.Run.{flat}
use Rattle.tables.specs.Drawn.{Tables, tables, show, shown, after, Lent, counters_in, clauses_in, atoms_in, deferrals_in}
use Rattle.tables.specs.Good.{Good, GoodAnswer, Alike, KeptAnswer}
use Rattle.hands.specs.Hands.{InHand, Four, four, EnvIn, EnvHeld, Did}
use Rattle.hands.specs.HandLaws.{put_frame, hand_more}
use Rattle.leaves.specs.declared.leaf.Leaf.{Leaf}
use Rattle.leaves.specs.declared.leaf.Leaf.TheVariants.{Nothing, Body, Deferred}
use Rattle.leaves.specs.Leaves.{emit_leaf, name_negated}
use Rattle.leaves.specs.Made.{headed, shown_atom, KeptHeaded, DidAtom}

-- ---- counters that are alike
pub alike_same : (k : Counters) → Alike k k
alike_same k = record { concepts = refl; members = refl; nominals = refl; options = refl }

pub alike_then : (k k' k'' : Counters) → Alike k k' → Alike k' k'' → Alike k k''
alike_then k k' k'' a b = record { concepts = b.concepts ∙ a.concepts; members = b.members ∙ a.members; nominals = b.nominals ∙ a.nominals; options = b.options ∙ a.options }

pub alike_tick : (k k' : Counters) → k' ≡ tick k → Alike k k'
alike_tick k k' e = subst (Alike k) (sym e) (record { concepts = refl; members = refl; nominals = refl; options = refl })

pub alike_var : (k k' : Counters) → k' ≡ fresh_var k → Alike k k'
alike_var k k' e = subst (Alike k) (sym e) (record { concepts = refl; members = refl; nominals = refl; options = refl })

pub alike_class : (k k' : Counters) → k' ≡ fresh_class k → Alike k k'
alike_class k k' e = subst (Alike k) (sym e) (record { concepts = refl; members = refl; nominals = refl; options = refl })

pub show_alike : (k k' : Counters) (rooms : Rooms) (s : Out) → Alike k k' → show k' rooms s ≡ show k rooms s
unfolding show
show_alike k k' rooms s a = rw (a.concepts, a.members, a.nominals, a.options) refl

pub shown_alike : {A : Type 0} (value : A → ℕ) (k k' : Counters) (rooms : Rooms) (X : Res Out A) → Alike k k' → shown value k' rooms X ≡ shown value k rooms X
shown_alike value k k' rooms (ok x s) a = ap (ok (value x)) (show_alike k k' rooms s a)
shown_alike value k k' rooms (refused e) a = refl

pub shown_atom_alike : (env : Env) (k k' : Counters) (X : Res Out (Option Atom)) → Alike k k' → shown_atom env k' X ≡ shown_atom env k X
shown_atom_alike env k k' (ok x s) a = ap (ok x) (show_alike k k' env.rooms s a)
shown_atom_alike env k k' (refused e) a = refl

pub kept_then : (k k' : Counters) (r : Answer) → Alike k k' → KeptAnswer k' r → KeptAnswer k r
kept_then k k' (Done l i) a b = alike_then k k' l a b
kept_then k k' (Refused e) a b = tt

pub headed_then : (k k' : Counters) (r : Headed) → Alike k k' → KeptHeaded k' r → KeptHeaded k r
headed_then k k' (Head.Made l x) a b = alike_then k k' l a b
headed_then k k' (Head.Absent l) a b = alike_then k k' l a b
headed_then k k' (Head.Refused e) a b = tt

-- ---- good counters
pub good_var : (k k' : Counters) → k' ≡ fresh_var k → Good k → k.next_var ≤ k.visits + 3 → Good k'
good_var k k' e g h = subst Good (sym e) (record { most = g.most; seen = g.seen; vars = omega arith; names = g.names })

pub good_class : (k k' : Counters) → k' ≡ fresh_class k → Good k → k.next_class ≤ k.visits + 8191 → Good k'
good_class k k' e g h = subst Good (sym e) (record { most = g.most; seen = g.seen; vars = g.vars; names = omega arith })

-- ---- what stands below the hands
pub word_below : (top : ℕ) (w w' : List ℕ) → hands_at ≤ 6 * top → take (6 * top) w' ≡ take (6 * top) w → (i : ℕ) → i < hands_at → get_or w' i 0 ≡ get_or w i 0
word_below top w w' h e i l = sym (get_or-take (6 * top) w' i 0 (omega arith)) ∙ ap (λ (t : List ℕ). get_or t i 0) e ∙ get_or-take (6 * top) w i 0 (omega arith)

pub env_alike : (env : Env) (k k' : Counters) (w : List ℕ) → Alike k k' → EnvIn env k w → EnvIn env k' w
env_alike env k k' w a E = record {
  nominals = a.nominals ∙ E.nominals;
  option = ap card_disjunct_atoms a.options ∙ E.option;
  names = ap equal_names a.options ∙ E.names;
  keys = E.keys;
  no_keys = E.no_keys;
  roles = E.roles;
}

pub env_kept : (env : Env) (k : Counters) (w w' : List ℕ) (top : ℕ) → hands_at ≤ 6 * top → take (6 * top) w' ≡ take (6 * top) w → EnvIn env k w → EnvIn env k w'
env_kept env k w w' top h e E = record {
  nominals = E.nominals;
  option = E.option;
  names = E.names;
  keys = record { marked = λ a l. rw (word_below top w w' h e (keys_at + a) (omega arith)) (E.keys.marked a l) };
  no_keys = E.no_keys;
  roles = record { mapped = λ r l. rw (word_below top w w' h e (roles_at + r) (omega arith)) (E.roles.mapped r l) };
}

-- ---- tables of the same sizes
pub lent_kept : (rooms : Rooms) (c a d c' a' d' : List ℕ) → length c' ≡ length c → length a' ≡ length a → length d' ≡ length d → Lent rooms c a d → Lent rooms c' a' d'
lent_kept rooms c a d c' a' d' x y z l = record { clauses = x ∙ l.clauses; atoms = y ∙ l.atoms; deferrals = z ∙ l.deferrals }

-- ---- after an answer
module _ {A B : Type 0} (va : A → ℕ) (vb : B → ℕ) (k : Counters) (rooms : Rooms) (c a d : List ℕ) where
  pub after_done : (r : Answer) (k' : Counters) (q : ℕ) (X : Res Out A) (Y : Res Tables ℕ) (g : A → Out → Res Out B) → r ≡ Done k' q → after r c a d ≡ shown va k rooms X
      → ((x : A) (s : Out) → q ≡ va x → tables k' c a d ≡ show k rooms s → Y ≡ shown vb k rooms (g x s)) → Y ≡ shown vb k rooms (then X g)
  after_done r k' q (ok x s) Y g e h f =
      let t : ◌≡◌ {A = Res Tables ℕ} (ok q (tables k' c a d)) (ok (va x) (show k rooms s)) = subst (λ (z : Answer). after z c a d ≡ ok (va x) (show k rooms s)) e h in
      f x s (cc) (cc)
  after_done r k' q (refused n) Y g e h f =
      let t : ◌≡◌ {A = Res Tables ℕ} (ok q (tables k' c a d)) (refused n) = subst (λ (z : Answer). after z c a d ≡ refused n) e h in
      absurd (let z : ◌≡◌ {A = ℕ} 0 1 = cc in omega arith)

  pub after_no : (r : Answer) (e : ℕ) (X : Res Out A) (g : A → Out → Res Out B) → r ≡ Refused e → after r c a d ≡ shown va k rooms X → refused e ≡ shown vb k rooms (then X g)
  after_no r e (ok x s) g q h =
      let t : ◌≡◌ {A = Res Tables ℕ} (refused e) (ok (va x) (show k rooms s)) = subst (λ (z : Answer). after z c a d ≡ ok (va x) (show k rooms s)) q h in
      absurd (let z : ◌≡◌ {A = ℕ} 0 1 = cc in omega arith)
  after_no r e (refused n) g q h = subst (λ (z : Answer). after z c a d ≡ refused n) q h

-- the atom that is made of it
module _ {A : Type 0} (va : A → ℕ) (env : Env) (k : Counters) (c a d : List ℕ) where
  pub made_done : (r : Answer) (l : Counters) (q : ℕ) (X : Res Out A) (g : A → Atom) (x : Atom) → r ≡ Done l q → after r c a d ≡ shown va k env.rooms X → ((y : A) → q ≡ va y → x ≡ g y)
      → headed (Head.Made l x) c a d ≡ shown_atom env k (then X (λ y s. ok (some (g y)) s))
  made_done r l q (ok y s) g x e h f =
      let t : ◌≡◌ {A = Res Tables ℕ} (ok q (tables l c a d)) (ok (va y) (show k env.rooms s)) = subst (λ (z : Answer). after z c a d ≡ ok (va y) (show k env.rooms s)) e h in
      let u : q ≡ va y = cc in
      let z : x ≡ g y = f y u in
      let v : tables l c a d ≡ show k env.rooms s = cc in
      rw (z, v) refl
  made_done r l q (refused n) g x e h f =
      let t : ◌≡◌ {A = Res Tables ℕ} (ok q (tables l c a d)) (refused n) = subst (λ (z : Answer). after z c a d ≡ refused n) e h in
      absurd (let z : ◌≡◌ {A = ℕ} 0 1 = cc in omega arith)

  pub made_no : (r : Answer) (e : ℕ) (X : Res Out A) (g : A → Atom) → r ≡ Refused e → after r c a d ≡ shown va k env.rooms X → headed (Head.Refused e) c a d ≡ shown_atom env k (then X (λ y s. ok (some (g y)) s))
  made_no r e (ok y s) g q h =
      let t : ◌≡◌ {A = Res Tables ℕ} (refused e) (ok (va y) (show k env.rooms s)) = subst (λ (z : Answer). after z c a d ≡ ok (va y) (show k env.rooms s)) q h in
      absurd (let z : ◌≡◌ {A = ℕ} 0 1 = cc in omega arith)
  made_no r e (refused n) g q h =
      let t : ◌≡◌ {A = Res Tables ℕ} (refused e) (refused n) = subst (λ (z : Answer). after z c a d ≡ refused n) q h in
      cc

-- ---- the state, one step on
abbrev pub ticked : Out → Out
ticked s = out (s.visits + 1) s.limit s.next_var s.next_fresh s.clauses s.deferrals s.line s.limits

abbrev pub vared : Out → Out
vared s = out s.visits s.limit (s.next_var + 1) s.next_fresh s.clauses s.deferrals s.line s.limits

abbrev pub classed : Out → Out
classed s = out s.visits s.limit s.next_var (s.next_fresh + 1) s.clauses s.deferrals s.line s.limits

module _ (k : Counters) (rooms : Rooms) (s : Out) (c a d : List ℕ) (e : tables k c a d ≡ show k rooms s) where
  pub drawn_tick : tables (tick k) c a d ≡ show k rooms (ticked s)
  unfolding show
  drawn_tick = ap (λ (h : Tables). tables (tick (counters_in h)) (clauses_in h) (atoms_in h) (deferrals_in h)) e

  pub drawn_var : tables (fresh_var k) c a d ≡ show k rooms (vared s)
  unfolding show
  drawn_var = ap (λ (h : Tables). tables (fresh_var (counters_in h)) (clauses_in h) (atoms_in h) (deferrals_in h)) e

  pub drawn_class : tables (fresh_class k) c a d ≡ show k rooms (classed s)
  unfolding show
  drawn_class = ap (λ (h : Tables). tables (fresh_class (counters_in h)) (clauses_in h) (atoms_in h) (deferrals_in h)) e

  pub visits_are : k.visits ≡ s.visits
  unfolding show
  visits_are = ap (λ (h : Tables). (counters_in h).visits) e

  pub limit_is : k.limit ≡ s.limit
  unfolding show
  limit_is = ap (λ (h : Tables). (counters_in h).limit) e

  pub var_is_lem : k.next_var ≡ s.next_var
  unfolding show
  var_is_lem = ap (λ (h : Tables). (counters_in h).next_var) e

  pub class_is : k.next_class ≡ s.next_fresh
  unfolding show
  class_is = ap (λ (h : Tables). (counters_in h).next_class) e

-- the same of the counters that the code made
pub drawn_classed : (k k' : Counters) (rooms : Rooms) (s : Out) (c a d : List ℕ) → k' ≡ fresh_class k → tables k c a d ≡ show k rooms s → tables k' c a d ≡ show k' rooms (classed s)
drawn_classed k k' rooms s c a d q e = subst (λ (z : Counters). tables z c a d ≡ show z rooms (classed s)) (sym q) (drawn_class k rooms s c a d e ∙ sym (show_alike k (fresh_class k) rooms (classed s) (alike_class k (fresh_class k) refl)))

pub drawn_vared : (k k' : Counters) (rooms : Rooms) (s : Out) (c a d : List ℕ) → k' ≡ fresh_var k → tables k c a d ≡ show k rooms s → tables k' c a d ≡ show k' rooms (vared s)
drawn_vared k k' rooms s c a d q e = subst (λ (z : Counters). tables z c a d ≡ show z rooms (vared s)) (sym q) (drawn_var k rooms s c a d e ∙ sym (show_alike k (fresh_var k) rooms (vared s) (alike_var k (fresh_var k) refl)))

pub drawn_ticked : (k k' : Counters) (rooms : Rooms) (s : Out) (c a d : List ℕ) → k' ≡ tick k → tables k c a d ≡ show k rooms s → tables k' c a d ≡ show k' rooms (ticked s)
drawn_ticked k k' rooms s c a d q e = subst (λ (z : Counters). tables z c a d ≡ show z rooms (ticked s)) (sym q) (drawn_tick k rooms s c a d e ∙ sym (show_alike k (tick k) rooms (ticked s) (alike_tick k (tick k) refl)))

-- a drawn state, by counters that are alike
pub drawn_alike : (k k' : Counters) (rooms : Rooms) (s : Out) (c a d : List ℕ) → Alike k k' → tables k' c a d ≡ show k rooms s → tables k' c a d ≡ show k' rooms s
drawn_alike k k' rooms s c a d A e = e ∙ sym (show_alike k k' rooms s A)

-- nothing in hand
pub hand_zero : (w : List ℕ) (base : ℕ) → InHand w base 0 []
unfolding flat
hand_zero w base = let e : base + 0 ≡ base = omega arith in record { long = refl; are = rw (e, append-nil (take (6 * base) w)) refl }

-- ---- leaves
module _ (k : Counters) (base n : ℕ) where
  pub leaf_is : (x y : Four) (r : Answer) (leaf l : Leaf) → leaf ≡ l → Did (λ _. 0) 0 (λ env f b s. emit_leaf env [] b l s) k base n x y r → Did (λ _. 0) 0 (λ env f b s. emit_leaf env [] b leaf s) k base n x y r
  leaf_is x y r leaf l e D = subst (λ (z : Leaf). Did (λ _. 0) 0 (λ env f b s. emit_leaf env [] b z s) k base n x y r) (sym e) D

  pub leaf_nothing : (x : Four) → Good k → Did (λ _. 0) 0 (λ env f b s. emit_leaf env [] b Nothing s) k base n x x (Done k 0)
  leaf_nothing x g = record { equal = λ env f b s lo E i t. ap (ok 0) t; frame = refl; good = g; kept = alike_same k }

  pub leaf_full : (x : Four) (a : Atom) → 256 ≤ n → Did (λ _. 0) 0 (λ env f b s. emit_leaf env [] b (Body a) s) k base n x x (Refused 12)
  unfolding with
  leaf_full x a h = record { equal = λ env f b s lo E i t. rw (le-ltb (length b) 256 (omega (arith, i.long))) refl; frame = refl; good = tt; kept = tt }

  pub leaf_body : (w w1 c a d c' a' : List ℕ) (r : Answer) (x : Atom) → n < 256 → hands_at ≤ 6 * base → w1 ≡ sets w (6 * (base + n)) (six x) → 6 * (base + n) + 6 ≤ length w
      → Did (λ _. 0) 0 (λ env f b s. push env b [] s) k base (n + 1) (four w1 c a d) (four w1 c' a' d) r → Did (λ _. 0) 0 (λ env f b s. emit_leaf env [] b (Body x) s) k base n (four w c a d) (four w1 c' a' d) r
  unfolding with
  leaf_body w w1 c a d c' a' r x h ab e fit D =
      let fr : take (6 * (base + n)) w1 ≡ take (6 * (base + n)) w = put_frame base n w w1 (six x) (6 * (base + n)) e fit in
      record {
        equal = λ env f b s lo E i t. rw (lt-ltb (length b) 256 (omega (arith, i.long)))
            (D.equal env f (b ++ (x ∷ [])) s lo (record { read = env_kept env k w w1 (base + n) (omega arith) fr E.read; lent = E.lent }) (hand_more base n w w1 b x e fit i) t);
        frame = fr;
        good = D.good;
        kept = D.kept;
      }

  pub leaf_deferred : (w c a d d' : List ℕ) (r : Answer) → GoodAnswer r → KeptAnswer k r
      → ((env : Env) (s : Out) (c a : List ℕ) → Lent env.rooms c a d → tables k c a d ≡ show k env.rooms s → after r c a d' ≡ shown (λ _. 0) k env.rooms (defer env HeadNotNonatomic s))
      → Did (λ _. 0) 0 (λ env f b s. emit_leaf env [] b Deferred s) k base n (four w c a d) (four w c a d') r
  leaf_deferred w c a d d' r g q D = record { equal = λ env f b s lo E i t. D env s c a E.lent t; frame = refl; good = g; kept = q }

-- ---- a fresh name for a negated atom
module _ (k k1 : Counters) (base v q : ℕ) (x : Atom) (w w1 w2 c a d c' a' : List ℕ) (r : Answer) (eq : q ≡ k.next_class) (ek : k1 ≡ fresh_class k) (ab : hands_at ≤ 6 * base)
    (e1 : w1 ≡ sets w (6 * base) (six (Class q 0))) (e2 : w2 ≡ sets w1 (6 * (base + 1)) (six x)) (fit : 6 * (base + 2) ≤ length w) (fit1 : 6 * (base + 2) ≤ length w1)
    (D : Did (λ _. 0) 0 (λ env f b s. push env b [] s) k1 base 2 (four w2 c a d) (four w2 c' a' d) r) where
  f1 : take (6 * base) w1 ≡ take (6 * base) w
  f1 = put_frame base 0 w w1 (six (Class q 0)) (6 * base) e1 (omega arith)

  f2 : take (6 * (base + 1)) w2 ≡ take (6 * (base + 1)) w1
  f2 = put_frame base 1 w1 w2 (six x) (6 * (base + 1)) e2 (omega arith)

  both : take (6 * base) w2 ≡ take (6 * base) w
  both = sym (take-take (6 * base) (6 * (base + 1)) w2 (omega arith)) ∙ ap (take (6 * base)) f2 ∙ take-take (6 * base) (6 * (base + 1)) w1 (omega arith) ∙ f1

  in_hand : InHand w2 base 2 (Class q 0 ∷ x ∷ [])
  in_hand =
      let z : base + 0 ≡ base = omega arith in
      let e0 : w1 ≡ sets w (6 * (base + 0)) (six (Class q 0)) = rw z e1 in
      hand_more base 1 w1 w2 (Class q 0 ∷ []) x e2 (omega arith) (hand_more base 0 w w1 [] (Class q 0) e0 (omega arith) (hand_zero w base))

  pushed : (env : Env) (s : Out) → EnvHeld env k (four w c a d) → tables k c a d ≡ show k env.rooms s → after r c' a' d ≡ shown (λ _. 0) k env.rooms (push env (Class q 0 ∷ x ∷ []) [] (classed s))
  pushed env s E t =
      D.equal env 0 (Class q 0 ∷ x ∷ []) (classed s) (omega arith)
      (record { read = env_alike env k k1 w2 (alike_class k k1 ek) (env_kept env k w w2 base ab both E.read); lent = E.lent })
      in_hand (drawn_classed k k1 env.rooms s c a d ek t)
      ∙ shown_alike (λ _. 0) k k1 env.rooms (push env (Class q 0 ∷ x ∷ []) [] (classed s)) (alike_class k k1 ek)

  pub negated_made : (l : Counters) (i : ℕ) → r ≡ Done l i → q + 1 < 2 ^ 32 → DidAtom 0 (λ env f s. name_negated env [] v x s) k base (four w c a d) (four w2 c' a' d) (Head.Made l (Class q v))
  unfolding new_class
  negated_made l i e small = record {
    equal = λ env f s lo E t.
        let z : s.next_fresh ≡ q = sym (class_is k env.rooms s c a d t) ∙ sym eq in
        subst (λ (y : ℕ). headed (Head.Made l (Class q v)) c' a' d ≡ shown_atom env k (then (push env (Class y 0 ∷ x ∷ []) [] (classed s)) (λ _ u. ok (some (Class y v)) u))) (sym z)
        (made_done (λ _. 0) env k c' a' d r l i (push env (Class q 0 ∷ x ∷ []) [] (classed s)) (λ _. Class q v) (Class q v) e (pushed env s E t) (λ y h. refl));
    frame = both;
    good = (subst GoodAnswer e D.good, small);
    kept = alike_then k k1 l (alike_class k k1 ek) (subst (KeptAnswer k1) e D.kept);
  }

  pub negated_refused : (n : ℕ) → r ≡ Refused n → DidAtom 0 (λ env f s. name_negated env [] v x s) k base (four w c a d) (four w2 c' a' d) (Head.Refused n)
  unfolding new_class
  negated_refused n e = record {
    equal = λ env f s lo E t.
        let z : s.next_fresh ≡ q = sym (class_is k env.rooms s c a d t) ∙ sym eq in
        subst (λ (y : ℕ). headed (Head.Refused n) c' a' d ≡ shown_atom env k (then (push env (Class y 0 ∷ x ∷ []) [] (classed s)) (λ _ u. ok (some (Class y v)) u))) (sym z)
        (made_no (λ _. 0) env k c' a' d r n (push env (Class q 0 ∷ x ∷ []) [] (classed s)) (λ _. Class q v) e (pushed env s E t));
    frame = both;
    good = tt;
    kept = tt;
  }
