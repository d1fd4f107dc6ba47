-- The numbers of a rule's answer are those that the code counts. Assumes nothing.
use Rattle.std.specs.Prelude.{◌≡◌, Bool, ◌&&◌, length, eqb, ltb, leb}
use Rattle.std.proofs.Math.Path.{refl, sym, ap}
use Rattle.std.proofs.Common.{ap₂, ◌∙◌, subst, arith, suc-mul, mul-suc, zero-mul, mul-zero, add_comm, length-append, leb-true, leb-false, le-leb, ne_eqb}
use Rattle.std.proofs.Math.Bool.{true, false}
use mathlib.Core.List.{List, [], ◌∷◌, ◌++◌, map}
use Rattle.std.proofs.Math.Option.{Option, none, some}
use Prim.{tt}
use Prim.Native.Nat.{ℕ, zero, suc, ◌+◌, ◌*◌, ◌≤◌, max}
use Rattle.std.proofs.lemmas.List.{length-map}
use Rattle.std.proofs.lemmas.Bool.{lt-leb}
use Rattle.ir.specs.Pick.{pick}
use Rattle.ir.specs.Counts.{tick}
use Rattle.ir.specs.declared.counters.Counters.{Counters}
use Rattle.ir.specs.Visit.{Begun, Full}
use Rattle.ir.specs.declared.atom.Atom.{Atom}
use Rattle.ir.specs.declared.atom.Atom.TheVariants.{Role as RoleAtom}
use Rattle.ir.specs.Encoded.{Encoded}
use Rattle.ir.specs.Encoded.{Found, Unsupported, Refused}
use Rattle.rules.specs.Base.{Res, ok, then, all}
use Rattle.rules.specs.Base as Base
use Rattle.rules.specs.Concept.{Concept}
use Rattle.rules.specs.Concept.{Top, Bot, Atomic, Nominal, SelfRestriction, Not, And, Or, Some, All, Min, Max}
use Rattle.rules.specs.Pool.{Pool, at}
use Rattle.rules.specs.State.{Env, Out, out, E, canon, begun, visit, fresh_var}
use Rattle.rules.specs.Post.{Post, gives}
use Rattle.rules.proofs.EmitLaws.{visited, with_var}
use Rattle.rules.proofs.EncodeKeeps.{encode_keeps}
use Rattle.rules.specs.Antecedents.{Alternatives, cross, in_hand, within, and_with, encode_and, or_with, encode_or, some_with, encode_step, encode_by}
use Rattle.rules.specs.TextLaws.{by_test}
use Rattle.tables.specs.Good.{Good}
use Rattle.antecedents.specs.States.{Counted, varied, longest, summary}
use Rattle.antecedents.specs.Counts.{crossed, listed, joined, under, count_all, count_step, on_visit, count, GoodEncoded}

-- ---- the rule takes at most one variable for each visit
pub record Moved (s t : Out) : Type 0 where
  pub limit : t.limit ≡ s.limit
  pub visits : s.visits ≤ t.visits
  pub within : s.visits ≤ s.limit → t.visits ≤ t.limit
  pub vars : t.next_var + s.visits ≤ s.next_var + t.visits

pub encode_moved : (env : Env) (pool : Pool) (f c v : ℕ) (s : Out) → Post (λ _ t. Moved s t) (encode_by env pool f c v s)
encode_moved env pool = encode_keeps Moved
    (λ s t u X Y. record { limit = Y.limit ∙ X.limit; visits = omega (arith, X.visits, Y.visits); within = λ h. Y.within (X.within h); vars = omega (arith, X.vars, Y.vars) })
    (λ s h. record { limit = refl; visits = omega arith; within = λ _. omega arith; vars = omega arith })
    (λ s h. record { limit = refl; visits = omega arith; within = λ _. omega arith; vars = omega arith }) env pool

-- ---- products, unions and their lengths
pub length_cross : (a b : Alternatives) → length (cross a b) ≡ length a * length b
unfolding cross
length_cross [] b = sym (zero-mul (length b))
length_cross (x ∷ a) b =
    length-append (map (λ c. x ++ c) b) (cross a b) ∙ ap₂ ◌+◌ (length-map b (λ c. x ++ c)) (length_cross a b)
    ∙ add_comm (length b) (length a * length b) ∙ sym (suc-mul (length a) (length b))

cross_none : (a : Alternatives) → cross a [] ≡ []
unfolding cross
cross_none [] = refl
cross_none (x ∷ a) = cross_none a

pub longest_append : (a b : Alternatives) → longest (a ++ b) ≡ max (longest a) (longest b)
unfolding longest
longest_append [] b = omega arith
longest_append (x ∷ a) b = rw (longest_append a b) (omega arith)

longest_before : (x y : List Atom) (b : Alternatives) → longest (map (λ c. x ++ c) (y ∷ b)) ≡ length x + longest (y ∷ b)
unfolding longest
longest_before x y [] = rw (length-append x y) (omega arith)
longest_before x y (z ∷ b) =
    let e : longest (map (λ c. x ++ c) (z ∷ b)) ≡ length x + longest (z ∷ b) = longest_before x z b in
    ap₂ max (length-append x y) e ∙ omega arith

longest_cross : (x : List Atom) (a : Alternatives) (y : List Atom) (b : Alternatives) → longest (cross (x ∷ a) (y ∷ b)) ≡ longest (x ∷ a) + longest (y ∷ b)
unfolding cross longest
longest_cross x [] y b =
    let e : longest (map (λ c. x ++ c) (y ∷ b)) ≡ length x + longest (y ∷ b) = longest_before x y b in
    longest_append (map (λ c. x ++ c) (y ∷ b)) [] ∙ ap (λ (n : ℕ). max n 0) e ∙ omega arith
longest_cross x (z ∷ a) y b =
    longest_append (map (λ c. x ++ c) (y ∷ b)) (cross (z ∷ a) (y ∷ b))
    ∙ ap₂ max (longest_before x y b) (longest_cross z a y b) ∙ omega arith

leb_both : (m n : ℕ) → leb m 256 && leb n 256 ≡ leb (max m n) 256
leb_both m n = by_test (leb m 256)
    (λ e. by_test (leb n 256)
    (λ d. let x = leb-true m 256 e in let y = leb-true n 256 d in rw (e, d) (sym (le-leb (max m n) 256 (omega arith))))
    (λ d. let y = leb-false n 256 d in rw (e, d) (sym (lt-leb (max m n) 256 (omega arith)))))
    (λ e. let x = leb-false m 256 e in rw e (sym (lt-leb (max m n) 256 (omega arith))))

pub all_short : (l : Alternatives) → all in_hand l ≡ leb (longest l) 256
unfolding longest
all_short [] = refl
all_short (a ∷ l) = rw (all_short l) (leb_both (length a) (longest l))

not_none : (n m : ℕ) → eqb (suc n * suc m) 0 ≡ false
not_none n m = ne_eqb (suc n * suc m) 0 (λ e. let d : suc n * m + suc n ≡ 0 = sym (mul-suc (suc n) m) ∙ e in absurd (omega arith))

-- the alternatives x, if none is too long and they are few
abbrev kept : Counters → Alternatives → Bool → Bool → Encoded
kept k x a b = pick a (pick b (Found k (length x) (longest x)) (Unsupported k)) (Refused 12)

crossed_kept : (k : Counters) (a b : Alternatives) → crossed k (length a) (longest a) (length b) (longest b) ≡ kept k (cross a b) (all in_hand (cross a b)) (leb (length (cross a b)) 64)
unfolding longest cross
crossed_kept k [] b = rw (zero-mul (length b)) refl
crossed_kept k (x ∷ a) [] = rw (mul-zero (suc (length a)), cross_none a) refl
crossed_kept k (x ∷ a) (y ∷ b) =
    sym (rw (all_short (cross (x ∷ a) (y ∷ b)), longest_cross x a y b, length_cross (x ∷ a) (y ∷ b), not_none (length a) (length b)) refl)

listed_kept : (k : Counters) (a b : Alternatives) → listed k (length a) (longest a) (length b) (longest b) ≡ kept k (a ++ b) true (leb (length (a ++ b)) 64)
listed_kept k a b = sym (rw (longest_append a b, length-append a b) refl)

under_kept : (k : Counters) (a : Atom) (b : Alternatives) → under (Found k (length b) (longest b)) ≡ kept k (map (λ c. a ∷ c) b) (all in_hand (map (λ c. a ∷ c) b)) true
unfolding longest
under_kept k a [] = refl
under_kept k a (y ∷ b) =
    let z : Alternatives = map (λ (c : List Atom). a ∷ c) (y ∷ b) in
    let e : longest z ≡ 1 + longest (y ∷ b) = longest_before (a ∷ []) y b in
    let d : longest z ≡ longest (y ∷ b) + 1 = e ∙ add_comm 1 (longest (y ∷ b)) in
    sym (rw (all_short z, d, length-map (y ∷ b) (λ (c : List Atom). a ∷ c), ne_eqb (length (y ∷ b)) 0 (λ e. absurd (omega arith))) refl)

-- ---- the count is the summary
stop_unsupported : (G : Counters → ℕ → Encoded) (b : Bool) (l : List ℕ) (k : Counters) → count_all G b l (Unsupported k) ≡ Unsupported k
unfolding count_all
stop_unsupported G b [] k = refl
stop_unsupported G b (x ∷ l) k = refl

stop_refused : (G : Counters → ℕ → Encoded) (b : Bool) (l : List ℕ) (e : ℕ) → count_all G b l (Refused e) ≡ Refused e
unfolding count_all
stop_refused G b [] e = refl
stop_refused G b (x ∷ l) e = refl

-- k: the counters whose other fields the answers keep
module _ (env : Env) (pool : Pool) (k : Counters) where
  -- a part's numbers, at any state
  abbrev Sums : (ℕ → ℕ → E (Option Alternatives)) → (Counters → ℕ → Encoded) → Type 0
  Sums F G = (c v : ℕ) (s : Out) → k.limit ≡ s.limit → G (varied k s) c ≡ summary k (F c v s)

  within_sum : (G : Counters → ℕ → Encoded) (b : Bool) (l : List ℕ) (x : Alternatives) (rest : Alternatives → E (Option Alternatives)) (t : Out)
      → count_all G b l (Found (varied k t) (length x) (longest x)) ≡ summary k (rest x t)
      → (short few : Bool) → count_all G b l (kept (varied k t) x short few) ≡ summary k (within short few x rest t)
  within_sum G b l x rest t h false few = stop_refused G b l 12
  within_sum G b l x rest t h true false = stop_unsupported G b l (varied k t)
  within_sum G b l x rest t h true true = h

  module _ (F : ℕ → ℕ → E (Option Alternatives)) (G : Counters → ℕ → Encoded) (W : Sums F G) (M : (c v : ℕ) (s : Out) → Post (λ _ t. Moved s t) (F c v s)) where
    and_sum : (l : List ℕ) (v : ℕ) (acc : Alternatives) (s : Out) → k.limit ≡ s.limit
        → count_all G true l (Found (varied k s) (length acc) (longest acc)) ≡ summary k (encode_and env pool F l v acc s)
    unfolding count_all encode_and
    and_sum [] v acc s e = refl
    and_sum (x ∷ l) v acc s e =
        ap (λ (r : Encoded). count_all G true l (joined true (length acc) (longest acc) r)) (W x v s e)
        ∙ go (λ next t d. and_sum l v next t d) (F x v s) (M x v s)
      where
        go : ((next : Alternatives) (t : Out) → k.limit ≡ t.limit → count_all G true l (Found (varied k t) (length next) (longest next)) ≡ summary k (encode_and env pool F l v next t))
            → (r : Res Out (Option Alternatives)) → Post (λ _ t. Moved s t) r
            → count_all G true l (joined true (length acc) (longest acc) (summary k r)) ≡ summary k (then r (λ o. and_with env pool F (λ next. encode_and env pool F l v next) acc o))
        go rest (ok none t) m = stop_unsupported G true l (varied k t)
        go rest (ok (some a) t) (gives m) =
            ap (λ (r : Encoded). count_all G true l r) (crossed_kept (varied k t) acc a)
            ∙ within_sum G true l (cross acc a) (λ next. encode_and env pool F l v next) t (rest (cross acc a) t (e ∙ sym m.limit)) (all in_hand (cross acc a)) (leb (length (cross acc a)) 64)
        go rest (Base.refused n) m = stop_refused G true l n

    or_sum : (l : List ℕ) (v : ℕ) (acc : Alternatives) (s : Out) → k.limit ≡ s.limit
        → count_all G false l (Found (varied k s) (length acc) (longest acc)) ≡ summary k (encode_or env pool F l v acc s)
    unfolding count_all encode_or
    or_sum [] v acc s e = refl
    or_sum (x ∷ l) v acc s e =
        ap (λ (r : Encoded). count_all G false l (joined false (length acc) (longest acc) r)) (W x v s e)
        ∙ go (λ next t d. or_sum l v next t d) (F x v s) (M x v s)
      where
        go : ((next : Alternatives) (t : Out) → k.limit ≡ t.limit → count_all G false l (Found (varied k t) (length next) (longest next)) ≡ summary k (encode_or env pool F l v next t))
            → (r : Res Out (Option Alternatives)) → Post (λ _ t. Moved s t) r
            → count_all G false l (joined false (length acc) (longest acc) (summary k r)) ≡ summary k (then r (λ o. or_with env pool F (λ next. encode_or env pool F l v next) acc o))
        go rest (ok none t) m = stop_unsupported G false l (varied k t)
        go rest (ok (some a) t) (gives m) =
            ap (λ (r : Encoded). count_all G false l r) (listed_kept (varied k t) acc a)
            ∙ within_sum G false l (acc ++ a) (λ next. encode_or env pool F l v next) t (rest (acc ++ a) t (e ∙ sym m.limit)) true (leb (length (acc ++ a)) 64)
        go rest (Base.refused n) m = stop_refused G false l n

    some_sum : (a : Atom) (r : Res Out (Option Alternatives)) → under (summary k r) ≡ summary k (then r (λ o. some_with env pool F a o))
    some_sum a (ok none t) = refl
    some_sum a (ok (some l) t) = under_kept (varied k t) a l ∙ go (all in_hand (map (λ c. a ∷ c) l))
      where
        go : (b : Bool) → kept (varied k t) (map (λ c. a ∷ c) l) b true ≡ summary k (within b true (map (λ c. a ∷ c) l) (λ x s. ok (some x) s) t)
        go true = refl
        go false = refl
    some_sum a (Base.refused n) = refl

    step_sum : (v : ℕ) (s : Out) → k.limit ≡ s.limit → (e : Concept) → count_step G (varied k s) e ≡ summary k (encode_step env pool F v e s)
    unfolding encode_step fresh_var longest
    step_sum v s h Top = refl
    step_sum v s h Bot = refl
    step_sum v s h (Atomic _) = refl
    step_sum v s h (Nominal _) = refl
    step_sum v s h (SelfRestriction _) = refl
    step_sum v s h (Not _) = refl
    step_sum v s h (And l) = and_sum l v ([] ∷ []) s h
    step_sum v s h (Or l) = or_sum l v [] s h
    step_sum v s h (Some r d) = ap under (W d s.next_var (with_var s) h) ∙ some_sum (RoleAtom (canon env r) v s.next_var) (F d s.next_var (with_var s))
    step_sum v s h (All _ _) = refl
    step_sum v s h (Min _ _ _) = refl
    step_sum v s h (Max _ _ _) = refl

  by_sum : (f c v : ℕ) (s : Out) → k.limit ≡ s.limit → count pool f (varied k s) c ≡ summary k (encode_by env pool f c v s)
  unfolding count encode_by visit
  by_sum zero c v s h = refl
  by_sum (suc f) c v s h =
      ap (λ (n : ℕ). on_visit (pick (ltb s.visits n) (Begun (tick (varied k s))) Full) (λ k₁. count_step (λ k₂ d. count pool f k₂ d) k₁ (at pool c))) h
      ∙ go (ltb s.visits s.limit) (step_sum (λ d u. encode_by env pool f d u) (λ k₁ d. count pool f k₁ d) (λ d u t. by_sum f d u t) (λ d u t. encode_moved env pool f d u t) v (visited s) h (at pool c))
    where
      go : (b : Bool) → count_step (λ k₁ d. count pool f k₁ d) (varied k (visited s)) (at pool c) ≡ summary k (encode_step env pool (λ d u. encode_by env pool f d u) v (at pool c) (visited s))
          → on_visit (pick b (Begun (tick (varied k s))) Full) (λ k₁. count_step (λ k₂ d. count pool f k₂ d) k₁ (at pool c)) ≡ summary k (then (begun s b) (λ _. encode_step env pool (λ d u. encode_by env pool f d u) v (at pool c)))
      go true e = e
      go false e = refl

-- a state's own counters
counted_same : (k : Counters) (s : Out) → Counted k s → varied k s ≡ k
counted_same k s C = rw (← C.visits, ← C.vars) refl

pub count_sum : (env : Env) (pool : Pool) (f : ℕ) (k : Counters) (c v : ℕ) (s : Out) → Counted k s → count pool f k c ≡ summary k (encode_by env pool f c v s)
count_sum env pool f k c v s C = ap (λ (k₁ : Counters). count pool f k₁ c) (sym (counted_same k s C)) ∙ by_sum env pool k f c v s C.limit

-- ---- the counters stay good
moved_good : (k : Counters) (s t : Out) → Counted k s → Good k → Moved s t → Good (varied k t)
moved_good k s t C g m = record {
  most = g.most;
  seen = omega (arith, m.within (omega (arith, g.seen, C.visits, C.limit)), m.limit, C.limit);
  vars = omega (arith, m.vars, g.vars, C.visits, C.vars);
  names = omega (arith, g.names, m.visits, C.visits);
}

summary_good : (k : Counters) (s : Out) → Counted k s → Good k → (r : Res Out (Option Alternatives)) → Post (λ _ t. Moved s t) r → GoodEncoded (summary k r)
summary_good k s C g (ok none t) (gives m) = moved_good k s t C g m
summary_good k s C g (ok (some l) t) (gives m) = moved_good k s t C g m
summary_good k s C g (Base.refused e) m = tt

-- a state and what does not change, for counters that need one
state_of : Counters → Out
state_of k = out k.visits k.limit k.next_var 0 [] [] 0 []

env_of : Env
env_of = record { nominal_base = 0; inverse_canon = []; dkey_classes = []; card_disjunct_atoms = false; equal_names = false; rooms = record { clauses = 0; atoms = 0; deferrals = 0 } }

pub count_good : (pool : Pool) (f : ℕ) (k : Counters) (c : ℕ) → Good k → GoodEncoded (count pool f k c)
unfolding state_of
count_good pool f k c g =
    let s : Out = state_of k in
    let C : Counted k s = record { visits = refl; limit = refl; vars = refl } in
    subst GoodEncoded (sym (count_sum env_of pool f k c 0 s C)) (summary_good k s C g (encode_by env_of pool f c 0 s) (encode_moved env_of pool f c 0 s))

pub joined_good : (b : Bool) (n l : ℕ) (r : Encoded) → GoodEncoded r → GoodEncoded (joined b n l r)
joined_good true n l (Found k m j) h = go (eqb (n * m) 0) (leb (l + j) 256) (leb (n * m) 64)
  where
    go : (x y z : Bool) → GoodEncoded (pick x (Found k 0 0) (pick y (pick z (Found k (n * m) (l + j)) (Unsupported k)) (Refused 12)))
    go true y z = h
    go false true true = h
    go false true false = h
    go false false z = tt
joined_good false n l (Found k m j) h = go (leb (n + m) 64)
  where
    go : (x : Bool) → GoodEncoded (pick x (Found k (n + m) (max l j)) (Unsupported k))
    go true = h
    go false = h
joined_good true n l (Unsupported k) h = h
joined_good false n l (Unsupported k) h = h
joined_good true n l (Refused e) h = tt
joined_good false n l (Refused e) h = tt
