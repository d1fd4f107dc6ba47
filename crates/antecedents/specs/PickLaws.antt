-- The alternative that the rows find is the rule's. Assumes nothing.
use Rattle.std.specs.Prelude.{◌≡◌, refl, Bool, ltb, leb}
use Rattle.std.proofs.Math.Path.{sym, ap, ap₂}
use Rattle.std.proofs.Common.{◌∙◌, subst, suc-mul, zero-mul, mul-zero, mul_comm, mul_assoc, mul-one, div-one, mod-eq_of_lt, div-lt_iff_lt-mul, mod-lt, add-one}
use Rattle.std.proofs.Math.Bool.{true, false}
use mathlib.Core.List.{List, [], ◌∷◌, ◌++◌, map, append-nil, append_assoc}
use Rattle.std.proofs.Math.Option.{Option, none, some}
use Prim.{Unit, tt}
use Prim.Native.Nat.{ℕ, zero, suc, ◌+◌, ◌*◌, ◌-◌, ◌<◌, ◌≤◌, ◌/◌, ◌%◌}
use native.Mathlib.Omega.{arith}
use Rattle.std.proofs.Math.Nat.{div-eq_of_lt, add-div_right, add-mod_right, mul-div_cancel_left, div-div-eq-div-mul, sub-zero}
use Rattle.std.proofs.Math.ListN.{length, get_or, length-append, get_or-append}
use Rattle.std.proofs.lemmas.List.{length-map}
use Rattle.std.proofs.Math.Seq.{get_or-append-add}
use Rattle.std.proofs.Math.Arith.{mod-mul, digits_div, digits_mod}
use borrow.Author.Tests.{ltb-true, ltb-false, leb-true}
use Rattle.ir.specs.declared.counters.Counters.{Counters}
use Rattle.ir.specs.declared.atom.Atom.{Atom}
use Rattle.ir.specs.declared.atom.Atom.TheVariants.{Class, Role as RoleAtom}
use Rattle.rules.specs.Base.{Res, ok, all}
use Rattle.rules.specs.Concept.{Concept}
use Rattle.rules.specs.Concept.{Top, Bot, Atomic, Nominal, SelfRestriction, Not, And, Or, Some, All, Min, Max}
use Rattle.rules.specs.Pool.{Pool, at}
use Rattle.rules.specs.Deck.{parts_of}
use Rattle.rules.specs.State.{Env, Out, E, canon, fresh_var}
use Rattle.rules.specs.Invariants.{Each}
use Rattle.rules.specs.Post.{Post, gives, refuses, give, post_then, post_map}
use Rattle.rules.specs.PoolLaws.{post_both}
use Rattle.rules.proofs.EmitLaws.{visited, with_var, visit_then}
use Rattle.rules.specs.Antecedents.{Alternatives, cross, in_hand, within, and_with, encode_and, or_with, encode_or, some_with, encode_step, encode_by}
use Rattle.rules.specs.TextLaws.{by_test}
use Rattle.tables.specs.Good.{Good}
use Rattle.antecedents.specs.States.{Counted, Fine, longest}
use Rattle.antecedents.specs.CountLaws.{Moved, encode_moved, length_cross, longest_append, all_short}
use Rattle.antecedents.specs.Table.{size_in, vars_in, plus_vars, join_size, size_all, vars_all, size_of, vars_of, Numbered}
use Rattle.antecedents.specs.TableLaws.{Below}
use Rattle.antecedents.specs.Picks.{Pick, pick_and, pick_or, pick_step, pick_alt}

pub fine_counted : (k : Counters) (s : Out) → Good k → Counted k s → Fine s
fine_counted k s g C = record { most = omega (arith, g.most, C.limit); seen = omega (arith, g.seen, C.visits, C.limit); vars = omega (arith, g.vars, C.visits, C.vars) }

fine_moved : {s t : Out} → Fine s → Moved s t → Fine t
fine_moved F m = record { most = omega (arith, F.most, m.limit); seen = m.within F.seen; vars = omega (arith, F.vars, m.vars, m.visits) }

-- ---- products
get_d_map_lt : {A B : Type 0} (f : A → B) (l : List A) (k : ℕ) (d : A) (e : B) → k < length l → get_or (map f l) k e ≡ f (get_or l k d)
get_d_map_lt f [] k d e h = absurd (omega arith)
get_d_map_lt f (a ∷ l) zero d e h = refl
get_d_map_lt f (a ∷ l) (suc k) d e h = get_d_map_lt f l k d e (omega arith)

pos_left : (n m i : ℕ) → i < n * m → 0 < n
pos_left zero m i h = let z : 0 * m ≡ 0 = zero-mul m in absurd (omega arith)
pos_left (suc n) m i h = omega arith

pos_right : (n m i : ℕ) → i < n * m → 0 < m
pos_right n zero i h = let z : n * 0 ≡ 0 = mul-zero n in absurd (omega arith)
pos_right n (suc m) i h = omega arith

-- the first factor's index is the quotient, the second's the remainder
get_d_cross : (a b : Alternatives) (k : ℕ) → k < length a * length b → get_or (cross a b) k [] ≡ get_or a (k / length b) [] ++ get_or b (k % length b) []
unfolding cross
get_d_cross [] b k h = let z : 0 * length b ≡ 0 = zero-mul (length b) in absurd (omega arith)
get_d_cross (x ∷ a) b k h = by_test (ltb k (length b))
    (λ e.
    let l = ltb-true k (length b) e in
    let m : k < length (map (λ c. x ++ c) b) = rw (length-map b (λ c. x ++ c)) l in
    get_or-append (map (λ c. x ++ c) b) (cross a b) [] k m ∙ get_d_map_lt (λ c. x ++ c) b k [] [] l
    ∙ rw (div-eq_of_lt l, mod-eq_of_lt l) refl)
    (λ e.
    let l = ltb-false k (length b) e in
    let s : suc (length a) * length b ≡ length a * length b + length b = suc-mul (length a) (length b) in
    let q : length (map (λ c. x ++ c) b) + (k - length b) ≡ k = rw (length-map b (λ c. x ++ c)) (omega arith) in
    let z : k ≡ k - length b + length b = omega arith in
    let i : k - length b < length a * length b = omega arith in
    let p : 0 < length b = pos_right (length a) (length b) (k - length b) i in
    let d : k / length b ≡ suc ((k - length b) / length b) = ap (λ (j : ℕ). j / length b) z ∙ add-div_right (k - length b) p ∙ add-one ((k - length b) / length b) in
    let r : k % length b ≡ (k - length b) % length b = ap (λ (j : ℕ). j % length b) z ∙ add-mod_right (k - length b) (length b) in
    ap (λ (j : ℕ). get_or (map (λ c. x ++ c) b ++ cross a b) j []) (sym q) ∙ get_or-append-add (map (λ c. x ++ c) b) (cross a b) (k - length b) []
    ∙ get_d_cross a b (k - length b) i ∙ rw (d, r) refl)

-- l is acc times what is left: an index splits into acc's and the rest's
record Splits (acc l : Alternatives) (rest : ℕ → ℕ → List Atom) : Type 0 where
  left : ℕ
  len : length l ≡ length acc * left
  at : (j : ℕ) → j < length l → get_or l j [] ≡ get_or acc (j / left) [] ++ rest left (j % left)

split_end : (acc : Alternatives) (rest : ℕ → ℕ → List Atom) → ((r j : ℕ) → rest r j ≡ []) → Splits acc acc rest
split_end acc rest e = record {
  left = 1;
  len = sym (mul-one (length acc));
  at = λ j h. rw (div-one j, e 1 (j % 1)) (sym (append-nil (get_or acc j [])));
}

-- the next part's digit, and those below it
digit : (j n r : ℕ) → 0 < n → 0 < r → (j % (n * r)) / r ≡ (j / r) % n
digit j n r a b = ap (λ (z : ℕ). z / r) (mod-mul j a b) ∙ digits_div (j / r % n) (mod-lt j b)

below : (j n r : ℕ) → 0 < n → 0 < r → (j % (n * r)) % r ≡ j % r
below j n r a b = ap (λ (z : ℕ). z % r) (mod-mul j a b) ∙ digits_mod (j / r % n) (mod-lt j b)

split_step : (acc L l : Alternatives) (n : ℕ) (rest rest' : ℕ → ℕ → List Atom) (D : ℕ → List Atom) → n ≡ length L → ((j : ℕ) → j < length L → D j ≡ get_or L j [])
    → ((r j : ℕ) → rest r j ≡ D (j / (r / n)) ++ rest' (r / n) (j % (r / n))) → Splits (cross acc L) l rest' → Splits acc l rest
split_step acc L l n rest rest' D en d e S =
    let r = S.left in
    let q : length l ≡ length acc * (n * r) = S.len ∙ ap (λ (z : ℕ). z * r) (length_cross acc L ∙ ap (λ (z : ℕ). length acc * z) (sym en)) ∙ mul_assoc (length acc) n r in
    record {
      left = n * r;
      len = q;
      at = λ j h.
          let h₁ : j < length acc * (n * r) = rw q at h in
          let nr : 0 < n * r = pos_right (length acc) (n * r) j h₁ in
          let np : 0 < n = pos_left n r 0 nr in
          let rp : 0 < r = pos_right n r 0 nr in
          let lp : 0 < length L = rw en at np in
          let h₂ : j < length acc * n * r = rw (mul_assoc (length acc) n r) h₁ in
          let h₃ : j / r < length acc * n = (div-lt_iff_lt-mul rp).1 h₂ in
          let h₄ : j / r < length acc * length L = rw en at h₃ in
          let back : n * r / n ≡ r = mul-div_cancel_left r np in
          let top : j / r / length L ≡ j / (n * r) = div-div-eq-div-mul j r (length L) ∙ ap (λ (z : ℕ). j / z) (mul_comm r (length L) ∙ ap (λ (z : ℕ). z * r) (sym en)) in
          let mid : (j % (n * r)) / r ≡ (j / r) % length L = digit j n r np rp ∙ ap (λ (z : ℕ). (j / r) % z) en in
          let low : (j % (n * r)) % r ≡ j % r = below j n r np rp in
          S.at j h ∙ ap (λ (z : List Atom). z ++ rest' r (j % r)) (get_d_cross acc L (j / r) h₄ ∙ ap₂ ◌++◌ (ap (λ (z : ℕ). get_or acc z []) top) (sym (d ((j / r) % length L) (mod-lt (j / r) lp))))
          ∙ append_assoc (get_or acc (j / (n * r)) []) (D ((j / r) % length L)) (rest' r (j % r))
          ∙ ap (λ (z : List Atom). get_or acc (j / (n * r)) [] ++ z) (sym (e (n * r) (j % (n * r)) ∙ rw (back, mid, low) refl));
    }

-- the alternatives so far stay in front; then come the rest's
record Follow (acc l : Alternatives) (rest : ℕ → List Atom) : Type 0 where
  old : (j : ℕ) → j < length acc → get_or l j [] ≡ get_or acc j []
  new : (j : ℕ) → length acc ≤ j → j < length l → get_or l j [] ≡ rest (j - length acc)

-- ---- answers
abbrev pub OnSome : (Alternatives → Type 0) → Option Alternatives → Type 0
OnSome Q none = Unit {0}
OnSome Q (some l) = Q l

on_some : {Q R : Alternatives → Type 0} → ((l : Alternatives) → Q l → R l) → (o : Option Alternatives) → OnSome Q o → OnSome R o
on_some g none q = tt
on_some g (some l) q = g l q

within_on : {Q : Alternatives → Out → Type 0} (short few : Bool) (l : Alternatives) (rest : Alternatives → E (Option Alternatives)) (s : Out)
    → (short ≡ true → few ≡ true → Post (λ o t. OnSome (λ k. Q k t) o) (rest l s)) → Post (λ o t. OnSome (λ k. Q k t) o) (within short few l rest s)
within_on false few l rest s h = refuses
within_on true false l rest s h = give tt
within_on true true l rest s h = h refl refl

plus_assoc : (a b c : ℕ) → plus_vars a (plus_vars b c) ≡ plus_vars (plus_vars a b) c
plus_assoc a b c = omega arith

-- the alternatives L of x, whose first variable is y, and the next variable z after them
pub record Told (t : List ℕ) (x y : ℕ) (D : ℕ → List Atom) (L : Alternatives) (z : ℕ) : Type 0 where
  pub size : size_in t x ≡ length L
  pub vars : plus_vars y (vars_in t x) ≡ z
  pub same : (j : ℕ) → j < length L → D j ≡ get_or L j []
  pub short : longest L ≤ 256

short_of : (l : Alternatives) → all in_hand l ≡ true → longest l ≤ 256
short_of l e = leb-true (longest l) 256 (sym (all_short l) ∙ e)

short_both : (a b : Alternatives) → longest a ≤ 256 → longest b ≤ 256 → longest (a ++ b) ≤ 256
short_both a b h k = rw (longest_append a b) (omega arith)

module _ (env : Env) (p : Pool) (t : List ℕ) (F : ℕ → ℕ → E (Option Alternatives)) (P : Pick) (c : ℕ)
    (W : (x v : ℕ) (s : Out) → x < c → Fine s → Post (λ o u. Moved s u × OnSome (λ L. Told t x s.next_var (λ j. P x v s.next_var j) L u.next_var) o) (F x v s)) where
  -- y₀: the list's first variable; a: what the parts before took; y: the next variable before, z after these parts
  record Ands (v y₀ : ℕ) (l : List ℕ) (acc : Alternatives) (a y : ℕ) (L : Alternatives) (z : ℕ) : Type 0 where
    size : size_all t true l (length acc) ≡ length L
    vars : plus_vars y₀ (vars_all t l a) ≡ z
    splits : Splits acc L (λ r j. pick_and t P v l y r j)
    short : longest L ≤ 256

  and_step : (v y₀ x : ℕ) (l : List ℕ) (acc M : Alternatives) (a y y₁ : ℕ) → leb (length (cross acc M)) 64 ≡ true → Told t x y (λ j. P x v y j) M y₁
      → (L : Alternatives) (z : ℕ) → Ands v y₀ l (cross acc M) (plus_vars a (vars_in t x)) y₁ L z → Ands v y₀ (x ∷ l) acc a y L z
  unfolding size_all vars_all pick_and
  and_step v y₀ x l acc M a y y₁ few T L z A =
      let q = leb-true (length (cross acc M)) 64 few in
      let w : length (cross acc M) ≡ length acc * size_in t x = length_cross acc M ∙ ap (λ (n : ℕ). length acc * n) (sym T.size) in
      let e : join_size true (length acc) (size_in t x) ≡ length (cross acc M) = omega arith in
      record {
        size = ap (λ (n : ℕ). size_all t true l n) e ∙ A.size;
        vars = A.vars;
        splits = split_step acc M L (size_in t x) (λ r j. pick_and t P v (x ∷ l) y r j) (λ r j. pick_and t P v l y₁ r j) (λ j. P x v y j) T.size T.same
            (λ r j. ap (λ (u : ℕ). P x v y (j / (r / size_in t x)) ++ pick_and t P v l u (r / size_in t x) (j % (r / size_in t x))) T.vars) A.splits;
        short = A.short;
      }

  and_told : (v y₀ : ℕ) (l : List ℕ) (acc : Alternatives) (a : ℕ) (s : Out) → Each (λ d. d < c) l → Fine s → plus_vars y₀ a ≡ s.next_var → longest acc ≤ 256
      → Post (λ o u. OnSome (λ L. Ands v y₀ l acc a s.next_var L u.next_var) o) (encode_and env p F l v acc s)
  unfolding encode_and size_all vars_all pick_and
  and_told v y₀ [] acc a s u h e b = give (record { size = refl; vars = e; splits = split_end acc (λ r j. []) (λ r j. refl); short = b })
  and_told v y₀ (x ∷ l) acc a s u h e b = post_then (W x v s u.0 h)
      (λ o s₁ T. go s₁ (fine_moved h T.0) (λ next a₁ e₁ b₁. and_told v y₀ l next a₁ s₁ u.1 (fine_moved h T.0) e₁ b₁) o T.1)
    where
      go : (s₁ : Out) → Fine s₁ → ((next : Alternatives) (a₁ : ℕ) → plus_vars y₀ a₁ ≡ s₁.next_var → longest next ≤ 256 → Post (λ o u. OnSome (λ L. Ands v y₀ l next a₁ s₁.next_var L u.next_var) o) (encode_and env p F l v next s₁))
          → (o : Option Alternatives) → OnSome (λ M. Told t x s.next_var (λ j. P x v s.next_var j) M s₁.next_var) o
          → Post (λ o u. OnSome (λ L. Ands v y₀ (x ∷ l) acc a s.next_var L u.next_var) o) (and_with env p F (λ next. encode_and env p F l v next) acc o s₁)
      go s₁ h₁ rest none T = give tt
      go s₁ h₁ rest (some M) T = within_on {Q = λ L u. Ands v y₀ (x ∷ l) acc a s.next_var L u.next_var} (all in_hand (cross acc M)) (leb (length (cross acc M)) 64) (cross acc M) (λ next. encode_and env p F l v next) s₁
          (λ short few. post_map (rest (cross acc M) (plus_vars a (vars_in t x)) (plus_assoc y₀ a (vars_in t x) ∙ ap (λ (n : ℕ). plus_vars n (vars_in t x)) e ∙ T.vars) (short_of (cross acc M) short))
          (λ o u A. on_some {Q = λ L. Ands v y₀ l (cross acc M) (plus_vars a (vars_in t x)) s₁.next_var L u.next_var} (λ L B. and_step v y₀ x l acc M a s.next_var s₁.next_var few T L u.next_var B) o A))

  record Ors (v y₀ : ℕ) (l : List ℕ) (acc : Alternatives) (a y : ℕ) (L : Alternatives) (z : ℕ) : Type 0 where
    size : size_all t false l (length acc) ≡ length L
    vars : plus_vars y₀ (vars_all t l a) ≡ z
    follow : Follow acc L (λ j. pick_or t P v l y j)
    short : longest L ≤ 256

  follow_step : (v x : ℕ) (l : List ℕ) (acc M L : Alternatives) (y y₁ : ℕ) → Told t x y (λ j. P x v y j) M y₁
      → Follow (acc ++ M) L (λ j. pick_or t P v l y₁ j) → Follow acc L (λ j. pick_or t P v (x ∷ l) y j)
  unfolding pick_or
  follow_step v x l acc M L y y₁ T S =
      let q : length (acc ++ M) ≡ length acc + length M = length-append acc M in
      let z : size_in t x ≡ length M = T.size in
      record {
        old = λ j h. S.old j (omega arith) ∙ get_or-append acc M [] j h;
        new = λ j a h.
            by_test (ltb (j - length acc) (size_in t x))
            (λ e.
            let b = ltb-true (j - length acc) (size_in t x) e in
            let b₁ : j - length acc < length M = omega arith in
            let i : j ≡ length acc + (j - length acc) = omega arith in
            S.old j (omega arith) ∙ ap (λ (i : ℕ). get_or (acc ++ M) i []) i ∙ get_or-append-add acc M (j - length acc) [] ∙ sym (T.same (j - length acc) b₁) ∙ rw e refl)
            (λ e.
            let b = ltb-false (j - length acc) (size_in t x) e in
            let i : j - length (acc ++ M) ≡ j - length acc - size_in t x = omega arith in
            S.new j (omega arith) h ∙ ap₂ (λ y i. pick_or t P v l y i) (sym T.vars) i ∙ rw e refl);
      }

  or_step : (v y₀ x : ℕ) (l : List ℕ) (acc M : Alternatives) (a y y₁ : ℕ) → leb (length (acc ++ M)) 64 ≡ true → Told t x y (λ j. P x v y j) M y₁
      → (L : Alternatives) (z : ℕ) → Ors v y₀ l (acc ++ M) (plus_vars a (vars_in t x)) y₁ L z → Ors v y₀ (x ∷ l) acc a y L z
  unfolding size_all vars_all
  or_step v y₀ x l acc M a y y₁ few T L z A =
      let q = leb-true (length (acc ++ M)) 64 few in
      let w : length (acc ++ M) ≡ length acc + size_in t x = length-append acc M ∙ ap (λ (n : ℕ). length acc + n) (sym T.size) in
      let e : join_size false (length acc) (size_in t x) ≡ length (acc ++ M) = omega arith in
      record {
        size = ap (λ (n : ℕ). size_all t false l n) e ∙ A.size;
        vars = A.vars;
        follow = follow_step v x l acc M L y y₁ T A.follow;
        short = A.short;
      }

  or_told : (v y₀ : ℕ) (l : List ℕ) (acc : Alternatives) (a : ℕ) (s : Out) → Each (λ d. d < c) l → Fine s → plus_vars y₀ a ≡ s.next_var → longest acc ≤ 256
      → Post (λ o u. OnSome (λ L. Ors v y₀ l acc a s.next_var L u.next_var) o) (encode_or env p F l v acc s)
  unfolding encode_or size_all vars_all pick_or
  or_told v y₀ [] acc a s u h e b = give (record { size = refl; vars = e; follow = record { old = λ j l. refl; new = λ j a b. absurd (omega arith) }; short = b })
  or_told v y₀ (x ∷ l) acc a s u h e b = post_then (W x v s u.0 h)
      (λ o s₁ T. go s₁ (fine_moved h T.0) (λ next a₁ e₁ b₁. or_told v y₀ l next a₁ s₁ u.1 (fine_moved h T.0) e₁ b₁) o T.1)
    where
      go : (s₁ : Out) → Fine s₁ → ((next : Alternatives) (a₁ : ℕ) → plus_vars y₀ a₁ ≡ s₁.next_var → longest next ≤ 256 → Post (λ o u. OnSome (λ L. Ors v y₀ l next a₁ s₁.next_var L u.next_var) o) (encode_or env p F l v next s₁))
          → (o : Option Alternatives) → OnSome (λ M. Told t x s.next_var (λ j. P x v s.next_var j) M s₁.next_var) o
          → Post (λ o u. OnSome (λ L. Ors v y₀ (x ∷ l) acc a s.next_var L u.next_var) o) (or_with env p F (λ next. encode_or env p F l v next) acc o s₁)
      go s₁ h₁ rest none T = give tt
      go s₁ h₁ rest (some M) T = within_on {Q = λ L u. Ors v y₀ (x ∷ l) acc a s.next_var L u.next_var} true (leb (length (acc ++ M)) 64) (acc ++ M) (λ next. encode_or env p F l v next) s₁
          (λ _ few. post_map (rest (acc ++ M) (plus_vars a (vars_in t x)) (plus_assoc y₀ a (vars_in t x) ∙ ap (λ (n : ℕ). plus_vars n (vars_in t x)) e ∙ T.vars) (short_both acc M b T.short))
          (λ o u A. on_some {Q = λ L. Ors v y₀ l (acc ++ M) (plus_vars a (vars_in t x)) s₁.next_var L u.next_var} (λ L B. or_step v y₀ x l acc M a s.next_var s₁.next_var few T L u.next_var B) o A))

  -- ---- one concept
  abbrev pick_here : ℕ → ℕ → Concept → ℕ → List Atom
  pick_here v y e j = pick_step env.inverse_canon env.nominal_base p t P c v y j e

  one_same : (w : List Atom) (j : ℕ) → j < 1 → w ≡ get_or (w ∷ []) j []
  one_same w zero h = refl
  one_same w (suc j) h = absurd (omega arith)

  -- a row of one alternative and no variable
  one_told : (y : ℕ) (D : ℕ → List Atom) (w : List Atom) → y ≤ 4294967295 → size_in t c ≡ 1 → vars_in t c ≡ 0 → ((j : ℕ) → D j ≡ w) → length w ≤ 1 → Told t c y D (w ∷ []) y
  unfolding longest
  one_told y D w h es ev d l = record { size = es; vars = rw ev (omega arith); same = λ j i. d j ∙ one_same w j i; short = omega arith }

  and_here : (v : ℕ) (s : Out) (l : List ℕ) → size_in t c ≡ size_of t (And l) → vars_in t c ≡ vars_of t (And l)
      → (L : Alternatives) (z : ℕ) → Ands v s.next_var l ([] ∷ []) 0 s.next_var L z → Told t c s.next_var (pick_here v s.next_var (And l)) L z
  and_here v s l es ev L z A =
      let S = A.splits in
      let q : length L ≡ 1 * S.left = S.len in
      let n : size_in t c ≡ length L = es ∙ A.size in
      let r : S.left ≡ size_in t c = omega arith in
      record {
        size = n;
        vars = ap (plus_vars s.next_var) ev ∙ A.vars;
        same = λ j i.
            let i₁ : j < S.left = omega arith in
            sym (S.at j i ∙ rw (div-eq_of_lt i₁, mod-eq_of_lt i₁) (ap (λ (r : ℕ). pick_and t P v l s.next_var r j) r));
        short = A.short;
      }

  or_here : (v : ℕ) (s : Out) (l : List ℕ) → size_in t c ≡ size_of t (Or l) → vars_in t c ≡ vars_of t (Or l)
      → (L : Alternatives) (z : ℕ) → Ors v s.next_var l [] 0 s.next_var L z → Told t c s.next_var (pick_here v s.next_var (Or l)) L z
  or_here v s l es ev L z A = record {
    size = es ∙ A.size;
    vars = ap (plus_vars s.next_var) ev ∙ A.vars;
    same = λ j i. sym (A.follow.new j (omega arith) i ∙ ap (λ (i : ℕ). pick_or t P v l s.next_var i) (sub-zero j));
    short = A.short;
  }

  some_here : (a : Atom) (y d : ℕ) (D D₁ : ℕ → List Atom) → ((j : ℕ) → D₁ j ≡ D j) → y ≤ 1000004 → size_in t c ≡ size_in t d → vars_in t c ≡ plus_vars (vars_in t d) 1 → (s₁ : Out) (o : Option Alternatives)
      → OnSome (λ M. Told t d (y + 1) D M s₁.next_var) o
      → Post (λ o u. OnSome (λ L. Told t c y (λ j. a ∷ D₁ j) L u.next_var) o) (some_with env p F a o s₁)
  some_here a y d D D₁ q h es ev s₁ none T = give tt
  some_here a y d D D₁ q h es ev s₁ (some M) T = within_on {Q = λ L u. Told t c y (λ j. a ∷ D₁ j) L u.next_var} (all in_hand (map (λ b. a ∷ b) M)) true (map (λ b. a ∷ b) M) (λ l s. ok (some l) s) s₁
      (λ short _. give (record {
        size = es ∙ T.size ∙ sym (length-map M (λ b. a ∷ b));
        vars = let z : plus_vars (y + 1) (vars_in t d) ≡ s₁.next_var = T.vars in rw ev (omega arith);
        same = λ j i.
            let l : j < length M = rw (length-map M (λ b. a ∷ b)) at i in
            ap (λ (z : List Atom). a ∷ z) (q j ∙ T.same j l) ∙ sym (get_d_map_lt (λ b. a ∷ b) M j [] [] l);
        short = short_of (map (λ b. a ∷ b) M) short;
      }))

  step_told : (v : ℕ) (s : Out) → Fine s → s.next_var ≤ s.visits + 3 → (e : Concept) → Each (λ d. d < c) (parts_of e) → size_in t c ≡ size_of t e → vars_in t c ≡ vars_of t e
      → Post (λ o u. OnSome (λ L. Told t c s.next_var (pick_here v s.next_var e) L u.next_var) o) (encode_step env p F v e s)
  unfolding encode_step fresh_var longest
  step_told v s h w Top b es ev = give (one_told s.next_var (λ _. []) [] (omega (arith, h.vars, h.seen, h.most)) es ev (λ _. refl) (omega arith))
  step_told v s h w Bot b es ev = give tt
  step_told v s h w (Atomic a) b es ev = give (one_told s.next_var (λ _. Class a v ∷ []) (Class a v ∷ []) (omega (arith, h.vars, h.seen, h.most)) es ev (λ _. refl) (omega arith))
  step_told v s h w (Nominal i) b es ev = give (one_told s.next_var (λ _. Class (env.nominal_base + i) v ∷ []) (Class (env.nominal_base + i) v ∷ []) (omega (arith, h.vars, h.seen, h.most)) es ev (λ _. refl) (omega arith))
  step_told v s h w (SelfRestriction _) b es ev = give tt
  step_told v s h w (Not _) b es ev = give tt
  step_told v s h w (And l) b es ev =
      let z : plus_vars s.next_var 0 ≡ s.next_var = omega (arith, h.vars, h.seen, h.most) in
      post_map (and_told v s.next_var l ([] ∷ []) 0 s b h z (omega arith))
      (λ o u A. on_some {Q = λ L. Ands v s.next_var l ([] ∷ []) 0 s.next_var L u.next_var} (λ L B. and_here v s l es ev L u.next_var B) o A)
  step_told v s h w (Or l) b es ev =
      let z : plus_vars s.next_var 0 ≡ s.next_var = omega (arith, h.vars, h.seen, h.most) in
      post_map (or_told v s.next_var l [] 0 s b h z (omega arith))
      (λ o u A. on_some {Q = λ L. Ors v s.next_var l [] 0 s.next_var L u.next_var} (λ L B. or_here v s l es ev L u.next_var B) o A)
  step_told v s h w (Some r d) b es ev =
      let y : plus_vars s.next_var 1 ≡ s.next_var + 1 = omega (arith, h.vars, h.seen, h.most) in
      let h₁ : Fine (with_var s) = record { most = h.most; seen = h.seen; vars = omega arith } in
      post_then (W d s.next_var (with_var s) b.0 h₁)
      (λ o s₁ T. some_here (RoleAtom (canon env r) v s.next_var) s.next_var d (λ j. P d s.next_var (s.next_var + 1) j) (λ j. P d s.next_var (plus_vars s.next_var 1) j)
      (λ j. ap (λ (n : ℕ). P d s.next_var n j) y) (omega (arith, h.vars, h.seen, h.most)) es ev s₁ o T.1)
  step_told v s h w (All _ _) b es ev = give tt
  step_told v s h w (Min _ _ _) b es ev = give tt
  step_told v s h w (Max _ _ _) b es ev = give tt

-- ---- the theorem
module _ (env : Env) (p : Pool) (t : List ℕ) (B : Below p) (N : Numbered t p (length p)) where
  by_told : (f c v : ℕ) (s : Out) → c < length p → Fine s
      → Post (λ o u. Moved s u × OnSome (λ L. Told t c s.next_var (λ j. pick_alt env.inverse_canon env.nominal_base p t f c v s.next_var j) L u.next_var) o) (encode_by env p f c v s)
  unfolding encode_by pick_alt
  by_told zero c v s l h = refuses
  by_told (suc f) c v s l h = post_both (encode_moved env p (suc f) c v s)
      (visit_then s (λ _. encode_step env p (λ d u. encode_by env p f d u) v (at p c))
      (λ able. step_told env p t (λ d u. encode_by env p f d u) (λ d u z j. pick_alt env.inverse_canon env.nominal_base p t f d u z j) c
      (λ x u s₁ i g. by_told f x u s₁ (omega arith) g) v (visited s) (record { most = h.most; seen = omega arith; vars = omega (arith, h.vars) }) (omega (arith, h.vars)) (at p c) (B c l) (N.size c l) (N.vars c l)))

  post_of : {Q : Option Alternatives → Out → Type 0} (r : Res Out (Option Alternatives)) (o : Option Alternatives) (u : Out) → Post Q r → r ≡ ok o u → Q o u
  post_of {Q = Q} r o u h e = go (subst (Post Q) e h)
    where
      go : Post Q (ok o u) → Q o u
      go (gives x) = x

  -- the rule's alternatives, found one by one
  pub told : (f c v : ℕ) (s : Out) (l : Alternatives) (s' : Out) → c < length p → Fine s → encode_by env p f c v s ≡ ok (some l) s'
      → Told t c s.next_var (λ j. pick_alt env.inverse_canon env.nominal_base p t f c v s.next_var j) l s'.next_var
  told f c v s l s' i h e = (post_of {Q = λ o u. Moved s u × OnSome (λ L. Told t c s.next_var (λ j. pick_alt env.inverse_canon env.nominal_base p t f c v s.next_var j) L u.next_var) o} (encode_by env p f c v s) (some l) s' (by_told f c v s i h) e).1
