-- The sets of a chain and the path through them. Assumes nothing.
use Rattle.std.proofs.lemmas.Bool.{not-true}
use mathlib.Core.Path.{◌≡◌, refl, sym, ap, subst, ◌∙◌}
use mathlib.Core.Bool.{Bool, true, false, not, ◌&&◌, false≢true}
use mathlib.Core.List.{List, [], ◌∷◌, ◌++◌, append-nil, append_assoc}
use mathlib.Core.Option.{Option, none, some}
use Prim.Native.Nat.{ℕ, zero, suc, ◌+◌, ◌*◌, ◌-◌, ◌<◌, ◌≤◌}
use native.Mathlib.Omega.{arith}
use lib.ListN.{length, get_or, set}
use lib.Seq.{get_or-set_other}
use lib.Dec.{eqb, ltb}
use borrow.Author.Tests.{ltb-true, ltb-false}
use Rattle.words.specs.Words.{words}
use Rattle.ir.specs.Pick.{pick}
use Rattle.ir.specs.Roles.{role_of}
use Rattle.ir.specs.Scratch.{lines_at}
use Rattle.ir.specs.declared.role.Role.{Role}
use Rattle.rules.specs.Base.{all}
use Rattle.rules.specs.Semantics.{Interpretation, related, implies}
use Rattle.meaning.specs.Truth.{by_truth, all_same, and_right, not_and_not}
use Rattle.pool.specs.Layout.{tab}
use Rattle.pool.specs.Tabs.{length_tab, tab_same}
use Rattle.states.specs.Conditions.{rises, behind, first_of, least_of, place, chain_at}
use Rattle.states.specs.LeastLaws.{all_rising}
use Rattle.states.specs.Masks.{mask_of, mask_none}
use Rattle.states.specs.MaskLaws.{mask_same, first_is}
use Rattle.states.specs.HoldsLaws.{onward, onward_none, onward_step}
use Rattle.states.specs.ChainLaws.{first_where, walk, chain_walk}
use Rattle.sets.specs.Kept.{set_at, set_put}
use Rattle.sets.specs.KeptLaws.{set_put_lem, set_before, set_same}
use Rattle.sets.specs.Places.{shown_at, left_at, rows_at}
use Rattle.sets.specs.Laid.{row_of}
use Rattle.sets.specs.Verdicts.{shown}
use Rattle.axiomtests.specs.declared.chains.Chain.{Chain}
use Rattle.axiomtests.specs.Breaking.{Aside}
use Rattle.axiomtests.specs.Chains.{part_code, last_parts, parts_of, RowsOf, Chained, AllLeft, next_of, ChainIn, WalkIn}
use Rattle.axiomtests.proofs.PairLaws.{first_here, first_nowhere}
use Rattle.axiomtests.proofs.AsideLaws.{aside_refl, aside_trans, shown_more}

-- ---- the last parts
module _ (v : List ℕ) (c : Chain) where
  pub last_next : (k : ℕ) → suc k ≤ c.parts → last_parts v c (suc k) ≡ role_of (part_code v c (c.parts - suc k)) ∷ last_parts v c k
  unfolding tab
  last_next k h = let e : c.parts - suc k + 1 ≡ c.parts - k = omega arith in rw (← e) refl

  pub last_none : last_parts v c 0 ≡ []
  unfolding tab
  last_none = refl

  pub last_all : last_parts v c c.parts ≡ parts_of v c
  last_all = let e : c.parts - c.parts ≡ 0 = omega arith in ap (λ (i : ℕ). tab (λ j. role_of (part_code v c j)) i c.parts) e

  pub length_parts : length (parts_of v c) ≡ c.parts
  length_parts = length_tab (λ j. role_of (part_code v c j)) 0 c.parts

-- ---- what stays
abbrev pub Among : Chain → Type 0
Among c = (j : ℕ) → j < c.parts → c.at + c.step * j < lines_at

pub row_kept : (v v' : List ℕ) → Aside v v' → (code x : ℕ) → row_of v' code x ≡ row_of v code x
row_kept v v' A code x = set_same v v' (rows_at + 64 * code + x) (A.behind (2 * (rows_at + 64 * code + x)) (omega arith)) (A.behind (2 * (rows_at + 64 * code + x) + 1) (omega arith))

module _ (v v' : List ℕ) (c : Chain) (A : Aside v v') (W : Among c) where
  pub code_kept : (j : ℕ) → j < c.parts → part_code v' c j ≡ part_code v c j
  code_kept j h = A.before (c.at + c.step * j) (omega (arith, W j h))

  pub last_kept : (k : ℕ) → k ≤ c.parts → last_parts v' c k ≡ last_parts v c k
  last_kept k h = tab_same (λ j. role_of (part_code v' c j)) (λ j. role_of (part_code v c j)) (c.parts - k) (c.parts - k) k (λ m l. ap role_of (code_kept (c.parts - k + m) (omega arith)))

  pub parts_kept : parts_of v' c ≡ parts_of v c
  parts_kept = tab_same (λ j. role_of (part_code v' c j)) (λ j. role_of (part_code v c j)) 0 0 c.parts (λ m l. ap role_of (code_kept (0 + m) (omega arith)))

  rows_kept : (I : Interpretation) (code : ℕ) → RowsOf I v code → RowsOf I v' code
  rows_kept I code R x h = row_kept v v' A code x ∙ R x h

  pub chained_kept : (I : Interpretation) (size : ℕ) → Chained I v size c → Chained I v' size c
  chained_kept I size C = record { sized = C.sized; sup = rows_kept I c.sup C.sup; parts = λ j h. subst (RowsOf I v') (sym (code_kept j h)) (rows_kept I (part_code v c j) (C.parts j h)) }

pub chain_kept : (s s' : List ℕ) (size : ℕ) (c : Chain) → Aside (words s) (words s') → length s' ≡ length s → ChainIn s size c → ChainIn s' size c
chain_kept s s' size c A e C = record {
  meant = C.meant;
  chained = chained_kept (words s) (words s') c A C.among C.meant size C.chained;
  few = C.few;
  short = C.short;
  code = C.code;
  among = C.among;
  codes = λ j h. omega (arith, code_kept (words s) (words s') c A C.among j h, C.codes j h);
  space = omega (arith, C.space);
}

-- ---- the sets
module _ (I : Interpretation) (sup : Role) (x : ℕ) where
  -- no part is left
  pub set_first : mask_of I.size (λ y. true && not (related I sup x y)) ≡ mask_of I.size (λ y. not (onward I sup x [] y))
  set_first = mask_same I.size (λ y. not (related I sup x y)) (λ y. not (onward I sup x [] y)) (λ y h. ap not (sym (onward_none I sup x y h)))

  -- one more
  onward_all : (r : Role) (parts : List Role) (y : ℕ) → all (λ w. not (related I r y w && not (onward I sup x parts w))) (rises 0 I.size) ≡ onward I sup x (r ∷ parts) y
  onward_all r parts y = sym (
      onward_step I sup x r parts y
      ∙ all_same I.size (λ w. implies (related I r y w) (onward I sup x parts w)) (λ w. not (related I r y w && not (onward I sup x parts w))) (λ w _. sym (not_and_not (related I r y w) (onward I sup x parts w)))
      ∙ all_rising I.size (λ w. not (related I r y w && not (onward I sup x parts w))))

  pub set_next : (r : Role) (parts : List Role) → mask_of I.size (λ y. not (all (λ w. not (related I r y w && not (onward I sup x parts w))) (rises 0 I.size))) ≡ mask_of I.size (λ y. not (onward I sup x (r ∷ parts) y))
  set_next r parts = mask_same I.size (λ y. not (all (λ w. not (related I r y w && not (onward I sup x parts w))) (rises 0 I.size))) (λ y. not (onward I sup x (r ∷ parts) y)) (λ y _. ap not (onward_all r parts y))

  -- the next element, where the chain can be broken from y
  pub next_some : (r : Role) (parts : List Role) (y m : ℕ) → onward I sup x (r ∷ parts) y ≡ false → m ≡ mask_of I.size (λ w. related I r y w && not (onward I sup x parts w)) → 0 < m
  next_some r parts y m h e =
      let q : eqb m 0 ≡ false = ap (λ (k : ℕ). eqb k 0) e ∙ mask_none I.size (λ w. related I r y w && not (onward I sup x parts w)) ∙ onward_all r parts y ∙ h in
      positive m q
    where
      positive : (k : ℕ) → eqb k 0 ≡ false → 0 < k
      positive zero q = absurd (false≢true (sym q))
      positive (suc k) q = omega arith

  pub next_breaks_lem : (r : Role) (parts : List Role) (y : ℕ) → onward I sup x (r ∷ parts) y ≡ false
      → onward I sup x parts (first_where (λ w. related I r y w && not (onward I sup x parts w)) (rises 0 I.size)) ≡ false
  next_breaks_lem r parts y h =
      let p : ℕ → Bool = λ w. related I r y w && not (onward I sup x parts w) in
      let w = first_where p (rises 0 I.size) in
      not-true (onward I sup x parts w) (and_right (related I r y w) (not (onward I sup x parts w)) (first_is p 0 I.size (onward_all r parts y ∙ h)))

-- ---- the sets are filled: u are the words at entry
abbrev pub SetLeft : Interpretation → List ℕ → Chain → (x k m : ℕ) → Type 0
SetLeft I u c x k m = m ≡ mask_of I.size (λ y. not (onward I (role_of c.sup) x (last_parts u c k) y))

pub record Filled (u v : List ℕ) (size : ℕ) (c : Chain) (x k m : ℕ) : Type 0 where
  pub aside : Aside u v
  pub upto : k ≤ c.parts
  pub last : (I : Interpretation) → Chained I u size c → SetLeft I u c x k m
  pub sets : (I : Interpretation) → Chained I u size c → (j : ℕ) → j ≤ k → SetLeft I u c x j (set_at v (left_at + j))

pub filled_first : (u v : List ℕ) (size : ℕ) (c : Chain) (x a r m : ℕ) → a ≡ mask_of size (λ _. true) → r ≡ row_of u c.sup x → ((n : ℕ) (f g : ℕ → Bool) → a ≡ mask_of n f → r ≡ mask_of n g → m ≡ mask_of n (λ y. f y && not (g y)))
    → x < size → 2 * left_at + 2 ≤ length u → v ≡ set_put u left_at m → Aside u v → Filled v v size c x 0 m
filled_first u v size c x a r m ea er W h long e A = record {
  aside = aside_refl v;
  upto = omega arith;
  last = first;
  sets = λ I C j l. let z : 0 ≡ j = omega arith in subst (λ (i : ℕ). SetLeft I v c x i (set_at v (left_at + i))) z (ap (λ (w : List ℕ). set_at w left_at) e ∙ set_put_lem u left_at m long ∙ first I C);
}
  where
    first : (I : Interpretation) → Chained I v size c → SetLeft I v c x 0 m
    first I C =
        W I.size (λ _. true) (related I (role_of c.sup) x) (ea ∙ ap (λ (n : ℕ). mask_of n (λ _. true)) C.sized) (er ∙ sym (row_kept u v A c.sup x) ∙ C.sup x (omega (arith, C.sized)))
        ∙ set_first I (role_of c.sup) x ∙ ap (λ (l : List Role). mask_of I.size (λ y. not (onward I (role_of c.sup) x l y))) (sym (last_none v c))

pub filled_next : (u v v' : List ℕ) (size : ℕ) (c : Chain) (x k i code m m' : ℕ) → Among c → Filled u v size c x k m → k < c.parts → i ≡ k + 1 → code ≡ part_code v c (c.parts - 1 - k)
    → ((I : Interpretation) (f : ℕ → Bool) → size ≡ I.size → RowsOf I v code → m ≡ mask_of I.size f → m' ≡ mask_of I.size (λ y. not (all (λ w. not (related I (role_of code) y w && f w)) (rises 0 I.size))))
    → 2 * (left_at + i) + 2 ≤ length v → v' ≡ set_put v (left_at + i) m' → Aside v v' → Filled u v' size c x i m'
filled_next u v v' size c x k i code m m' W F h ei ec B long e A = record {
  aside = aside_trans u v v' F.aside A;
  upto = omega arith;
  last = next;
  sets = λ I C j l. by_truth (ltb j i) (λ q. let b = ltb-true j i q in ap (λ (w : List ℕ). set_at w (left_at + j)) e ∙ set_before v (left_at + i) m' (left_at + j) (omega arith) ∙ F.sets I C j (omega arith))
      (λ q. let b = ltb-false j i q in let z : i ≡ j = omega arith in subst (λ (n : ℕ). SetLeft I u c x n (set_at v' (left_at + n))) z (ap (λ (w : List ℕ). set_at w (left_at + i)) e ∙ set_put_lem v (left_at + i) m' long ∙ next I C));
}
  where
    next : (I : Interpretation) → Chained I u size c → SetLeft I u c x i m'
    next I C =
        let sup = role_of c.sup in
        let D = chained_kept u v c F.aside W I size C in
        let j : c.parts - 1 - k ≡ c.parts - suc k = omega arith in
        let s : i ≡ suc k = omega arith in
        let q : code ≡ part_code u c (c.parts - suc k) = ec ∙ ap (part_code v c) j ∙ code_kept u v c F.aside W (c.parts - suc k) (omega arith) in
        let rows : RowsOf I v code = subst (RowsOf I v) (sym ec) (D.parts (c.parts - 1 - k) (omega arith)) in
        B I (λ y. not (onward I sup x (last_parts u c k) y)) C.sized rows (F.last I C)
        ∙ ap (λ (n : ℕ). mask_of I.size (λ y. not (all (λ w. not (related I (role_of n) y w && not (onward I sup x (last_parts u c k) w))) (rises 0 I.size)))) q
        ∙ set_next I sup x (role_of (part_code u c (c.parts - suc k))) (last_parts u c k)
        ∙ ap (λ (l : List Role). mask_of I.size (λ y. not (onward I sup x l y))) (sym (ap (last_parts u c) s ∙ last_next u c k (omega arith)))

pub filled_end : (u v : List ℕ) (size : ℕ) (c : Chain) (x k m : ℕ) → Among c → Filled u v size c x k m → c.parts ≤ k → (I : Interpretation) → Chained I u size c → AllLeft I v c x
filled_end u v size c x k m W F h I C j l = F.sets I C j (omega arith) ∙ ap (λ (p : List Role). mask_of I.size (λ y. not (onward I (role_of c.sup) x p y))) (sym (last_kept u v c F.aside W j l))

-- ---- one element further
module _ (v : List ℕ) (size : ℕ) (c : Chain) (x k y code r left m : ℕ) (h : suc k ≤ c.parts) (l : y < size) (ec : code ≡ part_code v c (c.parts - 1 - k)) (er : r ≡ row_of v code y) (el : left ≡ set_at v (left_at + k))
    (B : (n : ℕ) (f g : ℕ → Bool) → r ≡ mask_of n f → left ≡ mask_of n g → m ≡ mask_of n (λ w. f w && g w)) where
  pub next_mask : (I : Interpretation) → Chained I v size c → AllLeft I v c x → m ≡ mask_of I.size (λ w. related I (role_of (part_code v c (c.parts - suc k))) y w && not (onward I (role_of c.sup) x (last_parts v c k) w))
  next_mask I C L =
      let j : c.parts - 1 - k ≡ c.parts - suc k = omega arith in
      let q : code ≡ part_code v c (c.parts - suc k) = ec ∙ ap (part_code v c) j in
      B I.size (related I (role_of (part_code v c (c.parts - suc k))) y) (λ w. not (onward I (role_of c.sup) x (last_parts v c k) w))
      (er ∙ ap (λ (n : ℕ). row_of v n y) q ∙ C.parts (c.parts - suc k) (omega arith) y (omega (arith, C.sized))) (el ∙ L k (omega arith))

  pub next_positive : (I : Interpretation) → Chained I v size c → AllLeft I v c x → onward I (role_of c.sup) x (last_parts v c (suc k)) y ≡ false → 0 < m
  next_positive I C L b =
      next_some I (role_of c.sup) x (role_of (part_code v c (c.parts - suc k))) (last_parts v c k) y m (ap (λ (p : List Role). onward I (role_of c.sup) x p y) (sym (last_next v c k h)) ∙ b) (next_mask I C L)

-- ---- the path is shown
module _ (I : Interpretation) (sup : Role) (x : ℕ) where
  walk_none : (y : ℕ) → walk I sup x [] y ≡ []
  unfolding walk
  walk_none y = refl

  walk_step : (r : Role) (parts : List Role) (y : ℕ) → walk I sup x (r ∷ parts) y ≡ first_where (λ w. related I r y w && not (onward I sup x parts w)) (rises 0 I.size) ∷ walk I sup x parts (first_where (λ w. related I r y w && not (onward I sup x parts w)) (rises 0 I.size))
  unfolding walk
  walk_step r parts y = refl

pub left_kept : (u v : List ℕ) (c : Chain) (x : ℕ) → Aside u v → Among c → ((j : ℕ) → j ≤ c.parts → set_at v (left_at + j) ≡ set_at u (left_at + j)) → (I : Interpretation) → AllLeft I u c x → AllLeft I v c x
left_kept u v c x A W S I L j h = S j h ∙ L j h ∙ ap (λ (p : List Role). mask_of I.size (λ y. not (onward I (role_of c.sup) x p y))) (sym (last_kept u v c A W j h))

pub record Walked (u v : List ℕ) (size : ℕ) (c : Chain) (x k y : ℕ) : Type 0 where
  pub aside : Aside u v
  pub upto : k ≤ c.parts
  pub element : y < size
  pub left : (j : ℕ) → j ≤ c.parts → set_at v (left_at + j) ≡ set_at u (left_at + j)
  pub breaks : (I : Interpretation) → Chained I u size c → AllLeft I u c x → onward I (role_of c.sup) x (parts_of u c) x ≡ false → onward I (role_of c.sup) x (last_parts u c k) y ≡ false
  pub path : (I : Interpretation) → Chained I u size c → AllLeft I u c x → shown v (c.parts - k + 1) ++ walk I (role_of c.sup) x (last_parts u c k) y ≡ x ∷ walk I (role_of c.sup) x (parts_of u c) x

-- a set of a chain stays where an element is shown
set_shown : (v v' : List ℕ) (i y j : ℕ) → i < 1024 → v' ≡ set v (shown_at + i) y → set_at v' (left_at + j) ≡ set_at v (left_at + j)
set_shown v v' i y j h e =
    set_same v v' (left_at + j) (ap (λ (w : List ℕ). get_or w (2 * (left_at + j)) 0) e ∙ get_or-set_other v (shown_at + i) (2 * (left_at + j)) y 0 (λ q. absurd (omega arith)))
    (ap (λ (w : List ℕ). get_or w (2 * (left_at + j) + 1) 0) e ∙ get_or-set_other v (shown_at + i) (2 * (left_at + j) + 1) y 0 (λ q. absurd (omega arith)))

pub shown_left : (v v' : List ℕ) (y : ℕ) → v' ≡ set v shown_at y → (j : ℕ) → set_at v' (left_at + j) ≡ set_at v (left_at + j)
shown_left v v' y e j = set_shown v v' 0 y j (omega arith) e

pub walked_first : (u v : List ℕ) (size : ℕ) (c : Chain) (x : ℕ) → x < size → shown_at < length u → v ≡ set u shown_at x → Walked v v size c x c.parts x
walked_first u v size c x h long e = record {
  aside = aside_refl v;
  upto = omega arith;
  element = h;
  left = λ j l. refl;
  breaks = λ I C L b. ap (λ (p : List Role). onward I (role_of c.sup) x p x) (last_all v c) ∙ b;
  path = λ I C L.
      let z : c.parts - c.parts + 1 ≡ 1 = omega arith in
      ap (λ (k : ℕ). shown v k ++ walk I (role_of c.sup) x (last_parts v c c.parts) x) z ∙ ap (λ (l : List ℕ). l ++ walk I (role_of c.sup) x (last_parts v c c.parts) x) (shown_more u v 0 x (omega arith) e)
      ∙ ap (λ (p : List Role). x ∷ walk I (role_of c.sup) x p x) (last_all v c);
}

pub walk_kept : (s s' : List ℕ) (size : ℕ) (c : Chain) (x k y : ℕ) → WalkIn s size c x k y → Aside (words s) (words s') → ((j : ℕ) → j ≤ c.parts → set_at (words s') (left_at + j) ≡ set_at (words s) (left_at + j)) → length s' ≡ length s → WalkIn s' size c x k y
unfolding chain_kept
walk_kept s s' size c x k y P A S e =
    let C = P.chain in
    record {
      chain = chain_kept s s' size c A e C;
      left = left_kept (words s) (words s') c x A C.among S C.meant P.left;
      among = P.among;
      element = P.element;
      breaks = ap (λ (p : List Role). onward C.meant (role_of c.sup) x p y) (last_kept (words s) (words s') c A C.among k P.among) ∙ P.breaks;
    }

pub walked_in : (s₀ s : List ℕ) (size : ℕ) (c : Chain) (x k y : ℕ) → Walked (words s₀) (words s) size c x k y → WalkIn s₀ size c x c.parts x → length s ≡ length s₀ → WalkIn s size c x k y
walked_in s₀ s size c x k y K P e =
    let C = P.chain in
    walk_kept s₀ s size c x k y
    (record { chain = C; left = P.left; among = K.upto; element = K.element; breaks = K.breaks C.meant C.chained P.left (ap (λ (p : List Role). onward C.meant (role_of c.sup) x p x) (sym (last_all (words s₀) c)) ∙ P.breaks) })
    K.aside K.left e

pub walked_next : (u v v' : List ℕ) (size : ℕ) (c : Chain) (x k y r : ℕ) → Among c → c.parts < 1024 → Walked u v size c x (suc k) y
    → ((I : Interpretation) → Chained I v size c → AllLeft I v c x → (r ≡ next_of I v c x k y) × (r < I.size)) → r < size → shown_at + (c.parts - k) < length v → v' ≡ set v (shown_at + (c.parts - k)) r → Aside v v' → Walked u v' size c x k r
walked_next u v v' size c x k y r W few K N h long e A = record {
  aside = aside_trans u v v' K.aside A;
  upto = omega (arith, K.upto);
  element = h;
  left = λ j l. set_shown v v' (c.parts - k) r j (omega arith) e ∙ K.left j l;
  breaks = λ I C L b. ap (onward I sup x (last_parts u c k)) (is I C L) ∙ next_breaks_lem I sup x part (last_parts u c k) y (ap (λ (p : List Role). onward I sup x p y) (sym (last_next u c k K.upto)) ∙ K.breaks I C L b);
  path = λ I C L.
      let a : c.parts - k + 1 ≡ suc (c.parts - k) = omega (arith, K.upto) in
      let b : c.parts - suc k + 1 ≡ c.parts - k = omega (arith, K.upto) in
      ap (λ (i : ℕ). shown v' i ++ walk I sup x (last_parts u c k) r) a
      ∙ ap (λ (l : List ℕ). l ++ walk I sup x (last_parts u c k) r) (shown_more v v' (c.parts - k) r long e)
      ∙ append_assoc (shown v (c.parts - k)) (r ∷ []) (walk I sup x (last_parts u c k) r)
      ∙ ap (λ (i : ℕ). shown v i ++ (r ∷ walk I sup x (last_parts u c k) r)) (sym b)
      ∙ ap (λ (l : List ℕ). shown v (c.parts - suc k + 1) ++ l) (ap (λ (n : ℕ). n ∷ walk I sup x (last_parts u c k) n) (is I C L) ∙ sym (stepped I))
      ∙ K.path I C L;
}
  where
    sup : Role
    sup = role_of c.sup

    part : Role
    part = role_of (part_code u c (c.parts - suc k))

    is : (I : Interpretation) → Chained I u size c → AllLeft I u c x → r ≡ next_of I u c x k y
    is I C L =
        (N I (chained_kept u v c K.aside W I size C) (left_kept u v c x K.aside W K.left I L)).0
        ∙ ap (λ (n : ℕ). first_where (λ w. related I (role_of n) y w && not (onward I sup x (last_parts v c k) w)) (rises 0 I.size)) (code_kept u v c K.aside W (c.parts - suc k) (omega (arith, K.upto)))
        ∙ ap (λ (p : List Role). first_where (λ w. related I part y w && not (onward I sup x p w)) (rises 0 I.size)) (last_kept u v c K.aside W k (omega (arith, K.upto)))

    stepped : (I : Interpretation) → walk I sup x (last_parts u c (suc k)) y ≡ next_of I u c x k y ∷ walk I sup x (last_parts u c k) (next_of I u c x k y)
    stepped I = ap (λ (p : List Role). walk I sup x p y) (last_next u c k K.upto) ∙ walk_step I sup x part (last_parts u c k) y

pub walked_end : (u v : List ℕ) (size : ℕ) (c : Chain) (x k y : ℕ) → Walked u v size c x k y → k ≤ 0 → (I : Interpretation) → Chained I u size c → AllLeft I u c x → shown v (c.parts + 1) ≡ x ∷ walk I (role_of c.sup) x (parts_of u c) x
walked_end u v size c x k y K h I C L =
    let z : k ≡ 0 = omega arith in
    let a : c.parts + 1 ≡ c.parts - k + 1 = omega arith in
    let sup = role_of c.sup in
    ap (shown v) a ∙ sym (append-nil (shown v (c.parts - k + 1)))
    ∙ ap (λ (l : List ℕ). shown v (c.parts - k + 1) ++ l) (sym (ap (λ (p : List Role). walk I sup x p y) (ap (last_parts u c) z ∙ last_none u c) ∙ walk_none I sup x y)) ∙ K.path I C L

-- ---- every first element
module _ (I : Interpretation) (sup : Role) (parts : List Role) where
  abbrev path_from : ℕ → Option (List ℕ)
  path_from y = behind y (least_of (rises 0 I.size) (length parts) (λ l. chain_at I sup y parts (y ∷ l)))

  path_by : (y : ℕ) (b : Bool) → y < I.size → onward I sup y parts y ≡ b → path_from y ≡ behind y (pick b none (some (walk I sup y parts y)))
  path_by y b h e = ap (behind y) (chain_walk I sup y parts y h ∙ ap (λ d. pick {A = Option (List ℕ)} d none (some (walk I sup y parts y))) e)

  paths : least_of (rises 0 I.size) (suc (length parts)) (λ l. chain_at I sup (place l 0) parts l) ≡ first_of path_from (rises 0 I.size)
  unfolding least_of
  paths = refl

  pub path_here : (x : ℕ) (l : List ℕ) → x < I.size → ((y : ℕ) → y < x → onward I sup y parts y ≡ true) → onward I sup x parts x ≡ false → l ≡ x ∷ walk I sup x parts x
      → some l ≡ least_of (rises 0 I.size) (suc (length parts)) (λ l. chain_at I sup (place l 0) parts l)
  path_here x l h g b e =
      let q : path_from x ≡ some (x ∷ walk I sup x parts x) = path_by x false h b in
      ap some e ∙ sym (paths ∙ first_here path_from I.size x (x ∷ walk I sup x parts x) h (λ y k. path_by y true (omega arith) (g y k)) q ∙ q)

  pub path_nowhere : ((y : ℕ) → y < I.size → onward I sup y parts y ≡ true) → none ≡ least_of (rises 0 I.size) (suc (length parts)) (λ l. chain_at I sup (place l 0) parts l)
  path_nowhere g = sym (paths ∙ first_nowhere path_from I.size (λ y k. path_by y true k (g y k)))

pub walk_start : (s₀ s : List ℕ) (size : ℕ) (c : Chain) (x : ℕ) (C : ChainIn s₀ size c) → Aside (words s₀) (words s) → length s ≡ length s₀ → AllLeft C.meant (words s) c x → x < size → onward C.meant (role_of c.sup) x (parts_of (words s₀) c) x ≡ false → WalkIn s size c x c.parts x
unfolding chain_kept
walk_start s₀ s size c x C A e L h b = record {
  chain = chain_kept s₀ s size c A e C;
  left = L;
  among = omega arith;
  element = h;
  breaks = ap (λ (p : List Role). onward C.meant (role_of c.sup) x p x) (last_all (words s) c ∙ parts_kept (words s₀) (words s) c A C.among) ∙ b;
}

-- the first x elements do not break the chain
abbrev pub Tried : List ℕ → ℕ → Chain → ℕ → Type 0
Tried u size c x = (I : Interpretation) → Chained I u size c → (y : ℕ) → y < x → onward I (role_of c.sup) y (parts_of u c) y ≡ true

module _ (u v : List ℕ) (size : ℕ) (c : Chain) (x : ℕ) (A : Aside u v) (W : Among c) (h : x < size) where
  -- what `has` says
  pub onward_is : (b : Bool) → ((n : ℕ) (f : ℕ → Bool) → x < n → set_at v (left_at + c.parts) ≡ mask_of n f → b ≡ f x) → (I : Interpretation) → Chained I v size c → AllLeft I v c x → b ≡ not (onward I (role_of c.sup) x (parts_of u c) x)
  onward_is b H I C L =
      H I.size (λ y. not (onward I (role_of c.sup) x (last_parts v c c.parts) y)) (omega (arith, C.sized)) (L c.parts (omega arith))
      ∙ ap (λ (p : List Role). not (onward I (role_of c.sup) x p x)) (last_all v c ∙ parts_kept u v c A W)

  pub tried_next : Tried u size c x → ((I : Interpretation) → Chained I u size c → onward I (role_of c.sup) x (parts_of u c) x ≡ true) → Tried u size c (x + 1)
  tried_next T g I C y k = by_truth (ltb y x) (λ q. T I C y (ltb-true y x q)) (λ q. let b = ltb-false y x q in let z : x ≡ y = omega arith in subst (λ (n : ℕ). onward I (role_of c.sup) n (parts_of u c) n ≡ true) z (g I C))
