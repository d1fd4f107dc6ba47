-- The count of a concept's alternatives, one law for each way through the code.
use mathlib.Core.Path.{◌≡◌, refl, sym, ap, ◌∙◌, subst}
use mathlib.Core.Bool.{Bool, true, false}
use mathlib.Core.List.{List, [], ◌∷◌}
use Prim.{Unit, tt}
use Prim.Native.Nat.{ℕ, zero, suc, ◌+◌, ◌-◌, ◌<◌, ◌≤◌}
use native.Mathlib.Omega.{arith}
use native.Mathlib.Nat.{add-zero, sub-zero}
use lib.Dec.{ltb}
use lib.ListN.{get_or}
use borrow.Author.Tests.{ltb-true, ltb-false}
use Rattle.ir.specs.Counts.{visited, fresh_var}
use Rattle.ir.specs.declared.counters.Counters.{Counters}
use Rattle.ir.specs.Visit.{Visit}
use Rattle.ir.specs.Visit.{Begun, Full}
use Rattle.ir.specs.Encoded.{Encoded}
use Rattle.ir.specs.Encoded.{Found, Unsupported, Refused}
use Rattle.words.specs.Words.{words}
use Rattle.rules.specs.Concept.{Concept}
use Rattle.rules.specs.Concept.{Top, Atomic, Nominal, And, Or}
use Rattle.rules.specs.TextLaws.{by_test}
use Rattle.pool.specs.Layout.{members_at, run, field, is_list, record_at, count_of, concept_at, pool_of}
use Rattle.pool.specs.HeldLaws.{pool_at}
use Rattle.pool.specs.Tabs.{tab_next, tab_end}
use Rattle.tables.specs.Good.{Good}
use Rattle.antecedents.specs.Counts.{joined, under, count_all, count_step, count, GoodEncoded}
use Rattle.antecedents.specs.CountLaws.{count_good, joined_good}
use Rattle.antecedents.specs.Stands.{Stands, Listed, HasList, list_in, Counts, CountsAll, CountsList}
use Rattle.antecedents.specs.Kinds.{at_top, at_class, at_nominal, at_and, at_or, at_some, Other, by_other, listed_in, some_below}

-- ---- what a visit leaves
pub record Visited (v : Counters) : Type 0 where
  pub good : Good v
  pub less : v.next_var ≤ v.visits + 3

abbrev After : Visit → Type 0
After (Begun v) = Visited v
After Full = Unit {0}

after : (k : Counters) → Good k → After (visited k)
after k g = by_test (ltb k.visits k.limit)
    (λ e. let x = ltb-true k.visits k.limit e in let y = g.vars in let z = g.names in rw e (record {
      good = record { most = g.most; seen = omega arith; vars = omega arith; names = omega arith };
      less = omega arith;
    }))
    (λ e. rw e tt)

pub begun : (k v : Counters) → Good k → visited k ≡ Begun v → Visited v
begun k v g e = subst After e (after k g)

pub fresh_good : (v w : Counters) → Visited v → w ≡ fresh_var v → Good w
fresh_good v w h e = let y = h.less in subst Good (sym e) (record { most = h.good.most; seen = h.good.seen; vars = omega arith; names = h.good.names })

-- ---- a concept
-- the words of c's record, read
module _ (w : List ℕ) (c s m : ℕ) (es : s ≡ field w c 3) (em : m ≡ field w c 2) where
  pub listed_is : HasList w c → Listed w c s m
  listed_is L = rw (es, em) L

  pub list_is : run w (members_at + s) m ≡ list_in w c
  list_is = rw (es, em) refl

pub record Here (w : List ℕ) (k v : Counters) (c kind a b : ℕ) : Type 0 where
  pub go : visited k ≡ Begun v
  pub kind_is : kind ≡ field w c 0
  pub a_is : a ≡ field w c 2
  pub b_is : b ≡ field w c 3

pub counts_all : (w : List ℕ) (b : Bool) (c s m : ℕ) (acc r : Encoded) → s ≡ field w c 3 → m ≡ field w c 2 → CountsAll w b c s m acc r → CountsList w b c acc r
counts_all w b c s m acc r es em q n f l le = q n f l le ∙ ap (λ (x : List ℕ). count_all (count (pool_of w n) f) b x acc) (list_is w c s m es em)

pub is_full : (w : List ℕ) (k : Counters) (c : ℕ) → visited k ≡ Full → Counts w k c (Refused 10)
unfolding count
is_full w k c e n zero l lt = absurd (omega arith)
is_full w k c e n (suc f) l lt = rw e refl

step_is : (w : List ℕ) (n f c : ℕ) (k v : Counters) (e : Concept) → c < n → visited k ≡ Begun v → concept_at w c ≡ e → count (pool_of w n) (suc f) k c ≡ count_step (λ k₁ d. count (pool_of w n) f k₁ d) v e
unfolding count
step_is w n f c k v e lt g q = rw (g, pool_at w n c lt, q) refl

module _ (w : List ℕ) (k v : Counters) (c kind a b : ℕ) (h : Here w k v c kind a b) where
  kind_of : (x : ℕ) → kind ≡ x → field w c 0 ≡ x
  kind_of x e = sym h.kind_is ∙ e

  pub is_top_lem : kind ≡ 1 → Counts w k c (Found v 1 0)
  is_top_lem e n zero l lt = absurd (omega arith)
  is_top_lem e n (suc f) l lt = sym (step_is w n f c k v Top l h.go (at_top w c (kind_of 1 e)))

  pub is_class : kind ≡ 3 → Counts w k c (Found v 1 1)
  is_class e n zero l lt = absurd (omega arith)
  is_class e n (suc f) l lt = sym (step_is w n f c k v (Atomic (field w c 2)) l h.go (at_class w c (kind_of 3 e)))

  pub is_nominal : kind ≡ 4 → Counts w k c (Found v 1 1)
  is_nominal e n zero l lt = absurd (omega arith)
  is_nominal e n (suc f) l lt = sym (step_is w n f c k v (Nominal (field w c 2)) l h.go (at_nominal w c (kind_of 4 e)))

  pub is_and : kind ≡ 7 → (r : Encoded) → CountsAll w true c b a (Found v 1 0) r → Counts w k c r
  is_and e r q n zero l lt = absurd (omega arith)
  is_and e r q n (suc f) l lt = q n f l (omega arith) ∙ sym (step_is w n f c k v (And (run w (members_at + b) a)) l h.go (rw (h.a_is, h.b_is) (at_and w c (kind_of 7 e))))

  pub is_or : kind ≡ 8 → (r : Encoded) → CountsAll w false c b a (Found v 0 0) r → Counts w k c r
  is_or e r q n zero l lt = absurd (omega arith)
  is_or e r q n (suc f) l lt = q n f l (omega arith) ∙ sym (step_is w n f c k v (Or (run w (members_at + b) a)) l h.go (rw (h.a_is, h.b_is) (at_or w c (kind_of 8 e))))

  pub is_some_lem : kind ≡ 9 → b < c → (u : Counters) → u ≡ fresh_var v → (r r' : Encoded) → Counts w u b r → r' ≡ under r → Counts w k c r'
  is_some_lem e d u eu r r' q p n zero l lt = absurd (omega arith)
  is_some_lem e d u eu r r' q p n (suc f) l lt =
      p ∙ ap under (q n f (omega arith) (omega arith) ∙ ap (λ (x : Counters). count (pool_of w n) f x b) eu ∙ ap (count (pool_of w n) f (fresh_var v)) h.b_is)
      ∙ sym (step_is w n f c k v _ l h.go (at_some w c (kind_of 9 e)))

  pub is_other : Other kind → Counts w k c (Unsupported v)
  is_other o n zero l lt = absurd (omega arith)
  is_other o n (suc f) l lt =
      sym (step_is w n f c k v (concept_at w c) l h.go refl
      ∙ by_other (λ e. count_step (λ k₁ d. count (pool_of w n) f k₁ d) v e ≡ Unsupported v)
      (record { bot = refl; self = λ _. refl; not = λ _. refl; all = λ _ _. refl; min = λ _ _ _. refl; max = λ _ _ _. refl }) (record_at w c) (run w (members_at + field w c 3) (count_of (record_at w c))) (rw h.kind_is at o))

-- Atomic or Nominal, as one arm has them: a range of two kinds
pub named_kind : {P : Type 0} (kind : ℕ) → 3 ≤ kind → kind < 5 → (kind ≡ 3 → P) → (kind ≡ 4 → P) → P
named_kind kind low high f g = by_test (ltb kind 4) (λ e. let x = ltb-true kind 4 e in f (omega arith)) (λ e. let x = ltb-false kind 4 e in g (omega arith))

-- ---- what a concept of a pool has
module _ (s : List ℕ) (c kind b : ℕ) (S : Stands s c) (ek : kind ≡ field (words s) c 0) (eb : b ≡ field (words s) c 3) where
  pub down_of : kind ≡ 9 → b < c
  down_of e = rw eb (some_below (words s) S.concepts S.members S.held c S.inside (sym ek ∙ e))

  pub list_of_lem : (a : ℕ) → a ≡ field (words s) c 2 → is_list kind ≡ true → Listed (words s) c b a
  list_of_lem a ea e = rw (ea, eb) (listed_in (words s) S.concepts S.members S.held c S.inside (rw (← ek) e))

pub stands_below : (s : List ℕ) (c x : ℕ) → Stands s c → x < c → Stands s x
stands_below s c x S h = record { concepts = S.concepts; members = S.members; room = S.room; held = S.held; inside = omega (arith, S.inside) }

-- a member of a list
pub part_below : (w : List ℕ) (c start many i x : ℕ) → Listed w c start many → i < many → x ≡ get_or w (members_at + (start + i)) 0 → x < c
part_below w c start many i x L h e =
    let d : members_at + start + i ≡ members_at + (start + i) = omega arith in
    rw e (subst (λ (z : ℕ). get_or w z 0 < c) d (L.smaller i h))

-- ---- the loop over the parts
pub record Turn (w : List ℕ) (b : Bool) (c start many : ℕ) (acc₀ acc : Encoded) (i : ℕ) : Type 0 where
  pub within : i ≤ many
  pub good : GoodEncoded acc
  pub rest : (n f : ℕ) → c < n → c ≤ f → count_all (count (pool_of w n) f) b (run w (members_at + start) many) acc₀ ≡ count_all (count (pool_of w n) f) b (run w (members_at + start + i) (many - i)) acc

module _ (w : List ℕ) (b : Bool) (c start many : ℕ) where
  pub turn_first : (k : Counters) (n : ℕ) → Good k → Turn w b c start many (Found k n 0) (Found k n 0) 0
  turn_first k n g = record { within = omega arith; good = g; rest = λ n f l m. rw (add-zero (members_at + start), sub-zero many) refl }

  stopped : (G : Counters → ℕ → Encoded) (l : List ℕ) (acc : Encoded) → ((k : Counters) (n j : ℕ) → acc ≡ Found k n j → ⊥) → count_all G b l acc ≡ acc
  unfolding count_all
  stopped G [] acc h = refl
  stopped G (x ∷ l) (Found k n j) h = absurd (h k n j refl)
  stopped G (x ∷ l) (Unsupported k) h = refl
  stopped G (x ∷ l) (Refused e) h = refl

  one_turn : (G : Counters → ℕ → Encoded) (x : ℕ) (l : List ℕ) (acc acc' r : Encoded) (k : Counters) (n j : ℕ) → acc ≡ Found k n j → r ≡ G k x → acc' ≡ joined b n j r
      → count_all G b (x ∷ l) acc ≡ count_all G b l acc'
  unfolding count_all
  one_turn G x l acc acc' r k n j e q p = rw (e, p, q) refl

  module _ (acc₀ acc : Encoded) (i : ℕ) (turn : Turn w b c start many acc₀ acc i) where
    turn_stop : ((k : Counters) (n l : ℕ) → acc ≡ Found k n l → ⊥) → CountsAll w b c start many acc₀ acc
    turn_stop h n f l le = sym (turn.rest n f l le ∙ stopped (count (pool_of w n) f) (run w (members_at + start + i) (many - i)) acc h)

    pub turn_end : many ≤ i → CountsAll w b c start many acc₀ acc
    unfolding count_all
    turn_end h n f l le = sym (turn.rest n f l le ∙ ap (λ (m : List ℕ). count_all (count (pool_of w n) f) b m acc) (tab_end (λ j. get_or w j 0) (members_at + start) i many h))

    turn_good : (k : Counters) (n l : ℕ) → acc ≡ Found k n l → Good k
    turn_good k n l e = subst GoodEncoded e turn.good

    pub turn_next : i < many → Listed w c start many → (x : ℕ) → x ≡ get_or w (members_at + (start + i)) 0 → (k : Counters) (n l : ℕ) → acc ≡ Found k n l → (r acc' : Encoded) → Counts w k x r → acc' ≡ joined b n l r
        → Turn w b c start many acc₀ acc' (i + 1)
    turn_next lt L x ex k n l e r acc' q j =
        let d : members_at + (start + i) ≡ members_at + start + i = omega arith in
        let ex₁ : get_or w (members_at + start + i) 0 ≡ x = ap (λ (z : ℕ). get_or w z 0) (sym d) ∙ sym ex in
        let lo : x < c = part_below w c start many i x L lt ex in
        let g : GoodEncoded r = subst GoodEncoded (sym (q (suc x) (suc x) (omega arith) (omega arith))) (count_good (pool_of w (suc x)) (suc x) k x (turn_good k n l e)) in
        record {
          within = omega arith;
          good = subst GoodEncoded (sym j) (joined_good b n l r g);
          rest = λ n₁ f h le.
              turn.rest n₁ f h le
              ∙ ap (λ (m : List ℕ). count_all (count (pool_of w n₁) f) b m acc) (tab_next (λ j. get_or w j 0) (members_at + start) i many lt ∙ ap (λ (z : ℕ). z ∷ run w (members_at + start + (i + 1)) (many - (i + 1))) ex₁)
              ∙ one_turn (count (pool_of w n₁) f) x (run w (members_at + start + (i + 1)) (many - (i + 1))) acc acc' r k n l e (q n₁ f (omega arith) (omega arith)) j;
        }

  -- no numbers: the rest is not counted
  module _ (acc₀ acc : Encoded) (i : ℕ) (turn : Turn w b c start many acc₀ acc i) (lt : i < many) (L : Listed w c start many) (x : ℕ) (ex : x ≡ get_or w (members_at + (start + i)) 0)
      (k : Counters) (n l : ℕ) (e : acc ≡ Found k n l) (r : Encoded) (q : Counts w k x r) where
    pub turn_unsupported : (k' : Counters) → Unsupported k' ≡ joined b n l r → CountsAll w b c start many acc₀ (Unsupported k')
    turn_unsupported k' j = turn_stop acc₀ (Unsupported k') (i + 1) (turn_next acc₀ acc i turn lt L x ex k n l e r (Unsupported k') q j) (λ _ _ _ d. let z : ◌≡◌ {A = ℕ} 0 1 = cc in omega arith)

    pub turn_refused : (m : ℕ) → Refused m ≡ joined b n l r → CountsAll w b c start many acc₀ (Refused m)
    turn_refused m j = turn_stop acc₀ (Refused m) (i + 1) (turn_next acc₀ acc i turn lt L x ex k n l e r (Refused m) q j) (λ _ _ _ d. let z : ◌≡◌ {A = ℕ} 0 1 = cc in omega arith)
