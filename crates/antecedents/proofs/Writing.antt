-- The writing of one alternative, one law for each way through the code.
use mathlib.Core.Path.{◌≡◌, refl, sym, ap, ap₂, ◌∙◌, subst}
use mathlib.Core.Bool.{Bool, true, false}
use mathlib.Core.List.{List, [], ◌∷◌, ◌++◌}
use Prim.{Unit, tt}
use Prim.Native.Nat.{ℕ, zero, suc, ◌+◌, ◌*◌, ◌-◌, ◌/◌, ◌%◌, ◌<◌, ◌≤◌, ◌^◌}
use native.Mathlib.Omega.{arith}
use native.Mathlib.Nat.{add-zero, sub-zero, div-div-eq-div-mul}
use lib.Dec.{ltb}
use lib.ListN.{length, get_or}
use lib.Seq.{sets}
use borrow.Author.Tests.{lt-ltb, le-ltb}
use Rattle.std.specs.Prelude.{Option, None, Some}
use Rattle.words.specs.Words.{words}
use Rattle.words.specs.Laws.{length_words}
use Rattle.ir.specs.Pick.{pick}
use Rattle.ir.specs.Records.{six}
use Rattle.ir.specs.Roles.{role_id, role_code, role_of, role_code_lem, code_role}
use Rattle.ir.specs.Scratch.{hands_at}
use Rattle.ir.specs.declared.role.Role.{Role}
use Rattle.ir.specs.declared.role.Role.TheVariants.{Named, Inverse}
use Rattle.ir.specs.declared.atom.Atom.{Atom}
use Rattle.ir.specs.declared.atom.Atom.TheVariants.{Class, Role as RoleAtom}
use Rattle.rules.specs.Concept.{Concept}
use Rattle.rules.specs.Concept.{Top, Atomic, Nominal, And, Or, Some}
use Rattle.rules.specs.Deck.{most_roles}
use Rattle.rules.specs.Inverse.{InverseCanon, canon_role}
use Rattle.rules.specs.Invariants.{Each, Bounded}
use Rattle.pool.specs.Layout.{members_at, run, field, record_at, count_of, concept_at, pool_of}
use Rattle.pool.specs.HeldLaws.{pool_length, pool_at}
use Rattle.pool.specs.Tabs.{tab_next, tab_end, each_tab}
use Rattle.inverse.specs.Layout.{RolesHeld}
use Rattle.antecedents.specs.declared.write.Chosen.{Chosen}
use Rattle.antecedents.specs.declared.write.Part.{Part}
use Rattle.antecedents.specs.Stands.{Listed, list_in}
use Rattle.antecedents.specs.Kinds.{at_top, at_class, at_nominal, at_and, at_or, at_some, Other, by_other}
use Rattle.antecedents.specs.Table.{size_in, vars_in, plus_vars}
use Rattle.antecedents.specs.Picks.{Pick, pick_and, pick_or, pick_step, pick_alt, put_at, write_on}
use Rattle.antecedents.specs.Writes.{Writable, Reads, Kept, WroteRole, Wrote, WroteList, chosen_of, PartIs}
use Rattle.antecedents.specs.WriteLaws.{write_append, put_kept, kept_none, kept_trans, kept_hands, hands_word, concept_like, size_like, vars_like, roles_like, reads_kept}
use Rattle.antecedents.proofs.Counting.{part_below}
use Rattle.antecedents.proofs.Rows.{Here}

-- ---- one atom
sixth : (s : List ℕ) → length (words s) / 6 ≡ length s / 24
sixth s = ap (λ (n : ℕ). n / 6) (length_words s) ∙ div-div-eq-div-mul (length s) 4 6

pub put_room : (s : List ℕ) (w' : List ℕ) (q : ℕ) (a : Atom) → q < length s / 24 → w' ≡ sets (words s) (6 * q) (six a) → ◌≡◌ {A = List ℕ × ℕ} (w', q + 1) (put_at (words s) q a)
put_room s w' q a h e = rw (lt-ltb q (length (words s) / 6) (rw (sixth s) h)) (ap (λ (z : List ℕ). (z, q + 1)) e)

pub put_full : (s : List ℕ) (q : ℕ) (a : Atom) → length s / 24 ≤ q → ◌≡◌ {A = List ℕ × ℕ} (words s, q) (put_at (words s) q a)
put_full s q a h = rw (le-ltb q (length (words s) / 6) (rw (sixth s) h)) refl

pub role_written : (w : List ℕ) (c v y q : ℕ) (w' : List ℕ) (r : ℕ) (code : ℕ) (o : Role) → code ≡ field w c 1 → ((m : InverseCanon) → RolesHeld w m → o ≡ canon_role m (role_of code)) → ◌≡◌ {A = List ℕ × ℕ} (w', r) (put_at w q (RoleAtom o v y))
    → WroteRole w c v y q w' r
role_written w c v y q w' r code o ec eo e = record {
  kept = put_kept w q (RoleAtom o v y) w' r e;
  same = λ m h. e ∙ ap (λ (z : Role). put_at w q (RoleAtom z v y)) (eo m h ∙ ap (λ (z : ℕ). canon_role m (role_of z)) ec);
}

-- ---- the search for a disjunct
abbrev one : ℕ → ℕ → ℕ → Option Chosen
one x y k = Some (record { id = x; var = y; index = k })

pub record Look (w : List ℕ) (start many y k u j i : ℕ) : Type 0 where
  pub within : i ≤ many
  pub rest : chosen_of w (run w (members_at + start) many) y k ≡ chosen_of w (run w (members_at + start + i) (many - i)) u j

module _ (w : List ℕ) (start many y k : ℕ) where
  pub look_first : Look w start many y k y k 0
  look_first = record { within = omega arith; rest = rw (add-zero (members_at + start), sub-zero many) refl }

  module _ (u j i : ℕ) (look : Look w start many y k u j i) where
    pub look_end : many ≤ i → None ≡ chosen_of w (run w (members_at + start) many) y k
    unfolding chosen_of
    look_end h = sym (look.rest ∙ ap (λ (l : List ℕ). chosen_of w l u j) (tab_end (λ n. get_or w n 0) (members_at + start) i many h))

    module _ (x n : ℕ) (ex : x ≡ get_or w (members_at + (start + i)) 0) (en : n ≡ size_in w x) (lt : i < many) where
      next_is : run w (members_at + start + i) (many - i) ≡ x ∷ run w (members_at + start + (i + 1)) (many - (i + 1))
      next_is =
          let d : members_at + start + i ≡ members_at + (start + i) = omega arith in
          tab_next (λ n. get_or w n 0) (members_at + start) i many lt ∙ ap (λ (z : ℕ). z ∷ run w (members_at + start + (i + 1)) (many - (i + 1))) (ap (λ (z : ℕ). get_or w z 0) d ∙ sym ex)

      found_here : (l : List ℕ) → j < n → chosen_of w (x ∷ l) u j ≡ one x u j
      unfolding chosen_of
      found_here l h = rw (← en, lt-ltb j n h) refl

      not_here : (l : List ℕ) → n ≤ j → (z u' : ℕ) → z ≡ vars_in w x → u' ≡ plus_vars u z → chosen_of w (x ∷ l) u j ≡ chosen_of w l u' (j - n)
      unfolding chosen_of
      not_here l h z u' ez eu = rw (← en, le-ltb j n h, eu, ez) refl

      pub look_found : j < n → one x u j ≡ chosen_of w (run w (members_at + start) many) y k
      look_found h = sym (look.rest ∙ ap (λ (l : List ℕ). chosen_of w l u j) next_is ∙ found_here (run w (members_at + start + (i + 1)) (many - (i + 1))) h)

      pub look_next : n ≤ j → (z u' : ℕ) → z ≡ vars_in w x → u' ≡ plus_vars u z → Look w start many y k u' (j - n) (i + 1)
      look_next h z u' ez eu = record {
        within = omega arith;
        rest = look.rest ∙ ap (λ (l : List ℕ). chosen_of w l u j) next_is ∙ not_here (run w (members_at + start + (i + 1)) (many - (i + 1))) h z u' ez eu;
      }

on_chosen : (ℕ → ℕ → ℕ → List Atom) → Option Chosen → List Atom
on_chosen P (Some q) = P q.id q.var q.index
on_chosen P None = []

pick_chosen : (P : ℕ → ℕ → ℕ → List Atom) (b : Bool) (x y : Option Chosen) (z : List Atom) → z ≡ on_chosen P y → pick b (on_chosen P x) z ≡ on_chosen P (pick b x y)
pick_chosen P true x y z e = refl
pick_chosen P false x y z e = e

-- the rows that choose may be those of other words
or_chosen : (w t : List ℕ) (c : ℕ) → ((d : ℕ) → d < c → size_in w d ≡ size_in t d) → ((d : ℕ) → d < c → vars_in w d ≡ vars_in t d) → (P : Pick) (v : ℕ) (l : List ℕ) (y k : ℕ) → Each (λ d. d < c) l
    → pick_or t P v l y k ≡ on_chosen (λ x u j. P x v u j) (chosen_of w l y k)
unfolding pick_or chosen_of on_chosen
or_chosen w t c es ev P v [] y k h = refl
or_chosen w t c es ev P v (x ∷ l) y k h =
    rw (← es x h.0, ← ev x h.0) (pick_chosen (λ x u j. P x v u j) (ltb k (size_in w x)) (one x y k) (chosen_of w l (plus_vars y (vars_in w x)) (k - size_in w x))
    (pick_or t P v l (plus_vars y (vars_in w x)) (k - size_in w x)) (or_chosen w t c es ev P v l (plus_vars y (vars_in w x)) (k - size_in w x) h.1))

BelowC : ℕ → Option Chosen → Type 0
BelowC c (Some q) = q.id < c
BelowC c None = Unit {0}

pick_below : (c : ℕ) (b : Bool) (x y : Option Chosen) → BelowC c x → BelowC c y → BelowC c (pick b x y)
pick_below c true x y p q = p
pick_below c false x y p q = q

below_of : (w : List ℕ) (c : ℕ) (l : List ℕ) (y k : ℕ) → Each (λ d. d < c) l → BelowC c (chosen_of w l y k)
unfolding chosen_of BelowC
below_of w c [] y k h = tt
below_of w c (x ∷ l) y k h = pick_below c (ltb k (size_in w x)) (one x y k) (chosen_of w l (plus_vars y (vars_in w x)) (k - size_in w x)) h.0 (below_of w c l (plus_vars y (vars_in w x)) (k - size_in w x) h.1)

listed_each : (w : List ℕ) (c start many : ℕ) → Listed w c start many → Each (λ d. d < c) (run w (members_at + start) many)
listed_each w c start many L = each_tab (λ n. get_or w n 0) (λ d. d < c) (members_at + start) many L.smaller

pub chosen_below : (w : List ℕ) (c start many y k : ℕ) (o : Option Chosen) (q : Chosen) → Listed w c start many → o ≡ chosen_of w (run w (members_at + start) many) y k → o ≡ Some q → q.id < c
unfolding BelowC
chosen_below w c start many y k o q L e d = subst (BelowC c) (sym e ∙ d) (below_of w c (run w (members_at + start) many) y k (listed_each w c start many L))

-- ---- the next part
pub part_is : (w : List ℕ) (i r j y : ℕ) (p : Part) (n z : ℕ) → p.id ≡ get_or w (members_at + i) 0 → n ≡ size_in w p.id → p.left ≡ r / n → p.digit ≡ j / p.left → p.rest ≡ j % p.left
    → z ≡ vars_in w p.id → p.next ≡ plus_vars y z → PartIs w i r j y p
part_is w i r j y p n z ei en el ed er ez ex = record { id = ei; left = el ∙ ap (λ (m : ℕ). r / m) en; digit = ed; rest = er; next = ex ∙ ap (plus_vars y) ez }

-- ---- a concept's names fit an atom's record
module _ (s : List ℕ) (base c kind a b : ℕ) (S : Writable s base c) (h : Here (words s) c kind a b) where
  bounded : Bounded S.named.bounds c (concept_at (words s) c)
  bounded =
      let l : length (pool_of (words s) S.concepts) ≡ S.concepts = pool_length (words s) S.concepts in
      subst (Bounded S.named.bounds c) (pool_at (words s) S.concepts c S.inside) (S.named.wf c (rw l S.inside))

  kind_of : (x : ℕ) → kind ≡ x → field (words s) c 0 ≡ x
  kind_of x e = sym h.kind_is ∙ e

  pub class_of : kind ≡ 3 → a + 1 < 2 ^ 32
  class_of e = let z = subst (Bounded S.named.bounds c) (at_class (words s) c (kind_of 3 e)) bounded in rw h.a_is (omega (arith, z, S.named.classes))

  pub nominal_of : kind ≡ 4 → base + a + 1 < 2 ^ 32
  nominal_of e = let z = subst (Bounded S.named.bounds c) (at_nominal (words s) c (kind_of 4 e)) bounded in rw h.a_is (omega (arith, z, S.named.individuals, S.named.first))

  pub code_of_lem : kind ≡ 9 → field (words s) c 1 < 2 * most_roles
  code_of_lem e =
      let z : role_id (role_of (field (words s) c 1)) < S.named.bounds.roles = (subst (Bounded S.named.bounds c) (at_some (words s) c (kind_of 9 e)) bounded).0 in
      go (role_of (field (words s) c 1)) (code_role (field (words s) c 1)) (omega (arith, z, S.named.roles))
    where
      go : (r : Role) → role_code r ≡ field (words s) c 1 → role_id r < most_roles → field (words s) c 1 < 2 * most_roles
      go (Named i) q l = omega arith
      go (Inverse i) q l = omega arith

-- ---- a concept
module _ (base : ℕ) (w : List ℕ) (c kind a b : ℕ) (h : Here w c kind a b) (v y k q : ℕ) where
  kind_in_lem : (x : ℕ) → kind ≡ x → field w c 0 ≡ x
  kind_in_lem x e = sym h.kind_is ∙ e

  -- a record's concept e, at each reading of the words
  step_is : (e : Concept) → concept_at w c ≡ e → (w' : List ℕ) (r : ℕ) → Kept w q w' r
      → ((w₀ : List ℕ) (n f : ℕ) (canon : InverseCanon) → Reads w w₀ n canon → c < n → c ≤ f
      → ◌≡◌ {A = List ℕ × ℕ} (w', r) (write_on (w, q) (pick_step canon base (pool_of w₀ n) w₀ (λ d u z j. pick_alt canon base (pool_of w₀ n) w₀ f d u z j) c v y k e)))
      → Wrote base w c v y k q w' r
  unfolding pick_alt
  step_is e ee w' r K g = record { kept = K; same = λ w₀ n f canon R l m. go w₀ n f canon R l m }
    where
      go : (w₀ : List ℕ) (n f : ℕ) (canon : InverseCanon) → Reads w w₀ n canon → c < n → c < f → ◌≡◌ {A = List ℕ × ℕ} (w', r) (write_on (w, q) (pick_alt canon base (pool_of w₀ n) w₀ f c v y k))
      go w₀ n zero canon R l m = absurd (omega arith)
      go w₀ n (suc f) canon R l m =
          g w₀ n f canon R l (omega arith)
          ∙ ap (λ (x : Concept). write_on (w, q) (pick_step canon base (pool_of w₀ n) w₀ (λ d u z j. pick_alt canon base (pool_of w₀ n) w₀ f d u z j) c v y k x)) (sym (concept_like w w₀ n canon R c l ∙ ee))

  pub is_top_lem : kind ≡ 1 → Wrote base w c v y k q w q
  unfolding write_on
  is_top_lem e = step_is Top (at_top w c (kind_in_lem 1 e)) w q (kept_none w q) (λ w₀ n f canon R l m. refl)

  pub is_class : kind ≡ 3 → (w' : List ℕ) (r : ℕ) → ◌≡◌ {A = List ℕ × ℕ} (w', r) (put_at w q (Class a v)) → Wrote base w c v y k q w' r
  unfolding write_on
  is_class e w' r p = step_is (Atomic a) (rw h.a_is (at_class w c (kind_in_lem 3 e))) w' r (put_kept w q (Class a v) w' r p) (λ w₀ n f canon R l m. p)

  pub is_nominal : kind ≡ 4 → (w' : List ℕ) (r : ℕ) → ◌≡◌ {A = List ℕ × ℕ} (w', r) (put_at w q (Class (base + a) v)) → Wrote base w c v y k q w' r
  unfolding write_on
  is_nominal e w' r p = step_is (Nominal a) (rw h.a_is (at_nominal w c (kind_in_lem 4 e))) w' r (put_kept w q (Class (base + a) v) w' r p) (λ w₀ n f canon R l m. p)

  pub is_and : kind ≡ 7 → (w' : List ℕ) (r : ℕ) → WroteList base w c v y k q w' r → Wrote base w c v y k q w' r
  is_and e w' r p = step_is (And (list_in w c)) (at_and w c (kind_in_lem 7 e)) w' r p.kept (λ w₀ n f canon R l m. p.same w₀ n f canon R l m)

  -- the chosen disjunct's
  or_is : kind ≡ 8 → Listed w c b a → (x : Option Chosen) → x ≡ chosen_of w (run w (members_at + b) a) y k → (w' : List ℕ) (r : ℕ) → Kept w q w' r
      → ((w₀ : List ℕ) (n f : ℕ) (canon : InverseCanon) → Reads w w₀ n canon → c < n → c ≤ f
      → ◌≡◌ {A = List ℕ × ℕ} (w', r) (write_on (w, q) (on_chosen (λ d u j. pick_alt canon base (pool_of w₀ n) w₀ f d v u j) x)))
      → Wrote base w c v y k q w' r
  or_is e L x ex w' r K g = step_is (Or (run w (members_at + b) a)) (rw (h.a_is, h.b_is) (at_or w c (kind_in_lem 8 e))) w' r K
      (λ w₀ n f canon R l m. g w₀ n f canon R l m
      ∙ ap (write_on (w, q)) (ap (on_chosen (λ d u j. pick_alt canon base (pool_of w₀ n) w₀ f d v u j)) ex
      ∙ sym (or_chosen w w₀ c (λ d i. size_like w w₀ n canon R d (omega arith)) (λ d i. vars_like w w₀ n canon R d (omega arith)) (pick_alt canon base (pool_of w₀ n) w₀ f) v (run w (members_at + b) a) y k (listed_each w c b a L))))

  pub is_nothing : kind ≡ 8 → Listed w c b a → (x : Option Chosen) → x ≡ chosen_of w (run w (members_at + b) a) y k → x ≡ None → Wrote base w c v y k q w q
  unfolding on_chosen write_on
  is_nothing e L x ex en = or_is e L x ex w q (kept_none w q) (λ w₀ n f canon R l m. rw en refl)

  pub is_one_lem : kind ≡ 8 → Listed w c b a → (x : Option Chosen) → x ≡ chosen_of w (run w (members_at + b) a) y k → (o : Chosen) → x ≡ Some o → (w' : List ℕ) (r : ℕ) → Wrote base w o.id v o.var o.index q w' r → Wrote base w c v y k q w' r
  unfolding on_chosen
  is_one_lem e L x ex o eo w' r p =
      let i : o.id < c = chosen_below w c b a y k x o L ex eo in
      or_is e L x ex w' r p.kept (λ w₀ n f canon R l m. rw eo (p.same w₀ n f canon R (omega arith) (omega arith)))

  pub is_some_lem : kind ≡ 9 → hands_at ≤ 6 * q → b < c → (w₁ : List ℕ) (o : ℕ) → WroteRole w c v y q w₁ o → (u : ℕ) → u ≡ plus_vars y 1 → (w' : List ℕ) (r : ℕ) → Wrote base w₁ b y u k o w' r → Wrote base w c v y k q w' r
  unfolding write_on
  is_some_lem e hands d w₁ o p u eu w' r z = step_is (Some (role_of (field w c 1)) b) (rw h.b_is (at_some w c (kind_in_lem 9 e))) w' r (kept_trans w w₁ w' q o r p.kept z.kept)
      (λ w₀ n f canon R l m.
      z.same w₀ n f canon (reads_kept w w₀ n canon R q w₁ o hands p.kept) (omega arith) (omega arith)
      ∙ ap₂ (λ (s : List ℕ × ℕ) (t : ℕ). write_on s (pick_alt canon base (pool_of w₀ n) w₀ f b y t k)) (p.same canon (roles_like w w₀ n canon R)) eu)

  pub is_other : Other kind → Wrote base w c v y k q w q
  unfolding write_on
  is_other o = step_is (concept_at w c) refl w q (kept_none w q) (λ w₀ n f canon R l m.
      sym (ap (write_on (w, q)) (by_other (λ e. pick_step canon base (pool_of w₀ n) w₀ (λ d u z j. pick_alt canon base (pool_of w₀ n) w₀ f d u z j) c v y k e ≡ [])
      (record { bot = refl; self = λ _. refl; not = λ _. refl; all = λ _ _. refl; min = λ _ _ _. refl; max = λ _ _ _. refl })
      (record_at w c) (run w (members_at + field w c 3) (count_of (record_at w c))) (rw h.kind_is at o))))

-- ---- the loop over the parts
-- w₁: the words before it; r₀: the size of c; then the words, record, variable, product and index so far
pub record Turn (base : ℕ) (w₁ : List ℕ) (c start many v y k q r₀ : ℕ) (w : List ℕ) (o u r j i : ℕ) : Type 0 where
  pub within : i ≤ many
  pub kept : Kept w₁ q w o
  pub rest : (w₀ : List ℕ) (n f : ℕ) (canon : InverseCanon) → Reads w₁ w₀ n canon → c < n → c ≤ f
      → write_on (w₁, q) (pick_and w₀ (pick_alt canon base (pool_of w₀ n) w₀ f) v (run w₁ (members_at + start) many) y r₀ k)
      ≡ write_on (w, o) (pick_and w₀ (pick_alt canon base (pool_of w₀ n) w₀ f) v (run w₁ (members_at + start + i) (many - i)) u r j)

and_next : (t : List ℕ) (P : Pick) (v x : ℕ) (l : List ℕ) (u r j n r' d j' z u' : ℕ) → n ≡ size_in t x → r' ≡ r / n → d ≡ j / r' → j' ≡ j % r' → z ≡ vars_in t x → u' ≡ plus_vars u z
    → pick_and t P v (x ∷ l) u r j ≡ P x v u d ++ pick_and t P v l u' r' j'
unfolding pick_and
and_next t P v x l u r j n r' d j' z u' en er ed ej ez eu = rw (eu, ez, ej, ed, er, en) refl

module _ (base : ℕ) (w₁ : List ℕ) (c start many v y k q r₀ : ℕ) where
  pub turn_first : Turn base w₁ c start many v y k q r₀ w₁ q y r₀ k 0
  turn_first = record { within = omega arith; kept = kept_none w₁ q; rest = λ w₀ n f canon R l m. rw (add-zero (members_at + start), sub-zero many) refl }

  module _ (w : List ℕ) (o u r j i : ℕ) (turn : Turn base w₁ c start many v y k q r₀ w o u r j i) where
    pub turn_end : many ≤ i → r₀ ≡ size_in w₁ c → run w₁ (members_at + start) many ≡ list_in w₁ c → WroteList base w₁ c v y k q w o
    unfolding pick_and write_on
    turn_end h e is = record {
      kept = turn.kept;
      same = λ w₀ n f canon R l m.
          sym (ap (λ (z : ℕ). write_on (w₁, q) (pick_and w₀ (pick_alt canon base (pool_of w₀ n) w₀ f) v (run w₁ (members_at + start) many) y z k)) (sym (e ∙ size_like w₁ w₀ n canon R c l))
          ∙ turn.rest w₀ n f canon R l m
          ∙ ap (λ (z : List ℕ). write_on (w, o) (pick_and w₀ (pick_alt canon base (pool_of w₀ n) w₀ f) v z u r j)) (tab_end (λ n. get_or w₁ n 0) (members_at + start) i many h))
          ∙ ap (λ (z : List ℕ). write_on (w₁, q) (pick_and w₀ (pick_alt canon base (pool_of w₀ n) w₀ f) v z y (size_in w₀ c) k)) is;
    }

    module _ (hands : hands_at ≤ 6 * q) (L : Listed w₁ c start many) (lt : i < many) where
      -- the same member in the words so far
      pub part_same : get_or w (members_at + (start + i)) 0 ≡ get_or w₁ (members_at + (start + i)) 0
      part_same = hands_word w₁ w (kept_hands w₁ q w o hands turn.kept) (members_at + (start + i)) (omega (arith, L.within))

      pub part_less : get_or w (members_at + (start + i)) 0 < c
      part_less = rw part_same (part_below w₁ c start many i _ L lt refl)

      pub part_id_less : (p : Part) → PartIs w (start + i) r j u p → p.id < c
      part_id_less p X = subst (λ (z : ℕ). z < c) (sym X.id) part_less

      pub turn_next : (p : Part) → PartIs w (start + i) r j u p → (w' : List ℕ) (o' : ℕ) → Wrote base w p.id v u p.digit o w' o'
          → Turn base w₁ c start many v y k q r₀ w' o' p.next p.left p.rest (i + 1)
      turn_next p X w' o' wrote = record {
        within = omega arith;
        kept = kept_trans w₁ w w' q o o' turn.kept wrote.kept;
        rest = λ w₀ n f canon R l m.
            let R' = reads_kept w₁ w₀ n canon R q w o hands turn.kept in
            let d : members_at + start + i ≡ members_at + (start + i) = omega arith in
            let x : get_or w₁ (members_at + start + i) 0 ≡ p.id = ap (λ (z : ℕ). get_or w₁ z 0) d ∙ sym part_same ∙ sym X.id in
            let less : p.id < c = part_id_less p X in
            let rest : List ℕ = run w₁ (members_at + start + (i + 1)) (many - (i + 1)) in
            let P : Pick = pick_alt canon base (pool_of w₀ n) w₀ f in
            turn.rest w₀ n f canon R l m
            ∙ ap (λ (z : List ℕ). write_on (w, o) (pick_and w₀ P v z u r j)) (tab_next (λ n. get_or w₁ n 0) (members_at + start) i many lt ∙ ap (λ (z : ℕ). z ∷ rest) x)
            ∙ ap (write_on (w, o)) (and_next w₀ P v p.id rest u r j (size_in w p.id) p.left p.digit p.rest (vars_in w p.id) p.next (size_like w w₀ n canon R' p.id (omega arith)) X.left X.digit X.rest (vars_like w w₀ n canon R' p.id (omega arith)) X.next)
            ∙ write_append (P p.id v u p.digit) (pick_and w₀ P v rest p.next p.left p.rest) (w, o)
            ∙ ap (λ (z : List ℕ × ℕ). write_on z (pick_and w₀ P v rest p.next p.left p.rest)) (sym (wrote.same w₀ n f canon R' (omega arith) (omega arith)));
      }
