-- Laws of the pool: it only grows, stays well formed and within its limits; interning answers the id of the record that was
-- asked for; and the constructors make normal forms of normal parts.
use Rattle.std.specs.Prelude.{◌≡◌, refl, Bool, true, false, ◌&&◌, List, [], ◌∷◌, ◌++◌, length, get_or, ltb, leb}
use Rattle.std.proofs.Common.{sym, ap, ◌∙◌, append-nil, append_assoc, not-suc-le-zero, arith, length-append, ltb-true, leb-true}
use Rattle.std.proofs.Math.Option.{Option, none, some}
use Prim.Native.Nat.{ℕ, zero, suc, ◌+◌, ◌<◌, ◌≤◌}
use Rattle.std.proofs.Math.Decide.{dec_lt}
use Rattle.std.proofs.Math.ListN.{get_or-append}
use Rattle.std.proofs.Math.Seq.{get_or-append_seam}
use Rattle.std.proofs.lemmas.Bool.{and_parts}
use Rattle.ir.specs.Roles.{role_code_lem}
use Rattle.ir.specs.RecordLaws.{same_words_lem}
use Rattle.ir.specs.declared.role.Role.{Role}
use Rattle.rules.specs.Base.{Res, ok, refused}
use Rattle.rules.specs.Text.{most_number}
use Rattle.rules.specs.Concept.{Concept, concept_row, same_concept}
use Rattle.rules.specs.Concept.{Top, Bot, Atomic, Nominal, SelfRestriction, Not, And, Or, Some, All, Min, Max}
use Rattle.rules.specs.Pool.{Pool, at, most_concepts, most_members, found_in, find, width, members, room, interned, intern_raw, mk_top, mk_bot, mk_not, mk_some, mk_all, mk_max, mk_min, mk_and, mk_or}
use Rattle.rules.specs.Deck.{concept_of}
use Rattle.rules.specs.Post.{Post, gives, refuses, give, post_map, post_ok}
use Rattle.rules.specs.Invariants.{Each, Bounds, RoleIn, Bounded, Wf, Grown, Made, IsLiteral, InAnd, InOr, TwoRising, NormalStep, Normal}
use Rattle.rules.specs.JointLaws.{Joint, conj, disj, list_of, InList, mk_joint, Offers, joint_post}
use Rattle.rules.specs.EachLaws.{each_map, each_any, each_both}

-- ---- two properties of one run
pub post_both : {S A : Type 0} {P Q : A → S → Type 0} {r : Res S A} → Post P r → Post Q r → Post (λ a s. P a s × Q a s) r
post_both {P = P} {Q = Q} {r = ok a s} h k = gives (post_ok P a s h, post_ok Q a s k)
post_both {r = refused n} h k = refuses

-- ---- pools that grow
pub grown_refl : (p : Pool) → Grown p p
grown_refl p = record { new = []; grown = sym (append-nil p) }

pub grown_trans : {p q r : Pool} → Grown p q → Grown q r → Grown p r
grown_trans {p} g h = record { new = g.new ++ h.new; grown = h.grown ∙ ap (λ z. z ++ h.new) g.grown ∙ append_assoc p g.new h.new }

pub grown_length : {p q : Pool} → Grown p q → length p ≤ length q
grown_length {p} g = rw g.grown (omega (arith, length-append p g.new))

pub grown_at : {p q : Pool} → Grown p q → (c : ℕ) → c < length p → at q c ≡ at p c
grown_at {p} g c h = rw g.grown (get_or-append p g.new Top c h)

pub grown_snoc : (p : Pool) (e : Concept) → Grown p (p ++ (e ∷ []))
grown_snoc p e = record { new = e ∷ []; grown = refl }

pub below_more : {m n : ℕ} → m ≤ n → (l : List ℕ) → Each (λ c. c < m) l → Each (λ c. c < n) l
below_more {m} {n} h = each_map (λ c. c < m) (λ c. c < n) (λ c k. omega arith)

pub bounded_more : (B : Bounds) (m n : ℕ) (e : Concept) → m ≤ n → Bounded B m e → Bounded B n e
bounded_more B m n Top h b = tt
bounded_more B m n Bot h b = tt
bounded_more B m n (Atomic _) h b = b
bounded_more B m n (Nominal _) h b = b
bounded_more B m n (SelfRestriction _) h b = b
bounded_more B m n (Not _) h b = omega arith
bounded_more B m n (And l) h b = below_more h l b
bounded_more B m n (Or l) h b = below_more h l b
bounded_more B m n (Some _ _) h b = (b.0, omega arith)
bounded_more B m n (All _ _) h b = (b.0, omega arith)
bounded_more B m n (Min _ _ _) h b = (b.0, b.1, omega arith)
bounded_more B m n (Max _ _ _) h b = (b.0, b.1, omega arith)

-- one more record over the pool's ids
pub wf_snoc : (B : Bounds) (p : Pool) (e : Concept) → Wf B p → Bounded B (length p) e → Wf B (p ++ (e ∷ []))
wf_snoc B p e w b c h = go (dec_lt c (length p))
  where
    go : Dec (c < length p) → Bounded B c (at (p ++ (e ∷ [])) c)
    go (yes k) = rw (get_or-append p (e ∷ []) Top c k) (w c k)
    go (no k) =
        let n : c ≡ length p = omega (arith, simp length-append at h) in
        rw n (rw (get_or-append_seam p e [] Top) b)

-- ---- normal forms: what holds of a record's parts may be replaced, in a pool that agrees on them
pub normal_step : (B : Bounds) (N O : ℕ → Type 0) (p q : Pool) (n : ℕ) → ((d : ℕ) → d < n → at q d ≡ at p d) → ((d : ℕ) → d < n → N d → O d) → (e : Concept)
    → Bounded B n e → NormalStep N p e → NormalStep O q e
normal_step B N O p q n same more Top b h = tt
normal_step B N O p q n same more Bot b h = tt
normal_step B N O p q n same more (Atomic _) b h = tt
normal_step B N O p q n same more (Nominal _) b h = tt
normal_step B N O p q n same more (SelfRestriction _) b h = tt
normal_step B N O p q n same more (Not c) b h = rw (same c b) h
normal_step B N O p q n same more (And l) b h = (
  h.0,
  each_both (λ c. c < n) (λ c. InAnd (at p c)) (λ c. InAnd (at q c)) (λ c k i. rw (same c k) i) l b h.1,
  each_both (λ c. c < n) N O more l b h.2,
)
normal_step B N O p q n same more (Or l) b h = (
  h.0,
  each_both (λ c. c < n) (λ c. InOr (at p c)) (λ c. InOr (at q c)) (λ c k i. rw (same c k) i) l b h.1,
  each_both (λ c. c < n) N O more l b h.2,
)
normal_step B N O p q n same more (Some _ c) b h = more c b.1 h
normal_step B N O p q n same more (All _ c) b h = more c b.1 h
normal_step B N O p q n same more (Min zero _ c) b h = h
normal_step B N O p q n same more (Min (suc _) _ c) b h = more c b.2 h
normal_step B N O p q n same more (Max _ _ c) b h = more c b.2 h

pub normal_grown : (B : Bounds) (f : ℕ) (p q : Pool) (c : ℕ) → Wf B p → Grown p q → c < length p → Normal f p c → Normal f q c
normal_grown B zero p q c w g h k = k
normal_grown B (suc f) p q c w g h k = rw (grown_at g c h)
    (normal_step B (Normal f p) (Normal f q) p q c (λ d i. grown_at g d (omega arith)) (λ d i. normal_grown B f p q d w g (omega arith)) (at p c) (w c h) k)

-- any fuel above the id will do
pub normal_fuel : (B : Bounds) (f g : ℕ) (p : Pool) (c : ℕ) → Wf B p → c < length p → c < g → Normal f p c → Normal g p c
normal_fuel B zero g p c w h i k = absurd k
normal_fuel B (suc f) zero p c w h i k = absurd (not-suc-le-zero i)
normal_fuel B (suc f) (suc g) p c w h i k =
    normal_step B (Normal f p) (Normal g p) p p c (λ d j. refl) (λ d j. normal_fuel B f g p d w (omega arith) (omega arith)) (at p c) (w c h) k

-- so that this is the one form in which laws speak of a normal concept
abbrev pub IsNormal : Pool → ℕ → Type 0
IsNormal p c = Normal (suc c) p c

-- a concept is normal where its record is one over normal concepts
pub normal_record : (B : Bounds) (p : Pool) (c : ℕ) → Wf B p → c < length p → IsNormal p c → NormalStep (IsNormal p) p (at p c)
normal_record B p c w h = normal_step B (Normal c p) (IsNormal p) p p c (λ d j. refl) (λ d j. normal_fuel B c (suc d) p d w (omega arith) (omega arith)) (at p c) (w c h)

pub record_normal : (B : Bounds) (p : Pool) (c : ℕ) → Wf B p → c < length p → NormalStep (IsNormal p) p (at p c) → IsNormal p c
record_normal B p c w h = normal_step B (IsNormal p) (Normal c p) p p c (λ d j. refl) (λ d j. normal_fuel B (suc d) c p d w (omega arith) (omega arith)) (at p c) (w c h)

-- ---- equal rows mean equal concepts
pub row_back : (e : Concept) → concept_of (get_or (concept_row e) 0 0) (concept_row e) ≡ e
unfolding concept_of
row_back Top = refl
row_back Bot = refl
row_back (Atomic _) = refl
row_back (Nominal _) = refl
row_back (SelfRestriction r) = rw (role_code_lem r)
row_back (Not _) = refl
row_back (And _) = refl
row_back (Or _) = refl
row_back (Some r _) = rw (role_code_lem r)
row_back (All r _) = rw (role_code_lem r)
row_back (Min _ r _) = rw (role_code_lem r)
row_back (Max _ r _) = rw (role_code_lem r)

pub row_inj : (e d : Concept) → concept_row e ≡ concept_row d → e ≡ d
row_inj e d h = sym (row_back e) ∙ ap (λ r. concept_of (get_or r 0 0) r) h ∙ row_back d

pub same_concept_lem : (e d : Concept) → same_concept e d ≡ true → e ≡ d
same_concept_lem e d h = row_inj e d (same_words_lem (concept_row e) (concept_row d) h)

-- ---- interning
abbrev Found : Concept → Pool → Option ℕ → Type 0
Found e p none = Unit {0}
Found e p (some i) = (i < length p) × (at p i ≡ e)

find_found : (e : Concept) (p : Pool) → Found e p (find e p)
unfolding find
find_found e [] = tt
find_found e (x ∷ p) = go (same_concept e x) refl (find e p) (find_found e p)
  where
    go : (b : Bool) → same_concept e x ≡ b → (o : Option ℕ) → Found e p o → Found e (x ∷ p) (found_in b o)
    go true q o f = (omega arith, sym (same_concept_lem e x q))
    go false q none f = tt
    go false q (some i) f = (omega (arith, f.0), f.1)

-- a record that is there, or one more at the end
pub intern_post : (Q : ℕ → Pool → Type 0) (e : Concept) (p : Pool) → ((i : ℕ) → i < length p → at p i ≡ e → Q i p)
    → (length p < most_concepts → members p + width e ≤ most_members → Q (length p) (p ++ (e ∷ []))) → Post Q (intern_raw e p)
unfolding intern_raw
intern_post Q e p old new = had (find e p) (find_found e p)
  where
    has : (b : Bool) → ltb (length p) most_concepts && leb (members p + width e) most_members ≡ b → Post Q (room e p b)
    has false q = refuses
    has true q =
        let t = and_parts (ltb (length p) most_concepts) (leb (members p + width e) most_members) q in
        give (new (ltb-true (length p) most_concepts t.0) (leb-true (members p + width e) most_members t.1))

    had : (o : Option ℕ) → Found e p o → Post Q (interned e p o)
    had none f = has (ltb (length p) most_concepts && leb (members p + width e) most_members) refl
    had (some i) f = give (old i f.0 f.1)

pub made_self : (B : Bounds) (p : Pool) → Wf B p → (i : ℕ) → i < length p → Made B p i p
made_self B p w i h = record { grows = grown_refl p; wf = w; held = h }

pub intern_made : (B : Bounds) (e : Concept) (p : Pool) → Wf B p → Bounded B (length p) e → Post (Made B p) (intern_raw e p)
intern_made B e p w b = intern_post (Made B p) e p (λ i h q. made_self B p w i h)
    (λ h k. record { grows = grown_snoc p e; wf = wf_snoc B p e w b; held = omega (arith, length-append p (e ∷ [])) })

pub intern_at : (e : Concept) (p : Pool) → Post (λ i q. at q i ≡ e) (intern_raw e p)
intern_at e p = intern_post (λ i q. at q i ≡ e) e p (λ i h q. q) (λ h k. get_or-append_seam p e [] Top)

-- ---- the limits on a pool
abbrev pub Small : Pool → Type 0
Small p = (length p ≤ most_concepts) × (members p ≤ most_members)

pub members_snoc : (p : Pool) (e : Concept) → members (p ++ (e ∷ [])) ≡ members p + width e
unfolding members
members_snoc [] e = omega arith
members_snoc (x ∷ p) e = omega (arith, members_snoc p e)

pub small_kept : (e : Concept) (p : Pool) → Post (λ i q. Small p → Small q) (intern_raw e p)
small_kept e p = intern_post (λ i q. Small p → Small q) e p (λ i h q s. s)
    (λ h k s. (omega (arith, length-append p (e ∷ [])), omega (arith, members_snoc p e)))

-- ---- a normal record, interned
pub intern_normal : (B : Bounds) (e : Concept) (p : Pool) → Wf B p → Bounded B (length p) e → NormalStep (IsNormal p) p e → Post (λ i q. IsNormal q i) (intern_raw e p)
intern_normal B e p w b n = post_map (post_both (intern_made B e p w b) (intern_at e p)) (λ i q h.
    record_normal B q i h.0.wf h.0.held (rw h.1
    (normal_step B (IsNormal p) (IsNormal q) p q (length p) (λ d l. grown_at h.0.grows d l) (λ d l. normal_grown B (suc d) p q d w h.0.grows l) e b n)))

-- the bounds of a list, and of the operands' own
pub list_bounded : (B : Bounds) (n : ℕ) (j : Joint) (l : List ℕ) → Each (λ c. c < n) l → Bounded B n (list_of j l)
list_bounded B n conj l h = h
list_bounded B n disj l h = h

bounded_list : (B : Bounds) (n : ℕ) (j : Joint) (l : List ℕ) → Bounded B n (list_of j l) → Each (λ c. c < n) l
bounded_list B n conj l h = h
bounded_list B n disj l h = h

pub operand_below : (B : Bounds) (p : Pool) (j : Joint) (a : ℕ) → Wf B p → a < length p → (l : List ℕ) → at p a ≡ list_of j l → Each (λ c. c < a) l
operand_below B p j a w h l e = bounded_list B a j l (rw e at (w a h))

-- ---- the constructors: made ids
module _ (B : Bounds) (p : Pool) (w : Wf B p) where
  pub top_made : Post (Made B p) (mk_top p)
  top_made = intern_made B Top p w tt

  pub bot_made : Post (Made B p) (mk_bot p)
  bot_made = intern_made B Bot p w tt

  pub not_made : (c : ℕ) → c < length p → Post (Made B p) (mk_not c p)
  not_made c h = intern_made B (Not c) p w h

  pub some_made : (r : Role) (c : ℕ) → RoleIn B r → c < length p → Post (Made B p) (mk_some r c p)
  some_made r c k h = intern_made B (Some r c) p w (k, h)

  pub all_made : (r : Role) (c : ℕ) → RoleIn B r → c < length p → Post (Made B p) (mk_all r c p)
  all_made r c k h = intern_made B (All r c) p w (k, h)

  pub min_made : (n : ℕ) (r : Role) (c : ℕ) → n ≤ most_number → RoleIn B r → c < length p → Post (Made B p) (mk_min n r c p)
  unfolding mk_min
  min_made zero r c m k h = top_made
  min_made (suc n) r c m k h = intern_made B (Min (suc n) r c) p w (m, k, h)

  pub max_made : (n : ℕ) (r : Role) (c : ℕ) → n < most_number → RoleIn B r → c < length p → Post (Made B p) (mk_max n r c p)
  max_made n r c m k h = intern_made B (Max n r c) p w (m, k, h)

  pub joint_made : (j : Joint) (args : List ℕ) → Each (λ a. a < length p) args → Post (Made B p) (mk_joint j args p)
  joint_made j args h = joint_post (λ a. a < length p) (Made B p) p j args
      (each_map (λ a. a < length p) (Offers (λ a. a < length p) p j) (λ a k. (λ _. k, λ l e. below_more (omega arith) l (operand_below B p j a w k l e))) args h)
      top_made bot_made (made_self B p w) (λ l r k. intern_made B (list_of j l) p w (list_bounded B (length p) j l k))

  pub and_made : (args : List ℕ) → Each (λ a. a < length p) args → Post (Made B p) (mk_and args p)
  and_made = joint_made conj

  pub or_made : (args : List ℕ) → Each (λ a. a < length p) args → Post (Made B p) (mk_or args p)
  or_made = joint_made disj

-- ---- the limits kept
pub joint_small : (j : Joint) (args : List ℕ) (p : Pool) → Post (λ i q. Small p → Small q) (mk_joint j args p)
joint_small j args p = joint_post (λ a. Unit {0}) (λ i q. Small p → Small q) p j args
    (each_any (Offers (λ a. Unit {0}) p j) (λ a. (λ _. tt, λ l e. each_any (λ a. Unit {0}) (λ a. tt) l)) args)
    (small_kept Top p) (small_kept Bot p) (λ a h s. s) (λ l r k. small_kept (list_of j l) p)

pub and_small : (args : List ℕ) (p : Pool) → Post (λ i q. Small p → Small q) (mk_and args p)
and_small = joint_small conj

pub or_small : (args : List ℕ) (p : Pool) → Post (λ i q. Small p → Small q) (mk_or args p)
or_small = joint_small disj

pub min_small : (n : ℕ) (r : Role) (c : ℕ) (p : Pool) → Post (λ i q. Small p → Small q) (mk_min n r c p)
unfolding mk_min
min_small zero r c p = small_kept Top p
min_small (suc n) r c p = small_kept (Min (suc n) r c) p

-- ---- normal forms of normal parts
list_normal : (N : ℕ → Type 0) (p : Pool) (j : Joint) (l : List ℕ) → TwoRising l → Each (λ c. InList j (at p c)) l → Each N l → NormalStep N p (list_of j l)
list_normal N p conj l r h k = (r, h, k)
list_normal N p disj l r h k = (r, h, k)

normal_list : (N : ℕ → Type 0) (p : Pool) (j : Joint) (l : List ℕ) → NormalStep N p (list_of j l) → Each (λ c. InList j (at p c)) l × Each N l
normal_list N p conj l h = (h.1, h.2)
normal_list N p disj l h = (h.1, h.2)

module _ (B : Bounds) (p : Pool) (w : Wf B p) where
  pub top_normal : Post (λ i q. IsNormal q i) (mk_top p)
  top_normal = intern_normal B Top p w tt tt

  pub bot_normal : Post (λ i q. IsNormal q i) (mk_bot p)
  bot_normal = intern_normal B Bot p w tt tt

  pub not_normal : (c : ℕ) → c < length p → IsLiteral (at p c) → Post (λ i q. IsNormal q i) (mk_not c p)
  not_normal c h n = intern_normal B (Not c) p w h n

  pub some_normal : (r : Role) (c : ℕ) → RoleIn B r → c < length p → IsNormal p c → Post (λ i q. IsNormal q i) (mk_some r c p)
  some_normal r c k h n = intern_normal B (Some r c) p w (k, h) n

  pub all_normal : (r : Role) (c : ℕ) → RoleIn B r → c < length p → IsNormal p c → Post (λ i q. IsNormal q i) (mk_all r c p)
  all_normal r c k h n = intern_normal B (All r c) p w (k, h) n

  pub min_normal : (n : ℕ) (r : Role) (c : ℕ) → n ≤ most_number → RoleIn B r → c < length p → IsNormal p c → Post (λ i q. IsNormal q i) (mk_min n r c p)
  unfolding mk_min
  min_normal zero r c m k h n = top_normal
  min_normal (suc i) r c m k h n = intern_normal B (Min (suc i) r c) p w (m, k, h) n

  pub max_normal : (n : ℕ) (r : Role) (c : ℕ) → n < most_number → RoleIn B r → c < length p → IsNormal p c → Post (λ i q. IsNormal q i) (mk_max n r c p)
  max_normal i r c m k h n = intern_normal B (Max i r c) p w (m, k, h) n

  -- what stands in a normal list
  abbrev InNormal : Joint → ℕ → Type 0
  InNormal j c = (c < length p) × InList j (at p c) × IsNormal p c

  pub joint_normal : (j : Joint) (args : List ℕ) → Each (λ a. a < length p) args → Each (IsNormal p) args → Post (λ i q. IsNormal q i) (mk_joint j args p)
  joint_normal j args h n = joint_post (InNormal j) (λ i q. IsNormal q i) p j args (each_both (λ a. a < length p) (IsNormal p) (Offers (InNormal j) p j) offers args h n)
      top_normal bot_normal (λ a k. k.2) many
    where
      offers : (a : ℕ) → a < length p → IsNormal p a → Offers (InNormal j) p j a
      offers a k m = (
        λ i. (k, i, m),
        λ l e.
            let t = normal_list (IsNormal p) p j l (rw e at (normal_record B p a w k m)) in
            each_both (λ c. c < a) (λ c. InList j (at p c) × IsNormal p c) (InNormal j) (λ c x y. (omega arith, y.0, y.1)) l (operand_below B p j a w k l e)
            (each_both (λ c. InList j (at p c)) (IsNormal p) (λ c. InList j (at p c) × IsNormal p c) (λ c x y. (x, y)) l t.0 t.1),
      )

      many : (l : List ℕ) → TwoRising l → Each (InNormal j) l → Post (λ i q. IsNormal q i) (intern_raw (list_of j l) p)
      many l r k = intern_normal B (list_of j l) p w (list_bounded B (length p) j l (each_map (InNormal j) (λ c. c < length p) (λ c x. x.0) l k))
          (list_normal (IsNormal p) p j l r (each_map (InNormal j) (λ c. InList j (at p c)) (λ c x. x.1) l k) (each_map (InNormal j) (IsNormal p) (λ c x. x.2) l k))

  pub and_normal : (args : List ℕ) → Each (λ a. a < length p) args → Each (λ a. Normal (suc a) p a) args → Post (λ i q. Normal (suc i) q i) (mk_and args p)
  and_normal = joint_normal conj

  pub or_normal : (args : List ℕ) → Each (λ a. a < length p) args → Each (λ a. Normal (suc a) p a) args → Post (λ i q. Normal (suc i) q i) (mk_or args p)
  or_normal = joint_normal disj
