-- A concept that is made again, in a pool that has only grown: it is found, and the pool stays.
-- Assumes nothing.
use Rattle.std.specs.Prelude.{◌≡◌, Bool, true, false, ◌&&◌, ◌||◌, ℕ, zero, suc, ◌+◌, ◌<◌, length, ltb, leb}
use Rattle.std.proofs.Math.Path.{refl, ap₂}
use Rattle.std.proofs.Common.{ap, ◌∙◌, arith}
use mathlib.Core.List.{List, [], ◌∷◌, ◌++◌, append_assoc}
use Rattle.std.proofs.Math.Option.{Option, none, some}
use Rattle.ir.specs.RecordLaws.{same_words_refl}
use Rattle.ir.specs.declared.role.Role.{Role}
use Rattle.rules.specs.Base.{ok, M, return}
use Rattle.rules.specs.Concept.{Concept, concept_row, same_concept}
use Rattle.rules.specs.Concept.{Top, Bot, Atomic, Nominal, SelfRestriction, Not, And, Or, Some, All, Min, Max}
use Rattle.rules.specs.Pool.{Pool, at, most_concepts, most_members, found_in, find, width, members, room, interned, intern_raw, mk_min, mk_and, mk_or}
use Rattle.rules.specs.Pool.{Operand, and_operand, or_operand, added, annihilates, flattened, any_annihilates, sort_dedup, collapsed, and_of, or_of}
use Rattle.rules.specs.Post.{Post, refuses, give, post_map}
use Rattle.rules.specs.Invariants.{Each, Grown}
use Rattle.rules.specs.EachLaws.{each_map}
use Rattle.rules.specs.PoolLaws.{grown_refl, grown_trans, grown_at, grown_snoc}
use Rattle.rebuilding.specs.Steps.{first, rebuilt}

-- what m makes in p it finds in all that grows of it
abbrev pub Finds : M Pool ℕ → Pool → ℕ → Pool → Type 0
Finds m p i q = Grown p q × ((r : Pool) → Grown q r → m r ≡ ok i r)

abbrev pub Lasts : M Pool ℕ → Pool → Type 0
Lasts m p = Post (Finds m p) (m p)

-- ---- a record
find_more : (e : Concept) (p new : Pool) (i : ℕ) → find e p ≡ some i → find e (p ++ new) ≡ some i
unfolding find
find_more e [] new i h = absurd (let n : ◌≡◌ {A = ℕ} 0 1 = cc in omega arith)
find_more e (x ∷ p) new i h = go (same_concept e x) (find e p) (λ j. find_more e p new j) h
  where
    go : (t : Bool) (o : Option ℕ) → ((j : ℕ) → o ≡ some j → find e (p ++ new) ≡ some j) → found_in t o ≡ some i → found_in t (find e (p ++ new)) ≡ some i
    go true o f k = k
    go false none f k = absurd (let n : ◌≡◌ {A = ℕ} 0 1 = cc in omega arith)
    go false (some j) f k = ap (found_in false) (f j refl) ∙ k

find_new : (e : Concept) (p new : Pool) → find e p ≡ none → find e (p ++ (e ∷ new)) ≡ some (length p)
unfolding find
find_new e [] new h = rw (same_words_refl (concept_row e)) refl
find_new e (x ∷ p) new h = go (same_concept e x) (find e p) (λ k. find_new e p new k) h
  where
    go : (t : Bool) (o : Option ℕ) → (o ≡ none → find e (p ++ (e ∷ new)) ≡ some (length p)) → found_in t o ≡ none → found_in t (find e (p ++ (e ∷ new))) ≡ some (suc (length p))
    go true o f k = absurd (let n : ◌≡◌ {A = ℕ} 0 1 = cc in omega arith)
    go false none f k = ap (found_in false) (f refl)
    go false (some j) f k = absurd (let n : ◌≡◌ {A = ℕ} 0 1 = cc in omega arith)

intern_lasts : (e : Concept) (p : Pool) → Lasts (intern_raw e) p
unfolding intern_raw
intern_lasts e p = had (find e p) refl
  where
    has : find e p ≡ none → (t : Bool) → Post (Finds (intern_raw e) p) (room e p t)
    has h false = refuses
    has h true = give (
      grown_snoc p e,
      λ r g. ap (interned e r) (ap (find e) (g.grown ∙ append_assoc p (e ∷ []) g.new) ∙ find_new e p g.new h),
    )

    had : (o : Option ℕ) → find e p ≡ o → Post (Finds (intern_raw e) p) (interned e p o)
    had none h = has h (ltb (length p) most_concepts && leb (members p + width e) most_members)
    had (some i) h = give (grown_refl p, λ r g. ap (interned e r) (ap (find e) g.grown ∙ find_more e p g.new i h))

return_lasts : (i : ℕ) (p : Pool) → Lasts (return i) p
return_lasts i p = give (grown_refl p, λ r g. refl)

min_lasts : (n : ℕ) (x : Role) (c : ℕ) (p : Pool) → Lasts (mk_min n x c) p
unfolding mk_min
min_lasts zero x c p = intern_lasts Top p
min_lasts (suc n) x c p = intern_lasts (Min (suc n) x c) p

collapsed_lasts : (unit : Concept) (list : List ℕ → Concept) (l : List ℕ) (p : Pool) → Lasts (collapsed unit list l) p
collapsed_lasts unit list [] p = intern_lasts unit p
collapsed_lasts unit list (a ∷ []) p = return_lasts a p
collapsed_lasts unit list (a ∷ b ∷ l) p = intern_lasts (list (a ∷ b ∷ l)) p

-- ---- and, or: operands that are the same give the same list
module _ (f g : ℕ → Operand) where
  flattened_same : (l : List ℕ) → Each (λ a. f a ≡ g a) l → flattened f l ≡ flattened g l
  unfolding flattened
  flattened_same [] h = refl
  flattened_same (a ∷ l) h = ap₂ (λ o k. added o a k) h.0 (flattened_same l h.1)

  annihilates_same : (l : List ℕ) → Each (λ a. f a ≡ g a) l → any_annihilates f l ≡ any_annihilates g l
  unfolding any_annihilates
  annihilates_same [] h = refl
  annihilates_same (a ∷ l) h = ap₂ (λ o t. annihilates o || t) h.0 (annihilates_same l h.1)

-- and an operand stays what it is
joint_lasts : (op : Concept → Operand) (of : List ℕ → Bool → M Pool ℕ) → ((l : List ℕ) (t : Bool) (p : Pool) → Lasts (of l t) p)
    → (l : List ℕ) (p : Pool) → Each (λ a. a < length p) l
    → Lasts (λ q. of (flattened (λ a. op (at q a)) l) (any_annihilates (λ a. op (at q a)) l) q) p
joint_lasts op of last l p h = post_map (last (flattened (over p) l) (any_annihilates (over p) l) p) (λ i q L. (
  L.0,
  λ r g.
      let s = same r (grown_trans L.0 g) in
      ap₂ (λ k t. of k t r) (flattened_same (over r) (over p) l s) (annihilates_same (over r) (over p) l s) ∙ L.1 r g,
))
  where
    over : Pool → ℕ → Operand
    over q a = op (at q a)

    same : (r : Pool) → Grown p r → Each (λ a. op (at r a) ≡ op (at p a)) l
    same r g = each_map (λ a. a < length p) (λ a. op (at r a) ≡ op (at p a)) (λ a k. ap op (grown_at g a k)) l h

and_lasts : (l : List ℕ) (p : Pool) → Each (λ a. a < length p) l → Lasts (mk_and l) p
unfolding mk_and
and_lasts = joint_lasts and_operand and_of of_lasts
  where
    of_lasts : (l : List ℕ) (t : Bool) (p : Pool) → Lasts (and_of l t) p
    of_lasts l true p = intern_lasts Bot p
    of_lasts l false p = collapsed_lasts Top And (sort_dedup l) p

or_lasts : (l : List ℕ) (p : Pool) → Each (λ a. a < length p) l → Lasts (mk_or l) p
unfolding mk_or
or_lasts = joint_lasts or_operand or_of of_lasts
  where
    of_lasts : (l : List ℕ) (t : Bool) (p : Pool) → Lasts (or_of l t) p
    of_lasts l true p = intern_lasts Top p
    of_lasts l false p = collapsed_lasts Bot Or (sort_dedup l) p

-- ---- all of them
pub rebuilt_lasts : (b : Bool) (c : ℕ) (e : Concept) (l : List ℕ) (p : Pool) → Each (λ a. a < length p) l → Lasts (rebuilt b c e l) p
rebuilt_lasts false c Top l p h = return_lasts c p
rebuilt_lasts false c Bot l p h = return_lasts c p
rebuilt_lasts false c (Atomic _) l p h = return_lasts c p
rebuilt_lasts false c (Nominal _) l p h = return_lasts c p
rebuilt_lasts false c (SelfRestriction _) l p h = return_lasts c p
rebuilt_lasts false c (Not d) l p h = return_lasts (first l) p
rebuilt_lasts false c (And _) l p h = and_lasts l p h
rebuilt_lasts false c (Or _) l p h = or_lasts l p h
rebuilt_lasts false c (Some x d) l p h = intern_lasts (Some x (first l)) p
rebuilt_lasts false c (All x d) l p h = intern_lasts (All x (first l)) p
rebuilt_lasts false c (Min n x d) l p h = min_lasts n x (first l) p
rebuilt_lasts false c (Max n x d) l p h = intern_lasts (Max n x (first l)) p
rebuilt_lasts true c Top l p h = intern_lasts Bot p
rebuilt_lasts true c Bot l p h = intern_lasts Top p
rebuilt_lasts true c (Atomic _) l p h = intern_lasts (Not c) p
rebuilt_lasts true c (Nominal _) l p h = intern_lasts (Not c) p
rebuilt_lasts true c (SelfRestriction _) l p h = intern_lasts (Not c) p
rebuilt_lasts true c (Not d) l p h = return_lasts (first l) p
rebuilt_lasts true c (And _) l p h = or_lasts l p h
rebuilt_lasts true c (Or _) l p h = and_lasts l p h
rebuilt_lasts true c (Some x d) l p h = intern_lasts (All x (first l)) p
rebuilt_lasts true c (All x d) l p h = intern_lasts (Some x (first l)) p
rebuilt_lasts true c (Min zero x d) l p h = intern_lasts Bot p
rebuilt_lasts true c (Min (suc n) x d) l p h = intern_lasts (Max n x (first l)) p
rebuilt_lasts true c (Max n x d) l p h = min_lasts (suc n) x (first l) p
