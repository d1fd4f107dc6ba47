-- Lists of pairs: what holds of every element, of every later pair and of every ordered pair. Assumes nothing.
use Rattle.std.specs.Prelude.{◌≡◌, Bool, ◌&&◌, ◌||◌, ℕ, suc, ◌<◌}
use Rattle.std.proofs.Math.Path.{refl}
use Rattle.std.proofs.Common.{sym, ap₂, ◌∙◌, le_refl, arith}
use Rattle.std.proofs.Math.Bool.{true, false}
use Rattle.std.proofs.lemmas.Bool.{false≢true}
use mathlib.Core.List.{List, [], ◌∷◌}
use Rattle.std.proofs.Math.Dec.{eqb}
use borrow.Author.Tests.{eq-eqb, ne_eqb}
use Rattle.ir.specs.Pick.{pick}
use Rattle.rules.specs.Base.{all, any}
use Rattle.rules.specs.Axioms.{paired, later_pairs, numbered, with_others, ordered_from, ordered_pairs}
use Rattle.rules.specs.Invariants.{Each}

-- two properties of each element
each_two : {D : Type 0} (P Q : D → Type 0) (l : List D) → Each P l → Each Q l → Each (λ d. P d × Q d) l
each_two P Q [] u v = tt
each_two P Q (d ∷ l) u v = ((u.0, v.0), each_two P Q l u.1 v.1)

two_each : {D : Type 0} (P Q : D → Type 0) (l : List D) → Each (λ d. P d × Q d) l → Each P l × Each Q l
two_each P Q [] u = (tt, tt)
two_each P Q (d ∷ l) u = let t = two_each P Q l u.1 in ((u.0.0, t.0), (u.0.1, t.1))

module _ {A : Type 0} where
  -- ---- tests over a list
  pub all_where : (P : A → Type 0) (f g : A → Bool) → ((a : A) → P a → f a ≡ g a) → (l : List A) → Each P l → all f l ≡ all g l
  all_where P f g h [] u = refl
  all_where P f g h (a ∷ l) u = ap₂ ◌&&◌ (h a u.0) (all_where P f g h l u.1)

  pub any_where : (P : A → Type 0) (f g : A → Bool) → ((a : A) → P a → f a ≡ g a) → (l : List A) → Each P l → any f l ≡ any g l
  any_where P f g h [] u = refl
  any_where P f g h (a ∷ l) u = ap₂ ◌||◌ (h a u.0) (any_where P f g h l u.1)

  -- one that passes
  pub any_gives : (f : A → Bool) (b : Bool) (l : List A) → Each (λ a. f a ≡ true → b ≡ true) l → any f l ≡ true → b ≡ true
  any_gives f b [] u h = absurd (false≢true h)
  any_gives f b (a ∷ l) u h = go (f a) refl h (any_gives f b l u.1)
    where
      go : (d : Bool) → f a ≡ d → d || any f l ≡ true → (any f l ≡ true → b ≡ true) → b ≡ true
      go true q e r = u.0 q
      go false q e r = r e

  -- for every x below n, of each element; and for each element, at every x
  pub every_each : (n : ℕ) (P : ℕ → A → Type 0) (l : List A) → ((x : ℕ) → x < n → Each (P x) l) → Each (λ a. (x : ℕ) → x < n → P x a) l
  every_each n P [] h = tt
  every_each n P (a ∷ l) h = (λ x u. (h x u).0, every_each n P l (λ x u. (h x u).1))

  pub each_every : (n : ℕ) (P : ℕ → A → Type 0) (l : List A) → Each (λ a. (x : ℕ) → x < n → P x a) l → (x : ℕ) → x < n → Each (P x) l
  each_every n P [] h x u = tt
  each_every n P (a ∷ l) h x u = (h.0 x u, each_every n P l h.1 x u)

  -- ---- later pairs
  module _ (P : A × A → Type 0) where
    paired_of : (a : A) (l : List A) (rest : List (A × A)) → Each (λ b. P (a, b)) l → Each P rest → Each P (paired a l rest)
    unfolding paired
    paired_of a [] rest u v = v
    paired_of a (b ∷ l) rest u v = (u.0, paired_of a l rest u.1 v)

    of_paired : (a : A) (l : List A) (rest : List (A × A)) → Each P (paired a l rest) → Each (λ b. P (a, b)) l × Each P rest
    unfolding paired
    of_paired a [] rest u = (tt, u)
    of_paired a (b ∷ l) rest u = let t = of_paired a l rest u.1 in ((u.0, t.0), t.1)

  -- both of a pair
  pub later_each : (P : A → Type 0) (l : List A) → Each P l → Each (λ q. P q.0 × P q.1) (later_pairs l)
  unfolding later_pairs
  later_each P [] u = tt
  later_each P (a ∷ l) u = paired_of (λ q. P q.0 × P q.1) a l (later_pairs l) (beside l u.1) (later_each P l u.1)
    where
      beside : (k : List A) → Each P k → Each (λ b. P a × P b) k
      beside [] v = tt
      beside (b ∷ k) v = ((u.0, v.0), beside k v.1)

  -- ---- ordered pairs: those of different places
  module _ (R : A → A → Type 0) where
    abbrev Apart : ℕ × A → ℕ × A → Type 0
    Apart x y = eqb x.0 y.0 ≡ false → R x.1 y.1

    abbrev Related : A × A → Type 0
    Related q = R q.0 q.1

    others_of : (x : ℕ × A) (l : List (ℕ × A)) (rest : List (A × A)) → Each (Apart x) l → Each Related rest → Each Related (with_others x l rest)
    unfolding with_others
    others_of x [] rest u v = v
    others_of x (y ∷ l) rest u v = go (eqb x.0 y.0) refl (others_of x l rest u.1 v)
      where
        go : (b : Bool) → eqb x.0 y.0 ≡ b → Each Related (with_others x l rest) → Each Related (pick b (with_others x l rest) ((x.1, y.1) ∷ with_others x l rest))
        go true e w = w
        go false e w = (u.0 e, w)

    of_others : (x : ℕ × A) (l : List (ℕ × A)) (rest : List (A × A)) → Each Related (with_others x l rest) → Each (Apart x) l × Each Related rest
    unfolding with_others
    of_others x [] rest u = (tt, u)
    of_others x (y ∷ l) rest u = go (eqb x.0 y.0) refl u (of_others x l rest)
      where
        go : (b : Bool) → eqb x.0 y.0 ≡ b → Each Related (pick b (with_others x l rest) ((x.1, y.1) ∷ with_others x l rest))
            → (Each Related (with_others x l rest) → Each (Apart x) l × Each Related rest) → (Apart x y × Each (Apart x) l) × Each Related rest
        go true e w r = let t = r w in ((λ d. absurd (false≢true (sym d ∙ e)), t.0), t.1)
        go false e w r = let t = r w.1 in ((λ d. w.0, t.0), t.1)

    from_of : (k l : List (ℕ × A)) → Each (λ x. Each (Apart x) l) k → Each Related (ordered_from k l)
    unfolding ordered_from
    from_of [] l u = tt
    from_of (x ∷ k) l u = others_of x l (ordered_from k l) u.0 (from_of k l u.1)

    of_from : (k l : List (ℕ × A)) → Each Related (ordered_from k l) → Each (λ x. Each (Apart x) l) k
    unfolding ordered_from
    of_from [] l u = tt
    of_from (x ∷ k) l u = let t = of_others x l (ordered_from k l) u in (t.0, of_from k l t.1)

    -- one place against the places from m on
    beside_of : (n m : ℕ) (a : A) → n < m → (l : List A) → Each (Apart (n, a)) (numbered m l) → Each (λ x. Apart x (n, a)) (numbered m l) → Each (λ b. R a b × R b a) l
    unfolding numbered
    beside_of n m a h [] u v = tt
    beside_of n m a h (b ∷ l) u v = ((u.0 (ne_eqb n m (λ e. omega arith)), v.0 (ne_eqb m n (λ e. omega arith))), beside_of n (suc m) a (omega arith) l u.1 v.1)

    of_beside : (n m : ℕ) (a : A) (l : List A) → Each (λ b. R a b × R b a) l → Each (Apart (n, a)) (numbered m l) × Each (λ x. Apart x (n, a)) (numbered m l)
    unfolding numbered
    of_beside n m a [] u = (tt, tt)
    of_beside n m a (b ∷ l) u = let t = of_beside n (suc m) a l u.1 in ((λ _. u.0.0, t.0), (λ _. u.0.1, t.1))

    abbrev Both : A × A → Type 0
    Both q = R q.0 q.1 × R q.1 q.0

    apart_of : (n : ℕ) (l : List A) → Each Both (later_pairs l) → Each (λ x. Each (Apart x) (numbered n l)) (numbered n l)
    unfolding later_pairs numbered
    apart_of n [] u = tt
    apart_of n (a ∷ l) u =
        let t = of_paired Both a l (later_pairs l) u in
        let b = of_beside n (suc n) a l t.0 in (
          (λ d. absurd (false≢true (sym d ∙ eq-eqb n n refl)), b.0),
          each_two (λ x. Apart x (n, a)) (λ x. Each (Apart x) (numbered (suc n) l)) (numbered (suc n) l) b.1 (apart_of (suc n) l t.1),
        )

    of_apart : (n : ℕ) (l : List A) → Each (λ x. Each (Apart x) (numbered n l)) (numbered n l) → Each Both (later_pairs l)
    unfolding later_pairs numbered
    of_apart n [] u = tt
    of_apart n (a ∷ l) u =
        let t = two_each (λ x. Apart x (n, a)) (λ x. Each (Apart x) (numbered (suc n) l)) (numbered (suc n) l) u.1 in
        paired_of Both a l (later_pairs l) (beside_of n (suc n) a (le_refl (suc n)) l u.0.1 t.0) (of_apart (suc n) l t.1)

    pub ordered_of_later : (l : List A) → Each (λ q. R q.0 q.1 × R q.1 q.0) (later_pairs l) → Each (λ q. R q.0 q.1) (ordered_pairs l)
    ordered_of_later l u = from_of (numbered 0 l) (numbered 0 l) (apart_of 0 l u)

    pub later_of_ordered : (l : List A) → Each (λ q. R q.0 q.1) (ordered_pairs l) → Each (λ q. R q.0 q.1 × R q.1 q.0) (later_pairs l)
    later_of_ordered l u = of_apart 0 l (of_from (numbered 0 l) (numbered 0 l) u)
