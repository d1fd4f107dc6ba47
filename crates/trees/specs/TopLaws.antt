-- A parent more: the tops known before stay, and the new variable's is its parent's, or itself below the root. Assumes nothing.
use Rattle.std.specs.Prelude.{Bool, true, false, ◌≡◌, refl, List, [], ◌∷◌, ◌++◌, ℕ, zero, suc, length, eqb}
use Rattle.std.proofs.Math.Option.{Option, none, some}
use Rattle.std.proofs.Common.{arith, eq-eqb, length-append}
use Rattle.ir.specs.Pick.{pick}
use Rattle.rules.specs.Branches.{Top, at_root, below, unbound, parent_in, parent_of, top_under, top_with, top_by, top_of}

clash : {x : ℕ} → unbound ≡ below x → ⊥
clash e = let z : ◌≡◌ {A = ℕ} 0 1 = cc in omega arith

root_clash : {x : ℕ} → at_root ≡ below x → ⊥
root_clash e = let z : ◌≡◌ {A = ℕ} 0 1 = cc in omega arith

-- ---- parents
parent_kept : (l : List (ℕ × ℕ)) (e : ℕ × ℕ) (v p : ℕ) → parent_of l v ≡ some p → parent_of (l ++ (e ∷ [])) v ≡ some p
unfolding parent_of
parent_kept [] e v p h = absurd (let z : ◌≡◌ {A = ℕ} 0 1 = cc in omega arith)
parent_kept (x ∷ l) e v p h = go (eqb x.0 v) (parent_kept l e v p) h
  where
    go : (b : Bool) → (parent_of l v ≡ some p → parent_of (l ++ (e ∷ [])) v ≡ some p) → parent_in x (parent_of l v) b ≡ some p → parent_in x (parent_of (l ++ (e ∷ [])) v) b ≡ some p
    go true f k = k
    go false f k = f k

parent_new : (l : List (ℕ × ℕ)) (u v : ℕ) → parent_of l v ≡ none → parent_of (l ++ ((v, u) ∷ [])) v ≡ some u
unfolding parent_of
parent_new [] u v h = rw (eq-eqb v v refl) refl
parent_new (x ∷ l) u v h = go (eqb x.0 v) (parent_new l u v) h
  where
    go : (b : Bool) → (parent_of l v ≡ none → parent_of (l ++ ((v, u) ∷ [])) v ≡ some u) → parent_in x (parent_of l v) b ≡ none → parent_in x (parent_of (l ++ ((v, u) ∷ [])) v) b ≡ some u
    go true f k = absurd (let z : ◌≡◌ {A = ℕ} 0 1 = cc in omega arith)
    go false f k = f k

pub parent_other : (l : List (ℕ × ℕ)) (u v x : ℕ) → eqb v x ≡ false → parent_of l x ≡ none → parent_of (l ++ ((v, u) ∷ [])) x ≡ none
unfolding parent_of
parent_other [] u v x n h = rw n refl
parent_other (y ∷ l) u v x n h = go (eqb y.0 x) (parent_other l u v x n) h
  where
    go : (b : Bool) → (parent_of l x ≡ none → parent_of (l ++ ((v, u) ∷ [])) x ≡ none) → parent_in y (parent_of l x) b ≡ none → parent_in y (parent_of (l ++ ((v, u) ∷ [])) x) b ≡ none
    go true f k = absurd (let z : ◌≡◌ {A = ℕ} 0 1 = cc in omega arith)
    go false f k = f k

-- ---- a top that is found stays, with a parent more and with more steps
under_kept : (f g : ℕ → Top) (w p y : ℕ) (b : Bool) → (f p ≡ below y → g p ≡ below y) → top_under f w p b ≡ below y → top_under g w p b ≡ below y
under_kept f g w p y true s k = k
under_kept f g w p y false s k = s k

top_kept_by : (f : ℕ) (l : List (ℕ × ℕ)) (e : ℕ × ℕ) (root w y : ℕ) → top_by f l root w ≡ below y → top_by f (l ++ (e ∷ [])) root w ≡ below y
unfolding top_by
top_kept_by zero l e root w y h = absurd (clash h)
top_kept_by (suc f) l e root w y h = go (λ p. top_kept_by f l e root p y) (parent_of l w) refl h
  where
    go : ((p : ℕ) → top_by f l root p ≡ below y → top_by f (l ++ (e ∷ [])) root p ≡ below y) → (o : Option ℕ) → parent_of l w ≡ o
        → top_with (λ q. top_by f l root q) root w o ≡ below y → top_with (λ q. top_by f (l ++ (e ∷ [])) root q) root w (parent_of (l ++ (e ∷ [])) w) ≡ below y
    go s none q k = absurd (clash k)
    go s (some p) q k = rw (parent_kept l e w p q) (under_kept (λ x. top_by f l root x) (λ x. top_by f (l ++ (e ∷ [])) root x) w p y (eqb p root) (s p) k)

top_more : (f : ℕ) (l : List (ℕ × ℕ)) (root w y : ℕ) → top_by f l root w ≡ below y → top_by (suc f) l root w ≡ below y
unfolding top_by
top_more zero l root w y h = absurd (clash h)
top_more (suc f) l root w y h = go (λ p. top_more f l root p y) (parent_of l w) h
  where
    go : ((p : ℕ) → top_by f l root p ≡ below y → top_by (suc f) l root p ≡ below y) → (o : Option ℕ)
        → top_with (λ q. top_by f l root q) root w o ≡ below y → top_with (λ q. top_by (suc f) l root q) root w o ≡ below y
    go s none k = absurd (clash k)
    go s (some p) k = under_kept (λ x. top_by f l root x) (λ x. top_by (suc f) l root x) w p y (eqb p root) (s p) k

-- ---- the child of the root above a variable
one_longer : (l : List (ℕ × ℕ)) (e : ℕ × ℕ) → length (l ++ (e ∷ [])) ≡ suc (length l)
one_longer l e = omega (arith, length-append l (e ∷ []))

-- only a variable other than the root has one
under_root : (l : List (ℕ × ℕ)) (root w y : ℕ) → top_of l root w ≡ below y → (eqb w root ≡ false) × (top_by (suc (length l)) l root w ≡ below y)
unfolding top_of
under_root l root w y h = go (eqb w root) h
  where
    go : (b : Bool) → pick b at_root (top_by (suc (length l)) l root w) ≡ below y → (b ≡ false) × (top_by (suc (length l)) l root w ≡ below y)
    go true k = absurd (root_clash k)
    go false k = (refl, k)

pub top_kept : (l : List (ℕ × ℕ)) (e : ℕ × ℕ) (root w y : ℕ) → top_of l root w ≡ below y → top_of (l ++ (e ∷ [])) root w ≡ below y
unfolding top_of
top_kept l e root w y h =
    let k = under_root l root w y h in
    rw (k.0, one_longer l e) (top_more (suc (length l)) (l ++ (e ∷ [])) root w y (top_kept_by (suc (length l)) l e root w y k.1))

pub top_child : (l : List (ℕ × ℕ)) (root v : ℕ) → eqb v root ≡ false → parent_of l v ≡ none → top_of (l ++ ((v, root) ∷ [])) root v ≡ below v
unfolding top_of top_by
top_child l root v h n = rw (h, parent_new l root v n, eq-eqb root root refl) refl

pub top_under_lem : (l : List (ℕ × ℕ)) (root u v y : ℕ) → eqb v root ≡ false → parent_of l v ≡ none → top_of l root u ≡ below y → top_of (l ++ ((v, u) ∷ [])) root v ≡ below y
unfolding top_of top_by
top_under_lem l root u v y h n t =
    let k = under_root l root u y t in
    rw (h, parent_new l u v n, k.0, one_longer l (v, u)) (top_kept_by (suc (length l)) l (v, u) root u y k.1)

pub top_none : (l : List (ℕ × ℕ)) (root v : ℕ) → eqb v root ≡ false → parent_of l v ≡ none → top_of l root v ≡ unbound
unfolding top_of top_by
top_none l root v h n = rw (h, n) refl
