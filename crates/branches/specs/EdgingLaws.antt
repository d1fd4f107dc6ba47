-- The one edge from a root to a child, by its place among the atoms. Assumes nothing.
use Rattle.std.specs.Prelude.{Bool, true, false, not, ◌&&◌, ◌||◌, ◌≡◌, refl, List, [], ◌∷◌, ◌++◌, ℕ, zero, suc, ◌+◌, ◌≤◌, ◌<◌, length, get_or, take, drop, eqb, ltb}
use Rattle.std.proofs.Math.Bool.{and-false, or-true, or_assoc}
use Rattle.std.proofs.Common.{sym, ap, ap₂, ◌∙◌, arith, add-one, ne_eqb, take-append-drop, length-take-le, length-drop, drop-cons, get_or-take, get_or-drop}
use Rattle.std.proofs.lemmas.Bool.{false≢true}
use borrow.Author.Tests.{ltb-true, ltb-false}
use Rattle.ir.specs.declared.atom.Atom.{Atom}
use Rattle.ir.specs.declared.atom.Atom.TheVariants.{Class, Exists, AtMost, AtLeast, Equal, Role as RoleAtom}
use Rattle.rules.specs.Base.{any, contains, kept, filter}
use Rattle.rules.specs.Branches.{is_edge, tree_vars, mentions}
use Rattle.branches.specs.Edges.{any_atom, edges_of, inner_of, splits, OneEdge}

abbrev pub at : List Atom → ℕ → Atom
at l k = get_or l k any_atom

-- ---- tests by place
module _ (p : Atom → Bool) where
  kept_append : (a : Atom) (l m : List Atom) (b : Bool) → kept a (l ++ m) b ≡ kept a l b ++ m
  kept_append a l m true = refl
  kept_append a l m false = refl

  filter_append : (l m : List Atom) → filter p (l ++ m) ≡ filter p l ++ filter p m
  unfolding filter
  filter_append [] m = refl
  filter_append (a ∷ l) m = ap (λ (x : List Atom). kept a x (p a)) (filter_append l m) ∙ kept_append a (filter p l) (filter p m) (p a)

  filter_nothing : (l : List Atom) → ((k : ℕ) → k < length l → p (at l k) ≡ false) → filter p l ≡ []
  unfolding filter
  filter_nothing [] f = refl
  filter_nothing (a ∷ l) f = rw (f 0 (omega arith), filter_nothing l (λ k h. f (suc k) (omega arith))) refl

  filter_whole : (l : List Atom) → ((k : ℕ) → k < length l → p (at l k) ≡ true) → filter p l ≡ l
  unfolding filter
  filter_whole [] f = refl
  filter_whole (a ∷ l) f = rw (f 0 (omega arith), filter_whole l (λ k h. f (suc k) (omega arith))) refl

  filter_here : (a : Atom) (l : List Atom) (b : Bool) → p a ≡ b → filter p (a ∷ l) ≡ kept a (filter p l) b
  unfolding filter
  filter_here a l b e = rw e refl

  filter_one : (l : List Atom) (i : ℕ) → i < length l → p (at l i) ≡ true → 1 ≤ length (filter p l)
  unfolding filter
  filter_one [] i h e = absurd (omega arith)
  filter_one (a ∷ l) zero h e = rw e (omega arith)
  filter_one (a ∷ l) (suc i) h e = go (p a) (filter_one l i (omega arith) e)
    where
      go : (b : Bool) → 1 ≤ length (filter p l) → 1 ≤ length (kept a (filter p l) b)
      go true r = omega arith
      go false r = r

  filter_two : (l : List Atom) (e i : ℕ) → e < i → i < length l → p (at l e) ≡ true → p (at l i) ≡ true → 2 ≤ length (filter p l)
  unfolding filter
  filter_two [] e i n h d f = absurd (omega arith)
  filter_two (a ∷ l) e zero n h d f = absurd (omega arith)
  filter_two (a ∷ l) zero (suc i) n h d f = let r = filter_one l i (omega arith) f in rw d (omega arith)
  filter_two (a ∷ l) (suc e) (suc i) n h d f = go (p a) (filter_two l e i (omega arith) (omega arith) d f)
    where
      go : (b : Bool) → 2 ≤ length (filter p l) → 2 ≤ length (kept a (filter p l) b)
      go true r = omega arith
      go false r = r

  module _ (v : List ℕ) where
    mentions_in : (l : List Atom) (i : ℕ) → i < length l → p (at l i) ≡ true → any (contains v) (tree_vars (at l i)) ≡ true → mentions v (filter p l) ≡ true
    unfolding filter
    mentions_in [] i h e m = absurd (omega arith)
    mentions_in (a ∷ l) zero h e m = rw (e, m) refl
    mentions_in (a ∷ l) (suc i) h e m = go (p a) (mentions_in l i (omega arith) e m)
      where
        go : (b : Bool) → mentions v (filter p l) ≡ true → mentions v (kept a (filter p l) b) ≡ true
        go true r = rw r (or-true (any (contains v) (tree_vars a)))
        go false r = r

mentions_not : (v : List ℕ) (l : List Atom) → ((k : ℕ) → k < length l → any (contains v) (tree_vars (at l k)) ≡ false) → mentions v l ≡ false
mentions_not v [] f = refl
mentions_not v (a ∷ l) f = rw (f 0 (omega arith), mentions_not v l (λ k h. f (suc k) (omega arith))) refl

mentions_append : (v : List ℕ) (l m : List Atom) → mentions v (l ++ m) ≡ (mentions v l || mentions v m)
mentions_append v [] m = refl
mentions_append v (a ∷ l) m = ap (λ (b : Bool). any (contains v) (tree_vars a) || b) (mentions_append v l m) ∙ sym (or_assoc (any (contains v) (tree_vars a)) (mentions v l) (mentions v m))

-- an edge mentions its root
not_edge : (root t : ℕ) (a : Atom) → any (contains (root ∷ [])) (tree_vars a) ≡ false → is_edge root t a ≡ false
not_edge root t (Class k v) e = refl
not_edge root t (RoleAtom r u v) e = go (eqb u root) e
  where
    go : (b : Bool) → ((b || false) || ((eqb v root || false) || false)) ≡ false → (b && eqb v t) ≡ false
    go true e = absurd (false≢true (sym e))
    go false e = refl
not_edge root t (Exists r k v) e = refl
not_edge root t (AtMost r q n v) e = refl
not_edge root t (AtLeast r q n v) e = refl
not_edge root t (Equal u v) e = refl

-- ---- the edge at place e, or none
module _ (l : List Atom) (root t : ℕ) where
  -- atom k mentions the root, or it does not
  abbrev pub Rooted : Bool → ℕ → Type 0
  Rooted b k = any (contains (root ∷ [])) (tree_vars (at l k)) ≡ b

  pub edge_nowhere : ((k : ℕ) → k < length l → is_edge root t (at l k) ≡ false) → splits root t l ≡ false
  edge_nowhere f = ap (λ (x : List Atom). eqb (length x) 1 && not (mentions (root ∷ []) (inner_of root t l))) (filter_nothing (is_edge root t) l f)

  module _ (e : ℕ) (h : e < length l) (E : is_edge root t (at l e) ≡ true) where
    pub edge_second : ((k : ℕ) → k < e → is_edge root t (at l k) ≡ false) → (i : ℕ) → i < length l → (i ≡ e → ⊥) → Rooted true i → splits root t l ≡ false
    edge_second f i k d m = go (is_edge root t (at l i)) refl
      where
        behind : (i : ℕ) → (i ≡ e → ⊥) → is_edge root t (at l i) ≡ true → (b : Bool) → ltb i e ≡ b → e < i
        behind i d q true z = absurd (false≢true (sym (f i (ltb-true i e z)) ∙ q))
        behind i d q false z = let g = ltb-false i e z in omega arith

        go : (b : Bool) → is_edge root t (at l i) ≡ b → splits root t l ≡ false
        go true q =
            let s = behind i d q (ltb i e) refl in
            let two = filter_two (is_edge root t) l e i s k E q in
            ap (λ (b : Bool). b && not (mentions (root ∷ []) (inner_of root t l))) (ne_eqb (length (edges_of root t l)) 1 (λ z. omega (arith, two, z)))
        go false q =
            let n = mentions_in (λ a. not (is_edge root t a)) (root ∷ []) l i k (ap not q) m in
            ap (λ (b : Bool). eqb (length (edges_of root t l)) 1 && not b) n ∙ and-false (eqb (length (edges_of root t l)) 1)

    pub edge_alone : ((k : ℕ) → k < length l → (k ≡ e → ⊥) → Rooted false k) → OneEdge l root t e
    edge_alone f = record {
      within = h;
      one = ap₂ (λ (x : List Atom) (b : Bool). eqb (length x) 1 && not b) edges (ap (mentions (root ∷ [])) inner ∙ quiet);
      edge = edges;
      inner = inner;
    }
      where
        front : List Atom
        front = take e l

        back : List Atom
        back = drop (e + 1) l

        split : l ≡ front ++ (at l e ∷ back)
        split = sym (take-append-drop e l) ∙ ap (λ (x : List Atom). front ++ x) (rw (add-one e) (drop-cons l e any_atom h))

        front_long : length front ≡ e
        front_long = length-take-le e l (omega arith)

        quiet_front : (k : ℕ) → k < length front → any (contains (root ∷ [])) (tree_vars (at front k)) ≡ false
        quiet_front k q =
            let j : k < e = omega (arith, front_long) in
            ap (λ (a : Atom). any (contains (root ∷ [])) (tree_vars a)) (get_or-take e l k any_atom j) ∙ f k (omega arith) (λ z. omega arith)

        quiet_back : (k : ℕ) → k < length back → any (contains (root ∷ [])) (tree_vars (at back k)) ≡ false
        quiet_back k q =
            ap (λ (a : Atom). any (contains (root ∷ [])) (tree_vars a)) (get_or-drop (e + 1) l k any_atom) ∙ f (e + 1 + k) (omega (arith, length-drop (e + 1) l)) (λ z. omega arith)

        edges : edges_of root t l ≡ at l e ∷ []
        edges =
            let p = is_edge root t in
            ap (filter p) split ∙ filter_append p front (at l e ∷ back)
            ∙ ap₂ (λ (x y : List Atom). x ++ y) (filter_nothing p front (λ k q. not_edge root t (at front k) (quiet_front k q)))
            (filter_here p (at l e) back true E ∙ ap (λ (x : List Atom). at l e ∷ x) (filter_nothing p back (λ k q. not_edge root t (at back k) (quiet_back k q))))

        inner : inner_of root t l ≡ front ++ back
        inner =
            let p = λ (a : Atom). not (is_edge root t a) in
            ap (filter p) split ∙ filter_append p front (at l e ∷ back)
            ∙ ap₂ (λ (x y : List Atom). x ++ y) (filter_whole p front (λ k q. ap not (not_edge root t (at front k) (quiet_front k q))))
            (filter_here p (at l e) back false (ap not E) ∙ filter_whole p back (λ k q. ap not (not_edge root t (at back k) (quiet_back k q))))

        quiet : mentions (root ∷ []) (front ++ back) ≡ false
        quiet = mentions_append (root ∷ []) front back ∙ ap₂ (λ (x y : Bool). x || y) (mentions_not (root ∷ []) front quiet_front) (mentions_not (root ∷ []) back quiet_back)
