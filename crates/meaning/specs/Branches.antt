-- name_branches keeps the meaning of a body. Where the named clauses follow, a body that holds gives the reduced one. Where the
-- names have the sets at which their bodies can be matched, a choice for the reduced body becomes one for the body: the choices
-- found for the groups are put together, each for its own variables, since groups share no variable but the root. Assumes
-- nothing.
use Rattle.std.specs.Prelude.{◌≡◌, Bool, not, ◌&&◌, length, eqb, ltb}
use Rattle.std.proofs.Math.Path.{refl, sym}
use Rattle.std.proofs.Common.{ap, ap₂, ◌∙◌, subst, eqb-true}
use Rattle.std.proofs.Math.Bool.{true, false}
use Rattle.std.proofs.lemmas.Bool.{false≢true}
use mathlib.Core.List.{List, [], ◌∷◌, ◌++◌}
use Rattle.std.proofs.Math.Option.{Option, none, some}
use Prim.Native.Nat.{ℕ, zero, suc, ◌≤◌, ◌<◌}
use Rattle.ir.specs.Pick.{pick}
use Rattle.ir.specs.Atoms.{atom_vars}
use Rattle.ir.specs.declared.atom.Atom.{Atom}
use Rattle.ir.specs.declared.atom.Atom.TheVariants.{Class, Exists, AtMost, AtLeast, Equal, Role as RoleAtom}
use Rattle.rules.specs.Base.{all, any, filter, kept, contains}
use Rattle.rules.specs.Reflexive.{atoms_vars}
use Rattle.rules.specs.Branches.{renumber, Tree, tree_of, any_disconnected, Groups, grouped, Naming, W, is_edge, tree_vars, mentions, max_body_vars, body_var_count_from, reduced_to, split_below, split_group, name_group, group_with, then_some, name_groups, name_grouped, name_tree, name_step, name_by, branch_clause}
use Rattle.rules.specs.Post.{Post, give, refuses, post_then, post_map}
use Rattle.rules.specs.Invariants.{Each}
use Rattle.rules.specs.Semantics.{Interpretation, with_classes, atom_holds}
use Rattle.rules.specs.EachLaws.{each_append}
use Rattle.meaning.specs.Truth.{or_none, or_unit, and_unit, and_left, and_right, and_both, by_truth, all_append}
use Rattle.meaning.specs.Choices.{Choice, Follows}
use Rattle.meaning.specs.Valuations.{Valuation, AtomUnder, atom_under_more, each_of_lem}
use Rattle.meaning.specs.Matching.{contains_here, contains_left, contains_right, contains_both, vars_each, each_vars, all_alike, matches_find}
use Rattle.meaning.specs.Renumbering.{IsTree, renumber_says, renumber_gets, renumber_under}
use Rattle.meaning.specs.Grouping.{Given, nothing, given, given_map, all_groups, all_sorted, group_vars, Apart, Kinds, grouped_kinds}
use Rattle.meaning.specs.Naming.{branch_of, Chain, Step, step_refl, step_trans, step_each, IsName, name_below, name_of_lem, among_each, Right}

-- a class or role atom with its classes below n
abbrev pub Good : ℕ → Atom → Type 0
Good n a = AtomUnder n a × IsTree a

pub good_more : {m n : ℕ} → m ≤ n → (a : Atom) → Good m a → Good n a
good_more h a g = (atom_under_more h a g.0, g.1)

-- ---- parts of a list
filter_each : (P : Atom → Type 0) (p : Atom → Bool) (l : List Atom) → Each P l → Each P (filter p l)
unfolding filter
filter_each P p [] e = tt
filter_each P p (a ∷ l) e = go (p a) (filter_each P p l e.1)
  where
    go : (b : Bool) → Each P (filter p l) → Each P (kept a (filter p l) b)
    go true r = (e.0, r)
    go false r = r

filter_passes : (p : Atom → Bool) (l : List Atom) → Each (λ a. p a ≡ true) (filter p l)
unfolding filter
filter_passes p [] = tt
filter_passes p (a ∷ l) = go (p a) refl (filter_passes p l)
  where
    go : (b : Bool) → p a ≡ b → Each (λ a. p a ≡ true) (filter p l) → Each (λ a. p a ≡ true) (kept a (filter p l) b)
    go true h r = (h, r)
    go false h r = r

filter_all : (t p : Atom → Bool) (l : List Atom) → all t l ≡ true → all t (filter p l) ≡ true
unfolding filter
filter_all t p [] h = refl
filter_all t p (a ∷ l) h = go (p a) (filter_all t p l (and_right (t a) (all t l) h))
  where
    go : (b : Bool) → all t (filter p l) ≡ true → all t (kept a (filter p l) b) ≡ true
    go true r = and_both (and_left (t a) (all t l) h) r
    go false r = r

all_parts : (t p : Atom → Bool) (l : List Atom) → all t (filter p l) ≡ true → all t (filter (λ a. not (p a)) l) ≡ true → all t l ≡ true
unfolding filter
all_parts t p [] h k = refl
all_parts t p (a ∷ l) h k = go (p a) h k (all_parts t p l)
  where
    go : (b : Bool) → all t (kept a (filter p l) b) ≡ true → all t (kept a (filter (λ a. not (p a)) l) (not b)) ≡ true
        → (all t (filter p l) ≡ true → all t (filter (λ a. not (p a)) l) ≡ true → all t l ≡ true) → t a && all t l ≡ true
    go true h k r = and_both (and_left (t a) (all t (filter p l)) h) (r (and_right (t a) (all t (filter p l)) h) k)
    go false h k r = and_both (and_left (t a) (all t (filter (λ a. not (p a)) l)) k) (r h (and_right (t a) (all t (filter (λ a. not (p a)) l)) k))

all_left_lem : (t : Atom → Bool) (k l : List Atom) → all t (k ++ l) ≡ true → all t k ≡ true
all_left_lem t k l h = and_left (all t k) (all t l) (sym (all_append t k l) ∙ h)

all_right : (t : Atom → Bool) (k l : List Atom) → all t (k ++ l) ≡ true → all t l ≡ true
all_right t k l h = and_right (all t k) (all t l) (sym (all_append t k l) ∙ h)

all_joined : (t : Atom → Bool) (k l : List Atom) → all t k ≡ true → all t l ≡ true → all t (k ++ l) ≡ true
all_joined t k l h i = all_append t k l ∙ and_both h i

-- ---- the variables that a test mentions
any_member : (p : ℕ → Bool) (l : List ℕ) (v : ℕ) → contains l v ≡ true → p v ≡ true → any p l ≡ true
any_member p [] v h q = absurd (false≢true h)
any_member p (u ∷ l) v h q = by_truth (eqb v u) (λ e. rw (sym (ap p (eqb-true v u e)) ∙ q)) (λ e. rw (any_member p l v (rw e at h) q) (or_unit (p u)))

tree_vars_lem : (a : Atom) → IsTree a → tree_vars a ≡ atom_vars a
tree_vars_lem (Class k v) t = refl
tree_vars_lem (RoleAtom r u v) t = refl
tree_vars_lem (Exists r k v) t = absurd t
tree_vars_lem (AtMost r q n v) t = absurd t
tree_vars_lem (AtLeast r q n v) t = absurd t
tree_vars_lem (Equal u v) t = absurd t

mentions_member : (keep : List ℕ) (l : List Atom) → Each IsTree l → (v : ℕ) → contains keep v ≡ true → contains (atoms_vars l) v ≡ true → mentions keep l ≡ true
unfolding atoms_vars
mentions_member keep [] t v h c = absurd (false≢true c)
mentions_member keep (a ∷ l) t v h c =
    contains_both v (atom_vars a) (atoms_vars l) (λ d. rw (ap (any (contains keep)) (tree_vars_lem a t.0) ∙ any_member (contains keep) (atom_vars a) v d h))
    (λ d. rw (mentions_member keep l t.1 v h d) (or_unit (any (contains keep) (tree_vars a)))) c

-- what is kept does not occur where nothing kept is mentioned
not_member : (keep : List ℕ) (l : List Atom) → Each IsTree l → mentions keep l ≡ false → (v : ℕ) → contains keep v ≡ true → contains (atoms_vars l) v ≡ false
not_member keep l t m v h = by_truth (contains (atoms_vars l) v) (λ e. absurd (false≢true (sym m ∙ mentions_member keep l t v h e))) (λ e. e)

not_both_lem : (v : ℕ) (k l : List ℕ) → contains (k ++ l) v ≡ false → (contains k v ≡ false) × (contains l v ≡ false)
not_both_lem v k l h = (
  by_truth (contains k v) (λ e. absurd (false≢true (sym h ∙ contains_left v k l e))) (λ e. e),
  by_truth (contains l v) (λ e. absurd (false≢true (sym h ∙ contains_right v k l e))) (λ e. e),
)

-- an edge has two variables
edge_vars : (P : ℕ → Type 0) (root t : ℕ) → P root → P t → (a : Atom) → is_edge root t a ≡ true → Each P (atom_vars a)
edge_vars P root t x y (Class k v) h = absurd (false≢true h)
edge_vars P root t x y (RoleAtom r u v) h =
    (subst P (sym (eqb-true u root (and_left (eqb u root) (eqb v t) h))) x, (subst P (sym (eqb-true v t (and_right (eqb u root) (eqb v t) h))) y, tt))
edge_vars P root t x y (Exists r k v) h = absurd (false≢true h)
edge_vars P root t x y (AtMost r q n v) h = absurd (false≢true h)
edge_vars P root t x y (AtLeast r q n v) h = absurd (false≢true h)
edge_vars P root t x y (Equal u v) h = absurd (false≢true h)

group_vars_lem : (P : ℕ → Type 0) (l : List (ℕ × List Atom)) → Each (λ q. Each (λ a. Each P (atom_vars a)) q.1) l → (v : ℕ) → contains (group_vars l) v ≡ true → P v
unfolding group_vars
group_vars_lem P [] e v h = absurd (false≢true h)
group_vars_lem P (q ∷ l) e v h = contains_both v (atoms_vars q.1) (group_vars l) (vars_each P q.1 e.0 v) (group_vars_lem P l e.1 v) h

-- ---- a choice that passes a test and differs from f on these variables alone, but for the root and those to keep
pub record Choosing (I : Interpretation) (f : ℕ → ℕ) (t : (ℕ → ℕ) → Bool) (vars : List ℕ) (root : ℕ) (keep : List ℕ) : Type 0 where
  pub to : ℕ → ℕ
  pub choice : Choice I to
  pub fixed : to root ≡ f root
  pub keeps : (v : ℕ) → contains keep v ≡ true → to v ≡ f v
  pub outside : (v : ℕ) → contains vars v ≡ false → to v ≡ f v
  pub holds : t to ≡ true

-- g's elements for these variables, and h's for the others
abbrev merged : List ℕ → (ℕ → ℕ) → (ℕ → ℕ) → ℕ → ℕ
merged l g h v = pick (contains l v) (g v) (h v)

merged_choice : (I : Interpretation) (l : List ℕ) (g h : ℕ → ℕ) → Choice I g → Choice I h → Choice I (merged l g h)
merged_choice I l g h c d v = go (contains l v)
  where
    go : (b : Bool) → pick b (g v) (h v) < I.size
    go true = c v
    go false = d v

merged_in : (l : List ℕ) (g h : ℕ → ℕ) (v : ℕ) → contains l v ≡ true → merged l g h v ≡ g v
merged_in l g h v e = rw e

merged_out : (l : List ℕ) (g h : ℕ → ℕ) (v : ℕ) → contains l v ≡ false → merged l g h v ≡ h v
merged_out l g h v e = rw e

merged_same : (l : List ℕ) (g h : ℕ → ℕ) (v : ℕ) → g v ≡ h v → merged l g h v ≡ h v
merged_same l g h v e = by_truth (contains l v) (λ q. rw q e) (λ q. rw q)

all_groups_alike : (I : Interpretation) (f g : ℕ → ℕ) (l : List (ℕ × List Atom)) → ((v : ℕ) → contains (group_vars l) v ≡ true → f v ≡ g v)
    → all_groups (atom_holds I f) l ≡ all_groups (atom_holds I g) l
unfolding group_vars
all_groups_alike I f g [] h = refl
all_groups_alike I f g (q ∷ l) h =
    ap₂ ◌&&◌ (all_alike I f g q.1 (λ v c. h v (contains_left v (atoms_vars q.1) (group_vars l) c)))
    (all_groups_alike I f g l (λ v c. h v (contains_right v (atoms_vars q.1) (group_vars l) c)))

-- ---- a name for the renumbered atoms: at the root's element it holds exactly where a choice makes the atoms hold
module _ (I : Interpretation) (k : Valuation) (sub : List Atom) (root e : ℕ) (tree : Each IsTree sub) where
  name_says : Follows (with_classes I k) (branch_clause (branch_of (renumber sub root) e)) → (f : ℕ → ℕ) → Choice I f → all (atom_holds (with_classes I k) f) sub ≡ true → k e (f root) ≡ true
  name_says n f c h =
      let x = renumber_says (with_classes I k) sub root tree f c h in
      ap (k e) (sym x.2) ∙ sym (or_none (k e (x.0 0))) ∙ n.follows x.0 x.1 x.3

  name_gets : Right I k (branch_of (renumber sub root) e) → (f : ℕ → ℕ) → Choice I f → k e (f root) ≡ true
      → (g : ℕ → ℕ) × Choice I g × (g root ≡ f root) × (all (atom_holds (with_classes I k) g) sub ≡ true)
  name_gets n f c h =
      let x = matches_find I k (renumber sub root) (f root) (c root) (sym (ap (λ s. s (f root)) n) ∙ h) in
      let y = renumber_gets (with_classes I k) sub root tree x.0 x.1 x.3 in
      (y.0, y.1, y.2 ∙ x.2, y.3)

module _ (I : Interpretation) where
  abbrev pub Hold : Valuation → (ℕ → ℕ) → List Atom → Type 0
  Hold k f b = all (atom_holds (with_classes I k) f) b ≡ true

  abbrev pub AllFollow : Valuation → Naming → Type 0
  AllFollow k w = Each (λ b. Follows (with_classes I k) (branch_clause b)) w.named

  abbrev pub AllRight : Valuation → Naming → Type 0
  AllRight k w = Each (Right I k) w.named

  -- a body of these atoms, and r for it
  pub record Split (atoms : List Atom) (root : ℕ) (keep : List ℕ) (w : Naming) (r : List Atom) : Type 0 where
    pub good : Each (Good w.next_fresh) r
    pub says : (k : Valuation) → AllFollow k w → (f : ℕ → ℕ) → Choice I f → Hold k f atoms → Hold k f r
    pub gets : (k : Valuation) → AllRight k w → (f : ℕ → ℕ) → Choice I f → Hold k f r
        → Choosing I f (λ g. all (atom_holds (with_classes I k) g) atoms) (atoms_vars atoms) root keep

  -- ---- `base`: the first name
  module _ (base : ℕ) where
    pub record Answer (w : Naming) (atoms : List Atom) (root : ℕ) (keep : List ℕ) (o : Option (List Atom)) (u : Naming) : Type 0 where
      pub step : Step base w u
      pub split : Given (Split atoms root keep u) o

    -- a group, and sub for it
    record Subbed (w : Naming) (group : List Atom) (root : ℕ) (sub : List Atom) (u : Naming) : Type 0 where
      step : Step base w u
      good : Each (Good u.next_fresh) sub
      says : (k : Valuation) → AllFollow k u → (f : ℕ → ℕ) → Choice I f → Hold k f group → Hold k f sub
      gets : (k : Valuation) → AllRight k u → (f : ℕ → ℕ) → Choice I f → Hold k f sub → (g : ℕ → ℕ) × Choice I g × (g root ≡ f root) × Hold k g group

    -- the atoms so far with these groups, and r for them
    record Part (groups : List (ℕ × List Atom)) (root : ℕ) (keep : List ℕ) (result : List Atom) (w : Naming) (r : List Atom) : Type 0 where
      good : Each (Good w.next_fresh) r
      says : (k : Valuation) → AllFollow k w → (f : ℕ → ℕ) → Choice I f → Hold k f result → all_groups (atom_holds (with_classes I k) f) groups ≡ true → Hold k f r
      gets : (k : Valuation) → AllRight k w → (f : ℕ → ℕ) → Choice I f → Hold k f r
          → Hold k f result × Choosing I f (λ g. all_groups (atom_holds (with_classes I k) g) groups) (group_vars groups) root keep

    record Looped (w : Naming) (groups : List (ℕ × List Atom)) (root : ℕ) (keep : List ℕ) (result : List Atom) (o : Option (List Atom)) (u : Naming) : Type 0 where
      step : Step base w u
      part : Given (Part groups root keep result u) o

    abbrev pub Names : (List Atom → ℕ → List ℕ → W (Option (List Atom))) → Type 0
    Names again = (l : List Atom) (root : ℕ) (keep : List ℕ) (w : Naming) → Chain base w.named w.next_fresh → Each (AtomUnder w.next_fresh) l
        → Post (Answer w l root keep) (again l root keep w)

    module _ (again : List Atom → ℕ → List ℕ → W (Option (List Atom))) (names : Names again) where
      whole : (group : List Atom) (root : ℕ) (w : Naming) → Chain base w.named w.next_fresh → Each (Good w.next_fresh) group → Subbed w group root group w
      whole group root w c g = record { step = step_refl w c; good = g; says = λ k _ f _ h. h; gets = λ k _ f d h. (f, d, refl, h) }

      -- split one level down: the edge, and what is below it reduced
      module _ (group : List Atom) (root t : ℕ) (w : Naming) (c : Chain base w.named w.next_fresh) (g : Each (Good w.next_fresh) group) where
        abbrev edge : List Atom
        edge = filter (is_edge root t) group

        abbrev inner : List Atom
        inner = filter (λ a. not (is_edge root t a)) group

        lower : mentions (root ∷ []) inner ≡ false → (u : Naming) (o : Option (List Atom)) → Answer w inner t [] o u → Post (Subbed w group root) (reduced_to again group edge o u)
        lower m u none A = give (record {
          step = A.step;
          good = each_of_lem (good_more A.step.fresh) group g;
          says = λ k _ f _ h. h;
          gets = λ k _ f d h. (f, d, refl, h);
        })
        lower m u (some r) A = go A.split
          where
            go : Given (Split inner t [] u) (some r) → Post (Subbed w group root) (reduced_to again group edge (some r) u)
            go (given S) = give (record {
              step = A.step;
              good = each_append (Good u.next_fresh) edge r (each_of_lem (good_more A.step.fresh) edge (filter_each (Good w.next_fresh) (is_edge root t) group g)) S.good;
              says = λ k n f d h.
                  let p = atom_holds (with_classes I k) f in
                  all_joined p edge r (filter_all p (is_edge root t) group h) (S.says k n f d (filter_all p (λ a. not (is_edge root t a)) group h));
              gets = λ k n f d h.
                  let p = atom_holds (with_classes I k) f in
                  let z = S.gets k n f d (all_right p edge r h) in
                  let at_root_lem : z.to root ≡ f root = z.outside root (not_member (root ∷ []) inner (each_of_lem (λ a y. y.1) inner (filter_each (Good w.next_fresh) (λ a. not (is_edge root t a)) group g)) m root (contains_here root [])) in
                  let on_edge : (v : ℕ) → contains (atoms_vars edge) v ≡ true → z.to v ≡ f v = vars_each (λ v. z.to v ≡ f v) edge (each_of_lem (edge_vars (λ v. z.to v ≡ f v) root t at_root_lem z.fixed) edge (filter_passes (is_edge root t) group)) in (
                    z.to,
                    z.choice,
                    at_root_lem,
                    all_parts (atom_holds (with_classes I k) z.to) (is_edge root t) group (all_alike (with_classes I k) z.to f edge on_edge ∙ all_left_lem p edge r h) z.holds,
                  );
            })

        split_below_lem : (b : Bool) → (b ≡ true → mentions (root ∷ []) inner ≡ false) → Post (Subbed w group root) (split_below again group edge inner t b w)
        split_below_lem false m = give (whole group root w c g)
        split_below_lem true m =
            post_then (names inner t [] w c (each_of_lem (λ a y. y.0) inner (filter_each (Good w.next_fresh) (λ a. not (is_edge root t a)) group g))) (λ o u A. lower (m refl) u o A)

        split_group_lem : (b : Bool) → Post (Subbed w group root) (split_group again group edge inner root t b w)
        split_group_lem false = give (whole group root w c g)
        split_group_lem true = split_below_lem (eqb (length edge) 1 && not (mentions (root ∷ []) inner)) (λ e. away (mentions (root ∷ []) inner) (and_right (eqb (length edge) 1) (not (mentions (root ∷ []) inner)) e))
          where
            away : (b : Bool) → not b ≡ true → b ≡ false
            away true h = sym h
            away false h = refl

        -- and named
        name_group_lem : Post (λ a u. Subbed w group root (a ∷ []) u) (name_group again root t group w)
        name_group_lem =
            post_then (split_group_lem (ltb max_body_vars (body_var_count_from group root))) (λ sub u S.
            post_then (name_of_lem base u (renumber sub root) S.step.chain (renumber_under u.next_fresh (root ∷ []) sub (each_of_lem (λ a y. y.0) sub S.good))) (λ e z N.
            give (named sub u S e z N)))
          where
            named : (sub : List Atom) (u : Naming) → Subbed w group root sub u → (e : ℕ) (z : Naming) → IsName base u (renumber sub root) e z → Subbed w group root (Class e root ∷ []) z
            named sub u S e z N =
                let tree : Each IsTree sub = each_of_lem (λ a y. y.1) sub S.good in
                record {
                  step = step_trans S.step N.step;
                  good = ((name_below N, tt), tt);
                  says = λ k n f d h.
                      let y = among_each (λ b. Follows (with_classes I k) (branch_clause b)) (branch_of (renumber sub root) e) z.named n N.among in
                      and_both (name_says I k sub root e tree y f d (S.says k (step_each (λ b. Follows (with_classes I k) (branch_clause b)) N.step n) f d h)) refl;
                  gets = λ k n f d h.
                      let y = among_each (Right I k) (branch_of (renumber sub root) e) z.named n N.among in
                      let x = name_gets I k sub root e tree y f d (sym (and_unit (k e (f root))) ∙ h) in
                      let v = S.gets k (step_each (Right I k) N.step n) x.0 x.1 x.3 in
                      (v.0, v.1, v.2 ∙ x.2, v.3);
                }

      -- ---- the groups in turn
      module _ (root : ℕ) (keep : List ℕ) where
        -- a group that stays inline
        inline : (q : ℕ × List Atom) (groups : List (ℕ × List Atom)) (result : List Atom) (u : Naming) (r : List Atom) → Apart root (q ∷ groups)
            → Part groups root keep (result ++ q.1) u r → Part (q ∷ groups) root keep result u r
        unfolding group_vars
        inline q groups result u r a S = record {
          good = S.good;
          says = λ k n f d h e.
              let p = atom_holds (with_classes I k) f in
              S.says k n f d (all_joined p result q.1 h (and_left (all p q.1) (all_groups p groups) e)) (and_right (all p q.1) (all_groups p groups) e);
          gets = λ k n f d h.
              let p = atom_holds (with_classes I k) f in
              let x = S.gets k n f d h in
              let z = x.1 in
              let own : (v : ℕ) → contains (atoms_vars q.1) v ≡ true → z.to v ≡ f v = λ v c. by_truth (contains (group_vars groups) v) (λ e. rw (a.0 v c e) z.fixed) (λ e. z.outside v e) in (
                all_left_lem p result q.1 x.0,
                record {
                  to = z.to;
                  choice = z.choice;
                  fixed = z.fixed;
                  keeps = z.keeps;
                  outside = λ v c. z.outside v (not_both_lem v (atoms_vars q.1) (group_vars groups) c).1;
                  holds = and_both (all_alike (with_classes I k) z.to f q.1 own ∙ all_right p result q.1 x.0) z.holds;
                },
              );
        }

        -- a group that is named
        apartly : (q : ℕ × List Atom) (groups : List (ℕ × List Atom)) (result : List Atom) (w u z : Naming) (a : Atom) (r : List Atom) → Apart root (q ∷ groups)
            → mentions keep q.1 ≡ false → Each IsTree q.1 → Subbed w q.1 root (a ∷ []) u → Step base u z → Part groups root keep (result ++ (a ∷ [])) z r
            → Part (q ∷ groups) root keep result z r
        unfolding group_vars
        apartly q groups result w u z a r apart m t N st S = record {
          good = S.good;
          says = λ k n f d h e.
              let p = atom_holds (with_classes I k) f in
              S.says k n f d
              (all_joined p result (a ∷ []) h (N.says k (step_each (λ b. Follows (with_classes I k) (branch_clause b)) st n) f d (and_left (all p q.1) (all_groups p groups) e)))
              (and_right (all p q.1) (all_groups p groups) e);
          gets = λ k n f d h.
              let p = atom_holds (with_classes I k) f in
              let x = S.gets k n f d h in
              let y = x.1 in
              let g = N.gets k (step_each (Right I k) st n) f d (all_right p result (a ∷ []) x.0) in
              let vs = atoms_vars q.1 in
              let to = merged vs g.0 y.to in (
                all_left_lem p result (a ∷ []) x.0,
                record {
                  to = to;
                  choice = merged_choice I vs g.0 y.to g.1 y.choice;
                  fixed = merged_same vs g.0 y.to root (g.2 ∙ sym y.fixed) ∙ y.fixed;
                  keeps = λ v c. merged_out vs g.0 y.to v (not_member keep q.1 t m v c) ∙ y.keeps v c;
                  outside = λ v c. let o = not_both_lem v vs (group_vars groups) c in merged_out vs g.0 y.to v o.0 ∙ y.outside v o.1;
                  holds = and_both (all_alike (with_classes I k) to g.0 q.1 (merged_in vs g.0 y.to) ∙ g.3)
                      (all_groups_alike (with_classes I k) to y.to groups
                      (λ v c. by_truth (contains vs v)
                      (λ e. let at_root_lem : g.0 v ≡ y.to v = rw (apart.0 v e c) (g.2 ∙ sym y.fixed) in merged_same vs g.0 y.to v at_root_lem)
                      (λ e. merged_out vs g.0 y.to v e)) ∙ y.holds);
                },
              );
        }

        groups_loop : (groups : List (ℕ × List Atom)) (result : List Atom) (any-named : Bool) (w : Naming) → Chain base w.named w.next_fresh
            → Each (Good w.next_fresh) result → Each (λ q. Each (Good w.next_fresh) q.1) groups → Apart root groups
            → Post (Looped w groups root keep result) (name_groups again root keep groups result any-named w)
        unfolding name_groups
        groups_loop [] result any-named w c g m a = give (record { step = step_refl w c; part = done any-named })
          where
            done : (b : Bool) → Given (Part [] root keep result w) (then_some again result b)
            done false = nothing
            done true = given (record {
              good = g;
              says = λ k _ f _ h _. h;
              gets = λ k _ f d h. (h, record { to = f; choice = d; fixed = refl; keeps = λ v _. refl; outside = λ v _. refl; holds = refl });
            })
        groups_loop (q ∷ groups) result any-named w c g m a = go (mentions keep q.1) refl (λ l b u d x y. groups_loop groups l b u d x y a.1)
          where
            go : (b : Bool) → mentions keep q.1 ≡ b
                → ((l : List Atom) (b : Bool) (u : Naming) → Chain base u.named u.next_fresh → Each (Good u.next_fresh) l → Each (λ q. Each (Good u.next_fresh) q.1) groups
                → Post (Looped u groups root keep l) (name_groups again root keep groups l b u))
                → Post (Looped w (q ∷ groups) root keep result) (group_with again (λ r n. name_groups again root keep groups r n) root q result any-named b w)
            go true e rest =
                post_map (rest (result ++ q.1) any-named w c (each_append (Good w.next_fresh) result q.1 g m.0) m.1)
                (λ o u L. record { step = L.step; part = given_map (λ r S. inline q groups result u r a S) L.part })
            go false e rest =
                post_then (name_group_lem q.1 root q.0 w c m.0) (λ x u N.
                post_map (rest (result ++ (x ∷ [])) true u N.step.chain
                (each_append (Good u.next_fresh) result (x ∷ []) (each_of_lem (good_more N.step.fresh) result g) N.good)
                (each_of_lem (λ z h. each_of_lem (good_more N.step.fresh) z.1 h) groups m.1))
                (λ o z L. record {
                  step = step_trans N.step L.step;
                  part = given_map (λ r S. apartly q groups result w u z x r a e (each_of_lem (λ b y. y.1) q.1 m.0) N L.step S) L.part;
                }))

      -- ---- the sorted atoms
      module _ (atoms : List Atom) (root : ℕ) (keep : List ℕ) (w : Naming) (c : Chain base w.named w.next_fresh) (under : Each (AtomUnder w.next_fresh) atoms) where
        record Inside (a : Atom) : Type 0 where
          below : AtomUnder w.next_fresh a
          known : Each (λ v. contains (atoms_vars atoms) v ≡ true) (atom_vars a)

        all_inside : Each Inside atoms
        all_inside = go atoms under (each_vars (λ v. contains (atoms_vars atoms) v ≡ true) atoms (λ v h. h))
          where
            go : (l : List Atom) → Each (AtomUnder w.next_fresh) l → Each (λ a. Each (λ v. contains (atoms_vars atoms) v ≡ true) (atom_vars a)) l → Each Inside l
            go [] x y = tt
            go (a ∷ l) x y = (record { below = x.0; known = y.0 }, go l x.1 y.1)

        whole_body : (g : Groups) → Kinds root Inside atoms g → (u : Naming) (r : List Atom) → Part g.groups root keep g.root_atoms u r → Split atoms root keep u r
        whole_body g K u r S = record {
          good = S.good;
          says = λ k n f d h.
              let p = atom_holds (with_classes I k) f in
              let e : all_sorted p g ≡ true = K.same p ∙ h in
              S.says k n f d (and_left (all p g.root_atoms) (all_groups p g.groups) e) (and_right (all p g.root_atoms) (all_groups p g.groups) e);
          gets = λ k n f d h.
              let x = S.gets k n f d h in
              let z = x.1 in
              record {
                to = z.to;
                choice = z.choice;
                fixed = z.fixed;
                keeps = z.keeps;
                outside = λ v e. z.outside v (by_truth (contains (group_vars g.groups) v)
                    (λ i. absurd (false≢true (sym e ∙ group_vars_lem (λ v. contains (atoms_vars atoms) v ≡ true) g.groups (each_of_lem (λ q y. each_of_lem (λ a b. b.0.known) q.1 y) g.groups K.members) v i)))
                    (λ i. i));
                holds = sym (K.same (atom_holds (with_classes I k) z.to))
                    ∙ and_both (all_alike (with_classes I k) z.to f g.root_atoms
                    (λ v i. let e : v ≡ root = vars_each (λ v. v ≡ root) g.root_atoms (each_of_lem (λ a b. b.vars) g.root_atoms K.rooted) v i in rw e z.fixed) ∙ x.0) z.holds;
              };
        }

        grouped_names : (o : Option Groups) → Given (Kinds root Inside atoms) o → Post (Answer w atoms root keep) (name_grouped again root keep o w)
        grouped_names none nothing = give (record { step = step_refl w c; split = nothing })
        grouped_names (some g) (given K) =
            post_map (groups_loop root keep g.groups g.root_atoms false w c
            (each_of_lem (λ a y. (y.held.below, y.tree)) g.root_atoms K.rooted)
            (each_of_lem (λ q y. each_of_lem (λ a b. (b.0.below, b.1)) q.1 y) g.groups K.members) K.apart)
            (λ o u L. record { step = L.step; split = given_map (whole_body g K u) L.part })

        tree_names : (t : Tree) (b : Bool) → Post (Answer w atoms root keep) (name_tree again atoms root keep t b w)
        tree_names t true = give (record { step = step_refl w c; split = nothing })
        tree_names t false = grouped_names (grouped t.parents root (record { root_atoms = []; groups = [] }) atoms) (grouped_kinds t.parents root Inside atoms all_inside)

        step_names : Post (Answer w atoms root keep) (name_step again atoms root keep w)
        unfolding name_step
        step_names = tree_names (tree_of atoms root) (any_disconnected atoms (tree_of atoms root).placed)

    -- ---- name_branches
    pub names_by : (f : ℕ) → Names (λ l r k. name_by f l r k)
    unfolding name_by
    names_by zero l root keep w c u = refuses
    names_by (suc f) l root keep w c u = step_names (λ l r k. name_by f l r k) (names_by f) l root keep w c u
