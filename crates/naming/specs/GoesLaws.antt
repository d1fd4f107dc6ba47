-- The rule answers above its bound, and what is named is never taken back. Assumes nothing.
use Rattle.std.specs.Prelude.{Bool, not, ◌&&◌, ◌≡◌, refl, ℕ, zero, suc, ◌+◌, ◌≤◌, ◌<◌, length, eqb, ltb}
use Rattle.std.proofs.Math.Bool.{true, false}
use mathlib.Core.List.{List, [], ◌∷◌, ◌++◌, map}
use Rattle.std.proofs.Math.Option.{Option, none, some}
use Rattle.std.proofs.Common.{arith, eqb-true}
use Rattle.std.proofs.Math.ListN.{length-append}
use Rattle.std.proofs.lemmas.Bool.{and_parts}
use Rattle.ir.specs.declared.atom.Atom.{Atom}
use Rattle.ir.specs.declared.atom.Atom.TheVariants.{Class}
use Rattle.rules.specs.Base.{Res, ok, refused, then, kept, filter}
use Rattle.rules.specs.EachLaws.{each_unit}
use Rattle.rules.specs.Branches.{Branch, Groups, W, max_body_vars, body_var_count_from, tree_of, any_disconnected, grouped, memo_of, name_or_new, name_of, renumber, is_edge, mentions, reduced_to, split_below, split_group, name_group, group_with, name_groups, name_grouped, name_tree, name_step, name_by}
use Rattle.rules.specs.Branches as Rules
use Rattle.branches.specs.Memo.{packed, named_words}
use Rattle.branches.specs.Grouped.{all_of, nothing}
use Rattle.naming.specs.GroupLaws.{WellBy, grouped_well}

-- the words of what is named
abbrev pub wide : Rules.Naming → ℕ
wide z = length (named_words z.named)

-- an answer, with at least n words named then
abbrev pub Goes : {A : Type 0} → ℕ → Res Rules.Naming A → Type 0
Goes n (ok a z) = n ≤ wide z
Goes n (refused k) = ⊥

pub goes_then : {A B : Type 0} (n : ℕ) (r : Res Rules.Naming A) (f : A → W B) → Goes n r → ((a : A) (z : Rules.Naming) → n ≤ wide z → Goes n (f a z)) → Goes n (then r f)
goes_then n (ok a z) f g h = h a z g
goes_then n (refused k) f g h = absurd g

named_more : (l m : List Branch) → length (named_words l) ≤ length (named_words (l ++ m))
unfolding named_words
named_more [] m = omega arith
named_more (b ∷ l) m =
    omega (arith, length-append (map packed b.body) (named_words l), length-append (map packed b.body) (named_words (l ++ m)), named_more l m)

pub name_goes : (body : List Atom) (z : Rules.Naming) (n : ℕ) → n ≤ wide z → Goes n (name_of body z)
unfolding name_of
name_goes body z n h = go (memo_of z.named body)
  where
    go : (o : Option ℕ) → Goes n (name_or_new body z o)
    go (some e) = h
    go none = omega (arith, h, named_more z.named (record { body = body; name = z.next_fresh } ∷ []))

filter_both : (p : Atom → Bool) (l : List Atom) → length (filter p l) + length (filter (λ x. not (p x)) l) ≡ length l
unfolding filter
filter_both p [] = refl
filter_both p (x ∷ l) = go (p x) (filter_both p l)
  where
    go : (b : Bool) → length (filter p l) + length (filter (λ y. not (p y)) l) ≡ length l
        → length (kept x (filter p l) b) + length (kept x (filter (λ y. not (p y)) l) (not b)) ≡ suc (length l)
    go true h = omega arith
    go false h = omega arith

-- what is held of naming fewer than f atoms
abbrev pub Going : (List Atom → ℕ → List ℕ → W (Option (List Atom))) → ℕ → Type 0
Going again f = (l : List Atom) (root : ℕ) (keep : List ℕ) (z : Rules.Naming) (n : ℕ) → length l < f → n ≤ wide z → Goes n (again l root keep z)

module _ (again : List Atom → ℕ → List ℕ → W (Option (List Atom))) (f : ℕ) (law : Going again f) where
  below_goes : (sub edge inner : List Atom) (t : ℕ) (b : Bool) (z : Rules.Naming) (n : ℕ) → (b ≡ true → length inner < f) → n ≤ wide z → Goes n (split_below again sub edge inner t b z)
  below_goes sub edge inner t false z n l h = h
  below_goes sub edge inner t true z n l h = goes_then n (again inner t [] z) (λ o. reduced_to again sub edge o) (law inner t [] z n (l refl) h) go
    where
      go : (o : Option (List Atom)) (y : Rules.Naming) → n ≤ wide y → Goes n (reduced_to again sub edge o y)
      go none y k = k
      go (some r) y k = k

  split_goes : (group : List Atom) (root t : ℕ) (b : Bool) (z : Rules.Naming) (n : ℕ) → length group ≤ f → n ≤ wide z
      → Goes n (split_group again group (filter (is_edge root t) group) (filter (λ a. not (is_edge root t a)) group) root t b z)
  split_goes group root t false z n l h = h
  split_goes group root t true z n l h =
      let edge = filter (is_edge root t) group in
      let inner = filter (λ a. not (is_edge root t a)) group in
      below_goes group edge inner t (eqb (length edge) 1 && not (mentions (root ∷ []) inner)) z n
      (λ e. let one : length edge ≡ 1 = eqb-true (length edge) 1 (and_parts (eqb (length edge) 1) (not (mentions (root ∷ []) inner)) e).0 in omega (arith, filter_both (is_edge root t) group)) h

  group_goes : (root t : ℕ) (group : List Atom) (z : Rules.Naming) (n : ℕ) → length group ≤ f → n ≤ wide z → Goes n (name_group again root t group z)
  group_goes root t group z n l h =
      let wd = ltb max_body_vars (body_var_count_from group root) in
      goes_then n (split_group again group (filter (is_edge root t) group) (filter (λ a. not (is_edge root t a)) group) root t wd z)
      (λ sub y. then (name_of (renumber sub root) y) (λ e x. ok (Class e root) x))
      (split_goes group root t wd z n l h)
      (λ sub y k. goes_then n (name_of (renumber sub root) y) (λ e x. ok (Class e root) x) (name_goes (renumber sub root) y n k) (λ e x j. j))

  groups_goes : (root : ℕ) (keep : List ℕ) (l : List (ℕ × List Atom)) (result : List Atom) (any : Bool) (z : Rules.Naming) (n : ℕ) → length (all_of l) ≤ f → n ≤ wide z
      → Goes n (name_groups again root keep l result any z)
  unfolding name_groups all_of
  groups_goes root keep [] result any z n l h = h
  groups_goes root keep (g ∷ l) result any z n m h = go (mentions keep g.1) (λ r b y k. groups_goes root keep l r b y n (omega (arith, length-append g.1 (all_of l))) k)
    where
      go : (b : Bool) → ((r : List Atom) (c : Bool) (y : Rules.Naming) → n ≤ wide y → Goes n (name_groups again root keep l r c y))
          → Goes n (group_with again (λ r c. name_groups again root keep l r c) root g result any b z)
      go true next = next (result ++ g.1) any z h
      go false next = goes_then n (name_group again root g.0 g.1 z) (λ a. name_groups again root keep l (result ++ (a ∷ [])) true) (group_goes root g.0 g.1 z n (omega (arith, length-append g.1 (all_of l))) h) (λ a y k. next (result ++ (a ∷ [])) true y k)

  step_goes : (l : List Atom) (root : ℕ) (keep : List ℕ) (z : Rules.Naming) (n : ℕ) → length l ≤ f → n ≤ wide z → Goes n (name_step again l root keep z)
  unfolding name_step
  step_goes l root keep z n m h = tree (any_disconnected l (tree_of l root).placed)
    where
      groups : (o : Option Groups) → WellBy (λ _. Unit {0}) (length l) o → Goes n (name_grouped again root keep o z)
      groups none g = h
      groups (some g) i = groups_goes root keep g.groups g.root_atoms false z n (omega (arith, i.total)) h

      tree : (b : Bool) → Goes n (name_tree again l root keep (tree_of l root) b z)
      tree true = h
      tree false = groups (grouped (tree_of l root).parents root nothing l) (grouped_well (λ _. Unit {0}) (tree_of l root).parents root l (each_unit l))

pub by_goes : (f : ℕ) → Going (λ l root keep. name_by f l root keep) f
unfolding name_by
by_goes zero l root keep z n m h = absurd (omega arith)
by_goes (suc f) l root keep z n m h = step_goes (λ k r j. name_by f k r j) f (by_goes f) l root keep z n (omega arith) h

pub rest_goes : (f root : ℕ) (keep : List ℕ) (l : List (ℕ × List Atom)) (result : List Atom) (any : Bool) (z : Rules.Naming) (n : ℕ) → length (all_of l) ≤ f → n ≤ wide z
    → Goes n (name_groups (λ a b c. name_by f a b c) root keep l result any z)
rest_goes f root keep l result any z n m h = groups_goes (λ a b c. name_by f a b c) f (by_goes f) root keep l result any z n m h
