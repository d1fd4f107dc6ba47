-- One atom after the other, until there are too many variables. Assumes nothing.
use Rattle.std.specs.Prelude.{Bool, true, false, ◌≡◌, ℕ, ◌+◌, ◌*◌, ◌/◌, ◌≤◌, ◌<◌, get_or, take, replicate, eqb, ltb}
use Rattle.std.proofs.Math.Path.{refl, sym}
use Rattle.std.proofs.Common.{ap, ◌∙◌, arith, lt-ltb, le-ltb, eqb-true}
use mathlib.Core.List.{List, [], ◌∷◌, map}
use Rattle.std.proofs.Math.ListN.{length, drop, drop_of_length-le}
use Rattle.std.proofs.Math.Seq.{length-take-le}
use Rattle.words.specs.Words.{words}
use Rattle.ir.specs.Pick.{pick}
use Rattle.ir.specs.declared.atom.Atom.{Atom}
use Rattle.rules.specs.Branches.{met_with, distinct, all_role_vars, body_var_count, body_var_count_from, max_body_vars}
use Rattle.tables.specs.Tabled.{Run}
use Rattle.branches.specs.Seen.{mets, met_in, Walked}
use Rattle.branches.specs.SeenLaws.{mets_long, mets_distinct}
use Rattle.branches.specs.AtomsLaws.{run_atom, role_vars_lem, no_vars}

-- ---- X as the root
root_is : (v : ℕ) (b : Bool) → eqb v 0 ≡ b → pick b 0 v ≡ v
root_is v true e = sym (eqb-true v 0 e)
root_is v false e = refl

map_same : (l : List ℕ) → map (λ v. pick (eqb v 0) 0 v) l ≡ l
map_same [] = refl
map_same (v ∷ l) = ap (λ (x : ℕ). x ∷ map (λ u. pick (eqb u 0) 0 u) l) (root_is v (eqb v 0) refl) ∙ ap (λ (m : List ℕ). v ∷ m) (map_same l)

pub count_root : (l : List Atom) → body_var_count_from l 0 ≡ body_var_count l
unfolding body_var_count_from body_var_count
count_root l = ap (λ (m : List ℕ). length (distinct (0 ∷ []) m)) (map_same (all_role_vars l))

-- ---- the start
count_is : (root : ℕ) (l : List Atom) → length (met_in root (0 ∷ []) l) ≡ body_var_count_from l root
unfolding met_in body_var_count_from
count_is root l = mets_distinct (0 ∷ []) (0 ∷ []) (map (λ v. pick (eqb v root) 0 v) (all_role_vars l)) (record { long = refl; same = λ u. refl })

pub walked_start : (s : List ℕ) (count root : ℕ) → count ≡ length s / 24 → Walked s count root (replicate 10 0) 1 0
walked_start s count root e = record { all = e; here = omega arith; few = omega arith; room = refl; left = λ l R. count_is root l }

-- ---- an atom
met_role : (root u v : ℕ) (met : List ℕ) (l m : List Atom) → all_role_vars l ≡ u ∷ v ∷ all_role_vars m
    → met_in root met l ≡ met_in root (met_with (met_with met (pick (eqb u root) 0 u)) (pick (eqb v root) 0 v)) m
unfolding met_in mets
met_role root u v met l m e = rw e refl

met_other : (root : ℕ) (met : List ℕ) (l m : List Atom) → all_role_vars l ≡ all_role_vars m → met_in root met l ≡ met_in root met m
unfolding met_in
met_other root met l m e = rw e refl

module _ (s : List ℕ) (count root : ℕ) (seen : List ℕ) (n i : ℕ) (W : Walked s count root seen n i) where
  module _ (h : i < count) where
    vars_role : (l : List Atom) → Run s l → get_or (words s) (6 * i) 0 ≡ 2
        → all_role_vars (drop i l) ≡ get_or (words s) (6 * i + 4) 0 ∷ get_or (words s) (6 * i + 5) 0 ∷ all_role_vars (drop (i + 1) l)
    unfolding all_role_vars
    vars_role l R e = let a = run_atom s count i W.all l R h in let k = a.words in
        rw (a.split, role_vars_lem a.atom (sym k.kind ∙ e), k.var, k.other) refl

    vars_other : (l : List Atom) → Run s l → (get_or (words s) (6 * i) 0 ≡ 2 → ⊥) → all_role_vars (drop i l) ≡ all_role_vars (drop (i + 1) l)
    unfolding all_role_vars
    vars_other l R e = let a = run_atom s count i W.all l R h in
        rw (a.split, no_vars a.atom (λ q. e (a.words.kind ∙ q))) refl

    pub walked_other : (get_or (words s) (6 * i) 0 ≡ 2 → ⊥) → Walked s count root seen n (i + 1)
    walked_other e = record {
      all = W.all;
      here = omega arith;
      few = W.few;
      room = W.room;
      left = λ l R. ap length (sym (met_other root (take n seen) (drop i l) (drop (i + 1) l) (vars_other l R e))) ∙ W.left l R;
    }

    -- words x and y of a role atom, u and v with X for the root, and the lists with u and then v
    module _ (x y u v n1 n2 : ℕ) (seen1 seen2 : List ℕ) (e : get_or (words s) (6 * i) 0 ≡ 2)
        (ex : x ≡ get_or (words s) (6 * i + 4) 0) (ey : y ≡ get_or (words s) (6 * i + 5) 0)
        (eu : u ≡ pick (eqb x root) 0 x) (ev : v ≡ pick (eqb y root) 0 y)
        (e1 : take n1 seen1 ≡ met_with (take n seen) u) (e2 : take n2 seen2 ≡ met_with (take n1 seen1) v) where
      left_role : (l : List Atom) → Run s l → length (met_in root (take n2 seen2) (drop (i + 1) l)) ≡ body_var_count_from l root
      left_role l R = rw (e2, e1, eu, ev, ex, ey) (ap length (sym (met_role root (get_or (words s) (6 * i + 4) 0) (get_or (words s) (6 * i + 5) 0) (take n seen) (drop i l) (drop (i + 1) l) (vars_role l R e))) ∙ W.left l R)

      pub walked_role : length seen2 ≡ 10 → n2 ≤ 8 → Walked s count root seen2 n2 (i + 1)
      walked_role m f = record { all = W.all; here = omega arith; few = f; room = m; left = left_role }

      pub walked_stop : length seen2 ≡ 10 → n2 ≤ 10 → 8 < n2 → (l : List Atom) → Run s l → true ≡ ltb max_body_vars (body_var_count_from l root)
      unfolding met_in
      walked_stop m t f l R =
          let k : length (take n2 seen2) ≡ n2 = length-take-le n2 seen2 (omega arith) in
          let g = mets_long (take n2 seen2) (map (λ x. pick (eqb x root) 0 x) (all_role_vars (drop (i + 1) l))) in
          sym (lt-ltb 8 (body_var_count_from l root) (omega (arith, left_role l R)))

  pub walked_end : count ≤ i → (l : List Atom) → Run s l → false ≡ ltb max_body_vars (body_var_count_from l root)
  unfolding met_in mets all_role_vars
  walked_end h l R =
      let k : length (take n seen) ≡ n = length-take-le n seen (omega (arith, W.room, W.few)) in
      let z : drop i l ≡ [] = drop_of_length-le l {i = i} (omega (arith, R.long, W.all)) in
      let q : length (take n seen) ≡ body_var_count_from l root = rw z at (W.left l R) in
      sym (le-ltb 8 (body_var_count_from l root) (omega (arith, W.few)))
