-- An atom of a round. Assumes nothing.
use Rattle.std.specs.Prelude.{Bool, true, false, ◌≡◌, refl, Some, None, List, [], ◌∷◌, ◌++◌, ℕ, ◌+◌, ◌≤◌, ◌<◌, length, get_or, set}
use Rattle.std.proofs.Common.{sym, ap, ◌∙◌, arith}
use Rattle.ir.specs.Pick.{pick}
use Rattle.ir.specs.Records.{words_of}
use Rattle.ir.specs.declared.atom.Atom.{Atom}
use Rattle.ir.specs.declared.atom.Atom.TheVariants.{Class, Exists, AtMost, AtLeast, Equal, Role as RoleAtom}
use Rattle.rules.specs.Base.{contains}
use Rattle.rules.specs.Branches.{Tree, passed, bound_by, edge_unless, scan_atom}
use Rattle.branches.specs.Layout.{work_words}
use Rattle.branches.specs.AtomsLaws.{WordsAre}
use Rattle.branches.specs.Places.{PlaceIs}
use Rattle.trees.specs.Growth.{one, bound_of, bind_of, Midway, Visited}
use Rattle.trees.specs.PlaceLaws.{place_in_lem, bound_long}
use Rattle.trees.specs.FlagLaws.{trues_set, flags_next, flags_set, flags_rest}
use Rattle.trees.specs.BindLaws.{bind_kept, bind_growing}

-- ---- what the rule does
scan_role : (t : Tree) (a : Atom) (p : Bool) → (words_of a).0 ≡ 2 → scan_atom t a p ≡ edge_unless t (words_of a).4 (words_of a).5 p
scan_role t (Class k v) p e = absurd (omega arith)
scan_role t (RoleAtom r u v) p e = refl
scan_role t (Exists r k v) p e = absurd (omega arith)
scan_role t (AtMost r q n v) p e = absurd (omega arith)
scan_role t (AtLeast r q n v) p e = absurd (omega arith)
scan_role t (Equal u v) p e = absurd (omega arith)

scan_other : (t : Tree) (a : Atom) (p : Bool) → ((words_of a).0 ≡ 2 → ⊥) → scan_atom t a p ≡ passed t p
scan_other t (Class k v) p e = refl
scan_other t (RoleAtom r u v) p e = absurd (e refl)
scan_other t (Exists r k v) p e = refl
scan_other t (AtMost r q n v) p e = refl
scan_other t (AtLeast r q n v) p e = refl
scan_other t (Equal u v) p e = refl

scan_placed : (t : Tree) (a : Atom) → scan_atom t a true ≡ passed t true
scan_placed t (Class k v) = refl
scan_placed t (RoleAtom r u v) = refl
scan_placed t (Exists r k v) = refl
scan_placed t (AtMost r q n v) = refl
scan_placed t (AtLeast r q n v) = refl
scan_placed t (Equal u v) = refl

module _ (w : List ℕ) (flags : List Bool) (at j n : ℕ) (more : Bool) (inside : j < length flags) where
  -- ---- the atom is passed
  pass_midway : (root : ℕ) (t : Tree) → Midway w flags root j n more t → Midway w flags root (j + 1) n more (passed t (get_or flags j false))
  pass_midway root t M = record {
    growing = M.growing;
    placed = ap (λ (l : List Bool). l ++ (get_or flags j false ∷ [])) M.placed ∙ sym (flags_next flags j inside);
    progressed = M.progressed;
  }

  visited_pass : ((t : Tree) (a : Atom) → WordsAre w at a → bound_of w n ≡ t.bound → scan_atom t a (get_or flags j false) ≡ passed t (get_or flags j false)) → Visited w flags at j n more n more w flags
  visited_pass f = record {
    rule = λ root t a k M. rw (f t a k M.growing.vars) (pass_midway root t M);
    rest = refl;
    kept = record { front = refl; back = refl };
    gained = 0;
    fewer = omega arith;
    moved = omega arith;
    counted = λ m h. omega arith;
  }

  pub visited_placed : get_or flags j false ≡ true → Visited w flags at j n more n more w flags
  visited_placed e = visited_pass (λ t a k b. rw e (scan_placed t a))

  pub visited_other : (get_or w at 0 ≡ 2 → ⊥) → Visited w flags at j n more n more w flags
  visited_other e = visited_pass (λ t a k b. scan_other t a (get_or flags j false) (λ q. e (k.kind ∙ q)))

  module _ (x : ℕ) (free : get_or flags j false ≡ false) (role : get_or w at 0 ≡ 2) (ex : x ≡ get_or w (at + 4) 0) where
    pub visited_loose : PlaceIs (bound_of w n) x None → Visited w flags at j n more n more w flags
    visited_loose h = visited_pass (λ t a k b.
        let o : contains t.bound (words_of a).4 ≡ false = rw (← b, ← k.var, ← ex) h in
        scan_role t a (get_or flags j false) (sym k.kind ∙ role) ∙ rw (free, o) refl)

    -- ---- the atom is placed
    module _ (i v : ℕ) (P : PlaceIs (bound_of w n) x (Some i)) (ev : v ≡ get_or w (at + 5) 0) (few : n ≤ 256) (long : work_words ≤ length w) where
      size : length (bound_of w n) ≡ n
      size = bound_long w n (omega arith) long

      place_midway : (root : ℕ) (t : Tree) → Midway w flags root j n more t → (b : Bool) → contains t.bound v ≡ b
          → Midway (bind_of w n i v b) (set flags j true) root (j + 1) (pick b n (n + 1)) true (bound_by t x v b)
      place_midway root t M true e = record {
        growing = M.growing;
        placed = ap (λ (l : List Bool). l ++ (true ∷ [])) M.placed ∙ sym (flags_set flags j inside);
        progressed = refl;
      }
      place_midway root t M false e = record {
        growing = bind_growing w n i v few long root x t.bound t.parents M.growing (omega (arith, P.0, size))
            (rw (← M.growing.vars, P.1) (place_in_lem (bound_of w n) x (omega (arith, P.0, P.1))).1) e;
        placed = ap (λ (l : List Bool). l ++ (true ∷ [])) M.placed ∙ sym (flags_set flags j inside);
        progressed = refl;
      }

      scan_bound : (t : Tree) (a : Atom) → WordsAre w at a → bound_of w n ≡ t.bound → scan_atom t a (get_or flags j false) ≡ bound_by t x v (contains t.bound v)
      scan_bound t a k b =
          let o : contains t.bound x ≡ true = rw (← b) P.2 in
          let p : (words_of a).4 ≡ x = sym k.var ∙ sym ex in
          let q : (words_of a).5 ≡ v = sym k.other ∙ sym ev in
          scan_role t a (get_or flags j false) (sym k.kind ∙ role) ∙ rw (free, p, q, o) refl

      pick_few : (b : Bool) → pick b n (n + 1) ≤ n + 1
      pick_few true = omega arith
      pick_few false = omega arith

      moved_one : (b : Bool) → 1 ≤ one b + 1
      moved_one b = omega arith

      pub visited_new : (m : ℕ) (w' : List ℕ) (flags' : List Bool) → m ≡ pick (contains (bound_of w n) v) n (n + 1) → w' ≡ bind_of w n i v (contains (bound_of w n) v)
          → flags' ≡ set flags j true → Visited w flags at j n more m true w' flags'
      visited_new m w' flags' em ew ef = rw (em, ew, ef) (record {
        rule = λ root t a k M. rw (scan_bound t a k M.growing.vars, M.growing.vars) (place_midway root t M (contains t.bound v) refl);
        rest = flags_rest flags j;
        kept = bind_kept w n i v few long (contains (bound_of w n) v);
        gained = 1;
        fewer = pick_few (contains (bound_of w n) v);
        moved = moved_one more;
        counted = λ k g. trues_set k flags j g inside free;
      })
