-- A child split one level down: its edge in front, and what is below it named. Assumes nothing.
use Rattle.std.specs.Prelude.{true, false, Some, None, Ok, Err, ◌≡◌, refl, List, [], ◌∷◌, ◌++◌, ℕ, zero, suc, ◌+◌, ◌*◌, ◌-◌, ◌≤◌, ◌<◌, length, get_or, take, drop, ltb}
use Rattle.std.proofs.Common.{subst, arith}
use Rattle.std.proofs.Math.Option.{Option, none, some}
use Rattle.words.specs.Words.{words}
use Rattle.ir.specs.Records.{six}
use Rattle.ir.specs.declared.atom.Atom.{Atom}
use Rattle.ir.specs.declared.refusal.Refusal.{Refusal}
use Rattle.rules.specs.Base.{Res, ok, refused, then}
use Rattle.rules.specs.Run.{flat}
use Rattle.rules.specs.Invariants.{Each}
use Rattle.rules.specs.Branches.{max_body_vars, body_var_count_from, reduced_to, name_by}
use Rattle.rules.specs.Branches as Rules
use Rattle.tables.specs.Tabled.{Run}
use Rattle.tables.specs.TabledLaws.{At, at_front, at_back}
use Rattle.tables.specs.AtomLaws.{part_run}
use Rattle.branches.specs.Layout.{body_at, copy_at, work_words}
use Rattle.branches.specs.Wide.{AtomsAre}
use Rattle.branches.specs.Memo.{Tame, TameThere, NamedHeld, NamedThere}
use Rattle.branches.specs.Edges.{KeepIs, OneEdge, any_atom, fronted, splits}
use Rattle.branches.specs.Grouped.{OnlyRecords}
use Rattle.branches.specs.NameLaws.{atoms_same}
use Rattle.branches.specs.InsertLaws.{at_join}
use Rattle.branches.specs.declared.memo.Naming.{Naming}
use Rattle.naming.specs.Names.{To, ReducedBy, OnlyNames}
use Rattle.naming.specs.Splits.{split_rule, SplitBy}
use Rattle.naming.specs.AgreeLaws.{at_stay, named_stay, named_there_stay}

pub keep_none : (w : List ℕ) → KeepIs w 0 []
keep_none w = record { long = refl; few = omega arith; are = refl }

pub tame_of : (w : List ℕ) (base count : ℕ) (l : List Atom) → TameThere w base count → AtomsAre w base count l → Each Tame l
tame_of w base count l T A = subst (Each Tame) (atoms_same w base count T.list l T.are A) T.tame

-- the atoms as a part of scratch's bytes s
pub part_of : (s : List ℕ) (base count : ℕ) (l : List Atom) → base + count ≤ copy_at → 4 * work_words ≤ length s → AtomsAre (words s) base count l
    → Run (take (24 * (base + count) - 24 * base) (drop (24 * base) s)) l
part_of s base count l h k A = part_run s base count (24 * (base + count)) l refl (omega arith) A.long A.there

-- ---- a child that is not split
module _ (w : List ℕ) (base count : ℕ) (s : Naming) (l : List Atom) (root t : ℕ) (z : Rules.Naming) (f : ℕ) (A : AtomsAre w base count l) (p : Each Tame l) (H : NamedHeld w s z) where
  pub whole : To w base count l z s s count
  whole = record { atoms = A; tame = p; shorter = omega arith; held = H; first = refl }

  pub split_narrow : ltb max_body_vars (body_var_count_from l root) ≡ false → SplitBy w base count s (split_rule f l root t z) (Ok (s, count))
  unfolding split_rule
  split_narrow e = rw e whole

  pub split_none : ltb max_body_vars (body_var_count_from l root) ≡ true → splits root t l ≡ false → SplitBy w base count s (split_rule f l root t z) (Ok (s, count))
  unfolding split_rule
  split_none e h = rw (e, h) whole

-- ---- the rule, where one edge leads to the child
abbrev pub inner_at : List Atom → ℕ → List Atom
inner_at l e = take e l ++ drop (e + 1) l

split_rule_lem : (l : List Atom) (root t e f : ℕ) (z : Rules.Naming) → ltb max_body_vars (body_var_count_from l root) ≡ true → OneEdge l root t e
    → split_rule f l root t z ≡ then (name_by f (inner_at l e) t [] z) (λ o. reduced_to (λ a b c. name_by f a b c) l (get_or l e any_atom ∷ []) o)
unfolding split_rule
split_rule_lem l root t e f z h E = rw (h, E.one, E.edge, E.inner) refl

tame_pick : (l : List Atom) (e : ℕ) → e < length l → Each Tame l → Tame (get_or l e any_atom) × Each Tame (inner_at l e)
tame_pick [] e h p = absurd (omega arith)
tame_pick (a ∷ l) zero h p = (p.0, p.1)
tame_pick (a ∷ l) (suc e) h p =
    let r = tame_pick l e (omega arith) p.1 in
    let z : suc e + 1 ≡ suc (e + 1) = omega arith in
    (r.0, rw z (p.0, r.1))

inner_long : (l : List Atom) (e : ℕ) → e < length l → length (inner_at l e) + 1 ≡ length l
inner_long [] e h = absurd (omega arith)
inner_long (a ∷ l) zero h = omega arith
inner_long (a ∷ l) (suc e) h = let z : suc e + 1 ≡ suc (e + 1) = omega arith in rw z (omega (arith, inner_long l e (omega arith)))

-- ---- an atom in front
pub front_atom : (w : List ℕ) (base count : ℕ) (a : Atom) (l : List Atom) → AtomsAre w base count (a ∷ l) → At w (6 * base) (six a)
unfolding flat
front_atom w base count a l A = at_front w (6 * base) (six a) (flat l) A.there

pub behind_atom : (w : List ℕ) (base count : ℕ) (a : Atom) (l : List Atom) → AtomsAre w base count (a ∷ l) → AtomsAre w (base + 1) (count - 1) l
unfolding flat
behind_atom w base count a l A = record { long = omega (arith, A.long); there = at_back w (6 * base) (six a) (flat l) A.there (6 * (base + 1)) (omega arith) }

pub with_front : (w : List ℕ) (base n : ℕ) (a : Atom) (l : List Atom) → At w (6 * base) (six a) → AtomsAre w (base + 1) n l → AtomsAre w base (n + 1) (a ∷ l)
unfolding flat
with_front w base n a l e A = record { long = omega (arith, A.long); there = at_join w (6 * base) (6 * (base + 1)) (six a) (flat l) e (omega arith) A.there }

-- ---- split: w1 with the edge in front, w2 after what is below it is named
module _ (w w1 w2 : List ℕ) (base count e root t : ℕ) (s : Naming) (long1 : length w1 ≡ length w) (long2 : length w2 ≡ length w1) (low : body_at ≤ base) (h : e < count)
    (O1 : OnlyRecords base count w w1) where
  pub named_front : (z : Rules.Naming) → NamedHeld w s z → NamedHeld w1 s z
  named_front z H = named_stay w w1 long1 s z (λ j k. O1.before j (omega arith)) H

  pub there_front : NamedThere w s → NamedThere w1 s
  there_front T = named_there_stay w w1 long1 s (λ j k. O1.before j (omega arith)) T

  module _ (l : List Atom) (A : AtomsAre w base count l) (p : Each Tame l) (F : AtomsAre w1 base count (fronted l e)) where
    edge_tame : Tame (get_or l e any_atom)
    edge_tame = (tame_pick l e (omega (arith, A.long)) p).0

    pub inner_are : AtomsAre w1 (base + 1) (count - 1) (inner_at l e)
    inner_are = behind_atom w1 base count (get_or l e any_atom) (inner_at l e) F

    pub inner_there : TameThere w1 (base + 1) (count - 1)
    inner_there = record { list = inner_at l e; are = inner_are; tame = (tame_pick l e (omega (arith, A.long)) p).1 }

    module _ (O2 : OnlyNames (base + 1) (count - 1) w1 w2) where
      edge_stays : At w2 (6 * base) (six (get_or l e any_atom))
      edge_stays = at_stay w1 w2 long2 (6 * base) (six (get_or l e any_atom)) (λ j a b. O2.before j (omega arith) (omega arith)) (front_atom w1 base count (get_or l e any_atom) (inner_at l e) F)

      -- the atoms as they were put in front, where nothing was named
      module _ (f : ℕ) (z : Rules.Naming) where
        none_are : (o : Res Rules.Naming (Option (List Atom))) → ReducedBy w2 (base + 1) (count - 1) (inner_at l e) [] s o (Ok None) → AtomsAre w2 base count (fronted l e)
        none_are (ok none y) N =
            let c : count - 1 + 1 ≡ count = omega arith in
            subst (λ (n : ℕ). AtomsAre w2 base n (fronted l e)) c (with_front w2 base (count - 1) (get_or l e any_atom) (inner_at l e) edge_stays (N.atoms refl))
        none_are (ok (some b) y) N = absurd N
        none_are (refused k) N = absurd N

        pub fronted_again : ReducedBy w2 (base + 1) (count - 1) (inner_at l e) [] s (name_by f (inner_at l e) t [] z) (Ok None) → AtomsAre w2 base count (fronted l e)
        fronted_again N = none_are (name_by f (inner_at l e) t [] z) N

        module _ (g : ltb max_body_vars (body_var_count_from l root) ≡ true) (E : OneEdge l root t e) where
          to_go : (m : Naming) (n : ℕ) (o : Res Rules.Naming (Option (List Atom))) → ReducedBy w2 (base + 1) (count - 1) (inner_at l e) [] s o (Ok (Some (m, n)))
              → SplitBy w2 base count s (then o (λ x. reduced_to (λ a b c. name_by f a b c) l (get_or l e any_atom ∷ []) x)) (Ok (m, n + 1))
          to_go m n (ok (some b) y) T = record {
            atoms = with_front w2 base n (get_or l e any_atom) b edge_stays T.atoms;
            tame = (edge_tame, T.tame);
            shorter = omega (arith, T.shorter);
            held = T.held;
            first = T.first;
          }
          to_go m n (ok none y) T = absurd T
          to_go m n (refused k) T = absurd T

          pub split_to : (m : Naming) (n : ℕ) → ReducedBy w2 (base + 1) (count - 1) (inner_at l e) [] s (name_by f (inner_at l e) t [] z) (Ok (Some (m, n)))
              → SplitBy w2 base count s (split_rule f l root t z) (Ok (m, n + 1))
          split_to m n T = rw (split_rule_lem l root t e f z g E) (to_go m n (name_by f (inner_at l e) t [] z) T)

          full_go : (x : Refusal) (o : Res Rules.Naming (Option (List Atom))) → ReducedBy w2 (base + 1) (count - 1) (inner_at l e) [] s o (Err x)
              → SplitBy w2 base count s (then o (λ x. reduced_to (λ a b c. name_by f a b c) l (get_or l e any_atom ∷ []) x)) (Err x)
          full_go x (ok (some b) y) T = T
          full_go x (ok none y) T = T
          full_go x (refused k) T = absurd T

          pub split_full : (x : Refusal) → ReducedBy w2 (base + 1) (count - 1) (inner_at l e) [] s (name_by f (inner_at l e) t [] z) (Err x)
              → SplitBy w2 base count s (split_rule f l root t z) (Err x)
          split_full x T = rw (split_rule_lem l root t e f z g E) (full_go x (name_by f (inner_at l e) t [] z) T)

          module _ (w3 : List ℕ) (long3 : length w3 ≡ length w2) (O3 : OnlyRecords base count w2 w3) (B : AtomsAre w3 base count l) where
            back_go : (o : Res Rules.Naming (Option (List Atom))) → ReducedBy w2 (base + 1) (count - 1) (inner_at l e) [] s o (Ok None)
                → SplitBy w3 base count s (then o (λ x. reduced_to (λ a b c. name_by f a b c) l (get_or l e any_atom ∷ []) x)) (Ok (s, count))
            back_go (ok none y) N = whole w3 base count s l root t y f B p (named_stay w2 w3 long3 s y (λ j k. O3.before j (omega arith)) N.held)
            back_go (ok (some b) y) N = absurd N
            back_go (refused k) N = absurd N

            pub split_back : ReducedBy w2 (base + 1) (count - 1) (inner_at l e) [] s (name_by f (inner_at l e) t [] z) (Ok None) → SplitBy w3 base count s (split_rule f l root t z) (Ok (s, count))
            split_back N = rw (split_rule_lem l root t e f z g E) (back_go (name_by f (inner_at l e) t [] z) N)

pub names_none : (base count : ℕ) (w : List ℕ) → OnlyNames base count w w
names_none base count w = record { before = λ j a b. refl; between = λ j a b. refl; keep = λ j a b. refl }

pub reduced_short : (w : List ℕ) (base count : ℕ) (l : List Atom) (kept : List ℕ) (s : Naming) (o : Res Rules.Naming (Option (List Atom))) (m : Naming) (n : ℕ) → ReducedBy w base count l kept s o (Ok (Some (m, n))) → n ≤ count
reduced_short w base count l kept s (ok (some b) y) m n T = T.shorter
reduced_short w base count l kept s (ok none y) m n T = absurd T
reduced_short w base count l kept s (refused k) m n T = absurd T
