-- A body renumbered atom by atom. Assumes nothing.
use Rattle.std.specs.Prelude.{◌≡◌, refl, List, [], ◌∷◌, ◌++◌, map, ℕ, zero, suc, ◌+◌, ◌*◌, ◌≤◌, ◌<◌, length, get_or, take, drop, set}
use Rattle.std.proofs.Common.{sym, ap, ◌∙◌, append-nil, arith, add-one, length-drop, length-set, drop_of_length-le, take-suc, take-take, drop-set-lt, drop-drop, get_or-drop, get_or-set_same}
use Rattle.std.proofs.lemmas.List.{length-map, take-set-le}
use Rattle.std.proofs.Math.Seq.{take-nil, append_snoc}
use Rattle.ir.specs.Records.{words_of, atom_at}
use Rattle.ir.specs.RecordLaws.{read_six_lem}
use Rattle.ir.specs.declared.role.Role.{Role}
use Rattle.ir.specs.declared.atom.Atom.{Atom}
use Rattle.ir.specs.declared.atom.Atom.TheVariants.{Class, Exists, AtMost, AtLeast, Equal, Role as RoleAtom}
use Rattle.std.specs.Prelude.{Some}
use Rattle.rules.specs.Run.{flat}
use Rattle.rules.specs.DecodeLaws.{flat_long}
use Rattle.rules.specs.Branches.{place_of, met_with, renumber, renumber_from}
use Rattle.rules.proofs.BranchLaws.{renumber_length}
use Rattle.rules.specs.EachLaws.{each_drop}
use Rattle.tables.specs.TabledLaws.{At, at_back, at_get}
use Rattle.tables.specs.AtomLaws.{flat_drop}
use Rattle.branches.specs.AtomsLaws.{split_at}
use Rattle.branches.specs.Wide.{AtomsAre}
use Rattle.branches.specs.Memo.{packed, Tame, TameThere}
use Rattle.branches.specs.Renumbered.{run, Met, Put, met_after, placed, TameAt, OnlyRenumbered, Renumbering}
use Rattle.branches.specs.MetLaws.{run_set, run_more}

-- ---- words that stay
drop_take : (j n : ℕ) (w : List ℕ) → drop j (take (j + n) w) ≡ take n (drop j w)
drop_take zero n w = let z : 0 + n ≡ n = omega arith in rw z refl
drop_take (suc j) n [] = let z : suc j + n ≡ suc (j + n) = omega arith in rw z (sym (take-nil n))
drop_take (suc j) n (x ∷ w) = let z : suc j + n ≡ suc (j + n) = omega arith in rw z (drop_take j n w)

-- below m
pub run_kept : (m : ℕ) (w w' : List ℕ) (j n : ℕ) → take m w' ≡ take m w → j + n ≤ m → run w' j n ≡ run w j n
run_kept m w w' j n e h =
    sym (drop_take j n w') ∙ ap (drop j) (sym (take-take (j + n) m w' h) ∙ ap (take (j + n)) e ∙ take-take (j + n) m w h) ∙ drop_take j n w

-- ---- an atom's word
module _ (m k r : ℕ) (ek : k ≡ m + 513) (er : r ≡ k + 512) (w : List ℕ) (n i : ℕ) (few : n + 2 ≤ 513) (room : r + i < length w) where
  pub put_done : (a : Atom) (w1 w2 : List ℕ) (n1 x : ℕ) → run w1 m n1 ≡ met_after (run w m n) a → n1 ≤ n + 2 → length w1 ≡ length w → take m w1 ≡ take m w → drop k w1 ≡ drop k w
      → w2 ≡ set w1 (r + i) x → x ≡ packed (placed (run w m n) a) → Put m k r w n i a w2 n1
  put_done a w1 w2 n1 x vars most long before behind e f =
      let em : r + i ≡ m + (1025 + i) = omega arith in
      let ek' : r + i ≡ k + (512 + i) = omega arith in
      let vr : run (set w1 (r + i) x) m n1 ≡ run w1 m n1 = ap (λ (j : ℕ). run (set w1 j x) m n1) em ∙ run_set w1 m n1 (1025 + i) x (omega arith) in
      let kr : run (set w1 (r + i) x) k 512 ≡ run w1 k 512 = ap (λ (j : ℕ). run (set w1 j x) k 512) ek' ∙ run_set w1 k 512 (512 + i) x (omega arith) in
      let dr : drop r w1 ≡ drop r w = ap (λ (j : ℕ). drop j w1) er ∙ sym (drop-drop 512 k w1) ∙ ap (drop 512) behind ∙ drop-drop 512 k w ∙ ap (λ (j : ℕ). drop j w) (sym er) in
      record {
        vars = ap (λ (l : List ℕ). run l m n1) e ∙ vr ∙ vars;
        few = most;
        word = ap (λ (l : List ℕ). get_or l (r + i) 0) e ∙ get_or-set_same w1 (r + i) x 0 (omega arith) ∙ f;
        long = ap length e ∙ length-set w1 (r + i) x ∙ long;
        before = ap (take m) e ∙ take-set-le m w1 (r + i) x (omega arith) ∙ before;
        keep = ap (λ (l : List ℕ). run l k 512) e ∙ kr ∙ ap (take 512) behind;
        done = ap (λ (l : List ℕ). run l r i) e ∙ run_set w1 r i i x (omega arith) ∙ ap (take i) dr;
      }

  pub put_class : (c v : ℕ) (w1 w2 : List ℕ) (n1 p x : ℕ) → Met m k w n v w1 n1 → p ≡ place_of (run w m n) v → x ≡ packed (Class c p) → w2 ≡ set w1 (r + i) x → Put m k r w n i (Class c v) w2 n1
  put_class c v w1 w2 n1 p x M e f g = put_done (Class c v) w1 w2 n1 x M.vars (omega (arith, M.few)) M.long M.before M.behind g (f ∙ ap (λ (y : ℕ). packed (Class c y)) e)

  pub put_role : (s : Role) (u v : ℕ) (w1 w2 w3 : List ℕ) (n1 n2 p q x : ℕ) → Met m k w n u w1 n1 → Met m k w1 n1 v w2 n2 → p ≡ place_of (run w m n) u → q ≡ place_of (run w1 m n1) v
      → x ≡ packed (RoleAtom s p q) → w3 ≡ set w2 (r + i) x → Put m k r w n i (RoleAtom s u v) w3 n2
  put_role s u v w1 w2 w3 n1 n2 p q x M N ep eq f g =
      let met = run w m n in
      let vars : run w2 m n2 ≡ met_with (met_with met u) v = N.vars ∙ ap (λ (l : List ℕ). met_with l v) M.vars in
      let qq : q ≡ place_of (met_with met u) v = eq ∙ ap (λ (l : List ℕ). place_of l v) M.vars in
      put_done (RoleAtom s u v) w2 w3 n2 x vars (omega (arith, M.few, N.few)) (N.long ∙ M.long) (N.before ∙ M.before) (N.behind ∙ M.behind) g
      (f ∙ ap (λ (y : ℕ). packed (RoleAtom s y q)) ep ∙ ap (λ (y : ℕ). packed (RoleAtom s (place_of met u) y)) qq)

-- ---- the atom of a record
pub read_same : (w : List ℕ) (at : ℕ) (a b : Atom) → atom_at w at ≡ Some a → atom_at w at ≡ Some b → a ≡ b
read_same w at a b e f = let h : Some a ≡ Some b = sym e ∙ f in cc

atom_read : (w : List ℕ) (j : ℕ) (a : Atom) (l : List Atom) → At w (6 * j) (flat (a ∷ l)) → atom_at w j ≡ Some a
unfolding flat
atom_read w j a l e =
    let x = words_of a in
    let i = 6 * j in
    let e0 = at_get w i x.0 (x.1 ∷ x.2 ∷ x.3 ∷ x.4 ∷ x.5 ∷ flat l) e in
    let e1 = at_get w (i + 1) x.1 (x.2 ∷ x.3 ∷ x.4 ∷ x.5 ∷ flat l) (at_back w i (x.0 ∷ []) (x.1 ∷ x.2 ∷ x.3 ∷ x.4 ∷ x.5 ∷ flat l) e (i + 1) refl) in
    let e2 = at_get w (i + 2) x.2 (x.3 ∷ x.4 ∷ x.5 ∷ flat l) (at_back w i (x.0 ∷ x.1 ∷ []) (x.2 ∷ x.3 ∷ x.4 ∷ x.5 ∷ flat l) e (i + 2) refl) in
    let e3 = at_get w (i + 3) x.3 (x.4 ∷ x.5 ∷ flat l) (at_back w i (x.0 ∷ x.1 ∷ x.2 ∷ []) (x.3 ∷ x.4 ∷ x.5 ∷ flat l) e (i + 3) refl) in
    let e4 = at_get w (i + 4) x.4 (x.5 ∷ flat l) (at_back w i (x.0 ∷ x.1 ∷ x.2 ∷ x.3 ∷ []) (x.4 ∷ x.5 ∷ flat l) e (i + 4) refl) in
    let e5 = at_get w (i + 5) x.5 (flat l) (at_back w i (x.0 ∷ x.1 ∷ x.2 ∷ x.3 ∷ x.4 ∷ []) (x.5 ∷ flat l) e (i + 5) refl) in
    rw (e0, e1, e2, e3, e4, e5) (read_six_lem a)

-- atom i of those that stand in w, read in w' that is the same below m
pub record ReadAt (w' : List ℕ) (at i : ℕ) (l : List Atom) : Type 0 where
  pub atom : Atom
  pub split : drop i l ≡ atom ∷ drop (i + 1) l
  pub read : atom_at w' at ≡ Some atom

pub read_at : (m : ℕ) (w w' : List ℕ) (base count i : ℕ) (l : List Atom) → take m w' ≡ take m w → 6 * (base + count) ≤ m → AtomsAre w base count l → i < count → ReadAt w' (base + i) i l
read_at m w w' base count i l e b A h =
    let s = split_at l i (omega (arith, A.long)) in
    let g : At w' (6 * base) (flat l) = run_kept m w w' (6 * base) (length (flat l)) e (omega (arith, flat_long l, A.long)) ∙ A.there in
    record { atom = s.0; split = s.1; read = atom_read w' (base + i) s.0 (drop (i + 1) l) (rw s.1 at (flat_drop w' base l i g (omega (arith, A.long)))) }

pub tame_at : (m : ℕ) (w w' : List ℕ) (base count i : ℕ) → take m w' ≡ take m w → 6 * (base + count) ≤ m → TameThere w base count → i < count → TameAt w' (base + i)
tame_at m w w' base count i e b T h =
    let R = read_at m w w' base count i T.list e b T.are h in
    record { atom = R.atom; is = R.read; tame = each_drop Tame T.list i R.atom (drop (i + 1) T.list) T.tame R.split }

-- ---- the body
renumber_cons : (met : List ℕ) (a : Atom) (l : List Atom) → renumber_from met (a ∷ l) ≡ placed met a ∷ renumber_from (met_after met a) l
unfolding renumber_from
renumber_cons met (Class k v) l = refl
renumber_cons met (RoleAtom r u v) l = refl
renumber_cons met (Exists r k v) l = refl
renumber_cons met (AtMost r q n v) l = refl
renumber_cons met (AtLeast r q n v) l = refl
renumber_cons met (Equal u v) l = refl

renumber_nil : (met : List ℕ) (l : List Atom) → l ≡ [] → map packed (renumber_from met l) ≡ []
unfolding renumber_from
renumber_nil met l e = rw e refl

module _ (m k r : ℕ) (ek : k ≡ m + 513) (er : r ≡ k + 512) (w : List ℕ) (base count root : ℕ) (long : r + count ≤ length w) where
  pub renumbering_start : run w m 1 ≡ root ∷ [] → Renumbering m k r w base count root w 1 0
  renumbering_start v = record {
    here = omega arith;
    few = omega arith;
    only = record { long = refl; before = refl; keep = refl };
    left = λ l A. ap (λ (t : List ℕ). map packed (renumber_from t l)) (sym v);
  }

  module _ (w' : List ℕ) (n i : ℕ) (R : Renumbering m k r w base count root w' n i) where
    module _ (low : 6 * (base + count) ≤ m) (w2 : List ℕ) (n2 : ℕ) (h : i < count) (P : (a : Atom) → atom_at w' (base + i) ≡ Some a → Put m k r w' n i a w2 n2) where
      next_left : (l : List Atom) → AtomsAre w base count l → map packed (renumber l root) ≡ run w2 r (i + 1) ++ map packed (renumber_from (run w2 m n2) (drop (i + 1) l))
      next_left l A =
          let D = read_at m w w' base count i l R.only.before low A h in
          let Q = P D.atom D.read in
          let met = run w' m n in
          let y = packed (placed met D.atom) in
          let ys = map packed (renumber_from (met_after met D.atom) (drop (i + 1) l)) in
          let ll : length w2 ≡ length w = Q.long ∙ R.only.long in
          let a : map packed (renumber_from met (drop i l)) ≡ y ∷ ys = ap (λ (t : List Atom). map packed (renumber_from met t)) D.split ∙ ap (map packed) (renumber_cons met D.atom (drop (i + 1) l)) in
          let b : run w2 r (i + 1) ≡ run w' r i ++ (y ∷ []) =
          ap (λ (t : ℕ). run w2 r t) (add-one i) ∙ take-suc (drop r w2) i 0 (omega (arith, length-drop r w2)) ∙ ap (λ (t : ℕ). run w2 r i ++ (t ∷ [])) (get_or-drop r w2 i 0 ∙ Q.word) ∙ ap (λ (t : List ℕ). t ++ (y ∷ [])) Q.done in
          R.left l A ∙ ap (λ (t : List ℕ). run w' r i ++ t) a ∙ sym (append_snoc (run w' r i) y ys)
          ∙ ap (λ (t : List ℕ). t ++ ys) (sym b) ∙ ap (λ (t : List ℕ). run w2 r (i + 1) ++ map packed (renumber_from t (drop (i + 1) l))) (sym Q.vars)

      pub renumbering_on : TameThere w base count → Renumbering m k r w base count root w2 n2 (i + 1)
      renumbering_on T =
          let D = read_at m w w' base count i T.list R.only.before low T.are h in
          let Q = P D.atom D.read in
          record {
            here = omega arith;
            few = omega (arith, R.few, Q.few);
            only = record { long = Q.long ∙ R.only.long; before = Q.before ∙ R.only.before; keep = Q.keep ∙ R.only.keep };
            left = next_left;
          }

    pub renumbering_end : count ≤ i → (l : List Atom) → AtomsAre w base count l → At w' r (map packed (renumber l root))
    renumbering_end h l A =
        let xs = map packed (renumber l root) in
        let z : drop i l ≡ [] = drop_of_length-le l {i = i} (omega (arith, A.long)) in
        let e : xs ≡ run w' r i = R.left l A ∙ ap (λ (t : List ℕ). run w' r i ++ t) (renumber_nil (run w' m n) (drop i l) z) ∙ append-nil (run w' r i) in
        let n : length xs ≡ i = omega (arith, length-map (renumber l root) packed, renumber_length (root ∷ []) l, A.long, R.here) in
        ap (λ (t : ℕ). run w' r t) n ∙ sym e

-- ---- the root is met first
module _ (m k : ℕ) (ek : k ≡ m + 513) (w w' : List ℕ) (root : ℕ) (long : k ≤ length w) (e : w' ≡ set w m root) where
  pub root_met : run w' m 1 ≡ root ∷ []
  root_met =
      let z : m + 0 ≡ m = omega arith in
      ap (λ (l : List ℕ). run l m 1) e ∙ ap (λ (j : ℕ). run (set w j root) m 1) (sym z) ∙ run_more w m 0 root (omega arith)

  pub root_only : OnlyRenumbered m k w w'
  root_only = record {
    long = ap length e ∙ length-set w m root;
    before = ap (take m) e ∙ take-set-le m w m root (omega arith);
    keep = ap (λ (l : List ℕ). run l k 512) e ∙ ap (take 512) (drop-set-lt k w m root (omega arith));
  }

pub only_then : (m k : ℕ) (w w1 w2 : List ℕ) → OnlyRenumbered m k w w1 → OnlyRenumbered m k w1 w2 → OnlyRenumbered m k w w2
only_then m k w w1 w2 O P = record { long = P.long ∙ O.long; before = P.before ∙ O.before; keep = P.keep ∙ O.keep }

-- atoms below m stay
pub atoms_kept : (m : ℕ) (w w' : List ℕ) (base count : ℕ) (l : List Atom) → take m w' ≡ take m w → 6 * (base + count) ≤ m → AtomsAre w base count l → AtomsAre w' base count l
atoms_kept m w w' base count l e b A = record { long = A.long; there = run_kept m w w' (6 * base) (length (flat l)) e (omega (arith, flat_long l, A.long)) ∙ A.there }

pub tame_kept : (m : ℕ) (w w' : List ℕ) (base count : ℕ) → take m w' ≡ take m w → 6 * (base + count) ≤ m → TameThere w base count → TameThere w' base count
tame_kept m w w' base count e b T = record { list = T.list; are = atoms_kept m w w' base count T.list e b T.are; tame = T.tame }
