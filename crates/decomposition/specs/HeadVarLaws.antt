-- The head's variables among those to keep, atom by atom. Assumes nothing.
use Rattle.std.specs.Prelude.{Bool, true, false, ◌||◌, ◌≡◌, refl, List, [], ◌∷◌, ◌++◌, ℕ, ◌+◌, ◌*◌, ◌/◌, ◌≤◌, ◌<◌, length, get_or, drop, set, eqb}
use Rattle.std.proofs.Math.Bool.{or-true}
use Rattle.std.proofs.Common.{sym, ap, ◌∙◌, arith, ne_eqb, length-append, drop_of_length-le}
use Rattle.words.specs.Words.{words}
use Rattle.ir.specs.Pick.{pick}
use Rattle.ir.specs.Records.{words_of}
use Rattle.ir.specs.Atoms.{atom_vars}
use Rattle.ir.specs.declared.atom.Atom.{Atom}
use Rattle.ir.specs.declared.atom.Atom.TheVariants.{Class, Exists, AtMost, AtLeast, Equal, Role as RoleAtom}
use Rattle.rules.specs.Base.{contains}
use Rattle.rules.specs.Branches.{add_var, add_vars, head_vars, head_vars_from}
use Rattle.tables.specs.Tabled.{Run}
use Rattle.branches.specs.Layout.{keep_at}
use Rattle.branches.specs.Edges.{KeepIs}
use Rattle.branches.specs.Renumbered.{run}
use Rattle.branches.specs.MetLaws.{run_more}
use Rattle.branches.specs.AtomsLaws.{run_atom}
use Rattle.decomposition.specs.Bodies.{OnlyKeep}

-- ---- one variable more
add_x : (vars : List ℕ) (v : ℕ) → v ≡ 0 → add_var vars v ≡ vars
add_x vars v e = rw e refl

add_old : (vars : List ℕ) (v : ℕ) → contains vars v ≡ true → add_var vars v ≡ vars
add_old vars v e = ap (λ (b : Bool). pick b vars (vars ++ (v ∷ []))) (ap (λ (b : Bool). eqb v 0 || b) e ∙ or-true (eqb v 0))

add_new : (vars : List ℕ) (v : ℕ) → (v ≡ 0 → ⊥) → contains vars v ≡ false → add_var vars v ≡ vars ++ (v ∷ [])
add_new vars v f e = rw (ne_eqb v 0 f, e) refl

add_run : (m : ℕ) (w w' : List ℕ) (n v : ℕ) (vars : List ℕ) → m + n < length w → w' ≡ set w (m + n) v → run w m n ≡ vars → run w' m (n + 1) ≡ vars ++ (v ∷ [])
add_run m w w' n v vars h e k = ap (λ (l : List ℕ). run l m (n + 1)) e ∙ run_more w m n v h ∙ ap (λ (l : List ℕ). l ++ (v ∷ [])) k

keep_same : (w : List ℕ) (n : ℕ) (kept vars : List ℕ) → vars ≡ kept → KeepIs w n kept → KeepIs w n vars
keep_same w n kept vars e K = record { long = K.long ∙ ap length (sym e); few = K.few; are = K.are ∙ sym e }

pub keep_x : (w : List ℕ) (n v : ℕ) → v ≡ 0 → (kept : List ℕ) → KeepIs w n kept → KeepIs w n (add_var kept v)
keep_x w n v e kept K = keep_same w n kept (add_var kept v) (add_x kept v e) K

pub keep_old : (w : List ℕ) (n v : ℕ) → contains (run w keep_at n) v ≡ true → (kept : List ℕ) → KeepIs w n kept → KeepIs w n (add_var kept v)
keep_old w n v e kept K = keep_same w n kept (add_var kept v) (add_old kept v (ap (λ (l : List ℕ). contains l v) (sym K.are) ∙ e)) K

more_long : (n v : ℕ) (kept vars : List ℕ) → n ≡ length kept → vars ≡ kept ++ (v ∷ []) → n + 1 ≡ length vars
more_long n v kept vars e f = omega (arith, ap length f, length-append kept (v ∷ []))

pub keep_new : (w w' : List ℕ) (n v : ℕ) → keep_at + n < length w → n + 1 ≤ 512 → (v ≡ 0 → ⊥) → contains (run w keep_at n) v ≡ false → w' ≡ set w (keep_at + n) v
    → (kept : List ℕ) → KeepIs w n kept → KeepIs w' (n + 1) (add_var kept v)
keep_new w w' n v h few f e g kept K =
    let q : add_var kept v ≡ kept ++ (v ∷ []) = add_new kept v f (ap (λ (l : List ℕ). contains l v) (sym K.are) ∙ e) in
    record {
      long = more_long n v kept (add_var kept v) K.long q;
      few = few;
      are = add_run keep_at w w' n v kept h g K.are ∙ sym q;
    }

-- ---- what is written
pub only_none : (w : List ℕ) → OnlyKeep w w
only_none w = record { before = λ j h. refl; behind = λ j h. refl }

pub only_then : (w w1 w2 : List ℕ) → OnlyKeep w w1 → OnlyKeep w1 w2 → OnlyKeep w w2
only_then w w1 w2 A B = record { before = λ j h. B.before j h ∙ A.before j h; behind = λ j h. B.behind j h ∙ A.behind j h }

-- ---- an atom's variables are its last two words, or one of them with X
atom_vars_lem : (vars : List ℕ) (a : Atom) → add_vars vars (atom_vars a) ≡ add_var (add_var vars (words_of a).4) (words_of a).5
unfolding add_vars
atom_vars_lem vars (Class k v) = refl
atom_vars_lem vars (RoleAtom r u v) = refl
atom_vars_lem vars (Exists r k v) = refl
atom_vars_lem vars (AtMost r q n v) = refl
atom_vars_lem vars (AtLeast r q n v) = refl
atom_vars_lem vars (Equal u v) = refl

vars_first : (vars : List ℕ) (a : Atom) (l m : List Atom) → l ≡ a ∷ m → head_vars_from vars l ≡ head_vars_from (add_var (add_var vars (words_of a).4) (words_of a).5) m
unfolding head_vars_from
vars_first vars a l m e = ap (head_vars_from vars) e ∙ ap (λ (t : List ℕ). head_vars_from t m) (atom_vars_lem vars a)

vars_none : (vars : List ℕ) (l : List Atom) → l ≡ [] → head_vars_from vars l ≡ vars
unfolding head_vars_from
vars_none vars l e = rw e refl

-- the variables met are kept, and those of the atoms in `rest` are left
pub record Kept (w : List ℕ) (n : ℕ) (l rest : List Atom) : Type 0 where
  pub vars : List ℕ
  pub keep : KeepIs w n vars
  pub left : head_vars l ≡ head_vars_from vars rest

-- before atom i of the `count` in the bytes s; w are the words at first
pub record Heading (s w : List ℕ) (count : ℕ) (w' : List ℕ) (n i : ℕ) : Type 0 where
  pub all : count ≡ length s / 24
  pub here : i ≤ count
  pub few : n ≤ 2 * i
  pub only : OnlyKeep w w'
  pub met : (l : List Atom) → Run s l → Kept w' n l (drop i l)

module _ (s w : List ℕ) (count : ℕ) (w' : List ℕ) (n i : ℕ) (H : Heading s w count w' n i) where
  -- words u and v of atom i, and the words after each
  module _ (h : i < count) (u v : ℕ) (eu : u ≡ get_or (words s) (6 * i + 4) 0) (ev : v ≡ get_or (words s) (6 * i + 5) 0) (w1 w2 : List ℕ) (n1 n2 : ℕ)
      (K1 : (kept : List ℕ) → KeepIs w' n kept → KeepIs w1 n1 (add_var kept u)) (K2 : (kept : List ℕ) → KeepIs w1 n1 kept → KeepIs w2 n2 (add_var kept v)) where
    met_next : (l : List Atom) → Run s l → Kept w2 n2 l (drop (i + 1) l)
    met_next l R =
        let N = run_atom s count i H.all l R h in
        let k = H.met l R in
        let x = words_of N.atom in
        let f : add_var (add_var k.vars x.4) x.5 ≡ add_var (add_var k.vars u) v =
        ap (λ (t : ℕ). add_var (add_var k.vars t) x.5) (sym (eu ∙ N.words.var)) ∙ ap (λ (t : ℕ). add_var (add_var k.vars u) t) (sym (ev ∙ N.words.other)) in
        record {
          vars = add_var (add_var k.vars u) v;
          keep = K2 (add_var k.vars u) (K1 k.vars k.keep);
          left = k.left ∙ vars_first k.vars N.atom (drop i l) (drop (i + 1) l) N.split ∙ ap (λ (t : List ℕ). head_vars_from t (drop (i + 1) l)) f;
        }

    pub heading_on : n1 ≤ n + 1 → n2 ≤ n1 + 1 → OnlyKeep w' w1 → OnlyKeep w1 w2 → Heading s w count w2 n2 (i + 1)
    heading_on f g O Q = record {
      all = H.all;
      here = omega arith;
      few = omega (arith, H.few);
      only = only_then w w' w2 H.only (only_then w' w1 w2 O Q);
      met = met_next;
    }

  pub heading_end : count ≤ i → (l : List Atom) → Run s l → KeepIs w' n (head_vars l)
  heading_end h l R =
      let z : drop i l ≡ [] = drop_of_length-le l {i = i} (omega (arith, R.long, H.all)) in
      let k = H.met l R in
      keep_same w' n k.vars (head_vars l) (k.left ∙ vars_none k.vars (drop i l) z) k.keep
