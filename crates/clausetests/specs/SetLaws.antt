-- Sets of a state that is laid out: a class's, and those made element by element of a role's rows. Assumes nothing.
use Rattle.std.specs.Prelude.{◌≡◌, refl, Bool, true, false, ◌&&◌, ◌||◌, List, [], ◌∷◌, ℕ, ◌+◌, ◌*◌, ◌<◌, ◌≤◌, length, eqb, leb}
use Rattle.std.proofs.Common.{sym, ap, ◌∙◌, subst, inl, inr, arith, eq-eqb, ne_eqb, le-leb}
use Rattle.ir.specs.Pick.{pick}
use Rattle.ir.specs.Roles.{role_id, role_code, role_of, flipped, role_code_lem, flip_id, code_below}
use Rattle.ir.specs.declared.role.Role.{Role}
use Rattle.ir.specs.declared.atom.Atom.{Atom}
use Rattle.ir.specs.declared.atom.Atom.TheVariants.{Class, Exists, AtMost, AtLeast, Equal, Role as RoleAtom}
use Rattle.ir.specs.Qualifiers.{Qualifier}
use Rattle.std.specs.Prelude.{None, Some}
use Rattle.rules.specs.Base.{any, contains}
use Rattle.rules.specs.Deck.{most_roles}
use Rattle.rules.specs.Run.{scratch_bytes}
use Rattle.rules.specs.Semantics.{Interpretation, elements_below, count, related, qualifies, atom_holds, chosen}
use Rattle.rules.specs.DeckLaws.{same_eqb}
use Rattle.meaning.specs.Truth.{by_truth}
use Rattle.meaning.specs.InverseMap.{flip_turns}
use Rattle.states.specs.Conditions.{rises}
use Rattle.states.specs.LeastLaws.{count_rising}
use Rattle.states.specs.Masks.{mask_of}
use Rattle.states.specs.MaskLaws.{mask_same, mask_empty}
use Rattle.states.specs.ScanLaws.{scanned}
use Rattle.sets.specs.Kept.{set_at}
use Rattle.sets.specs.Laid.{row_of, Rows}
use Rattle.clausetests.specs.Given.{Given, NamesRoles, OneIs, PairWith, AtomThere}
use Rattle.clausetests.specs.ScanCode.{set_of}

-- what the code asks of the bytes to read the rows of a role code
abbrev pub RowsThere : ℕ → ℕ → List ℕ → Type 0
RowsThere code n scratch = (code < 2 * most_roles) × (n ≤ 64) × (scratch_bytes ≤ length scratch)

-- how many of a set x is related to
abbrev pub count_in : ℕ → (ℕ → ℕ → Bool) → (ℕ → Bool) → ℕ → ℕ
count_in n R f x = count (λ y. R x y && f y) (rises 0 n)

any_count : (f : ℕ → Bool) (l : List ℕ) → any f l ≡ leb 1 (count f l)
any_count f [] = refl
any_count f (x ∷ l) = by_truth (f x) (λ e. rw e (sym (le-leb 1 (1 + count f l) (omega arith)))) (λ e. let z : 0 + count f l ≡ count f l = omega arith in rw (e, z) (any_count f l))

-- ---- of a state that is laid out
pub code_small : (r : Role) (code roles : ℕ) → role_id r < roles → code ≡ role_code r → code < 2 * roles
code_small r code roles h e = rw e (code_below r roles h)

pub turned_id : (r s : Role) (b : Bool) → s ≡ pick b (flipped r) r → role_id s ≡ role_id r
turned_id r s true e = ap role_id e ∙ flip_id r
turned_id r s false e = ap role_id e

module _ (I : Interpretation) (roles size : ℕ) (text w v : List ℕ) (G : Given I roles size text w v) where
  pub class_kept : (c : ℕ) → 2 * c + 2 ≤ length w → set_at w c ≡ mask_of I.size (I.class c)
  class_kept c h = G.laid.classes c h

  pub class_found : (c : ℕ) → length w < 2 * c + 2 → set_of size (scanned text c) ≡ mask_of I.size (I.class c)
  class_found c h = ap (λ (n : ℕ). set_of n (scanned text c)) G.elements ∙ mask_same I.size (contains (scanned text c)) (I.class c) (λ x _. G.found.beyond c x h)

  pub rows_of : (r : Role) (code : ℕ) → role_id r < roles → code ≡ role_code r → Rows v code size (related I r)
  rows_of r code h e = subst (λ (n : ℕ). Rows v code n (related I r)) (sym G.elements)
      (λ x k. G.laid.rows code x (code_small r code roles h e) k ∙ ap (λ (q : Role). mask_of I.size (related I q x)) (ap role_of e ∙ role_code_lem r))

  -- ---- the sets of atoms, by their kinds
  atom_is : (a b : Atom) (m : ℕ) → a ≡ b → m ≡ mask_of I.size (λ x. atom_holds I (λ _. x) b) → m ≡ mask_of I.size (λ x. atom_holds I (λ _. x) a)
  atom_is a b m e q = q ∙ ap (λ (c : Atom). mask_of I.size (λ x. atom_holds I (λ _. x) c)) (sym e)

  among_is : (m : ℕ) (f : ℕ → Bool) → m ≡ mask_of I.size f → m ≡ mask_of size f
  among_is m f e = e ∙ ap (λ (n : ℕ). mask_of n f) (sym G.elements)

  pub whole_is : (m : ℕ) → m ≡ mask_of size (λ _. true) → m ≡ mask_of I.size (λ _. true)
  whole_is m e = e ∙ ap (λ (n : ℕ). mask_of n (λ _. true)) G.elements

  pub class_is : (a : Atom) (c u m : ℕ) → a ≡ Class c u → m ≡ mask_of I.size (I.class c) → m ≡ mask_of I.size (λ x. atom_holds I (λ _. x) a)
  class_is a c u m e q = atom_is a (Class c u) m e q

  pub equal_is : (a : Atom) (u y m : ℕ) → a ≡ Equal u y → m ≡ mask_of size (λ _. true) → m ≡ mask_of I.size (λ x. atom_holds I (λ _. x) a)
  equal_is a u y m e q = atom_is a (Equal u y) m e (whole_is m q ∙ mask_same I.size (λ _. true) (λ x. eqb x x) (λ x _. sym (eq-eqb x x refl)))

  pub filler_top : (q : Qualifier) (m : ℕ) → q ≡ None → m ≡ mask_of size (λ _. true) → m ≡ mask_of I.size (qualifies I q)
  filler_top q m e h = whole_is m h ∙ ap (λ (k : Qualifier). mask_of I.size (qualifies I k)) (sym e)

  pub filler_class : (q : Qualifier) (c m : ℕ) → q ≡ Some c → m ≡ mask_of I.size (I.class c) → m ≡ mask_of I.size (qualifies I q)
  filler_class q c m e h = h ∙ ap (λ (k : Qualifier). mask_of I.size (qualifies I k)) (sym e)

  module _ (a : Atom) (r : Role) (code m : ℕ) (ec : code ≡ role_code r) (N : NamesRoles roles a) where
    pub loops_is : (u y : ℕ) → a ≡ RoleAtom r u y → ((R : ℕ → ℕ → Bool) → Rows v code size R → m ≡ mask_of size (λ x. R x x)) → m ≡ mask_of I.size (λ x. atom_holds I (λ _. x) a)
    loops_is u y e f = atom_is a (RoleAtom r u y) m e (f (related I r) (rows_of r code (subst (NamesRoles roles) e N) ec) ∙ ap (λ (n : ℕ). mask_of n (λ x. related I r x x)) G.elements)

    module _ (among : ℕ) where
      least : (f : ℕ → Bool) (n : ℕ) → role_id r < roles → among ≡ mask_of I.size f
          → ((R : ℕ → ℕ → Bool) (g : ℕ → Bool) → Rows v code size R → among ≡ mask_of size g → m ≡ mask_of size (λ x. leb n (count_in size R g x)))
          → m ≡ mask_of I.size (λ x. leb n (count (λ y. related I r x y && f y) (elements_below I.size)))
      least f n h q E =
          E (related I r) f (rows_of r code h ec) (among_is among f q)
          ∙ ap (λ (k : ℕ). mask_of k (λ x. leb n (count_in k (related I r) f x))) G.elements
          ∙ mask_same I.size (λ x. leb n (count_in I.size (related I r) f x)) (λ x. leb n (count (λ y. related I r x y && f y) (elements_below I.size)))
          (λ x _. ap (leb n) (sym (count_rising I.size (λ y. related I r x y && f y))))

      pub least_is : (q : Qualifier) (n u : ℕ) → a ≡ AtLeast r q n u → among ≡ mask_of I.size (qualifies I q)
          → ((R : ℕ → ℕ → Bool) (g : ℕ → Bool) → Rows v code size R → among ≡ mask_of size g → m ≡ mask_of size (λ x. leb n (count_in size R g x))) → m ≡ mask_of I.size (λ x. atom_holds I (λ _. x) a)
      least_is q n u e h E = atom_is a (AtLeast r q n u) m e (least (qualifies I q) n (subst (NamesRoles roles) e N) h E)

      pub some_is : (c u : ℕ) → a ≡ Exists r c u → among ≡ mask_of I.size (I.class c)
          → ((R : ℕ → ℕ → Bool) (g : ℕ → Bool) → Rows v code size R → among ≡ mask_of size g → m ≡ mask_of size (λ x. leb 1 (count_in size R g x))) → m ≡ mask_of I.size (λ x. atom_holds I (λ _. x) a)
      some_is c u e h E = atom_is a (Exists r c u) m e (least (I.class c) 1 (subst (NamesRoles roles) e N) h E
          ∙ mask_same I.size (λ x. leb 1 (count (λ y. related I r x y && I.class c y) (elements_below I.size))) (λ x. any (λ y. related I r x y && I.class c y) (elements_below I.size))
          (λ x _. sym (any_count (λ y. related I r x y && I.class c y) (elements_below I.size))))

      pub most_is : (q : Qualifier) (n u : ℕ) → a ≡ AtMost r q n u → among ≡ mask_of I.size (qualifies I q)
          → ((R : ℕ → ℕ → Bool) (g : ℕ → Bool) → Rows v code size R → among ≡ mask_of size g → m ≡ mask_of size (λ x. leb (count_in size R g x) n)) → m ≡ mask_of I.size (λ x. atom_holds I (λ _. x) a)
      most_is q n u e h E = atom_is a (AtMost r q n u) m e (
          E (related I r) (qualifies I q) (rows_of r code (subst (NamesRoles roles) e N) ec) (among_is among (qualifies I q) h)
          ∙ ap (λ (k : ℕ). mask_of k (λ x. leb (count_in k (related I r) (qualifies I q) x) n)) G.elements
          ∙ mask_same I.size (λ x. leb (count_in I.size (related I r) (qualifies I q) x) n) (λ x. leb (count (λ y. related I r x y && qualifies I q y) (elements_below I.size)) n)
          (λ x _. ap (λ (k : ℕ). leb k n) (sym (count_rising I.size (λ y. related I r x y && qualifies I q y)))))

  -- ---- the rows of atoms of two variables
  row_atom : (free x m : ℕ) (a b : Atom) → a ≡ b → m ≡ mask_of I.size (λ y. atom_holds I (chosen (λ _. x) free y) b) → m ≡ mask_of I.size (λ y. atom_holds I (chosen (λ _. x) free y) a)
  row_atom free x m a b e q = q ∙ ap (λ (c : Atom). mask_of I.size (λ y. atom_holds I (chosen (λ _. x) free y) c)) (sym e)

  module _ (free x m : ℕ) (a : Atom) (h : x < size) (P : PairWith free a) where
    pub row_is : (r s : Role) (u y code : ℕ) → a ≡ RoleAtom r u y → NamesRoles roles a → s ≡ pick (eqb u free) (flipped r) r → code ≡ role_code s → m ≡ row_of v code x → m ≡ mask_of I.size (λ z. atom_holds I (chosen (λ _. x) free z) a)
    row_is r s u y code e N es ec em = row_atom free x m a (RoleAtom r u y) e (go (subst (PairWith free) e P))
      where
        k : role_id r < roles
        k = subst (NamesRoles roles) e N

        at : (q : Role) → s ≡ q → role_id q < roles → m ≡ mask_of I.size (related I q x)
        at q eq l = em ∙ rows_of q code l (ec ∙ ap role_code eq) x h ∙ ap (λ (n : ℕ). mask_of n (related I q x)) G.elements

        go : OneIs free u y → m ≡ mask_of I.size (λ z. atom_holds I (chosen (λ _. x) free z) (RoleAtom r u y))
        go (inl p) = rw (eq-eqb u free p.0, ne_eqb y free p.1) (at (flipped r) (rw (eq-eqb u free p.0) at es) (subst (λ (i : ℕ). i < roles) (sym (flip_id r)) k) ∙ mask_same I.size (related I (flipped r) x) (λ z. related I r z x) (λ z _. flip_turns I r x z))
        go (inr p) = rw (ne_eqb u free p.1, eq-eqb y free p.0) (at r (rw (ne_eqb u free p.1) at es) k)

    pub one_is : (u y : ℕ) → a ≡ Equal u y → ((n : ℕ) (f : ℕ → Bool) → x < n → 0 ≡ mask_of n f → m ≡ mask_of n (λ z. f z || eqb z x)) → m ≡ mask_of I.size (λ z. atom_holds I (chosen (λ _. x) free z) a)
    one_is u y e E = row_atom free x m a (Equal u y) e (go (subst (PairWith free) e P))
      where
        is : m ≡ mask_of I.size (λ z. eqb z x)
        is = E I.size (λ _. false) (omega (arith, G.elements)) (sym (mask_empty I.size))

        go : OneIs free u y → m ≡ mask_of I.size (λ z. atom_holds I (chosen (λ _. x) free z) (Equal u y))
        go (inl p) = rw (eq-eqb u free p.0, ne_eqb y free p.1) is
        go (inr p) = rw (ne_eqb u free p.1, eq-eqb y free p.0) (is ∙ mask_same I.size (λ z. eqb z x) (λ z. eqb x z) (λ z _. same_eqb z x))

-- ---- what the code asks of the bytes
module _ (size : ℕ) (a : Atom) (text store scratch : List ℕ) (T : AtomThere size a text store scratch) where
  pub there_size : size ≤ 64
  there_size = omega (arith, T.given.elements, T.given.laid.few)

  module _ (r : Role) (h : (roles : ℕ) → NamesRoles roles a → role_id r < roles) where
    pub there_role : role_id r < most_roles
    there_role = omega (arith, h T.roles T.names, T.given.few)

    pub there_rows : (code : ℕ) → code ≡ role_code r → RowsThere code size scratch
    there_rows code e = (code_small r code most_roles there_role e, there_size, T.space)
