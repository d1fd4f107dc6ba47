-- The tables narrowed by the atoms of a run, one after the other, and by a clause's body and head. Assumes nothing.
use mathlib.Core.Path.{◌≡◌, refl, sym, ap, subst, ◌∙◌}
use mathlib.Core.Bool.{Bool, true, ◌&&◌}
use mathlib.Core.List.{List, [], ◌∷◌, ◌++◌}
use Prim.Native.Nat.{ℕ, ◌+◌, ◌*◌, ◌/◌, ◌<◌, ◌≤◌}
use native.Mathlib.Omega.{arith}
use native.Mathlib.Numerals.{add-one}
use lib.ListN.{length, get_or, take}
use lib.Seq.{take-suc, take_all}
use Rattle.words.specs.Words.{words}
use Rattle.ir.specs.Records.{atom_at}
use Rattle.ir.specs.declared.atom.Atom.{Atom}
use Rattle.ir.specs.Records.{Read}
use Rattle.std.specs.Prelude.{None, Some}
use Rattle.std.proofs.Math.Bool.{and_assoc}
use Rattle.rules.specs.Base.{all}
use Rattle.rules.specs.Invariants.{Each}
use Rattle.rules.specs.EachLaws.{each_left, each_right, each_nth}
use Rattle.rules.specs.Semantics.{Interpretation}
use Rattle.meaning.specs.Truth.{and_unit, all_append}
use Rattle.meaning.specs.Choices.{InVars}
use Rattle.states.specs.MaskLaws.{mask_same}
use Rattle.sets.specs.Places.{vars_at, shown_at}
use Rattle.tables.specs.Tabled.{Run}
use Rattle.tables.specs.AtomLaws.{no_atom, read_is, run_nth}
use Rattle.clausetests.specs.declared.listed.Vars.{Vars}
use Rattle.clausetests.specs.Given.{NamesRoles}
use Rattle.clausetests.specs.Fitting.{Tables, atom_one, atom_two, one_with, two_with, ones_with, twos_with, Changed, Meant, MeantThere, RunMeant, ClauseMeant}
use Rattle.clausetests.proofs.FittingLaws.{changed_none, changed_then, given_kept}

-- ---- the same tables
pub tables_same : (n k : ℕ) (one one' : ℕ → ℕ → Bool) (two two' : ℕ → ℕ → ℕ → ℕ → Bool) (v : List ℕ) → ((j x : ℕ) → one j x ≡ one' j x) → ((i j e x : ℕ) → two i j e x ≡ two' i j e x) → Tables n k one two v → Tables n k one' two' v
tables_same n k one one' two two' v f g T = record {
  ones = λ j h. T.ones j h ∙ mask_same n (one j) (one' j) (λ x _. f j x);
  twos = λ i j e h l d. T.twos i j e h l d ∙ mask_same n (two i j e) (two' i j e) (λ x _. g i j e x);
}

-- ---- fewer atoms, and other words of scratch
module _ (I : Interpretation) (roles : ℕ) (vs : List ℕ) (size : ℕ) (l : List Atom) (v : Vars) (text w s : List ℕ) (M : Meant I roles vs size l v text w s) where
  pub meant_part : (m : List Atom) → Each (NamesRoles roles) m → Each (InVars vs) m → Meant I roles vs size m v text w s
  meant_part m n i = record { given = M.given; names = n; are = M.are; few = M.few; among = i; distinct = M.distinct }

  pub meant_nth : (i : ℕ) → i < length l → Meant I roles vs size (get_or l i no_atom ∷ []) v text w s
  meant_nth i h = meant_part (get_or l i no_atom ∷ []) (each_nth (NamesRoles roles) l i no_atom M.names h, tt) (each_nth (InVars vs) l i no_atom M.among h, tt)

  pub meant_kept : (s' : List ℕ) → Changed (2 * vars_at) shown_at s s' → Meant I roles vs size l v text w s'
  meant_kept s' C = record { given = given_kept (2 * vars_at) shown_at s s' C (omega arith) I roles size text w M.given; names = M.names; are = M.are; few = M.few; among = M.among; distinct = M.distinct }

pub meant_left : (I : Interpretation) (roles : ℕ) (vs : List ℕ) (size : ℕ) (k l : List Atom) (v : Vars) (text w s : List ℕ) → Meant I roles vs size (k ++ l) v text w s → Meant I roles vs size k v text w s
meant_left I roles vs size k l v text w s M = meant_part I roles vs size (k ++ l) v text w s M k (each_left (NamesRoles roles) k l M.names) (each_left (InVars vs) k l M.among)

pub meant_right : (I : Interpretation) (roles : ℕ) (vs : List ℕ) (size : ℕ) (k l : List Atom) (v : Vars) (text w s : List ℕ) → Meant I roles vs size (k ++ l) v text w s → Meant I roles vs size l v text w s
meant_right I roles vs size k l v text w s M = meant_part I roles vs size (k ++ l) v text w s M l (each_right (NamesRoles roles) k l M.names) (each_right (InVars vs) k l M.among)

module _ (size : ℕ) (v : Vars) (text store s : List ℕ) where
  pub there_nth : (l : List Atom) (i : ℕ) (a : Atom) → i < length l → a ≡ get_or l i no_atom → MeantThere size l v text store s → MeantThere size (a ∷ []) v text store s
  there_nth l i a h e T = record { meant = T.meant; roles = T.roles; vars = T.vars; so = rw e (meant_nth T.meant T.roles T.vars size l v text (words store) (words s) T.so i h); space = T.space }

  pub there_kept : (l : List Atom) (s' : List ℕ) → length s' ≡ length s → Changed (2 * vars_at) shown_at (words s) (words s') → MeantThere size l v text store s → MeantThere size l v text store s'
  there_kept l s' e C T = record { meant = T.meant; roles = T.roles; vars = T.vars; so = meant_kept T.meant T.roles T.vars size l v text (words store) (words s) T.so (words s') C; space = rw e T.space }

  pub there_left : (k l : List Atom) → MeantThere size (k ++ l) v text store s → MeantThere size k v text store s
  there_left k l T = record { meant = T.meant; roles = T.roles; vars = T.vars; so = meant_left T.meant T.roles T.vars size k l v text (words store) (words s) T.so; space = T.space }

  pub there_right : (k l : List Atom) → MeantThere size (k ++ l) v text store s → MeantThere size l v text store s
  there_right k l T = record { meant = T.meant; roles = T.roles; vars = T.vars; so = meant_right T.meant T.roles T.vars size k l v text (words store) (words s) T.so; space = T.space }

-- ---- atom i of a run, as it was read
module _ (run : List ℕ) (i : ℕ) (l : List Atom) (R : Run run l) (h : 24 * i + 24 ≤ length run) where
  pub run_within : i < length l
  run_within = omega (arith, R.long)

  module _ (r : Read) (e : r ≡ atom_at (words run) i) where
    is : r ≡ Some (get_or l i no_atom)
    is = e ∙ read_is (words run) i (get_or l i no_atom) (run_nth run l i R run_within)

    pub read_nth : (a : Atom) → r ≡ Some a → a ≡ get_or l i no_atom
    read_nth a f = let g : Some a ≡ Some (get_or l i no_atom) = sym f ∙ is in cc

    pub read_some : r ≡ None → ⊥
    read_some f = let g : Some (get_or l i no_atom) ≡ None = sym is ∙ f in let z : ◌≡◌ {A = ℕ} 0 1 = cc in omega arith

pub tables_nth : (I : Interpretation) (vs : List ℕ) (head : Bool) (n k : ℕ) (a b : Atom) (one : ℕ → ℕ → Bool) (two : ℕ → ℕ → ℕ → ℕ → Bool) (v : List ℕ) → a ≡ b → Tables n k (one_with I vs head a one) (two_with I vs head a two) v → Tables n k (one_with I vs head b one) (two_with I vs head b two) v
tables_nth I vs head n k a b one two v e T = subst (λ (x : Atom). Tables n k (one_with I vs head x one) (two_with I vs head x two) v) e T

-- ---- a run
all_more : (f : Atom → Bool) (b : Bool) (l : List Atom) (i : ℕ) → i < length l → (b && all f (take i l)) && f (get_or l i no_atom) ≡ b && all f (take (i + 1) l)
all_more f b l i h = ap (λ c. (b && all f (take i l)) && c) (sym (and_unit (f (get_or l i no_atom)))) ∙ and_assoc b (all f (take i l)) (f (get_or l i no_atom) && true)
    ∙ ap (λ c. b && c) (sym (all_append f (take i l) (get_or l i no_atom ∷ []))) ∙ ap (λ (m : List Atom). b && all f m) (sym (take-suc l i no_atom h) ∙ ap (λ (j : ℕ). take j l) (sym (add-one i)))

module _ (text store s₀ run : List ℕ) (v : Vars) (head : Bool) (size : ℕ) where
  -- before atom i
  pub record RunTo (n : ℕ) (s : List ℕ) (i : ℕ) : Type 0 where
    pub count : n ≡ length run / 24
    pub long : length s ≡ length s₀
    pub other : Changed (2 * vars_at) shown_at (words s₀) (words s)
    pub done : (I : Interpretation) (roles : ℕ) (vs : List ℕ) (l : List Atom) (one : ℕ → ℕ → Bool) (two : ℕ → ℕ → ℕ → ℕ → Bool) → Run run l → Meant I roles vs size l v text (words store) (words s₀) → Tables size v.n one two (words s₀)
        → Tables size v.n (ones_with I vs head (take i l) one) (twos_with I vs head (take i l) two) (words s)

  pub run_start : (n : ℕ) → n ≡ length run / 24 → RunTo n s₀ 0
  run_start n e = record {
    count = e;
    long = refl;
    other = changed_none (2 * vars_at) shown_at (words s₀);
    done = λ I roles vs l one two R M T. tables_same size v.n one (ones_with I vs head [] one) two (twos_with I vs head [] two) (words s₀) (λ j x. sym (and_unit (one j x))) (λ i j e x. sym (and_unit (two i j e x))) T;
  }

  module _ (n : ℕ) (s : List ℕ) (i : ℕ) (H : RunTo n s i) where
    pub run_there : RunMeant size run v text store s₀ → RunMeant size run v text store s
    run_there R = record { list = R.list; are = R.are; there = there_kept size v text store s₀ R.list s H.long H.other R.there }

    pub run_next : i < n → (s' : List ℕ) → length s' ≡ length s → Changed (2 * vars_at) shown_at (words s) (words s')
        → ((I : Interpretation) (roles : ℕ) (vs : List ℕ) (l : List Atom) (one : ℕ → ℕ → Bool) (two : ℕ → ℕ → ℕ → ℕ → Bool) → Run run l → Meant I roles vs size l v text (words store) (words s) → Tables size v.n one two (words s) → Tables size v.n (one_with I vs head (get_or l i no_atom) one) (two_with I vs head (get_or l i no_atom) two) (words s'))
        → RunTo n s' (i + 1)
    run_next h s' e C N = record {
      count = H.count;
      long = e ∙ H.long;
      other = changed_then (2 * vars_at) shown_at (words s₀) (words s) (words s') H.other C;
      done = λ I roles vs l one two R M T.
          let k : i < length l = omega (arith, R.long, H.count) in
          tables_same size v.n (one_with I vs head (get_or l i no_atom) (ones_with I vs head (take i l) one)) (ones_with I vs head (take (i + 1) l) one) (two_with I vs head (get_or l i no_atom) (twos_with I vs head (take i l) two)) (twos_with I vs head (take (i + 1) l) two) (words s')
          (λ j x. all_more (λ a. atom_one I vs head a j x) (one j x) l i k) (λ p j e x. all_more (λ a. atom_two I vs head a p j e x) (two p j e x) l i k)
          (N I roles vs l (ones_with I vs head (take i l) one) (twos_with I vs head (take i l) two) R (meant_kept I roles vs size l v text (words store) (words s₀) M (words s) H.other) (H.done I roles vs l one two R M T));
    }

    pub run_end : n ≤ i → (I : Interpretation) (roles : ℕ) (vs : List ℕ) (l : List Atom) (one : ℕ → ℕ → Bool) (two : ℕ → ℕ → ℕ → ℕ → Bool) → Run run l → Meant I roles vs size l v text (words store) (words s₀) → Tables size v.n one two (words s₀)
        → Tables size v.n (ones_with I vs head l one) (twos_with I vs head l two) (words s)
    run_end h I roles vs l one two R M T =
        let e : take i l ≡ l = take_all i l (omega (arith, R.long, H.count)) in
        subst (λ (m : List Atom). Tables size v.n (ones_with I vs head m one) (twos_with I vs head m two) (words s)) e (H.done I roles vs l one two R M T)

-- ---- a clause
module _ (size : ℕ) (body head : List ℕ) (v : Vars) (text store s s' : List ℕ) (e : length s' ≡ length s) (C : Changed (2 * vars_at) shown_at (words s) (words s')) (H : ClauseMeant size body head v text store s) where
  pub clause_body : RunMeant size body v text store s'
  clause_body = record { list = H.clause.body; are = H.body_run; there = there_kept size v text store s H.clause.body s' e C (there_left size v text store s H.clause.body H.clause.head H.there) }

  pub clause_head : RunMeant size head v text store s'
  clause_head = record { list = H.clause.head; are = H.head_run; there = there_kept size v text store s H.clause.head s' e C (there_right size v text store s H.clause.body H.clause.head H.there) }
