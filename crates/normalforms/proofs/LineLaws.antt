-- The lines of a pool and of axioms in scratch. Assumes nothing.
use mathlib.Core.Path.{◌≡◌, refl, sym, ap, subst, ◌∙◌}
use mathlib.Core.Bool.{Bool, true, false}
use mathlib.Core.List.{List, [], ◌∷◌, ◌++◌}
use Prim.Native.Nat.{ℕ, suc, ◌+◌, ◌*◌, ◌-◌, ◌<◌, ◌≤◌}
use native.Mathlib.Omega.{arith}
use lib.ListN.{length, get_or, take, drop}
use Rattle.ir.specs.Pick.{pick}
use Rattle.ir.specs.Scratch.{numbers_at}
use Rattle.rules.specs.Deck.{parts_of}
use Rattle.rules.specs.Lister.{fields_text}
use Rattle.pool.specs.declared.record.Record.{Record}
use Rattle.pool.specs.Layout.{tab, run, field, is_list, members_at, record_at, concept_at, pool_of, plain, starts_at}
use Rattle.pool.specs.Tabs.{length_tab, get_d_tab, run_part}
use Rattle.pool.specs.Held.{Held}
use Rattle.pool.specs.HeldLaws.{record_kind, list_within, list_run}
use Rattle.ontology.specs.Layout.{axiom_start, axiom_count, axiom_number, axiom_row, axiom_at, axioms_of, AxiomsHeld}
use Rattle.ontology.specs.KeptAxioms.{fields_some}
use Rattle.rows.specs.Rows.{columns_text, Put}
use Rattle.rows.specs.RowLaws.{length_line, put_line, Left, left_all, left_fits, left_more, left_none}
use Rattle.normalforms.specs.Forms.{record_line, concept_line, axiom_line_of, concepts_text, axioms_text}
use Rattle.normalforms.proofs.AxiomLaws.{axiom_line_lem}

-- ---- a concept's line
-- a record that is no list, whatever its child is called
words_line : (x y : Record) (l : List ℕ) (s : ℕ) → x ≡ starts_at s y → is_list x.kind ≡ false → record_line y l ≡ x.kind ∷ x.role ∷ x.number ∷ x.child ∷ []
words_line x y l s e a =
    let b : is_list y.kind ≡ false = ap (λ (z : Record). is_list z.kind) (sym e) ∙ a in
    ap (λ (t : Bool). pick t (y.kind ∷ l) (y.kind ∷ y.role ∷ y.number ∷ y.child ∷ [])) b
    ∙ sym (ap (λ (t : Bool). y.kind ∷ y.role ∷ y.number ∷ pick t s y.child ∷ []) b)
    ∙ sym (ap (λ (z : Record). z.kind ∷ z.role ∷ z.number ∷ z.child ∷ []) e)

module _ (w : List ℕ) (n m : ℕ) (H : Held w n m) (c : ℕ) (h : c < n) where
  pub list_line : is_list (field w c 0) ≡ true → concept_line (concept_at w c) ≡ field w c 0 ∷ run w (members_at + field w c 3) (field w c 2)
  list_line a =
      let k = record_kind w n m H c h in
      let b : is_list (plain (concept_at w c)).kind ≡ true = ap is_list (sym k) ∙ a in
      let p : parts_of (concept_at w c) ≡ run w (members_at + field w c 3) (field w c 2) = sym (ap (λ (t : Bool). pick t (parts_of (concept_at w c)) []) b) ∙ list_run w n m H c h a in
      rw (b, ← k, p) refl

  pub list_long : is_list (field w c 0) ≡ true → length (fields_text (concept_line (concept_at w c))) ≡ 11 * field w c 2 + 12
  list_long a =
      let l = length_tab (λ j. get_or w j 0) (members_at + field w c 3) (field w c 2) in
      rw (list_line a, length_line (field w c 0 ∷ run w (members_at + field w c 3) (field w c 2))) (omega (arith, l))

  pub list_room : is_list (field w c 0) ≡ true → members_at + field w c 3 + field w c 2 ≤ 28672
  list_room a = omega (arith, list_within w n m H c h a, H.space)

  pub plain_line : is_list (field w c 0) ≡ false → concept_line (concept_at w c) ≡ field w c 0 ∷ field w c 1 ∷ field w c 2 ∷ field w c 3 ∷ []
  plain_line a = words_line (record_at w c) (plain (concept_at w c)) (parts_of (concept_at w c)) _ (H.records c h).words a

  pub plain_long : is_list (field w c 0) ≡ false → length (fields_text (concept_line (concept_at w c))) ≡ 45
  plain_long a = rw (plain_line a) (length_line (field w c 0 ∷ field w c 1 ∷ field w c 2 ∷ field w c 3 ∷ []))

  -- a list's line
  pub list_put : {s s' : List ℕ} {at r : ℕ} (kind start count : ℕ) → is_list (field w c 0) ≡ true → members_at + field w c 3 + field w c 2 ≤ length w
      → kind ≡ field w c 0 → start ≡ members_at + field w c 3 → count ≡ field w c 2
      → Put s at (fields_text (kind ∷ take count (drop start w))) s' r → Put s at (fields_text (concept_line (concept_at w c))) s' r
  list_put {s} {s'} {at} {r} kind start count a i e f g x =
      let l = run w (members_at + field w c 3) (field w c 2) in
      let t : take count (drop start w) ≡ l = rw (f, g) (sym (run_part w (members_at + field w c 3) (field w c 2) i)) in
      let v : kind ∷ take count (drop start w) ≡ concept_line (concept_at w c) = rw (t, e) (sym (list_line a)) in
      subst (λ (b : List ℕ). Put s at (fields_text b) s' r) v x

  pub plain_put : {s s' : List ℕ} {at r : ℕ} (kind role number child : ℕ) → is_list (field w c 0) ≡ false
      → kind ≡ field w c 0 → role ≡ field w c 1 → number ≡ field w c 2 → child ≡ field w c 3
      → Put s at (fields_text (kind ∷ role ∷ number ∷ child ∷ [])) s' r → Put s at (fields_text (concept_line (concept_at w c))) s' r
  plain_put {s} {s'} {at} {r} kind role number child a d e f g x =
      let v : kind ∷ role ∷ number ∷ child ∷ [] ≡ field w c 0 ∷ field w c 1 ∷ field w c 2 ∷ field w c 3 ∷ [] = rw (d, e, f, g) refl in
      subst (λ (b : List ℕ). Put s at (fields_text b) s' r) (v ∙ sym (plain_line a)) x

-- ---- an axiom's line
module _ (w : List ℕ) (n : ℕ) (A : AxiomsHeld w n) (i : ℕ) (h : i < n) where
  row_long : length (axiom_row w i) ≡ axiom_count w i
  row_long = length_tab (λ j. get_or w j 0) (numbers_at + axiom_start w i) (axiom_count w i)

  pub axiom_long : length (fields_text (axiom_row w i)) ≡ 11 * axiom_count w i + 1
  axiom_long = rw (length_line (axiom_row w i), row_long) refl

  pub axiom_is : axiom_line_of (axiom_at w i) ≡ axiom_row w i
  axiom_is =
      let k = axiom_number w i 0 in
      let f = fields_some k (axiom_count w i) (A.fields i h) in
      let e : k ≡ get_or (axiom_row w i) 0 0 = sym (get_d_tab (λ j. get_or w j 0) 0 (numbers_at + axiom_start w i) (axiom_count w i) 0 f) in
      axiom_line_lem (axiom_row w i) k (A.kinds i h) e (rw row_long (A.fields i h))

  pub axiom_put_lem : {s s' s'' : List ℕ} {at p q : ℕ} (start count : ℕ) → numbers_at + axiom_start w i + axiom_count w i ≤ length w
      → start ≡ numbers_at + axiom_start w i → count ≡ axiom_count w i
      → Put s at (columns_text (take count (drop start w))) s' p → Put s' p (10 ∷ []) s'' q → Put s at (fields_text (axiom_row w i)) s'' q
  axiom_put_lem {s} {s'} {s''} {at} {p} {q} start count l e f x y =
      let t : take count (drop start w) ≡ axiom_row w i = rw (e, f) (sym (run_part w (numbers_at + axiom_start w i) (axiom_count w i) l)) in
      put_line (axiom_row w i) (subst (λ (b : List ℕ). Put s at (columns_text b) s' p) t x) y

-- ---- what is left of a table after c
module _ {B : Type 0} (f : ℕ → B) where
  pub rest_all : (n : ℕ) → tab f 0 (n - 0) ≡ tab f 0 n
  rest_all n = let e : n - 0 ≡ n = omega arith in rw e refl

  pub rest_next : (c n : ℕ) → c < n → tab f c (n - c) ≡ f c ∷ tab f (c + 1) (n - (c + 1))
  unfolding tab
  rest_next c n h = let e : n - c ≡ suc (n - (c + 1)) = omega arith in rw e refl

  pub rest_none : (c n : ℕ) → n ≤ c → tab f c (n - c) ≡ []
  unfolding tab
  rest_none c n h = let e : n - c ≡ 0 = omega arith in rw e refl

abbrev pub concepts_left : List ℕ → ℕ → ℕ → List ℕ
concepts_left w c n = concepts_text (tab (concept_at w) c (n - c))

abbrev pub axioms_left : List ℕ → ℕ → ℕ → List ℕ
axioms_left w i n = axioms_text (tab (axiom_at w) i (n - i))

concepts_next : (w : List ℕ) (c n : ℕ) → c < n → concepts_left w c n ≡ fields_text (concept_line (concept_at w c)) ++ concepts_left w (c + 1) n
unfolding concepts_text
concepts_next w c n h = rw (rest_next (concept_at w) c n h) refl

concepts_none : (w : List ℕ) (c n : ℕ) → n ≤ c → concepts_left w c n ≡ []
unfolding concepts_text
concepts_none w c n h = rw (rest_none (concept_at w) c n h) refl

pub axioms_next : (w : List ℕ) (i n : ℕ) → AxiomsHeld w n → i < n → axioms_left w i n ≡ fields_text (axiom_row w i) ++ axioms_left w (i + 1) n
unfolding axioms_text
axioms_next w i n A h = rw (rest_next (axiom_at w) i n h, axiom_is w n A i h) refl

pub axioms_none : (w : List ℕ) (i n : ℕ) → n ≤ i → axioms_left w i n ≡ []
unfolding axioms_text
axioms_none w i n h = rw (rest_none (axiom_at w) i n h) refl

pub axioms_from : (w : List ℕ) (n : ℕ) → axioms_left w 0 n ≡ axioms_text (axioms_of w n)
axioms_from w n = ap axioms_text (rest_all (axiom_at w) n)

-- ---- the loops over them
module _ (w : List ℕ) (c n : ℕ) (s : List ℕ) (at : ℕ) (text out : List ℕ) (p : ℕ) where
  concepts_left_lem : c < n → Left s at text out p (concepts_left w c n) → Left s at text out p (fields_text (concept_line (concept_at w c)) ++ concepts_left w (c + 1) n)
  concepts_left_lem h l = subst (Left s at text out p) (concepts_next w c n h) l

  axioms_left_lem : AxiomsHeld w n → c < n → Left s at text out p (axioms_left w c n) → Left s at text out p (fields_text (axiom_row w c) ++ axioms_left w (c + 1) n)
  axioms_left_lem A h l = subst (Left s at text out p) (axioms_next w c n A h) l

  pub concept_fits : c < n → Left s at text out p (concepts_left w c n) → at + length text ≤ length s → p + length (fields_text (concept_line (concept_at w c))) ≤ length out
  concept_fits h l = left_fits s at text out p (fields_text (concept_line (concept_at w c))) (concepts_left w (c + 1) n) (concepts_left_lem h l)

  pub axiom_fits : AxiomsHeld w n → c < n → Left s at text out p (axioms_left w c n) → at + length text ≤ length s → p + length (fields_text (axiom_row w c)) ≤ length out
  axiom_fits A h l = left_fits s at text out p (fields_text (axiom_row w c)) (axioms_left w (c + 1) n) (axioms_left_lem A h l)

  pub concept_more : (out' : List ℕ) (q : ℕ) → c < n → Left s at text out p (concepts_left w c n) → Put out p (fields_text (concept_line (concept_at w c))) out' q → Left s at text out' q (concepts_left w (c + 1) n)
  concept_more out' q h l = left_more s at text out p (fields_text (concept_line (concept_at w c))) (concepts_left w (c + 1) n) out' q (concepts_left_lem h l)

  pub axiom_more : (out' : List ℕ) (q : ℕ) → AxiomsHeld w n → c < n → Left s at text out p (axioms_left w c n) → Put out p (fields_text (axiom_row w c)) out' q → Left s at text out' q (axioms_left w (c + 1) n)
  axiom_more out' q A h l = left_more s at text out p (fields_text (axiom_row w c)) (axioms_left w (c + 1) n) out' q (axioms_left_lem A h l)

  pub concepts_end : n ≤ c → Left s at text out p (concepts_left w c n) → Put s at text out p
  concepts_end h l = left_none s at text out p (subst (Left s at text out p) (concepts_none w c n h) l)

  pub axioms_end : n ≤ c → Left s at text out p (axioms_left w c n) → Put s at text out p
  axioms_end h l = left_none s at text out p (subst (Left s at text out p) (axioms_none w c n h) l)

pub concepts_all : (w : List ℕ) (n : ℕ) (s : List ℕ) (at : ℕ) → Left s at (concepts_text (pool_of w n)) s at (concepts_left w 0 n)
concepts_all w n s at = rw (rest_all (concept_at w) n) (left_all s at (concepts_text (pool_of w n)))

pub axioms_all : (w : List ℕ) (n : ℕ) (s : List ℕ) (at : ℕ) → Left s at (axioms_text (axioms_of w n)) s at (axioms_left w 0 n)
axioms_all w n s at = rw (rest_all (axiom_at w) n) (left_all s at (axioms_text (axioms_of w n)))
