-- Options change the header alone: the deck is read as before, with the new options. Assumes nothing.
use Rattle.std.specs.Prelude.{◌≡◌, refl, Bool, true, false, List, [], ◌∷◌, ◌++◌, ℕ, ◌+◌, ◌≤◌, eqb, ltb, length, get_or}
use Rattle.std.proofs.Common.{ap, ap₂, ◌∙◌, subst, arith, eqb-true, ne_eqb}
use Rattle.ir.specs.Pick.{pick}
use Rattle.rules.specs.Concept.{Concept, Axiom}
use Rattle.rules.specs.Concept.{Top, Bot, Atomic, Nominal, SelfRestriction, Not, And, Or, Some, All, Min, Max}
use Rattle.rules.specs.Concept.{SubClassOf, EquivalentClasses, DisjointClasses, DisjointUnion, ObjectPropertyDomain, ObjectPropertyRange, SubChain, TransitiveRole, IrreflexiveRole, AsymmetricRole, DisjointObjectProperties, InverseObjectProperties, SubObjectPropertyOf, EquivalentObjectProperties, ReflexiveRole, ClassAssertion}
use Rattle.rules.specs.Deck.{section_of, concept_of, axiom_of, depth_of, Header, Known, known, with_options, optioned, in_order, concept_names_ok, axiom_names_ok, names_ok, concept_verdict, verdict, entered, fine, on_verdict}
use Rattle.spelling.specs.Lines.{Line, check_rows, not_fine, fine_inj}
use Rattle.session.specs.StrikeLaws.{kind_of}
use Rattle.session.specs.PlaceLaws.{ordered, entered_begun}

concept_names : (h : Header) (n : ℕ) (e : Concept) → concept_names_ok (with_options h n) e ≡ concept_names_ok h e
concept_names h n Top = refl
concept_names h n Bot = refl
concept_names h n (Atomic _) = refl
concept_names h n (Nominal _) = refl
concept_names h n (SelfRestriction _) = refl
concept_names h n (Not _) = refl
concept_names h n (And _) = refl
concept_names h n (Or _) = refl
concept_names h n (Some _ _) = refl
concept_names h n (All _ _) = refl
concept_names h n (Min _ _ _) = refl
concept_names h n (Max _ _ _) = refl

axiom_names : (h : Header) (n c : ℕ) (a : Axiom) → axiom_names_ok (with_options h n) c a ≡ axiom_names_ok h c a
axiom_names h n c (SubClassOf _ _) = refl
axiom_names h n c (EquivalentClasses _) = refl
axiom_names h n c (DisjointClasses _) = refl
axiom_names h n c (DisjointUnion _ _) = refl
axiom_names h n c (ObjectPropertyDomain _ _) = refl
axiom_names h n c (ObjectPropertyRange _ _) = refl
axiom_names h n c (SubChain _ _) = refl
axiom_names h n c (TransitiveRole _) = refl
axiom_names h n c (IrreflexiveRole _) = refl
axiom_names h n c (AsymmetricRole _) = refl
axiom_names h n c (DisjointObjectProperties _) = refl
axiom_names h n c (InverseObjectProperties _ _) = refl
axiom_names h n c (SubObjectPropertyOf _ _) = refl
axiom_names h n c (EquivalentObjectProperties _) = refl
axiom_names h n c (ReflexiveRole _) = refl
axiom_names h n c (ClassAssertion _ _) = refl

names_same : (s : Known) (n k : ℕ) (r : List ℕ) → names_ok (optioned s n) k r ≡ names_ok s k r
names_same s n k r = ap₂ (λ (a b : Bool). pick (eqb (section_of k) 2) (ltb (get_or r 1 0) s.header.classes) (pick (eqb (section_of k) 3) a (pick (eqb (section_of k) 4) b true)))
    (concept_names s.header n (concept_of k r)) (axiom_names s.header n (length s.concepts) (axiom_of k r))

pub verdict_same : (s : Known) (n k : ℕ) (r : List ℕ) → verdict (optioned s n) k r ≡ verdict s k r
unfolding verdict concept_verdict
verdict_same s n k r = rw (names_same s n k r) refl

-- a line that is no header
pub entered_same : (s : Known) (n k : ℕ) (r : List ℕ) → eqb (section_of k) 1 ≡ false → entered (optioned s n) k r ≡ optioned (entered s k r) n
unfolding entered
entered_same s n k r e = rw e (by (eqb (section_of k) 2) (eqb (section_of k) 3))
  where
    by : (b c : Bool) → pick b (known 2 (with_options s.header n) (s.keys ++ (get_or r 1 0 ∷ [])) s.concepts s.depths s.axioms) (pick c (known 3 (with_options s.header n) s.keys (s.concepts ++ (concept_of k r ∷ [])) (s.depths ++ (depth_of s.depths (concept_of k r) ∷ [])) s.axioms) (known 4 (with_options s.header n) s.keys s.concepts s.depths (s.axioms ++ (axiom_of k r ∷ []))))
        ≡ optioned (pick b (known 2 s.header (s.keys ++ (get_or r 1 0 ∷ [])) s.concepts s.depths s.axioms) (pick c (known 3 s.header s.keys (s.concepts ++ (concept_of k r ∷ [])) (s.depths ++ (depth_of s.depths (concept_of k r) ∷ [])) s.axioms) (known 4 s.header s.keys s.concepts s.depths (s.axioms ++ (axiom_of k r ∷ []))))) n
    by true c = refl
    by false true = refl
    by false false = refl

-- behind the header no header comes
pub no_header : (s : Known) (k : ℕ) (r : List ℕ) → 1 ≤ s.section → verdict s k r ≡ 0 → eqb (section_of k) 1 ≡ false
no_header s k r h v = ne_eqb (section_of k) 1 (λ e. one (subst (λ (n : ℕ). in_order s.section n ≡ true) e (ordered s k r v)))
  where
    one : eqb s.section 0 ≡ true → ⊥
    one q = let z = eqb-true s.section 0 q in absurd (omega arith)

-- the lines behind the header pass as before
pub lines_same : (l : List Line) (s : Known) (line : ℕ) (d : Known) (n : ℕ) → 1 ≤ s.section → check_rows s line l ≡ fine d → check_rows (optioned s n) line l ≡ fine (optioned d n)
unfolding check_rows
lines_same [] s line d n h e = ap (λ (k : Known). fine (optioned k n)) (fine_inj s d e)
lines_same (x ∷ l) s line d n h e = go (eqb (verdict s (kind_of x) x.numbers) 0) refl (λ q. lines_same l (entered s (kind_of x) x.numbers) (line + 1) d n (entered_begun s (kind_of x) x.numbers) q) e
  where
    go : (b : Bool) → eqb (verdict s (kind_of x) x.numbers) 0 ≡ b → (check_rows (entered s (kind_of x) x.numbers) (line + 1) l ≡ fine d → check_rows (optioned (entered s (kind_of x) x.numbers) n) (line + 1) l ≡ fine (optioned d n))
        → on_verdict (λ k. check_rows k (line + 1) l) s line x.numbers (verdict s (kind_of x) x.numbers) b ≡ fine d
        → on_verdict (λ k. check_rows k (line + 1) l) (optioned s n) line x.numbers (verdict (optioned s n) (kind_of x) x.numbers) (eqb (verdict (optioned s n) (kind_of x) x.numbers) 0) ≡ fine (optioned d n)
    go false q more e = not_fine (verdict s (kind_of x) x.numbers) line d e
    go true q more e =
        let v = eqb-true (verdict s (kind_of x) x.numbers) 0 q in
        let w : verdict (optioned s n) (kind_of x) x.numbers ≡ 0 = verdict_same s n (kind_of x) x.numbers ∙ v in
        rw w (ap (λ (k : Known). check_rows k (line + 1) l) (entered_same s n (kind_of x) x.numbers (no_header s (kind_of x) x.numbers h v)) ∙ more e)
