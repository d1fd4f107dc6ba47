-- What the line of an axiom says of its numbers and of the sets that they name. Assumes nothing.
use mathlib.Core.Path.{◌≡◌, ap, subst, ◌∙◌}
use mathlib.Core.List.{List, [], ◌∷◌, map}
use Prim.Native.Nat.{ℕ, ◌+◌, ◌*◌, ◌<◌, ◌≤◌}
use native.Mathlib.Omega.{arith}
use native.Mathlib.Nat.{one-mul}
use lib.ListN.{length, get_or}
use Rattle.words.specs.Words.{words}
use Rattle.ir.specs.Roles.{role_of, role_code, role_id, flipped, code_in}
use Rattle.ir.specs.Scratch.{lines_at}
use Rattle.rules.specs.Concept.{Axiom}
use Rattle.rules.specs.Deck.{Known, most_roles, most_concept_lines}
use Rattle.rules.specs.Pool.{most_concepts}
use Rattle.rules.specs.DeckLaws.{bounds_of}
use Rattle.rules.specs.Invariants.{Each, RoleIn, AxiomIn}
use Rattle.rules.specs.Run.{scratch_bytes}
use Rattle.rules.specs.Semantics.{Interpretation, means, related}
use Rattle.pool.specs.Layout.{run}
use Rattle.pool.specs.Tabs.{tab_each}
use Rattle.states.specs.State.{most_elements}
use Rattle.states.specs.Masks.{mask_of}
use Rattle.sets.specs.Kept.{set_at}
use Rattle.sets.specs.Places.{concepts_at, rows_at}
use Rattle.sets.specs.Laid.{row_of}
use Rattle.extents.specs.declared.Trial.{Trial}
use Rattle.axiomtests.specs.declared.members.Sets.{Sets}
use Rattle.ontology.specs.Rows.{row_axiom}
use Rattle.axiomtests.specs.Lines.{Line, LineIn, LineThere}
use Rattle.axiomtests.specs.Lists.{Members, SetsIn}
use Rattle.axiomtests.specs.Chains.{RowsOf}
use Rattle.axiomtests.proofs.RoleLaws.{turned_in}

-- ---- a list's numbers as sets of concepts, or as rows of x
abbrev pub concept_sets : ℕ → ℕ → Sets
concept_sets at count = record { at = at; count = count; first = concepts_at; step = 1 }

abbrev pub row_sets : ℕ → ℕ → ℕ → Sets
row_sets at count x = record { at = at; count = count; first = rows_at + x; step = 64 }

each_roles : (P : ℕ → Type 0) (n : ℕ) → ((c : ℕ) → role_id (role_of c) < n → P c) → (l : List ℕ) → Each (λ r. role_id r < n) (map role_of l) → Each P l
each_roles P n g [] E = tt
each_roles P n g (c ∷ l) E = (g c E.0, each_roles P n g l E.1)

module _ {d : Known} {I : Interpretation} {w v : List ℕ} {t : Trial} {kind at count : ℕ} (L : Line d I w v t kind at count) where
  pub few_elements : t.size ≤ most_elements
  few_elements = omega (arith, L.fits.size, L.ready.laid.few)

  pub few_concepts_lem : length d.concepts ≤ most_concept_lines
  few_concepts_lem = L.ready.inside.few_concepts

  pub few_codes : (c : ℕ) → c < 2 * d.header.roles → c < 2 * most_roles
  few_codes c h = omega (arith, L.ready.inside.roles)

  pub arm_in : (a : Axiom) → row_axiom v kind at count ≡ a → AxiomIn (bounds_of d) (length d.concepts) a
  arm_in a e = subst (AxiomIn (bounds_of d) (length d.concepts)) e L.inside

  pub rows_of : (c : ℕ) → c < 2 * d.header.roles → RowsOf I v c
  rows_of c h x l = L.ready.laid.rows c x h l

  pub concept_small : (m k : ℕ) → m ≡ k → k < length d.concepts → m < most_concepts
  concept_small m k e h = omega (arith, few_concepts_lem)

  pub code_small : (m k : ℕ) → m ≡ k → k < 2 * d.header.roles → m < 2 * most_roles
  code_small m k e h = omega (arith, few_codes k h)

  pub turned_small : (m a k : ℕ) → m ≡ role_code (flipped (role_of a)) → a ≡ k → k < 2 * d.header.roles → m < 2 * most_roles
  turned_small m a k q e h = code_small m (role_code (flipped (role_of a))) q (turned_in a d.header.roles (omega arith))

  pub element_small : (x : ℕ) → x < t.size → x < most_elements
  element_small x h = omega (arith, few_elements)

  -- what was read: the set of concept m, the row of code m
  pub concept_of_lem : (m k r : ℕ) → m ≡ k → k < length d.concepts → r ≡ set_at v (concepts_at + m) → r ≡ mask_of I.size (means I d.concepts k)
  concept_of_lem m k r e h q = q ∙ ap (λ (c : ℕ). set_at v (concepts_at + c)) e ∙ L.sets k h

  pub row_of_lem : (m k x r : ℕ) → m ≡ k → k < 2 * d.header.roles → x < t.size → r ≡ row_of v m x → r ≡ mask_of I.size (related I (role_of k) x)
  row_of_lem m k x r e h l q = q ∙ ap (λ (c : ℕ). row_of v c x) e ∙ rows_of k h x (omega (arith, L.fits.size))

  -- lists
  module _ (from n : ℕ) where
    pub concepts_of : Each (λ c. c < length d.concepts) (run v from n) → Members I.size (means I d.concepts) v (concept_sets from n)
    concepts_of E j h =
        ap (λ (k : ℕ). set_at v (concepts_at + k)) (one-mul (get_or v (from + j) 0)) ∙ L.sets (get_or v (from + j) 0) (tab_each (λ i. get_or v i 0) (λ c. c < length d.concepts) from n E j h)

    pub codes_of : Each (RoleIn (bounds_of d)) (map role_of (run v from n)) → Each (λ c. c < 2 * d.header.roles) (run v from n)
    codes_of E = each_roles (λ c. c < 2 * d.header.roles) d.header.roles (λ c h. code_in c d.header.roles h) (run v from n) E

    pub rows_in : (x : ℕ) → x < t.size → Each (λ c. c < 2 * d.header.roles) (run v from n) → Members I.size (λ c. related I (role_of c) x) v (row_sets from n x)
    rows_in x l E j h =
        let c = get_or v (from + j) 0 in
        let e : rows_at + x + 64 * c ≡ rows_at + 64 * c + x = omega arith in
        ap (set_at v) e ∙ rows_of c (tab_each (λ i. get_or v i 0) (λ c. c < 2 * d.header.roles) from n E j h) x (omega (arith, L.fits.size))

-- ---- what the code asks
pub there_in : (store s : List ℕ) (t : Trial) (kind at count : ℕ) → LineThere store s t kind at count → LineIn s t kind at count
there_in store s t kind at count P = record { known = P.known; meant = P.meant; store = words store; line = P.line; space = P.space }

module _ (s : List ℕ) {d : Known} {I : Interpretation} {w : List ℕ} {t : Trial} {kind at count : ℕ} (L : Line d I w (words s) t kind at count) (room : scratch_bytes ≤ length s) (from n : ℕ) (h : from + n ≤ lines_at) where
  pub concepts_there : Each (λ c. c < length d.concepts) (run (words s) from n) → SetsIn s (concept_sets from n)
  concepts_there E = record {
    within = h;
    room = λ j l. let q = tab_each (λ i. get_or (words s) i 0) (λ c. c < length d.concepts) from n E j l in let e = one-mul (get_or (words s) (from + j) 0) in omega (arith, few_concepts_lem L);
    space = room;
  }

  pub rows_there : (x : ℕ) → x < t.size → Each (λ c. c < 2 * d.header.roles) (run (words s) from n) → SetsIn s (row_sets from n x)
  rows_there x k E = record {
    within = h;
    room = λ j l. let q = tab_each (λ i. get_or (words s) i 0) (λ c. c < 2 * d.header.roles) from n E j l in omega (arith, few_elements L, L.ready.inside.roles);
    space = room;
  }
