-- What a deck and a state that stand ready give: they stay so where their words stay, and a set for each class, individual and
-- role that the deck declares. Assumes nothing.
use Rattle.std.specs.Prelude.{◌≡◌, List, ℕ, ◌+◌, ◌*◌, ◌/◌, ◌<◌, ◌≤◌, length, eqb}
use Rattle.std.proofs.Common.{sym, ap, ◌∙◌, arith, le_refl}
use Rattle.words.specs.Words.{words}
use Rattle.words.specs.Laws.{length_words}
use Rattle.ir.specs.declared.role.Role.{Role}
use Rattle.ir.specs.Roles.{role_id, role_code, role_of, role_code_lem, code_below}
use Rattle.rules.specs.Pool.{members}
use Rattle.rules.specs.Deck.{Known}
use Rattle.rules.specs.DeckLaws.{DeckIn}
use Rattle.rules.specs.Semantics.{Interpretation, related}
use Rattle.pool.specs.Layout.{members_at, heads_at}
use Rattle.pool.specs.HeldLaws.{Same, pool_same, held_same}
use Rattle.ontology.specs.KeptAxioms.{axioms_kept, held_axioms}
use Rattle.states.specs.Masks.{mask_of}
use Rattle.states.specs.MaskLaws.{mask_same}
use Rattle.states.specs.Test.{store_bytes}
use Rattle.sets.specs.Kept.{set_at}
use Rattle.sets.specs.KeptLaws.{set_same}
use Rattle.sets.specs.Places.{deck_words, concepts_at, rows_at}
use Rattle.sets.specs.Laid.{Laid, row_of, KeptTo, KeptIn}
use Rattle.extents.specs.declared.Trial.{Trial}
use Rattle.extents.specs.Ready.{Ready, ConceptSets, SetsThere}

-- ---- words that stay
-- fewer words
pub kept_less : (a b : ℕ) (v v' : List ℕ) → b ≤ a → KeptTo a v v' → KeptTo b v v'
kept_less a b v v' h K i l = K i (omega arith)

pub kept_trans : (a : ℕ) (u v w : List ℕ) → KeptTo a u v → KeptTo a v w → KeptTo a u w
kept_trans a u v w K L i h = L i h ∙ K i h

pub kept_in_trans : (a b : ℕ) (u v w : List ℕ) → KeptIn a b u v → KeptIn a b v w → KeptIn a b u w
kept_in_trans a b u v w K L i h l = L i h l ∙ K i h l

-- a set whose two words stay
pub set_kept : (a : ℕ) (v v' : List ℕ) (i : ℕ) → KeptTo a v v' → 2 * i + 2 ≤ a → set_at v' i ≡ set_at v i
set_kept a v v' i K h = set_same v v' i (K (2 * i) (omega arith)) (K (2 * i + 1) (omega arith))

pub set_kept_in : (a b : ℕ) (v v' : List ℕ) (i : ℕ) → KeptIn a b v v' → a ≤ 2 * i → 2 * i + 2 ≤ b → set_at v' i ≡ set_at v i
set_kept_in a b v v' i K l h = set_same v v' i (K (2 * i) l (omega arith)) (K (2 * i + 1) (omega arith) (omega arith))

-- the sets of 2,048 codes
pub row_kept : (v v' : List ℕ) (code x : ℕ) → KeptIn 131072 393216 v v' → code < 2048 → x < 64 → row_of v' code x ≡ row_of v code x
row_kept v v' code x K c h = set_kept_in 131072 393216 v v' (rows_at + 64 * code + x) K (omega arith) (omega arith)

pub laid_kept : (I : Interpretation) (roles : ℕ) (w v v' : List ℕ) → roles ≤ 1024 → Laid I roles w v → KeptIn 131072 393216 v v' → Laid I roles w v'
laid_kept I roles w v v' h L K = record {
  some = L.some;
  few = L.few;
  classes = L.classes;
  rows = λ code x c l. row_kept v v' code x K (omega arith) (omega (arith, L.few)) ∙ L.rows code x c l;
}

module _ (d : Known) (I : Interpretation) (w v : List ℕ) (R : Ready d I w v) where
  -- ---- what is there
  pub size_some : 0 < I.size
  size_some = R.laid.some

  pub size_few : I.size ≤ 64
  size_few = R.laid.few

  pub concepts_few : length d.concepts ≤ 1024
  concepts_few = R.inside.few_concepts

  -- a declared class, and an individual's
  pub class_set : (c : ℕ) → 2 * c + 2 ≤ length w → set_at w c ≡ mask_of I.size (I.class c)
  class_set c h = R.laid.classes c h

  pub individual_set : (i : ℕ) → i < d.header.individuals → 2 * (d.header.classes + i) + 2 ≤ length w
      → set_at w (d.header.classes + i) ≡ mask_of I.size (λ x. eqb x (I.individual i))
  individual_set i h l = class_set (d.header.classes + i) l ∙ mask_same I.size (I.class (d.header.classes + i)) (λ x. eqb x (I.individual i)) (λ x k. R.proper.alone i x h k)

  -- a role's code
  pub code_few : (code : ℕ) → code < 2 * d.header.roles → code < 2048
  code_few code h = omega (arith, R.inside.roles)

  pub code_row : (code x : ℕ) → code < 2 * d.header.roles → x < I.size → row_of v code x ≡ mask_of I.size (related I (role_of code) x)
  code_row = R.laid.rows

  -- ---- the same, elsewhere
  module _ (v' : List ℕ) (K : KeptTo deck_words v v') where
    same_records : Same v v' (length d.concepts) (members d.concepts)
    same_records = record {
      records = λ i h. K i (omega (arith, R.held.few));
      members = λ i h. K (members_at + i) (omega (arith, R.held.space));
    }

    pub ready_kept : KeptIn 131072 393216 v v' → length v' ≡ length v → Ready d I w v'
    ready_kept L e = record {
      inside = R.inside;
      held = held_same v v' (length d.concepts) (members d.concepts) R.held same_records e (λ h l. K (heads_at + h) (omega arith));
      pool = pool_same v v' (length d.concepts) (members d.concepts) R.held same_records (length d.concepts) (le_refl _) ∙ R.pool;
      lines = held_axioms v v' (length d.axioms) R.lines (λ j _ h. K j (omega arith));
      listed = axioms_kept v v' (length d.axioms) R.lines (λ j _ h. K j (omega arith)) ∙ R.listed;
      laid = laid_kept I d.header.roles w v v' R.inside.roles R.laid L;
      proper = R.proper;
    }

-- ---- roles of the deck
pub role_row : (d : Known) (I : Interpretation) (w v : List ℕ) → Ready d I w v → (r : Role) (x : ℕ) → role_id r < d.header.roles → x < I.size
    → row_of v (role_code r) x ≡ mask_of I.size (related I r x)
role_row d I w v R r x h l = code_row d I w v R (role_code r) x (code_below r d.header.roles h) l ∙ ap (λ (s : Role). mask_of I.size (related I s x)) (role_code_lem r)

-- ---- the store has room for every declared class and every individual's
pub class_room : (d : Known) → DeckIn d → (store : List ℕ) → store_bytes ≤ length store → (c : ℕ) → c < d.header.classes + d.header.individuals
    → (8 * c + 8 ≤ length store) × (2 * c + 2 ≤ length (words store))
class_room d D store h c l =
    let few : c < 8192 = omega (arith, D.classes, D.individuals) in
    (omega arith, rw (length_words store) (omega arith))

-- ---- the concepts' sets
pub sets_kept : (d : Known) (I : Interpretation) (n : ℕ) (v v' : List ℕ) → n ≤ 2048 → ConceptSets d I n v → KeptIn deck_words 86016 v v' → ConceptSets d I n v'
sets_kept d I n v v' h S K c l = set_kept_in deck_words 86016 v v' (concepts_at + c) K (omega arith) (omega arith) ∙ S c l

pub sets_there_kept : (store s s' : List ℕ) (t : Trial) → SetsThere store s t → length s' ≡ length s → KeptTo 86016 (words s) (words s') → KeptIn 131072 393216 (words s) (words s')
    → SetsThere store s' t
sets_there_kept store s s' t S e K L =
    let R = S.ready in
    let n : length (words s') ≡ length (words s) = length_words s' ∙ ap (λ (k : ℕ). k / 4) e ∙ sym (length_words s) in
    record {
      known = S.known;
      meant = S.meant;
      ready = ready_kept S.known S.meant (words store) (words s) R (words s') (kept_less 86016 deck_words (words s) (words s') (omega arith) K) L n;
      fits = S.fits;
      sets = sets_kept S.known S.meant (length S.known.concepts) (words s) (words s') (omega (arith, R.inside.few_concepts)) S.sets (λ i _ h. K i h);
      room = S.room;
      space = rw e S.space;
    }
