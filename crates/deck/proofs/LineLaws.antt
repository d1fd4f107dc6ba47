-- The loop over the lines. Assumes nothing.
use mathlib.Core.Path.{◌≡◌, refl, sym, ap, subst, ◌∙◌}
use mathlib.Core.Bool.{true, true≢false}
use mathlib.Core.List.{List, [], ◌∷◌}
use Prim.Native.Nat.{ℕ, zero, suc, ◌+◌, ◌*◌, ◌-◌, ◌<◌, ◌≤◌}
use native.Mathlib.Omega.{arith}
use borrow.Author.Tests.{eq-eqb, ne_eqb}
use lib.ListN.{length, get_or, drop, replicate, drop_of_length-le, length-replicate, get_or-replicate}
use lib.Seq.{sets, drop-cons}
use Rattle.words.specs.Words.{words}
use Rattle.words.specs.Laws.{length_words}
use Rattle.words.specs.Runs.{get_d_sets_in}
use Rattle.rules.specs.Text.{row, broken_row, row_of}
use Rattle.rules.specs.TextLaws.{row_numbers}
use Rattle.rules.specs.Deck.{Known, verdict, fine, refused, read_by, nothing, read_lines, most_bytes}
use Rattle.text.specs.Rows.{row_at, line_of}
use Rattle.deck.specs.Index.{last}
use Rattle.deck.specs.Records.{tab, sum, known_in, verdict_number, table_bytes, Numbers, Held, Entered, Fresh}
use Rattle.deck.specs.declared.state.Section.{Section}
use Rattle.deck.specs.declared.state.State.{State}
use Rattle.ir.specs.declared.answer.Refused.{Refused}
use Rattle.ir.specs.Refusals.{refusal_number}
use Rattle.ir.specs.declared.refusal.Refusal.{Refusal}
use Rattle.ir.specs.declared.refusal.Refusal.TheVariants.{WrongSize, BadColumns, BadLine, PastLimit, Undeclared, BadNesting, BadList, Repeated, LargestBound, VisitsSpent, PoolFull, NoRoom, BadState, WideClause, NotLive}
use Rattle.std.specs.Prelude.{Option, None, Result, Ok, Err, is_ok, MatchResult, IsErrAnd}
use Prim.{Unit}

-- ---- verdicts as they are answered
pub refusal_some : (r : Refusal) → refusal_number r ≡ 0 → ⊥
refusal_some WrongSize e = absurd (omega arith)
refusal_some BadColumns e = absurd (omega arith)
refusal_some BadLine e = absurd (omega arith)
refusal_some PastLimit e = absurd (omega arith)
refusal_some Undeclared e = absurd (omega arith)
refusal_some BadNesting e = absurd (omega arith)
refusal_some BadList e = absurd (omega arith)
refusal_some Repeated e = absurd (omega arith)
refusal_some LargestBound e = absurd (omega arith)
refusal_some VisitsSpent e = absurd (omega arith)
refusal_some PoolFull e = absurd (omega arith)
refusal_some NoRoom e = absurd (omega arith)
refusal_some BadState e = absurd (omega arith)
refusal_some WideClause e = absurd (omega arith)
refusal_some NotLive e = absurd (omega arith)

pub good_number : (v : Result (Unit {0}) Refusal) → is_ok v ≡ true → verdict_number v ≡ 0
good_number (Ok _) e = refl
good_number (Err r) e = absurd (true≢false (sym e))

-- m is v, with the line of a refusal
pub bad_number : (v : Result (Unit {0}) Refusal) (m : Result (Unit {0}) Refused) (line : ℕ) (Q : Refusal → Refused → Type 0) → ((r : Refusal) (d : Refused) → Q r d → d ≡ record { refusal = r; line = line })
    → is_ok m ≡ is_ok v → MatchResult v (λ x. m ≡ Ok x) (λ r. IsErrAnd m (Q r)) → (d : Refused) → m ≡ Err d → (refusal_number d.refusal ≡ verdict_number v) × (d.line ≡ line)
bad_number (Ok x) m line Q g q h d e = absurd (true≢false (sym q ∙ ap is_ok e))
bad_number (Err r) m line Q g q h d e = let k = g r d (rw e at h) in (rw k refl, rw k refl)

-- a table whose index was cleared
pub fresh_table : (t u : List ℕ) → table_bytes ≤ length t → length u ≡ length t → words u ≡ sets (words t) 5120 (replicate 1024 0) → Fresh u
fresh_table t u h l e =
    let z : List ℕ = replicate 1024 0 in
    let m : length z ≡ 1024 = length-replicate {0} {A = ℕ} 1024 0 in
    let w : 7168 ≤ length (words t) = rw (length_words t) (omega arith) in
    record { room = rw l h; heads = λ g b. rw e (get_d_sets_in z (words t) 5120 g 0 (omega arith) (omega arith) ∙ get_or-replicate {0} {A = ℕ} 1024 g 0 0 b) }

-- at the head of the loop: the answer is the answer from here
pub record Going (s t₀ t : List ℕ) (k : State) (p line : ℕ) : Type 0 where
  pub held : Held s t k p
  pub size : length t ≡ length t₀
  pub lines : 12 * line ≤ p + 12
  pub within : p ≤ length s
  pub rest : read_lines s ≡ read_by (length s + 2 - line) (known_in s t k) line (drop p s)

abbrev pub started : State
started = record { section = None; classes = 0; individuals = 0; roles = 0; options = 0; marks = 0; keys = 0; concepts = 0; axioms = 0 }

abbrev state : Option Section → ℕ → ℕ → ℕ → ℕ → ℕ → ℕ → ℕ → ℕ → State
state s a b c d e f g h = record { section = s; classes = a; individuals = b; roles = c; options = d; marks = e; keys = f; concepts = g; axioms = h }

-- the default
pub default_state : (k : State) → k.section ≡ None → k.classes ≡ 0 → k.individuals ≡ 0 → k.roles ≡ 0 → k.options ≡ 0 → k.marks ≡ 0 → k.keys ≡ 0 → k.concepts ≡ 0 → k.axioms ≡ 0 → k ≡ started
default_state k a b c d e f g h i =
    let q : state k.section k.classes k.individuals k.roles k.options k.marks k.keys k.concepts k.axioms ≡ started = rw (a, b, c, d, e, f, g, h, i) refl in
    q

none : (f : ℕ) (d : Known) (line : ℕ) → 0 < f → read_by f d line [] ≡ fine d
unfolding read_by
none zero d line h = absurd (omega arith)
none (suc f) d line h = refl

pub read_none : (s : List ℕ) → length s ≡ 0 → refused 3 1 ≡ read_lines s
read_none [] h = refl
read_none (b ∷ s) h = absurd (omega arith)

first_rest : (s : List ℕ) → (length s ≡ 0 → ⊥) → read_lines s ≡ read_by (length s + 2 - 1) nothing 1 s
first_rest [] h = absurd (h refl)
first_rest (b ∷ s) h = let e : length (b ∷ s) + 2 - 1 ≡ suc (length (b ∷ s)) = omega arith in rw e refl

pub going_first : (s t : List ℕ) → length s ≤ most_bytes → Fresh t → (length s ≡ 0 → ⊥) → Going s t t started 0 1
unfolding tab sum last
going_first s t m F e = record {
  held = record {
    small = m;
    concepts = record {
      room = F.room;
      few = omega arith;
      lines = λ i l. absurd (omega arith);
      rows = λ i l. absurd (omega arith);
      numbers = λ i l. absurd (omega arith);
      depths = λ i l. absurd (omega arith);
      index = record { heads = λ h l. F.heads h l; links = λ i l. absurd (omega arith) };
    };
    few = omega arith;
    lines = λ i l. absurd (omega arith);
    rows = λ i l. absurd (omega arith);
    used = omega arith;
    keys = omega arith;
    last_key = λ _. omega arith;
    no_key = λ _. refl;
  };
  size = refl;
  lines = omega arith;
  within = omega arith;
  rest = first_rest s e;
}

module _ (s t₀ t : List ℕ) (k : State) (p line : ℕ) (G : Going s t₀ t k p line) where
  pub going_end : length s ≤ p → fine (known_in s t k) ≡ read_lines s
  going_end h = sym (G.rest ∙ rw (drop_of_length-le s h) (none (length s + 2 - line) (known_in s t k) line (omega (arith, G.lines, G.within))))

  pub going_held : length s ≤ p → Held s t k (length s)
  going_held h = let e : p ≡ length s = omega (arith, G.within) in subst (Held s t k) e G.held

  module _ (h : p < length s) (n : ℕ) (e : line_of s p n ≡ row_of (drop p s)) where
    fuel : length s + 2 - line ≡ suc (length s + 2 - (line + 1))
    fuel = omega (arith, G.lines)

    here : drop p s ≡ get_or s p 0 ∷ drop (suc p) s
    here = drop-cons s p 0 h

    pub going_broken : n ≡ 0 → refused 2 line ≡ read_lines s
    unfolding read_by
    going_broken z =
        let q : row_of (drop p s) ≡ broken_row = sym e ∙ rw (eq-eqb _ _ z) refl in
        sym (G.rest ∙ rw (fuel, here, ← here, q) refl)

    module _ (z : n ≡ 0 → ⊥) where
      is_row : row_of (drop p s) ≡ row (row_at s p n) (drop (p + 11 * n + 1) s)
      is_row = sym e ∙ rw (ne_eqb _ _ z) refl

      pub going_numbers : Numbers (row_at s p n)
      going_numbers = (row_numbers (drop p s) (row_at s p n) (drop (p + 11 * n + 1) s) is_row).0

      pub going_bad : (v : ℕ) → v ≡ verdict (known_in s t k) (get_or (row_at s p n) 0 0) (row_at s p n) → (v ≡ 0 → ⊥) → refused v line ≡ read_lines s
      unfolding read_by
      going_bad v f g = sym (G.rest ∙ rw (fuel, here, ← here, is_row, ← f, ne_eqb _ _ g) refl)

      pub going_on : (u : List ℕ) (k₁ : State) → verdict (known_in s t k) (get_or (row_at s p n) 0 0) (row_at s p n) ≡ 0 → Entered s t u p n k k₁ → length u ≡ length t → p + 11 * n < length s
          → Going s t₀ u k₁ (p + 11 * n + 1) (line + 1)
      unfolding read_by
      going_on u k₁ v D l b = record {
        held = D.held;
        size = l ∙ G.size;
        lines = omega (arith, G.lines, z);
        within = omega arith;
        rest = G.rest ∙ rw (fuel, here, ← here, is_row, eq-eqb _ _ v, D.after) refl;
      }
