-- The fresh classes of a run, which took n ids: what the third proviso says of the heads, and the sets that the first half gives.
-- Assumes nothing.
use Rattle.std.specs.Prelude.{◌≡◌, false, List, [], ◌∷◌, map, ℕ, ◌+◌, ◌<◌, leb}
use Rattle.std.proofs.Common.{sym, ap, ◌∙◌, true≢false, leb-false, lt-ltb}
use Rattle.std.proofs.Math.Option.{some}
use Rattle.ir.specs.Pick.{pick}
use Rattle.ir.specs.declared.atom.Atom.{Atom}
use Rattle.ir.specs.declared.atom.Atom.TheVariants.{Class, Exists, AtMost, AtLeast, Equal, Role as RoleAtom}
use Rattle.ir.specs.Qualifiers.{Qualifier}
use Rattle.std.specs.Prelude.{None, Some}
use Rattle.std.proofs.lemmas.Bool.{or_parts}
use Rattle.rules.specs.Base.{any}
use Rattle.rules.specs.State.{Clause}
use Rattle.rules.specs.Deck.{Known}
use Rattle.rules.specs.Run.{first_fresh}
use Rattle.rules.specs.Invariants.{Each, QualifierIn}
use Rattle.rules.specs.Semantics.{Interpretation}
use Rattle.rules.specs.Statements.{is_fresh, names_fresh, is_fresh_at_most, has_fresh_at_most}
use Rattle.meaning.specs.Truth.{by_truth, and_both, any_append}
use Rattle.meaning.specs.Valuations.{Valuation, Agree, AtomUnder, ClauseUnder}
use Rattle.meaning.specs.Adds.{FineAtom, Fine}

module _ (d : Known) (n : ℕ) where
  -- an id that the run has taken and that is not fresh is declared
  declared : (c : ℕ) → c < first_fresh d + n → is_fresh d n c ≡ false → c < first_fresh d
  declared c h e = by_truth (leb (first_fresh d) c) (λ b. absurd (true≢false (sym (and_both b (lt-ltb c (first_fresh d + n) h)) ∙ e))) (λ b. leb-false (first_fresh d) c b)

  -- ---- the third proviso, of the heads
  qualifier_fine : (q : Qualifier) → QualifierIn (first_fresh d + n) q → names_fresh (is_fresh d n) q ≡ false → QualifierIn (first_fresh d) q
  qualifier_fine None u e = tt
  qualifier_fine (Some c) u e = declared c u e

  atom_fine : (a : Atom) → AtomUnder (first_fresh d + n) a → is_fresh_at_most (is_fresh d n) a ≡ false → FineAtom (first_fresh d) a
  atom_fine (Class _ _) u e = tt
  atom_fine (RoleAtom _ _ _) u e = tt
  atom_fine (Exists _ _ _) u e = tt
  atom_fine (AtMost r q k v) u e = qualifier_fine q u e
  atom_fine (AtLeast _ _ _ _) u e = tt
  atom_fine (Equal _ _) u e = tt

  atoms_fine : (l : List Atom) → Each (AtomUnder (first_fresh d + n)) l → any (is_fresh_at_most (is_fresh d n)) l ≡ false → Each (FineAtom (first_fresh d)) l
  atoms_fine [] u e = tt
  atoms_fine (a ∷ l) u e = let o = or_parts (is_fresh_at_most (is_fresh d n) a) (any (is_fresh_at_most (is_fresh d n)) l) e in (atom_fine a u.0 o.0, atoms_fine l u.1 o.1)

  clause_fine : (c : Clause) → ClauseUnder (first_fresh d + n) c → has_fresh_at_most (is_fresh d n) (some c) ≡ false → Fine (first_fresh d) c
  clause_fine c u e = atoms_fine c.head u.head (or_parts (any (is_fresh_at_most (is_fresh d n)) c.body) (any (is_fresh_at_most (is_fresh d n)) c.head) (sym (any_append (is_fresh_at_most (is_fresh d n)) c.body c.head) ∙ e)).1

  pub clauses_fine : (l : List Clause) → Each (ClauseUnder (first_fresh d + n)) l → any (has_fresh_at_most (is_fresh d n)) (map some l) ≡ false → Each (Fine (first_fresh d)) l
  clauses_fine [] u e = tt
  clauses_fine (c ∷ l) u e = let o = or_parts (has_fresh_at_most (is_fresh d n) (some c)) (any (has_fresh_at_most (is_fresh d n)) (map some l)) e in (clause_fine c u.0 o.0, clauses_fine l u.1 o.1)

  -- ---- the given sets for the fresh classes, the interpretation's own for the others
  abbrev pub sets : Interpretation → Valuation → Valuation
  sets I l c = pick (is_fresh d n c) (l c) (I.class c)

  pub sets_same : (I : Interpretation) (l : Valuation) (c : ℕ) → is_fresh d n c ≡ false → sets I l c ≡ I.class c
  sets_same I l c e = ap (λ b. pick b (l c) (I.class c)) e

  pub sets_agree : (I : Interpretation) (l : Valuation) → Agree (first_fresh d) I.class l → Agree (first_fresh d + n) l (sets I l)
  sets_agree I l a = record {
    same = λ c h. by_truth (is_fresh d n c)
        (λ b. sym (ap (λ t. pick t (l c) (I.class c)) b)) (λ b. sym (a.same c (declared c h b)) ∙ sym (sets_same I l c b));
  }
