use Rattle.std.specs.Prelude.{None}
use Rattle.std.proofs.Common.{◌≡◌, List, [], ◌∷◌, ℕ, ◌≤◌, Bool, refl, ap, sym, ◌∙◌}
use Rattle.ir.specs.Pick.{pick}
use Rattle.rules.specs.Deck.{Known, nothing, limits_ok, verdict as verdict_of}
use Rattle.rules.specs.Invariants.{Each}
use Rattle.rules.specs.Text.{most_number}
use Rattle.rules.specs.Lister.{fields_text}
use Rattle.text.specs.Rows.{row_at}
use Rattle.deck.specs.Records.{Counted}
use Rattle.deck.specs.declared.state.State.{State}
use Rattle.deck.proofs.LineLaws.{started, default_state}
use Rattle.session.specs.OptionedLaws.{header_limits, header_verdict}
use Rattle.session.proofs.header.verdict.Goals as goal

-- the default state tells of nothing
counted : (k : State) → k ≡ started → Counted k nothing
counted k e = rw e (record { header = refl; concepts = refl; axioms = refl })

-- the limits of the header's text are those of its numbers
told : (k : State) (s : List ℕ) (b : Bool)
    → (k.section ≡ None) × ((k.classes ≡ 0) × ((k.individuals ≡ 0) × ((k.roles ≡ 0) × ((k.options ≡ 0) × ((k.marks ≡ 0) × ((k.keys ≡ 0) × ((k.concepts ≡ 0) × (k.axioms ≡ 0))))))))
    → ((d : Known) → Counted k d → b ≡ limits_ok d 0 (row_at s 0 5)) → (c i r n : ℕ) → Each (λ j. j ≤ most_number) (0 ∷ c ∷ i ∷ r ∷ n ∷ []) → s ≡ fields_text (0 ∷ c ∷ i ∷ r ∷ n ∷ []) → pick b 0 4 ≡ verdict_of nothing 0 (0 ∷ c ∷ i ∷ r ∷ n ∷ [])
told k s b d h c i r n N e =
    let q = default_state k d.0 d.1.0 d.1.1.0 d.1.1.1.0 d.1.1.1.1.0 d.1.1.1.1.1.0 d.1.1.1.1.1.1.0 d.1.1.1.1.1.1.1.0 d.1.1.1.1.1.1.1.1 in
    ap (λ (x : Bool). pick x 0 4) (h nothing (counted k q) ∙ header_limits c i r n s N e) ∙ header_verdict c i r n

pub returns-then-not-limits : goal.returns-then-not-limits
returns-then-not-limits c' c i r n N e = ap (λ (x : Bool). pick x 0 4) (sym c'.if-not-limits.true) ∙ told c'.default.result c'.args.header.now c'.limits.result c'.default.ensures c'.limits.ensures c i r n N e

pub returns : goal.returns
returns c' c i r n N e = ap (λ (x : Bool). pick x 0 4) (sym c'.if-not-limits.false) ∙ told c'.default.result c'.args.header.now c'.limits.result c'.default.ensures c'.limits.ensures c i r n N e
