-- Bodies in hand: the part that is handed on, one atom more, and what a call above leaves alone. Assumes nothing.
use Rattle.std.specs.Prelude.{◌≡◌, refl, get_or, drop}
use Rattle.std.proofs.Math.Path.{sym, ap}
use Rattle.std.proofs.Common.{◌∙◌, take-add, drop_at}
use mathlib.Core.List.{List, [], ◌∷◌, ◌++◌, append-nil, append_assoc}
use Prim.Native.Nat.{ℕ, ◌+◌, ◌*◌, ◌-◌, ◌≤◌}
use native.Mathlib.Omega.{arith}
use Rattle.std.proofs.Math.ListN.{length, take, length-append}
use Rattle.std.proofs.lemmas.List.Edits.{sets}
use Rattle.std.proofs.Math.Seq.{sets-eq, length-take-le, take-take, take_at}
use Rattle.std.proofs.lemmas.List.{take-append-le}
use Rattle.words.specs.Words.{words}
use Rattle.words.specs.Laws.{length_words}
use Rattle.words.specs.Runs.{get_d_sets_after}
use Rattle.ir.specs.Records.{six}
use Rattle.ir.specs.Scratch.{limits_at}
use Rattle.ir.specs.declared.atom.Atom.{Atom}
use Rattle.rules.specs.Run.{flat}
use Rattle.rules.specs.DecodeLaws.{flat_append, flat_long}
use Rattle.tables.specs.Drawn.{Sized}
use Rattle.tables.specs.Tabled.{At, Run}
use Rattle.tables.specs.AtomLaws.{part_run}
use Rattle.waiting.specs.Limits.{Behind}
use Rattle.hands.specs.Hands.{InHand}

-- two of the tables that fit, by themselves
pub sized_two : {c a d : ℕ} → Sized c a d → Sized c a 0
sized_two s = record { clauses = s.clauses; atoms = s.atoms; deferrals = omega arith }

-- a run below the limits
pub put_behind : (w w' vs : List ℕ) (p : ℕ) → w' ≡ sets w p vs → p + length vs ≤ limits_at → Behind w w'
put_behind w w' vs p e h = record { same = λ j l. ap (λ (v : List ℕ). get_or v j 0) e ∙ get_d_sets_after vs w p j 0 (omega arith) }

module _ (base n : ℕ) where
  pub put_frame : (w w' vs : List ℕ) (p : ℕ) → w' ≡ sets w p vs → p + length vs ≤ length w → take p w' ≡ take p w
  put_frame w w' vs p e h =
      let l : length (take p w) ≡ p = length-take-le p w (omega arith) in
      let m = length-append (take p w) vs in
      ap (take p) (e ∙ sets-eq vs w p h) ∙ take-append-le p (take p w ++ vs) (drop (p + length vs) w) (omega arith) ∙ take_at (take p w) vs p l

  pub hand_kept : (w w' : List ℕ) (b : List Atom) → take (6 * (base + n)) w' ≡ take (6 * (base + n)) w → InHand w base n b → InHand w' base n b
  hand_kept w w' b e i =
      let q : take (6 * base) w' ≡ take (6 * base) w =
      sym (take-take (6 * base) (6 * (base + n)) w' (omega arith)) ∙ ap (take (6 * base)) e ∙ take-take (6 * base) (6 * (base + n)) w (omega arith) in
      record { long = i.long; are = e ∙ i.are ∙ ap (λ (t : List ℕ). t ++ flat b) (sym q) }

  pub hand_more : (w w' : List ℕ) (b : List Atom) (x : Atom) → w' ≡ sets w (6 * (base + n)) (six x) → 6 * (base + n) + 6 ≤ length w → InHand w base n b
      → InHand w' base (n + 1) (b ++ (x ∷ []))
  unfolding flat
  hand_more w w' b x e h i =
      let p : ℕ = 6 * (base + n) in
      let f : take p w' ≡ take p w = put_frame w w' (six x) p e (omega arith) in
      let q : take (6 * base) w' ≡ take (6 * base) w =
      sym (take-take (6 * base) p w' (omega arith)) ∙ ap (take (6 * base)) f ∙ take-take (6 * base) p w (omega arith) in
      let l : length (take p w) ≡ p = length-take-le p w (omega arith) in
      let m : length (take p w ++ six x) ≡ 6 * (base + (n + 1)) = length-append (take p w) (six x) ∙ omega arith in
      let t : take (6 * (base + (n + 1))) w' ≡ take p w ++ six x =
      ap (take (6 * (base + (n + 1)))) (e ∙ sets-eq (six x) w p (omega arith)) ∙ take_at (take p w ++ six x) (drop (p + length (six x)) w) (6 * (base + (n + 1))) m in
      let g : flat (b ++ (x ∷ [])) ≡ flat b ++ six x = flat_append b (x ∷ []) ∙ ap (λ (z : List ℕ). flat b ++ z) (append-nil (six x)) in
      let la = length-append b (x ∷ []) in
      let lo = i.long in
      record {
        long = omega arith;
        are = t ∙ ap (λ (z : List ℕ). z ++ six x) i.are ∙ append_assoc (take (6 * base) w) (flat b) (six x)
            ∙ rw (q, g) refl;
      }

  -- in hand, and in the words
  pub hand_at_lem : (w : List ℕ) (b : List Atom) → InHand w base n b → 6 * base ≤ length w → At w (6 * base) (flat b)
  hand_at_lem w b I fit =
      let l : length (take (6 * base) w) ≡ 6 * base = length-take-le (6 * base) w fit in
      let f : length (flat b) ≡ 6 * n = flat_long b ∙ omega (arith, I.long) in
      let s : 6 * base + length (flat b) ≡ 6 * (base + n) = omega arith in
      let e : take (6 * base) w ++ take (length (flat b)) (drop (6 * base) w) ≡ take (6 * base) w ++ flat b =
      sym (take-add (6 * base) (length (flat b)) w) ∙ rw s I.are in
      sym (drop_at (take (6 * base) w) (take (length (flat b)) (drop (6 * base) w)) (6 * base) l) ∙ ap (drop (6 * base)) e ∙ drop_at (take (6 * base) w) (flat b) (6 * base) l

  -- two runs, the one after the other
  pub hand_join : (w : List ℕ) (b : List Atom) (m : ℕ) (c : List Atom) → InHand w base n b → InHand w (base + n) m c → InHand w base (n + m) (b ++ c)
  hand_join w b m c I J =
      let la = length-append b c in
      let e : base + (n + m) ≡ base + n + m = omega arith in
      record {
        long = omega (arith, la, I.long, J.long);
        are = ap (λ (j : ℕ). take (6 * j) w) e ∙ J.are ∙ rw (I.are, flat_append b c) (append_assoc (take (6 * base) w) (flat b) (flat c));
      }

  -- the body and the head in hand, each by itself
  module _ (m : ℕ) (w : List ℕ) (b h : List Atom) (fit : 6 * base ≤ length w) (e : n ≡ length b) (i : InHand w base (n + m) (b ++ h)) where
    pub hand_body : InHand w base n b
    hand_body =
        let p : ℕ = 6 * (base + n) in
        let q : ℕ = 6 * (base + (n + m)) in
        let l : length (take (6 * base) w ++ flat b) ≡ p = omega (arith, length-append (take (6 * base) w) (flat b), length-take-le (6 * base) w fit, flat_long b) in
        record {
          long = e;
          are = sym (take-take p q w (omega arith))
              ∙ ap (take p) (i.are ∙ ap (λ (t : List ℕ). take (6 * base) w ++ t) (flat_append b h) ∙ sym (append_assoc (take (6 * base) w) (flat b) (flat h)))
              ∙ take_at (take (6 * base) w ++ flat b) (flat h) p l;
        }

    pub hand_head : InHand w (base + n) m h
    hand_head =
        let z : base + n + m ≡ base + (n + m) = omega arith in
        let lo = i.long in
        record {
          long = omega (arith, length-append b h);
          are = rw z i.are ∙ ap (λ (t : List ℕ). take (6 * base) w ++ t) (flat_append b h) ∙ sym (append_assoc (take (6 * base) w) (flat b) (flat h)) ∙ ap (λ (t : List ℕ). t ++ flat h) (sym hand_body.are);
        }

  -- what `&s[24 * base..to]` is
  pub hand_run : (s : List ℕ) (b : List Atom) (to : ℕ) → to ≡ 24 * (base + n) → to ≤ length s → InHand (words s) base n b → Run (take (to - 24 * base) (drop (24 * base) s)) b
  hand_run s b to et h i = part_run s base n to b et h i.long (hand_at_lem (words s) b i (omega (arith, length_words s)))

  -- and no head
  pub hand_none : (w : List ℕ) (b : List Atom) → InHand w base n b → InHand w base (n + 0) (b ++ [])
  hand_none w b i = let e : n + 0 ≡ n = omega arith in rw (e, append-nil b) i
