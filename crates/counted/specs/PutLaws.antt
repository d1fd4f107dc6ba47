-- A loop in hand: a part of the atom table, and two atoms behind it. Assumes nothing.
use Rattle.std.specs.Prelude.{◌≡◌, List, [], ◌∷◌, ◌++◌, ℕ, ◌+◌, ◌*◌, ◌/◌, ◌≤◌, length, take, drop}
use Rattle.std.proofs.Common.{sym, ap, ◌∙◌, arith, length-append, length-take-le, take_at}
use Rattle.std.proofs.lemmas.List.Edits.{sets, sets-eq}
use Rattle.std.proofs.Math.Seq.{length-sets}
use Rattle.words.specs.Words.{words}
use Rattle.words.specs.Laws.{length_words, frame_less}
use Rattle.ir.specs.Records.{six}
use Rattle.ir.specs.declared.role.Role.{Role}
use Rattle.ir.specs.declared.atom.Atom.{Atom}
use Rattle.ir.specs.declared.atom.Atom.TheVariants.{Role as RoleAtom}
use Rattle.rules.specs.Run.{flat}
use Rattle.rules.specs.DecodeLaws.{flat_long}
use Rattle.hands.specs.Hands.{InHand}
use Rattle.hands.specs.HandLaws.{put_frame, hand_more}
use Rattle.contraction.specs.InHands.{hand_at}
use Rattle.tables.specs.Tabled.{Run, RunThere}

pub hand_put : (w w' : List ℕ) (base n : ℕ) (b : List Atom) → n ≡ length b → w' ≡ sets w (6 * base) (flat b) → 6 * (base + n) ≤ length w → InHand w' base n b
hand_put w w' base n b en e fit =
    let lf : length (flat b) ≡ 6 * length b = flat_long b in
    let l : length (take (6 * base) w) ≡ 6 * base = length-take-le (6 * base) w (omega arith) in
    let z : w' ≡ (take (6 * base) w ++ flat b) ++ drop (6 * base + length (flat b)) w = e ∙ sets-eq (flat b) w (6 * base) (omega arith) in
    let la = length-append (take (6 * base) w) (flat b) in
    let t1 : take (6 * (base + n)) w' ≡ take (6 * base) w ++ flat b = ap (take (6 * (base + n))) z ∙ take_at (take (6 * base) w ++ flat b) (drop (6 * base + length (flat b)) w) (6 * (base + n)) (omega arith) in
    let t2 : take (6 * base) w' ≡ take (6 * base) w = put_frame base n w w' (flat b) (6 * base) e (omega arith) in
    record { long = en; are = t1 ∙ ap (λ (u : List ℕ). u ++ flat b) (sym t2) }

-- ---- the part s, R(v, fresh) and R(v, v)
module _ (s w w1 w2 w3 : List ℕ) (nb v fresh : ℕ) (r : Role) (en : nb ≡ length s / 24) (fit : 6 * (hand_at + nb + 2) ≤ length w)
    (e1 : w1 ≡ sets w (6 * hand_at) (words s)) (e2 : w2 ≡ sets w1 (6 * (hand_at + nb)) (six (RoleAtom r v fresh))) (e3 : w3 ≡ sets w2 (6 * (hand_at + nb + 1)) (six (RoleAtom r v v))) where
  l1 : length w1 ≡ length w
  l1 = ap length e1 ∙ length-sets w (6 * hand_at) (words s)

  l2 : length w2 ≡ length w
  l2 = ap length e2 ∙ length-sets w1 (6 * (hand_at + nb)) (six (RoleAtom r v fresh)) ∙ l1

  pub loop_hand : (b : List Atom) → Run s b → InHand w3 hand_at (length b + 1 + 1) ((b ++ (RoleAtom r v fresh ∷ [])) ++ (RoleAtom r v v ∷ []))
  loop_hand b R =
      let x : Atom = RoleAtom r v fresh in
      let y : Atom = RoleAtom r v v in
      let n : length b ≡ nb = omega (arith, R.long) in
      let a : w1 ≡ sets w (6 * hand_at) (flat b) = e1 ∙ ap (sets w (6 * hand_at)) R.are in
      let i1 : InHand w1 hand_at nb b = hand_put w w1 hand_at nb b (sym n) a (omega arith) in
      let i2 : InHand w2 hand_at (nb + 1) (b ++ (x ∷ [])) = hand_more hand_at nb w1 w2 b x e2 (omega (arith, l1)) i1 in
      let q : hand_at + (nb + 1) ≡ hand_at + nb + 1 = omega arith in
      rw n (hand_more hand_at (nb + 1) w2 w3 (b ++ (x ∷ [])) y (rw q e3) (omega (arith, l2)) i2)

  pub loop_frame : RunThere s → take (6 * hand_at) w3 ≡ take (6 * hand_at) w
  loop_frame T =
      let k : length (words s) ≡ 6 * nb = length_words s ∙ omega (arith, T.run.long) in
      let f1 : take (6 * hand_at) w1 ≡ take (6 * hand_at) w = put_frame hand_at nb w w1 (words s) (6 * hand_at) e1 (omega arith) in
      let f2 : take (6 * (hand_at + nb)) w2 ≡ take (6 * (hand_at + nb)) w1 = put_frame hand_at nb w1 w2 (six (RoleAtom r v fresh)) (6 * (hand_at + nb)) e2 (omega (arith, l1)) in
      let f3 : take (6 * (hand_at + nb + 1)) w3 ≡ take (6 * (hand_at + nb + 1)) w2 = put_frame hand_at nb w2 w3 (six (RoleAtom r v v)) (6 * (hand_at + nb + 1)) e3 (omega (arith, l2)) in
      frame_less (6 * hand_at) (6 * (hand_at + nb + 1)) w2 w3 (omega arith) f3 ∙ frame_less (6 * hand_at) (6 * (hand_at + nb)) w1 w2 (omega arith) f2 ∙ f1
