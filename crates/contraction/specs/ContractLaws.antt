-- A clause contracted in hand: its atoms one after the other, and the three runs together. Assumes nothing.
use Rattle.std.specs.Prelude.{◌≡◌, ℕ, ◌+◌, ◌*◌, ◌-◌, ◌/◌, ◌<◌, ◌≤◌, take}
use Rattle.std.proofs.Math.Path.{refl}
use Rattle.std.proofs.Common.{sym, ap, subst, ◌∙◌, add-one, take-suc, take-take, take_all}
use mathlib.Core.List.{List, [], ◌∷◌, ◌++◌, map-append, append-nil, append_assoc}
use native.Mathlib.Omega.{arith}
use Rattle.std.proofs.Math.ListN as Lists
use Rattle.std.proofs.Math.ListN.{length, get_or, length-append, length-map}
use Rattle.std.proofs.lemmas.List.Edits.{sets}
use Rattle.words.specs.Words.{words}
use Rattle.words.specs.Laws.{frame_less}
use Rattle.ir.specs.Atoms.{substitute_atom, replaced}
use Rattle.ir.specs.Records.{six, Fits, atom_at}
use Rattle.ir.specs.Scratch.{hands_at}
use Rattle.ir.specs.declared.role.Role.{Role}
use Rattle.ir.specs.declared.atom.Atom.{Atom}
use Rattle.ir.specs.declared.atom.Atom.TheVariants.{Class, Exists, AtMost, AtLeast, Equal, Role as RoleAtom}
use Rattle.ir.specs.Records.{Read}
use Rattle.std.specs.Prelude.{None, Some}
use Rattle.rules.specs.Run.{flat}
use Rattle.rules.specs.DecodeLaws.{flat_long}
use Rattle.rules.specs.Reflexive.{substituted, kept_var, dropped_var, contracted}
use Rattle.tables.specs.Tabled.{At, Run}
use Rattle.tables.specs.AtomLaws.{no_atom, read_is, source_is, target_is, run_nth, run_behind, run_front, run_back}
use Rattle.hands.specs.Hands.{InHand}
use Rattle.hands.specs.HandLaws.{put_frame, hand_kept, hand_more, hand_join}
use Rattle.contraction.specs.InHands.{hand_at, ClauseInHand, AtomThere, PlainRun}
use Rattle.contraction.specs.PlainLaws.{plain_nth}
use Rattle.contraction.specs.Contracting.{Substituted, PutAt}

pub fits_substituted : (x : Atom) (f : ℕ → ℕ) → Fits x → Fits (substitute_atom x f)
fits_substituted (Class k v) f h = h
fits_substituted (RoleAtom r u v) f h = h
fits_substituted (Exists r k v) f h = h
fits_substituted (AtMost r q n v) f h = h
fits_substituted (AtLeast r q n v) f h = h
fits_substituted (Equal u v) f h = h

-- an atom, as it was read
module _ (w : List ℕ) (i : ℕ) (A : AtomThere w i) (r : Read) (e : r ≡ atom_at w i) where
  pub read_fits : (y : Atom) → r ≡ Some y → Fits y
  read_fits y f =
      let g : Some A.atom ≡ Some y = sym (read_is w i A.atom A.there) ∙ sym e ∙ f in
      let q : A.atom ≡ y = cc in
      subst Fits q A.plain.fits

  pub read_none : r ≡ None → ⊥
  read_none f = let g : Some A.atom ≡ None = sym (read_is w i A.atom A.there) ∙ sym e ∙ f in let z : ◌≡◌ {A = ℕ} 0 1 = cc in omega arith

  pub read_same : (x y : Atom) → At w (6 * i) (six x) → r ≡ Some y → y ≡ x
  read_same x y h f = let g : Some x ≡ Some y = sym (read_is w i x h) ∙ sym e ∙ f in cc

-- ---- one run of atoms
module _ (s : List ℕ) (to drop keep : ℕ) (w₀ : List ℕ) where
  pub put_start : PutAt s to drop keep w₀ w₀ 0
  unfolding flat
  put_start = record {
    within = omega arith;
    frame = refl;
    so = λ l R. let z : to + 0 ≡ to = omega arith in record { long = refl; are = rw (z, append-nil (take (6 * to) w₀)) refl };
  }

  pub put_end : (w : List ℕ) (i : ℕ) → PutAt s to drop keep w₀ w i → length s / 24 ≤ i → Substituted s to drop keep w
  put_end w i A h l R =
      let q : i ≡ length l = omega (arith, h, A.within, R.long) in
      let t : take i l ≡ l = take_all i l (omega arith) in
      rw (t, q) at (A.so l R)

  module _ (w : List ℕ) (i : ℕ) (A : PutAt s to drop keep w₀ w i) (lt : i < length s / 24) (P : PlainRun s) (fit : 6 * (to + i) + 6 ≤ length w) (w' : List ℕ)
      (put : (x : Atom) → At (words s) (6 * i) (six x) → w' ≡ sets w (6 * (to + i)) (six (substitute_atom x (replaced drop keep)))) where
    next_frame : take (6 * (to + i)) w' ≡ take (6 * (to + i)) w
    next_frame = let X = plain_nth s P i lt in put_frame to i w w' (six (substitute_atom X.atom (replaced drop keep))) (6 * (to + i)) (put X.atom X.there) (omega arith)

    pub put_next : PutAt s to drop keep w₀ w' (i + 1)
    put_next = record {
      within = omega arith;
      frame = sym (take-take (6 * to) (6 * (to + i)) w' (omega arith)) ∙ ap (take (6 * to)) next_frame ∙ take-take (6 * to) (6 * (to + i)) w (omega arith) ∙ A.frame;
      so = λ l R.
          let x : Atom = get_or l i no_atom in
          let h : i < length l = omega (arith, R.long) in
          let t : take (i + 1) l ≡ take i l ++ (x ∷ []) = rw (add-one i) (take-suc l i no_atom h) in
          let e : substituted drop keep (take (i + 1) l) ≡ substituted drop keep (take i l) ++ (substitute_atom x (replaced drop keep) ∷ []) =
          ap (substituted drop keep) t ∙ map-append (λ (y : Atom). substitute_atom y (replaced drop keep)) (take i l) (x ∷ []) in
          rw e (hand_more to i w w' (substituted drop keep (take i l)) (substitute_atom x (replaced drop keep)) (put x (run_nth s l i R h)) fit (A.so l R));
    }

-- ---- the three runs: the body's atoms before atom i, those behind it, and the head's
module _ (s t : List ℕ) (i last drop keep : ℕ) (el : last ≡ length s / 24 - 1) (lt : 24 * i < length s) (w w1 w2 w3 : List ℕ)
    (f1 : take (6 * hand_at) w1 ≡ take (6 * hand_at) w) (s1 : Substituted (take (24 * i) s) hand_at drop keep w1)
    (f2 : take (6 * (hand_at + i)) w2 ≡ take (6 * (hand_at + i)) w1) (s2 : Substituted (take (length s - (24 * i + 24)) (Lists.drop (24 * i + 24) s)) (hand_at + i) drop keep w2)
    (f3 : take (6 * (hand_at + last)) w3 ≡ take (6 * (hand_at + last)) w2) (s3 : Substituted t (hand_at + last) drop keep w3) where
  pub contract_frame : take hands_at w3 ≡ take hands_at w
  contract_frame = frame_less hands_at (6 * (hand_at + last)) w2 w3 (omega arith) f3 ∙ frame_less hands_at (6 * (hand_at + i)) w1 w2 (omega arith) f2 ∙ f1

  module _ (before after heads : List Atom) (r : Role) (src tgt : ℕ) (S : Run s (before ++ (RoleAtom r src tgt ∷ after))) (T : Run t heads) (eb : i ≡ length before) where
    role : At (words s) (6 * i) (six (RoleAtom r src tgt))
    role = run_behind s before after (RoleAtom r src tgt) i S eb

    front : Run (take (24 * i) s) before
    front = run_front s before (RoleAtom r src tgt ∷ after) S (24 * i) (omega (arith, flat_long before))

    back : Run (take (length s - (24 * i + 24)) (Lists.drop (24 * i + 24) s)) after
    back =
        let e : (before ++ (RoleAtom r src tgt ∷ [])) ++ after ≡ before ++ (RoleAtom r src tgt ∷ after) = append_assoc before (RoleAtom r src tgt ∷ []) after in
        let l = length-append before (RoleAtom r src tgt ∷ []) in
        run_back s (before ++ (RoleAtom r src tgt ∷ [])) after (rw e S) (24 * i + 24) (omega (arith, flat_long (before ++ (RoleAtom r src tgt ∷ []))))

    put : List Atom → List Atom
    put l = substituted drop keep l

    hands : InHand w3 hand_at (length before + length after + length heads) ((put before ++ put after) ++ put heads)
    unfolding put
    hands =
        let n : last ≡ i + length after = omega (arith, S.long, length-append before (RoleAtom r src tgt ∷ after)) in
        let b : InHand w1 hand_at i (put before) = rw eb (s1 before front) in
        let c : InHand w2 hand_at (i + length after) (put before ++ put after) = hand_join hand_at i w2 (put before) (length after) (put after) (hand_kept hand_at i w1 w2 (put before) f2 b) (s2 after back) in
        rw (← eb) (hand_join hand_at (i + length after) w3 (put before ++ put after) (length heads) (put heads) (hand_kept hand_at (i + length after) w2 w3 (put before ++ put after) (rw (← n) f3) c) (rw (← n) (s3 heads T)))

    pub contract_is : drop ≡ dropped_var (get_or (words s) (6 * i + 4) 0) (get_or (words s) (6 * i + 5) 0) → keep ≡ kept_var (get_or (words s) (6 * i + 4) 0) (get_or (words s) (6 * i + 5) 0)
        → ClauseInHand w3 (length before + length after) (length heads) (contracted before after heads src tgt)
    unfolding put
    contract_is ed ek =
        let es : get_or (words s) (6 * i + 4) 0 ≡ src = source_is (words s) i (RoleAtom r src tgt) role in
        let et : get_or (words s) (6 * i + 5) 0 ≡ tgt = target_is (words s) i (RoleAtom r src tgt) role in
        let d : drop ≡ dropped_var src tgt = ed ∙ rw (es, et) refl in
        let k : keep ≡ kept_var src tgt = ek ∙ rw (es, et) refl in
        let m : put (before ++ after) ≡ put before ++ put after = map-append (λ (y : Atom). substitute_atom y (replaced drop keep)) before after in
        let l : length (put (before ++ after)) ≡ length (before ++ after) = length-map (before ++ after) (λ (y : Atom). substitute_atom y (replaced drop keep)) in
        let g : length (put heads) ≡ length heads = length-map heads (λ (y : Atom). substitute_atom y (replaced drop keep)) in
        let la = length-append before after in
        rw (← d, ← k) (record { body = omega arith; head = omega arith; hand = rw m hands })
