-- One child of the root: its atoms stay, or its name stands for them. Assumes nothing.
use Rattle.std.specs.Prelude.{Bool, true, false, Ok, Err, ◌≡◌, refl, List, [], ◌∷◌, ◌++◌, ℕ, ◌+◌, ◌*◌, ◌≤◌, ◌<◌, length, get_or, take, drop}
use Rattle.std.proofs.Common.{ap, ◌∙◌, arith}
use Rattle.std.proofs.lemmas.List.Edits.{sets}
use Rattle.std.proofs.Math.Seq.{length-sets}
use Rattle.words.specs.Runs.{get_d_sets_after, get_d_sets_before}
use Rattle.ir.specs.Records.{six}
use Rattle.ir.specs.declared.atom.Atom.{Atom}
use Rattle.ir.specs.declared.refusal.Refusal.{Refusal}
use Rattle.ir.specs.declared.atom.Atom.TheVariants.{Class}
use Rattle.rules.specs.Base.{Res, ok, refused, then}
use Rattle.rules.specs.Run.{flat}
use Rattle.rules.specs.DecodeLaws.{flat_long, flat_append}
use Rattle.rules.specs.EachLaws.{each_append}
use Rattle.rules.specs.Branches.{mentions}
use Rattle.rules.specs.Branches as Rules
use Rattle.tables.specs.TabledLaws.{At}
use Rattle.branches.specs.Layout.{body_at, copy_at, work_words}
use Rattle.branches.specs.Wide.{AtomsAre}
use Rattle.branches.specs.Memo.{Tame, NamedHeld}
use Rattle.naming.specs.Names.{OnlyNames}
use Rattle.naming.specs.Splits.{group_rule, Called, CalledBy, child_of, Standing, Onward, TurnedBy}
use Rattle.branches.specs.InsertLaws.{at_join, at_here, at_below, at_above}
use Rattle.naming.specs.AgreeLaws.{flat_stay, named_stay}
use Rattle.branches.specs.declared.memo.Naming.{Naming}

-- ---- what a child's name is asked of
module _ (w : List ℕ) (base count q p c : ℕ) (result group rest : List Atom) (s : Naming) (z : Rules.Naming) (D : Standing w base count q p c result group rest s z) where
  pub child_are : AtomsAre w p c group
  child_are = record { long = D.many; there = D.child }

  pub child_high : p + c ≤ copy_at
  child_high = omega (arith, D.all, D.high)

-- ---- atoms put behind the result
module _ (w w' : List ℕ) (base count q p : ℕ) (result added rest : List Atom) (e : w' ≡ sets w (6 * q) (flat added)) (here : q ≡ base + length result)
    (fit : q + length added ≤ p) (all : p + length rest ≡ base + count) (low : body_at ≤ base) (high : base + count ≤ copy_at) (long : work_words ≤ length w) where
  put_long : length w' ≡ length w
  put_long = ap length e ∙ length-sets w (6 * q) (flat added)

  la : length (flat added) ≡ 6 * length added
  la = flat_long added

  put_done : At w (6 * base) (flat result) → At w' (6 * base) (flat (result ++ added))
  put_done a =
      rw (e, flat_append result added)
      (at_join (sets w (6 * q) (flat added)) (6 * base) (6 * q) (flat result) (flat added)
      (at_below w (6 * base) (flat result) (6 * q) (flat added) a (omega (arith, flat_long result)))
      (omega (arith, flat_long result))
      (at_here w (6 * q) (flat added) (omega (arith, la))))

  put_left : At w (6 * p) (flat rest) → At w' (6 * p) (flat rest)
  put_left a = rw e (at_above w (6 * p) (flat rest) (6 * q) (flat added) a (omega (arith, la)))

  put_before : (j : ℕ) → j < 6 * q → get_or w' j 0 ≡ get_or w j 0
  put_before j h = ap (λ (x : List ℕ). get_or x j 0) e ∙ get_d_sets_before (flat added) w (6 * q) j 0 h

  put_after : (j : ℕ) → 6 * p ≤ j → get_or w' j 0 ≡ get_or w j 0
  put_after j h = ap (λ (x : List ℕ). get_or x j 0) e ∙ get_d_sets_after (flat added) w (6 * q) j 0 (omega (arith, la))

  put_held : (s : Naming) (z : Rules.Naming) → NamedHeld w s z → NamedHeld w' s z
  put_held s z H = named_stay w w' put_long s z (λ j h. put_before j (omega arith)) H

  put_only : OnlyNames base count w w'
  put_only = record {
    before = λ j a b. put_before j (omega arith);
    between = λ j a b. put_after j (omega arith);
    keep = λ j a b. put_after j (omega arith);
  }

-- ---- a child that stays
module _ (w w' : List ℕ) (base count q p c : ℕ) (result group rest : List Atom) (s : Naming) (z : Rules.Naming) (D : Standing w base count q p c result group rest s z)
    (long : work_words ≤ length w) (e : w' ≡ sets w (6 * q) (take (6 * c) (drop (6 * p) w))) where
  stay_put : w' ≡ sets w (6 * q) (flat group)
  stay_put =
      let n : 6 * c ≡ length (flat group) = omega (arith, flat_long group, D.many) in
      e ∙ ap (λ (k : ℕ). sets w (6 * q) (take k (drop (6 * p) w))) n ∙ ap (λ (x : List ℕ). sets w (6 * q) x) D.child

  fit_stay : q + length group ≤ p + c
  fit_stay = omega (arith, D.many, D.below)

  pub stay_only : OnlyNames base count w w'
  stay_only = put_only w w' base count q (p + c) result group rest stay_put D.here fit_stay D.all D.low D.high long

  pub stay_turned : (f root t : ℕ) (any : Bool) (kept : List ℕ) → mentions kept group ≡ true
      → TurnedBy w' base q (p + c) result rest s (child_of f root t group any (mentions kept group) z) (Ok (record { naming = s; end = q + c; any = any }))
  stay_turned f root t any kept h = rw h (record {
    here = omega (arith, D.many);
    below = omega (arith, D.below);
    named = refl;
    done = put_done w w' base count q (p + c) result group rest stay_put D.here fit_stay D.all D.low D.high long D.done;
    left = put_left w w' base count q (p + c) result group rest stay_put D.here fit_stay D.all D.low D.high long D.left;
    tame = each_append Tame result group D.tame_done D.tame_child;
    held = put_held w w' base count q (p + c) result group rest stay_put D.here fit_stay D.all D.low D.high long s z D.held;
    first = refl;
    quiet = λ b. refl;
  })

-- ---- a child that is named: w1 after its name, w' with it
flat_one : (a : Atom) → six a ≡ flat (a ∷ [])
unfolding flat
flat_one a = refl

module _ (w w1 : List ℕ) (base count q p c : ℕ) (result group rest : List Atom) (s : Naming) (z : Rules.Naming) (D : Standing w base count q p c result group rest s z)
    (long1 : length w1 ≡ length w) (O : OnlyNames p c w w1) where
  pub turn_full : (f root t : ℕ) (any : Bool) (kept : List ℕ) (x : Refusal) → mentions kept group ≡ false → CalledBy w1 root s (group_rule f group root t z) (Err x)
      → TurnedBy w1 base q (p + c) result rest s (child_of f root t group any (mentions kept group) z) (Err x)
  turn_full f root t any kept x h C = rw h (go (group_rule f group root t z) C)
    where
      go : (o : Res Rules.Naming Atom) → CalledBy w1 root s o (Err x) → TurnedBy w1 base q (p + c) result rest s (then o (λ a y. ok (a ∷ [], true) y)) (Err x)
      go (ok a y) F = F
      go (refused k) F = absurd F

  module _ (w' : List ℕ) (long : work_words ≤ length w) (m : Naming) (e root : ℕ) (put : w' ≡ sets w1 (6 * q) (six (Class e root))) where
    call_put : w' ≡ sets w1 (6 * q) (flat (Class e root ∷ []))
    call_put = put ∙ ap (λ (x : List ℕ). sets w1 (6 * q) x) (flat_one (Class e root))

    fit_call : q + 1 ≤ p + c
    fit_call = omega (arith, D.below, D.filled)

    long_call : work_words ≤ length w1
    long_call = omega (arith, long, long1)

    done_call : At w1 (6 * base) (flat result)
    done_call = flat_stay w w1 long1 base result (λ j a b. O.before j (omega (arith, D.low)) (omega (arith, D.here, D.below))) D.done

    left_call : At w1 (6 * (p + c)) (flat rest)
    left_call = flat_stay w w1 long1 (p + c) rest (λ j a b. O.between j a (omega (arith, D.all, D.high))) D.left

    pub call_turned : (f t : ℕ) (any : Bool) (kept : List ℕ) → mentions kept group ≡ false → CalledBy w1 root s (group_rule f group root t z) (Ok (m, e))
        → TurnedBy w' base q (p + c) result rest s (child_of f root t group any (mentions kept group) z) (Ok (record { naming = m; end = q + 1; any = true }))
    call_turned f t any kept h C = rw h (go (group_rule f group root t z) C)
      where
        named : (y : Rules.Naming) (a : Atom) → a ≡ Class e root → Called w1 root s a y m e → Onward w' base q (p + c) result rest s (a ∷ []) true y m (q + 1) true
        named y a i K = rw i (record {
          here = refl;
          below = fit_call;
          named = refl;
          done = put_done w1 w' base count q (p + c) result (Class e root ∷ []) rest call_put D.here fit_call D.all D.low D.high long_call done_call;
          left = put_left w1 w' base count q (p + c) result (Class e root ∷ []) rest call_put D.here fit_call D.all D.low D.high long_call left_call;
          tame = each_append Tame result (Class e root ∷ []) D.tame_done (K.small, tt);
          held = put_held w1 w' base count q (p + c) result (Class e root ∷ []) rest call_put D.here fit_call D.all D.low D.high long_call m y K.held;
          first = K.first;
          quiet = λ (b : true ≡ false). absurd (let k : ◌≡◌ {A = ℕ} 0 1 = cc in omega arith);
        })

        go : (o : Res Rules.Naming Atom) → CalledBy w1 root s o (Ok (m, e)) → TurnedBy w' base q (p + c) result rest s (then o (λ a y. ok (a ∷ [], true) y)) (Ok (record { naming = m; end = q + 1; any = true }))
        go (ok a y) K = named y a K.is K
        go (refused k) K = absurd K

pub called_small : (w : List ℕ) (root : ℕ) (s : Naming) (o : Res Rules.Naming Atom) (m : Naming) (e : ℕ) → CalledBy w root s o (Ok (m, e)) → e < 2097152
called_small w root s (ok a y) m e K = K.small
called_small w root s (refused k) m e K = absurd K
