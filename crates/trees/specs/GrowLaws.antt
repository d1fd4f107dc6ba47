-- Round after round, until one places no atom. Assumes nothing.
use Rattle.std.specs.Prelude.{Bool, true, false, ◌≡◌, refl, List, [], ◌∷◌, length, take, drop, replicate}
use Rattle.std.proofs.Common.{sym, ◌∙◌, arith, take-take}
use Rattle.std.proofs.Math.Path.{ap}
use Prim.Native.Nat.{ℕ, zero, suc, ◌+◌, ◌*◌, ◌-◌, ◌≤◌, ◌<◌}
use Rattle.ir.specs.declared.atom.Atom.{Atom}
use Rattle.rules.specs.Run.{flat}
use Rattle.rules.specs.DecodeLaws.{flat_long}
use Rattle.rules.specs.Branches.{Tree, scanned, rescan, tree_by, tree_of, unplaced}
use Rattle.branches.specs.Layout.{bound_at}
use Rattle.branches.specs.Wide.{AtomsAre}
use Rattle.trees.specs.Growth.{one, trues, Kept, Growing, Rounded, Grown}
use Rattle.trees.specs.FlagLaws.{trues_most}
use Rattle.trees.specs.RoundLaws.{kept_same, kept_then}

-- ---- atoms that stay
part_of : (n i k : ℕ) (w : List ℕ) → i + n ≤ k → take n (drop i w) ≡ take n (drop i (take k w))
part_of n zero k w h = sym (take-take n k w (omega arith))
part_of n (suc i) zero w h = absurd (omega arith)
part_of n (suc i) (suc k) [] h = refl
part_of n (suc i) (suc k) (x ∷ w) h = part_of n i k w (omega arith)

pub atoms_kept : (w x : List ℕ) (base count : ℕ) (l : List Atom) → Kept w x → 6 * (base + count) ≤ bound_at → AtomsAre w base count l → AtomsAre x base count l
atoms_kept w x base count l k h A =
    let n = length (flat l) in
    let g : 6 * base + length (flat l) ≤ bound_at = omega (arith, flat_long l, A.long) in
    record {
      long = A.long;
      there = part_of n (6 * base) bound_at x g ∙ ap (λ (y : List ℕ). take n (drop (6 * base) y)) k.front ∙ sym (part_of n (6 * base) bound_at w g) ∙ A.there;
    }

-- ---- before a round, or after the last
pub record Risen (w : List ℕ) (flags : List Bool) (root count n : ℕ) (more : Bool) (l : List Atom) : Type 0 where
  pub now : Tree
  pub fuel : ℕ
  pub growing : Growing w root n now.bound now.parents
  pub placed : now.placed ≡ take count flags
  pub left : tree_of l root ≡ rescan (λ k. tree_by fuel l k) now more
  pub enough : count + one more ≤ fuel + trues (take count flags)

pub record Rising (w0 : List ℕ) (base count : ℕ) (w : List ℕ) (flags : List Bool) (n : ℕ) (more : Bool) : Type 0 where
  pub rule : (root : ℕ) (l : List Atom) → AtomsAre w0 base count l → Growing w0 root 1 (root ∷ []) [] → Risen w flags root count n more l
  pub kept : Kept w0 w
  pub few : n ≤ 1 + trues (take count flags)

unplaced_is : (l : List Atom) → unplaced l ≡ replicate (length l) false
unfolding unplaced
unplaced_is [] = refl
unplaced_is (a ∷ l) = ap (λ (m : List Bool). false ∷ m) (unplaced_is l)

pub rising_start : (w : List ℕ) (flags : List Bool) (base count : ℕ) → take count flags ≡ replicate count false → Rising w base count w flags 1 true
rising_start w flags base count e = record {
  rule = λ root l A G. record {
    now = record { bound = root ∷ []; parents = []; placed = unplaced l; progressed = false };
    fuel = suc (length l);
    growing = G;
    placed = unplaced_is l ∙ rw (← A.long) (sym e);
    left = refl;
    enough = omega (arith, A.long);
  };
  kept = kept_same w;
  few = omega arith;
}

module _ (w0 : List ℕ) (base count : ℕ) (w : List ℕ) (flags : List Bool) (n : ℕ) (more : Bool) (W : Rising w0 base count w flags n more) where
  module _ (on : more ≡ true) (inside : 6 * (base + count) ≤ bound_at)
      (n' : ℕ) (more' : Bool) (w' : List ℕ) (flags' : List Bool) (R : Rounded w flags base count n n' more' w' flags') where
    tree_step : (f root : ℕ) (l : List Atom) (t : Tree) → AtomsAre w0 base count l → Growing w root n t.bound t.parents → t.placed ≡ take count flags
        → tree_of l root ≡ rescan (λ k. tree_by f l k) t more → count + one more ≤ f + trues (take count flags) → Risen w' flags' root count n' more' l
    unfolding tree_by
    tree_step zero root l t A G p e h = absurd (omega (arith, trues_most count flags, ap one on))
    tree_step (suc f) root l t A G p e h =
        let M = R.rule root t l (atoms_kept w0 w base count l W.kept inside A) G p in
        record {
          now = scanned l t;
          fuel = f;
          growing = M.growing;
          placed = M.placed;
          left = e ∙ ap (λ (b : Bool). rescan (λ k. tree_by (suc f) l k) t b) on ∙ ap (λ (b : Bool). rescan (λ k. tree_by f l k) (scanned l t) b) M.progressed;
          enough = omega (arith, R.up, ap one on);
        }

    pub rising_next : Rising w0 base count w' flags' n' more'
    rising_next = record {
      rule = λ root l A G. let k = W.rule root l A G in tree_step k.fuel root l k.now A k.growing k.placed k.left k.enough;
      kept = kept_then W.kept R.kept;
      few = R.few;
    }

    -- what is left falls
    pub rising_less : more' ≡ true → count - trues (take count flags') < count - trues (take count flags)
    rising_less e = omega (arith, R.up, ap one e, trues_most count flags')

  pub rising_end : more ≡ false → count ≤ 256 → Grown w0 base count n w flags
  rising_end off h = record {
    rule = λ root l A G. let k = W.rule root l A G in rw (k.left, off) (k.growing, k.placed);
    kept = W.kept;
    few = omega (arith, W.few, trues_most count flags);
  }
