-- A round, atom by atom. Assumes nothing.
use Rattle.std.specs.Prelude.{Bool, false, ◌≡◌, ℕ, ◌+◌, ◌*◌, ◌≤◌, ◌<◌, length, get_or, take}
use Rattle.std.proofs.Math.Path.{refl}
use Rattle.std.proofs.Common.{sym, ap, ◌∙◌, arith, get_or-take}
use mathlib.Core.List.{List, [], ◌∷◌}
use Rattle.std.proofs.Math.ListN.{drop, drop_of_length-le}
use Rattle.ir.specs.declared.atom.Atom.{Atom}
use Rattle.rules.specs.Branches.{Tree, scan_atom, scan, scanned}
use Rattle.branches.specs.Layout.{bound_at}
use Rattle.branches.specs.Wide.{AtomsAre}
use Rattle.branches.specs.AtomsLaws.{WordsAre, atom_at_lem}
use Rattle.trees.specs.Growth.{one, trues, Kept, Growing, Midway, Visited, Rounded}
use Rattle.trees.specs.FlagLaws.{trues_room, flags_from, flags_same}

-- ---- words that stay
pub kept_same : (w : List ℕ) → Kept w w
kept_same w = record { front = refl; back = refl }

pub kept_then : {w x y : List ℕ} → Kept w x → Kept x y → Kept w y
kept_then a b = record { front = b.front ∙ a.front; back = b.back ∙ a.back }

pub kept_get : (w x : List ℕ) → Kept w x → (j : ℕ) → j < bound_at → get_or x j 0 ≡ get_or w j 0
kept_get w x k j h = sym (get_or-take bound_at x j 0 h) ∙ ap (λ (l : List ℕ). get_or l j 0) k.front ∙ get_or-take bound_at w j 0 h

words_kept : (w x : List ℕ) (at : ℕ) (a : Atom) → Kept w x → at + 6 ≤ bound_at → WordsAre w at a → WordsAre x at a
words_kept w x at a k h e = record {
  kind = kept_get w x k at (omega arith) ∙ e.kind;
  var = kept_get w x k (at + 4) (omega arith) ∙ e.var;
  other = kept_get w x k (at + 5) (omega arith) ∙ e.other;
}

-- ---- the round before atom j: the rule's tree so far, from which the atoms left make the rule's tree
pub record Reached (w : List ℕ) (flags : List Bool) (root count n : ℕ) (more : Bool) (j : ℕ) (l : List Atom) (t : Tree) : Type 0 where
  pub now : Tree
  pub midway : Midway w flags root j n more now
  pub left : scanned l t ≡ scan now (drop j l) (drop j (take count flags))

pub record Walking (w0 : List ℕ) (flags0 : List Bool) (base count n0 : ℕ) (w : List ℕ) (flags : List Bool) (n : ℕ) (more : Bool) (j : ℕ) : Type 0 where
  pub here : j ≤ count
  pub rule : (root : ℕ) (t : Tree) (l : List Atom) → AtomsAre w0 base count l → Growing w0 root n0 t.bound t.parents → t.placed ≡ take count flags0 → Reached w flags root count n more j l t
  pub kept : Kept w0 w
  pub few : n ≤ 1 + trues (take count flags)
  pub up : trues (take count flags0) + one more ≤ trues (take count flags)

module _ (w0 : List ℕ) (flags0 : List Bool) (base count n0 : ℕ) where
  pub walking_start : n0 ≤ 1 + trues (take count flags0) → Walking w0 flags0 base count n0 w0 flags0 n0 false 0
  walking_start h = record {
    here = omega arith;
    rule = λ root t l A G p. record {
      now = record { bound = t.bound; parents = t.parents; placed = []; progressed = false };
      midway = record { growing = G; placed = refl; progressed = refl };
      left = ap (λ (f : List Bool). scan (record { bound = t.bound; parents = t.parents; placed = []; progressed = false }) l f) p;
    };
    kept = kept_same w0;
    few = h;
    up = omega arith;
  }

  module _ (w : List ℕ) (flags : List Bool) (n : ℕ) (more : Bool) (j : ℕ) (W : Walking w0 flags0 base count n0 w flags n more j) where
    -- an atom that is not placed leaves room for a variable
    pub walking_room : count ≤ 256 → count ≤ length flags → j < count → get_or flags j false ≡ false → n ≤ 256
    walking_room h k g e = omega (arith, trues_room count flags j g k e, W.few)

    module _ (h : j < count) (inside : 6 * (base + count) ≤ bound_at) (long : count ≤ length flags)
        (n' : ℕ) (more' : Bool) (w' : List ℕ) (flags' : List Bool) (S : Visited w flags (6 * (base + j)) j n more n' more' w' flags') where
      scan_one : (t : Tree) (a : Atom) (l m : List Atom) → l ≡ a ∷ m
          → scan t l (drop j (take count flags)) ≡ scan (scan_atom t a (get_or flags j false)) m (drop (j + 1) (take count flags'))
      unfolding scan
      scan_one t a l m e = rw (e, flags_from flags j count h long, flags_same flags flags' (j + 1) count (omega arith) S.rest) refl

      reached_next : (root : ℕ) (t : Tree) (l : List Atom) → AtomsAre w0 base count l → Reached w flags root count n more j l t → Reached w' flags' root count n' more' (j + 1) l t
      reached_next root t l A R =
          let a = atom_at_lem w0 base count j l A h in
          let k = words_kept w0 w (6 * (base + j)) a.atom W.kept (omega arith) a.words in
          record {
            now = scan_atom R.now a.atom (get_or flags j false);
            midway = S.rule root R.now a.atom k R.midway;
            left = R.left ∙ scan_one R.now a.atom (drop j l) (drop (j + 1) l) a.split;
          }

      pub walking_next : Walking w0 flags0 base count n0 w' flags' n' more' (j + 1)
      walking_next = record {
        here = omega arith;
        rule = λ root t l A G p. reached_next root t l A (W.rule root t l A G p);
        kept = kept_then W.kept S.kept;
        few = omega (arith, S.counted count h, S.fewer, W.few);
        up = omega (arith, S.counted count h, S.moved, W.up);
      }

    scan_end : (root : ℕ) (t : Tree) (l : List Atom) → AtomsAre w0 base count l → count ≤ j → (R : Reached w flags root count n more j l t) → scanned l t ≡ R.now
    unfolding scan
    scan_end root t l A h R =
        let z : drop j l ≡ [] = drop_of_length-le l {i = j} (omega (arith, A.long)) in
        R.left ∙ rw z refl

    pub walking_end : count ≤ j → Rounded w0 flags0 base count n0 n more w flags
    walking_end h = record {
      rule = λ root t l A G p. let R = W.rule root t l A G p in let z : j ≡ count = omega (arith, W.here) in rw (scan_end root t l A h R, ← z) R.midway;
      kept = W.kept;
      few = W.few;
      up = W.up;
    }
