-- A clause in hand that always holds, one head atom after the other. Assumes nothing.
use Rattle.std.specs.Prelude.{◌≡◌, Bool, ◌||◌, List, ◌++◌, ℕ, ◌+◌, ◌-◌, ◌*◌, ◌<◌, ◌≤◌, length, get_or}
use Rattle.std.proofs.Common.{sym, ap, subst, ◌∙◌, arith}
use Rattle.std.specs.List.{range_with_len}
use Rattle.ir.specs.Records.{six}
use Rattle.ir.specs.declared.atom.Atom.{Atom}
use Rattle.rules.specs.Run.{flat}
use Rattle.rules.specs.State.{Clause}
use Rattle.rules.specs.EachLaws.{each_right, each_nth}
use Rattle.rules.specs.Reflexive.{contains_atom, is_self_loop, is_trivial}
use Rattle.tables.specs.TabledLaws.{At}
use Rattle.tables.specs.AtomLaws.{no_atom, flat_front, flat_back, flat_nth}
use Rattle.hands.specs.HandLaws.{hand_at_lem}
use Rattle.contraction.specs.InHands.{hand_at, ClauseInHand, Plain, AtomThere, HandThere}
use Rattle.contraction.specs.SameLaws.{any_either}
use Rattle.contraction.specs.SearchLaws.{Answered, any_up}

-- ---- the two runs in hand
module _ (w : List ℕ) (nb nh : ℕ) (x : Clause) (X : ClauseInHand w nb nh x) (fit : 6 * hand_at ≤ length w) where
  atoms_at : At w (6 * hand_at) (flat (x.body ++ x.head))
  atoms_at = hand_at_lem hand_at (nb + nh) w (x.body ++ x.head) X.hand fit

  pub body_at_lem : At w (6 * hand_at) (flat x.body)
  body_at_lem = flat_front w hand_at x.body x.head atoms_at

  -- head atom i - (hand_at + nb), whose record is the i-th
  pub head_at_lem : (i : ℕ) → hand_at + nb ≤ i → i < hand_at + nb + nh → At w (6 * i) (six (get_or x.head (i - (hand_at + nb)) no_atom))
  head_at_lem i l h =
      let e : hand_at + nb + (i - (hand_at + nb)) ≡ i = omega arith in
      subst (λ (k : ℕ). At w (6 * k) (six (get_or x.head (i - (hand_at + nb)) no_atom))) e
      (flat_nth w (hand_at + nb) x.head (i - (hand_at + nb)) (flat_back w hand_at x.body x.head (hand_at + nb) atoms_at (ap (λ (n : ℕ). hand_at + n) X.body)) (omega (arith, X.head)))

pub head_there : (w : List ℕ) (nb nh i : ℕ) → HandThere w nb nh → 6 * hand_at ≤ length w → hand_at + nb ≤ i → i < hand_at + nb + nh → AtomThere w i
head_there w nb nh i H fit l h = record {
  atom = get_or H.clause.head (i - (hand_at + nb)) no_atom;
  there = head_at_lem w nb nh H.clause H.there fit i l h;
  plain = each_nth Plain H.clause.head (i - (hand_at + nb)) no_atom (each_right Plain H.clause.body H.clause.head H.plain) (omega (arith, H.there.head));
}

-- ---- a head atom that is in the body, or a self-loop
module _ (set : List ℕ) (x : Clause) where
  abbrev pub always : Atom → Bool
  always a = contains_atom x.body a || is_self_loop set a

  pub trivial_any : (at : ℕ) (r : Bool) → Answered always x.head no_atom at r (range_with_len at (length x.head)) → r ≡ is_trivial set x
  trivial_any at r m = any_up always x.head no_atom at r m ∙ sym (any_either (contains_atom x.body) (is_self_loop set) x.head)
