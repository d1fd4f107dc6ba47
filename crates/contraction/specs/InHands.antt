-- A clause in hand, and atoms of a table or of a part of one.
use Rattle.std.specs.Prelude.{◌≡◌, List, ◌++◌, ℕ, ◌+◌, ◌*◌, ◌<◌, ◌≤◌, length, get_or}
use Rattle.ir.specs.Records.{six, Fits}
use Rattle.ir.specs.declared.atom.Atom.{Atom}
use Rattle.rules.specs.Deck.{most_roles}
use Rattle.rules.specs.Invariants.{Each}
use Rattle.rules.specs.State.{Clause}
use Rattle.hands.specs.Hands.{InHand}
use Rattle.tables.specs.Tabled.{At, Run}
pub use Rattle.hands.specs.Place.{hand_at, in_hand_bytes}

-- the clause x is in hand, its nb body atoms before its nh head atoms
pub record ClauseInHand (w : List ℕ) (nb nh : ℕ) (x : Clause) : Type 0 where
  pub body : nb ≡ length x.body
  pub head : nh ≡ length x.head
  pub hand : InHand w hand_at (nb + nh) (x.body ++ x.head)

-- an atom's record can be written, and its role is one that there may be (0 where it has none)
pub record Plain (x : Atom) : Type 0 where
  pub fits : Fits x
  pub role : get_or (six x) 1 0 < 2 * most_roles

-- ---- for some atom or clause
pub record AtomThere (w : List ℕ) (i : ℕ) : Type 0 where
  pub atom : Atom
  pub there : At w (6 * i) (six atom)
  pub plain : Plain atom

-- these bytes are atoms that can be written, and no more
pub record PlainRun (s : List ℕ) : Type 0 where
  pub list : List Atom
  pub run : Run s list
  pub plain : Each Plain list

pub record HandThere (w : List ℕ) (nb nh : ℕ) : Type 0 where
  pub clause : Clause
  pub there : ClauseInHand w nb nh clause
  pub short : (nb ≤ 256) × (nh ≤ 256)
  pub plain : Each Plain (clause.body ++ clause.head)
