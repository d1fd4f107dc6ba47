-- What is said of a call tells what it did to the session. Assumes nothing.
use Rattle.std.specs.Prelude.{◌≡◌, refl, List, ℕ}
use Rattle.std.proofs.Common.{arith}
use Rattle.session.specs.Session.{Did, done, refused, session_after, Done, said_of}
use Rattle.session.specs.Session as Session

pub not_refused : {P : Type 0} (k line : ℕ) → Done ≡ Session.Refused k line → P
not_refused k line e = absurd (let z : ◌≡◌ {A = ℕ} 0 1 = cc in omega arith)

-- a refused call leaves it
pub after_refused : (s : List ℕ) (x : Did) (k line : ℕ) → Session.Refused k line ≡ said_of x → s ≡ session_after s x
after_refused s (done deck) k line e = absurd (let z : ◌≡◌ {A = ℕ} 0 1 = cc in omega arith)
after_refused s (refused j at) k line e = refl
