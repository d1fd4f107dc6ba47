-- A clause's body copied to record BODY: its atoms stand there, and what is named and what is kept stays. Assumes nothing.
use Rattle.std.specs.Prelude.{Bool, true, false, not, ◌||◌, ◌≡◌, refl, List, [], ◌∷◌, ℕ, ◌+◌, ◌*◌, ◌/◌, ◌≤◌, ◌<◌, length, get_or, take, drop}
use Rattle.std.proofs.Common.{sym, ap, subst, ◌∙◌, arith}
use Rattle.std.proofs.lemmas.List.Edits.{sets}
use Rattle.std.proofs.Math.Seq.{length-sets}
use Rattle.words.specs.Words.{words}
use Rattle.words.specs.Runs.{get_d_sets_before, get_d_sets_after}
use Rattle.ir.specs.Roles.{role_id, code_below}
use Rattle.ir.specs.declared.atom.Atom.{Atom}
use Rattle.ir.specs.declared.atom.Atom.TheVariants.{Class, Exists, AtMost, AtLeast, Equal, Role as RoleAtom}
use Rattle.rules.specs.Deck.{most_roles}
use Rattle.rules.specs.Run.{flat}
use Rattle.rules.specs.DecodeLaws.{flat_long}
use Rattle.rules.specs.Branches.{is_tree_atom}
use Rattle.rules.specs.Branches as Rules
use Rattle.rules.specs.Invariants.{Each, Bounds, AtomIn}
use Rattle.tables.specs.Tabled.{Run}
use Rattle.branches.specs.Layout.{named_end, body_at, work_words}
use Rattle.branches.specs.Wide.{AtomsAre}
use Rattle.branches.specs.Memo.{Tame, TameThere, NamedHeld, NamedThere}
use Rattle.branches.specs.Edges.{KeepIs}
use Rattle.branches.specs.InsertLaws.{at_here}
use Rattle.naming.specs.AgreeLaws.{named_stay, named_there_stay, keep_stay}
use Rattle.branches.specs.declared.memo.Naming.{Naming}
use Rattle.decomposition.specs.Bodies.{PartsThere, OnlyKeep}
use Rattle.decomposition.specs.PlainLaws.{other}

-- ---- class and role atoms
module _ (B : Bounds) (fresh vars : ℕ) (roles : B.roles ≤ most_roles) (classes : fresh ≤ 2097152) where
  tame_atom : (a : Atom) → AtomIn B fresh vars a → is_tree_atom a ≡ true → Tame a
  tame_atom (Class k v) h e = let q : k < fresh = h.0 in omega arith
  tame_atom (RoleAtom r u v) h e = let q : role_id r < B.roles = h.0 in code_below r most_roles (omega arith)
  tame_atom (Exists r k v) h e = absurd (let q : ◌≡◌ {A = ℕ} 0 1 = cc in omega arith)
  tame_atom (AtMost r q n v) h e = absurd (let q : ◌≡◌ {A = ℕ} 0 1 = cc in omega arith)
  tame_atom (AtLeast r q n v) h e = absurd (let q : ◌≡◌ {A = ℕ} 0 1 = cc in omega arith)
  tame_atom (Equal u v) h e = absurd (let q : ◌≡◌ {A = ℕ} 0 1 = cc in omega arith)

  tame_all : (l : List Atom) → Each (AtomIn B fresh vars) l → other l ≡ false → Each Tame l
  tame_all [] h e = tt
  tame_all (a ∷ l) h e = go (is_tree_atom a) refl e (tame_all l h.1)
    where
      go : (b : Bool) → is_tree_atom a ≡ b → (not b || other l) ≡ false → (other l ≡ false → Each Tame l) → Tame a × Each Tame l
      go true f g k = (tame_atom a h.0 f, k g)
      go false f g k = absurd (let q : ◌≡◌ {A = ℕ} 0 1 = cc in omega arith)

-- ---- the body's words, at record b
module _ (b nb : ℕ) (w w' : List ℕ) (l : List Atom) (e : w' ≡ sets w (6 * b) (flat l)) (many : nb ≡ length l) (room : 6 * (b + nb) ≤ length w) where
  there : AtomsAre w' b nb l
  there = record { long = many; there = subst (λ (t : List ℕ). take (length (flat l)) (drop (6 * b) t) ≡ flat l) (sym e) (at_here w (6 * b) (flat l) (omega (arith, flat_long l))) }

  same_long : length w' ≡ length w
  same_long = ap length e ∙ length-sets w (6 * b) (flat l)

  before : (j : ℕ) → j < 6 * b → get_or w' j 0 ≡ get_or w j 0
  before j h = ap (λ (t : List ℕ). get_or t j 0) e ∙ get_d_sets_before (flat l) w (6 * b) j 0 h

  behind : (j : ℕ) → 6 * (b + nb) ≤ j → get_or w' j 0 ≡ get_or w j 0
  behind j h = ap (λ (t : List ℕ). get_or t j 0) e ∙ get_d_sets_after (flat l) w (6 * b) j 0 (omega (arith, flat_long l))

-- the body's bytes s, of nb atoms; the words w, with the variables to keep w1, with the body w2
module _ (s : List ℕ) (nb : ℕ) (w w1 w2 : List ℕ) (all : nb ≡ length s / 24) (few : nb ≤ 256) (long : length w1 ≡ length w) (work : work_words ≤ length w) (O : OnlyKeep w w1)
    (e : w2 ≡ sets w1 (6 * body_at) (words s)) where
  module _ (l : List Atom) (R : Run s l) where
    many : nb ≡ length l
    many = omega (arith, all, R.long)

    copied : w2 ≡ sets w1 (6 * body_at) (flat l)
    copied = e ∙ ap (λ (t : List ℕ). sets w1 (6 * body_at) t) R.are

    room : 6 * (body_at + nb) ≤ length w1
    room = omega arith

    pub body_there : AtomsAre w2 body_at nb l
    body_there = there body_at nb w1 w2 l copied many room

    long2 : length w2 ≡ length w1
    long2 = same_long body_at nb w1 w2 l copied many room

    low : (j : ℕ) → j < named_end → get_or w2 j 0 ≡ get_or w j 0
    low j h = before body_at nb w1 w2 l copied many room j (omega arith) ∙ O.before j (omega arith)

    pub held_still : (n : Naming) (z : Rules.Naming) → NamedHeld w n z → NamedHeld w2 n z
    held_still n z H = named_stay w w2 (long2 ∙ long) n z low H

    pub there_still : (n : Naming) → NamedThere w n → NamedThere w2 n
    there_still n T = named_there_stay w w2 (long2 ∙ long) n low T

    pub keep_still : (n : ℕ) (kept : List ℕ) → KeepIs w1 n kept → KeepIs w2 n kept
    keep_still n kept K = keep_stay w1 w2 long2 n kept (λ j h k. behind body_at nb w1 w2 l copied many room j (omega arith)) K

  pub tame_there : (head : List ℕ) (P : PartsThere s head) → other P.clause.body ≡ false → TameThere w2 body_at nb
  tame_there head P f = record {
    list = P.clause.body;
    are = body_there P.clause.body P.body_is;
    tame = tame_all P.bounds P.fresh P.vars P.roles P.classes P.clause.body P.inside.body_in f;
  }
