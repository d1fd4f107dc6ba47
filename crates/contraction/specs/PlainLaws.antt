-- Atoms that can be written: those within the bounds of the clauses, and those of a part. Assumes nothing.
use Rattle.std.specs.Prelude.{◌≡◌, List, ◌++◌, ℕ, ◌*◌, ◌-◌, ◌/◌, ◌<◌, ◌≤◌, ◌^◌, length, get_or, take, drop}
use Rattle.std.proofs.Common.{arith, take-append-drop, length-take-le}
use Rattle.words.specs.Words.{words}
use Rattle.ir.specs.Records.{qualifier_word}
use Rattle.ir.specs.Roles.{role_id, role_code, code_below}
use Rattle.ir.specs.declared.role.Role.{Role}
use Rattle.ir.specs.declared.atom.Atom.{Atom}
use Rattle.ir.specs.declared.atom.Atom.TheVariants.{Class, Exists, AtMost, AtLeast, Equal, Role as RoleAtom}
use Rattle.ir.specs.Qualifiers.{Qualifier}
use Rattle.std.specs.Prelude.{None, Some}
use Rattle.rules.specs.Deck.{most_roles}
use Rattle.rules.specs.State.{Clause}
use Rattle.rules.specs.Run.{flat}
use Rattle.rules.specs.DecodeLaws.{flat_long}
use Rattle.rules.specs.Invariants.{Each, Bounds, QualifierIn, AtomIn, ClauseIn}
use Rattle.rules.specs.EachLaws.{each_append, each_left, each_right, each_map, each_nth}
use Rattle.tables.specs.Tabled.{Run}
use Rattle.tables.specs.AtomLaws.{no_atom, run_nth, run_front, run_back}
use Rattle.contraction.specs.InHands.{Plain, AtomThere, PlainRun}

-- ---- atoms within the bounds
module _ (B : Bounds) (fresh vars : ℕ) (roles : B.roles ≤ most_roles) (classes : fresh < 2 ^ 31) where
  code_small : (r : Role) → role_id r < B.roles → role_code r < 2 * most_roles
  code_small r h = code_below r most_roles (omega arith)

  qualifier_below : (q : Qualifier) → QualifierIn fresh q → qualifier_word q < 2 ^ 32
  qualifier_below None h = omega arith
  qualifier_below (Some k) h = omega arith

  pub plain_in : (x : Atom) → AtomIn B fresh vars x → Plain x
  plain_in (Class k v) h = record { fits = omega arith; role = omega arith }
  plain_in (RoleAtom r u v) h = record { fits = omega (arith, h.0); role = code_small r h.0 }
  plain_in (Exists r k v) h = record { fits = (omega (arith, h.0), omega (arith, h.1)); role = code_small r h.0 }
  plain_in (AtMost r q n v) h = record { fits = (omega (arith, h.0), qualifier_below q h.1); role = code_small r h.0 }
  plain_in (AtLeast r q n v) h = record { fits = (omega (arith, h.0), qualifier_below q h.1); role = code_small r h.0 }
  plain_in (Equal u v) h = record { fits = tt; role = omega arith }

  module _ (x : Clause) (I : ClauseIn B fresh vars x) where
    pub plain_body : Each Plain x.body
    plain_body = each_map (AtomIn B fresh vars) Plain plain_in x.body I.body_in

    pub plain_head : Each Plain x.head
    plain_head = each_map (AtomIn B fresh vars) Plain plain_in x.head I.head_in

    pub plain_clause : Each Plain (x.body ++ x.head)
    plain_clause = each_append Plain x.body x.head plain_body plain_head

-- ---- atoms of a part
module _ (s : List ℕ) (P : PlainRun s) (i : ℕ) where
  pub plain_nth : i < length s / 24 → AtomThere (words s) i
  plain_nth h =
      let l : i < length P.list = omega (arith, P.run.long) in
      record { atom = get_or P.list i no_atom; there = run_nth s P.list i P.run l; plain = each_nth Plain P.list i no_atom P.plain l }

  -- the first i, and those behind them
  module _ (n : ℕ) (e : n ≡ 24 * i) (h : n ≤ length s) where
    few : i ≤ length P.list
    few = omega (arith, P.run.long)

    split : Run s (take i P.list ++ drop i P.list)
    split = rw (take-append-drop i P.list) P.run

    long : n ≡ 4 * length (flat (take i P.list))
    long = omega (arith, flat_long (take i P.list), length-take-le i P.list few)

    each : Each Plain (take i P.list ++ drop i P.list)
    each = rw (take-append-drop i P.list) P.plain

    pub plain_front : PlainRun (take n s)
    plain_front = record { list = take i P.list; run = run_front s (take i P.list) (drop i P.list) split n long; plain = each_left Plain (take i P.list) (drop i P.list) each }

    pub plain_back : PlainRun (take (length s - n) (drop n s))
    plain_back = record { list = drop i P.list; run = run_back s (take i P.list) (drop i P.list) split n long; plain = each_right Plain (take i P.list) (drop i P.list) each }
