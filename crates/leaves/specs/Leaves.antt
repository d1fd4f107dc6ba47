-- emit_head where nothing is named: what is pushed for the concept. And what head_atom_for makes of a disjunct before anything is
-- named.
use Rattle.std.specs.Prelude.{Bool, true, false, not, ◌||◌, ◌&&◌, List, [], ◌∷◌, ℕ, zero, suc, ◌+◌, eqb}
use Rattle.std.proofs.Math.Option.{Option, none, some}
use Rattle.ir.specs.declared.atom.Atom.{Atom}
use Rattle.ir.specs.declared.atom.Atom.TheVariants.{Class, Exists, AtMost, AtLeast, Role as RoleAtom}
use Rattle.std.specs.Prelude.{None, Some}
use Rattle.ir.specs.declared.deferral.Deferral.TheVariants.{HeadNotNonatomic}
use Rattle.rules.specs.Base.{return, ◌>>=◌, ◌>>◌}
use Rattle.rules.specs.Concept.{Concept}
use Rattle.rules.specs.Concept.{Top, Bot, Atomic, Nominal, SelfRestriction, Not, And, Or, Some, All, Min, Max}
use Rattle.rules.specs.Pool.{Pool, at}
use Rattle.rules.specs.State.{Env, E, canon, fresh_class, await, with, push, defer, class_id_of, is_dkey}
use Rattle.rules.specs.Heads.{is_top, named_anew}
use Rattle.leaves.specs.Classes.{is_max}
use Rattle.leaves.specs.declared.leaf.Leaf.{Leaf}
use Rattle.leaves.specs.declared.leaf.Leaf.TheVariants.{Nothing, Empty, Head, Body, Deferred}
use Rattle.leaves.specs.declared.disjunct.Disjunct.{Disjunct}
use Rattle.leaves.specs.declared.disjunct.Disjunct.TheVariants.{Ready, Negated, Absent, Whole, Filler}

module _ (env : Env) (pool : Pool) where
  -- ---- emit_head
  -- no part of the concept is named, and it is no And, Or or All
  abbrev pub is_leaf : Concept → Bool
  is_leaf Top = true
  is_leaf Bot = true
  is_leaf (Atomic _) = true
  is_leaf (Nominal _) = true
  is_leaf (SelfRestriction _) = true
  is_leaf (Not _) = true
  is_leaf (And _) = false
  is_leaf (Or _) = false
  is_leaf (Some _ _) = false
  is_leaf (All _ _) = false
  is_leaf (Min zero _ _) = true
  is_leaf (Min (suc _) _ d) = is_top (at pool d)
  is_leaf (Max _ _ d) = is_top (at pool d)

  -- of a negated concept: the atom that joins the body
  abbrev pub negated_atom : ℕ → Concept → Option Atom
  negated_atom v Top = none
  negated_atom v Bot = none
  negated_atom v (Atomic a) = some (Class a v)
  negated_atom v (Nominal i) = some (Class (env.nominal_base + i) v)
  negated_atom v (SelfRestriction r) = some (RoleAtom (canon env r) v v)
  negated_atom v (Not _) = none
  negated_atom v (And _) = none
  negated_atom v (Or _) = none
  negated_atom v (Some _ _) = none
  negated_atom v (All _ _) = none
  negated_atom v (Min _ _ _) = none
  negated_atom v (Max _ _ _) = none

  abbrev pub body_or : Option Atom → Leaf
  body_or (some a) = Body a
  body_or none = Deferred

  abbrev pub leaf_of : ℕ → Concept → Leaf
  leaf_of v Top = Nothing
  leaf_of v Bot = Empty
  leaf_of v (Atomic a) = Head (Class a v)
  leaf_of v (Nominal i) = Head (Class (env.nominal_base + i) v)
  leaf_of v (SelfRestriction r) = Head (RoleAtom (canon env r) v v)
  leaf_of v (Not d) = body_or (negated_atom v (at pool d))
  leaf_of v (And _) = Nothing
  leaf_of v (Or _) = Nothing
  leaf_of v (Some _ _) = Nothing
  leaf_of v (All _ _) = Nothing
  leaf_of v (Min zero r d) = Nothing
  leaf_of v (Min (suc n) r d) = Head (AtLeast (canon env r) None (suc n) v)
  leaf_of v (Max n r d) = Head (AtMost (canon env r) None n v)

  abbrev pub emit_leaf : List Atom → Leaf → E (Unit {0})
  emit_leaf b Nothing = return tt
  emit_leaf b Empty = push env b []
  emit_leaf b (Head a) = push env b (a ∷ [])
  emit_leaf b (Body a) = do
    more ← with b a
    push env more []
  emit_leaf b Deferred = defer env HeadNotNonatomic

  -- over a data key the head is dropped
  abbrev pub unless_key : List Atom → Atom → Bool → E (Unit {0})
  unless_key b a true = return tt
  unless_key b a false = push env b (a ∷ [])

  -- the head of a restriction whose filler is named q
  abbrev pub emit_named : ℕ → Concept → List Atom → ℕ → E (Unit {0})
  emit_named v Top b q = return tt
  emit_named v Bot b q = return tt
  emit_named v (Atomic _) b q = return tt
  emit_named v (Nominal _) b q = return tt
  emit_named v (SelfRestriction _) b q = return tt
  emit_named v (Not _) b q = return tt
  emit_named v (And _) b q = return tt
  emit_named v (Or _) b q = return tt
  emit_named v (Some r _) b q = push env b (Exists (canon env r) q v ∷ [])
  emit_named v (All _ _) b q = return tt
  emit_named v (Min n r _) b q = unless_key b (AtLeast (canon env r) (Some q) n v) (is_dkey env (some q))
  emit_named v (Max n r _) b q = unless_key b (AtMost (canon env r) (Some q) n v) (is_dkey env (some q))

  abbrev pub drops_head : Concept → ℕ → Bool
  drops_head Top q = false
  drops_head Bot q = false
  drops_head (Atomic _) q = false
  drops_head (Nominal _) q = false
  drops_head (SelfRestriction _) q = false
  drops_head (Not _) q = false
  drops_head (And _) q = false
  drops_head (Or _) q = false
  drops_head (Some _ _) q = false
  drops_head (All _ _) q = false
  drops_head (Min _ _ _) q = is_dkey env (some q)
  drops_head (Max _ _ _) q = is_dkey env (some q)

  -- ---- head_atom_for
  abbrev pub negated_or : Option Atom → Disjunct
  negated_or (some a) = Negated a
  negated_or none = Absent

  -- a number restriction: named where it may be no atom, else an atom over its filler
  abbrev pub counted_or : Bool → Bool → Atom → Disjunct
  counted_or true top a = Whole
  counted_or false true a = Ready a
  counted_or false false a = Filler

  abbrev pub disjunct_of : ℕ → Concept → Disjunct
  disjunct_of v Top = Whole
  disjunct_of v Bot = Whole
  disjunct_of v (Atomic a) = Ready (Class a v)
  disjunct_of v (Nominal i) = Ready (Class (env.nominal_base + i) v)
  disjunct_of v (SelfRestriction _) = Whole
  disjunct_of v (Not d) = negated_or (negated_atom 0 (at pool d))
  disjunct_of v (And _) = Whole
  disjunct_of v (Or _) = Whole
  disjunct_of v (Some _ _) = Filler
  disjunct_of v (All _ _) = Whole
  disjunct_of v (Min n r d) = counted_or (not env.card_disjunct_atoms || (eqb n 0 || is_dkey env (class_id_of env (at pool d)))) (is_top (at pool d)) (AtLeast (canon env r) None n v)
  disjunct_of v (Max n r d) = counted_or (not env.card_disjunct_atoms || is_dkey env (class_id_of env (at pool d))) (is_top (at pool d)) (AtMost (canon env r) None n v)

  -- Min and Max that are no atoms of their own
  abbrev pub no_atom : Concept → Bool
  no_atom Top = false
  no_atom Bot = false
  no_atom (Atomic _) = false
  no_atom (Nominal _) = false
  no_atom (SelfRestriction _) = false
  no_atom (Not _) = false
  no_atom (And _) = false
  no_atom (Or _) = false
  no_atom (Some _ _) = false
  no_atom (All _ _) = false
  no_atom (Min n _ d) = not env.card_disjunct_atoms || (eqb n 0 || is_dkey env (class_id_of env (at pool d)))
  no_atom (Max _ _ d) = not env.card_disjunct_atoms || is_dkey env (class_id_of env (at pool d))

  -- Min and Max over Top
  abbrev pub over_top : ℕ → Concept → Atom
  over_top v Top = Class 0 v
  over_top v Bot = Class 0 v
  over_top v (Atomic _) = Class 0 v
  over_top v (Nominal _) = Class 0 v
  over_top v (SelfRestriction _) = Class 0 v
  over_top v (Not _) = Class 0 v
  over_top v (And _) = Class 0 v
  over_top v (Or _) = Class 0 v
  over_top v (Some _ _) = Class 0 v
  over_top v (All _ _) = Class 0 v
  over_top v (Min n r _) = AtLeast (canon env r) None n v
  over_top v (Max n r _) = AtMost (canon env r) None n v

  -- the atom of a restriction whose filler is named q
  abbrev pub filler_atom : ℕ → Concept → ℕ → Atom
  filler_atom v Top q = Class q v
  filler_atom v Bot q = Class q v
  filler_atom v (Atomic _) q = Class q v
  filler_atom v (Nominal _) q = Class q v
  filler_atom v (SelfRestriction _) q = Class q v
  filler_atom v (Not _) q = Class q v
  filler_atom v (And _) q = Class q v
  filler_atom v (Or _) q = Class q v
  filler_atom v (Some r _) q = Exists (canon env r) q v
  filler_atom v (All _ _) q = Class q v
  filler_atom v (Min n r _) q = AtLeast (canon env r) (Some q) n v
  filler_atom v (Max n r _) q = AtMost (canon env r) (Some q) n v

  -- the filler of a restriction
  abbrev pub filler_of : Concept → ℕ
  filler_of Top = 0
  filler_of Bot = 0
  filler_of (Atomic _) = 0
  filler_of (Nominal _) = 0
  filler_of (SelfRestriction _) = 0
  filler_of (Not d) = d
  filler_of (And _) = 0
  filler_of (Or _) = 0
  filler_of (Some _ d) = d
  filler_of (All _ d) = d
  filler_of (Min _ _ d) = d
  filler_of (Max _ _ d) = d

  -- with option 4 the filler of a limit waits, where it is named anew
  abbrev pub await_filler : Concept → E (Unit {0})
  await_filler e = await env (filler_of e) (is_max e && named_anew env (at pool (filler_of e)))

  -- a fresh name for the negation of an atom on X
  abbrev pub name_negated : ℕ → Atom → E (Option Atom)
  name_negated v a = do
    q ← fresh_class
    push env (Class q 0 ∷ a ∷ []) []
    return (some (Class q v))

  module _ (name : ℕ → E ℕ) where
    -- the class that names a restriction's filler
    abbrev pub name_filler : Concept → E ℕ
    name_filler e = do
      await_filler e
      name (filler_of e)

    abbrev pub disjunct_atom : ℕ → ℕ → Concept → Disjunct → E (Option Atom)
    disjunct_atom c v e (Ready a) = return (some a)
    disjunct_atom c v e (Negated a) = name_negated v a
    disjunct_atom c v e Absent = return none
    disjunct_atom c v e Whole = do
      q ← name c
      return (some (Class q v))
    disjunct_atom c v e Filler = do
      q ← name_filler e
      return (some (filler_atom v e q))
