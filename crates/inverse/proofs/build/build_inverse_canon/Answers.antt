use native.Mathlib.Omega.{arith}
use mathlib.Core.Path.{◌≡◌, subst}
use mathlib.Core.List.{List}
use lib.ListN.{length}
use Prim.Native.Nat.{ℕ, ◌≤◌}
use Rattle.words.specs.Words.{words}
use Rattle.rules.specs.Concept.{Axiom}
use Rattle.rules.specs.Inverse.{build_inverse_canon, followed}
use Rattle.ontology.specs.Layout.{axioms_of}
use Rattle.ontology.specs.KeptAxioms.{axioms_kept}
use Rattle.inverse.specs.Layout.{RolesHeld, Building, Beside, Entries}
use Rattle.inverse.specs.Following.{Halfway}
use Rattle.inverse.specs.BuildLaws.{mapped_held}
use Rattle.inverse.specs.AxiomLaws.{building_kept, beside_axioms}
use Rattle.inverse.specs.FollowingLaws.{halfway_first}
use Rattle.inverse.proofs.build.build_inverse_canon.Goals as goal

pub declare_all-entries-requires : goal.declare_all-entries-requires
declare_all-entries-requires c =
    let x = c.clear_roles in
    (building_kept c.args.scratch.now x.new.scratch _ c.requires (beside_axioms (words c.args.scratch.now) (words x.new.scratch) x.ensures.beside) x.auto.scratch, x.ensures.mapped)

-- the axioms are as they were before the roles were cleared
kept : (s s' : List ℕ) (n : ℕ) → Building s n → Beside (words s) (words s') → axioms_of (words s') n ≡ axioms_of (words s) n
kept s s' n A B = axioms_kept (words s) (words s') n A.held (beside_axioms (words s) (words s') B)

first : (s s' s'' : List ℕ) (n c : ℕ) → Building s n → length s' ≡ length s → length s'' ≡ length s' → Entries (words s'') (build_inverse_canon (axioms_of (words s') n)) c → c ≤ 1024 → Halfway (axioms_of (words s') n) s'' c
first s s' s'' n c A l m E f = halfway_first (axioms_of (words s') n) s'' c (omega (arith, A.space, l, m)) f E

pub follow_all-requires : goal.follow_all-requires
follow_all-requires c =
    let x = c.clear_roles in
    let y = c.declare_all-entries in
    record {
      axioms = axioms_of (words x.new.scratch) c.args.n;
      halfway = first c.args.scratch.now x.new.scratch y.new.scratch c.args.n y.result c.requires x.auto.scratch y.auto.scratch y.ensures.made y.ensures.few;
    }

pub returns-then-far-clause-roles_held : goal.returns-then-far-clause-roles_held
returns-then-far-clause-roles_held c =
    let x = c.clear_roles in
    let y = c.declare_all-entries in
    let z = c.follow_all in
    rw c.if-far.true
    (subst (λ (l : List Axiom). RolesHeld (words z.new.scratch) (followed (build_inverse_canon l))) (kept c.args.scratch.now x.new.scratch c.args.n c.requires x.ensures.beside)
    (z.ensures.held (axioms_of (words x.new.scratch) c.args.n) (first c.args.scratch.now x.new.scratch y.new.scratch c.args.n y.result c.requires x.auto.scratch y.auto.scratch y.ensures.made y.ensures.few)))

pub returns-else-far-clause-roles_held : goal.returns-else-far-clause-roles_held
returns-else-far-clause-roles_held c =
    let x = c.clear_roles in
    let y = c.declare_all-entries in
    rw c.if-far.false
    (subst (λ (l : List Axiom). RolesHeld (words y.new.scratch) (build_inverse_canon l)) (kept c.args.scratch.now x.new.scratch c.args.n c.requires x.ensures.beside) (mapped_held _ _ y.ensures.made.mapped))
