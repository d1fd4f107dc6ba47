use mathlib.Core.Path.{sym, ap, ◌∙◌}
use Prim.Native.Nat.{ℕ, ◌+◌, ◌-◌}
use native.Mathlib.Omega.{arith}
use Rattle.words.specs.Words.{words}
use Rattle.ir.specs.Scratch.{numbers_at}
use Rattle.reflexive.specs.FlagLaws.{id_small}
use Rattle.reflexive.specs.AxiomLaws.{sub_small, sup_small, equal_codes}
use Rattle.reflexive.specs.WalkLaws.{edges_none, edges_sub, edges_equal}
use Rattle.reflexive.proofs.ids.edges_of.Goals as goal

pub canon_id-a-requires : goal.canon_id-a-requires
canon_id-a-requires c =
    let A = c.requires.1 in
    (sub_small c.args.scratch.now A.count c.args.i A.building A.below (sym c.number.ensures ∙ c.in-33.is) _ c.number-in-33.ensures, omega (arith, A.building.space))

pub canon_id-b-requires : goal.canon_id-b-requires
canon_id-b-requires c =
    let A = c.requires.1 in
    (sup_small c.args.scratch.now A.count c.args.i A.building A.below (sym c.number.ensures ∙ c.in-33.is) _ c.number-in-33-2.ensures, omega (arith, A.building.space))

pub along-requires : goal.along-requires
along-requires c =
    let A = c.requires.1 in
    let q = (sym c.number.ensures ∙ c.in-33.is) in
    (c.requires.0, id_small (words c.args.scratch.now) _ _ c.requires.0.map (sub_small c.args.scratch.now A.count c.args.i A.building A.below q _ c.number-in-33.ensures) c.canon_id-a.ensures, id_small (words c.args.scratch.now) _ _ c.requires.0.map (sup_small c.args.scratch.now A.count c.args.i A.building A.below q _ c.number-in-33-2.ensures) c.canon_id-b.ensures)

pub edges_among-requires : goal.edges_among-requires
edges_among-requires c =
    let A = c.requires.1 in
    (c.requires.0, equal_codes c.args.scratch.now A.count c.args.i A.building A.below (sym c.number.ensures ∙ c.in-34.is) _ _ (ap (λ (x : ℕ). numbers_at + x + 1) c.start.ensures) (ap (λ (x : ℕ). x - 1) c.count.ensures))

pub returns-in-33 : goal.returns-in-33
returns-in-33 c =
    let A = c.requires.1 in
    edges_sub c.args.scratch.now c.args.i c.args.size A (sym c.number.ensures ∙ c.in-33.is) _ _ _ _ c.number-in-33.ensures c.number-in-33-2.ensures c.canon_id-a.ensures c.canon_id-b.ensures _ _ c.along.ensures

pub returns-in-34 : goal.returns-in-34
returns-in-34 c =
    let A = c.requires.1 in
    edges_equal c.args.scratch.now c.args.i c.args.size A (sym c.number.ensures ∙ c.in-34.is) _ _ (ap (λ (x : ℕ). numbers_at + x + 1) c.start.ensures) (ap (λ (x : ℕ). x - 1) c.count.ensures) _ _ c.edges_among.ensures

pub returns-in_default : goal.returns-in_default
returns-in_default c =
    let A = c.requires.1 in
    edges_none c.args.scratch.now c.args.i c.args.size A _ c.number.ensures (λ q. absurd (omega (arith, q))) (λ q. absurd (omega (arith, q))) c.requires.0.sized
