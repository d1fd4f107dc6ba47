use Rattle.inclusions.specs.Parted.{hard_at}
use Rattle.inclusions.specs.Parts.{Found, Refused}
use Rattle.inclusions.specs.GrowLaws.{front_pool, clausifying_front}
use Rattle.inclusions.specs.HardLaws.{positive, parts_none, parts_none_queued, parts_some, parts_some_queued, parts_then, parts_queued, parts_refused, parts_divided}
use Rattle.ir.specs.Answer.{done}
use Rattle.ir.specs.Scratch.{stack_at}
use Rattle.pool.specs.Layout.{run}
use Rattle.axioms.specs.QueuedLaws.{queued_no}
use Rattle.hands.specs.Hands.{four, four_of}
use Rattle.std.proofs.lemmas.Result.{err_from_is_err_and}
use Rattle.words.specs.Words.{words}
use native.Mathlib.Omega.{arith}
use mathlib.Core.Path.{refl}
use Rattle.inclusions.proofs.absorb.absorb_hard_antecedent.Goals as goal

pub absorb_none-requires : goal.absorb_none-requires
absorb_none-requires c =
    let p = c.partition in
    let S = c.in_ok-parts.ensures.parts_in in
    let K = clausifying_front c.args.scratch.now p.new.scratch c.args.lent.now.counters p.new.k c.requires.0 p.auto.scratch p.ensures.scratch_unchanged S.alike S.good in
    (K, omega (arith, c.requires.1, S.alike.concepts), omega (arith, c.requires.2, S.alike.concepts))

pub returns-then-parts-eq0 : goal.returns-then-parts-eq0
returns-then-parts-eq0 c =
    let s0 = c.args.scratch.now in
    let t = c.args.lent.now in
    let k = t.counters in
    let cl = words t.clauses.now in
    let at = words t.atoms.now in
    let de = words t.deferrals.now in
    let sub = c.args.sub in
    let sup = c.args.sup in
    let p = c.partition in
    let s1 = p.new.scratch in
    let l = p.new.k in
    let soft = c.in_ok-parts.parts.soft in
    let hard = c.in_ok-parts.parts.hard in
    let S = c.in_ok-parts.ensures.parts_in in
    let same = front_pool s0 s1 k stack_at c.requires.0.encoding.reading (omega arith) p.ensures.scratch_unchanged in
    let z = c.absorb_none in
    let r = done z.new.lent.counters z.result in
    let y = four_of (words z.new.scratch) z.new.lent in record {
      references = z.ensures.references;
      clausified = (
        parts_then k sub sup (words s0) (words s1) cl at de (Found l soft hard) c.in_ok-parts.ensures.scratch_after l soft hard y r refl S.alike same p.ensures.scratch_unchanged
            (parts_none (words s1) sub sup soft (run (words s1) hard_at hard) l (four (words s1) cl at de) y r c.if-parts-eq0.true z.ensures.clausified.0),
        parts_queued k sub sup (words s0) (words s1) cl at de (Found l soft hard) c.in_ok-parts.ensures.scratch_after l soft hard y refl S.alike same p.ensures.scratch_unchanged S.behind
            (parts_none_queued (words s1) sub sup soft (run (words s1) hard_at hard) l (four (words s1) cl at de) y c.if-parts-eq0.true z.ensures.clausified.1),
      );
      clausifying_after = z.ensures.clausifying_after;
    }

pub absorb_some-requires : goal.absorb_some-requires
absorb_some-requires c =
    let s0 = c.args.scratch.now in
    let k = c.args.lent.now.counters in
    let p = c.partition in
    let s1 = p.new.scratch in
    let S = c.in_ok-parts.ensures.parts_in in
    let same = front_pool s0 s1 k stack_at c.requires.0.encoding.reading (omega arith) p.ensures.scratch_unchanged in
    let K = clausifying_front s0 s1 k p.new.k c.requires.0 p.auto.scratch p.ensures.scratch_unchanged S.alike S.good in (
      K,
      omega (arith, c.requires.1, S.alike.concepts),
      omega (arith, c.requires.2, S.alike.concepts),
      parts_divided s1 (words s0) k p.new.k c.args.sub c.in_ok-parts.parts.soft c.in_ok-parts.parts.hard c.requires.1 same S (positive c.in_ok-parts.parts.soft c.if-parts-eq0.false),
    )

pub returns : goal.returns
returns c =
    let s0 = c.args.scratch.now in
    let t = c.args.lent.now in
    let k = t.counters in
    let cl = words t.clauses.now in
    let at = words t.atoms.now in
    let de = words t.deferrals.now in
    let sub = c.args.sub in
    let sup = c.args.sup in
    let p = c.partition in
    let s1 = p.new.scratch in
    let l = p.new.k in
    let soft = c.in_ok-parts.parts.soft in
    let hard = c.in_ok-parts.parts.hard in
    let S = c.in_ok-parts.ensures.parts_in in
    let same = front_pool s0 s1 k stack_at c.requires.0.encoding.reading (omega arith) p.ensures.scratch_unchanged in
    let z = c.absorb_some in
    let r = done z.new.lent.counters z.result in
    let y = four_of (words z.new.scratch) z.new.lent in record {
      references = z.ensures.references;
      clausified = (
        parts_then k sub sup (words s0) (words s1) cl at de (Found l soft hard) c.in_ok-parts.ensures.scratch_after l soft hard y r refl S.alike same p.ensures.scratch_unchanged
            (parts_some (words s1) sub sup soft (run (words s1) hard_at hard) l (four (words s1) cl at de) y r (positive soft c.if-parts-eq0.false) z.ensures.clausified.0),
        parts_queued k sub sup (words s0) (words s1) cl at de (Found l soft hard) c.in_ok-parts.ensures.scratch_after l soft hard y refl S.alike same p.ensures.scratch_unchanged S.behind
            (parts_some_queued (words s1) sub sup soft (run (words s1) hard_at hard) l (four (words s1) cl at de) y (positive soft c.if-parts-eq0.false) z.ensures.clausified.1),
      );
      clausifying_after = z.ensures.clausifying_after;
    }

pub returns-in_err-parts-clause-clausified : goal.returns-in_err-parts-clause-clausified
returns-in_err-parts-clause-clausified c =
    let q = err_from_is_err_and c.from_residual.result c.from_residual.ensures.1 in
    let t = c.args.lent.now in
    let p = c.partition in
    let K = parts_refused t.counters c.args.sub c.args.sup (words c.args.scratch.now) (words p.new.scratch) (words t.clauses.now) (words t.atoms.now) (words t.deferrals.now) (Refused _) c.in_err-parts.ensures.scratch_after _ refl p.ensures.scratch_unchanged in
    rw (q.1, q.2) (K, queued_no _ _ _ _ _ K)
