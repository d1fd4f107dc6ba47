use Rattle.ir.specs.Answer.{answer}
use mathlib.Core.Path.{◌≡◌, refl, sym, ap, subst}
use Prim.Native.Nat.{ℕ}
use Rattle.words.specs.Words.{words}
use Prim.{tt}
use Rattle.ir.specs.Roles.{role_of, code_role}
use Rattle.rules.specs.Pool.{Pool, mk_min}
use Rattle.rules.specs.Base.{M}
use Rattle.pool.specs.Layout.{concept_from}
use Rattle.pool.specs.Answers.{Interned}
use Rattle.pool.proofs.Making.{min_is}
use Rattle.pool.proofs.make.mk_min.Goals as goal

pub returns-then-n-eq0 : goal.returns-then-n-eq0
unfolding mk_min
returns-then-n-eq0 c = let q : mk_min c.args.n (role_of c.args.role) c.args.c ≡ mk_min 0 (role_of c.args.role) c.args.c = ap (λ (n : ℕ). mk_min n (role_of c.args.role) c.args.c) c.if-n-eq0.true in record {
  interned = subst (λ (f : M Pool ℕ). Interned c.args.k.now f (words c.args.scratch.now) (words c.mk_top.new.scratch) (answer c.mk_top.new.k c.mk_top.result)) (sym q) c.mk_top.ensures.interned;
  scratch_unchanged = c.mk_top.ensures.scratch_unchanged;
}

pub intern_raw-requires : goal.intern_raw-requires
unfolding concept_from
intern_raw-requires c = rw c.new.ensures (c.requires.0, refl, rw (code_role c.args.role) refl, (c.requires.1, tt))

pub returns : goal.returns
unfolding concept_from
returns c = record {
  interned = subst (λ (f : M Pool ℕ). Interned c.args.k.now f (words c.args.scratch.now) (words c.intern_raw.new.scratch) (answer c.intern_raw.new.k c.intern_raw.result)) (sym (min_is c.args.n (role_of c.args.role) c.args.c c.if-n-eq0.false)) (rw c.new.ensures at c.intern_raw.ensures.interned);
  scratch_unchanged = c.intern_raw.ensures.scratch_unchanged;
}
