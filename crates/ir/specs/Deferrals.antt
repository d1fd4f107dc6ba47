-- The kinds of deferral: document 01's numbers.
use Rattle.std.specs.Prelude.{ℕ}
use Rattle.ir.specs.declared.deferral.Deferral.{Deferral}
use Rattle.ir.specs.declared.deferral.Deferral.TheVariants.{DisjointAntecedent, DisjointUnionMember, DisjointUnionCovering, RoleChainLenNe2, Antecedent, HeadOrDisjunct, HeadExistsInner, HeadNotNonatomic, ReflexiveDerivedCap}

abbrev pub deferral_kind : Deferral → ℕ
deferral_kind DisjointAntecedent = 1
deferral_kind DisjointUnionMember = 2
deferral_kind DisjointUnionCovering = 3
deferral_kind RoleChainLenNe2 = 4
deferral_kind Antecedent = 5
deferral_kind HeadOrDisjunct = 6
deferral_kind HeadExistsInner = 7
deferral_kind HeadNotNonatomic = 8
deferral_kind ReflexiveDerivedCap = 9
