use mathlib.Core.Path.{refl}
use borrow.Author.Tests.{eq-eqb, ne_eqb}
use Rattle.clausify.proofs.sizes.table_ok.Goals as goal

pub returns-then-bytes-record_bytes-eq0 : goal.returns-then-bytes-record_bytes-eq0
returns-then-bytes-record_bytes-eq0 c = rw (eq-eqb _ _ c.if-bytes-record_bytes-eq0.true) refl

pub returns-else-bytes-record_bytes-eq0 : goal.returns-else-bytes-record_bytes-eq0
returns-else-bytes-record_bytes-eq0 c = rw (ne_eqb _ _ c.if-bytes-record_bytes-eq0.false) refl
