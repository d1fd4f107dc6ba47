-- One clause's body: whether it stays whole, and what the names make of it. Assumes nothing.
use Rattle.std.specs.Prelude.{Bool, true, false, ◌||◌, ◌≡◌, Some, None, Ok, Err, List, ℕ, length, ltb, leb}
use Rattle.std.proofs.Math.Bool.{or-true}
use Rattle.std.proofs.Common.{sym, ap, ap₂, subst, ◌∙◌, arith, ltb-true, ltb-false, le-leb}
use Rattle.std.proofs.Math.Option.{Option, none, some}
use Rattle.std.proofs.lemmas.Bool.{lt-leb}
use Rattle.ir.specs.declared.atom.Atom.{Atom}
use Rattle.rules.specs.Base.{Res, ok, refused}
use Rattle.rules.specs.State.{Clause}
use Rattle.rules.specs.Branches.{max_body_vars, body_var_count, body_var_count_from, stays_whole, head_vars, name_branches}
use Rattle.rules.specs.Branches as Rules
use Rattle.branches.specs.Layout.{body_at}
use Rattle.branches.specs.WideLaws.{count_root}
use Rattle.branches.specs.Memo.{NamedHeld}
use Rattle.naming.specs.Names.{Reduced, ReducedBy}
use Rattle.branches.specs.declared.memo.Naming.{Naming}
use Rattle.decomposition.specs.Bodies.{reduction, reduced, OneBy}
use Rattle.decomposition.specs.PlainLaws.{other}

-- ---- whether it stays whole
stays_narrow : (l : List Atom) → ltb max_body_vars (body_var_count_from l 0) ≡ false → stays_whole l ≡ true
stays_narrow l e = ap (λ (b : Bool). b || other l) (le-leb (body_var_count l) 8 (omega (arith, ltb-false 8 (body_var_count_from l 0) e, count_root l)))

stays_other : (l : List Atom) → other l ≡ true → stays_whole l ≡ true
stays_other l e = ap (λ (b : Bool). leb (body_var_count l) 8 || b) e ∙ or-true (leb (body_var_count l) 8)

stays_not : (l : List Atom) → ltb max_body_vars (body_var_count_from l 0) ≡ true → other l ≡ false → stays_whole l ≡ false
stays_not l e f = ap₂ (λ (a b : Bool). a || b) (lt-leb (body_var_count l) 8 (omega (arith, ltb-true 8 (body_var_count_from l 0) e, count_root l))) f

-- ---- the answer
module _ (w : List ℕ) (s : Naming) (x : Clause) (z : Rules.Naming) where
  whole : stays_whole x.body ≡ true → NamedHeld w s z → OneBy w s x (reduced x z) (Ok None)
  whole e H = subst (λ (b : Bool). OneBy w s x (reduction x b z) (Ok None)) (sym e) H

  pub one_narrow : false ≡ ltb max_body_vars (body_var_count_from x.body 0) → NamedHeld w s z → OneBy w s x (reduced x z) (Ok None)
  one_narrow e H = whole (stays_narrow x.body (sym e)) H

  answer : (l : List Atom) (kept : List ℕ) (o : Res Rules.Naming (Option (List Atom))) (r : Reduced) → ReducedBy w body_at (length x.body) l kept s o r → OneBy w s x o r
  answer l kept (ok (some b) y) (Ok (Some m)) t = t
  answer l kept (ok (some b) y) (Ok None) t = t
  answer l kept (ok (some b) y) (Err k) t = t
  answer l kept (ok none y) (Ok (Some m)) t = t
  answer l kept (ok none y) (Ok None) t = t.held
  answer l kept (ok none y) (Err k) t = t
  answer l kept (refused k) r t = t

  pub one_named : (nb : ℕ) (r : Reduced) → nb ≡ length x.body → true ≡ ltb max_body_vars (body_var_count_from x.body 0) → other x.body ≡ false
      → ReducedBy w body_at nb x.body (head_vars x.head) s (name_branches x.body 0 (head_vars x.head) z) r → OneBy w s x (reduced x z) r
  one_named nb r q e f t =
      let u : ReducedBy w body_at (length x.body) x.body (head_vars x.head) s (name_branches x.body 0 (head_vars x.head) z) r = rw q at t in
      subst (λ (b : Bool). OneBy w s x (reduction x b z) r) (sym (stays_not x.body (sym e) f)) (answer x.body (head_vars x.head) (name_branches x.body 0 (head_vars x.head) z) r u)
