use native.Mathlib.Omega.{arith}
use mathlib.Core.Path.{refl, sym, subst, ◌∙◌}
use Prim.Native.Nat.{suc, ◌*◌}
use lib.ListN.{length, drop, replicate}
use Rattle.words.specs.Words.{words}
use Rattle.words.specs.Laws.{length_words}
use Rattle.states.specs.State.{StateTold, state_by}
use Rattle.std.specs.Prelude.{Err, None}
use Rattle.layouts.specs.Read.{known_of, StatedAs}
use Rattle.layouts.specs.Lines.{before, FirstLine, FirstAs}
use Rattle.layouts.proofs.Blanks.{no_set, no_row, rows_before, same_read, same_stated}
use Rattle.layouts.proofs.read_state.Goals as goal

pub returns-in_default : goal.returns-in_default
returns-in_default c =
    let e : FirstAs c.args.text.now None = subst (FirstAs c.args.text.now) c.in_default.is c.first_line.ensures.first_as in record {
      stated_as = λ d D. subst (λ (x : StateTold). StatedAs d c.args.m x (words c.args.store.now) (words c.first_line.new.scratch) (Err record { line = 1 })) (sym (e d c.args.m.fresh)) refl;
      kept_to = λ i h. c.first_line.ensures.kept_to i (omega arith);
    }

pub read_lines-requires : goal.read_lines-requires
read_lines-requires c =
    let size = c.in-Some.first.size in
    let q = c.in-Some.first.behind in
    let F : FirstLine c.args.text.now size q = subst (FirstAs c.args.text.now) c.in-Some.is c.first_line.ensures.first_as in
    record {
      some = F.some;
      few = F.few;
      room = omega (arith, c.requires.0, c.clear.auto.s);
      space = omega (arith, c.requires.1, c.first_line.auto.scratch, c.clear_words.auto.s);
      within = F.within;
      classes = λ k. no_set c.clear.new.s (length c.args.store.now) k c.clear.ensures;
      rows = λ code x g z. no_row (words c.first_line.new.scratch) (words c.clear_words.new.s) c.args.m.roles code x c.clear_words.ensures (omega (arith, c.args.m.few_roles, c.requires.1, c.first_line.auto.scratch, length_words c.first_line.new.scratch)) g z;
    }

pub returns : goal.returns
returns c =
    let size = c.in-Some.first.size in
    let q = c.in-Some.first.behind in
    let F : FirstLine c.args.text.now size q = subst (FirstAs c.args.text.now) c.in-Some.is c.first_line.ensures.first_as in
    let text = c.args.text.now in
    let m = c.args.m in record {
      stated_as = λ d D. subst (λ (x : StateTold). StatedAs d m x (words c.read_lines.new.store) (words c.read_lines.new.scratch) c.read_lines.result) (sym (F.read d m.fresh ∙ same_read d m D (suc (length (drop q text))) m.fresh 2 (before 50 0 size) (drop q text))) (same_stated d m D (state_by (suc (length (drop q text))) (known_of m) m.fresh 2 (before 50 0 size) (drop q text)) (words c.read_lines.new.store) (words c.read_lines.new.scratch) c.read_lines.result c.read_lines.ensures.stated_as);
      kept_to = λ i h. c.read_lines.ensures.kept_to i (omega arith) ∙ rows_before (words c.first_line.new.scratch) (words c.clear_words.new.s) (replicate (256 * m.roles) 0) c.clear_words.ensures i (omega arith) ∙ c.first_line.ensures.kept_to i (omega arith);
    }
