use native.Mathlib.Omega.{arith}
use mathlib.Core.Path.{◌≡◌, refl, subst, ◌∙◌}
use Prim.Native.Nat.{ℕ, ◌<◌, ◌≤◌}
use lib.ListN.{length}
use Rattle.words.specs.Words.{words}
use Rattle.words.specs.Laws.{length_words}
use Rattle.ir.specs.Scratch.{roles_at}
use Rattle.rules.specs.Base.{contains}
use Rattle.rules.specs.Deck.{most_classes}
use Rattle.deck.specs.Records.{tab, key_in}
use Rattle.ontology.specs.Layout.{is_key}
use Rattle.ontology.proofs.KeyLaws.{marking_first, marking_next, key_is, key_few}
use Rattle.ontology.proofs.keys.load_keys.Goals as goal

pub loop-i-init : goal.loop-i-init
loop-i-init c = (refl, λ w l M. M)

pub key-class-requires : goal.key-class-requires
key-class-requires c = (c.requires.1, c.loop-i-test.true)

pub overflow_add-class : goal.overflow_add-class
overflow_add-class c = omega (arith, key_few (key_in c.args.deck.now c.args.st.marks) c.args.st.keys c.loop-i.i c.key-class.result c.requires.2 c.key-class.ensures)

pub put_word-requires : goal.put_word-requires
put_word-requires c = omega (arith, key_few (key_in c.args.deck.now c.args.st.marks) c.args.st.keys c.loop-i.i c.key-class.result c.requires.2 c.key-class.ensures, c.loop-i.invariant.0, c.clear_words.auto.s, c.requires.0)

pub loop-i-preserved : goal.loop-i-preserved
loop-i-preserved c =
    let l = c.loop-i in
    let k = c.key-class in
    let p = c.put_word in
    let f = key_in c.args.deck.now c.args.st.marks in (
      p.auto.s ∙ l.invariant.0,
      λ w h M. marking_next f w h l.i (words l.scratch) (l.invariant.1 w h M) k.result (key_is f c.args.st.keys l.i k.result c.loop-i-test.true k.ensures) (key_few f c.args.st.keys l.i k.result c.requires.2 k.ensures) (words p.new.s) p.ensures,
    )

pub shape_of-scratch : goal.shape_of-scratch
shape_of-scratch c = c.loop-i.invariant.0 ∙ c.clear_words.auto.s

pub returns : goal.returns
returns c =
    let l = c.loop-i in
    let f = key_in c.args.deck.now c.args.st.marks in
    let h : roles_at ≤ length (words c.args.scratch.now) = rw (length_words c.args.scratch.now) (omega (arith, c.requires.0)) in
    let e : l.i ≡ c.args.st.keys = omega (arith, c.loop-i.auto.i-end, c.loop-i-test.false) in
    let m = l.invariant.1 (words c.args.scratch.now) h (marking_first f (words c.args.scratch.now) h (words c.clear_words.new.s) c.clear_words.ensures) in
    record {
      keys_held = record { marked = subst (λ (j : ℕ). (a : ℕ) → a < most_classes → is_key (words l.scratch) a ≡ contains (tab f j) a) e m.marked };
      kept = m.before;
      kept_2 = m.behind;
    }
