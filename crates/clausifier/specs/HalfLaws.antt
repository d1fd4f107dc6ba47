-- One limit: its name enters the pool, and its filler is below the name. Assumes nothing.
use Rattle.std.specs.Prelude.{◌≡◌, List, ℕ, ◌<◌, length, drop}
use Rattle.std.proofs.Common.{◌∙◌, le_refl, arith}
use Rattle.words.specs.Words.{words}
use Rattle.ir.specs.declared.counters.Counters.{Counters}
use Rattle.ir.specs.Answer.{Answer}
use Rattle.ir.specs.Answer.{Done, Refused}
use Rattle.rules.specs.Concept.{Atomic}
use Rattle.rules.specs.Pool.{intern_raw}
use Rattle.rules.specs.Normalize.{N, in_pool}
use Rattle.rules.specs.Axioms.{clausify_gci, other_half}
use Rattle.rules.specs.Invariants.{up_to}
use Rattle.rules.specs.PoolLaws.{intern_made}
use Rattle.rules.specs.LimitLaws.{wf_up}
use Rattle.rules.proofs.AxiomLaws.{pool_made}
use Rattle.pool.specs.Layout.{pool_words, pool_of}
use Rattle.pool.specs.HeldLaws.{word_above}
use Rattle.pool.specs.Answers.{Interned}
use Rattle.rebuilding.specs.States.{state_of}
use Rattle.normalize.specs.StateLaws.{shown_told}
use Rattle.tables.specs.Good.{most_names}
use Rattle.hands.specs.Hands.{Four, four}
use Rattle.leaves.specs.Reading.{Reading}
use Rattle.antecedents.specs.Table.{Outside}
use Rattle.axioms.specs.Wholes.{Clausifying, Clausified, Queued}
use Rattle.axioms.specs.QueuedLaws.{queued_no}
use Rattle.inclusions.specs.Parted.{Normalised}
use Rattle.inclusions.specs.InternLaws.{normalised}
use Rattle.inclusions.specs.GrowLaws.{grew_normal, outside_behind, filled_pool, filled_untouched}
use Rattle.inclusions.specs.NormalLaws.{nnf_then, nnf_queued, nnf_stop}
use Rattle.clausifier.specs.Settles.{limit_of}

abbrev pub name_rule : ℕ → N ℕ
name_rule name = in_pool (intern_raw (Atomic name))

-- a pool that may name the limits' classes
abbrev reading_more : (s : List ℕ) (k : Counters) → Reading s k → Reading s k
reading_more s k R = record {
  room = R.room;
  bounds = up_to R.bounds most_names;
  ready = R.ready;
  wf = wf_up R.bounds {m = R.bounds.classes} R.classes (pool_of (words s) k.concepts) R.wf;
  classes = le_refl most_names;
  individuals = R.individuals;
  roles = R.roles;
  nominals = R.nominals;
}

-- the name, as mk_atomic makes it
pub name_normalised : (s s1 : List ℕ) (k : Counters) (name : ℕ) (r : Answer) → Clausifying s k → name < most_names → length s1 ≡ length s
    → Interned k (intern_raw (Atomic name)) (words s) (words s1) r → drop pool_words (words s1) ≡ drop pool_words (words s) → Normalised (name_rule name) k s s1 r
name_normalised s s1 k name r C h l I e =
    let R = reading_more s k C.encoding.reading in
    normalised (name_rule name) k s s1 R C.good l
    (pool_made (state_of k (words s)) (intern_made (up_to C.encoding.reading.bounds most_names) (Atomic name) (pool_of (words s) k.concepts) R.wf h))
    r (I.equal ∙ shown_told k (words s) (intern_raw (Atomic name))) I.held
    (record { before = λ j a b. word_above pool_words (words s) (words s1) e j (omega arith); behind = λ j a. word_above pool_words (words s) (words s1) e j (omega arith) })

-- ---- from scratch's bytes s, over s1 with the name and s2 with its row
module _ (filler name : ℕ) (k : Counters) (s s1 c a d : List ℕ) where
  module _ (l : Counters) (i : ℕ) (s2 : List ℕ) (y : Four) (M : Normalised (name_rule name) k s s1 (Done l i)) (O : Outside (words s1) (words s2)) where
    pub half_done : (r : Answer) → Clausified (λ env. clausify_gci env filler i) l (four (words s2) c a d) y r → Clausified (λ env. other_half env (limit_of filler name)) k (four (words s) c a d) y r
    unfolding other_half
    half_done r K =
        let G = grew_normal (name_rule name) k l i s s1 M in
        nnf_then (name_rule name) k s s1 c a d (λ env j. clausify_gci env filler j) l i s2 y r M (filled_pool s s1 s2 k l G O) (filled_untouched s s1 s2 k l G O) K

    pub half_queued : Queued (λ env. clausify_gci env filler i) l (four (words s2) c a d) y → Queued (λ env. other_half env (limit_of filler name)) k (four (words s) c a d) y
    unfolding other_half
    half_queued Q =
        let G = grew_normal (name_rule name) k l i s s1 M in
        nnf_queued (name_rule name) k s s1 c a d (λ env j. clausify_gci env filler j) l i s2 y M (filled_pool s s1 s2 k l G O) (filled_untouched s s1 s2 k l G O) (outside_behind (words s1) (words s2) O) Q

  -- or the pool is full
  pub half_stop : (e : ℕ) → Normalised (name_rule name) k s s1 (Refused e)
      → Clausified (λ env. other_half env (limit_of filler name)) k (four (words s) c a d) (four (words s1) c a d) (Refused e) × Queued (λ env. other_half env (limit_of filler name)) k (four (words s) c a d) (four (words s1) c a d)
  unfolding other_half
  half_stop e M =
      let D = nnf_stop (name_rule name) k s s1 c a d (λ env j. clausify_gci env filler j) e M in
      (D, queued_no (λ env. other_half env (limit_of filler name)) k (four (words s) c a d) (four (words s1) c a d) e D)
