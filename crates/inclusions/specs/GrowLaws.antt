-- A pool that has grown, with the rows of its antecedents filled again. Assumes nothing.
use Rattle.std.specs.Prelude.{◌≡◌, refl, List, ℕ, ◌*◌, ◌<◌, ◌≤◌, length, get_or, take}
use Rattle.std.proofs.Common.{sym, ap, subst, ◌∙◌, arith, take-take}
use Rattle.words.specs.Words.{words}
use Rattle.words.specs.Laws.{words_long, word_front}
use Rattle.ir.specs.Scratch.{keys_at, alternatives_at, axioms_at, stack_at}
use Rattle.ir.specs.declared.counters.Counters.{Counters}
use Rattle.ir.specs.Answer.{Done}
use Rattle.rules.specs.Base.{Res, ok, refused}
use Rattle.rules.specs.Normalize.{St, N}
use Rattle.rules.specs.Invariants.{Wf, Grown}
use Rattle.rules.specs.Pool.{Pool}
use Rattle.rules.specs.PoolLaws.{grown_refl, grown_trans}
use Rattle.pool.specs.Layout.{pool_words, pool_of}
use Rattle.pool.specs.Answers.{after}
use Rattle.pool.specs.Held.{Ready}
use Rattle.pool.specs.HeldLaws.{pool_kept, held_kept, word_above}
use Rattle.rebuilding.specs.States.{state_of, counted, told}
use Rattle.normalize.specs.StateLaws.{grown_count}
use Rattle.tables.specs.Good.{Good, Alike}
use Rattle.waiting.specs.Limits.{Behind}
use Rattle.leaves.specs.Reading.{Reading}
use Rattle.antecedents.specs.Table.{Numbered, Outside}
use Rattle.antecedents.specs.TableLaws.{numbered_kept, outside_pool}
use Rattle.axioms.specs.Bodies.{Encoding}
use Rattle.axioms.specs.BodyLaws.{encoding_kept}
use Rattle.axioms.specs.Wholes.{Clausifying, Untouched, Onward}
use Rattle.inclusions.specs.Parted.{Normalised}
use Rattle.axioms.specs.OnwardLaws.{roles_untouched, untouched_then, untouched_kept, onward_then}

-- ---- scratch below n is as it was
module _ (s s' : List ℕ) (k : Counters) (n : ℕ) (R : Reading s k) (at : pool_words ≤ n) (e : take n (words s') ≡ take n (words s)) where
  front : take pool_words (words s') ≡ take pool_words (words s)
  front = sym (take-take pool_words n (words s') at) ∙ ap (take pool_words) e ∙ take-take pool_words n (words s) at

  pub front_pool : pool_of (words s') k.concepts ≡ pool_of (words s) k.concepts
  front_pool = pool_kept (words s) (words s') k.concepts k.members R.ready.held front

  pub front_reading : length s' ≡ length s → Reading s' k
  front_reading l = record {
    room = rw l R.room;
    bounds = R.bounds;
    ready = record { room = rw l R.ready.room; held = held_kept (words s) (words s') k.concepts k.members R.ready.held front (words_long s s' l) };
    wf = subst (Wf R.bounds) (sym front_pool) R.wf;
    classes = R.classes;
    individuals = R.individuals;
    roles = R.roles;
    nominals = R.nominals;
  }

pub untouched_front : (w w' : List ℕ) → take stack_at w' ≡ take stack_at w → Untouched w w'
untouched_front w w' e = untouched_kept w w' (λ j a b. word_front stack_at w w' e j b)

-- what the code asks holds again
pub clausifying_front : (s s' : List ℕ) (k l : Counters) → Clausifying s k → length s' ≡ length s → take stack_at (words s') ≡ take stack_at (words s) → Alike k l → Good l → Clausifying s' l
clausifying_front s s' k l C ls e A g =
    let N = C.encoding in
    let p = front_pool s s' k stack_at N.reading (omega arith) e in
    let again : Encoding s' k = record {
      reading = front_reading s s' k stack_at N.reading (omega arith) e ls;
      rows = numbered_kept (words s) (words s') k.concepts k.members k.concepts N.reading.ready.held (subst (Grown (pool_of (words s) k.concepts)) (sym p) (grown_refl (pool_of (words s) k.concepts)))
          (λ j a b. word_front stack_at (words s) (words s') e j (omega arith)) N.rows;
      canon = N.canon;
      roles = roles_untouched (words s) (words s') N.canon (untouched_front (words s) (words s') e) N.roles;
    } in
    record { encoding = encoding_kept s' s' k l refl refl A again; good = g; space = rw ls C.space; queue = rw ls C.queue }

-- ---- a pool that has grown
pub record Grew (s s' : List ℕ) (k k' : Counters) : Type 0 where
  pub reading : Reading s' k'
  pub good : Good k'
  pub grown : Grown (pool_of (words s) k.concepts) (pool_of (words s') k'.concepts)
  pub onward : Onward k k'
  pub kept : (j : ℕ) → keys_at ≤ j → j < stack_at → get_or (words s') j 0 ≡ get_or (words s) j 0

told_onward : (k l : Counters) (i : ℕ) (w' : List ℕ) (X : Res St ℕ) → after (Done l i) w' ≡ told k X → k.concepts ≤ l.concepts → Onward k l
told_onward k l i w' (ok j t) e h =
    let q : l ≡ counted k t = cc in
    record { nominals = ap (λ (z : Counters). z.nominal_base) q; options = ap (λ (z : Counters). z.options) q; concepts = h }
told_onward k l i w' (refused n) e h = absurd (let z : ◌≡◌ {A = ℕ} 0 1 = cc in omega arith)

pub grew_normal : (rule : N ℕ) (k l : Counters) (i : ℕ) (s s' : List ℕ) → Normalised rule k s s' (Done l i) → Grew s s' k l
grew_normal rule k l i s s' M = record {
  reading = M.interned.reading;
  good = M.interned.good;
  grown = M.interned.grown;
  onward = told_onward k l i (words s') (rule (state_of k (words s))) M.equal (grown_count (words s) (words s') k.concepts l.concepts M.interned.grown);
  kept = M.before;
}

pub grew_then : (s s' s'' : List ℕ) (k k' k'' : Counters) → Grew s s' k k' → Grew s' s'' k' k'' → Grew s s'' k k''
grew_then s s' s'' k k' k'' G M = record {
  reading = M.reading;
  good = M.good;
  grown = grown_trans G.grown M.grown;
  onward = onward_then k k' k'' G.onward M.onward;
  kept = λ j a b. M.kept j a b ∙ G.kept j a b;
}

-- its rows, so far as they were filled
grew_rows : (s s' : List ℕ) (k k' : Counters) → Encoding s k → Grew s s' k k' → Numbered (words s') (pool_of (words s') k'.concepts) k.concepts
grew_rows s s' k k' N G = numbered_kept (words s) (words s') k.concepts k.members k'.concepts N.reading.ready.held G.grown (λ j a b. G.kept j (omega arith) (omega arith)) N.rows

-- what number_alternatives asks
pub grew_asks : (s s' : List ℕ) (k k' : Counters) → Clausifying s k → length s' ≡ length s → Grew s s' k k' → Ready s' k' × (4 * axioms_at ≤ length s') × (k.concepts ≤ k'.concepts) × Numbered (words s') (pool_of (words s') k'.concepts) k.concepts
grew_asks s s' k k' K l G = (G.reading.ready, omega (arith, K.space, l), G.onward.concepts, grew_rows s s' k k' K.encoding G)

-- and all of them
module _ (s s1 s2 : List ℕ) (k l : Counters) (G : Grew s s1 k l) (O : Outside (words s1) (words s2)) where
  pub filled_pool : pool_of (words s2) l.concepts ≡ pool_of (words s1) l.concepts
  filled_pool = outside_pool (words s1) (words s2) O l.concepts l.members G.reading.ready.held

  pub filled_untouched : Untouched (words s) (words s2)
  filled_untouched = untouched_then (words s) (words s1) (words s2) (untouched_kept (words s) (words s1) G.kept)
      (record { maps = λ j a b. word_front alternatives_at (words s1) (words s2) O.low j b; axioms = λ j a b. word_above axioms_at (words s1) (words s2) O.high j a })

  pub filled_clausifying : Clausifying s k → length s1 ≡ length s → length s2 ≡ length s1 → Numbered (words s2) (pool_of (words s1) l.concepts) l.concepts → Clausifying s2 l
  filled_clausifying C l1 l2 N = record {
    encoding = record {
      reading = front_reading s1 s2 l alternatives_at G.reading (omega arith) O.low l2;
      rows = subst (λ (p : Pool). Numbered (words s2) p l.concepts) (sym filled_pool) N;
      canon = C.encoding.canon;
      roles = roles_untouched (words s) (words s2) C.encoding.canon filled_untouched C.encoding.roles;
    };
    good = G.good;
    space = omega (arith, C.space, l1, l2);
    queue = omega (arith, C.queue, l1, l2);
  }

-- the limits that wait stand behind the rows
pub outside_behind : (w w' : List ℕ) → Outside w w' → Behind w w'
outside_behind w w' O = record { same = λ j h. word_above axioms_at w w' O.high j (omega arith) }
