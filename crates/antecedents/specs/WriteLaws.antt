-- Laws of the writing: what is written stands whole where there is room, and what is read stays as it was. Assumes nothing.
use Rattle.std.specs.Prelude.{◌≡◌, refl, Bool, true, false, List, [], ◌∷◌, ◌++◌, ℕ, zero, suc, ◌+◌, ◌*◌, ◌/◌, ◌<◌, ◌≤◌, ltb, length, get_or, take}
use Rattle.std.proofs.Common.{sym, ap, ◌∙◌, subst, arith, add-zero, get_or-take, lt-ltb}
use Rattle.std.proofs.Math.Option.{some}
use Rattle.std.proofs.lemmas.List.Edits.{sets}
use Rattle.std.proofs.Math.Seq.{length-sets}
use Rattle.words.specs.Words.{words}
use Rattle.words.specs.Runs.{take_sets}
use Rattle.words.specs.Laws.{frame_less, words_long}
use Rattle.ir.specs.Pick.{pick}
use Rattle.ir.specs.Records.{six}
use Rattle.ir.specs.Scratch.{roles_at, alternatives_at, hands_at}
use Rattle.ir.specs.declared.atom.Atom.{Atom}
use Rattle.ir.specs.declared.counters.Counters.{Counters}
use Rattle.rules.specs.Base.{ok}
use Rattle.rules.specs.Run.{flat}
use Rattle.rules.specs.State.{Env, Out}
use Rattle.rules.specs.Antecedents.{Alternatives, encode_by}
use Rattle.rules.specs.Inverse.{InverseCanon}
use Rattle.rules.specs.Pool.{Pool, at as entry}
use Rattle.pool.specs.Layout.{pool_words, concept_at, pool_of}
use Rattle.pool.specs.Held.{Held}
use Rattle.pool.specs.HeldLaws.{pool_length, pool_at, pool_kept, held_kept}
use Rattle.inverse.specs.Layout.{RolesHeld}
use Rattle.antecedents.specs.States.{Fine, longest}
use Rattle.antecedents.specs.Stands.{Stands}
use Rattle.antecedents.specs.Table.{size_in, vars_in, Numbered}
use Rattle.antecedents.specs.TableLaws.{held_below, numbered_same}
use Rattle.antecedents.specs.Picks.{pick_alt, put_at, write_on}
use Rattle.antecedents.specs.PickLaws.{told}
use Rattle.antecedents.specs.Writes.{Named, Writable, Reads, Kept, Wrote, Stored, Written}

-- ---- writing
pub write_append : (a b : List Atom) (s : List ℕ × ℕ) → write_on s (a ++ b) ≡ write_on (write_on s a) b
unfolding write_on
write_append [] b s = refl
write_append (x ∷ a) b s = write_append a b (put_at s.0 s.1 x)

pub put_kept : (w : List ℕ) (at : ℕ) (a : Atom) (w' : List ℕ) (r : ℕ) → (w', r) ≡ put_at w at a → Kept w at w' r
put_kept w at a w' r e = go (ltb at (length w / 6)) e
  where
    go : (b : Bool) → ◌≡◌ {A = List ℕ × ℕ} (w', r) (pick b (sets w (6 * at) (six a), at + 1) (w, at)) → Kept w at w' r
    go true q = record {
      low = ap (λ (s : List ℕ × ℕ). take (6 * at) s.0) q ∙ take_sets (six a) w (6 * at) (6 * at) (omega arith);
      up = let z : r ≡ at + 1 = ap (λ (s : List ℕ × ℕ). s.1) q in omega arith;
    }
    go false q = record { low = ap (λ (s : List ℕ × ℕ). take (6 * at) s.0) q; up = let z : r ≡ at = ap (λ (s : List ℕ × ℕ). s.1) q in omega arith }

pub kept_none : (w : List ℕ) (at : ℕ) → Kept w at w at
kept_none w at = record { low = refl; up = omega arith }

pub kept_trans : (w w' w'' : List ℕ) (at p r : ℕ) → Kept w at w' p → Kept w' p w'' r → Kept w at w'' r
kept_trans w w' w'' at p r X Y = record {
  low = frame_less (6 * at) (6 * p) w' w'' (omega (arith, X.up)) Y.low ∙ X.low;
  up = omega (arith, X.up, Y.up);
}

sets_six : (w : List ℕ) (a : Atom) (ys : List ℕ) (i j : ℕ) → j ≡ i + 6 → sets (sets w i (six a)) j ys ≡ sets w i (six a ++ ys)
sets_six w a ys i j e = let d : j ≡ suc (suc (suc (suc (suc (suc i))))) = omega arith in rw d refl

-- the atoms l from record `at` on
abbrev pub written : List ℕ → ℕ → List Atom → List ℕ × ℕ
written w at l = (sets w (6 * at) (flat l), at + length l)

pub write_room : (l : List Atom) (w : List ℕ) (at : ℕ) → at + length l ≤ length w / 6 → write_on (w, at) l ≡ written w at l
unfolding write_on flat
write_room [] w at h = ap (λ (n : ℕ). (w, n)) (sym (add-zero at))
write_room (a ∷ l) w at h =
    let w₁ : List ℕ = sets w (6 * at) (six a) in
    let e : length w₁ ≡ length w = length-sets w (6 * at) (six a) in
    let lt : at < length w / 6 = omega arith in
    let h₁ : at + 1 + length l ≤ length w₁ / 6 = rw e (omega arith) in
    let q : at + 1 + length l ≡ at + suc (length l) = omega arith in
    rw (lt-ltb at (length w / 6) lt) (write_room l w₁ (at + 1) h₁ ∙ rw (sets_six w a (flat l) (6 * at) (6 * (at + 1)) (omega arith), q) refl)

-- ---- below the hands nothing is changed
pub kept_hands : (w : List ℕ) (at : ℕ) (w' : List ℕ) (r : ℕ) → hands_at ≤ 6 * at → Kept w at w' r → take hands_at w' ≡ take hands_at w
kept_hands w at w' r h K = frame_less hands_at (6 * at) w w' h K.low

module _ (w w' : List ℕ) (e : take hands_at w' ≡ take hands_at w) where
  pub hands_word : (i : ℕ) → i < hands_at → get_or w' i 0 ≡ get_or w i 0
  hands_word i h = sym (get_or-take hands_at w' i 0 h) ∙ ap (λ (l : List ℕ). get_or l i 0) e ∙ get_or-take hands_at w i 0 h

  hands_low : take pool_words w' ≡ take pool_words w
  hands_low = frame_less pool_words hands_at w w' (omega arith) e

  pub hands_pool : (n m : ℕ) → Held w n m → pool_of w' n ≡ pool_of w n
  hands_pool n m H = pool_kept w w' n m H hands_low

  pub hands_held : (n m : ℕ) → Held w n m → length w' ≡ length w → Held w' n m
  hands_held n m H l = held_kept w w' n m H hands_low l

  pub hands_numbered : (n m i : ℕ) → Held w n m → i ≤ n → Numbered w (pool_of w n) i → Numbered w' (pool_of w' n) i
  hands_numbered n m i H h N = subst (λ (p : Pool). Numbered w' p i) (sym (hands_pool n m H))
      (numbered_same (pool_of w n) (held_below w n m H) i (rw (pool_length w n) h) (omega (arith, H.few)) w w' (λ j a b. hands_word j (omega arith)) N)

  pub hands_roles : (canon : InverseCanon) → RolesHeld w canon → RolesHeld w' canon
  hands_roles canon R = record { mapped = λ r h. hands_word (roles_at + r) (omega arith) ∙ R.mapped r h }

-- ---- what is read
module _ (w w₀ : List ℕ) (n : ℕ) (canon : InverseCanon) (R : Reads w w₀ n canon) where
  pub concept_like : (c : ℕ) → c < n → entry (pool_of w₀ n) c ≡ concept_at w c
  concept_like c h = ap (λ (p : Pool). entry p c) (sym (hands_pool w₀ w R.like n R.members R.held)) ∙ pool_at w n c h

  pub size_like : (c : ℕ) → c < n → size_in w c ≡ size_in w₀ c
  size_like c h = hands_word w₀ w R.like (alternatives_at + 2 * c) (omega (arith, R.held.few))

  pub vars_like : (c : ℕ) → c < n → vars_in w c ≡ vars_in w₀ c
  vars_like c h = hands_word w₀ w R.like (alternatives_at + 2 * c + 1) (omega (arith, R.held.few))

  pub roles_like : RolesHeld w canon
  roles_like = hands_roles w₀ w R.like canon R.roles

  pub reads_kept : (at : ℕ) (w' : List ℕ) (r : ℕ) → hands_at ≤ 6 * at → Kept w at w' r → Reads w' w₀ n canon
  reads_kept at w' r h K = record { like = kept_hands w at w' r h K ∙ R.like; members = R.members; held = R.held; roles = R.roles }

module _ (s : List ℕ) (base c : ℕ) (S : Writable s base c) where
  pub writable_stands : Stands s c
  writable_stands = record { concepts = S.concepts; members = S.members; room = omega (arith, S.room); held = S.held; inside = S.inside }

  pub writable_below : (x : ℕ) → x < c → Writable s base x
  writable_below x h = record { concepts = S.concepts; members = S.members; room = S.room; held = S.held; inside = omega (arith, S.inside); named = S.named }

  pub writable_kept : (s' : List ℕ) (at r : ℕ) → hands_at ≤ 6 * at → length s' ≡ length s → Kept (words s) at (words s') r → Writable s' base c
  writable_kept s' at r h l K =
      let e = kept_hands (words s) at (words s') r h K in
      record {
        concepts = S.concepts;
        members = S.members;
        room = rw l S.room;
        held = hands_held (words s) (words s') e S.concepts S.members S.held (words_long s s' l);
        inside = S.inside;
        named = subst (λ (q : Pool). Named q base) (sym (hands_pool (words s) (words s') e S.concepts S.members S.held)) S.named;
      }

-- ---- the rule's alternative, written
short_at : (l : Alternatives) (i : ℕ) → longest l ≤ 256 → length (get_or l i []) ≤ 256
unfolding longest
short_at [] i h = omega arith
short_at (b ∷ l) zero h = omega arith
short_at (b ∷ l) (suc i) h = short_at l i (omega arith)

pub written_by : (w : List ℕ) (k : Counters) (base c v y i : ℕ) (w' : List ℕ) (r : ℕ) → Held w k.concepts k.members → Numbered w (pool_of w k.concepts) k.concepts
    → c < k.concepts → 6 * (base + 256) ≤ length w → Wrote k.nominal_base w c v y i base w' r → Written w k base c v y i w' r
written_by w k base c v y i w' r H N lc room X = record { kept = X.kept; rule = λ env f s l s' R eb lf ey F e li. go env f s l s' R eb lf ey F e li }
  where
    go : (env : Env) (f : ℕ) (s : Out) (l : Alternatives) (s' : Out) → RolesHeld w env.inverse_canon → k.nominal_base ≡ env.nominal_base → c < f → y ≡ s.next_var → Fine s
        → encode_by env (pool_of w k.concepts) f c v s ≡ ok (some l) s' → i < length l
        → Stored w base (get_or l i []) w' r
    go env f s l s' R eb lf ey F e li =
        let p = pool_of w k.concepts in
        let len : length p ≡ k.concepts = pool_length w k.concepts in
        let T = told env p w (held_below w k.concepts k.members H) (subst (λ (z : ℕ). Numbered w p z) (sym len) N) f c v s l s' (omega arith) F e in
        let reads : Reads w w k.concepts env.inverse_canon = record { like = refl; members = k.members; held = H; roles = R } in
        let b : length (get_or l i []) ≤ 256 = short_at l i T.short in
        let q : ◌≡◌ {A = List ℕ × ℕ} (w', r) (written w base (get_or l i [])) =
        X.same w k.concepts f env.inverse_canon reads lc lf
        ∙ ap (λ (a : List Atom). write_on (w, base) a) (ap (λ (z : ℕ). pick_alt env.inverse_canon z p w f c v y i) eb ∙ ap (λ (z : ℕ). pick_alt env.inverse_canon env.nominal_base p w f c v z i) ey ∙ T.same i li)
        ∙ write_room (get_or l i []) w base (omega arith) in
        record { words = ap (λ (z : List ℕ × ℕ). z.0) q; next = ap (λ (z : List ℕ × ℕ). z.1) q; short = b }
