-- What is known stays known where the pool grows and the words stay; and one word more. Assumes nothing.
use Rattle.std.specs.Prelude.{◌≡◌, refl, Bool, true, false, List, ℕ, suc, ◌+◌, ◌*◌, ◌-◌, ◌/◌, ◌%◌, ◌<◌, ◌≤◌, eqb, ltb, leb, length, get_or, set, Option, Some, None}
use Rattle.std.proofs.Common.{ap, ◌∙◌, arith, get_or-set_same, get_or-set_other, eqb-true}
use Prim.{tt}
use Rattle.std.proofs.lemmas.Bool.{eqb-false}
use Rattle.ir.specs.Scratch.{normal_forms_at, hands_at}
use Rattle.ir.specs.declared.counters.Counters.{Counters}
use Rattle.ir.specs.Answer.{Answer}
use Rattle.ir.specs.Answer.{Done, Refused}
use Rattle.rules.specs.Base.{ok}
use Rattle.rules.specs.Pool.{most_concepts}
use Rattle.rules.specs.Invariants.{Bounds, Wf, Grown}
use Rattle.rules.specs.PoolLaws.{grown_refl}
use Rattle.rules.specs.DepthLaws.{depth}
use Rattle.rules.proofs.NormalizeLaws.{Done as IdDone}
use Rattle.rules.specs.Post.{Post, gives}
use Rattle.rules.specs.TextLaws.{by_test}
use Rattle.pool.specs.Layout.{pool_words, pool_of}
use Rattle.pool.specs.Held.{Held}
use Rattle.pool.specs.Answers.{drawn, after, HeldAfter}
use Rattle.pool.specs.HeldLaws.{pool_length}
use Rattle.rules.specs.Normalize.{nnf_by}
use Rattle.rebuilding.specs.States.{state_of, told, Kept}
use Rattle.normalize.specs.StateLaws.{stated, by_done}
use Rattle.normalize.specs.Settled.{later, paid, Settled}
use Rattle.normalize.specs.SettledLaws.{again, settled_grown}
use Rattle.normalize.specs.declared.known.Form.{Form}
use Rattle.normalize.specs.Known.{form_at, read_form, Known, KnownIf, KnownAfter, revisited, kept_form, kept_answer, MadeSince}
use Rattle.normalize.specs.KeptLaws.{Under, under_set}

-- where the words stand
pub form_in : (b : Bool) (c : ℕ) → c < most_concepts → (normal_forms_at ≤ form_at b c) × (form_at b c < hands_at)
form_in false c h = (omega arith, omega arith)
form_in true c h = (omega arith, omega arith)

form_same : (b d : Bool) (c e : ℕ) → form_at b c ≡ form_at d e → (b ≡ d) × (c ≡ e)
form_same false false c e h = (refl, omega arith)
form_same true true c e h = (refl, omega arith)
form_same false true c e h = absurd (omega arith)
form_same true false c e h = absurd (omega arith)

-- ---- a pool that grows, over words that stay
module _ (w w' : List ℕ) (n n' : ℕ) (G : Grown (pool_of w n) (pool_of w' n')) (same : (j : ℕ) → normal_forms_at ≤ j → j < hands_at → get_or w' j 0 ≡ get_or w j 0) where
  pub known_on : Known w n → Known w' n'
  known_on K = record {
    says = λ b c h l.
        let e : get_or w' (form_at b c) 0 ≡ get_or w (form_at b c) 0 = same (form_at b c) (form_in b c h).0 (form_in b c h).1 in
        rw e (settled_grown G b c _ _ (K.says b c h (rw e at l)));
  }

  pub known_if_on : (m : Bool) → KnownIf m w n → KnownIf m w' n'
  known_if_on true K = known_on K
  known_if_on false K = tt

-- nothing is known where the words are zeros
pub known_nothing : (w : List ℕ) (n : ℕ) → ((j : ℕ) → normal_forms_at ≤ j → j < normal_forms_at + 4096 → get_or w j 0 ≡ 0) → Known w n
known_nothing w n zeros = record { says = λ b c h l. absurd (let e = zeros (form_at b c) (form_in b c h).0 (few b c h) in omega (arith, e)) }
  where
    few : (b : Bool) (c : ℕ) → c < most_concepts → form_at b c < normal_forms_at + 4096
    few false c h = omega arith
    few true c h = omega arith

-- ---- one word more
module _ (w : List ℕ) (n m : ℕ) (H : Held w n m) (long : hands_at ≤ length w) (K : Known w n) (b : Bool) (c i v : ℕ) (h : c < most_concepts) (k : i < most_concepts) (S : Settled (pool_of w n) b c i v) where
  abbrev form : ℕ
  form = most_concepts * v + i

  put : Known (set w (form_at b c) form) n
  put =
      let u = under_set w n m H (form_at b c) (omega (arith, (form_in b c h).0)) form in
      record {
        says = λ d e g l. by_test (eqb (form_at d e) (form_at b c))
            (λ t. here d e (eqb-true (form_at d e) (form_at b c) t) u.pool)
            (λ t. let o = get_or-set_other w (form_at b c) (form_at d e) form 0 (eqb-false (form_at d e) (form_at b c) t) in
            rw (u.pool, o) (K.says d e g (rw o at l)));
      }
    where
      here : (d : Bool) (e : ℕ) → form_at d e ≡ form_at b c → pool_of (set w (form_at b c) form) n ≡ pool_of w n
          → Settled (pool_of (set w (form_at b c) form) n) d e (get_or (set w (form_at b c) form) (form_at d e) 0 % most_concepts) (get_or (set w (form_at b c) form) (form_at d e) 0 / most_concepts)
      here d e q p =
          let s = form_same d b e c q in
          let g : get_or (set w (form_at b c) form) (form_at d e) 0 ≡ form = rw q (get_or-set_same w (form_at b c) form 0 (omega (arith, (form_in b c h).1))) in
          let x : form % most_concepts ≡ i = omega arith in
          let y : form / most_concepts ≡ v = omega arith in
          rw (p, g, x, y, s.0, s.1) S

  pub known_put : Known (kept_form w (form_at b c) i v) n
  known_put = by_test (ltb v 2097152) (λ t. rw t put) (λ t. rw t K)

-- ---- an answer that is known
pub settled : (b : Bool) (c : ℕ) (x : Form) (w : List ℕ) (n : ℕ) → Known w n → c < most_concepts → Some x ≡ read_form (get_or w (form_at b c) 0) → Settled (pool_of w n) b c x.id x.visits
settled b c x w n K h e =
    let y : ℕ = get_or w (form_at b c) 0 in
    by_test (eqb y 0)
    (λ t. absurd (let o : ◌≡◌ {A = Option Form} (Some x) None = e ∙ rw t refl in let z : ◌≡◌ {A = ℕ} 0 1 = cc in omega arith))
    (λ t. let o : ◌≡◌ {A = Option Form} (Some x) (Some (record { id = y % most_concepts; visits = y / most_concepts })) = e ∙ rw t refl in
    let q : x ≡ record { id = y % most_concepts; visits = y / most_concepts } = cc in
    rw q (K.says b c h (omega (arith, eqb-false y 0 t))))

pub revisited_known : (m : Bool) (k : Counters) (x : Form) (w : List ℕ) → KnownIf m w k.concepts → KnownAfter m (revisited k x) w
revisited_known m k x w K = by_test (leb (k.visits + x.visits) k.limit) (λ t. rw t K) (λ t. rw t tt)

module _ (B : Bounds) (w : List ℕ) (k : Counters) (H : Held w k.concepts k.members) (F : Wf B (pool_of w k.concepts)) (b : Bool) (c : ℕ) (x : Form) (h : c < k.concepts) (S : Settled (pool_of w k.concepts) b c x.id x.visits) where
  rule : (f : ℕ) → c < f → nnf_by b f c (state_of k w) ≡ paid x.id x.visits (state_of k w)
  rule f l = S (state_of k w) (grown_refl (pool_of w k.concepts)) f l

  pub revisited_told : (f : ℕ) → c < f → after (revisited k x) w ≡ told k (nnf_by b f c (state_of k w))
  revisited_told f l = by_test (leb (k.visits + x.visits) k.limit)
      (λ t. rw (rule f l, t, pool_length w k.concepts, ← H.count) refl)
      (λ t. rw (rule f l, t) refl)

  pub revisited_held : HeldAfter (revisited k x) w
  revisited_held = by_test (leb (k.visits + x.visits) k.limit)
      (λ t. rw t (H, id_held t))
      (λ t. rw t tt)
    where
      id_held : leb (k.visits + x.visits) k.limit ≡ true → x.id < k.concepts
      id_held t =
          let e : nnf_by b (suc c) c (state_of k w) ≡ ok x.id (later (state_of k w) x.visits) = rule (suc c) (omega arith) ∙ rw t refl in
          rw (pool_length w k.concepts) at (from (rw e at (by_done B b (suc c) c (state_of k w) F (rw (pool_length w k.concepts) h) (omega arith))))
        where
          from : Post (IdDone B (1 + depth (pool_of w k.concepts) c) (state_of k w)) (ok x.id (later (state_of k w) x.visits)) → x.id < length (pool_of w k.concepts)
          from (gives D) = D.held

-- ---- an answer that is kept
-- words that differ from w at concept c's alone
kept_same : (w : List ℕ) (j visits : ℕ) (r : Answer) (o : ℕ) → (o ≡ j → ⊥) → get_or (kept_answer w j visits r) o 0 ≡ get_or w o 0
kept_same w j visits (Done k i) o h = by_test (ltb (k.visits - visits) 2097152) (λ t. rw t (get_or-set_other w j o (most_concepts * (k.visits - visits) + i) 0 h)) (λ t. rw t refl)
kept_same w j visits (Refused e) o h = refl

kept_under : (w : List ℕ) (n m j visits : ℕ) (r : Answer) → Held w n m → pool_words ≤ j → Under w (kept_answer w j visits r) n m
kept_under w n m j visits (Done k i) H h = by_test (ltb (k.visits - visits) 2097152) (λ t. rw t (under_set w n m H j h (most_concepts * (k.visits - visits) + i))) (λ t. rw t (record { held = H; pool = refl }))
kept_under w n m j visits (Refused e) H h = record { held = H; pool = refl }

-- the answer r for concept c after scratch w, which gave w'
module _ (B : Bounds) (w w' : List ℕ) (k : Counters) (b : Bool) (c : ℕ) (F : Wf B (pool_of w k.concepts)) (h : c < k.concepts) (few : k.concepts ≤ most_concepts) where
  module _ (l : Counters) (i : ℕ) (gave : (f : ℕ) → c < f → after (Done l i) w' ≡ told k (nnf_by b f c (state_of k w))) where
    made : Settled (pool_of w' l.concepts) b c i (l.visits - k.visits) × (k.visits < l.visits)
    made =
        again B b (suc c) c (state_of k w) i (state_of l w') F (rw (pool_length w k.concepts) h) (omega arith)
        (stated k l i w' (nnf_by b (suc c) c (state_of k w)) (gave (suc c) (omega arith))).answer

  pub made_since : (r : Answer) → ((f : ℕ) → c < f → after r w' ≡ told k (nnf_by b f c (state_of k w))) → HeldAfter r w' → MadeSince k.visits r
  made_since (Done l i) gave H = (omega (arith, (made l i gave).1), omega (arith, H.1, H.0.few))
  made_since (Refused e) gave H = tt

  abbrev word : ℕ
  word = form_at b c

  module _ (r : Answer) (gave : (f : ℕ) → c < f → after r w' ≡ told k (nnf_by b f c (state_of k w))) (H : HeldAfter r w') (top : ℕ) (K : Kept top 0 top w w') (below : top ≤ normal_forms_at) where
    in_words : (normal_forms_at ≤ word) × (word < hands_at)
    in_words = form_in b c (omega arith)

    pub keep_told : (f : ℕ) → c < f → after r (kept_answer w' word k.visits r) ≡ told k (nnf_by b f c (state_of k w))
    keep_told f q = same r H ∙ gave f q
      where
        same : (r : Answer) → HeldAfter r w' → after r (kept_answer w' word k.visits r) ≡ after r w'
        same (Done l i) H = ap (λ p. ok i (drawn l p)) (kept_under w' l.concepts l.members word k.visits (Done l i) H.0 (omega (arith, in_words.0))).pool
        same (Refused e) H = refl

    pub keep_held : HeldAfter r (kept_answer w' word k.visits r)
    keep_held = held r H
      where
        held : (r : Answer) → HeldAfter r w' → HeldAfter r (kept_answer w' word k.visits r)
        held (Done l i) H = ((kept_under w' l.concepts l.members word k.visits (Done l i) H.0 (omega (arith, in_words.0))).held, H.1)
        held (Refused e) H = tt

    pub keep_kept : Kept top 0 top w (kept_answer w' word k.visits r)
    keep_kept = record {
      before = λ j x y. kept_same w' word k.visits r j (λ e. absurd (omega (arith, in_words.0))) ∙ K.before j x y;
      between = λ j x y. kept_same w' word k.visits r j (λ e. absurd (omega (arith, in_words.0))) ∙ K.between j x y;
      behind = λ j x. kept_same w' word k.visits r j (λ e. absurd (omega (arith, in_words.1))) ∙ K.behind j x;
    }

  pub keep_known : (m : Bool) (r : Answer) → ((f : ℕ) → c < f → after r w' ≡ told k (nnf_by b f c (state_of k w))) → HeldAfter r w' → hands_at ≤ length w' → KnownAfter m r w'
      → KnownAfter m r (kept_answer w' word k.visits r)
  keep_known false (Done l i) gave H long K = tt
  keep_known true (Done l i) gave H long K = known_put w' l.concepts l.members H.0 long K b c i (l.visits - k.visits) (omega arith) (omega (arith, H.1, H.0.few)) (made l i gave).0
  keep_known m (Refused e) gave H long K = tt
