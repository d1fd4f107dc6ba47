-- Each arm of the cycle: the limits that wait after a part give those that wait after the whole. Assumes nothing.
use Rattle.std.specs.Prelude.{◌≡◌, refl, Bool, false, ◌&&◌, ltb, length, take}
use Rattle.std.proofs.Math.Path.{sym, ap}
use Rattle.std.proofs.Common.{subst, ◌∙◌, arith, lt-ltb}
use Rattle.std.proofs.Math.Bool.{true}
use mathlib.Core.List.{List, [], ◌∷◌, ◌++◌, append_assoc}
use Rattle.std.proofs.Math.Option.{Option, none, some}
use Prim.Native.Nat.{ℕ, zero, suc, ◌+◌, ◌*◌, ◌≤◌, ◌<◌}
use Rattle.std.proofs.lemmas.List.Edits.{sets}
use Rattle.ir.specs.Pick.{pick}
use Rattle.ir.specs.Counts.{tick, visited, fresh_var, fresh_class}
use Rattle.ir.specs.Options.{equal_names}
use Rattle.ir.specs.Records.{six}
use Rattle.ir.specs.Scratch.{hands_at, limits_at, limits_words}
use Rattle.ir.specs.declared.counters.Counters.{Counters}
use Rattle.ir.specs.Visit.{Begun}
use Rattle.ir.specs.declared.role.Role.{Role}
use Rattle.ir.specs.Headed as Head
use Rattle.ir.specs.declared.atom.Atom.{Atom}
use Rattle.ir.specs.declared.atom.Atom.TheVariants.{Class, Role as RoleAtom}
use Rattle.rules.specs.Base.{Res, ok, refused, then}
use Rattle.rules.specs.Concept.{Concept}
use Rattle.rules.specs.Concept.{Top, Bot, Atomic, Nominal, SelfRestriction, Not, And, Or, Some, All, Min, Max}
use Rattle.rules.specs.Pool.{Pool, at}
use Rattle.rules.specs.State.{Limit, Env, Out, canon, visit, with_limits, await, with, push, class_id_of, is_dkey, fresh_var as new_var, fresh_class as new_class}
use Rattle.rules.specs.Heads.{emit_by, emit_step, atomic_name_of, name_or, head_atom_for, atom_or, named_anew}
use Rattle.rules.specs.Post.{refuses, give}
use Rattle.pool.specs.Layout.{plain}
use Rattle.tables.specs.Drawn.{tables, show}
use Rattle.tables.specs.Good.{Alike}
use Rattle.waiting.specs.Limits.{appended, Waits, Behind}
use Rattle.waiting.specs.LimitLaws.{waits_kept, waits_appended}
use Rattle.hands.specs.Hands.{InHand, Four, four, EnvIn, EnvHeld, Waiting, Queues}
use Rattle.hands.specs.HandLaws.{put_frame, put_behind, hand_kept, hand_more}
use Rattle.rules.proofs.WholeLaws.{with_leaves, push_leaves, defer_leaves}
use Rattle.hands.specs.QueueLaws.{Quiet, quiet_then, waiting_kept, waiting_then, queues_quiet}
use Rattle.leaves.specs.declared.leaf.Leaf.{Leaf}
use Rattle.leaves.specs.declared.leaf.Leaf.TheVariants as LeafIs
use Rattle.leaves.specs.declared.form.Form.TheVariants as FormIs
use Rattle.leaves.specs.declared.disjunct.Disjunct.{Disjunct}
use Rattle.leaves.specs.declared.disjunct.Disjunct.TheVariants as DisjunctIs
use Rattle.leaves.specs.Classes.{Restricts, is_max, anew}
use Rattle.leaves.specs.Leaves.{leaf_of, emit_leaf, unless_key, emit_named, filler_of, filler_atom, disjunct_of, name_filler, disjunct_atom, name_negated}
use Rattle.leaves.specs.LeafLaws.{emit_leaf_lem, emit_named_lem, head_disjunct}
use Rattle.leaves.specs.Reading.{form_of}
use Rattle.leaves.specs.Made.{headed, shown_atom, DidAtom}
use Rattle.leaves.specs.StepLaws.{alike_tick, alike_var, alike_class, env_alike, env_kept, ticked, vared, classed, var_is_lem, class_is, drawn_classed, drawn_vared, drawn_ticked, hand_zero}
use Rattle.heads.specs.StepLaws.{begun_by, visit_is, form_leaf, form_named, filler_child, drawn_limits, awaited}

-- ---- rules that let the limits be
leaf_quiet : (env : Env) (p : Pool) (b : List Atom) (z : Leaf) (s : Out) → Quiet s (emit_leaf env p b z s)
leaf_quiet env p b LeafIs.Nothing s = give refl
leaf_quiet env p b LeafIs.Empty s = push_leaves env b [] s
leaf_quiet env p b (LeafIs.Head a) s = push_leaves env b (a ∷ []) s
leaf_quiet env p b (LeafIs.Body a) s = quiet_then s (with b a s) (λ more. push env more []) (with_leaves env b a s) (λ more t. push_leaves env more [] t)
leaf_quiet env p b LeafIs.Deferred s = defer_leaves env _ s

unless_quiet : (env : Env) (p : Pool) (b : List Atom) (a : Atom) (s : Out) (key : Bool) → Quiet s (unless_key env p b a key s)
unless_quiet env p b a s true = give refl
unless_quiet env p b a s false = push_leaves env b (a ∷ []) s

named_quiet : (env : Env) (p : Pool) (v : ℕ) (b : List Atom) (q : ℕ) (s : Out) (e : Concept) → Quiet s (emit_named env p v e b q s)
named_quiet env p v b q s Top = give refl
named_quiet env p v b q s Bot = give refl
named_quiet env p v b q s (Atomic _) = give refl
named_quiet env p v b q s (Nominal _) = give refl
named_quiet env p v b q s (SelfRestriction _) = give refl
named_quiet env p v b q s (Not _) = give refl
named_quiet env p v b q s (And _) = give refl
named_quiet env p v b q s (Or _) = give refl
named_quiet env p v b q s (Some r _) = push_leaves env b _ s
named_quiet env p v b q s (All _ _) = give refl
named_quiet env p v b q s (Min n r _) = unless_quiet env p b _ s (is_dkey env (some q))
named_quiet env p v b q s (Max n r _) = unless_quiet env p b _ s (is_dkey env (some q))

negated_quiet : (env : Env) (p : Pool) (v : ℕ) (a : Atom) (s : Out) → Quiet s (name_negated env p v a s)
unfolding new_class
negated_quiet env p v a s = quiet_then s (push env (Class s.next_fresh 0 ∷ a ∷ []) [] (classed s)) (λ _ u. ok (some (Class s.next_fresh v)) u) (push_leaves env _ [] (classed s)) (λ _ t. give refl)

-- ---- emit_head: the visit, then the arm
module _ (k l : Counters) (base n c v : ℕ) (x y : Four) (P Q : Pool) (e : Concept) where
  pub head_queues : visited k ≡ Begun l → Q ≡ P → at P c ≡ e → Queues c (λ env f b s. emit_step env Q (λ h d u. emit_by env Q f h d u) b v e s) l base n x y
      → Queues (suc c) (λ env f b s. emit_by env P f b c v s) k base n x y
  unfolding emit_by visit
  head_queues ev q ea D = let b = begun_by (ltb k.visits k.limit) k l ev in record { waits = λ env f h s p. go b (alike_tick k l b.1) env f h s p }
    where
      go : (ltb k.visits k.limit ≡ true) × (l ≡ tick k) → Alike k l → (env : Env) (f : ℕ) (b : List Atom) (s : Out) (p : List Limit) → suc c ≤ f → EnvHeld env k x → InHand x.scratch base n b → tables k x.clauses x.atoms x.deferrals ≡ show k env.rooms s
          → Waits x.scratch (p ++ s.limits) → Waiting y.scratch p (emit_by env P f b c v s)
      go bg A env zero b s p lo E i t W = absurd (omega arith)
      go bg A env (suc f) b s p lo E i t W =
          rw (visit_is k env.rooms s x.clauses x.atoms x.deferrals t true bg.0, ea)
          (subst (λ (o : Pool). Waiting y.scratch p (emit_step env o (λ h d u. emit_by env o f h d u) b v e (ticked s))) q
          (D.waits env f b (ticked s) p (omega arith) (record { read = env_alike env k l x.scratch A E.read; lent = E.lent }) i (drawn_ticked k l env.rooms s x.clauses x.atoms x.deferrals bg.1 t) W))

module _ (k : Counters) (base n c v : ℕ) (x y : Four) (P : Pool) (e : Concept) where
  pub leaf_queues : FormIs.Leaf ≡ form_of P e → Behind x.scratch y.scratch → Queues c (λ env f b s. emit_step env P (λ h d u. emit_by env P f h d u) b v e s) k base n x y
  leaf_queues h B = queues_quiet c (λ env f b s. emit_step env P (λ h d u. emit_by env P f h d u) b v e s) k base n x y B
      (λ env f b s. subst (Quiet s) (sym (emit_leaf_lem env P (λ h d u. emit_by env P f h d u) b v s e (form_leaf env P e h))) (leaf_quiet env P b (leaf_of env P v e) s))

  -- a restriction: its filler is named, then its head is pushed
  pub named_queues : (x1 : Four) → FormIs.Named ≡ form_of P e → y.scratch ≡ x1.scratch → Queues c (λ env f b s. name_filler env P (atomic_name_of env P (λ h d u. emit_by env P f h d u)) e s) k (base + n) 0 x x1
      → Queues c (λ env f b s. emit_step env P (λ h d u. emit_by env P f h d u) b v e s) k base n x y
  named_queues x1 h ey D = record {
    waits = λ env f b s p lo E i t W. subst (λ (w : List ℕ). Waiting w p (emit_step env P (λ h d u. emit_by env P f h d u) b v e s)) (sym ey)
        (subst (Waiting x1.scratch p) (sym (emit_named_lem env P (λ h d u. emit_by env P f h d u) b v s e (form_named env P (λ h d u. emit_by env P f h d u) e h)))
        (waiting_then x1.scratch p (name_filler env P (atomic_name_of env P (λ h d u. emit_by env P f h d u)) e s) (λ q t. emit_named env P v e b q t)
        (D.waits env f [] s p lo E (hand_zero x.scratch (base + n)) t W) (λ q t. named_quiet env P v b q t e)));
  }

-- ---- All
pub under_queues : (k l : Counters) (base n c v y : ℕ) (w w1 a1 a2 a3 : List ℕ) (z : Four) (P Q : Pool) (e : Concept) (r cr : Role) (d : ℕ)
    → e ≡ All r d → Q ≡ P → n < 256 → hands_at ≤ 6 * base → y ≡ k.next_var → l ≡ fresh_var k → ((env : Env) → EnvIn env k w → cr ≡ canon env r) → w1 ≡ sets w (6 * (base + n)) (six (RoleAtom cr v y)) → 6 * (base + n) + 6 ≤ length w → 6 * (base + n) + 6 ≤ limits_at → d < c
    → Queues (suc d) (λ env f b s. emit_by env Q f b d y s) l base (n + 1) (four w1 a1 a2 a3) z
    → Queues c (λ env f b s. emit_step env P (λ h d u. emit_by env P f h d u) b v e s) k base n (four w a1 a2 a3) z
unfolding emit_step with new_var
under_queues k l base n c v y w w1 a1 a2 a3 z P Q e r cr d q ep h ab ey el ec ew fit below lt D =
    let fr : take (6 * (base + n)) w1 ≡ take (6 * (base + n)) w = put_frame base n w w1 (six (RoleAtom cr v y)) (6 * (base + n)) ew fit in
    let B : Behind w w1 = put_behind w w1 (six (RoleAtom cr v y)) (6 * (base + n)) ew below in
    let A = alike_var k l el in
    record {
      waits = λ env f b s p lo E i t W.
          let u : s.next_var ≡ y = sym (var_is_lem k env.rooms s a1 a2 a3 t) ∙ sym ey in
          let m : cr ≡ canon env r = ec env E.read in
          let go : Waiting z.scratch p (emit_by env Q f (b ++ (RoleAtom cr v y ∷ [])) d y (vared s)) =
          D.waits env f (b ++ (RoleAtom cr v y ∷ [])) (vared s) p (omega arith) (record { read = env_alike env k l w1 A (env_kept env k w w1 (base + n) (omega arith) fr E.read); lent = E.lent })
          (hand_more base n w w1 b (RoleAtom cr v y) ew fit i) (drawn_vared k l env.rooms s a1 a2 a3 el t) (waits_kept w w1 (p ++ s.limits) B W) in
          let on : Waiting z.scratch p (emit_by env P f (b ++ (RoleAtom (canon env r) v y ∷ [])) d y (vared s)) =
          subst (λ (o : Role). Waiting z.scratch p (emit_by env P f (b ++ (RoleAtom o v y ∷ [])) d y (vared s))) m
          (subst (λ (o : Pool). Waiting z.scratch p (emit_by env o f (b ++ (RoleAtom cr v y ∷ [])) d y (vared s))) ep go) in
          rw (q, lt-ltb (length b) 256 (omega (arith, i.long)))
          (subst (λ (j : ℕ). Waiting z.scratch p (emit_by env P f (b ++ (RoleAtom (canon env r) v j ∷ [])) d j (vared s))) (sym u) on);
    }

-- ---- atomic_name_of
module _ (k l : Counters) (base c : ℕ) (x y : Four) (P Q : Pool) where
  pub name_queues : visited k ≡ Begun l → Q ≡ P → Queues (suc c) (λ env f b s. name_or env Q (λ h d u. emit_by env Q f h d u) c (class_id_of env (at Q c)) s) l base 0 x y
      → Queues (suc c) (λ env f b s. atomic_name_of env P (λ h d u. emit_by env P f h d u) c s) k base 0 x y
  unfolding atomic_name_of visit
  name_queues ev ep D =
      let b = begun_by (ltb k.visits k.limit) k l ev in
      let A = alike_tick k l b.1 in
      record {
        waits = λ env f h s p lo E i t W.
            rw (visit_is k env.rooms s x.clauses x.atoms x.deferrals t true b.0)
            (subst (λ (o : Pool). Waiting y.scratch p (name_or env o (λ h d u. emit_by env o f h d u) c (class_id_of env (at o c)) (ticked s))) ep
            (D.waits env f h (ticked s) p lo (record { read = env_alike env k l x.scratch A E.read; lent = E.lent }) i (drawn_ticked k l env.rooms s x.clauses x.atoms x.deferrals b.1 t) W));
      }

  -- none of its own
  pub new_queues : ((env : Env) → EnvIn env l x.scratch → none ≡ class_id_of env (at Q c)) → Queues (suc c) (λ env f b s. name_or env Q (λ h d u. emit_by env Q f h d u) c none s) l base 0 x y
      → Queues (suc c) (λ env f b s. name_or env Q (λ h d u. emit_by env Q f h d u) c (class_id_of env (at Q c)) s) l base 0 x y
  new_queues h D = record {
    waits = λ env f b s p lo E i t W. subst (λ (o : Option ℕ). Waiting y.scratch p (name_or env Q (λ h d u. emit_by env Q f h d u) c o s)) (h env E.read) (D.waits env f b s p lo E i t W);
  }

pub class_queues : (l : Counters) (base c a : ℕ) (x : Four) (Q : Pool) → ((env : Env) → EnvIn env l x.scratch → some a ≡ class_id_of env (at Q c))
    → Queues (suc c) (λ env f b s. name_or env Q (λ h d u. emit_by env Q f h d u) c (class_id_of env (at Q c)) s) l base 0 x x
unfolding name_or
class_queues l base c a x Q h = record { waits = λ env f b s p lo E i t W. rw (← h env E.read) (give W) }

-- a fresh class
pub fresh_queues : (k l : Counters) (base c q : ℕ) (w w1 a1 a2 a3 : List ℕ) (z : Four) (P Q : Pool) → Q ≡ P → hands_at ≤ 6 * base → q ≡ k.next_class → l ≡ fresh_class k → w1 ≡ sets w (6 * base) (six (Class q 0)) → 6 * base + 6 ≤ length w → 6 * base + 6 ≤ limits_at
    → Queues (suc c) (λ env f b s. emit_by env Q f b c 0 s) l base 1 (four w1 a1 a2 a3) z
    → Queues (suc c) (λ env f b s. name_or env P (λ h d u. emit_by env P f h d u) c none s) k base 0 (four w a1 a2 a3) z
unfolding name_or new_class
fresh_queues k l base c q w w1 a1 a2 a3 z P Q ep ab eq el ew fit below D =
    let z0 : base + 0 ≡ base = omega arith in
    let ew0 : w1 ≡ sets w (6 * (base + 0)) (six (Class q 0)) = rw z0 ew in
    let fr : take (6 * base) w1 ≡ take (6 * base) w = put_frame base 0 w w1 (six (Class q 0)) (6 * base) ew fit in
    let B : Behind w w1 = put_behind w w1 (six (Class q 0)) (6 * base) ew below in
    let A = alike_class k l el in
    record {
      waits = λ env f b s p lo E i t W.
          let u : s.next_fresh ≡ q = sym (class_is k env.rooms s a1 a2 a3 t) ∙ sym eq in
          let i1 : InHand w1 base 1 (Class q 0 ∷ []) = hand_more base 0 w w1 [] (Class q 0) ew0 (omega arith) (hand_zero w base) in
          let go : Waiting z.scratch p (emit_by env P f (Class q 0 ∷ []) c 0 (classed s)) =
          subst (λ (o : Pool). Waiting z.scratch p (emit_by env o f (Class q 0 ∷ []) c 0 (classed s))) ep
          (D.waits env f (Class q 0 ∷ []) (classed s) p lo (record { read = env_alike env k l w1 A (env_kept env k w w1 base ab fr E.read); lent = E.lent }) i1 (drawn_classed k l env.rooms s a1 a2 a3 el t) (waits_kept w w1 (p ++ s.limits) B W)) in
          subst (λ (j : ℕ). Waiting z.scratch p (then (emit_by env P f (Class j 0 ∷ []) c 0 (classed s)) (λ _ v. ok j v))) (sym u)
          (waiting_then z.scratch p (emit_by env P f (Class q 0 ∷ []) c 0 (classed s)) (λ _ v. ok q v) go (λ a t. give refl));
    }

-- ---- the filler of a restriction
anew_is : (env : Env) (e : Concept) → anew e ≡ named_anew env e
anew_is env Top = refl
anew_is env Bot = refl
anew_is env (Atomic _) = refl
anew_is env (Nominal _) = refl
anew_is env (SelfRestriction _) = refl
anew_is env (Not _) = refl
anew_is env (And _) = refl
anew_is env (Or _) = refl
anew_is env (Some _ _) = refl
anew_is env (All _ _) = refl
anew_is env (Min _ _ _) = refl
anew_is env (Max _ _ _) = refl

waits_awaited : (w w1 : List ℕ) (p : List Limit) (s : Out) (d q : ℕ) (b : Bool) → q ≡ s.next_fresh → limits_at + limits_words ≤ length w → w1 ≡ pick b (appended w d q) w → Waits w (p ++ s.limits)
    → Waits w1 (p ++ pick b (s.limits ++ (record { filler = d; name = s.next_fresh } ∷ [])) s.limits)
waits_awaited w w1 p s d q true eq h e W =
    subst (λ (v : List ℕ). Waits v (p ++ (s.limits ++ (record { filler = d; name = s.next_fresh } ∷ [])))) (sym e)
    (subst (λ (j : ℕ). Waits (appended w d q) (p ++ (s.limits ++ (record { filler = d; name = j } ∷ [])))) eq
    (subst (Waits (appended w d q)) (append_assoc p s.limits (record { filler = d; name = q } ∷ [])) (waits_appended w d q (p ++ s.limits) h W)))
waits_awaited w w1 p s d q false eq h e W = subst (λ (v : List ℕ). Waits v (p ++ s.limits)) (sym e) W

pub filler_queues : (k : Counters) (base c d : ℕ) (w w1 a1 a2 a3 : List ℕ) (y : Four) (P Q : Pool) (e e1 : Concept) → Q ≡ P → hands_at ≤ 6 * base → take (6 * base) w1 ≡ take (6 * base) w → Restricts e → (plain e).child ≡ d → d < c
    → limits_at + limits_words ≤ length w → at P d ≡ e1 → w1 ≡ pick (equal_names k.options && (is_max e && anew e1)) (appended w d k.next_class) w
    → Queues (suc d) (λ env f b s. atomic_name_of env Q (λ h d u. emit_by env Q f h d u) d s) k base 0 (four w1 a1 a2 a3) y
    → Queues c (λ env f b s. name_filler env P (atomic_name_of env P (λ h d u. emit_by env P f h d u)) e s) k base 0 (four w a1 a2 a3) y
unfolding await
filler_queues k base c d w w1 a1 a2 a3 y P Q e e1 ep ab fr g ed lt long ea ew D =
    let z : base + 0 ≡ base = omega arith in
    let f0 : take (6 * (base + 0)) w1 ≡ take (6 * (base + 0)) w = rw z fr in
    record {
      waits = λ env f b s p lo E i t W.
          let fe : filler_of env P e ≡ d = filler_child e env P g ∙ ed in
          let named : Bool = is_max e && named_anew env (at P d) in
          let en : is_max e && anew e1 ≡ named = ap (λ (x : Bool). is_max e && x) (anew_is env e1 ∙ ap (named_anew env) (sym ea)) in
          let l : List Limit = awaited env d named s in
          let ew1 : w1 ≡ pick (env.equal_names && named) (appended w d k.next_class) w = ew ∙ ap (λ (x : Bool). pick (x && (is_max e && anew e1)) (appended w d k.next_class) w) E.read.names ∙ ap (λ (x : Bool). pick (env.equal_names && x) (appended w d k.next_class) w) en in
          let W1 : Waits w1 (p ++ l) = waits_awaited w w1 p s d k.next_class (env.equal_names && named) (class_is k env.rooms s a1 a2 a3 t) long ew1 W in
          subst (λ (a : ℕ). Waiting y.scratch p (atomic_name_of env P (λ h d u. emit_by env P f h d u) a (with_limits (awaited env a (is_max e && named_anew env (at P a)) s) s))) (sym fe)
          (subst (λ (o : Pool). Waiting y.scratch p (atomic_name_of env o (λ h d u. emit_by env o f h d u) d (with_limits l s))) ep
          (D.waits env f b (with_limits l s) p (omega arith) (record { read = env_kept env k w w1 base ab fr E.read; lent = E.lent }) (hand_kept base 0 w w1 b f0 i) (drawn_limits k env.rooms s a1 a2 a3 l t) W1));
    }

-- ---- head_atom_for
module _ (k l : Counters) (base c v : ℕ) (x y : Four) (P Q : Pool) (e : Concept) (D : Disjunct) where
  pub atom_queues : visited k ≡ Begun l → Q ≡ P → at Q c ≡ e → ((env : Env) → EnvIn env l x.scratch → D ≡ disjunct_of env Q v e)
      → Queues (suc c) (λ env f b s. disjunct_atom env Q (atomic_name_of env Q (λ h d u. emit_by env Q f h d u)) c v e D s) l base 0 x y
      → Queues (suc c) (λ env f b s. head_atom_for env P (λ h d u. emit_by env P f h d u) c v s) k base 0 x y
  unfolding head_atom_for visit
  atom_queues ev ep ea hd M =
      let b = begun_by (ltb k.visits k.limit) k l ev in
      let A = alike_tick k l b.1 in
      record {
        waits = λ env f h s p lo E i t W.
            let E1 : EnvHeld env l x = record { read = env_alike env k l x.scratch A E.read; lent = E.lent } in
            let eq : disjunct_atom env Q (atomic_name_of env Q (λ h d u. emit_by env Q f h d u)) c v e D (ticked s) ≡ atom_or env Q (λ h d u. emit_by env Q f h d u) c v (class_id_of env (at Q c)) (ticked s) =
            ap (λ (z : Disjunct). disjunct_atom env Q (atomic_name_of env Q (λ h d u. emit_by env Q f h d u)) c v e z (ticked s)) (hd env E1.read)
            ∙ sym (head_disjunct env Q (λ h d u. emit_by env Q f h d u) c v (ticked s) e ea) ∙ ap (λ (z : Concept). atom_or env Q (λ h d u. emit_by env Q f h d u) c v (class_id_of env z) (ticked s)) (sym ea) in
            rw (visit_is k env.rooms s x.clauses x.atoms x.deferrals t true b.0)
            (subst (λ (o : Pool). Waiting y.scratch p (atom_or env o (λ h d u. emit_by env o f h d u) c v (class_id_of env (at o c)) (ticked s))) ep
            (subst (Waiting y.scratch p) eq
            (M.waits env f h (ticked s) p lo E1 i (drawn_ticked k l env.rooms s x.clauses x.atoms x.deferrals b.1 t) W)));
      }

-- a refusal
pub atom_no : (low : ℕ) (rule : Env → ℕ → Out → Res Out (Option Atom)) (k : Counters) (base : ℕ) (x y : Four) (m : ℕ) → DidAtom low rule k base x y (Head.Refused m)
    → DidAtom low rule k base x y (Head.Refused m) × Queues low (λ env f b s. rule env f s) k base 0 x y
atom_no low rule k base x y m M = (M, record { waits = λ env f b s p lo E i t W. no env p (rule env f s) (M.equal env f s lo E t) })
  where
    no : (env : Env) (p : List Limit) (X : Res Out (Option Atom)) → headed (Head.Refused m) y.clauses y.atoms y.deferrals ≡ shown_atom env k X → Waiting y.scratch p X
    no env p (ok o s) h = absurd (let z : ◌≡◌ {A = ℕ} 0 1 = cc in omega arith)
    no env p (refused j) h = refuses

module _ (l : Counters) (base c v : ℕ) (Q : Pool) (e : Concept) (D : Disjunct) where
  pub ready_queues : (x : Four) (a : Atom) → D ≡ DisjunctIs.Ready a → Queues (suc c) (λ env f b s. disjunct_atom env Q (atomic_name_of env Q (λ h d u. emit_by env Q f h d u)) c v e D s) l base 0 x x
  ready_queues x a q = record { waits = λ env f b s p lo E i t W. rw q (give W) }

  pub absent_queues : (x : Four) → D ≡ DisjunctIs.Absent → Queues (suc c) (λ env f b s. disjunct_atom env Q (atomic_name_of env Q (λ h d u. emit_by env Q f h d u)) c v e D s) l base 0 x x
  absent_queues x q = record { waits = λ env f b s p lo E i t W. rw q (give W) }

  module _ (x y : Four) where
    pub negated_queues : (a : Atom) → D ≡ DisjunctIs.Negated a → Behind x.scratch y.scratch → Queues (suc c) (λ env f b s. disjunct_atom env Q (atomic_name_of env Q (λ h d u. emit_by env Q f h d u)) c v e D s) l base 0 x y
    negated_queues a q B = record { waits = λ env f b s p lo E i t W. rw q (waiting_kept x.scratch y.scratch p s (name_negated env Q v a s) B (negated_quiet env Q v a s) W) }

    pub whole_queues : D ≡ DisjunctIs.Whole → Queues (suc c) (λ env f b s. atomic_name_of env Q (λ h d u. emit_by env Q f h d u) c s) l base 0 x y
        → Queues (suc c) (λ env f b s. disjunct_atom env Q (atomic_name_of env Q (λ h d u. emit_by env Q f h d u)) c v e D s) l base 0 x y
    whole_queues q N = record {
      waits = λ env f b s p lo E i t W. rw q (waiting_then y.scratch p (atomic_name_of env Q (λ h d u. emit_by env Q f h d u) c s) (λ j u. ok (some (Class j v)) u) (N.waits env f b s p lo E i t W) (λ j u. give refl));
    }

    pub restricted_queues : D ≡ DisjunctIs.Filler → Queues c (λ env f b s. name_filler env Q (atomic_name_of env Q (λ h d u. emit_by env Q f h d u)) e s) l base 0 x y
        → Queues (suc c) (λ env f b s. disjunct_atom env Q (atomic_name_of env Q (λ h d u. emit_by env Q f h d u)) c v e D s) l base 0 x y
    restricted_queues q N = record {
      waits = λ env f b s p lo E i t W. rw q (waiting_then y.scratch p (name_filler env Q (atomic_name_of env Q (λ h d u. emit_by env Q f h d u)) e s) (λ j u. ok (some (filler_atom env Q v e j)) u) (N.waits env f b s p (omega arith) E i t W) (λ j u. give refl));
    }
