-- The laws of a run in which no limit waits: what is proved of `axioms_alone`, each axiom by itself, without what limits that wait
-- ask. Pools grow and stay well formed, every clause is within bounds, what every rule keeps is kept, and no refusal is by 0.
-- Assumes nothing.
use Rattle.std.specs.Prelude.{◌≡◌, true, ℕ, suc, ◌+◌, ◌≤◌, ◌<◌}
use mathlib.Core.List.{List, [], ◌∷◌}
use native.Mathlib.Omega.{arith}
use Rattle.std.proofs.Math.Path.{refl}
use Rattle.std.proofs.Math.ListN.{length}
use Rattle.ir.specs.Options.{follow_roles}
use Rattle.rules.specs.Concept.{Axiom}
use Rattle.rules.specs.Pool.{Pool}
use Rattle.rules.specs.Normalize.{St}
use Rattle.rules.specs.State.{Env, Rooms, Out}
use Rattle.rules.specs.Axioms.{Clausifier, partition}
use Rattle.rules.specs.Run.{at_line, clausifier_at, env_of, start}
use Rattle.rules.specs.Deck.{Known}
use Rattle.rules.specs.Invariants.{Each, Bounds, Wf, AxiomIn}
use Rattle.rules.specs.LinedPost.{LinedPost, finish, lined_post, lined_then_lem, lined_map}
use Rattle.rules.specs.Ends.{Ends, NotNull, ends_map, by_ends}
use Rattle.rules.specs.LinedEnds.{LinedEnds, lined_ends, lined_ends_then, lined_ends_map, close}
use Rattle.rules.specs.EachLaws.{each_map}
use Rattle.rules.specs.PoolLaws.{grown_refl, grown_trans, grown_length}
use Rattle.rules.specs.Added.{Roomy}
use Rattle.rules.proofs.NormalizeLaws.{axioms_more}
use Rattle.rules.specs.Handed.{RolesKept}
use Rattle.rules.proofs.EmitLaws.{above_more, emitted_trans, awaiting}
use Rattle.rules.proofs.AntecedentLaws.{canon_in}
use Rattle.rules.proofs.AxiomLaws.{Clausified, Fit, clausified_refl, axiom_made}
use Rattle.rules.proofs.KeepLaws.{Invariant, Sorted, keeps_partition}
use Rattle.rules.proofs.RoomLaws.{HeldIn, Reached, reached, PoolInvariant, Kept, from_axiom, Tabled, roomy_kept, tabled_kept}
use Rattle.rules.proofs.WholeLaws.{axioms_alone}

-- ---- what the axioms do
pub fit_after : {B : Bounds} {env : Env} {z y : Clausifier} → Clausified B z y → Fit B env z → Fit B env y
fit_after X F = record { wf = X.wf; above = above_more X.emitted.fresh F.above; vars = X.vars }

pub clausified_trans : {B : Bounds} {x y z : Clausifier} → Clausified B x y → Clausified B y z → Clausified B x z
clausified_trans X Y = record { grows = grown_trans X.grows Y.grows; wf = Y.wf; emitted = emitted_trans (omega (arith, Y.emitted.visits)) X.emitted Y.emitted; vars = Y.vars }

-- lines are no part of what is said over several axioms
pub fit_at : {B : Bounds} {env : Env} {z : Clausifier} (line : ℕ) → Fit B env z → Fit B env (clausifier_at line z)
fit_at line F = record { wf = F.wf; above = F.above; vars = F.vars }

pub without_line : {B : Bounds} {y : Clausifier} (line : ℕ) (z : Clausifier) → Clausified B (clausifier_at line z) y → Clausified B (clausifier_at 0 z) (clausifier_at 0 y)
without_line line z X =
    let e = X.emitted in
    record {
      grows = X.grows;
      wf = X.wf;
      emitted = record {
        new = e.new;
        clauses = e.clauses;
        new_in = e.new_in;
        deferring = e.deferring;
        deferrals = e.deferrals;
        waiting = e.waiting;
        limits = e.limits;
        named = e.named;
        limit = e.limit;
        line = refl;
        visits = e.visits;
        within = e.within;
        fresh = e.fresh;
        names = e.names;
      };
      vars = X.vars;
    }

module _ (B : Bounds) (env : Env) (roles : RolesKept B env) where
  pub axioms_alone_made : (line : ℕ) (l : List Axiom) (z : Clausifier) → Fit B env z → Each (AxiomIn B (length z.pool)) l
      → LinedPost (λ _ y. Clausified B (clausifier_at 0 z) (clausifier_at 0 y)) (axioms_alone env line l z)
  unfolding axioms_alone
  axioms_alone_made line [] z F u = finish (clausified_refl (clausifier_at 0 z) (fit_at 0 F))
  axioms_alone_made line (a ∷ l) z F u = lined_then_lem (lined_post line (axiom_made B env roles a (clausifier_at line z) (fit_at line F) u.0)) (λ _ y X.
      lined_map (axioms_alone_made (line + 1) l y (fit_after X (fit_at line F)) (axioms_more B (length z.pool) (length y.pool) l (grown_length X.grows) u.1))
      (λ _ w Y. clausified_trans (without_line line z X) Y))

-- as the run calls it
pub start_fit : (B : Bounds) (d : Known) (rooms : Rooms) (axioms : List Axiom) (s : St) → B.classes ≤ d.header.classes → B.individuals ≤ d.header.individuals → Wf B s.pool → Fit B (env_of d rooms axioms) (start d s)
start_fit B d rooms axioms s h k w = record { wf = w; above = record { classes = λ a i. omega arith; individuals = λ i j. omega arith }; vars = omega arith }

pub run_axioms_alone_made : (B : Bounds) (d : Known) (rooms : Rooms) (line : ℕ) (axioms : List Axiom) (s : St)
    → B.classes ≤ d.header.classes → B.individuals ≤ d.header.individuals → Wf B s.pool → Each (AxiomIn B (length s.pool)) axioms
    → LinedPost (λ _ y. Clausified B (start d s) (clausifier_at 0 y)) (axioms_alone (env_of d rooms axioms) line axioms (start d s))
run_axioms_alone_made B d rooms line axioms s h k w u =
    axioms_alone_made B (env_of d rooms axioms) (canon_in B (length s.pool) (follow_roles d.header.options) axioms u) line axioms (start d s) (start_fit B d rooms axioms s h k w) u

-- ---- what the axioms keep
module _ (env : Env) (J : Out → Type 0) (I : Invariant env J) where
  module _ (B : Bounds) (pool : Pool) (wf : Wf B pool) where
    -- ids of the pool, each with the bound by which it is encoded
    bound : (l : List ℕ) → HeldIn pool l → Each (λ c. Reached pool (suc c) c) l
    bound l u = each_map (λ c. c < length pool) (λ c. Reached pool (suc c) c) (λ c h. (omega arith, h)) l u

    held : (l : List ℕ) → Each (λ c. Reached pool (suc c) c) l → HeldIn pool l
    held l u = each_map (λ c. Reached pool (suc c) c) (λ c. c < length pool) (λ c h. h.1) l u

    -- the conjuncts of an antecedent, sorted: they are ids of the pool
    pub partition_ends : (l soft hard : List ℕ) → HeldIn pool l → HeldIn pool soft → HeldIn pool hard → (s : Out) → J s → Ends (Sorted J (λ c. c < length pool)) (partition env pool l soft hard s)
    partition_ends l soft hard u v w s j =
        ends_map (by_ends (keeps_partition NotNull (λ k (e : suc k ≡ 0). omega arith) env J I pool (Reached pool) (reached B pool wf) l soft hard (bound l u) (bound soft v) (bound hard w) s j))
        (λ parts t S. record { kept = S.kept; soft = held parts.soft S.soft; hard = held parts.hard S.hard })

  -- also where the line is one of them, and where a limit begins to wait, which is with option 4 alone
  module _ (B : Bounds) (most : ℕ) (lines : (n : ℕ) → n ≤ most → (s : Out) → J s → J (at_line n s)) (waits : (c : ℕ) → env.equal_names ≡ true → (s : Out) → J s → J (awaiting c s)) where
    pooled : PoolInvariant env (λ _. J)
    pooled = record { steps = λ p. I; awaits = λ p c h e s j. waits c e s j; grows = λ p q G s j. j }

    pub axioms_alone_keep : (line : ℕ) (l : List Axiom) (z : Clausifier) → line + length l ≤ suc most → Wf B z.pool → J z.out → Each (AxiomIn B (length z.pool)) l
        → LinedEnds (λ _ y. Kept (λ _. J) B z.pool y) (axioms_alone env line l z)
    unfolding axioms_alone
    axioms_alone_keep line [] z h w j u = close (record { grows = grown_refl z.pool; wf = w; kept = j })
    axioms_alone_keep line (a ∷ l) z h w j u =
        lined_ends_then (lined_ends line ((from_axiom env (λ _. J) pooled B z.pool a u.0).run (clausifier_at line z) (record { grows = grown_refl z.pool; wf = w; kept = lines line (omega arith) z.out j }))) (λ _ y K.
        lined_ends_map (axioms_alone_keep (line + 1) l y (omega arith) K.wf K.kept (axioms_more B (length z.pool) (length y.pool) l (grown_length K.grows) u.1)) (λ _ x L.
        record { grows = grown_trans K.grows L.grows; wf = L.wf; kept = L.kept }))

-- ---- the tables' rooms, and the lines of the deferrals
pub axioms_alone_roomy : (B : Bounds) (env : Env) (line : ℕ) (l : List Axiom) (z : Clausifier) → Wf B z.pool → Each (AxiomIn B (length z.pool)) l
    → Roomy env z.out → LinedEnds (λ _ y. Kept (λ _. Roomy env) B z.pool y) (axioms_alone env line l z)
axioms_alone_roomy B env line l z w u r =
    axioms_alone_keep env (Roomy env) ((roomy_kept env).steps z.pool) B (line + length l) (λ n k s x. record { clauses = x.clauses; atoms = x.atoms; deferrals = x.deferrals })
    (λ c e s x. record { clauses = x.clauses; atoms = x.atoms; deferrals = x.deferrals }) line l z (omega arith) w r u

pub axioms_alone_tabled : (B : Bounds) (env : Env) (most line : ℕ) (l : List Axiom) (z : Clausifier) → line + length l ≤ suc most → Wf B z.pool → Each (AxiomIn B (length z.pool)) l
    → Tabled env most z.out → LinedEnds (λ _ y. Kept (λ _. Tabled env most) B z.pool y) (axioms_alone env line l z)
axioms_alone_tabled B env most line l z h w u t =
    axioms_alone_keep env (Tabled env most) ((tabled_kept env most).steps z.pool) B most (λ n k s x. record {
      roomy = record { clauses = x.roomy.clauses; atoms = x.roomy.atoms; deferrals = x.roomy.deferrals };
      line = k;
      lines = x.lines;
    })
    (λ c e s x. record { roomy = record { clauses = x.roomy.clauses; atoms = x.roomy.atoms; deferrals = x.roomy.deferrals }; line = x.line; lines = x.lines }) line l z h w t u
