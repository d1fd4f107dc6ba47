-- Which rules leave the limits that wait as they are: all but those that name an at-most filler with option 4. So without option 4,
-- and for the axioms that make no head, an axiom with its limits is the axiom alone; and after either none waits. Nothing is asked
-- of the state. Assumes nothing.
use Rattle.std.specs.Prelude.{◌≡◌, refl, Bool, true, false, ◌&&◌, ℕ, zero, suc, ◌+◌, eqb}
use Rattle.std.proofs.Common.{ap, sym, ◌∙◌}
use Rattle.std.proofs.lemmas.Bool.{false≢true}
use mathlib.Core.List.{List, [], ◌∷◌, ◌++◌}
use Rattle.std.proofs.Math.Option.{Option, none, some}
use Rattle.std.proofs.Math.Bool.{and-false}
use Rattle.ir.specs.Options.{card_disjunct_atoms, equal_names, follow_roles}
use Rattle.ir.specs.Roles.{role_code}
use Rattle.ir.specs.declared.atom.Atom.{Atom}
use Rattle.ir.specs.declared.atom.Atom.TheVariants.{Role as RoleAtom}
use Rattle.ir.specs.declared.deferral.Deferral.{Deferral}
use Rattle.ir.specs.declared.deferral.Deferral.TheVariants.{DisjointAntecedent}
use Rattle.rules.specs.Handed.{names_limits}
use Rattle.rules.specs.Base.{Res, ok, refused, M, then, return, each, for_each, ◌>>=◌, ◌>>◌}
use Rattle.rules.specs.Concept.{Concept, Axiom}
use Rattle.rules.specs.Concept.{Top, Bot, Atomic, Nominal, SelfRestriction, Not, And, Or, Some, All, Min, Max}
use Rattle.ir.specs.Pick.{pick}
use Rattle.rules.specs.Inverse.{InverseCanon, build_inverse_canon, followed}
use Rattle.rules.specs.Concept.{SubClassOf, EquivalentClasses, DisjointClasses, DisjointUnion, ObjectPropertyDomain, ObjectPropertyRange, SubChain, TransitiveRole, IrreflexiveRole, AsymmetricRole, DisjointObjectProperties, InverseObjectProperties, SubObjectPropertyOf, EquivalentObjectProperties, ReflexiveRole, ClassAssertion}
use Rattle.rules.specs.Pool.{Pool, at, mk_and, mk_or}
use Rattle.rules.specs.Normalize.{St, in_pool, nnf_complement}
use Rattle.rules.specs.State.{Limit, Env, Rooms, Out, E, canon, visit, restart_vars, fresh_var, fresh_class, with_limits, await, leave_limits, with, push, defer}
use Rattle.rules.specs.Antecedents.{Alternatives, encode_by, encode_antecedent}
use Rattle.rules.specs.Heads.{Emits, cardinality_qualifier, limit_qualifier, emit_by, emit_head}
use Rattle.rules.specs.Axioms.{Clausifier, C, back_nnf, in_nnf, back_out, in_out, conjuncts, later_pairs, ordered_pairs, emit_bodies, partition, soft_and, bodies_or_defer, absorb_parts, absorb_hard_antecedent, gci_with, clausify_gci, pair_with, disjoint_pair, member_with, union_member, cover, domain, range, chain, chain_of, asymmetric, disjoint_roles, clausify_axiom, other_half, settle_next, settle_by, settle, clausify_whole}
use Rattle.rules.specs.Deck.{Known}
use Rattle.rules.specs.Run.{Lined, done, lined, lined_then, clausifier_at, clausify_axioms, env_of, start}
use Rattle.rules.specs.Post.{Post, gives, refuses, give, post_then, post_map, post_any}
use Rattle.rules.specs.Ends.{by_post}
use Rattle.rules.specs.EachLaws.{each_unit}
use Rattle.rules.proofs.EmitLaws.{awaiting}
use Rattle.rules.proofs.AxiomLaws.{st_of}
use Rattle.rules.proofs.KeepLaws.{Invariant, Keeps, PartsIn, Reach, keeps_return, keeps_then, keeps_with, keeps_visit, keeps_restart, keeps_var, keeps_class, keeps_push, keeps_defer, restarted_keeps, keeps_pair, keeps_member, keeps_cover, keeps_chain, keeps_chain_of, keeps_asymmetric, keeps_roles, keeps_encode, keeps_antecedent, keeps_partition, keeps_emit, keeps_head, keeps_bodies, keeps_bodies_or, keeps_domain, keeps_range}

-- ---- every refusal is met, and nothing is asked of the pool
abbrev pub AnyRefusal : ℕ → Type 0
AnyRefusal k = Unit {0}

abbrev pub Anywhere : ℕ → ℕ → Type 0
Anywhere f c = Unit {0}

parts_anywhere : (e : Concept) → PartsIn (λ _. Unit {0}) e
parts_anywhere Top = tt
parts_anywhere Bot = tt
parts_anywhere (Atomic _) = tt
parts_anywhere (Nominal _) = tt
parts_anywhere (SelfRestriction _) = tt
parts_anywhere (Not _) = tt
parts_anywhere (And l) = each_unit l
parts_anywhere (Or l) = each_unit l
parts_anywhere (Some _ _) = tt
parts_anywhere (All _ _) = tt
parts_anywhere (Min _ _ _) = tt
parts_anywhere (Max _ _ _) = tt

pub anywhere : (pool : Pool) → Reach AnyRefusal pool Anywhere
anywhere pool = record { none = λ c h. tt; down = λ f c h. parts_anywhere (at pool c); up = λ f c h. tt }

-- ---- the limits are L
abbrev pub WaitingIs : List Limit → Out → Type 0
WaitingIs L s = s.limits ≡ L

pub waiting_kept : (env : Env) (L : List Limit) → Invariant env (WaitingIs L)
waiting_kept env L = record { counts = λ s v x q _ _ j. j; pushes = λ s b h _ _ j. j; defers = λ s k _ j. j }

-- a rule leaves them as they are
abbrev pub Stays : {A : Type 0} → E A → Type 0
Stays m = (L : List Limit) → Keeps AnyRefusal (WaitingIs L) m

abbrev pub Leaves : {A : Type 0} → E A → Type 0
Leaves m = (s : Out) → Post (λ _ t. t.limits ≡ s.limits) (m s)

leaves : {A : Type 0} {m : E A} → Stays m → Leaves m
leaves h s = by_post ((h s.limits).run s refl)

-- a rule with the pool
pub record LeavesIn {A : Type 0} (m : C A) : Type 0 where
  pub run : (z : Clausifier) → Post (λ _ y. y.out.limits ≡ z.out.limits) (m z)

leaves_return : {A : Type 0} (a : A) → LeavesIn (return a)
leaves_return a = record { run = λ z. give refl }

leaves_then : {A D : Type 0} {m : C A} {f : A → C D} → LeavesIn m → ((a : A) → LeavesIn (f a)) → LeavesIn (m >>= f)
leaves_then h k = record { run = λ z. post_then (h.run z) (λ a y e. post_map ((k a).run y) (λ b x d. d ∙ e)) }

leaves_each : {A : Type 0} {f : A → C (Unit {0})} → ((a : A) → LeavesIn (f a)) → (l : List A) → LeavesIn (for_each f l)
unfolding for_each
leaves_each h [] = leaves_return tt
leaves_each h (a ∷ l) = leaves_then (h a) (λ _. leaves_each h l)

out_leaves : {A : Type 0} (f : Pool → E A) → ((pool : Pool) → Leaves (f pool)) → LeavesIn (in_out f)
out_leaves {A} f h = record { run = λ z. go z (h z.pool z.out) }
  where
    go : (z : Clausifier) {r : Res Out A} → Post (λ _ t. t.limits ≡ z.out.limits) r → Post (λ _ y. y.out.limits ≡ z.out.limits) (back_out z r)
    go z (gives e) = gives e
    go z refuses = refuses

leaves_out : {A : Type 0} (f : Pool → E A) → ((pool : Pool) → Stays (f pool)) → LeavesIn (in_out f)
leaves_out f h = out_leaves f (λ pool. leaves (h pool))

pub leaves_nnf : {A : Type 0} (f : M St A) → LeavesIn (in_nnf f)
leaves_nnf {A} f = record { run = λ z. go z (f (st_of z)) }
  where
    go : (z : Clausifier) (r : Res St A) → Post (λ _ y. y.out.limits ≡ z.out.limits) (back_nnf z r)
    go z (ok a t) = give refl
    go z (refused k) = refuses

-- ---- the rules over one pool that make no head
module _ (env : Env) where
  pub visit_leaves : Leaves visit
  visit_leaves = leaves (λ L. keeps_visit AnyRefusal (λ _. tt) env (WaitingIs L) (waiting_kept env L))

  pub restart_leaves : Leaves restart_vars
  restart_leaves = leaves (λ L. keeps_restart AnyRefusal (λ _. tt) env (WaitingIs L) (waiting_kept env L))

  pub var_leaves : Leaves fresh_var
  var_leaves = leaves (λ L. keeps_var AnyRefusal (λ _. tt) env (WaitingIs L) (waiting_kept env L))

  pub class_leaves : Leaves fresh_class
  class_leaves = leaves (λ L. keeps_class AnyRefusal (λ _. tt) env (WaitingIs L) (waiting_kept env L))

  pub with_leaves : (l : List Atom) (a : Atom) → Leaves (with l a)
  with_leaves l a = leaves (λ L. keeps_with AnyRefusal (λ _. tt) env (WaitingIs L) (waiting_kept env L) l a)

  pub push_leaves : (b h : List Atom) → Leaves (push env b h)
  push_leaves b h = leaves (λ L. keeps_push AnyRefusal (λ _. tt) env (WaitingIs L) (waiting_kept env L) b h)

  pub defer_leaves : (k : Deferral) → Leaves (defer env k)
  defer_leaves k = leaves (λ L. keeps_defer AnyRefusal (λ _. tt) env (WaitingIs L) (waiting_kept env L) k)

  pub encode_leaves : (pool : Pool) (f c v : ℕ) → Leaves (encode_by env pool f c v)
  encode_leaves pool f c v = leaves (λ L. keeps_encode AnyRefusal (λ _. tt) env (WaitingIs L) (waiting_kept env L) pool Anywhere (anywhere pool) f c v tt)

  pub partition_leaves : (pool : Pool) (l soft hard : List ℕ) → Leaves (partition env pool l soft hard)
  partition_leaves pool l soft hard s = post_map (by_post (keeps_partition AnyRefusal (λ _. tt) env (WaitingIs s.limits) (waiting_kept env s.limits) pool Anywhere (anywhere pool) l soft hard (each_unit l) (each_unit soft) (each_unit hard) s refl)) (λ parts t S. S.kept)

  -- from variable 1
  stays_again : {A : Type 0} {m : E A} → Stays m → Stays (restart_vars >> m)
  stays_again h L = restarted_keeps AnyRefusal (λ _. tt) env (WaitingIs L) (waiting_kept env L) (h L)

  stays_antecedent : (pool : Pool) (c : ℕ) → Stays (encode_antecedent env pool c 0)
  stays_antecedent pool c L = keeps_antecedent AnyRefusal (λ _. tt) env (WaitingIs L) (waiting_kept env L) pool Anywhere (anywhere pool) c tt

  -- ---- and of axioms
  leaves_disjoint : (other : E (Unit {0})) → Stays other → (l : List ℕ) → LeavesIn (for_each (disjoint_pair env other) (later_pairs l))
  unfolding disjoint_pair
  leaves_disjoint other h l = leaves_each (λ p. leaves_out (λ pool. restart_vars >> (encode_antecedent env pool p.0 0 >>= (λ a. encode_antecedent env pool p.1 0 >>= (λ b. pair_with env other a b))))
      (λ pool. stays_again (λ L. keeps_then (stays_antecedent pool p.0 L) (λ a. keeps_then (stays_antecedent pool p.1 L) (λ b. keeps_pair AnyRefusal (λ _. tt) env (WaitingIs L) (waiting_kept env L) other (h L) a b))))) (later_pairs l)

  leaves_union : (class : ℕ) (l : List ℕ) → LeavesIn (clausify_axiom env (DisjointUnion class l))
  unfolding clausify_axiom union_member
  leaves_union class l = leaves_then (leaves_disjoint (return tt) (λ L. keeps_return tt) l) (λ _.
      leaves_then (leaves_each (λ m. leaves_out (λ pool. restart_vars >> (encode_antecedent env pool m 0 >>= (λ o. member_with env class o)))
      (λ pool. stays_again (λ L. keeps_then (stays_antecedent pool m L) (λ o. keeps_member AnyRefusal (λ _. tt) env (WaitingIs L) (waiting_kept env L) class o)))) l) (λ _.
      leaves_out (λ pool. restart_vars >> cover env pool class l []) (λ pool. stays_again (λ L. keeps_cover AnyRefusal (λ _. tt) env (WaitingIs L) (waiting_kept env L) pool class l []))))

  -- ---- heads, without option 4
  module _ (off : env.equal_names ≡ false) where
    none_waits : (L : List Limit) (f c : ℕ) → Anywhere f c → env.equal_names ≡ true → (s : Out) → WaitingIs L s → WaitingIs L (awaiting c s)
    none_waits L f c h e s j = absurd (false≢true (sym off ∙ e))

    pub emit_leaves : (pool : Pool) (f : ℕ) (b : List Atom) (c v : ℕ) → Leaves (emit_by env pool f b c v)
    emit_leaves pool f b c v = leaves (λ L. keeps_emit AnyRefusal (λ _. tt) env (WaitingIs L) (waiting_kept env L) pool Anywhere (anywhere pool) (none_waits L) f b c v tt)

    leaves_parts : (sub sup : ℕ) (soft hard : List ℕ) → LeavesIn (absorb_parts env sub sup soft hard)
    unfolding absorb_parts
    leaves_parts sub sup [] hard = leaves_then (leaves_nnf (nnf_complement sub)) (λ i.
        leaves_then (leaves_nnf (in_pool (mk_or (i ∷ sup ∷ [])))) (λ head.
        leaves_out (λ pool. restart_vars >> emit_head env pool [] head 0) (λ pool. stays_again (λ L. keeps_head AnyRefusal (λ _. tt) env (WaitingIs L) (waiting_kept env L) pool Anywhere (anywhere pool) (none_waits L) [] head 0 tt))))
    leaves_parts sub sup (a ∷ soft) hard = leaves_then (leaves_nnf (each nnf_complement hard)) (λ negated.
        leaves_then (leaves_nnf (in_pool (mk_or (negated ++ (sup ∷ []))))) (λ head.
        leaves_then (leaves_soft a soft) (λ g.
        leaves_out (λ pool. restart_vars >> (encode_antecedent env pool g 0 >>= (λ o. bodies_or_defer env pool head o)))
        (λ pool. stays_again (λ L. keeps_then (stays_antecedent pool g L) (λ o. keeps_bodies_or AnyRefusal (λ _. tt) env (WaitingIs L) (waiting_kept env L) pool Anywhere (anywhere pool) (none_waits L) head tt o))))))
      where
        leaves_soft : (a : ℕ) (l : List ℕ) → LeavesIn (soft_and env (a ∷ l))
        leaves_soft a [] = leaves_return a
        leaves_soft a (b ∷ l) = leaves_nnf (in_pool (mk_and (a ∷ b ∷ l)))

    leaves_absorb : (sub sup : ℕ) → LeavesIn (absorb_hard_antecedent env sub sup)
    unfolding absorb_hard_antecedent
    leaves_absorb sub sup =
        leaves_then (out_leaves (λ pool. partition env pool (conjuncts sub (at pool sub)) [] []) (λ pool. partition_leaves pool (conjuncts sub (at pool sub)) [] [])) (λ parts. leaves_parts sub sup parts.soft parts.hard)

    pub gci_leaves : (sub sup : ℕ) → LeavesIn (clausify_gci env sub sup)
    unfolding clausify_gci
    gci_leaves sub sup = leaves_then (leaves_out (λ pool. restart_vars >> encode_antecedent env pool sub 0) (λ pool. stays_again (stays_antecedent pool sub))) go
      where
        go : (o : Option Alternatives) → LeavesIn (gci_with env sub sup o)
        go none = leaves_absorb sub sup
        go (some l) = leaves_out (λ pool. emit_bodies env pool l sup) (λ pool L. keeps_bodies AnyRefusal (λ _. tt) env (WaitingIs L) (waiting_kept env L) pool Anywhere (anywhere pool) (none_waits L) l sup tt)

-- ---- one axiom
pub axiom_leaves : (env : Env) (a : Axiom) → (names_limits a && env.equal_names) ≡ false → LeavesIn (clausify_axiom env a)
unfolding clausify_axiom
axiom_leaves env (SubClassOf sub sup) e = gci_leaves env e sub sup
axiom_leaves env (EquivalentClasses l) e = leaves_each (λ p. gci_leaves env e p.0 p.1) (ordered_pairs l)
axiom_leaves env (DisjointClasses l) e = leaves_disjoint env (defer env DisjointAntecedent) (λ L. keeps_defer AnyRefusal (λ _. tt) env (WaitingIs L) (waiting_kept env L) DisjointAntecedent) l
axiom_leaves env (DisjointUnion class l) e = leaves_union env class l
axiom_leaves env (ObjectPropertyDomain r c) e = leaves_out (domain env r c) (λ pool L. keeps_domain AnyRefusal (λ _. tt) env (WaitingIs L) (waiting_kept env L) pool Anywhere (anywhere pool) (none_waits env e L) r c tt)
axiom_leaves env (ObjectPropertyRange r c) e = leaves_out (range env r c) (λ pool L. keeps_range AnyRefusal (λ _. tt) env (WaitingIs L) (waiting_kept env L) pool Anywhere (anywhere pool) (none_waits env e L) r c tt)
axiom_leaves env (SubChain sup parts) e = leaves_out (chain_of env sup parts) (λ pool L. keeps_chain_of AnyRefusal (λ _. tt) env (WaitingIs L) (waiting_kept env L) sup parts pool)
axiom_leaves env (TransitiveRole r) e = leaves_out (chain env r r r) (λ pool L. keeps_chain AnyRefusal (λ _. tt) env (WaitingIs L) (waiting_kept env L) r r r pool)
axiom_leaves env (IrreflexiveRole r) e = leaves_out (λ pool. push env (RoleAtom (canon env r) 0 0 ∷ []) []) (λ pool L. keeps_push AnyRefusal (λ _. tt) env (WaitingIs L) (waiting_kept env L) (RoleAtom (canon env r) 0 0 ∷ []) [])
axiom_leaves env (AsymmetricRole r) e = leaves_out (asymmetric env r) (λ pool L. keeps_asymmetric AnyRefusal (λ _. tt) env (WaitingIs L) (waiting_kept env L) r pool)
axiom_leaves env (DisjointObjectProperties l) e = leaves_each (λ p. leaves_out (λ pool. disjoint_roles env p pool (eqb (role_code p.0) (role_code p.1))) (λ pool L. keeps_roles AnyRefusal (λ _. tt) env (WaitingIs L) (waiting_kept env L) p pool (eqb (role_code p.0) (role_code p.1)))) (later_pairs l)
axiom_leaves env (InverseObjectProperties _ _) e = leaves_return tt
axiom_leaves env (SubObjectPropertyOf _ _) e = leaves_return tt
axiom_leaves env (EquivalentObjectProperties _) e = leaves_return tt
axiom_leaves env (ReflexiveRole _) e = leaves_return tt
axiom_leaves env (ClassAssertion _ _) e = leaves_return tt

-- ---- with its limits
-- none waits afterwards
settle_empties : (env : Env) (f : ℕ) (z : Clausifier) → Post (λ _ y. y.out.limits ≡ []) (settle_by env f z)
unfolding settle_by leave_limits
settle_empties env zero z = refuses
settle_empties env (suc f) z = go (λ y. settle_empties env f y) z.out.limits refl
  where
    go : ((y : Clausifier) → Post (λ _ x. x.out.limits ≡ []) (settle_by env f y)) → (l : List Limit) → z.out.limits ≡ l → Post (λ _ y. y.out.limits ≡ []) (settle_next env (λ y. settle_by env f y) l z)
    go rest [] e = give e
    go rest (w ∷ l) e = post_then (post_any (other_half env w (record { pool = z.pool; out = with_limits l z.out }))) (λ _ y _. rest y)

pub whole_empties : (env : Env) (a : Axiom) (z : Clausifier) → Post (λ _ y. y.out.limits ≡ []) (clausify_whole env a z)
unfolding clausify_whole
whole_empties env a z = post_then (post_any (clausify_axiom env a z)) (λ _ y _. settle_empties env (suc y.out.limit) y)

-- where none waits, settling does nothing
pub settle_none : (env : Env) (z : Clausifier) → z.out.limits ≡ [] → settle env z ≡ ok tt z
unfolding settle_by
settle_none env z e = rw e refl

-- so where the axiom names no limit, it is the axiom alone
pub whole_alone : (env : Env) (a : Axiom) (z : Clausifier) → (names_limits a && env.equal_names) ≡ false → z.out.limits ≡ [] → clausify_whole env a z ≡ clausify_axiom env a z
unfolding clausify_whole
whole_alone env a z off e = go ((axiom_leaves env a off).run z)
  where
    go : {r : Res Clausifier (Unit {0})} → Post (λ _ y. y.out.limits ≡ z.out.limits) r → then r (λ _. settle env) ≡ r
    go (gives {s = y} d) = settle_none env y (d ∙ e)
    go refuses = refl

-- ---- without option 4
names_none : (a : Axiom) (b : Bool) → b ≡ false → (names_limits a && b) ≡ false
names_none a b e = rw e (and-false (names_limits a))

-- an at-most's filler is named as every other
pub limit_alone : (env : Env) (pool : Pool) (emit : Emits) (c : ℕ) (s : Out) → env.equal_names ≡ false → limit_qualifier env pool emit c s ≡ cardinality_qualifier env pool emit c s
unfolding limit_qualifier await
limit_alone env pool emit c s off = rw off refl

-- the axioms, with no limit settled
unfoldable pub axioms_alone : Env → ℕ → List Axiom → Clausifier → Lined Clausifier (Unit {0})
axioms_alone env line [] z = done tt z
axioms_alone env line (a ∷ l) z = lined_then (lined line (clausify_axiom env a (clausifier_at line z))) (λ _ y. axioms_alone env (line + 1) l y)

pub axioms_alone_lem : (env : Env) → env.equal_names ≡ false → (line : ℕ) (l : List Axiom) (z : Clausifier) → z.out.limits ≡ [] → clausify_axioms env line l z ≡ axioms_alone env line l z
unfolding clausify_axioms axioms_alone
axioms_alone_lem env off line [] z e = refl
axioms_alone_lem env off line (a ∷ l) z e = rw (whole_alone env a (clausifier_at line z) (names_none a env.equal_names off) e) (go (λ y d. axioms_alone_lem env off (line + 1) l y d) ((axiom_leaves env a (names_none a env.equal_names off)).run (clausifier_at line z)))
  where
    go : ((y : Clausifier) → y.out.limits ≡ [] → clausify_axioms env (line + 1) l y ≡ axioms_alone env (line + 1) l y) → {r : Res Clausifier (Unit {0})} → Post (λ _ y. y.out.limits ≡ z.out.limits) r
        → lined_then (lined line r) (λ _ y. clausify_axioms env (line + 1) l y) ≡ lined_then (lined line r) (λ _ y. axioms_alone env (line + 1) l y)
    go rest (gives {s = y} d) = rest y (d ∙ e)
    go rest refuses = refl

-- ---- without option 8
-- with the map as it was made
abbrev pub mapped_env : Known → Rooms → List Axiom → Env
mapped_env d rooms axioms = record {
  nominal_base = d.header.classes;
  inverse_canon = build_inverse_canon axioms;
  dkey_classes = d.keys;
  card_disjunct_atoms = card_disjunct_atoms d.header.options;
  equal_names = equal_names d.header.options;
  rooms = rooms;
}

-- nothing changes: no other rule reads the option
pub without_option_eight : (d : Known) (rooms : Rooms) (axioms : List Axiom) → follow_roles d.header.options ≡ false → env_of d rooms axioms ≡ mapped_env d rooms axioms
without_option_eight d rooms axioms off = ap (λ (b : Bool). with_map (pick b (followed (build_inverse_canon axioms)) (build_inverse_canon axioms))) off
  where
    with_map : InverseCanon → Env
    with_map m = record {
      nominal_base = d.header.classes;
      inverse_canon = m;
      dkey_classes = d.keys;
      card_disjunct_atoms = card_disjunct_atoms d.header.options;
      equal_names = equal_names d.header.options;
      rooms = rooms;
    }

-- ---- without option 4
-- nothing changes: the run of the axioms is what it is with no limit settled
pub without_option_four : (d : Known) (rooms : Rooms) (line : ℕ) (axioms : List Axiom) (s : St) → equal_names d.header.options ≡ false
    → clausify_axioms (env_of d rooms axioms) line axioms (start d s) ≡ axioms_alone (env_of d rooms axioms) line axioms (start d s)
without_option_four d rooms line axioms s off = axioms_alone_lem (env_of d rooms axioms) off line axioms (start d s) refl
