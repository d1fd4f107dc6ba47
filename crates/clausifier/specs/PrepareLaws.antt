-- The way from a deck that was read to the state before the first clause. Assumes nothing.
use Rattle.std.specs.Prelude.{◌≡◌, refl, false, List, [], ◌∷◌, ℕ, ◌+◌, ◌*◌, ◌-◌, ◌<◌, ◌≤◌, length, get_or}
use Rattle.std.proofs.Common.{sym, ap, subst, ◌∙◌, arith, ne_eqb}
use Rattle.words.specs.Words.{words}
use Rattle.words.specs.Laws.{words_long, word_front}
use Rattle.ir.specs.Scratch.{keys_at, roles_at, alternatives_at, axioms_at, numbers_at, lines_at, stack_at, limits_at, limits_words}
use Rattle.ir.specs.Counts.{at_line}
use Rattle.ir.specs.Options.{card_disjunct_atoms, equal_names, follow_roles}
use Rattle.ir.specs.declared.counters.Counters.{Counters}
use Rattle.ir.specs.Lined.{Lined as CodeLined}
use Rattle.ir.specs.Lined.{Finished, Stopped}
use Rattle.rules.specs.Base.{contains}
use Rattle.rules.specs.Concept.{Axiom}
use Rattle.rules.specs.Pool.{Pool}
use Rattle.rules.specs.Normalize.{St}
use Rattle.rules.specs.State.{Rooms, total}
use Rattle.rules.specs.Inverse.{inverse_canon_of}
use Rattle.rules.specs.Invariants.{Each, Wf}
use Rattle.rules.proofs.NormalizeLaws.{AxiomsMade, nnf_axioms_made}
use Rattle.rules.specs.LinedPost.{LinedPost, done_post}
use Rattle.rules.specs.Deck.{Known, axiom_line}
use Rattle.rules.specs.DeckLaws.{bounds_of, DeckIn}
use Rattle.rules.specs.Run.{Lined, done, stopped, nnf_axioms, clause_words, atom_words, deferral_words, clause_records, atom_records, deferral_records, first_fresh, env_of, start}
use Rattle.pool.specs.Layout.{pool_of}
use Rattle.pool.specs.Held.{Held, Ready}
use Rattle.pool.specs.HeldLaws.{Same, pool_same, held_same, word_above}
use Rattle.ontology.specs.Layout.{axioms_of, AxiomsHeld, KeysHeld}
use Rattle.ontology.specs.Loads.{begin}
use Rattle.rebuilding.specs.States.{state_of, counted, Kept}
use Rattle.normalize.specs.Axioms.{after_axioms, told_lined, HeldLined, NormalizingAxioms}
use Rattle.normalize.specs.Loaded.{begun, normalized, holds_ready, holds_line, holds_rule}
use Rattle.inverse.specs.Layout.{RolesHeld, Beside, Building}
use Rattle.tables.specs.Drawn.{padded, show}
use Rattle.hands.specs.Hands.{EnvIn}
use Rattle.antecedents.specs.Table.{Numbered, Outside}
use Rattle.antecedents.specs.TableLaws.{outside_pool, outside_held}
use Rattle.axioms.specs.Wholes.{Clausifying}
use Rattle.clausifier.specs.Arms.{AxiomsOf}
use Rattle.ontology.specs.KeptAxioms.{axioms_kept, held_axioms}
use Rattle.clausifier.specs.Prepare.{Preparing, empty, Prepared}

-- ---- nnf_axioms' answer
pub record Told (k : Counters) (x : Lined St (List Axiom)) (v : Counters) (l : List Axiom) (p : Pool) : Type 0 where
  pub state : St
  pub made : x ≡ done l state
  pub counters : v ≡ counted k state
  pub pool : p ≡ state.pool

told_finished : (k : Counters) (x : Lined St (List Axiom)) (v : Counters) (l : List Axiom) (w : List ℕ) → after_axioms (Finished v) l w ≡ told_lined k x → Told k x v l (pool_of w v.concepts)
told_finished k (done m s) v l w e = record {
  state = s;
  made = let q : m ≡ l = cc in rw q refl;
  counters = cc;
  pool = cc;
}
told_finished k (stopped n line) v l w e = absurd (let z : ◌≡◌ {A = ℕ} 0 1 = cc in omega arith)

told_stopped : (k : Counters) (x : Lined St (List Axiom)) (n line : ℕ) (l : List Axiom) (w : List ℕ) → after_axioms (Stopped n line) l w ≡ told_lined k x → x ≡ stopped n line
told_stopped k (done m s) n line l w e = absurd (let z : ◌≡◌ {A = ℕ} 0 1 = cc in omega arith)
told_stopped k (stopped m o) n line l w e = cc

-- ---- the normal form in scratch's bytes s
pub record NormalIn (d : Known) (limit : ℕ) (s : List ℕ) (v : Counters) (n : ℕ) : Type 0 where
  pub deck : DeckIn d
  pub most : limit ≤ 1000000
  pub space : 4 * (limits_at + limits_words) ≤ length s
  pub told : Told (begin d limit) (normalized d limit) v (axioms_of (words s) n) (pool_of (words s) v.concepts)
  pub made : AxiomsMade (bounds_of d) (begun d limit) d.axioms (axioms_of (words s) n) told.state
  pub held : Held (words s) v.concepts v.members
  pub lines : AxiomsHeld (words s) n
  pub keys : KeysHeld (words s) d.keys

module _ (s : List ℕ) (k : Counters) (n : ℕ) (P : Preparing s k n) where
  pub preparing_ready : NormalizingAxioms s k n
  preparing_ready = holds_ready P.known P.inside P.limit s k n P.holds (omega (arith, P.space))

  pub preparing_line : k.line ≤ 65536
  preparing_line = holds_line P.known P.inside P.limit s k n P.holds

  module _ (s' : List ℕ) (r : CodeLined)
      (e : after_axioms r (axioms_of (words s') n) (words s') ≡ told_lined k (nnf_axioms k.line (axioms_of (words s) n) (state_of k (words s)))) where
    rule_is : after_axioms r (axioms_of (words s') n) (words s') ≡ told_lined (begin P.known P.limit) (normalized P.known P.limit)
    rule_is = e ∙ ap (told_lined k) (holds_rule P.known P.inside P.limit s k n P.holds) ∙ ap (λ (j : Counters). told_lined j (normalized P.known P.limit)) P.holds.counters

    pub preparing_stops : (m line : ℕ) → r ≡ Stopped m line → normalized P.known P.limit ≡ stopped m line
    preparing_stops m line q =
        told_stopped (begin P.known P.limit) (normalized P.known P.limit) m line (axioms_of (words s') n) (words s')
        (subst (λ (o : CodeLined). after_axioms o (axioms_of (words s') n) (words s') ≡ told_lined (begin P.known P.limit) (normalized P.known P.limit)) q rule_is)

    module _ (v : Counters) (q : r ≡ Finished v) (h : HeldLined r n (words s')) (K : Kept numbers_at (lines_at - numbers_at) stack_at (words s) (words s')) (l : length s' ≡ length s) where
      told_normal : Told (begin P.known P.limit) (normalized P.known P.limit) v (axioms_of (words s') n) (pool_of (words s') v.concepts)
      told_normal =
          told_finished (begin P.known P.limit) (normalized P.known P.limit) v (axioms_of (words s') n) (words s')
          (subst (λ (o : CodeLined). after_axioms o (axioms_of (words s') n) (words s') ≡ told_lined (begin P.known P.limit) (normalized P.known P.limit)) q rule_is)

      pub preparing_normal : NormalIn P.known P.limit s' v n
      preparing_normal =
          let d = P.known in
          let D = P.inside in
          let T = told_normal in
          let g : Held (words s') v.concepts v.members × AxiomsHeld (words s') n = subst (λ (o : CodeLined). HeldLined o n (words s')) q h in
          record {
            deck = D;
            most = P.most;
            space = rw l P.space;
            told = T;
            made = done_post (subst (LinedPost (AxiomsMade (bounds_of d) (begun d P.limit) d.axioms)) T.made (nnf_axioms_made (bounds_of d) (axiom_line d 0) d.axioms (begun d P.limit) D.wf D.axioms));
            held = g.0;
            lines = g.1;
            keys = record { marked = λ a i. rw (K.before (keys_at + a) (omega arith) (omega arith)) (P.holds.keys.marked a i) };
          }

-- ---- the state before the first clause
-- no class above those of the deck is a key
no_key_lem : (m : ℕ) (l : List ℕ) → Each (λ k. k < m) l → (a : ℕ) → m ≤ a → contains l a ≡ false
no_key_lem m [] h a g = refl
no_key_lem m (x ∷ l) h a g = rw (ne_eqb a x (λ e. absurd (omega (arith, h.0))), no_key_lem m l h.1 a g) refl

-- the counters before it
abbrev pub readied : Known → ℕ → St → Counters
readied d limit s = at_line 0 (counted (begin d limit) s)

start_shown : (d : Known) (limit : ℕ) (s : St) (rooms : Rooms) → empty (readied d limit s) rooms ≡ show (readied d limit s) rooms (start d s).out
unfolding show padded clause_records atom_records deferral_records total
start_shown d limit s rooms =
    let c : clause_words * rooms.clauses - 0 ≡ clause_words * rooms.clauses = omega arith in
    let a : atom_words * rooms.atoms - 0 ≡ atom_words * rooms.atoms = omega arith in
    let f : deferral_words * rooms.deferrals - 0 ≡ deferral_words * rooms.deferrals = omega arith in
    rw (c, a, f) refl

-- ---- what the code asks of it
module _ (d : Known) (limit : ℕ) (s : List ℕ) (v : Counters) (n : ℕ) (N : NormalIn d limit s v n) where
  pub normal_building : Building s n
  normal_building = record {
    space = omega (arith, N.space);
    held = N.lines;
    bounds = bounds_of d;
    few = N.deck.roles;
    concepts = length N.told.state.pool;
    inside = N.made.inside;
  }

  -- the map was written
  module _ (s' : List ℕ) (B : Beside (words s) (words s')) (l : length s' ≡ length s) where
    beside_same : Same (words s) (words s') v.concepts v.members
    beside_same = record {
      records = λ i h. B.below i (omega (arith, N.held.few));
      members = λ i h. B.below (12288 + i) (omega (arith, N.held.space));
    }

    beside_pool : pool_of (words s') v.concepts ≡ pool_of (words s) v.concepts
    beside_pool = pool_same (words s) (words s') v.concepts v.members N.held beside_same v.concepts (omega arith)

    beside_held : Held (words s') v.concepts v.members
    beside_held = held_same (words s) (words s') v.concepts v.members N.held beside_same (words_long s s' l) (λ h i. B.below (28672 + h) (omega arith))

    pub normal_ready : Ready s' v
    normal_ready = record { room = omega (arith, N.space); held = beside_held }

    -- and the rows
    module _ (s'' : List ℕ) (O : Outside (words s') (words s'')) (m : length s'' ≡ length s') where
      pool_is : pool_of (words s'') v.concepts ≡ pool_of (words s') v.concepts
      pool_is = outside_pool (words s') (words s'') O v.concepts v.members beside_held

      held_is : Held (words s'') v.concepts v.members
      held_is = outside_held (words s') (words s'') O v.concepts v.members beside_held (words_long s' s'' m)

      low : (j : ℕ) → j < roles_at → get_or (words s'') j 0 ≡ get_or (words s) j 0
      low j h = word_front alternatives_at (words s') (words s'') O.low j (omega arith) ∙ B.below j h

      high : (j : ℕ) → axioms_at ≤ j → j < lines_at → get_or (words s'') j 0 ≡ get_or (words s) j 0
      high j h i = word_above axioms_at (words s') (words s'') O.high j h ∙ B.above j (omega arith)

      keys_is : KeysHeld (words s'') d.keys
      keys_is = record { marked = λ a i. rw (low (keys_at + a) (omega arith)) (N.keys.marked a i) }

      lines_is : AxiomsHeld (words s'') n
      lines_is = held_axioms (words s) (words s'') n N.lines high

      axioms_is : axioms_of (words s'') n ≡ axioms_of (words s) n
      axioms_is = axioms_kept (words s) (words s'') n N.lines high

      module _ (R : RolesHeld (words s') (inverse_canon_of (follow_roles v.options) (axioms_of (words s) n))) (M : Numbered (words s'') (pool_of (words s') v.concepts) v.concepts) where
        roles_is : RolesHeld (words s'') (inverse_canon_of (follow_roles v.options) (axioms_of (words s) n))
        roles_is = record { mapped = λ r h. word_front alternatives_at (words s') (words s'') O.low (roles_at + r) (omega arith) ∙ R.mapped r h }

        state_pool : pool_of (words s'') v.concepts ≡ N.told.state.pool
        state_pool = pool_is ∙ beside_pool ∙ N.told.pool

        concepts_is : v.concepts ≡ length N.told.state.pool
        concepts_is = ap (λ (j : Counters). j.concepts) N.told.counters

        options_is : v.options ≡ d.header.options
        options_is = ap (λ (j : Counters). j.options) N.told.counters

        nominals_is : v.nominal_base ≡ d.header.classes
        nominals_is = ap (λ (j : Counters). j.nominal_base) N.told.counters

        clausifying_is : Clausifying s'' (at_line 0 v)
        clausifying_is =
            let T = N.told.counters in
            let W : Wf (bounds_of d) (pool_of (words s'') v.concepts) = subst (Wf (bounds_of d)) (sym state_pool) N.made.ran.wf in
            let visits : v.visits ≡ N.told.state.visits = ap (λ (j : Counters). j.visits) T in
            let most : v.limit ≡ N.told.state.limit = ap (λ (j : Counters). j.limit) T in
            let var : v.next_var ≡ 1 = ap (λ (j : Counters). j.next_var) T in
            let class : v.next_class ≡ first_fresh d = ap (λ (j : Counters). j.next_class) T in
            record {
              encoding = record {
                reading = record {
                  room = omega (arith, N.space);
                  bounds = bounds_of d;
                  ready = record { room = omega (arith, N.space); held = held_is };
                  wf = W;
                  classes = omega (arith, N.deck.classes);
                  individuals = N.deck.individuals;
                  roles = N.deck.roles;
                  nominals = omega (arith, nominals_is, N.deck.classes);
                };
                rows = subst (λ (p : Pool). Numbered (words s'') p v.concepts) (sym pool_is) M;
                canon = inverse_canon_of (follow_roles v.options) (axioms_of (words s) n);
                roles = roles_is;
              };
              good = record {
                most = omega (arith, most, N.made.ran.limit, N.most);
                seen = omega (arith, visits, most, N.made.ran.within (omega arith));
                vars = omega (arith, var);
                names = omega (arith, class, N.deck.classes, N.deck.individuals);
              };
              space = omega (arith, N.space);
              queue = omega (arith, N.space);
            }

        axioms_of_lem : AxiomsOf (words s'') (at_line 0 v) n
        axioms_of_lem = record {
          bounds = bounds_of d;
          classes = N.deck.classes;
          roles = N.deck.roles;
          held = lines_is;
          inside = rw (axioms_is, concepts_is) N.made.inside;
        }

        env_is : (rooms : Rooms) → EnvIn (env_of d rooms (axioms_of (words s) n)) (at_line 0 v) (words s'')
        env_is rooms = record {
          nominals = nominals_is;
          option = ap (λ (j : Counters). card_disjunct_atoms j.options) N.told.counters;
          names = ap (λ (j : Counters). equal_names j.options) N.told.counters;
          keys = keys_is;
          no_keys = λ a h. no_key_lem d.header.classes d.keys N.deck.keys a (omega (arith, N.deck.classes));
          roles = rw (← options_is) roles_is;
        }

        pub normal_prepared : (k : Counters) → k ≡ at_line 0 v → Prepared d limit s'' k n
        normal_prepared k e = subst (λ (j : Counters). Prepared d limit s'' j n) (sym e) (record {
          normal = axioms_of (words s) n;
          state = N.told.state;
          made = N.told.made;
          options = options_is;
          clausifying = clausifying_is;
          axioms = axioms_of_lem;
          listed = axioms_is;
          pool = state_pool;
          read = env_is;
          shown = λ rooms. subst (λ (j : Counters). empty (at_line 0 j) rooms ≡ show (at_line 0 j) rooms (start d N.told.state).out) (sym N.told.counters) (start_shown d limit N.told.state rooms);
        })
