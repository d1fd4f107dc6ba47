-- The text of a state that stands in the lent tables. Assumes nothing.
use mathlib.Core.Path.{◌≡◌, refl, ap, subst, ◌∙◌}
use mathlib.Core.List.{List, [], ◌∷◌, ◌++◌}
use Prim.Native.Nat.{ℕ, zero, suc, ◌+◌, ◌*◌, ◌-◌, ◌≤◌}
use native.Mathlib.Omega.{arith}
use lib.ListN.{length, take, replicate, length-append}
use lib.Seq.{take_at}
use Rattle.ir.specs.Deferrals.{deferral_kind}
use Rattle.ir.specs.declared.counters.Counters.{Counters}
use Rattle.rules.specs.State.{Deferred, total}
use Rattle.rules.specs.Axioms.{Clausifier}
use Rattle.rules.specs.Run.{deferral_words, deferral_records}
use Rattle.rules.specs.DecodeLaws.{deferral_records_long}
use Rattle.rules.specs.Lister.{fields_text, clauses_text}
use Rattle.tables.specs.Drawn.{padded, Tables, show, counters_in, deferrals_in}
use Rattle.rows.specs.Rows.{Put, texts_of}
use Rattle.rows.specs.RowLaws.{length_line, put_then}
use Rattle.tables.specs.Tabled.{Tabled, At, deferred_line, deferred_kind}
use Rattle.listing.specs.Listing.{Listable}
use Rattle.tables.specs.TabledLaws.{at_back, at_get, at_long}
use Rattle.tables.specs.ClauseLaws.{tabled_long, shown_tabled}
use Rattle.listing.specs.ListingLaws.{clauses_long}
use Rattle.staging.specs.Stage.{Shows}
use Rattle.clauses.specs.Stage.{deferrals_text, sums_line, state_text, lent, most_text, Deferring}

-- ---- deferrals
-- record i of the table's words, as a line
abbrev pub deferral_text : List ℕ → ℕ → List ℕ
deferral_text d i = fields_text (45 ∷ deferred_line d i ∷ deferred_kind d i ∷ [])

pub deferral_put_lem : (d : List ℕ) (i line kind : ℕ) {s s' : List ℕ} {at p : ℕ} → line ≡ deferred_line d i → kind ≡ deferred_kind d i → Put s at (fields_text (45 ∷ line ∷ kind ∷ [])) s' p → Put s at (deferral_text d i) s' p
deferral_put_lem d i line kind e f P = rw (e, f) at P

-- the deferrals l stand from record i on
records_text : (l : List Deferred) (d : List ℕ) (i : ℕ) → At d (deferral_words * i) (deferral_records l) → texts_of (deferral_text d) i (length l) ≡ deferrals_text l
unfolding texts_of deferrals_text deferral_records
records_text [] d i e = refl
records_text (x ∷ l) d i e =
    let k = deferral_kind x.kind in
    let r = deferral_records l in
    let f : deferred_line d i ≡ x.line = at_get d (deferral_words * i) x.line (k ∷ r) e in
    let g : deferred_kind d i ≡ k = at_get d (deferral_words * i + 1) k r (at_back d (deferral_words * i) (x.line ∷ []) (k ∷ r) e (deferral_words * i + 1) refl) in
    let h : At d (deferral_words * (i + 1)) r = at_back d (deferral_words * i) (x.line ∷ k ∷ []) r e (deferral_words * (i + 1)) (omega arith) in
    rw (f, g) (ap (λ (t : List ℕ). fields_text (45 ∷ x.line ∷ k ∷ []) ++ t) (records_text l d (i + 1) h))

module _ (d : List ℕ) (n : ℕ) (l : List Deferred) (D : Deferring d n l) where
  records_at : At d (deferral_words * 0) (deferral_records l)
  records_at = let e : length (deferral_records l) ≡ deferral_words * n = omega (arith, deferral_records_long l, D.count) in rw e D.records

  pub deferring_text : texts_of (deferral_text d) 0 n ≡ deferrals_text l
  deferring_text = rw D.count (records_text l d 0 records_at)

  pub deferring_few : deferral_words * n ≤ length d
  deferring_few = omega (arith, at_long d (deferral_words * 0) (deferral_records l) records_at, deferral_records_long l, D.count)

pub deferral_long : (d : List ℕ) (i : ℕ) → length (deferral_text d i) ≡ 34
deferral_long d i = length_line (45 ∷ deferred_line d i ∷ deferred_kind d i ∷ [])

pub deferral_texts_long : (d : List ℕ) (n i : ℕ) → length (texts_of (deferral_text d) i n) ≡ 34 * n
unfolding texts_of
deferral_texts_long d zero i = refl
deferral_texts_long d (suc n) i = omega (arith, length-append (deferral_text d i) (texts_of (deferral_text d) (i + 1) n), deferral_long d i, deferral_texts_long d n (i + 1))

deferrals_long : (l : List Deferred) → length (deferrals_text l) ≡ 34 * length l
unfolding deferrals_text
deferrals_long [] = refl
deferrals_long (x ∷ l) =
    let r : List ℕ = 45 ∷ x.line ∷ deferral_kind x.kind ∷ [] in
    omega (arith, length-append (fields_text r) (deferrals_text l), length_line r, deferrals_long l)

-- ---- a state in the tables
module _ (k : Counters) (c a d : List ℕ) (z : Clausifier) (S : Shows lent k c a d z) where
  state_tabled : Tabled c a k.clauses z.out.clauses
  state_tabled = shown_tabled k _ lent z.out c a d S.shown

  state_deferring : Deferring d k.deferrals z.out.deferrals
  unfolding show padded
  state_deferring =
      let n : k.deferrals ≡ length z.out.deferrals = ap (λ (t : Tables). (counters_in t).deferrals) S.shown in
      let r = deferral_records z.out.deferrals in
      record {
        count = n;
        records = ap (λ (t : Tables). take (deferral_words * k.deferrals) (deferrals_in t)) S.shown ∙ take_at r (replicate (deferral_words * lent.deferrals - length r) 0) (deferral_words * k.deferrals) (omega (arith, deferral_records_long z.out.deferrals));
      }

  sums_are : 44 ∷ k.clauses ∷ k.atoms ∷ k.deferrals ∷ k.next_class ∷ k.visits ∷ k.concepts ∷ k.members ∷ [] ≡ sums_line z
  unfolding show
  sums_are = ap (λ (t : Tables). 44 ∷ (counters_in t).clauses ∷ (counters_in t).atoms ∷ (counters_in t).deferrals ∷ (counters_in t).next_class ∷ (counters_in t).visits ∷ (counters_in t).concepts ∷ (counters_in t).members ∷ []) S.shown

  clauses_few : k.clauses ≤ 1024
  clauses_few = omega (arith, (tabled_long c a k.clauses z.out.clauses state_tabled).0, S.sizes.clauses)

  atoms_few : total z.out.clauses ≤ 2048
  atoms_few = omega (arith, (tabled_long c a k.clauses z.out.clauses state_tabled).1, S.sizes.atoms)

  deferrals_few : k.deferrals ≤ 256
  deferrals_few = omega (arith, deferring_few d k.deferrals z.out.deferrals state_deferring, S.sizes.deferrals)

  pub state_listable : (room : ℕ) → most_text ≤ room → Listable c a k.clauses 0 room
  state_listable room h = record { list = z.out.clauses; tabled = state_tabled; fits = omega (arith, clauses_few, atoms_few) }

  pub state_clauses : {s s' : List ℕ} {p : ℕ} → ((l : List _) → Tabled c a k.clauses l → Put s 0 (clauses_text 0 l) s' p) → Put s 0 (clauses_text 0 z.out.clauses) s' p
  state_clauses x = x z.out.clauses state_tabled

  -- the clauses' text ends early enough, and the deferrals' behind it
  pub clauses_end : {s s' : List ℕ} {p : ℕ} → Put s 0 (clauses_text 0 z.out.clauses) s' p → p ≤ 205824
  clauses_end x = omega (arith, x.end, clauses_long 0 z.out.clauses, state_tabled.count, clauses_few, atoms_few)

  pub deferrals_end : {s s' s'' : List ℕ} {p q : ℕ} → Put s 0 (clauses_text 0 z.out.clauses) s' p → ((l : List Deferred) → Deferring d k.deferrals l → Put s' p (deferrals_text l) s'' q) → q ≤ 214528
  deferrals_end x y = omega (arith, clauses_end x, (y z.out.deferrals state_deferring).end, deferrals_long z.out.deferrals, state_deferring.count, deferrals_few)

  pub state_deferrals : (k.deferrals ≤ 256) × (deferral_words * k.deferrals ≤ length d)
  state_deferrals = (deferrals_few, deferring_few d k.deferrals z.out.deferrals state_deferring)

  pub state_put : {s s' s'' s''' : List ℕ} {p q r : ℕ}
      → Put s 0 (clauses_text 0 z.out.clauses) s' p
      → ((l : List Deferred) → Deferring d k.deferrals l → Put s' p (deferrals_text l) s'' q)
      → Put s'' q (fields_text (44 ∷ k.clauses ∷ k.atoms ∷ k.deferrals ∷ k.next_class ∷ k.visits ∷ k.concepts ∷ k.members ∷ [])) s''' r
      → Put s 0 (state_text z) s''' r
  state_put {s} {s'} {s''} {s'''} {p} {q} {r} x y t =
      put_then x (put_then (y z.out.deferrals state_deferring) (subst (λ (l : List ℕ). Put s'' q (fields_text l) s''' r) sums_are t))
