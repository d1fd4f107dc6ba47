-- The name of a renumbered body. Assumes nothing.
use Rattle.std.specs.Prelude.{◌≡◌, refl, Some, None, List, [], ◌∷◌, ◌++◌, map, ℕ, ◌+◌, ◌*◌, ◌-◌, ◌≤◌, ◌<◌, length, get_or, take, drop}
use Rattle.std.proofs.Common.{sym, ap, subst, ◌∙◌, arith, length-append, get_or-take, get_or-drop}
use Rattle.std.proofs.Math.Option.{Option as RuleOption, none, some}
use Rattle.ir.specs.Records.{six}
use Rattle.ir.specs.RecordLaws.{six_inj}
use Rattle.ir.specs.declared.atom.Atom.{Atom}
use Rattle.ir.specs.declared.atom.Atom.TheVariants.{Class, Exists, AtMost, AtLeast, Equal, Role as RoleAtom}
use Rattle.rules.specs.Base.{ok}
use Rattle.rules.specs.Run.{flat}
use Rattle.rules.specs.DecodeLaws.{flat_long}
use Rattle.rules.specs.Invariants.{Each}
use Rattle.rules.specs.Branches.{memo_of, name_of, name_or_new, met_with, renumber, renumber_from}
use Rattle.rules.specs.Branches as Rules
use Rattle.rules.proofs.BranchLaws.{renumber_length, place_within, met_within}
use Rattle.branches.specs.Layout.{named_end, met_at, keep_at}
use Rattle.tables.specs.TabledLaws.{At}
use Rattle.branches.specs.Wide.{AtomsAre}
use Rattle.branches.specs.Memo.{packed, Packable, Tame, TameThere, named_words, NamedHeld, NamedThere, Named, OnlyMemo}
use Rattle.branches.specs.Renumbered.{run, OnlyRenumbered}
use Rattle.branches.specs.Found.{BodyHeld, Found}
use Rattle.branches.specs.PackLaws.{cons_same}
use Rattle.branches.specs.RenumberLaws.{run_kept}
use Rattle.branches.specs.FilterLaws.{marks_kept}
use Rattle.branches.specs.declared.memo.Naming.{Naming}

-- ---- words determine their atoms
flat_inj : (l m : List Atom) → flat l ≡ flat m → l ≡ m
unfolding flat
flat_inj [] [] e = refl
flat_inj [] (b ∷ m) e = absurd (let z : 0 ≡ length (six b ++ flat m) = ap length e in let k = length-append (six b) (flat m) in omega arith)
flat_inj (a ∷ l) [] e = absurd (let z : length (six a ++ flat l) ≡ 0 = ap length e in let k = length-append (six a) (flat l) in omega arith)
flat_inj (a ∷ l) (b ∷ m) e = cons_same a b l m (six_inj a b (ap (take 6) e)) (flat_inj l m (ap (drop 6) e))

pub atoms_same : (w : List ℕ) (base count : ℕ) (l m : List Atom) → AtomsAre w base count l → AtomsAre w base count m → l ≡ m
atoms_same w base count l m A B =
    let n : length (flat l) ≡ length (flat m) = omega (arith, flat_long l, flat_long m, A.long, B.long) in
    flat_inj l m (sym A.there ∙ ap (λ (j : ℕ). run w (6 * base) j) n ∙ B.there)

-- ---- a renumbered body fits in words
renumber_packable : (met : List ℕ) (l : List Atom) → length met + 2 * length l < 1024 → Each Tame l → Each Packable (renumber_from met l)
unfolding renumber_from
renumber_packable met [] h p = tt
renumber_packable met (Class k v ∷ l) h p =
    let x = place_within met v in
    let y = met_within met v in
    ((p.0, omega arith), renumber_packable (met_with met v) l (omega arith) p.1)
renumber_packable met (RoleAtom r u v ∷ l) h p =
    let x = place_within met u in
    let y = met_within met u in
    let z = place_within (met_with met u) v in
    let t = met_within (met_with met u) v in
    ((p.0, omega arith, omega arith), renumber_packable (met_with (met_with met u) v) l (omega arith) p.1)
renumber_packable met (Exists _ _ _ ∷ l) h p = absurd p.0
renumber_packable met (AtMost _ _ _ _ ∷ l) h p = absurd p.0
renumber_packable met (AtLeast _ _ _ _ ∷ l) h p = absurd p.0
renumber_packable met (Equal _ _ ∷ l) h p = absurd p.0

pub body_held : (r : ℕ) (w w' : List ℕ) (base count root : ℕ) (l : List Atom) → TameThere w base count → count ≤ 256 → AtomsAre w base count l → At w' r (map packed (renumber l root)) → BodyHeld r w' count (renumber l root)
body_held r w w' base count root l T few A a = record {
  long = A.long ∙ sym (renumber_length (root ∷ []) l);
  packable = renumber_packable (root ∷ []) l (omega (arith, A.long)) (subst (Each Tame) (atoms_same w base count T.list l T.are A) T.tame);
  words = a;
}

-- ---- the branches stay
pub get_below : (m : ℕ) (w w' : List ℕ) (j : ℕ) → take m w' ≡ take m w → j < m → get_or w' j 0 ≡ get_or w j 0
get_below m w w' j e h = sym (get_or-take m w' j 0 h) ∙ ap (λ (l : List ℕ). get_or l j 0) e ∙ get_or-take m w j 0 h

pub named_kept : (m : ℕ) (w w' : List ℕ) (s : Naming) (z : Rules.Naming) → take m w' ≡ take m w → named_end ≤ m → NamedHeld w s z → NamedHeld w' s z
named_kept m w w' s z e h H = record {
  many = H.many;
  names = H.names;
  next = H.next;
  used = H.used;
  few = H.few;
  words = run_kept m w w' 0 (length (named_words z.named)) e (omega (arith, H.used, H.few)) ∙ H.words;
  bodies = H.bodies;
  marks = marks_kept w w' z.named (λ j l. get_below m w w' j e (omega arith)) H.marks;
}

pub there_kept : (m : ℕ) (w w' : List ℕ) (s : Naming) → take m w' ≡ take m w → named_end ≤ m → NamedThere w s → NamedThere w' s
there_kept m w w' s e h T = record { state = T.state; held = named_kept m w w' s T.state e h T.held }

-- ---- the answer
found_some : (s : Naming) (i : ℕ) (body : List Atom) (z : Rules.Naming) (o : RuleOption ℕ) → Found s o (Some i) → name_or_new body z o ≡ ok (s.first + i) z
found_some s i body z (some e) f = ap (λ (x : ℕ). ok x z) f.1
found_some s i body z none f = absurd f

pub named_old : (w : List ℕ) (s : Naming) (i : ℕ) (body : List Atom) (z : Rules.Naming) → Found s (memo_of z.named body) (Some i) → NamedHeld w s z → Named w body z s (s.first + i)
unfolding name_of
named_old w s i body z f H = record { state = z; is = found_some s i body z (memo_of z.named body) f; held = H }

pub found_below : (s : Naming) (i : ℕ) (o : RuleOption ℕ) → Found s o (Some i) → i < s.named
found_below s i (some e) f = f.0
found_below s i none f = absurd f

pub found_none : (s : Naming) (o : RuleOption ℕ) → Found s o None → o ≡ none
found_none s (some e) f = absurd f
found_none s none f = refl

-- ---- what is not written
get_run : (k n : ℕ) (w : List ℕ) (j : ℕ) → k ≤ j → j < k + n → get_or (run w k n) (j - k) 0 ≡ get_or w j 0
get_run k n w j h l =
    let e : k + (j - k) ≡ j = omega arith in
    get_or-take n (drop k w) (j - k) 0 (omega arith) ∙ get_or-drop k w (j - k) 0 ∙ ap (λ (i : ℕ). get_or w i 0) e

pub get_within : (k n : ℕ) (w w' : List ℕ) (j : ℕ) → run w' k n ≡ run w k n → k ≤ j → j < k + n → get_or w' j 0 ≡ get_or w j 0
get_within k n w w' j e h l = sym (get_run k n w' j h l) ∙ ap (λ (x : List ℕ). get_or x (j - k) 0) e ∙ get_run k n w j h l

pub only_memo : (w w1 w2 : List ℕ) → OnlyRenumbered met_at keep_at w w1 → ((j : ℕ) → named_end ≤ j → get_or w2 j 0 ≡ get_or w1 j 0) → OnlyMemo w w2
only_memo w w1 w2 O f = record {
  work = λ j h l. f j h ∙ get_below met_at w w1 j O.before l;
  keep = λ j h l. f j (omega arith) ∙ get_within keep_at 512 w w1 j O.keep h l;
}
