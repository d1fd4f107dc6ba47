-- What a rule left on its way, for the equality of names (EqualNames): what it made, deferred at the state's line, and queued, and
-- with each limit the clauses of its name. Assumes nothing.
use Rattle.std.specs.Prelude.{◌≡◌, refl, List, [], ◌∷◌, ◌++◌, ◌≤◌}
use Rattle.std.proofs.Common.{sym, ap, ◌∙◌, append-nil, append_assoc, le_refl, le_trans}
use Rattle.ir.specs.declared.atom.Atom.{Atom}
use Rattle.ir.specs.declared.deferral.Deferral.{Deferral}
use Rattle.rules.specs.Base.{Res, ok}
use Rattle.rules.specs.Post.{Post, gives, refuses}
use Rattle.rules.specs.Pool.{Pool}
use Rattle.rules.specs.State.{Limit, Env, Out}
use Rattle.rules.specs.Invariants.{Each, Grown}
use Rattle.rules.specs.PoolLaws.{grown_refl, grown_trans}
use Rattle.rules.specs.EachLaws.{each_map, each_append}
use Rattle.rules.proofs.EmitLaws.{pushed, deferred}
use Rattle.rules.specs.EqualNames.{Later, NameBelow}

-- an answer that is there, as the rule gave it
pub post_said : {S A : Type 0} {Q : A → S → Type 0} {r : Res S A} → Post Q r → Post (λ a t. Q a t × (r ≡ ok a t)) r
post_said (gives h) = gives (h, refl)
post_said refuses = refuses

-- ---- states of one call
pub record Still (s t : Out) : Type 0 where
  pub clauses : t.clauses ≡ s.clauses
  pub deferrals : t.deferrals ≡ s.deferrals
  pub limits : t.limits ≡ s.limits
  pub line : t.line ≡ s.line
  pub fresh : s.next_fresh ≤ t.next_fresh

abbrev pub later_still : {s t : Out} → Still s t → Later s t
later_still {s} {t} Q = record {
  made = [];
  clauses = Q.clauses ∙ sym (append-nil s.clauses);
  deferred = [];
  deferrals = Q.deferrals ∙ sym (append-nil s.deferrals);
  queued = [];
  limits = Q.limits ∙ sym (append-nil s.limits);
  fresh = Q.fresh;
}

abbrev pub later_refl : (s : Out) → Later s s
later_refl s = later_still (record { clauses = refl; deferrals = refl; limits = refl; line = refl; fresh = le_refl s.next_fresh })

abbrev pub later_trans : {s t u : Out} → Later s t → Later t u → Later s u
later_trans {s} {t} {u} X Y = record {
  made = X.made ++ Y.made;
  clauses = Y.clauses ∙ ap (λ z. z ++ Y.made) X.clauses ∙ append_assoc s.clauses X.made Y.made;
  deferred = X.deferred ++ Y.deferred;
  deferrals = Y.deferrals ∙ ap (λ z. z ++ Y.deferred) X.deferrals ∙ append_assoc s.deferrals X.deferred Y.deferred;
  queued = X.queued ++ Y.queued;
  limits = Y.limits ∙ ap (λ z. z ++ Y.queued) X.limits ∙ append_assoc s.limits X.queued Y.queued;
  fresh = le_trans X.fresh Y.fresh;
}

-- ---- the limits that were queued, each with its name's clauses, and behind it what these queued
pub record Behind (ws l : List Limit) : Type 0 where
  pub others : List Limit
  pub split : l ≡ ws ++ others

abbrev pub Firsts : Env → Pool → Out → Out → List Limit → Type 0
Firsts env p s t [] = Unit {0}
Firsts env p s t (w ∷ l) = (X : NameBelow env p s t w) × Behind X.between.queued l × Firsts env p s t l

module _ (env : Env) where
  -- seen from further apart
  abbrev pub name_later : {p q : Pool} {s s' t t' : Out} {w : Limit} → Grown p q → Later s' s → Later t t' → NameBelow env p s t w → NameBelow env q s' t' w
  name_later g h k X = record {
    pool = X.pool;
    from = X.from;
    to = X.to;
    bound = X.bound;
    call = X.call;
    before = later_trans h X.before;
    between = X.between;
    after = later_trans X.after k;
    grown = grown_trans X.grown g;
    held = X.held;
    enough = X.enough;
    last = X.last;
    taken = X.taken;
    variable = X.variable;
  }

  pub firsts_later : (p q : Pool) (s s' t t' : Out) → Grown p q → Later s' s → Later t t' → (l : List Limit) → Firsts env p s t l → Firsts env q s' t' l
  firsts_later p q s s' t t' g h k [] F = tt
  firsts_later p q s s' t t' g h k (w ∷ l) F = (name_later g h k F.0, F.1, firsts_later p q s s' t t' g h k l F.2)

  pub firsts_append : (p : Pool) (s t : Out) (l m : List Limit) → Firsts env p s t l → Firsts env p s t m → Firsts env p s t (l ++ m)
  firsts_append p s t [] m F G = G
  firsts_append p s t (w ∷ l) m F G = (
    F.0,
    record { others = F.1.others ++ m; split = ap (λ z. z ++ m) F.1.split ∙ append_assoc F.0.between.queued F.1.others m },
    firsts_append p s t l m F.2 G,
  )

  -- ---- a rule's way from s to t, which queued these
  pub record Track (p : Pool) (s t : Out) (waiting : List Limit) : Type 0 where
    pub later : Later s t
    pub queued : later.queued ≡ waiting
    pub line : t.line ≡ s.line
    pub lines : Each (λ d. d.line ≡ s.line) later.deferred
    pub firsts : Firsts env p s t waiting

  pub track_still : (p : Pool) {s t : Out} → Still s t → Track p s t []
  track_still p Q = record { later = later_still Q; queued = refl; line = Q.line; lines = tt; firsts = tt }

  pub track_refl : (p : Pool) (s : Out) → Track p s s []
  track_refl p s = record { later = later_refl s; queued = refl; line = refl; lines = tt; firsts = tt }

  pub track_trans : {p q : Pool} {s t u : Out} {ws us : List Limit} → Grown p q → Track p s t ws → Track q t u us → Track q s u (ws ++ us)
  track_trans {p} {q} {s} {t} {u} {ws} {us} g X Y = record {
    later = later_trans X.later Y.later;
    queued = ap (λ z. z ++ Y.later.queued) X.queued ∙ ap (λ z. ws ++ z) Y.queued;
    line = Y.line ∙ X.line;
    lines = each_append (λ d. d.line ≡ s.line) X.later.deferred Y.later.deferred X.lines
        (each_map (λ d. d.line ≡ t.line) (λ d. d.line ≡ s.line) (λ d e. e ∙ X.line) Y.later.deferred Y.lines);
    firsts = firsts_append q s u ws us (firsts_later p q s s t u g (later_refl s) Y.later ws X.firsts) (firsts_later q q t s u u (grown_refl q) X.later (later_refl u) us Y.firsts);
  }

  pub track_grown : {p q : Pool} {s t : Out} {ws : List Limit} → Grown p q → Track p s t ws → Track q s t ws
  track_grown {p} {q} {s} {t} {ws} g X = record { later = X.later; queued = X.queued; line = X.line; lines = X.lines; firsts = firsts_later p q s s t t g (later_refl s) (later_refl t) ws X.firsts }

  pub track_push : (p : Pool) (s : Out) (b h : List Atom) → Track p s (pushed b h s) []
  track_push p s b h = record {
    later = record { made = _; clauses = refl; deferred = []; deferrals = sym (append-nil s.deferrals); queued = []; limits = sym (append-nil s.limits); fresh = le_refl s.next_fresh };
    queued = refl;
    line = refl;
    lines = tt;
    firsts = tt;
  }

  pub track_defer : (p : Pool) (s : Out) (k : Deferral) → Track p s (deferred k s) []
  track_defer p s k = record {
    later = record { made = []; clauses = sym (append-nil s.clauses); deferred = _; deferrals = refl; queued = []; limits = sym (append-nil s.limits); fresh = le_refl s.next_fresh };
    queued = refl;
    line = refl;
    lines = (refl, tt);
    firsts = tt;
  }
