-- The counters' steps.
use Rattle.std.specs.Prelude.{ℕ, ◌+◌, ltb}
use Rattle.ir.specs.Pick.{pick}
use Rattle.ir.specs.declared.counters.Counters.{Counters}
use Rattle.ir.specs.Visit.{Visit}
use Rattle.ir.specs.Visit.{Begun, Full}

abbrev pub counters : (visits limit concepts members var class clauses atoms deferrals line base options : ℕ) → Counters
counters v l p m x q c a d n b o = record {
  visits = v;
  limit = l;
  concepts = p;
  members = m;
  next_var = x;
  next_class = q;
  clauses = c;
  atoms = a;
  deferrals = d;
  line = n;
  nominal_base = b;
  options = o;
}

abbrev pub tick : Counters → Counters
tick k = counters (k.visits + 1) k.limit k.concepts k.members k.next_var k.next_class k.clauses k.atoms k.deferrals k.line k.nominal_base k.options

-- a visit beyond the limit does not begin
abbrev pub visited : Counters → Visit
visited k = pick (ltb k.visits k.limit) (Begun (tick k)) Full

-- document 01's number of a visit that does not begin; 0 where it does
abbrev pub visit_refusal : Visit → ℕ
visit_refusal (Begun k) = 0
visit_refusal Full = 10

abbrev pub fresh_var : Counters → Counters
fresh_var k = counters k.visits k.limit k.concepts k.members (k.next_var + 1) k.next_class k.clauses k.atoms k.deferrals k.line k.nominal_base k.options

abbrev pub fresh_class : Counters → Counters
fresh_class k = counters k.visits k.limit k.concepts k.members k.next_var (k.next_class + 1) k.clauses k.atoms k.deferrals k.line k.nominal_base k.options

abbrev pub deferred_once : Counters → Counters
deferred_once k = counters k.visits k.limit k.concepts k.members k.next_var k.next_class k.clauses k.atoms (k.deferrals + 1) k.line k.nominal_base k.options

abbrev pub pushed : ℕ → Counters → Counters
pushed m k = counters k.visits k.limit k.concepts k.members k.next_var k.next_class (k.clauses + 1) (k.atoms + m) k.deferrals k.line k.nominal_base k.options

abbrev pub interned : ℕ → Counters → Counters
interned m k = counters k.visits k.limit (k.concepts + 1) (k.members + m) k.next_var k.next_class k.clauses k.atoms k.deferrals k.line k.nominal_base k.options

abbrev pub at_line : ℕ → Counters → Counters
at_line n k = counters k.visits k.limit k.concepts k.members k.next_var k.next_class k.clauses k.atoms k.deferrals n k.nominal_base k.options

abbrev pub vars_restarted : Counters → Counters
vars_restarted k = counters k.visits k.limit k.concepts k.members 1 k.next_class k.clauses k.atoms k.deferrals k.line k.nominal_base k.options
