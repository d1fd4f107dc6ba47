-- Two answers that are told alike are one, so what is promised of what is told is promised of the answer. Assumes nothing.
use Rattle.std.specs.Prelude.{◌≡◌, refl, List, [], ◌∷◌, ℕ, ◌-◌, get_or, Result, Ok, Err}
use Rattle.std.proofs.Common.{sym, ap, ◌∙◌}
use Rattle.ir.specs.Refusals.{refusal_number}
use Rattle.ir.specs.declared.answer.Refused.{Refused as Refusing}
use Rattle.ir.specs.declared.refusal.Refusal.{Refusal}
use Rattle.ir.specs.declared.refusal.Refusal.TheVariants.{WrongSize, BadColumns, BadLine, PastLimit, Undeclared, BadNesting, BadList, Repeated, LargestBound, VisitsSpent, PoolFull, NoRoom, BadState, WideClause, NotLive}
use Rattle.clausify.specs.declared.numbers.Numbers.{Numbers}
use Rattle.clausify.specs.Reply as Replies
use Rattle.clausify.specs.Reply.{Reply, told_reply}
use Rattle.clausify.specs.Clausified as Counts
use Rattle.clausify.specs.Clausified.{Clausified, told_count}

-- the refusal of a number
abbrev pub refusals : List Refusal
refusals = WrongSize ∷ BadColumns ∷ BadLine ∷ PastLimit ∷ Undeclared ∷ BadNesting ∷ BadList ∷ Repeated ∷ LargestBound ∷ VisitsSpent ∷ PoolFull ∷ NoRoom ∷ BadState ∷ WideClause ∷ NotLive ∷ []

abbrev pub refusal_of : ℕ → Refusal
refusal_of n = get_or refusals (n - 1) WrongSize

pub refusal_back : (r : Refusal) → refusal_of (refusal_number r) ≡ r
refusal_back WrongSize = refl
refusal_back BadColumns = refl
refusal_back BadLine = refl
refusal_back PastLimit = refl
refusal_back Undeclared = refl
refusal_back BadNesting = refl
refusal_back BadList = refl
refusal_back Repeated = refl
refusal_back LargestBound = refl
refusal_back VisitsSpent = refl
refusal_back PoolFull = refl
refusal_back NoRoom = refl
refusal_back BadState = refl
refusal_back WideClause = refl
refusal_back NotLive = refl

-- a refusal of a number and a line
abbrev pub refused_of : ℕ → ℕ → Refusing
refused_of n line = record { refusal = refusal_of n; line = line }

pub refused_back : (e : Refusing) → refused_of (refusal_number e.refusal) e.line ≡ e
refused_back e = ap (λ (r : Refusal). record { refusal = r; line = e.line }) (refusal_back e.refusal)

reply_in : Reply → Result Numbers Refusing
reply_in (Replies.Accepted s fresh_ids visits) = Ok (record { stats = s; fresh_ids = fresh_ids; visits = visits })
reply_in (Replies.Refused n line) = Err (refused_of n line)

reply_back : (r : Result Numbers Refusing) → reply_in (told_reply r) ≡ r
unfolding reply_in
reply_back (Ok n) = refl
reply_back (Err e) = ap Err (refused_back e)

pub same_reply : (r s : Result Numbers Refusing) → told_reply r ≡ told_reply s → r ≡ s
same_reply r s e = sym (reply_back r) ∙ ap reply_in e ∙ reply_back s

count_in : Clausified → Result ℕ Refusing
count_in (Counts.Accepted n) = Ok n
count_in (Counts.Refused n line) = Err (refused_of n line)

count_back : (r : Result ℕ Refusing) → count_in (told_count r) ≡ r
unfolding count_in
count_back (Ok n) = refl
count_back (Err e) = ap Err (refused_back e)

pub same_count : (r s : Result ℕ Refusing) → told_count r ≡ told_count s → r ≡ s
same_count r s e = sym (count_back r) ∙ ap count_in e ∙ count_back s
