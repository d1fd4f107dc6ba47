-- What the exported functions promise: the reply as one number, the table of numbers, and the clauses' meaning.
use Rattle.std.specs.Prelude.{◌≡◌, List, ℕ, ◌+◌, ◌*◌, ◌^◌, get_or, replicate, eqb}
use Rattle.words.specs.Words.{words, bytes}
use Rattle.rules.specs.Run.{Lengths, Outcome, accepted, refused, Run, reply_number, reply_line, ten_numbers}
use Rattle.clausify.specs.Entry.{Meaning}
use Rattle.clausify.specs.Answer.{run_if}

-- number × 2^32 + line, 0 where accepted
abbrev pub code_of : Outcome → ℕ
code_of o = reply_number o * 2 ^ 32 + reply_line o

-- its table of numbers has ten words; any other size is refusal 1
abbrev pub numbers_bytes : ℕ
numbers_bytes = 40

abbrev pub run_with_numbers : ℕ → List ℕ → Lengths → Outcome
run_with_numbers n deck t = run_if (eqb n numbers_bytes) (Run deck t)

-- the ten numbers of line 43, zeros on a refusal
abbrev pub numbers_table : ℕ → Outcome → List ℕ
numbers_table n (accepted x) = bytes (ten_numbers x)
numbers_table n (refused k line) = replicate n 0

-- demand 3, by the table of numbers, where the reply is 0
abbrev pub MeantNumbers : (deck clauses atoms numbers : List ℕ) → ℕ → Type 0
MeantNumbers deck c a numbers r = r ≡ 0 → Meaning deck c a (get_or (words numbers) 0 0) (get_or (words numbers) 8 0) (get_or (words numbers) 5 0)
