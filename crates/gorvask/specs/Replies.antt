-- A reply of clausify_with_stats in the forms of the C interface.
use Rattle.std.specs.Prelude.{◌≡◌, List, ℕ, ◌+◌, ◌*◌, ◌^◌, replicate}
use Prim.{Unit}
use Rattle.words.specs.Words.{bytes}
use Rattle.clausify.specs.Reply.{Reply}
use Rattle.clausify.specs.Reply as Replies
use Rattle.clausify.specs.Answer.{ten_of}
use Rattle.gorvask.specs.Entry.{numbers_bytes}

-- as one number
abbrev pub code_of_reply : Reply → ℕ
code_of_reply (Replies.Accepted s fresh_ids visits) = 0
code_of_reply (Replies.Refused n line) = n * 2 ^ 32 + line

-- in a table of n bytes: ten words where accepted, else zeros
abbrev pub numbers_of : ℕ → Reply → List ℕ
numbers_of n (Replies.Accepted s fresh_ids visits) = bytes (ten_of s fresh_ids visits)
numbers_of n (Replies.Refused k line) = replicate n 0

abbrev pub NumbersFit : ℕ → Reply → Type 0
NumbersFit n (Replies.Accepted s fresh_ids visits) = n ≡ numbers_bytes
NumbersFit n (Replies.Refused k line) = Unit {0}

-- the table's words are the ten numbers
abbrev pub TenWords : List ℕ → Reply → Type 0
TenWords w (Replies.Accepted s fresh_ids visits) = w ≡ ten_of s fresh_ids visits
TenWords w (Replies.Refused k line) = Unit {0}
