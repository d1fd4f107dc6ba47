-- Where the words of a trial stand in scratch, beside the loaded deck below `deck_words`. Sets are counted by two words.
use Rattle.std.specs.Prelude.{ℕ}

-- the words that a trial leaves alone: the loaded deck
abbrev pub deck_words : ℕ
deck_words = 81920

-- a set for each concept
abbrev pub concepts_at : ℕ
concepts_at = 40960

-- a set for each of four variables, and 64 for each of their six pairs
abbrev pub vars_at : ℕ
vars_at = 43008

abbrev pub pairs_at : ℕ
pairs_at = 43072

-- the elements that are shown, a word each
abbrev pub shown_at : ℕ
shown_at = 88064

-- from where a chain can still be broken: a set for each number of its parts that are left
abbrev pub left_at : ℕ
left_at = 44544

-- the numbers of one line, a word each
abbrev pub line_at : ℕ
line_at = 90112

abbrev pub line_words : ℕ
line_words = 40960

-- 64 sets for each role code: what an element is related to
abbrev pub rows_at : ℕ
rows_at = 65536
