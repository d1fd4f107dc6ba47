-- Where the pass keeps its work in the words of scratch: records BODY and COPY, and words.
use Rattle.std.specs.Prelude.{ℕ}

abbrev pub most_named : ℕ
most_named = 262144

-- the filter's words, and where they end
abbrev pub filter_at : ℕ
filter_at = 262144

abbrev pub named_end : ℕ
named_end = 294912

abbrev pub body_at : ℕ
body_at = 49152

abbrev pub copy_at : ℕ
copy_at = 49408

abbrev pub bound_at : ℕ
bound_at = 297984

abbrev pub tops_at : ℕ
tops_at = 298241

abbrev pub met_at : ℕ
met_at = 298498

abbrev pub keep_at : ℕ
keep_at = 299011

abbrev pub renumbered_at : ℕ
renumbered_at = 299523

abbrev pub work_words : ℕ
work_words = 299779
