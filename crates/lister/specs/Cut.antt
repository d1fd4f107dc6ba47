-- However long the input, its first 65,537 bytes or more have its listing. Assumes nothing.
use Rattle.std.specs.Prelude.{◌≡◌, refl, Bool, true, false, List, [], ◌∷◌, ℕ, ◌<◌, ◌≤◌, length, take, ltb}
use Rattle.std.proofs.Common.{sym, ap, ◌∙◌, arith, length-take-le, take_all, lt-ltb, ltb-true, ltb-false}
use Rattle.rules.specs.Deck.{most_bytes, refused, read_deck}
use Rattle.rules.specs.Run.{run_with}
use Rattle.rules.specs.Lister.{fields_text, listing}
use Rattle.rows.specs.Rows.{Put}
use Rattle.lister.specs.ReplyLaws.{listing_end}
use Rattle.lister.specs.Text.{most_text}

read_long : (deck : List ℕ) → most_bytes < length deck → read_deck deck ≡ refused 2 0
unfolding read_deck
read_long deck h = rw (lt-ltb most_bytes (length deck) h) refl

pub listing_long : (deck : List ℕ) → most_bytes < length deck → listing deck ≡ fields_text (49 ∷ 2 ∷ 0 ∷ [])
unfolding listing run_with
listing_long deck h = rw (read_long deck h) refl

pub listing_cut : (k : ℕ) (input : List ℕ) → most_bytes < k → listing (take k input) ≡ listing input
listing_cut k input most = by (ltb k (length input)) refl
  where
    by : (b : Bool) → ltb k (length input) ≡ b → listing (take k input) ≡ listing input
    by true e =
        let h : k < length input = ltb-true k (length input) e in
        let n : length (take k input) ≡ k = length-take-le k input (omega arith) in
        listing_long (take k input) (omega (arith, n)) ∙ sym (listing_long input (omega arith))
    by false e = ap listing (take_all k input (ltb-false k (length input) e))

-- the first n bytes of the space are the input, or as much of it as the space takes
abbrev pub Read : List ℕ → List ℕ → ℕ → Type 0
Read input space n = take n space ≡ take (length space) input

module _ (space : List ℕ) (n : ℕ) where
  pub read_listing : (input : List ℕ) → most_bytes < length space → Read input space n → listing (take n space) ≡ listing input
  read_listing input most e = ap listing e ∙ listing_cut (length space) input most

  -- the bytes that were read are such an input
  read_some : n ≤ length space → Read (take n space) space n
  read_some h = sym (take_all (length space) (take n space) (omega (arith, length-take-le n space h)))

  pub read_end : {s s' : List ℕ} {r : ℕ} → n ≤ length space → ((input : List ℕ) → Read input space n → Put s 0 (listing input) s' r) → r ≤ most_text
  read_end h puts = listing_end (take n space) (puts (take n space) (read_some h))
