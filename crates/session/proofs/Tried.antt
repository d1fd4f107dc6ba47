-- The calls on small decks, computed.
use Rattle.std.specs.Prelude.{◌≡◌, refl, List, [], ◌∷◌, ◌++◌, ℕ}
use Prim.Native.String.{String}
use Rattle.rules.specs.Ascii.{ascii}
use Rattle.rules.specs.Deck.{Known, Told, fine, refused, read_deck}
use Rattle.rules.specs.Compute.{computed}
use Rattle.session.specs.Session.{Did, done, start_of, add_to, without, strike_from, after_line, options_in}
use Rattle.session.specs.Session as Session

unfoldable pub lines_of : List String → List ℕ
unfolding ascii
lines_of [] = []
lines_of (l ∷ ls) = ascii l ++ (10 ∷ lines_of ls)

-- a call on a deck that is read
abbrev pub on_told : List ℕ → (List ℕ → Known → Did) → Told → Did
on_told deck f (fine d) = f deck d
on_told deck f (refused k line) = Session.refused k line

unfoldable pub on : List String → (List ℕ → Known → Did) → Did
unfolding computed lines_of
on deck f = on_told (lines_of deck) f (read_deck (lines_of deck))

unfoldable pub adding : List ℕ → List ℕ → Known → Did
unfolding computed lines_of add_to
adding text deck d = add_to deck d text

unfoldable pub striking : ℕ → List ℕ → Known → Did
unfolding computed lines_of strike_from without
striking line deck d = strike_from deck d line

unfoldable pub changing : ℕ → List ℕ → Known → Did
unfolding computed lines_of options_in after_line
changing n deck d = options_in deck d n

-- a header, a key mark, two classes
abbrev pub front : List String
front =
    "          0          2          1          1          0" ∷
    "         14          1" ∷
    "          3          0" ∷
    "          3          1" ∷ []

abbrev pub below : String
below = "         21          0          1"

abbrev pub above : String
above = "         21          1          0"

abbrev pub domain : String
domain = "         25          0          1"

-- ---- start
started : start_of (lines_of front) ≡ done (lines_of front)
unfolding start_of computed lines_of
started = refl

not_started : start_of (lines_of ("          0          2          1          1         16" ∷ [])) ≡ Session.refused 4 1
unfolding start_of computed lines_of
not_started = refl

-- ---- add
first_added : on front (adding (lines_of (below ∷ []))) ≡ done (lines_of (front ++ (below ∷ [])))
unfolding on adding
first_added = refl

second_added : on (front ++ (below ∷ [])) (adding (lines_of (domain ∷ []))) ≡ done (lines_of (front ++ (below ∷ domain ∷ [])))
unfolding on adding
second_added = refl

-- a concept's line, where a deck would go on with one
concept_added : on front (adding (lines_of ("          2" ∷ []))) ≡ Session.refused 3 5
unfolding on adding
concept_added = refl

two_added : on front (adding (lines_of (below ∷ above ∷ []))) ≡ Session.refused 3 5
unfolding on adding
two_added = refl

-- the lowest number counts
broken_added : on front (adding (lines_of ("        021          0          1" ∷ above ∷ []))) ≡ Session.refused 2 5
unfolding on adding
broken_added = refl

unended_added : on front (adding (ascii below)) ≡ Session.refused 2 5
unfolding on adding
unended_added = refl

nothing_added : on front (adding []) ≡ Session.refused 3 5
unfolding on adding
nothing_added = refl

short_added : on front (adding (lines_of ("         21          0" ∷ []))) ≡ Session.refused 3 5
unfolding on adding
short_added = refl

undeclared_added : on (front ++ (below ∷ [])) (adding (lines_of ("         21          0          2" ∷ []))) ≡ Session.refused 5 6
unfolding on adding
undeclared_added = refl

-- ---- strike: three axioms, on the lines 5 to 7
abbrev pub three : List String
three = front ++ (below ∷ above ∷ domain ∷ [])

first_struck : on three (striking 5) ≡ done (lines_of (front ++ (above ∷ domain ∷ [])))
unfolding on striking
first_struck = refl

last_struck : on three (striking 7) ≡ done (lines_of (front ++ (below ∷ above ∷ [])))
unfolding on striking
last_struck = refl

concept_struck : on three (striking 4) ≡ Session.refused 15 0
unfolding on striking
concept_struck = refl

none_struck : on three (striking 0) ≡ Session.refused 15 0
unfolding on striking
none_struck = refl

past_struck : on three (striking 8) ≡ Session.refused 15 0
unfolding on striking
past_struck = refl

-- ---- options
changed : on (front ++ (below ∷ [])) (changing 5)
    ≡ done (lines_of (
    "          0          2          1          1          5" ∷
    "         14          1" ∷
    "          3          0" ∷
    "          3          1" ∷ below ∷ []))
unfolding on changing
changed = refl

not_changed : on front (changing 16) ≡ Session.refused 4 1
unfolding on changing
not_changed = refl
