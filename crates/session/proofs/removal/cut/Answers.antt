use Rattle.std.proofs.Common.{ap, ◌∙◌, ◌≡◌, List, ℕ, ◌+◌, ◌-◌, ◌≤◌, length, get_or, replicate, refl, arith}
use borrow.Rule.Slice.PartMut.{mid_of, mid_len, put_mid, same_len_mid}
use Rattle.words.specs.Words.{words}
use Rattle.rules.specs.Deck.{most_bytes}
use Rattle.session.specs.Session.{session_bytes, stored, deck_in}
use Rattle.session.specs.FormLaws.{stored_word}
use Rattle.session.specs.RemovalLaws.{stored_size, cut_is}
use Rattle.session.proofs.removal.cut.Goals as goal

facts : (s : List ℕ) → length s ≡ session_bytes → s ≡ stored (deck_in s) → (length (deck_in s) ≤ most_bytes) × (get_or (words s) 0 0 ≡ length (deck_in s))
facts s h e = let k = stored_size s (deck_in s) h e in (k, ap (λ (z : List ℕ). get_or (words z) 0 0) e ∙ stored_word (deck_in s) k)

pub overflow_add-n : goal.overflow_add-n
overflow_add-n c =
    let F = facts c.args.session.now c.requires.0 c.requires.1 in
    record { fits = omega (arith, F.0, F.1) }

pub copy_within-requires-clause-in_bounds : goal.copy_within-requires-clause-in_bounds
copy_within-requires-clause-in_bounds c =
    let F = facts c.args.session.now c.requires.0 c.requires.1 in
    omega (arith, F.0, F.1, c.requires.0)

pub copy_within-requires-clause-dest_in_bounds : goal.copy_within-requires-clause-dest_in_bounds
copy_within-requires-clause-dest_in_bounds c =
    let F = facts c.args.session.now c.requires.0 c.requires.1 in
    omega (arith, F.0, F.1, c.requires.0, c.requires.2, c.requires.3)

pub overflow_add-end : goal.overflow_add-end
overflow_add-end c =
    let F = facts c.args.session.now c.requires.0 c.requires.1 in
    record { fits = omega (arith, F.0, F.1) }

pub overflow_add-n-2 : goal.overflow_add-n-2
overflow_add-n-2 c =
    let F = facts c.args.session.now c.requires.0 c.requires.1 in
    record { fits = omega (arith, F.0, F.1) }

pub slice_bounds-fill-end : goal.slice_bounds-fill-end
slice_bounds-fill-end c =
    let F = facts c.args.session.now c.requires.0 c.requires.1 in
    let n : c.length-n.result ≡ length (deck_in c.args.session.now) = c.length-n.ensures ∙ F.1 in
    let h : 4 + c.length-n.result ≤ length c.copy_within.new.self = omega (arith, F.0, c.requires.0, c.copy_within.ensures.len) in
    h

pub put_length-requires : goal.put_length-requires
put_length-requires c =
    let F = facts c.args.session.now c.requires.0 c.requires.1 in
    let e : ℕ = c.length-n.result - (c.args.to - c.args.from) in
    (same_len_mid (4 + e) (4 + c.length-n.result - (4 + e)) c.copy_within.new.self c.fill.new.self c.fill.ensures.len ∙ c.copy_within.ensures.len ∙ c.requires.0, omega (arith, F.0, F.1))

pub returns : goal.returns
returns c =
    let s = c.args.session.now in
    let d = deck_in s in
    let F = facts s c.requires.0 c.requires.1 in
    let n = c.length-n.result in
    let from = c.args.from in
    let to = c.args.to in
    let e : ℕ = n - (to - from) in
    let k : ℕ = 4 + n - (4 + e) in
    let ne : n ≡ length d = c.length-n.ensures ∙ F.1 in
    let ke : k ≡ to - from = omega (arith, c.requires.2, c.requires.3) in
    let m : ℕ = 4 + n - (4 + to) in
    let long : length (mid_of (4 + e) k c.copy_within.new.self) ≡ k = mid_len (4 + e) (4 + n) c.copy_within.new.self (omega (arith, F.0, c.requires.0, c.copy_within.ensures.len)) in
    let z : c.fill.new.self ≡ replicate k 0 = c.fill.ensures.after (λ y h. h) ∙ ap (λ (i : ℕ). replicate i 0) long in
    c.put_length.ensures
    ∙ cut_is s d c.copy_within.new.self (put_mid (4 + e) k c.copy_within.new.self c.fill.new.self) c.fill.new.self n from to e m k c.requires.1 F.0 ne c.requires.2 c.requires.3 refl c.copy_within.ensures.after (omega arith) refl ke z
