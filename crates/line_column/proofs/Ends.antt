-- Where bytes end: how many lines and columns they have, and what is before an offset.
use Rattle.std.proofs.Common.{◌≡◌, ℕ, ◌+◌, ◌-◌, ◌<◌, ◌≤◌, Bool, not, List, ◌++◌, length, take, drop, refl, sym, ap, ◌∙◌, arith}
use Rattle.std.specs.Prelude.{filter}
use Rattle.std.specs.List.{suffix_len, after_last}
use Rattle.std.proofs.Math.ListN.{drop_of_length-le}
use Rattle.std.proofs.lemmas.List.{drop-append-le, length-take, length-drop, take-take, take-append-drop, take_all}
use Rattle.std.proofs.lemmas.List.Filters.{length-filter_both}
use Rattle.line_column.specs.Places.{is_line_feed, begins_character, mark_length, end_of, before, place_at}

-- ---- bounds

fewer : (p : ℕ → Bool) (xs : List ℕ) → length (filter p xs) ≤ length xs
fewer p xs = omega (arith, length-filter_both p (λ x. not (p x)) (λ x. refl) xs)

-- bytes have no more lines and no longer a line than they have bytes, but for the first
pub ends_within : (bytes : List ℕ) → ((end_of bytes).line ≤ 1 + length bytes) × ((end_of bytes).column ≤ 1 + length bytes)
ends_within bytes =
    let line = after_last is_line_feed bytes in (
      omega (arith, fewer is_line_feed bytes),
      omega (arith, fewer begins_character line, length-drop (length bytes - suffix_len (λ b. not (is_line_feed b)) bytes) bytes),
    )

-- ---- offsets

-- at the end of U+FEFF at the front, or at the front, are the first line and column
pub front_place : (text : List ℕ) → record { line = 1; column = 1 } ≡ place_at text (mark_length text)
front_place text =
    let m = mark_length text in ap end_of (sym (drop_of_length-le (take m text) (omega (arith, length-take m text))))

-- before a later offset are the bytes before one, and those from that one to it
pub before_later : (text : List ℕ) (at to : ℕ) → mark_length text ≤ at → at ≤ to → to ≤ length text
    → before text to ≡ before text at ++ drop at (take to text)
before_later text at to mark rise within =
    let m = mark_length text in
    let parts : take to text ≡ take at text ++ drop at (take to text) =
    sym (take-append-drop at (take to text)) ∙ ap (λ xs. xs ++ drop at (take to text)) (take-take at to text rise) in
    ap (drop m) parts ∙ drop-append-le m (take at text) (drop at (take to text)) (omega (arith, length-take at text))

-- an offset within U+FEFF at the front is where that ends
pub within_mark : (text : List ℕ) (offset : ℕ) → offset < mark_length text
    → place_at text (mark_length text) ≡ place_at text offset
within_mark text offset inside =
    let m = mark_length text in
    sym (front_place text) ∙ ap end_of (sym (drop_of_length-le (take offset text) (omega (arith, length-take offset text))))

-- an offset after the end is where that is
pub after_end : (text : List ℕ) (offset : ℕ) → length text < offset → place_at text (length text) ≡ place_at text offset
after_end text offset beyond =
    ap (λ t. end_of (drop (mark_length text) t))
    (take_all (length text) text (omega arith) ∙ sym (take_all offset text (omega arith)))

-- fewer bytes than a text has are before an offset
pub before_within : (text : List ℕ) (at : ℕ) → mark_length text ≤ at → at ≤ length text → length (before text at) + mark_length text ≡ at
before_within text at mark within =
    omega (arith, length-drop (mark_length text) (take at text), length-take at text)
