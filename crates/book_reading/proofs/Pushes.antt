-- What a push of a stretch does to the runs that are written.
use Rattle.std.proofs.Common.{◌≡◌, ℕ, Bool, true, false, cond, List, [], ◌∷◌, ◌++◌, length, take, drop, ◌==◌}
use Rattle.std.proofs.Common.{sym, ap, ◌∙◌, append_assoc}
use Rattle.std.proofs.lemmas.List.{map-append}
use Rattle.std.specs.Prelude.{not, filter}
use Rattle.book_reading.specs.Leads.{blanks_of, after_blanks, number_length, number_sort, gap_length}
use Rattle.book_reading.specs.Loops.GatheringViews.{runs_with}
use Rattle.book_reading.specs.Readings.{notes_after, numbered, numbered_from, is_filled, runs_of}
use Rattle.book_reading.specs.Stretches.{Place, Stretch, stretch, words_length, words_sort, text_stretches}
use Rattle.book_reading.specs.Views.{run_view, runs_view}
use Rattle.book_reading.specs.declared.lead.Lead.{Lead}
use Rattle.book_reading.specs.declared.run.Run.{Run}
use Rattle.book_reading.specs.declared.run.Sort.{Sort}
use Rattle.book_reading.specs.declared.run.Sort.TheVariants as sorts
use Rattle.book_reading.specs.declared.written.Written.{Written}

-- an empty stretch is left out
pub push_empty : (W : Written) (s : Stretch) (later : List Stretch) → (length s.text == 0) ≡ true
    → runs_with W later ≡ runs_with W (s ∷ later)
push_empty W s later none =
    ap (λ b. runs_view W.runs.items ++ numbered_from W.notes (cond (not b) (s ∷ filter is_filled later) (filter is_filled later)))
    (sym none)

-- and any other is one run more
pub push_filled : (old new : List Run) (n k : ℕ) (run : Run) (s : Stretch) (later : List Stretch) → (length s.text == 0) ≡ false
    → new ≡ old ++ run ∷ [] → k ≡ notes_after n s.sort → run_view run ≡ numbered k s
    → runs_view new ++ runs_of k later ≡ runs_view old ++ runs_of n (s ∷ later)
push_filled old new n k run s later some pushed count is =
    ap (λ l. runs_view l ++ runs_of k later) pushed
    ∙ ap (λ l. l ++ runs_of k later) (map-append run_view old (run ∷ []))
    ∙ append_assoc (runs_view old) (run_view run ∷ []) (runs_of k later)
    ∙ ap (λ r. runs_view old ++ (r ∷ runs_of k later)) is
    ∙ ap (λ j. runs_view old ++ (numbered j s ∷ runs_of j later)) count
    ∙ ap (λ b. runs_view old ++ numbered_from n (cond (not b) (s ∷ filter is_filled later) (filter is_filled later))) (sym some)

-- the stretches of a text, one after another
pub text_pushed : (p : Place) (may : Bool) (lead : Lead) (t : List ℕ) (W0 W1 W2 W3 W4 W5 : Written)
    → (blanks number gap words attributes : List ℕ) (sort_n sort_w : Sort)
    → (let rest = drop (number_length lead t) t in
    let front = take (number_length lead t) t in
    let inner = drop (gap_length lead rest) rest in
    (blanks ≡ blanks_of front) × (number ≡ after_blanks front) × (gap ≡ take (gap_length lead rest) rest)
    × (words ≡ take (words_length may inner) inner) × (attributes ≡ drop (words_length may inner) inner))
    → sort_n ≡ number_sort lead → sort_w ≡ words_sort p.style
    → ((l : List Stretch) → runs_with W1 l ≡ runs_with W0 (stretch p sorts.Markup blanks ∷ l))
    → ((l : List Stretch) → runs_with W2 l ≡ runs_with W1 (stretch p sort_n number ∷ l))
    → ((l : List Stretch) → runs_with W3 l ≡ runs_with W2 (stretch p sorts.Markup gap ∷ l))
    → ((l : List Stretch) → runs_with W4 l ≡ runs_with W3 (stretch p sort_w words ∷ l))
    → ((l : List Stretch) → runs_with W5 l ≡ runs_with W4 (stretch p sorts.Markup attributes ∷ l))
    → (later : List Stretch) → runs_with W5 later ≡ runs_with W0 (text_stretches p may lead t ++ later)
text_pushed p may lead t W0 W1 W2 W3 W4 W5 blanks number gap words attributes sort_n sort_w are is_n is_w h1 h2 h3 h4 h5 later =
    let s5 : Stretch = stretch p sorts.Markup attributes in
    let s4 : Stretch = stretch p sort_w words in
    let s3 : Stretch = stretch p sorts.Markup gap in
    let s2 : Stretch = stretch p sort_n number in
    h5 later ∙ h4 (s5 ∷ later) ∙ h3 (s4 ∷ s5 ∷ later) ∙ h2 (s3 ∷ s4 ∷ s5 ∷ later) ∙ h1 (s2 ∷ s3 ∷ s4 ∷ s5 ∷ later)
    ∙ (λ i. runs_with W0 (stretch p sorts.Markup (are.0 i) ∷ stretch p (is_n i) (are.1 i)
    ∷ stretch p sorts.Markup (are.2 i) ∷ stretch p (is_w i) (are.3 i) ∷ stretch p sorts.Markup (are.4 i) ∷ later))
