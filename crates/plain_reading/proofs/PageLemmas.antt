-- A page with one paragraph more.
use Rattle.std.proofs.Common.{◌≡◌, ◌∙◌, ℕ, List, ◌∷◌, ◌++◌, take, drop, ap, sym, append_assoc}
use Rattle.std.proofs.lemmas.List.{take-map, drop-map}
use Rattle.book_reading.specs.Views.{run_view, runs_view}
use Rattle.book_reading.specs.declared.run.Run.{Run}
use Rattle.sty_sheet.specs.Records.{words_of}
use Rattle.plain_reading.specs.Lines.{paragraph_text, group_after, paragraphs_text}
use Rattle.plain_reading.specs.Paragraphs.{Paragraph}
use Rattle.plain_reading.specs.declared.setting.Group.{Group}
use Rattle.plain_reading.specs.declared.setting.Setting.{Setting}

-- the text after a paragraph, before what comes after it
pub one_more : (width : ℕ) (old new : List ℕ) (last group : Group) (s : Setting) (ink : List ℕ) (later : List Paragraph)
    → new ≡ old ++ paragraph_text width last s (words_of ink) → group ≡ group_after last s (words_of ink)
    → new ++ paragraphs_text width group later ≡ old ++ paragraphs_text width last (record { setting = s; ink = ink } ∷ later)
one_more width old new last group s ink later text is =
    (λ i. text i ++ paragraphs_text width (is i) later)
    ∙ append_assoc old (paragraph_text width last s (words_of ink)) (paragraphs_text width (group_after last s (words_of ink)) later)

-- the views of runs at the front, and of the others
pub front_view : (n m : ℕ) (runs front : List Run) → n ≡ m → front ≡ take n runs → runs_view front ≡ take m (runs_view runs)
front_view n m runs front same is = ap runs_view is ∙ sym (take-map run_view n runs) ∙ ap (λ k. take k (runs_view runs)) same

pub back_view : (n m : ℕ) (runs back : List Run) → n ≡ m → back ≡ drop n runs → runs_view back ≡ drop m (runs_view runs)
back_view n m runs back same is = ap runs_view is ∙ sym (drop-map run_view n runs) ∙ ap (λ k. drop k (runs_view runs)) same
