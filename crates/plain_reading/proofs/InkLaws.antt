-- Nothing is left out of the plain text.
use Rattle.std.proofs.Common.{◌≡◌, ℕ, zero, suc, ◌-◌, Bool, true, false, cond, List, [], ◌∷◌, ◌++◌, map, refl, sym, ap, ◌∙◌, append_assoc, append-nil, take, drop}
use Rattle.std.proofs.lemmas.List.{take-append-drop}
use Rattle.std.proofs.lemmas.List.Concat.{flat_map-append}
use Rattle.std.proofs.lemmas.List.Elements.{filter-append}
use Rattle.std.proofs.lemmas.List.Folds.{flat_map-map}
use Rattle.std.specs.List.{flat_map, slice_split, onto_first}
use Rattle.std.specs.Prelude.{filter, nat_lt, not}
use Rattle.usfm_ref.specs.Numbers.{is_blank}
use Rattle.sty_sheet.specs.Records.{is_filled, words_of}
use Rattle.book_reading.specs.Blocks.{BlockParts, NoteParts, blocks_of, notes_of}
use Rattle.book_reading.specs.Chapters.{chapters_of}
use Rattle.book_reading.specs.Readings.{RunParts}
use Rattle.book_reading.proofs.BlockLemmas.{blocks_hold}
use Rattle.plain_reading.specs.Laws.{is_ink, inked, chapter_ink}
use Rattle.plain_reading.specs.Lines.{columns, spaces, lines_after, lines_of, gap_between, paragraph_text, group_after, paragraphs_text, plain}
use Rattle.plain_reading.specs.Paragraphs.{Paragraph, is_parted, in_text, in_note, block_paragraphs, number_length, note_paragraph, chapter_paragraphs, paragraphs_of}
use Rattle.plain_reading.specs.declared.setting.Group.{Group}
use Rattle.plain_reading.specs.declared.setting.Group.TheVariants.{Begin}
use Rattle.plain_reading.specs.declared.setting.Setting.{Setting}

-- the bytes of words, joined
abbrev all_ink : List (List ℕ) → List ℕ
all_ink ws = flat_map inked ws

spaces_blank : (n : ℕ) → inked (spaces n) ≡ []
spaces_blank zero = refl
spaces_blank (suc n) = spaces_blank n

inked_append : (xs ys : List ℕ) → inked (xs ++ ys) ≡ inked xs ++ inked ys
inked_append xs ys = filter-append is_ink xs ys

-- a word after an indent
indented : (n : ℕ) (w rest : List ℕ) → inked (spaces n ++ (w ++ rest)) ≡ inked w ++ inked rest
indented n w rest =
    inked_append (spaces n) (w ++ rest) ∙ ap (λ t. t ++ inked (w ++ rest)) (spaces_blank n) ∙ inked_append w rest

after_ink : (width later room : ℕ) (ws : List (List ℕ)) → inked (lines_after width later room ws) ≡ all_ink ws
after_ink width later room [] = refl
after_ink width later room (w ∷ ws) = by (nat_lt (columns w) room)
    (after_ink width later (room - columns w - 1) ws) (after_ink width later (width - later - columns w) ws)
  where
    by : (b : Bool)
        → inked (lines_after width later (room - columns w - 1) ws) ≡ all_ink ws
        → inked (lines_after width later (width - later - columns w) ws) ≡ all_ink ws
        → inked (cond b (32 ∷ (w ++ lines_after width later (room - columns w - 1) ws))
        (10 ∷ (spaces later ++ (w ++ lines_after width later (width - later - columns w) ws))))
        ≡ inked w ++ all_ink ws
    by true there here = inked_append w (lines_after width later (room - columns w - 1) ws) ∙ ap (λ t. inked w ++ t) there
    by false there here =
        indented later w (lines_after width later (width - later - columns w) ws) ∙ ap (λ t. inked w ++ t) here

lines_ink : (width : ℕ) (s : Setting) (ws : List (List ℕ)) → inked (lines_of width s ws) ≡ all_ink ws
lines_ink width s [] = refl
lines_ink width s (w ∷ ws) =
    indented s.first w (lines_after width s.later (width - s.first - columns w) ws)
    ∙ ap (λ t. inked w ++ t) (after_ink width s.later (width - s.first - columns w) ws)

gap_blank : (last group : Group) → inked (gap_between last group) ≡ []
gap_blank last group = by (is_parted last group)
  where
    by : (b : Bool) → inked (cond b (10 ∷ []) []) ≡ []
    by true = refl
    by false = refl

paragraph_ink : (width : ℕ) (last : Group) (s : Setting) (ws : List (List ℕ)) → inked (paragraph_text width last s ws) ≡ all_ink ws
paragraph_ink width last s [] = refl
paragraph_ink width last s (w ∷ ws) =
    inked_append (gap_between last s.group) (lines_of width s (w ∷ ws))
    ∙ ap (λ t. t ++ inked (lines_of width s (w ∷ ws))) (gap_blank last s.group) ∙ lines_ink width s (w ∷ ws)

-- ---- the words of bytes have all that is not blank

-- the parts between blanks
first_ink : (b : ℕ) (ps : List (List ℕ)) → is_ink b ≡ true → all_ink (onto_first b ps) ≡ b ∷ all_ink ps
first_ink b [] is = ap (λ t. cond t (b ∷ []) [] ++ []) is
first_ink b (p ∷ ps) is = ap (λ t. cond t (b ∷ inked p) (inked p) ++ all_ink ps) is

parts_ink : (bs : List ℕ) → all_ink (slice_split is_blank bs) ≡ inked bs
parts_ink [] = refl
parts_ink (b ∷ bs) = by (is_blank b) refl (parts_ink bs)
  where
    by : (t : Bool) → is_blank b ≡ t → all_ink (slice_split is_blank bs) ≡ inked bs
        → all_ink (cond t ([] ∷ slice_split is_blank bs) (onto_first b (slice_split is_blank bs))) ≡ cond (not t) (b ∷ inked bs) (inked bs)
    by true is rest = rest
    by false is rest = first_ink b (slice_split is_blank bs) (ap not is) ∙ ap (λ t. b ∷ t) rest

filled_ink : (ps : List (List ℕ)) → all_ink (filter is_filled ps) ≡ all_ink ps
filled_ink [] = refl
filled_ink ([] ∷ ps) = filled_ink ps
filled_ink ((b ∷ bs) ∷ ps) = ap (λ t. inked (b ∷ bs) ++ t) (filled_ink ps)

words_ink : (bs : List ℕ) → all_ink (words_of bs) ≡ inked bs
unfolding words_of
words_ink bs = filled_ink (slice_split is_blank bs) ∙ parts_ink bs

-- ---- paragraphs

all_paragraphs : (width : ℕ) (last : Group) (ps : List Paragraph)
    → inked (paragraphs_text width last ps) ≡ inked (flat_map (λ (p : Paragraph). p.ink) ps)
all_paragraphs width last [] = refl
all_paragraphs width last (p ∷ ps) =
    let later = paragraphs_text width (group_after last p.setting (words_of p.ink)) ps in
    inked_append (paragraph_text width last p.setting (words_of p.ink)) later
    ∙ (λ i. (paragraph_ink width last p.setting (words_of p.ink) ∙ words_ink p.ink) i
    ++ all_paragraphs width (group_after last p.setting (words_of p.ink)) ps i)
    ∙ sym (inked_append p.ink (flat_map (λ (q : Paragraph). q.ink) ps))

-- what is written of blocks is what is written of their runs
block_ink : (b : BlockParts)
    → flat_map (λ (p : Paragraph). p.ink) (block_paragraphs b) ≡ flat_map in_text b.runs
block_ink b =
    ap (λ t. flat_map in_text (take (number_length b) b.runs) ++ t) (append-nil (flat_map in_text (drop (number_length b) b.runs)))
    ∙ sym (flat_map-append in_text (take (number_length b) b.runs) (drop (number_length b) b.runs))
    ∙ ap (flat_map in_text) (take-append-drop (number_length b) b.runs)

blocks_ink : (bs : List BlockParts)
    → flat_map (λ (p : Paragraph). p.ink) (flat_map block_paragraphs bs) ≡ flat_map in_text (flat_map (λ (b : BlockParts). b.runs) bs)
blocks_ink [] = refl
blocks_ink (b ∷ bs) =
    flat_map-append (λ (p : Paragraph). p.ink) (block_paragraphs b) (flat_map block_paragraphs bs)
    ∙ (λ i. block_ink b i ++ blocks_ink bs i) ∙ sym (flat_map-append in_text b.runs (flat_map (λ (c : BlockParts). c.runs) bs))

chapter_is : (rs : List RunParts) → flat_map (λ (p : Paragraph). p.ink) (chapter_paragraphs rs) ≡ chapter_ink rs
chapter_is rs =
    flat_map-append (λ (p : Paragraph). p.ink) (flat_map block_paragraphs (blocks_of rs)) (map note_paragraph (notes_of rs))
    ∙ (λ i. (blocks_ink (blocks_of rs) ∙ ap (flat_map in_text) (blocks_hold rs)) i
    ++ flat_map-map (λ (p : Paragraph). p.ink) note_paragraph (notes_of rs) i)

chapters_are : (cs : List (List RunParts))
    → flat_map (λ (p : Paragraph). p.ink) (flat_map chapter_paragraphs cs) ≡ flat_map chapter_ink cs
chapters_are [] = refl
chapters_are (c ∷ cs) =
    flat_map-append (λ (p : Paragraph). p.ink) (chapter_paragraphs c) (flat_map chapter_paragraphs cs)
    ∙ (λ i. chapter_is c i ++ chapters_are cs i)

pub nothing_left_out : (width : ℕ) (rs : List RunParts) → inked (plain width rs) ≡ inked (flat_map chapter_ink (chapters_of rs))
unfolding plain
nothing_left_out width rs = all_paragraphs width Begin (paragraphs_of rs) ∙ ap inked (chapters_are (chapters_of rs))
