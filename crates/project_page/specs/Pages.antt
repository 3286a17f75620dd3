-- The page about a project (this project's own rule, in HTML 5): the fixed pieces of
-- `src/markup.rt`, each by its name, and between them numbers, and the project's texts and names,
-- each as `say` writes it.
use Rattle.std.specs.Prelude.{◌≡◌, ℕ, ◌*◌, ◌==◌, nat_le, Bool, List, [], ◌++◌, length, if◌then◌else◌}
use Rattle.std.specs.List.{flat_map}
use Rattle.std.specs.Fmt.{decimal}
use Rattle.usfm_ref.specs.References.{ref_text}
use Rattle.usfm_token.specs.Tokens.{Lexeme, mark, words, mark_bytes, tokens_of}
use Rattle.word_diff.specs.Kinds.{is_kept, is_new, is_old}
use Rattle.word_diff.specs.declared.part.Kind.{Kind}
use Rattle.word_diff.specs.declared.part.Part.{Part}
use Rattle.op_core.specs.Ids.{Id}
use Rattle.op_core.specs.Ops.{Operation, own_text}
use Rattle.op_core.specs.Shown.{Pick, Line, Greatest, Empty, is_empty}
use Rattle.replica_state.specs.States.{State}
use Rattle.project_status.specs.declared.chapters.Chapter.{Chapter}
use Rattle.project_status.specs.declared.makers.Maker.{Maker}
use Rattle.conflict_settling.specs.Entries.{EntryView}
use Rattle.versification.specs.Versifications.{Verses}
use Rattle.project_page.specs.Parts.{BookView, ConflictView, PageView, ArePartsOf}
use Rattle.plain_line.specs.declared.text.CarriageReturn.{CarriageReturn}
use Rattle.plain_line.specs.declared.text.CarriageReturn.TheVariants.{LeftOut, Spelled}
use Rattle.project_page.specs.Said.{said}
use Rattle.project_page.specs.declared.markup.TheConstants as html

-- how a text or a name is written, with the carriage returns before its line feeds or without
abbrev pub Saying : Type 0
Saying = CarriageReturn → List ℕ → List ℕ

-- ---- how the project stands

-- a number, after the piece that names it
unfoldable pub numbered : List ℕ → ℕ → List ℕ
numbered named n = named ++ decimal n

-- the same in a row
unfoldable pub row : List ℕ → ℕ → List ℕ
row named n = numbered named n ++ html.ROW_END.now

-- who made how much of what is shown
unfoldable pub maker_row : Saying → Maker → List ℕ
maker_row say maker =
    html.MAKER.now ++ (say LeftOut maker.name ++ row html.MAKER_COUNT.now maker.count)

-- the page's front, with the copy's name in the title and as the first row
unfoldable pub front : Saying → List ℕ → List ℕ
front say name =
    html.HEAD.now ++ (say LeftOut name
    ++ (html.BODY.now ++ (say LeftOut name ++ html.ROW_END.now)))

-- the numbers of the project's status
unfoldable pub standing : Saying → PageView → List ℕ
standing say p =
    row html.BOOKS.now (length p.books) ++ (row html.VERSES.now p.verses
    ++ (flat_map (maker_row say) p.makers ++ (row html.REPLACED.now p.replaced
    ++ (row html.THINNED.now p.thinned ++ (row html.CONFLICTS_ROW.now (length p.conflicts)
    ++ row html.AWAITED_ROW.now (length p.awaited))))))

-- ---- how far the chapters are

-- the shade of a chapter, by the share of its verses that have a text
unfoldable pub shade : Chapter → List ℕ
shade c =
    if c.written == 0 then html.NONE.now
    else if nat_le c.verses c.written then html.ALL.now
    else if nat_le (2 * c.verses) (3 * c.written) then html.MOST.now
    else if nat_le c.verses (3 * c.written) then html.SOME.now
    else html.FEW.now

-- a chapter: its number, and how many of how many verses have a text
unfoldable pub chapter_cell : Chapter → List ℕ
chapter_cell c =
    html.CHAPTER.now ++ (shade c ++ (numbered html.CHAPTER_NUMBER.now c.chapter
    ++ (numbered html.CHAPTER_WRITTEN.now c.written
    ++ (numbered html.CHAPTER_VERSES.now c.verses ++ html.CHAPTER_END.now))))

-- a book with its chapters
unfoldable pub book_row : Saying → BookView → List ℕ
book_row say b =
    html.BOOK.now ++ (say LeftOut b.book ++ (html.CHAPTERS.now ++ (flat_map chapter_cell b.chapters
    ++ html.BOOK_END.now)))

-- all books
unfoldable pub progress : Saying → List BookView → List ℕ
progress say books = html.PROGRESS.now ++ flat_map (book_row say) books

-- ---- texts

-- a mark apart, so that its Latin letters do not say in which direction the text runs; a text as it
-- is
abbrev pub token_said : (List ℕ → List ℕ) → Lexeme → List ℕ
token_said say (mark m) = html.MARK.now ++ (say (mark_bytes m) ++ html.MARK_END.now)
token_said say (words t) = say t

-- a text, mark by mark
abbrev pub text_said : (List ℕ → List ℕ) → List ℕ → List ℕ
text_said say text = flat_map (token_said say) (tokens_of text)

-- a text that stands before or after a segment, after the piece that says so; nothing where it is
-- empty
unfoldable pub near : Saying → List ℕ → List ℕ → List ℕ
near say named text =
    if is_empty text then [] else
    named ++ (text_said (say LeftOut) text ++ html.LINE_END.now)

-- an id in a line of its own, by its name and its number, after the piece that says what it is
unfoldable pub id_line : Saying → List ℕ → Id → List ℕ
id_line say named id =
    named ++ (say LeftOut id.name ++ (numbered html.OPERATION.now id.number ++ html.LINE_END.now))

-- ---- what is in conflict

-- a part of two texts: what is not in both is marked, and in it also line ends are spelled out
unfoldable pub part_said : Saying → Part → List ℕ
part_said say part =
    if is_kept part.kind then text_said (say LeftOut) part.text.now else
    html.DIFFERS.now ++ (text_said (say Spelled) part.text.now ++ html.DIFFERS_END.now)

-- whether a part is on this side: that of the first text, or else the other
abbrev pub is_here : Bool → Kind → Bool
is_here is_first kind = if is_first then is_old kind else is_new kind

-- the part, if it is on this side
unfoldable pub part_on : Saying → Bool → Part → List ℕ
part_on say is_first part = if is_here is_first part.kind then part_said say part else []

-- one of the texts, with what differs marked
unfoldable pub entry_text : Saying → EntryView → List ℕ
entry_text say e =
    if is_empty (own_text e.op) then html.NO_TEXT.now else
    html.TEXT.now ++ (flat_map (part_on say (e.number == 1)) e.parts ++ html.LINE_END.now)

-- what is picked: the book has the first text, or in the place of no text its chapter's line
abbrev pub pick_said : Pick → List ℕ
pick_said (Line chapter) = numbered html.IN_BOOK_AS.now chapter ++ html.LINE_END.now
pick_said (Greatest o) = html.IN_BOOK.now
pick_said Empty = []

-- the same, if the text of this number is the first
unfoldable pub pick_on : ℕ → Pick → List ℕ
pick_on n picked = if n == 1 then pick_said picked else []

-- one of the texts, below a box to tick, who made it, and for the first one what is picked
unfoldable pub entry : Saying → Pick → EntryView → List ℕ
entry say picked e =
    numbered html.ENTRY.now e.number ++ (id_line say html.ENTRY_BY.now e.op.id
    ++ (pick_on e.number picked ++ (entry_text say e ++ html.DIV_END.now)))

-- the texts side by side
unfoldable pub texts : Saying → Pick → List EntryView → List ℕ
texts say picked es = html.TEXTS.now ++ (flat_map (entry say picked) es ++ html.DIV_END.now)

-- an id as an answer names it, such as `6:ben`, after a space
unfoldable pub id_word : Saying → Id → List ℕ
id_word say id = numbered html.ID.now id.number ++ (html.ID_NAME.now ++ say LeftOut id.name)

-- the ids that an answer is over: those of the texts, in their order, and then those of the
-- operations that have one of the texts too
unfoldable pub id_words : Saying → ConflictView → List ℕ
id_words say c =
    flat_map (λ e. id_word say e.op.id) c.entries ++ flat_map (λ o. id_word say o.id) c.repeated

-- an operation that has one of the texts too
abbrev pub repeated : Saying → Operation → List ℕ
repeated say o = id_line say html.REPEATED.now o.id

-- a conflict with the ids that an answer is over, below its reference
unfoldable pub conflict : Saying → ConflictView → List ℕ
conflict say c =
    html.CONFLICT.now ++ (id_words say c ++ (html.LEGEND.now
    ++ (say LeftOut (ref_text c.segment.book c.segment.key) ++ (html.NAMED.now
    ++ (near say html.BEFORE.now c.before ++ (texts say c.picked c.entries
    ++ (flat_map (repeated say) c.repeated ++ (near say html.AFTER.now c.after
    ++ html.CONFLICT_END.now))))))))

-- how many conflicts there are, and each of them
unfoldable pub conflicts : Saying → List ConflictView → List ℕ
conflicts say cs =
    numbered html.CONFLICTS.now (length cs) ++ (html.COUNT_END.now
    ++ flat_map (conflict say) cs)

-- ---- what is awaited

-- how many ids are awaited, and each of them
unfoldable pub awaiting : Saying → List Id → List ℕ
awaiting say ids =
    numbered html.AWAITED.now (length ids) ++ (html.COUNT_END.now
    ++ flat_map (id_line say html.AWAITED_BY.now) ids)

-- ---- the page

-- what is said so, in this order
unfoldable pub page_by : Saying → PageView → List ℕ
page_by say p =
    front say p.name ++ (standing say p ++ (progress say p.books ++ (conflicts say p.conflicts
    ++ (awaiting say p.awaited ++ html.END.now))))

-- the page: each text and name as it stands in HTML
abbrev pub page : PageView → List ℕ
page p = page_by said p

-- The bytes are a page about a replica by a versification: what it says is so of the replica.
pub record IsPageOf (v : Verses) (s : State) (bytes : List ℕ) : Type 0 where
  pub parts : PageView
  pub are : ArePartsOf v s parts
  pub bytes_are : bytes ≡ page parts
