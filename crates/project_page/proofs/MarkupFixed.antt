-- The markup of a page does not depend on its texts.
use Rattle.std.proofs.Common.{◌≡◌, ℕ, ◌==◌, Bool, true, false, cond, ◌||◌, List, [], ◌∷◌, ◌++◌, length, refl, sym, ◌∙◌}
use Rattle.std.specs.List.{filter, flat_map, list_any}
use Rattle.std.proofs.lemmas.List.Elements.{filter-append}
use Rattle.usfm_ref.specs.References.{ref_text}
use Rattle.usfm_token.specs.Tokens.{Lexeme, mark, words, mark_bytes, tokens_of}
use Rattle.word_diff.specs.Kinds.{is_kept}
use Rattle.word_diff.specs.declared.part.Part.{Part}
use Rattle.op_core.specs.Ids.{Id}
use Rattle.op_core.specs.Ops.{Operation, own_text}
use Rattle.op_core.specs.Shown.{Pick, is_empty}
use Rattle.project_status.specs.declared.makers.Maker.{Maker}
use Rattle.conflict_settling.specs.Entries.{EntryView}
use Rattle.plain_line.specs.declared.text.CarriageReturn.{CarriageReturn}
use Rattle.plain_line.specs.declared.text.CarriageReturn.TheVariants.{LeftOut, Spelled}
use Rattle.project_page.specs.Pages as pages
use Rattle.project_page.specs.Pages.{Saying}
use Rattle.project_page.specs.Parts.{BookView, ConflictView, PageView}
use Rattle.project_page.specs.Said.{said}
use Rattle.project_page.specs.Laws.{is_markup, left_out, MarkupIsFixed}
use Rattle.project_page.specs.declared.markup.TheConstants as html
use Rattle.project_page.proofs.References.{said_has_no_markup}

-- two texts with the same markup
abbrev Alike : List ℕ → List ℕ → Type 0
Alike a b = filter is_markup a ≡ filter is_markup b

-- a text without markup
none_kept : (bytes : List ℕ) → list_any is_markup bytes ≡ false → filter is_markup bytes ≡ []
none_kept [] h = refl
none_kept (b ∷ bytes) h = by (is_markup b) h (none_kept bytes)
  where
    by : (x : Bool) → (x || list_any is_markup bytes) ≡ false → (list_any is_markup bytes ≡ false → filter is_markup bytes ≡ [])
        → cond x (b ∷ filter is_markup bytes) (filter is_markup bytes) ≡ []
    by true h rest = cc h
    by false h rest = rest h

-- two texts, one after the other
both : (a b c d : List ℕ) → Alike a c → Alike b d → Alike (a ++ b) (c ++ d)
both a b c d f g = filter-append is_markup a b ∙ (λ i. f i ++ g i) ∙ sym (filter-append is_markup c d)

-- what comes after a text that stays
then : (a b d : List ℕ) → Alike b d → Alike (a ++ b) (a ++ d)
then a b d g = both a b a d refl g

-- the texts of some items
each : {X : Type 0} (f g : X → List ℕ) → ((x : X) → Alike (f x) (g x)) → (xs : List X) → Alike (flat_map f xs) (flat_map g xs)
each f g h [] = refl
each f g h (x ∷ xs) = both (f x) (flat_map f xs) (g x) (flat_map g xs) (h x) (each f g h xs)

-- one of two texts
either : (x : Bool) (a b c d : List ℕ) → Alike a c → Alike b d → Alike (cond x a b) (cond x c d)
either true a b c d f g = f
either false a b c d f g = g

-- a name or a text is left out
spoken : (r : CarriageReturn) (t : List ℕ) → Alike (said r t) (left_out r t)
spoken r t = none_kept (said r t) (said_has_no_markup r t)

-- and what comes after it
spoken_then : (r : CarriageReturn) (t b d : List ℕ) → Alike b d → Alike (said r t ++ b) (left_out r t ++ d)
spoken_then r t b d g = both (said r t) b (left_out r t) d (spoken r t) g

-- a name or a text between two pieces
wrapped : (r : CarriageReturn) (a t b : List ℕ) → Alike (a ++ (said r t ++ b)) (a ++ b)
wrapped r a t b = then a (said r t ++ b) b (spoken_then r t b b refl)

-- ---- the parts of a page, in the order of their definitions

maker_row : (m : Maker) → Alike (pages.maker_row said m) (pages.maker_row left_out m)
unfolding pages.maker_row
maker_row m = wrapped LeftOut html.MAKER.now m.name (pages.row html.MAKER_COUNT.now m.count)

front : (name : List ℕ) → Alike (pages.front said name) (pages.front left_out name)
unfolding pages.front
front name =
    let b = html.BODY.now ++ (said LeftOut name ++ html.ROW_END.now) in
    let d = html.BODY.now ++ html.ROW_END.now in
    then html.HEAD.now (said LeftOut name ++ b) d
    (spoken_then LeftOut name b d (wrapped LeftOut html.BODY.now name html.ROW_END.now))

standing : (p : PageView) → Alike (pages.standing said p) (pages.standing left_out p)
unfolding pages.standing
standing p =
    let rows = pages.row html.REPLACED.now p.replaced
    ++ (pages.row html.THINNED.now p.thinned
    ++ (pages.row html.CONFLICTS_ROW.now (length p.conflicts) ++ pages.row html.AWAITED_ROW.now (length p.awaited))) in
    let b = flat_map (pages.maker_row said) p.makers in
    let d = flat_map (pages.maker_row left_out) p.makers in
    let verses = pages.row html.VERSES.now p.verses in
    then (pages.row html.BOOKS.now (length p.books)) (verses ++ (b ++ rows)) (verses ++ (d ++ rows))
    (then verses (b ++ rows) (d ++ rows)
    (both b rows d rows (each (pages.maker_row said) (pages.maker_row left_out) maker_row p.makers) refl))

book_row : (b : BookView) → Alike (pages.book_row said b) (pages.book_row left_out b)
unfolding pages.book_row
book_row b =
    wrapped LeftOut html.BOOK.now b.book (html.CHAPTERS.now ++ (flat_map pages.chapter_cell b.chapters ++ html.BOOK_END.now))

progress : (bs : List BookView) → Alike (pages.progress said bs) (pages.progress left_out bs)
unfolding pages.progress
progress bs =
    then html.PROGRESS.now (flat_map (pages.book_row said) bs) (flat_map (pages.book_row left_out) bs)
    (each (pages.book_row said) (pages.book_row left_out) book_row bs)

module _ (r : CarriageReturn) where
  token : (t : Lexeme) → Alike (pages.token_said (said r) t) (pages.token_said (left_out r) t)
  token (mark m) = wrapped r html.MARK.now (mark_bytes m) html.MARK_END.now
  token (words t) = spoken r t

  text : (t : List ℕ) → Alike (pages.text_said (said r) t) (pages.text_said (left_out r) t)
  text t = each (pages.token_said (said r)) (pages.token_said (left_out r)) token (tokens_of t)

  text_then : (a t b : List ℕ) → Alike (a ++ (pages.text_said (said r) t ++ b)) (a ++ (pages.text_said (left_out r) t ++ b))
  text_then a t b =
      then a (pages.text_said (said r) t ++ b) (pages.text_said (left_out r) t ++ b)
      (both (pages.text_said (said r) t) b (pages.text_said (left_out r) t) b (text t) refl)

near : (w t : List ℕ) → Alike (pages.near said w t) (pages.near left_out w t)
unfolding pages.near
near w t =
    either (is_empty t) [] (w ++ (pages.text_said (said LeftOut) t ++ html.LINE_END.now)) []
    (w ++ (pages.text_said (left_out LeftOut) t ++ html.LINE_END.now)) refl (text_then LeftOut w t html.LINE_END.now)

id_line : (w : List ℕ) (id : Id) → Alike (pages.id_line said w id) (pages.id_line left_out w id)
unfolding pages.id_line
id_line w id = wrapped LeftOut w id.name (pages.numbered html.OPERATION.now id.number ++ html.LINE_END.now)

part : (p : Part) → Alike (pages.part_said said p) (pages.part_said left_out p)
unfolding pages.part_said
part p =
    let t = p.text.now in
    either (is_kept p.kind) (pages.text_said (said LeftOut) t)
    (html.DIFFERS.now ++ (pages.text_said (said Spelled) t ++ html.DIFFERS_END.now)) (pages.text_said (left_out LeftOut) t)
    (html.DIFFERS.now ++ (pages.text_said (left_out Spelled) t ++ html.DIFFERS_END.now)) (text LeftOut t)
    (text_then Spelled html.DIFFERS.now t html.DIFFERS_END.now)

part_on : (x : Bool) (p : Part) → Alike (pages.part_on said x p) (pages.part_on left_out x p)
unfolding pages.part_on
part_on x p =
    either (pages.is_here x p.kind) (pages.part_said said p) [] (pages.part_said left_out p) [] (part p) refl

entry_text : (e : EntryView) → Alike (pages.entry_text said e) (pages.entry_text left_out e)
unfolding pages.entry_text
entry_text e =
    let f = pages.part_on said (e.number == 1) in
    let g = pages.part_on left_out (e.number == 1) in
    let b = flat_map f e.parts in
    let d = flat_map g e.parts in
    either (is_empty (own_text e.op)) html.NO_TEXT.now (html.TEXT.now ++ (b ++ html.LINE_END.now)) html.NO_TEXT.now
    (html.TEXT.now ++ (d ++ html.LINE_END.now)) refl (then html.TEXT.now (b ++ html.LINE_END.now) (d ++ html.LINE_END.now)
    (both b html.LINE_END.now d html.LINE_END.now (each f g (part_on (e.number == 1)) e.parts) refl))

entry : (p : Pick) (e : EntryView) → Alike (pages.entry said p e) (pages.entry left_out p e)
unfolding pages.entry
entry p e =
    let pick = pages.pick_on e.number p in
    let end = html.DIV_END.now in
    let b = pages.id_line said html.ENTRY_BY.now e.op.id in
    let d = pages.id_line left_out html.ENTRY_BY.now e.op.id in
    let h = pages.entry_text said e in
    let k = pages.entry_text left_out e in
    then (pages.numbered html.ENTRY.now e.number) (b ++ (pick ++ (h ++ end))) (d ++ (pick ++ (k ++ end)))
    (both b (pick ++ (h ++ end)) d (pick ++ (k ++ end)) (id_line html.ENTRY_BY.now e.op.id)
    (then pick (h ++ end) (k ++ end) (both h end k end (entry_text e) refl)))

texts : (p : Pick) (es : List EntryView) → Alike (pages.texts said p es) (pages.texts left_out p es)
unfolding pages.texts
texts p es =
    let f = pages.entry said p in
    let g = pages.entry left_out p in
    let end = html.DIV_END.now in
    then html.TEXTS.now (flat_map f es ++ end) (flat_map g es ++ end)
    (both (flat_map f es) end (flat_map g es) end (each f g (entry p) es) refl)

repeated : (o : Operation) → Alike (pages.repeated said o) (pages.repeated left_out o)
repeated o = id_line html.REPEATED.now o.id

id_word : (id : Id) → Alike (pages.id_word said id) (pages.id_word left_out id)
unfolding pages.id_word
id_word id =
    then (pages.numbered html.ID.now id.number) (html.ID_NAME.now ++ said LeftOut id.name)
    (html.ID_NAME.now ++ left_out LeftOut id.name)
    (then html.ID_NAME.now (said LeftOut id.name) (left_out LeftOut id.name) (spoken LeftOut id.name))

id_words : (c : ConflictView) → Alike (pages.id_words said c) (pages.id_words left_out c)
unfolding pages.id_words
id_words c =
    let of_entry = λ (say : Saying) (e : EntryView). pages.id_word say e.op.id in
    let of_op = λ (say : Saying) (o : Operation). pages.id_word say o.id in
    both (flat_map (of_entry said) c.entries) (flat_map (of_op said) c.repeated) (flat_map (of_entry left_out) c.entries)
    (flat_map (of_op left_out) c.repeated)
    (each (of_entry said) (of_entry left_out) (λ e. id_word e.op.id) c.entries)
    (each (of_op said) (of_op left_out) (λ o. id_word o.id) c.repeated)

module _ (c : ConflictView) where
  -- what comes after a conflict's reference, where texts are written so
  abbrev below : Saying → List ℕ
  below say =
      html.NAMED.now ++ (pages.near say html.BEFORE.now c.before ++ (pages.texts say c.picked c.entries
      ++ (flat_map (pages.repeated say) c.repeated ++ (pages.near say html.AFTER.now c.after ++ html.CONFLICT_END.now))))

  below_alike : Alike (below said) (below left_out)
  below_alike =
      let end = html.CONFLICT_END.now in
      let b = pages.near said html.AFTER.now c.after in
      let d = pages.near left_out html.AFTER.now c.after in
      let h = flat_map (pages.repeated said) c.repeated in
      let k = flat_map (pages.repeated left_out) c.repeated in
      let m = pages.texts said c.picked c.entries in
      let n = pages.texts left_out c.picked c.entries in
      let v = pages.near said html.BEFORE.now c.before in
      let w = pages.near left_out html.BEFORE.now c.before in
      then html.NAMED.now (v ++ (m ++ (h ++ (b ++ end)))) (w ++ (n ++ (k ++ (d ++ end))))
      (both v (m ++ (h ++ (b ++ end))) w (n ++ (k ++ (d ++ end))) (near html.BEFORE.now c.before)
      (both m (h ++ (b ++ end)) n (k ++ (d ++ end)) (texts c.picked c.entries)
      (both h (b ++ end) k (d ++ end) (each (pages.repeated said) (pages.repeated left_out) repeated c.repeated)
      (both b end d end (near html.AFTER.now c.after) refl))))

  conflict : Alike (pages.conflict said c) (pages.conflict left_out c)
  unfolding pages.conflict
  conflict =
      let name = ref_text c.segment.book c.segment.key in
      let b = html.LEGEND.now ++ (said LeftOut name ++ below said) in
      let d = html.LEGEND.now ++ below left_out in
      then html.CONFLICT.now (pages.id_words said c ++ b) (pages.id_words left_out c ++ d)
      (both (pages.id_words said c) b (pages.id_words left_out c) d (id_words c)
      (then html.LEGEND.now (said LeftOut name ++ below said) (below left_out)
      (spoken_then LeftOut name (below said) (below left_out) below_alike)))

conflicts : (cs : List ConflictView) → Alike (pages.conflicts said cs) (pages.conflicts left_out cs)
unfolding pages.conflicts
conflicts cs =
    let b = flat_map (pages.conflict said) cs in
    let d = flat_map (pages.conflict left_out) cs in
    then (pages.numbered html.CONFLICTS.now (length cs)) (html.COUNT_END.now ++ b) (html.COUNT_END.now ++ d)
    (then html.COUNT_END.now b d (each (pages.conflict said) (pages.conflict left_out) conflict cs))

awaiting : (ids : List Id) → Alike (pages.awaiting said ids) (pages.awaiting left_out ids)
unfolding pages.awaiting
awaiting ids =
    let f = pages.id_line said html.AWAITED_BY.now in
    let g = pages.id_line left_out html.AWAITED_BY.now in
    then (pages.numbered html.AWAITED.now (length ids)) (html.COUNT_END.now ++ flat_map f ids) (html.COUNT_END.now ++ flat_map g ids)
    (then html.COUNT_END.now (flat_map f ids) (flat_map g ids) (each f g (id_line html.AWAITED_BY.now) ids))

module _ (p : PageView) where
  -- the parts of a page after the numbers, where texts are written so
  abbrev later : Saying → List ℕ
  later say =
      pages.progress say p.books ++ (pages.conflicts say p.conflicts ++ (pages.awaiting say p.awaited ++ html.END.now))

  later_alike : Alike (later said) (later left_out)
  later_alike =
      let end = html.END.now in
      let b = pages.awaiting said p.awaited in
      let d = pages.awaiting left_out p.awaited in
      let h = pages.conflicts said p.conflicts in
      let k = pages.conflicts left_out p.conflicts in
      both (pages.progress said p.books) (h ++ (b ++ end)) (pages.progress left_out p.books) (k ++ (d ++ end)) (progress p.books)
      (both h (b ++ end) k (d ++ end) (conflicts p.conflicts) (both b end d end (awaiting p.awaited) refl))

pub markup_is_fixed : MarkupIsFixed
unfolding pages.page_by
markup_is_fixed p =
    let b = pages.standing said p in
    let d = pages.standing left_out p in
    both (pages.front said p.name) (b ++ later p said) (pages.front left_out p.name) (d ++ later p left_out) (front p.name)
    (both b (later p said) d (later p left_out) (standing p) (later_alike p))
