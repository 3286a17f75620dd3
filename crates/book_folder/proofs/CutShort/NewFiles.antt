-- Each file of a folder is as a sync leaves it: a new one that was put, and one that needs none.
use Rattle.std.proofs.Common.{◌≡◌, ◌⊎◌, ◌<◌, inl, inr, ℕ, zero, suc, ◌==◌, Bool, true, false, cond, ◌&&◌, List, [], ◌∷◌, ◌++◌, codes, get_or, length, map, take}
use Rattle.std.proofs.Common.{Contains, Option, None, Some, Result, Ok, Err, refl, sym, ap, subst, ◌∙◌, arith}
use Rattle.std.specs.Cmp.{tied_itself}
use Rattle.std.specs.List.{AllByRecursion, IsDistinct, flat_map, list_any}
use Rattle.std.specs.Ordering.{is_eq}
use Rattle.std.specs.Str.{is_utf8}
use Rattle.std.proofs.lemmas.Bool.{and_parts, eqb-true, false≢true, or_parts}
use Rattle.std.proofs.lemmas.Str.{is_utf8-from_IsUtf8}
use Rattle.usfm_ref.specs.Books.{book_cmp, same_bytes}
use Rattle.usfm_ref.proofs.Members.{tested_rising}
use Rattle.usfm_ref.proofs.Orders.{book_exact, book_total, same_bytes-is, same_bytes-refl}
use Rattle.verse_cut.specs.Fits.{IsHeaded, byte_order_mark}
use Rattle.verse_cut.specs.Reading.{after_bom}
use Rattle.op_core.specs.Export.{export, has_book, of_book}
use Rattle.op_core.specs.Lists.{books_of}
use Rattle.op_core.specs.Ops.{Operation}
use Rattle.op_core.specs.Sets.{IsOpSet}
use Rattle.op_core.proofs.Exports.CutsBack.{exports_are_text}
use Rattle.op_core.proofs.FilteredLists.{any_map, any_weaker}
use Rattle.replica_state.proofs.FilePieces.{book_is_headed}
use Rattle.replica_state.proofs.SinceLaws.{none_there}
use Rattle.book_folder.specs.AsWritten.{are_alike}
use Rattle.book_folder.specs.Files.{FileParts, are_of_one_book, book_begun, file_of}
use Rattle.book_folder.specs.FolderLaws.{HasOneManner, IsSyncedFile, NewFilesAreLeftSo, OtherFilesAreLeftSo}
use Rattle.book_folder.specs.Likes.{in_line_ends, like, line_ends, plain, without_cr}
use Rattle.book_folder.specs.Naming.{FormParts, new_name}
use Rattle.book_folder.specs.Plans.{NewFileParts, by_ends, file_by_text, if_begun, is_book, is_like_file, is_whole, new_file, new_file_if, new_files, text_for}
use Rattle.book_folder.specs.Refusals.{◌>>=◌}
use Rattle.book_folder.specs.Restored.{coming_ends, front_of, in_manner_of}
use Rattle.book_folder.specs.Wanted.{SeenParts}
use Rattle.book_folder.specs.declared.likes.LineEnds.{LineEnds}
use Rattle.book_folder.specs.declared.likes.LineEnds.TheVariants.{Lf, CrLf, Mixed}
use Rattle.book_folder.specs.declared.refusal.Refusal.{Refusal}
use Rattle.book_folder.proofs.CutShort.Puts.{first_or_later}
use Rattle.book_folder.proofs.Schedules.PieceTexts.{manner_text}
use Rattle.book_folder.proofs.Twice.OwnManner.{ended, none_taken}
use Rattle.book_folder.proofs.Twice.SyncedFile.{begins}
use Rattle.book_folder.proofs.CutShort.Gathered.{all_gathered, given_by, none_refused}

-- what holds of all files holds of one of them
pub of_one : (P : FileParts → Type 0) (files : List FileParts) → AllByRecursion P files → (f : FileParts) → Contains files f → P f
of_one P files h f c = at files h c.0 c.1 c.2
  where
    at : (fs : List FileParts) → AllByRecursion P fs → (k : ℕ) → k < length fs → get_or fs k f ≡ f → P f
    at [] h k l e = absurd (omega (arith, l))
    at (g ∷ fs) h zero l e = subst P e h.0
    at (g ∷ fs) h (suc k) l e = at fs h.1 k (omega (arith, l)) e

-- what follows for each file follows for all
pub weaker : (P Q : FileParts → Type 0) → ((f : FileParts) → P f → Q f) → (files : List FileParts) → AllByRecursion P files
    → AllByRecursion Q files
weaker P Q on [] h = tt
weaker P Q on (f ∷ files) h = (on f h.0, weaker P Q on files h.1)

-- ---- a text in the manner of a file is like it

-- an LF stays
lf_stays : (text : List ℕ) → without_cr (10 ∷ text) ≡ 10 ∷ without_cr text
unfolding without_cr
lf_stays [] = refl
lf_stays (b ∷ text) = refl

-- and so does each byte that is no CR
other_stays : (b : ℕ) (text : List ℕ) → (b == 13) ≡ false → without_cr (b ∷ text) ≡ b ∷ without_cr text
unfolding without_cr
other_stays b [] e = refl
other_stays b (c ∷ text) e = ap (λ x. cond (x && (c == 10)) (without_cr (c ∷ text)) (b ∷ without_cr (c ∷ text))) e

-- what got CR LF as its ends loses each CR again
crlf_back : (text : List ℕ) → list_any (λ b. b == 13) text ≡ false
    → without_cr (flat_map (λ b. cond (b == 10) (13 ∷ 10 ∷ []) (b ∷ [])) text) ≡ text
unfolding without_cr
crlf_back [] h = refl
crlf_back (b ∷ text) h =
    let p = or_parts (b == 13) (list_any (λ b. b == 13) text) h in by (b == 10) refl p.0 (crlf_back text p.1)
  where
    more : List ℕ
    more = flat_map (λ b. cond (b == 10) (13 ∷ 10 ∷ []) (b ∷ [])) text

    by : (c : Bool) → (b == 10) ≡ c → (b == 13) ≡ false → without_cr more ≡ text
        → without_cr (cond c (13 ∷ 10 ∷ []) (b ∷ []) ++ more) ≡ b ∷ text
    by true e n rest = lf_stays more ∙ (λ i. sym (eqb-true b 10 e) i ∷ rest i)
    by false e n rest = other_stays b more n ∙ ap (λ (t : List ℕ). b ∷ t) rest

-- in whatever manner its lines are the same
same_lines : (ends : LineEnds) (text : List ℕ) → list_any (λ b. b == 13) (without_cr text) ≡ false
    → without_cr (in_line_ends (coming_ends ends) text) ≡ without_cr text
same_lines Lf text h = ap without_cr (ended (without_cr text)) ∙ none_taken (without_cr text) h
same_lines CrLf text h = crlf_back (without_cr text) h
same_lines Mixed text h = ap without_cr (ended (without_cr text)) ∙ none_taken (without_cr text) h

-- a backslash at the front stays there
record Fronted (text : List ℕ) : Type 0 where
  pub rest : List ℕ
  pub is : text ≡ 92 ∷ rest

fronted : (ends : LineEnds) (rest : List ℕ) → Fronted (in_line_ends (coming_ends ends) (92 ∷ rest))
fronted ends rest = by ends
  where
    by : (ends : LineEnds) → Fronted (in_line_ends (coming_ends ends) (92 ∷ rest))
    by Lf = record {
      rest = flat_map (λ b. cond (b == 10) (10 ∷ []) (b ∷ [])) (without_cr rest);
      is = ap (flat_map (λ b. cond (b == 10) (10 ∷ []) (b ∷ []))) (other_stays 92 rest refl);
    }
    by CrLf = record {
      rest = flat_map (λ b. cond (b == 10) (13 ∷ 10 ∷ []) (b ∷ [])) (without_cr rest);
      is = ap (flat_map (λ b. cond (b == 10) (13 ∷ 10 ∷ []) (b ∷ []))) (other_stays 92 rest refl);
    }
    by Mixed = record {
      rest = flat_map (λ b. cond (b == 10) (10 ∷ []) (b ∷ [])) (without_cr rest);
      is = ap (flat_map (λ b. cond (b == 10) (10 ∷ []) (b ∷ []))) (other_stays 92 rest refl);
    }

-- after another one's front it is what follows U+FEFF
after_front : (was text : List ℕ) → Fronted text → after_bom (front_of was ++ text) ≡ text
after_front was text f = by (same_bytes (take 3 was) byte_order_mark)
  where
    by : (b : Bool) → after_bom (cond b byte_order_mark [] ++ text) ≡ text
    by true = refl
    by false = ap after_bom f.is ∙ sym f.is

-- a text that begins with its book has a backslash there
headed_front : (book text : List ℕ) → IsHeaded book text → Fronted (after_bom text)
headed_front book text h = subst (λ (t : List ℕ). Fronted (after_bom t)) (sym h.begins.text_is) (by h.begins.marked)
  where
    by : (m : Bool) → Fronted (after_bom (cond m byte_order_mark [] ++ (codes "\\id" ++ h.begins.blank ∷ (book ++ h.rest))))
    by true = record { rest = 105 ∷ 100 ∷ h.begins.blank ∷ (book ++ h.rest); is = refl }
    by false = record { rest = 105 ∷ 100 ∷ h.begins.blank ∷ (book ++ h.rest); is = refl }

in_manner_like : (was book text : List ℕ) → IsHeaded book text → list_any (λ b. b == 13) (plain text) ≡ false
    → like text (in_manner_of was text) ≡ true
in_manner_like was book text h none =
    ap (same_bytes (plain text)) same ∙ same_bytes-refl (plain text)
  where
    lines : List ℕ
    lines = in_line_ends (coming_ends (line_ends was)) (after_bom text)

    begun : Fronted lines
    begun =
        let f = headed_front book text h in
        subst (λ (t : List ℕ). Fronted (in_line_ends (coming_ends (line_ends was)) t)) (sym f.is) (fronted (line_ends was) f.rest)

    same : plain (in_manner_of was text) ≡ plain text
    same = ap without_cr (after_front was lines begun) ∙ same_lines (line_ends was) (after_bom text) none

-- ---- what a book's file gets

-- a text is like another one, is UTF-8, and begins with a book
record IsTextOf (book was text : List ℕ) : Type 0 where
  pub alike : like was text ≡ true
  pub utf8 : is_utf8 text ≡ true
  pub begun : book_begun text ≡ Some book

book_is : (r : Option (List ℕ)) (book : List ℕ) → is_book r book ≡ true → r ≡ Some book
book_is None book h = absurd (false≢true h)
book_is (Some x) book h = ap Some (same_bytes-is x book h)

module _ (held : List Operation) (set : IsOpSet held) (book : List ℕ) (whole : is_whole held book ≡ true)
    (manner : HasOneManner (export held book)) where
  abbrev text : List ℕ
  text = export held book

  itself : IsTextOf book text text
  itself = record {
    alike = same_bytes-refl (plain text);
    utf8 = is_utf8-from_IsUtf8 text (exports_are_text held book set);
    begun = book_is (book_begun text) book (and_parts (has_book held book) (is_book (book_begun text) book) whole).1;
  }

  as_file : (was : List ℕ) → IsTextOf book text (if_begun book text (in_manner_of was text))
  as_file was = by (is_book (book_begun (in_manner_of was text)) book) refl
    where
      by : (b : Bool) → is_book (book_begun (in_manner_of was text)) book ≡ b → IsTextOf book text (cond b (in_manner_of was text) text)
      by true e = record {
        alike = in_manner_like was book text (book_is_headed text book (begins held set book whole)) manner.none_else;
        utf8 = is_utf8-from_IsUtf8 (in_manner_of was text) (manner_text was text (exports_are_text held book set));
        begun = book_is (book_begun (in_manner_of was text)) book e;
      }
      by false e = itself

  by_file : (f : Option FileParts) → IsTextOf book text (text_for f book text)
  by_file None = itself
  by_file (Some f) = by (line_ends f.bytes)
    where
      same : (b : Bool) → IsTextOf book text (cond b text text)
      same true = itself
      same false = itself

      by : (ends : LineEnds) → IsTextOf book text (if_begun book text (by_ends ends f.bytes text))
      by Lf = as_file f.bytes
      by CrLf = as_file f.bytes
      by Mixed = same (is_book (book_begun text) book)

-- ---- new files

module _ (seen : SeenParts) (held : List Operation) (files : List FileParts) (form : FormParts) where
  abbrev give : List ℕ → Result (Option NewFileParts) Refusal
  give = new_file_if seen held files form

  -- what a book gives: it is whole, and its text is by its file
  pub record IsNewOf (book : List ℕ) (g : NewFileParts) : Type 0 where
    pub whole : is_whole held book ≡ true
    pub book_is : g.book ≡ book
    pub text : g.text ≡ text_for (file_of files book) book (export held book)
    pub name : new_name seen form book (file_of files book) ≡ Ok g.name

  new_of : (book : List ℕ) (g : NewFileParts) → give book ≡ Ok (Some g) → IsNewOf book g
  new_of book g e =
      by (is_whole held book) refl (is_like_file (file_of files book) (export held book)) (new_name seen form book (file_of files book))
      refl e
    where
      by : (b : Bool) → is_whole held book ≡ b → (c : Bool) (name : Result (List ℕ) Refusal)
          → new_name seen form book (file_of files book) ≡ name
          → cond b (cond c (Ok None) (name >>= λ n. Ok (Some (new_file (file_of files book) book (export held book) n)))) (Ok None)
          ≡ Ok (Some g) → IsNewOf book g
      by false w c name f e = cc e
      by true w true name f e = cc e
      by true w false (Err r) f e = cc e
      by true w false (Ok n) f e =
          let is : new_file (file_of files book) book (export held book) n ≡ g = cc e in record {
            whole = w;
            book_is = sym (ap (λ (x : NewFileParts). x.book) is);
            text = sym (ap (λ (x : NewFileParts). x.text) is);
            name = f ∙ ap (λ (x : NewFileParts). Ok x.name) is;
          }

  -- the file of a book is the first of it
  file_is : (fs : List FileParts) (f : FileParts) → IsDistinct are_of_one_book fs → Contains fs f → file_of fs f.book ≡ Some f
  unfolding IsDistinct
  file_is [] f h there = absurd (none_there f there)
  file_is (g ∷ fs) f h there = by (first_or_later g fs f there) (file_is fs f h.1)
    where
      by : (g ≡ f) ⊎ Contains fs f → (Contains fs f → file_of fs f.book ≡ Some f)
          → cond (same_bytes g.book f.book) (Some g) (file_of fs f.book) ≡ Some f
      by (inl same) rest =
          ap (λ b. cond b (Some g) (file_of fs f.book))
          (ap (λ (x : FileParts). same_bytes x.book f.book) same ∙ same_bytes-refl f.book) ∙ ap Some same
      by (inr later) rest =
          ap (λ b. cond b (Some g) (file_of fs f.book)) (of_one (λ x. are_of_one_book g x ≡ false) fs h.0 f later) ∙ rest later

-- a new file is what its book gives
pub record IsNew (seen : SeenParts) (held : List Operation) (files : List FileParts) (form : FormParts) (g : NewFileParts) : Type 0 where
  pub book : List ℕ
  pub of : IsNewOf seen held files form book g

pub is_new : (seen : SeenParts) (held : List Operation) (files : List FileParts) (form : FormParts) (made : List NewFileParts)
    (g : NewFileParts) → new_files seen held files form ≡ Ok made → Contains made g → IsNew seen held files form g
is_new seen held files form made g is there = elim (given_by (new_file_if seen held files form) (books_of held) [] made is g there) [
  | inl none ↦ absurd (none_there g none)
  | inr k ↦ record { book = k.book; of = new_of seen held files form k.book g k.gives }
]

-- the project has each book whole that gets a new file
pub new_are_whole : (seen : SeenParts) (held : List Operation) (files : List FileParts) (form : FormParts) (made : List NewFileParts)
    (g : NewFileParts) → new_files seen held files form ≡ Ok made → Contains made g → is_whole held g.book ≡ true
new_are_whole seen held files form made g is there =
    let new = is_new seen held files form made g is there in ap (is_whole held) new.of.book_is ∙ new.of.whole

-- a new file begins with its book, where the lines of that book's text end in one manner
pub new_begins : (seen : SeenParts) (held : List Operation) (files : List FileParts) (form : FormParts) (made : List NewFileParts)
    (g : NewFileParts) → IsOpSet held → new_files seen held files form ≡ Ok made → Contains made g → HasOneManner (export held g.book)
    → book_begun g.text ≡ Some g.book
new_begins seen held files form made g set is there manner =
    let new = is_new seen held files form made g is there in
    let text = by_file held set new.book new.of.whole (subst (λ (b : List ℕ). HasOneManner (export held b)) new.of.book_is manner)
    (file_of files new.book) in
    ap book_begun new.of.text ∙ text.begun ∙ ap (λ (b : List ℕ). Some b) (sym new.of.book_is)

pub new_files_are_left_so : NewFilesAreLeftSo
new_files_are_left_so seen held files form made g f set is there manner bytes begun =
    let given = is_new seen held files form made g is there in
    let new = given.of in
    let text = by_file held set given.book new.whole (subst (λ (b : List ℕ). HasOneManner (export held b)) new.book_is manner)
    (file_of files given.book) in
    let own : f.bytes ≡ text_for (file_of files given.book) given.book (export held given.book) = bytes ∙ new.text in
    let book : f.book ≡ given.book = cc (sym begun ∙ ap book_begun own ∙ text.begun) in (
      book ∙ sym new.book_is,
      record {
        whole = ap (is_whole held) book ∙ new.whole;
        alike = (λ i. like (export held (book i)) (own i)) ∙ text.alike;
        text = ap is_utf8 own ∙ text.utf8;
        ends = ap (λ (b : List ℕ). are_alike (line_ends (export held b))) (book ∙ sym new.book_is) ∙ manner.ends;
      },
    )

-- a book that a project has whole is one of its books
whole_among : (held : List Operation) (book : List ℕ) → is_whole held book ≡ true
    → list_any (λ b. is_eq (book_cmp book b)) (books_of held) ≡ true
whole_among held book whole =
    tested_rising book_cmp book_total book_exact book (map (λ (o : Operation). o.segment.book) held)
    ∙ any_map (λ b. is_eq (book_cmp book b)) (λ (o : Operation). o.segment.book) held
    ∙ any_weaker (of_book book) (λ (o : Operation). is_eq (book_cmp book o.segment.book))
    (λ o h. ap (λ (b : List ℕ). is_eq (book_cmp book b)) (same_bytes-is o.segment.book book h)
    ∙ ap is_eq (tied_itself book_total book)) held
    (and_parts (has_book held book) _ whole).0

-- Such a book has a file, or gets a new one.
abbrev pub GetsFile : List FileParts → List NewFileParts → List ℕ → Type 0
GetsFile files made book =
    ((f : FileParts) × (file_of files book ≡ Some f))
    ⊎ ((g : NewFileParts) × Contains made g × (g.book ≡ book))

pub gets_file : (seen : SeenParts) (held : List Operation) (files : List FileParts) (form : FormParts) (made : List NewFileParts)
    (book : List ℕ) → new_files seen held files form ≡ Ok made → is_whole held book ≡ true → GetsFile files made book
gets_file seen held files form made book is whole = by (file_of files book) refl
  where
    among : list_any (λ b. is_eq (book_cmp book b)) (books_of held) ≡ true
    among = whole_among held book whole

    gives : file_of files book ≡ None → new_file_if seen held files form book
        ≡ (new_name seen form book None >>= λ name. Ok (Some (new_file None book (export held book) name)))
    gives e =
        ap (λ b. cond b (file_by_text seen files form book (export held book)) (Ok None)) whole
        ∙ ap (λ (r : Option FileParts). cond (is_like_file r (export held book)) (Ok None)
        (new_name seen form book r >>= λ name. Ok (Some (new_file r book (export held book) name)))) e

    new : file_of files book ≡ None → (r : Result (List ℕ) Refusal) → new_name seen form book None ≡ r → GetsFile files made book
    new e (Err refusal) f =
        absurd (none_refused (new_file_if seen held files form) (books_of held) [] made is book among refusal
        (gives e ∙ ap (λ r. r >>= λ name. Ok (Some (new_file None book (export held book) name))) f))
    new e (Ok name) f =
        let g : NewFileParts = new_file None book (export held book) name in
        inr (
          g,
          all_gathered (new_file_if seen held files form) (books_of held) [] made is book among g
              (gives e ∙ ap (λ r. r >>= λ name. Ok (Some (new_file None book (export held book) name))) f),
          refl,
        )

    by : (r : Option FileParts) → file_of files book ≡ r → GetsFile files made book
    by None e = new e (new_name seen form book None) refl
    by (Some f) e = inl (f, e)

pub other_files_are_left_so : OtherFilesAreLeftSo
other_files_are_left_so seen held files form made f is distinct there whole utf8 manner = by (like (export held f.book) f.bytes) refl
  where
    New : Type 0
    New = (g : NewFileParts) × Contains made g × (g.book ≡ f.book) × (g.name ≡ f.name)

    file : file_of files f.book ≡ Some f
    file = file_is seen held files form files f distinct there

    among : list_any (λ b. is_eq (book_cmp f.book b)) (books_of held) ≡ true
    among = whole_among held f.book whole

    gives : (r : Option FileParts) → file_of files f.book ≡ r → new_file_if seen held files form f.book
        ≡ cond (is_like_file r (export held f.book)) (Ok None)
        (new_name seen form f.book r >>= λ name. Ok (Some (new_file r f.book (export held f.book) name)))
    gives r e =
        ap (λ b. cond b (file_by_text seen files form f.book (export held f.book)) (Ok None)) whole
        ∙ ap (λ (r : Option FileParts). cond (is_like_file r (export held f.book)) (Ok None)
        (new_name seen form f.book r >>= λ name. Ok (Some (new_file r f.book (export held f.book) name)))) e

    by : (b : Bool) → like (export held f.book) f.bytes ≡ b → New ⊎ IsSyncedFile held f
    by true e = inr (record { whole = whole; alike = e; text = utf8; ends = manner.ends })
    by false e =
        let g : NewFileParts = new_file (Some f) f.book (export held f.book) f.name in
        inl (
          g,
          all_gathered (new_file_if seen held files form) (books_of held) [] made is f.book among g
              (gives (Some f) file ∙ ap (λ b. cond b (Ok None) (Ok (Some g))) e),
          refl,
          refl,
        )
