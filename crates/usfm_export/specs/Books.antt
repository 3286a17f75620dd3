-- What a call that exports a book answers, and what it leaves of its sink (this project's own
-- rule). The book's bytes are its export.
use Rattle.std.specs.Prelude.{◌≡◌, ℕ, true, false, List, ◌∷◌, Option, Result, Ok, Err, Vec}
use Rattle.std.specs.Io.KnownBytes.{Appends}
use Rattle.std.specs.Str.{IsUtf8}
use Rattle.usfm_ref.specs.Keys.{book_head}
use Rattle.verse_cut.specs.Pieces.{pieces_of}
use Rattle.verse_cut.specs.Joins.{filled, at_book_head, pieces_from}
use Rattle.op_core.specs.Ops.{Operation}
use Rattle.op_core.specs.Sets.{IsOpSet}
use Rattle.op_core.specs.Export.{has_book, export}
use Rattle.op_core.specs.CutsBack.{picked_at, later_texts}
use Rattle.usfm_export.specs.Counts.{one_more}
use Rattle.usfm_export.specs.Writing.{TakesFront}
use Rattle.usfm_export.specs.declared.fault.ExportFault.{ExportFault}
use Rattle.usfm_export.specs.declared.fault.ExportFault.TheVariants as writing
use Rattle.usfm_export.specs.declared.fault.TextFault.{TextFault}
use Rattle.usfm_export.specs.declared.fault.TextFault.TheVariants as texts

-- The text is the export of a book of a set. It is UTF-8, and cuts back into the picked text of the
-- book's head, perhaps empty, and then each other picked text that is not empty, with its key.
pub record IsBookOf (held : List Operation) (book text : List ℕ) : Type 0 where
  pub set : IsOpSet held
  pub text_is : text ≡ export held book
  pub is_text : IsUtf8 text
  pub cuts_back : pieces_of text ≡ pieces_from 0
      (at_book_head (picked_at held book book_head) ∷ filled (later_texts held book))

-- What an answer says of a book that is to be written, and of what the sink took: all of it, the
-- front of it whose length is answered, or nothing exactly where the book has no operation.
abbrev pub AnswersBook : List Operation → List ℕ → Option (List ℕ) → Option (List ℕ)
    → Result (Unit {0}) ExportFault → Type 0
AnswersBook held book before after (Ok done) =
    (has_book held book ≡ true) × Appends before after (export held book)
AnswersBook held book before after (Err writing.NoBook) =
    (has_book held book ≡ false) × (after ≡ before)
AnswersBook held book before after (Err (writing.WriteFailed gone)) =
    (has_book held book ≡ true) × TakesFront before after (export held book) 0 gone

-- the sink's failures after the call: one more exactly where the call answers that the writer
-- failed
abbrev pub sink_failures : Result (Unit {0}) ExportFault → ℕ → ℕ
sink_failures (Ok done) failures = failures
sink_failures (Err writing.NoBook) failures = failures
sink_failures (Err (writing.WriteFailed gone)) failures = one_more failures

-- What an answer says of a book whose text is asked for: its bytes, or that it has no operation; or
-- out of memory, where it has one.
abbrev pub AnswersText : {A : Type 0} → List Operation → List ℕ → Result (Vec ℕ A) TextFault
    → Type 0
AnswersText held book (Ok text) = (has_book held book ≡ true) × IsBookOf held book text.items
AnswersText held book (Err texts.NoBook) = has_book held book ≡ false
AnswersText held book (Err texts.Memory) = has_book held book ≡ true
