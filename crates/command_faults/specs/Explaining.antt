-- What a person reads of a fault (this project's own rule): the sentences of
-- `src/sentences.rt`, `src/merge_sentences.rt`, `src/seal_sentences.rt` and
-- `src/setup_sentences.rt`, each by its name.
use Rattle.std.specs.Prelude.{ℕ, List, [], ◌∷◌, ◌++◌, Option, Some, None}
use Rattle.std.specs.Fmt.{decimal}
use Rattle.usfm_ref.specs.declared.fault.RefFault.TheVariants.{BadBook, BadRef}
use Rattle.op_core.specs.declared.fault.IdFault.TheVariants.{BadName, BadOpId}
use Rattle.bundle_codec.specs.declared.fault.BundleFault.{BundleFault}
use Rattle.bundle_codec.specs.declared.fault.BundleFault.TheVariants as bundle
use Rattle.command_faults.specs.declared.fault.Fault.{Fault}
use Rattle.command_faults.specs.declared.fault.Fault.TheVariants.{Memory, NotText, Reference, NoId}
use Rattle.command_faults.specs.declared.fault.Fault.TheVariants.{FieldBeforeMarker, EmptyMarker}
use Rattle.command_faults.specs.declared.fault.Fault.TheVariants.{BadVersification, BadAnswers}
use Rattle.command_faults.specs.declared.fault.Fault.TheVariants.{BadStyleType, Naming, Clash, Bundle}
use Rattle.command_faults.specs.declared.fault.Fault.TheVariants.{Trailing, BadSummary, BadSeal, BadSegment}
use Rattle.command_faults.specs.declared.fault.Fault.TheVariants.{NumbersUsedUp, NoBook, NotShown, LeftOut}
use Rattle.command_faults.specs.declared.fault.Fault.TheVariants.{WriteFailed, EmptyNeedle, BadProject}
use Rattle.command_faults.specs.declared.fault.Fault.TheVariants.{ReadFailed, TooLong, FileFailed}
use Rattle.command_faults.specs.declared.fault.Fault.TheVariants.{FileChanged, Emptied, Undone}
use Rattle.command_faults.specs.declared.fault.Fault.TheVariants.{Unlike, SettledEarly}
use Rattle.command_faults.specs.declared.circumstances.Circumstances.{Circumstances}
use Rattle.command_faults.specs.declared.circumstances.Expected.{Expected}
use Rattle.command_faults.specs.declared.circumstances.Expected.TheVariants as expected
use Rattle.command_faults.specs.declared.circumstances.Found.{Found}
use Rattle.command_faults.specs.declared.circumstances.Found.TheVariants as found
use Rattle.command_faults.specs.declared.explanation.Explanation.{Explanation}
use Rattle.command_faults.specs.declared.explanation.Explanation.TheVariants.{Sentences, InCapitals, IdInLine}
use Rattle.command_faults.specs.declared.book_fronts.Slip.{Slip}
use Rattle.command_faults.specs.declared.book_fronts.Slip.TheVariants.{SmallLetters, Blanks, LaterLine}
use Rattle.command_faults.specs.declared.answers.TheConstants as say_of_answers
use Rattle.command_faults.specs.declared.sentences.TheConstants as say
use Rattle.command_faults.specs.declared.merge_sentences.TheConstants as merge
use Rattle.command_faults.specs.declared.seal_sentences.TheConstants as seal
use Rattle.command_faults.specs.declared.setup_sentences.TheConstants as set

-- the lines of an explanation
abbrev pub explanation_text : Explanation → List ℕ
explanation_text (Sentences text) = text.now ++ 10 ∷ []
explanation_text (InCapitals book) = say.IN_CAPITALS.now ++ book ++ 10 ∷ []
explanation_text (IdInLine line) = say.ID_IN_LINE.now ++ decimal line ++ say.TAKE_OUT.now ++ 10 ∷ []

-- the sentences of a fault of a bundle
abbrev pub of_bundle : BundleFault → List ℕ
of_bundle bundle.Memory = say.MEMORY.now
of_bundle bundle.Magic = say.NO_BUNDLE.now
of_bundle bundle.Truncated = say.TRUNCATED.now
of_bundle (bundle.NotRising at) = say.NOT_RISING.now
of_bundle (bundle.BadId at) = say.BAD_OPERATION.now
of_bundle (bundle.BadKey at) = say.BAD_KEY.now
of_bundle (bundle.BadReplaced at) = say.BAD_REPLACED.now
of_bundle (bundle.BadTag at) = say.BAD_TAG.now
of_bundle (bundle.NotUtf8 at) = say.TEXT_NOT_UTF8.now
of_bundle (bundle.BadText at) = say.BAD_TEXT.now
of_bundle (bundle.Unsupported at) = say.UNSUPPORTED.now

-- the sentences of a fault of which nothing more is known
abbrev pub general : Fault → List ℕ
general Memory = say.MEMORY.now
general (NotText valid) = say.NOT_TEXT.now
general (Reference BadBook) = say.NO_CODE.now
general (Reference BadRef) = say.NO_REFERENCE.now
general NoId = say.NO_ID.now
general (FieldBeforeMarker line) = say.FIELD_BEFORE_MARKER.now
general (EmptyMarker line) = say.EMPTY_MARKER.now
general (BadStyleType line) = say.BAD_STYLE_TYPE.now
general (BadVersification line) = say.BAD_VERSIFICATION.now
general (Naming BadName) = say.BAD_NAME.now
general (Naming BadOpId) = say.BAD_ID.now
general (Clash id) = say.CLASH.now
general (Bundle fault) = of_bundle fault
general Trailing = say.TRAILING.now
general BadSummary = say.NO_SUMMARY.now
general BadSeal = seal.BAD_SEAL.now
general BadSegment = say.BAD_SEGMENT.now
general NumbersUsedUp = say.NUMBERS_USED_UP.now
general NoBook = say.NO_BOOK.now
general (NotShown id) = say.NOT_SHOWN.now
general (LeftOut id) = say.LEFT_OUT.now
general (BadAnswers line) = say_of_answers.BAD_ANSWERS.now
general (WriteFailed gone) = say.WRITE_FAILED.now
general EmptyNeedle = say.EMPTY_NEEDLE.now
general BadProject = say.NO_PROJECT.now
general ReadFailed = say.READ_FAILED.now
general TooLong = say.TOO_LONG.now
general FileFailed = say.FILE_FAILED.now
general FileChanged = say.FILE_CHANGED.now
general (Emptied count) = say.EMPTIED.now
general (Undone count) = say.UNDONE.now
general (Unlike count) = say.UNLIKE.now
general SettledEarly = say.SETTLED_EARLY.now

-- of bytes that are no bundle, by what they are
abbrev pub no_bundle : Found → List ℕ
no_bundle found.BookFile = say.BOOK_NOT_BUNDLE.now
no_bundle found.Project = say.PROJECT_NOT_BUNDLE.now
no_bundle found.Summary = say.SUMMARY_NOT_BUNDLE.now
no_bundle found.Newer = say.NEWER.now
no_bundle _ = say.NO_BUNDLE.now

-- of what is damaged, if it is not of a newer version
abbrev pub of_damaged : Found → List ℕ → List ℕ
of_damaged found.Newer _ = say.NEWER.now
of_damaged _ damaged = damaged

-- of a bundle's fault, by what the file was to be
abbrev pub of_bytes : BundleFault → Expected → Found → List ℕ
of_bytes _ expected.Project stands = of_damaged stands say.DAMAGED_PROJECT.now
of_bytes _ expected.Kept stands = of_damaged stands say.DAMAGED_BASE.now
of_bytes bundle.Magic _ stands = no_bundle stands
of_bytes fault _ _ = of_bundle fault

-- of a file that is to be a book's, by what it is
abbrev pub no_book : Fault → Found → List ℕ
no_book _ found.Bundle = say.BUNDLE_NOT_BOOK.now
no_book _ found.Project = say.PROJECT_NOT_BOOK.now
no_book _ found.Summary = say.SUMMARY_NOT_BOOK.now
no_book _ found.Newer = say.NEWER.now
no_book fault _ = general fault

-- of a file that is to be a project's, by what it is
abbrev pub no_project : Found → List ℕ
no_project found.Bundle = say.BUNDLE_NOT_PROJECT.now
no_project found.BookFile = say.BOOK_NOT_PROJECT.now
no_project found.Summary = say.SUMMARY_NOT_PROJECT.now
no_project found.Newer = say.NEWER.now
no_project _ = say.NO_PROJECT.now

-- of a file that is to be a summary, by what it is
abbrev pub no_summary : Found → List ℕ
no_summary found.Bundle = say.BUNDLE_NOT_SUMMARY.now
no_summary found.Newer = say.NEWER.now
no_summary _ = say.NO_SUMMARY.now

-- of a folder that was not read, with what is said where something else stands there
abbrev pub unread_folder : Found → List ℕ → List ℕ
unread_folder found.Unseen _ = say.READ_FAILED.now
unread_folder found.Folder _ = say.FOLDER_UNREADABLE.now
unread_folder found.Nothing _ = say.NO_FOLDER_THERE.now
unread_folder found.NoFolder _ = say.NO_FOLDER_THERE.now
unread_folder _ other = other

-- of a file that was not read, with what is said where nothing stands there
abbrev pub unread_file : Found → List ℕ → List ℕ
unread_file found.Nothing missing = missing
unread_file found.NoFolder missing = missing
unread_file found.Folder _ = say.IS_FOLDER.now
unread_file _ _ = say.READ_FAILED.now

-- of what was not read, by what it was to be
abbrev pub unread : Expected → Found → List ℕ
unread expected.Folder stands = unread_folder stands say.IS_FILE.now
unread expected.Box stands = unread_folder stands say.BOX_IS_FILE.now
unread expected.Project stands = unread_file stands say.NO_PROJECT_THERE.now
unread expected.OwnFolder _ = say.OWN_UNREADABLE.now
unread expected.Setup stands = unread_file stands set.NOT_SET_UP.now
unread expected.Day stands = unread_file stands set.NO_DAY.now
unread expected.DayFolder _ = set.NO_DAY_FOLDER.now
unread expected.Older stands = unread_file stands set.NO_OLDER.now
unread expected.Typed _ = say.CUT_LINE.now
unread _ stands = unread_file stands say.NOTHING_THERE.now

-- of a project that was not begun, by what stands there
abbrev pub not_begun : Found → List ℕ
not_begun found.Unseen = say.FILE_FAILED.now
not_begun found.Nothing = say.FILE_FAILED.now
not_begun found.NoFolder = say.NO_FOLDER_FOR_IT.now
not_begun found.Folder = say.FOLDER_IS_THERE.now
not_begun _ = say.IS_THERE.now

-- of a copy's own bundle in a box that was not left there: by what stands there
abbrev pub not_left : Found → List ℕ
not_left found.Project = say.NOT_OWN_BUNDLE.now
not_left found.Summary = say.NOT_OWN_BUNDLE.now
not_left found.BookFile = say.NOT_OWN_BUNDLE.now
not_left found.Newer = say.NEWER.now
not_left _ = say.BUNDLE_NOT_LEFT.now

-- of a text that is refused: by what it is where it is to be a book's file
abbrev pub of_file : Fault → Expected → Found → List ℕ
of_file fault expected.BookFile stands = no_book fault stands
of_file fault _ _ = general fault

-- of a file that was not written: by what stands there where it is to be a project, or the copy's
-- own bundle in a box; of a book's file that all else is done; of a merge's file that the book was
-- not written into it; of a folder that is to be set up, that it is; of a path that it cannot be
-- remembered; of a box or a folder that it is none
abbrev pub unwritten : Expected → Found → List ℕ
unwritten expected.NewProject stands = not_begun stands
unwritten expected.HalfProject _ = say.HALF_IS_THERE.now
unwritten expected.OwnBundle stands = not_left stands
unwritten expected.BookFile _ = say.FILE_NOT_WRITTEN.now
unwritten expected.Side _ = merge.SIDE_NOT_WRITTEN.now
unwritten expected.NewSetup _ = set.SETUP_IS_THERE.now
unwritten expected.Remembered _ = set.NOT_REMEMBERED.now
unwritten expected.BoxInFolder _ = set.BOX_IN_FOLDER.now
unwritten expected.BoxWithBooks _ = set.BOX_HAS_BOOKS.now
unwritten expected.FolderOfBundles _ = set.FOLDER_IS_BOX.now
unwritten _ _ = say.FILE_FAILED.now

-- of two edits that have one id: a bundle may be damaged
abbrev pub clashing : Expected → List ℕ
clashing expected.Bundle = say.CLASH_IN_BUNDLE.now
clashing _ = say.CLASH.now

-- of what follows a bundle
abbrev pub trailing : Expected → List ℕ
trailing expected.Project = say.DAMAGED_PROJECT.now
trailing expected.Kept = say.DAMAGED_BASE.now
trailing _ = say.TRAILING.now

-- of a word that is to be, or to hold, a book's code
abbrev pub no_code : Expected → List ℕ
no_code expected.NewName = say.NO_FORM.now
no_code _ = say.NO_CODE.now

-- of a name that no copy can have, or that another one has
abbrev pub bad_name : Expected → List ℕ
bad_name expected.NameInUse = set.NAME_IN_USE.now
bad_name _ = say.BAD_NAME.now

-- of a file of a folder that would lose text, by what is known of it: that the book has another one,
-- that it was another book's, that it is a side of a merge of another book, that nothing says what it
-- was written from, that another book is to get its name, or that it is not as a book's file is; or of
-- what a folder remembers that it is damaged
abbrev pub changed : Expected → List ℕ
changed expected.OneOfTwo = say.SECOND_FILE.now
changed expected.Renamed = say.FILE_RENAMED.now
changed expected.Side = merge.SIDE_OF_OTHER_BOOK.now
changed expected.Unbased = say.FILE_UNBASED.now
changed expected.NewFile = say.NAME_TAKEN.now
changed expected.NoBook = say.FILE_NO_BOOK.now
changed expected.NotRead = say.FILE_NOT_READ.now
changed expected.OwnFolder = say.OWN_NOT_FOLDER.now
changed expected.Setup = set.SETUP_DAMAGED.now
changed _ = say.FILE_CHANGED.now

-- of what has nothing in common with a project: a bundle, or what a folder's files were written from
abbrev pub unlike : Expected → List ℕ
unlike expected.Kept = say.UNLIKE_FOLDER.now
unlike _ = say.UNLIKE.now

-- the sentences of a fault, by what its file was to be and what stands there
abbrev pub sentences : Fault → Expected → Found → List ℕ
sentences (Bundle fault) role stands = of_bytes fault role stands
sentences (Clash id) role _ = clashing role
sentences Trailing role _ = trailing role
sentences (Reference BadBook) role _ = no_code role
sentences (Naming BadName) role _ = bad_name role
sentences (NotText valid) role stands = of_file (NotText valid) role stands
sentences NoId role stands = of_file NoId role stands
sentences BadProject _ stands = no_project stands
sentences BadSummary _ stands = no_summary stands
sentences ReadFailed role stands = unread role stands
sentences FileFailed role stands = unwritten role stands
sentences FileChanged role _ = changed role
sentences (Unlike count) role _ = unlike role
sentences fault _ _ = general fault

-- of what is no book's code: in capitals that of the book that is meant, or that one blank is
-- enough, or else by what it was to be
abbrev pub of_code : Option Slip → Expected → List ℕ
of_code (Some (SmallLetters book)) _ = say.IN_CAPITALS.now ++ book ++ 10 ∷ []
of_code (Some Blanks) _ = say.ONE_SPACE.now ++ 10 ∷ []
of_code other role = no_code role ++ 10 ∷ []

-- of a text that does not begin with `\id`: the line that does, or else by what it is
abbrev pub of_no_id : Option Slip → Expected → Found → List ℕ
of_no_id (Some (LaterLine line)) _ _ =
    say.ID_IN_LINE.now ++ decimal line ++ say.TAKE_OUT.now ++ 10 ∷ []
of_no_id other role stands = of_file NoId role stands ++ 10 ∷ []

-- the lines that a person reads of a fault: what is wrong with how a book's code is written, or
-- where `\id` stands, else the sentences
abbrev pub explained : Fault → Circumstances → List ℕ
explained (Reference BadBook) known = of_code known.slip known.expected
explained NoId known = of_no_id known.slip known.expected known.found
explained fault known = sentences fault known.expected known.found ++ 10 ∷ []
