-- Streams whose bundles are refused, and what an answer for bundles says of the stream that gave them.
use Rattle.std.proofs.Common.{ℕ, ◌<◌, ◌≤◌, List, [], ◌∷◌, length, Option, Result, Ok, Err, IsOk, inl, inr, arith, refl, ap}
use Rattle.std.specs.Io.KnownBytes.{IsAtEnd}
use Rattle.usfm_cli.specs.Folding.{AnswersBundles, AnswersStream, FoldingTakesMemory}
use Rattle.byte_source.specs.Reading.{most_bytes}
use Rattle.usfm_cli.specs.Streams.{UnionAnswers, union_within, book_from, book_of_stream}
use Rattle.command_faults.specs.declared.fault.Fault.{Fault}
use Rattle.command_faults.specs.declared.fault.Fault.TheVariants.{Memory, NotText, Reference, NoId, FieldBeforeMarker, EmptyMarker, BadStyleType, BadVersification, Naming, Clash, Bundle, Trailing, BadSummary, BadSeal, BadSegment, NumbersUsedUp, NoBook, NotShown, LeftOut, BadAnswers, WriteFailed, EmptyNeedle, BadProject, ReadFailed, TooLong, FileFailed, FileChanged, Emptied, Undone, Unlike, SettledEarly}
use Rattle.usfm_cli.proofs.Unions.{taken_of_some}

-- what is answered where the union of bundles is refused, and nothing is written
pub refused_bundles : (book input : List ℕ) (sink : Option (List ℕ)) (fault : Fault) → UnionAnswers input (Err fault)
    → AnswersBundles book input sink sink (Err fault)
refused_bundles book input sink Memory u = (inl u, refl)
refused_bundles book input sink (Clash id) u = (ap (book_from book) u, refl)
refused_bundles book input sink (Bundle fault) u = (ap (book_from book) u, refl)
refused_bundles book input sink (NotText valid) u = absurd u
refused_bundles book input sink (Reference fault) u = absurd u
refused_bundles book input sink NoId u = absurd u
refused_bundles book input sink (FieldBeforeMarker line) u = absurd u
refused_bundles book input sink (EmptyMarker line) u = absurd u
refused_bundles book input sink (BadStyleType line) u = absurd u
refused_bundles book input sink (BadVersification line) u = absurd u
refused_bundles book input sink (Naming fault) u = absurd u
refused_bundles book input sink Trailing u = absurd u
refused_bundles book input sink BadSummary u = absurd u
refused_bundles book input sink BadSeal u = absurd u
refused_bundles book input sink BadSegment u = absurd u
refused_bundles book input sink NumbersUsedUp u = absurd u
refused_bundles book input sink NoBook u = absurd u
refused_bundles book input sink (NotShown id) u = absurd u
refused_bundles book input sink (LeftOut id) u = absurd u
refused_bundles book input sink (BadAnswers line) u = absurd u
refused_bundles book input sink (WriteFailed gone) u = absurd u
refused_bundles book input sink EmptyNeedle u = absurd u
refused_bundles book input sink BadProject u = absurd u
refused_bundles book input sink ReadFailed u = absurd u
refused_bundles book input sink TooLong u = absurd u
refused_bundles book input sink FileFailed u = absurd u
refused_bundles book input sink FileChanged u = absurd u
refused_bundles book input sink (Emptied count) u = absurd u
refused_bundles book input sink (Undone count) u = absurd u
refused_bundles book input sink (Unlike count) u = absurd u
refused_bundles book input sink SettledEarly u = absurd u

-- no bytes give a book, and memory is taken to fold some bytes alone
some_book : (book given : List ℕ) → IsOk (book_of_stream book given) → 0 < length given
unfolding union_within
some_book book [] is = cc is
some_book book (b ∷ given) is = omega arith

folded_of_some : (book given : List ℕ) → FoldingTakesMemory book given → 0 < length given
folded_of_some book given (inl taken) = taken_of_some 0 [] given taken
folded_of_some book given (inr is) = some_book book given is

-- what is answered for bundles is answered for the stream that gave them
pub of_stream : (book given : List ℕ) (left before after : Option (List ℕ)) (answer : Result (Unit {0}) Fault)
    → length given ≤ most_bytes → IsAtEnd left → AnswersBundles book given before after answer
    → AnswersStream book given left before after answer
of_stream book given left before after (Ok done) w e h = (w, e, h)
of_stream book given left before after (Err Memory) w e h = (folded_of_some book given h.0, w, h.1)
of_stream book given left before after (Err (Clash id)) w e h = (w, e, h)
of_stream book given left before after (Err (Bundle fault)) w e h = (w, e, h)
of_stream book given left before after (Err (NotText valid)) w e h = (w, e, h)
of_stream book given left before after (Err (Reference fault)) w e h = (w, e, h)
of_stream book given left before after (Err NoId) w e h = (w, e, h)
of_stream book given left before after (Err (FieldBeforeMarker line)) w e h = (w, e, h)
of_stream book given left before after (Err (EmptyMarker line)) w e h = (w, e, h)
of_stream book given left before after (Err (BadStyleType line)) w e h = (w, e, h)
of_stream book given left before after (Err (BadVersification line)) w e h = (w, e, h)
of_stream book given left before after (Err (Naming fault)) w e h = (w, e, h)
of_stream book given left before after (Err Trailing) w e h = (w, e, h)
of_stream book given left before after (Err BadSummary) w e h = (w, e, h)
of_stream book given left before after (Err BadSeal) w e h = (w, e, h)
of_stream book given left before after (Err BadSegment) w e h = (w, e, h)
of_stream book given left before after (Err NumbersUsedUp) w e h = (w, e, h)
of_stream book given left before after (Err NoBook) w e h = (w, e, h)
of_stream book given left before after (Err (NotShown id)) w e h = (w, e, h)
of_stream book given left before after (Err (LeftOut id)) w e h = (w, e, h)
of_stream book given left before after (Err (BadAnswers line)) w e h = (w, e, h)
of_stream book given left before after (Err (WriteFailed gone)) w e h = (w, e, h)
of_stream book given left before after (Err EmptyNeedle) w e h = (w, e, h)
of_stream book given left before after (Err BadProject) w e h = (w, e, h)
of_stream book given left before after (Err ReadFailed) w e h = absurd h
of_stream book given left before after (Err TooLong) w e h = absurd h
of_stream book given left before after (Err FileFailed) w e h = (w, e, h)
of_stream book given left before after (Err FileChanged) w e h = (w, e, h)
of_stream book given left before after (Err (Emptied count)) w e h = (w, e, h)
of_stream book given left before after (Err (Undone count)) w e h = (w, e, h)
of_stream book given left before after (Err (Unlike count)) w e h = (w, e, h)
of_stream book given left before after (Err SettledEarly) w e h = (w, e, h)
