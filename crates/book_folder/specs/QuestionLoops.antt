-- What is left of a walk over the segments for which a file is asked about.
use Rattle.std.specs.Prelude.{List, map}
use Rattle.book_folder.specs.Questions.{SegmentParts, segment_asked}
use Rattle.book_folder.specs.declared.questions.AskedSegments.{AskedSegments}

-- the segments that are not given yet
abbrev pub segments_left : AskedSegments → List SegmentParts
segments_left s = map (segment_asked s.base s.book) s.left.now
