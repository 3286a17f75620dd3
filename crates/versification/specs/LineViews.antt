-- What a contract sees of what a line says.
use Rattle.versification.specs.Lines.{Said, passed, last_of, without}
use Rattle.versification.specs.declared.line.Line.{Line}
use Rattle.versification.specs.declared.line.Line.TheVariants as line

-- what a line says: a book's verses by their list
abbrev pub line_view : Line → Said
line_view line.Passed = passed
line_view (line.LastVerses book verses) = last_of book verses.items
line_view (line.LeftOut segment) = without segment
