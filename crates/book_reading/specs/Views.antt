-- What a contract sees of a reading: its runs, and not where their texts lie in memory.
use Rattle.std.specs.Prelude.{List, map}
use Rattle.book_reading.specs.Blocks.{BlockParts, NoteParts, blocks_of, notes_of}
use Rattle.book_reading.specs.Chapters.{chapters_of}
use Rattle.book_reading.specs.Readings.{RunParts}
use Rattle.book_reading.specs.declared.blocks.Block.{Block}
use Rattle.book_reading.specs.declared.blocks.Blocks.{Blocks}
use Rattle.book_reading.specs.declared.chapters.Chapter.{Chapter}
use Rattle.book_reading.specs.declared.chapters.Chapters.{Chapters}
use Rattle.book_reading.specs.declared.notes.Note.{Note}
use Rattle.book_reading.specs.declared.notes.Notes.{Notes}
use Rattle.book_reading.specs.declared.reading.Reading.{Reading}
use Rattle.book_reading.specs.declared.run.Run.{Run}

-- a run, with its bytes
abbrev pub run_view : Run → RunParts
run_view r = record { sort = r.sort; style = r.style.now; note = r.note; text = r.text.now }

-- runs, each with its bytes
abbrev pub runs_view : List Run → List RunParts
runs_view rs = map run_view rs

-- the runs of a reading
abbrev pub runs_in : Reading → List RunParts
runs_in reading = runs_view reading.runs.items

-- the runs of a chapter
abbrev pub chapter_view : Chapter → List RunParts
chapter_view c = runs_view c.runs.now

-- the chapters that an iterator has left
abbrev pub chapters_left : Chapters → List (List RunParts)
chapters_left c = chapters_of (runs_view c.rest.now)

-- a block, with its runs
abbrev pub block_view : Block → BlockParts
block_view b = record { kind = b.kind; runs = runs_view b.runs.now }

-- the blocks that an iterator has left
abbrev pub blocks_left : Blocks → List BlockParts
blocks_left b = blocks_of (runs_view b.rest.now)

-- a note, with its runs
abbrev pub note_view : Note → NoteParts
note_view n = record { number = n.number; runs = runs_view n.runs.now }

-- the notes that an iterator has left
abbrev pub notes_left : Notes → List NoteParts
notes_left n = notes_of (runs_view n.rest.now)
