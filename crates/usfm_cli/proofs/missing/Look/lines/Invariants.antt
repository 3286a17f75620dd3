use Rattle.std.proofs.Common.{◌≡◌, take}
use Rattle.std.specs.List.{flat_map}
use Rattle.versification.specs.Views.{verses_in}
use Rattle.usfm_cli.specs.Missing.{text_lines, text_of}
use Rattle.usfm_cli.proofs.missing.Look.lines.Given as goal

-- the lines of the books so far
abbrev pub invariant-loop-book : goal.invariant-loop-book
invariant-loop-book l =
    let v = verses_in l.self.versification.now in
    l.bytes.items
    ≡ flat_map (λ book. text_lines v l.self.parts.now l.self.all book (text_of l.replica.held book)) (take l.book-index l.book-items)
