use Rattle.std.proofs.Common.{◌∙◌, ap, map, sym, Option, Bor, List, ℕ}
use Rattle.std.specs.Option.{option_map}
use Rattle.usfm_ref.specs.Books.{same_bytes}
use Rattle.book_folder.specs.Files.{FileParts, file_view, files_view}
use Rattle.book_folder.specs.Wanted.{named_view}
use Rattle.book_folder.specs.declared.files.BookFile.{BookFile}
use Rattle.book_folder.proofs.FirstsLaws.{is_still_first, has_name}
use Rattle.book_folder.proofs.folder.is_still.Goals as goal

abbrev seen_file : Option (Bor BookFile) → Option FileParts
seen_file = option_map (λ f. file_view f.now)

pub returns-in-Some : goal.returns-in-Some
returns-in-Some c =
    let named = named_view c.args.named.now in
    let files = files_view c.args.folder.now.files.now in
    c.eq.ensures
    ∙ ap (λ (n : List ℕ). same_bytes c.in-Some.file.now.name.now n) c.as_str.ensures.value
    ∙ ap (has_name named.name) (sym (ap seen_file c.in-Some.is) ∙ c.file_of.ensures)
    ∙ sym (is_still_first (map named_view c.args.folder.now.seen.names.now) files c.requires named)

pub returns-in-None : goal.returns-in-None
returns-in-None c =
    let named = named_view c.args.named.now in
    let files = files_view c.args.folder.now.files.now in
    ap (has_name named.name) (sym (ap seen_file c.in-None.is) ∙ c.file_of.ensures)
    ∙ sym (is_still_first (map named_view c.args.folder.now.seen.names.now) files c.requires named)
