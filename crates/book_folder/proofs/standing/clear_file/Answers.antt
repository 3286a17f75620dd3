use Rattle.std.proofs.lemmas.List.{map-set}
use Rattle.book_folder.specs.Wanted.{found_view}
use Rattle.book_folder.proofs.standing.clear_file.Goals as goal

pub returns-then-at-len : goal.returns-then-at-len
returns-then-at-len c = map-set found_view c.args.files.now.items c.args.at _
