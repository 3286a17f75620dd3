use Rattle.std.proofs.Common.{◌≡◌, ◌++◌, ℕ, List, Option, length, map, option_map}
use Rattle.std.specs.List.{filter_map}
use Rattle.book_folder.specs.ByBook.{under}
use Rattle.book_folder.specs.Naming as naming
use Rattle.book_folder.specs.Wanted.{NamedParts}
use Rattle.book_folder.proofs.names.in_order.Given as goal

abbrev pub invariant-books : goal.invariant-books
invariant-books l =
    let first : List ℕ → Option NamedParts = λ book. option_map (λ n. naming.named book n.now.name.now) (under l.firsts book) in
    map naming.book_name_view l.ordered.items ++ filter_map first l.left
    ≡ filter_map first (naming.books_named (map naming.book_name_view l.names))

abbrev pub decreases-books : goal.decreases-books
decreases-books l = length l.left
