use Rattle.std.proofs.Common.{Bor, List, ℕ}
use Rattle.std.proofs.lemmas.List.{map-set}
use Rattle.book_folder.proofs.standing.clear_name.Goals as goal

pub returns-then-at-len : goal.returns-then-at-len
returns-then-at-len c = map-set {A = Bor (List ℕ)} {B = List ℕ} (λ name. name.now) c.args.names.now.items c.args.at _
