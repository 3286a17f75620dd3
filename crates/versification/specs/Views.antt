-- What a contract sees of a versification.
use Rattle.std.specs.Prelude.{◌≡◌, [], Result, Ok, Err}
use Rattle.std.specs.Option.{unwrap_or}
use Rattle.versification.specs.Loops.Tables.{under, has}
use Rattle.versification.specs.Versifications.{Verses}
use Rattle.versification.specs.declared.fault.VersificationFault.{VersificationFault}
use Rattle.versification.specs.declared.fault.VersificationFault.TheVariants.{Memory, BadLine}
use Rattle.versification.specs.declared.versification.Versification.{Versification}

-- its books, their last verses, and which verses it leaves out
abbrev pub verses_in : Versification → Verses
verses_in v = record {
  books = v.named.items;
  last_verses = λ book. unwrap_or (under v.books book) [];
  leaves_out = has v.left_out;
}

-- what a reading answers: what is to be read; out of memory alone says nothing of it
abbrev pub Gives : Result Versification VersificationFault → Result Verses VersificationFault
    → Type 0
Gives (Ok v) read = read ≡ Ok (verses_in v)
Gives (Err Memory) read = Unit {0}
Gives (Err (BadLine n)) read = read ≡ Err (BadLine n)
