-- Laws of setups (this project's own format).
use Rattle.std.specs.Prelude.{◌≡◌, ℕ, List, true, Ok}
use Rattle.folder_setup.specs.Setups.{SetupParts, has_values, lines, read}

-- the lines of a setup are read as it was
abbrev pub SpelledIsRead : Type 0
SpelledIsRead = (s : SetupParts) → has_values s ≡ true → read (lines s) ≡ Ok s

-- a text that is read as a setup is its lines
abbrev pub ReadIsSpelled : Type 0
ReadIsSpelled = (text : List ℕ) (s : SetupParts) → read text ≡ Ok s → text ≡ lines s
