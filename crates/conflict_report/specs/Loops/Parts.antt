-- The parts that a report is written in, and their bytes. No contract of a public call names them.
use Rattle.std.specs.Prelude.{ℕ, List, [], ◌∷◌, ◌++◌, string_bytes}
use Rattle.std.specs.List.{flat_map}
use Rattle.op_core.specs.Ops.{own_text}
use Rattle.conflict_report.specs.declared.part.Part.{Part}
use Rattle.conflict_report.specs.declared.part.Part.TheVariants.{Line, Text}

-- a line, or a text and its line feed
abbrev pub part_bytes : Part → List ℕ
part_bytes (Line line) = string_bytes line
part_bytes (Text op) = own_text op.now ++ 10 ∷ []

-- the bytes of parts, joined
abbrev pub bytes_of : List Part → List ℕ
bytes_of parts = flat_map part_bytes parts
