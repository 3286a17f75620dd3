-- How a file of a box is taken by its name (this project's own rule).
use Rattle.std.specs.Prelude.{ℕ, ◌-◌, Bool, ◌||◌, List, length, drop, map, codes, is_some, nat_eq, ◌==◌, if◌then◌else◌}
use Rattle.std.specs.Char.{to_ascii_lowercase}
use Rattle.std.specs.List.{starts_with, list_any}
use Rattle.std.specs.Str.{bytes_eq}
use Rattle.memchr.specs.Find.{first_of, matches}
use Rattle.box_names.specs.declared.names.BoxName.{BoxName}
use Rattle.box_names.specs.declared.names.BoxName.TheVariants.{Bundle, Broken, Renamed, NoEnding, Other}

-- whether a name has an ending, in any case of the letters A to Z
abbrev pub ends_in : List ℕ → List ℕ → Bool
ends_in name ending =
    bytes_eq (map to_ascii_lowercase (drop (length name - length ending) name))
    (map to_ascii_lowercase ending)

-- whether a name is that of a carrier's own file: it begins with a full stop or with `~`, or ends in
-- `.tmp`, `.part` or `.partial`
abbrev pub is_of_carrier : List ℕ → Bool
is_of_carrier name =
    starts_with nat_eq name (codes ".") || starts_with nat_eq name (codes "~")
    || ends_in name (codes ".tmp") || ends_in name (codes ".part")
    || ends_in name (codes ".partial")

-- whether bytes stand somewhere in a name
abbrev pub has_within : List ℕ → List ℕ → Bool
has_within name sought = is_some (first_of (matches name sought 0))

-- whether a byte stands somewhere in a name
abbrev pub has_byte : List ℕ → ℕ → Bool
has_byte name byte = list_any (λ b. b == byte) name

-- How a file is taken: as a bundle by its ending, without a line feed (10); as a bundle that got
-- another name where `.bundle` stands in it elsewhere, in small letters or in capitals; as one that
-- may be a bundle where the name has no ending; and else as none, as is what a carrier left.
abbrev pub box_name : List ℕ → BoxName
box_name name =
    if is_of_carrier name then Other
    else if ends_in name (codes ".bundle") then (if has_byte name 10 then Broken else Bundle)
    else if has_within name (codes ".bundle") || has_within name (codes ".BUNDLE") then Renamed
    else if has_byte name 46 then Other
    else NoEnding
