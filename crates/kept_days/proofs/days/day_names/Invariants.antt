use Rattle.std.proofs.Common.{◌≡◌, filter, map, take}
use Rattle.std.specs.String.{string_bytes}
use Rattle.kept_days.specs.Days.{is_day, texts}
use Rattle.kept_days.proofs.days.day_names.Given as goal

abbrev pub invariant-loop-name : goal.invariant-loop-name
invariant-loop-name l = texts l.days.items ≡ filter is_day (map (λ n. string_bytes n) (take l.name-index l.names))
