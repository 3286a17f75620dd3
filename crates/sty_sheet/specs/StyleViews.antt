-- What a contract sees of a style.
use Rattle.std.specs.Prelude.{ℕ, Bool, List}
use Rattle.std.specs.Option.{option_map}
use Rattle.sty_sheet.specs.Records.{Record, closes_milestone, words_of}
use Rattle.sty_sheet.specs.declared.style.Style.{Style}

-- a style, as the record of its marker
abbrev pub record_of : Style → Record
record_of s = record {
  marker = s.marker.now;
  name = s.name.now;
  closer = option_map (λ n. n.now) s.closer;
  under = words_of s.under.now;
  kind = s.kind;
  verse_text = s.verse_text;
}

-- the record is a milestone that a mark of this name closes
abbrev pub closes : List ℕ → Style → Bool
closes name s = closes_milestone name (record_of s)
