-- Reading a summary from left to right. It has one fault, whichever field is cut or breaks its
-- rule.
use Rattle.std.specs.Prelude.{◌≡◌, ℕ, suc, nat_le, nat_lt, ◌&&◌, Bool, true, List, [], ◌∷◌, IsSome, IfSome, Option, Some, None, Result, Ok, Err, Vec}
use Rattle.std.specs.Borrow.{Bor}
use Rattle.std.specs.Int.{w64}
use Rattle.std.specs.Ordering.{is_lt}
use Rattle.op_core.specs.Names.{is_name, name_cmp}
use Rattle.bundle_codec.specs.declared.fault.BundleFault.{BundleFault}
use Rattle.bundle_codec.specs.declared.fault.BundleFault.TheVariants.{Truncated}
use Rattle.bundle_codec.specs.declared.fault.SummaryFault.{SummaryFault}
use Rattle.bundle_codec.specs.declared.fault.SummaryFault.TheVariants.{Memory, BadSummary}
use Rattle.bundle_codec.specs.declared.summaries.range.NumberRange.{NumberRange}
use Rattle.bundle_codec.specs.Reading.{◌>>=◌, any, check, byte_at, block_at, number_at, exactly_at, many_at, is_name_length}
use Rattle.bundle_codec.specs.Summaries.{NameRanges, is_range, summary_magic}

-- the one fault, in the words of fields
abbrev pub bad : BundleFault
bad = Truncated

-- a range begins more than one above the end of the one before it, if there is one
abbrev pub begins_after : Option ℕ → ℕ → Bool
begins_after None n = true
begins_after (Some last) n = nat_lt (suc last) n

-- a range that begins more than one above the end of the one before it, if there is one
unfoldable pub range_at : Option ℕ → List ℕ → Result (NumberRange × List ℕ) BundleFault
range_at before bytes = do
  first ← number_at w64 any bad bytes
  last ← number_at w64 any bad first.1
  _ ← check (is_range (record { first = first.0; last = last.0 }) && begins_after before first.0)
      bad
  Ok (record { first = first.0; last = last.0 }, last.1)

-- the end of the range before the next one
abbrev pub after_range : Option ℕ → NumberRange → Option ℕ
after_range before r = Some r.last

-- this many ranges
abbrev pub ranges_at : ℕ → List ℕ → Result (List NumberRange × List ℕ) BundleFault
ranges_at n bytes = many_at range_at after_range n None bytes

-- a name comes after the one before it, if there is one
abbrev pub name_after : Option (List ℕ) → List ℕ → Bool
name_after None name = true
name_after (Some before) name = is_lt (name_cmp before name)

-- a name that comes after the one before it, if there is one
unfoldable pub name_at : Option (List ℕ) → List ℕ → Result (List ℕ × List ℕ) BundleFault
name_at before bytes = do
  len ← byte_at is_name_length bad bytes
  name ← block_at len.0 is_name bad len.1
  _ ← check (name_after before name.0) bad
  Ok name

-- a name with its ranges, at least one
unfoldable pub name_ranges_at : Option (List ℕ) → List ℕ → Result (NameRanges × List ℕ) BundleFault
name_ranges_at before bytes = do
  name ← name_at before bytes
  count ← number_at w64 (λ n. nat_le 1 n) bad name.1
  ranges ← ranges_at count.0 count.1
  Ok (record { name = name.0; ranges = ranges.0 }, ranges.1)

-- of a name that was read with its ranges, the name, and the bytes after the ranges
abbrev pub name_read : Result (NameRanges × List ℕ) BundleFault →
    Result (List ℕ × List ℕ) BundleFault
name_read read = read >>= λ k. Ok (k.0.name, k.1)

-- the name before the next one
abbrev pub after_name : Option (List ℕ) → NameRanges → Option (List ℕ)
after_name before k = Some k.name

-- this many names with their ranges
abbrev pub names_at : ℕ → List ℕ → Result (List NameRanges × List ℕ) BundleFault
names_at n bytes = many_at name_ranges_at after_name n None bytes

-- where memory was there to keep what is read, it is what the bytes spell, and the bytes after it
-- are left
abbrev pub Keeps : {X A : Type 0} → Result (List X × List ℕ) BundleFault →
    Option (Vec X A) × Bor (List ℕ) → Type 0
Keeps read x = IfSome x.0 (λ v. read ≡ Ok (v.items, x.1.now))

-- a summary at the front, and what follows it
unfoldable pub summary_at : List ℕ → Result (List NameRanges × List ℕ) BundleFault
summary_at bytes = do
  start ← exactly_at summary_magic bad bytes
  count ← number_at w64 any bad start.1
  names_at count.0 count.1

-- ---- whole summaries

-- the names that were read, if no bytes follow them
abbrev pub names_alone : List NameRanges → List ℕ → Option (List NameRanges)
names_alone names [] = Some names
names_alone names (b ∷ rest) = None

-- the names of a summary that was read to the end of the bytes
abbrev pub read_whole : Result (List NameRanges × List ℕ) BundleFault → Option (List NameRanges)
read_whole (Ok read) = names_alone read.0 read.1
read_whole (Err fault) = None

-- the summary that the bytes are, to their end
abbrev pub read_summary : List ℕ → Option (List NameRanges)
read_summary bytes = read_whole (summary_at bytes)

-- bytes are refused as bad exactly where they are no summary, and out of memory is answered for a
-- summary alone
abbrev pub ReadFails : Option (List NameRanges) → SummaryFault → Type 0
ReadFails found Memory = IsSome found
ReadFails found BadSummary = found ≡ None
