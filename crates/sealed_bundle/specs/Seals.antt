-- Sealed bundles: a bundle with its length and its digest before it (this project's own format).
-- The length is big-endian and unsigned, in eight bytes; the digest is SHA-256 (FIPS 180-4).
use Rattle.std.specs.Prelude.{ℕ, Bool, List, [], ◌∷◌, ◌++◌, length, take, drop, codes, Result, Ok, Err, nat_eq, nat_lt, if◌then◌else◌}
use Rattle.std.specs.Int.{w64, to_be_bytes, from_be_bytes}
use Rattle.std.specs.List.{starts_with}
use Rattle.std.specs.Str.{bytes_eq}
use Rattle.sha2.specs.Sha256.{sha256}
use Rattle.sealed_bundle.specs.declared.fault.SealFault.{SealFault}
use Rattle.sealed_bundle.specs.declared.fault.SealFault.TheVariants.{NotSealed, Truncated, Trailing, Damaged}

-- the first eight bytes: `USFMSB1` and a line feed
unfoldable pub magic : List ℕ
magic = codes "USFMSB1" ++ 10 ∷ []

-- a header that states a length and a digest: the magic, the length in eight bytes, the digest
unfoldable pub header_of : ℕ → List ℕ → List ℕ
header_of n digest = magic ++ (to_be_bytes w64 n ++ digest)

-- the header of a bundle, which states its length and its digest
abbrev pub header : List ℕ → List ℕ
header bundle = header_of (length bundle) (sha256 bundle)

-- a sealed bundle: its header, and the bundle
abbrev pub sealed : List ℕ → List ℕ
sealed bundle = header bundle ++ bundle

-- ---- opening

-- the length that a header states
unfoldable pub stated_length : List ℕ → ℕ
stated_length front = from_be_bytes w64 (take 8 (drop 8 front))

-- the digest that a header states
abbrev pub stated_digest : List ℕ → List ℕ
stated_digest front = drop 16 front

-- the first 48 bytes and what follows them, or the first fault: that the bytes differ from the
-- magic, or that they are fewer
unfoldable pub split : List ℕ → Result (List ℕ × List ℕ) SealFault
split bytes =
    if starts_with nat_eq bytes magic then
    if nat_lt (length bytes) 48 then Err Truncated else Ok (take 48 bytes, drop 48 bytes)
    else if starts_with nat_eq magic bytes then Err Truncated
    else Err NotSealed

-- a bundle, or the first fault: that it has fewer bytes than the length, or more, or that its
-- digest is another one
unfoldable pub judged : ℕ → List ℕ → List ℕ → Result (List ℕ) SealFault
judged n digest bundle =
    if nat_lt (length bundle) n then Err Truncated
    else if nat_lt n (length bundle) then Err Trailing
    else if bytes_eq (sha256 bundle) digest then Ok bundle
    else Err Damaged

-- what follows a header, judged by what that states
abbrev pub behind : Result (List ℕ × List ℕ) SealFault → Result (List ℕ) SealFault
behind (Ok parts) = judged (stated_length parts.0) (stated_digest parts.0) parts.1
behind (Err fault) = Err fault

-- the bundle that bytes seal, to their end, or the first fault
abbrev pub opened : List ℕ → Result (List ℕ) SealFault
opened bytes = behind (split bytes)

-- ---- bytes that may be sealed

-- whether bytes begin as a sealed bundle does: with the magic
abbrev pub begins_sealed : List ℕ → Bool
begins_sealed bytes = starts_with nat_eq bytes magic

-- what bytes are without their seal: those that begin as a sealed bundle does are opened, or have
-- the first fault, and all others are what they are
unfoldable pub unsealed : List ℕ → Result (List ℕ) SealFault
unsealed bytes = if begins_sealed bytes then opened bytes else Ok bytes

-- ---- a sealed bundle that more follows

-- the bundle of a length at the front of bytes, and what follows it, or the first fault: that the
-- bytes are fewer than the length, or that the bundle's digest is another one
unfoldable pub judged_first : ℕ → List ℕ → List ℕ → Result (List ℕ × List ℕ) SealFault
judged_first n digest bytes =
    if nat_lt (length bytes) n then Err Truncated
    else if bytes_eq (sha256 (take n bytes)) digest then Ok (take n bytes, drop n bytes)
    else Err Damaged

-- what follows a header, with what follows its bundle
abbrev pub first_behind : Result (List ℕ × List ℕ) SealFault →
    Result (List ℕ × List ℕ) SealFault
first_behind (Ok parts) = judged_first (stated_length parts.0) (stated_digest parts.0) parts.1
first_behind (Err fault) = Err fault

-- the bundle that the front of bytes seals, and what follows that front, or the first fault
abbrev pub first_opened : List ℕ → Result (List ℕ × List ℕ) SealFault
first_opened bytes = first_behind (split bytes)
