-- Laws of sealed bundles (this project's own format).
use Rattle.std.specs.Prelude.{◌≡◌, ◌≢◌, ◌<◌, ◌^◌, ℕ, false, List, [], ◌++◌, length, drop, slice_index, Ok, Err, IsErr, nat_lt, if◌then◌else◌}
use Rattle.sha2.specs.Sha256.{sha256}
use Rattle.sealed_bundle.specs.declared.fault.SealFault.TheVariants.{NotSealed, Truncated, Trailing, Damaged}
use Rattle.sealed_bundle.specs.Seals.{magic, header_of, header, sealed, opened, begins_sealed, unsealed, first_opened}

-- each is a byte
abbrev pub AreBytes : List ℕ → Type 0
AreBytes bytes = (i : ℕ) → slice_index bytes i < 256

-- what is sealed is opened as it was
abbrev pub SealedIsOpened : Type 0
SealedIsOpened = (bundle : List ℕ) → length bundle < 2 ^ 64 → opened (sealed bundle) ≡ Ok bundle

-- what is opened is sealed so
abbrev pub OpenedIsSealed : Type 0
OpenedIsSealed = (bytes bundle : List ℕ) → AreBytes bytes → opened bytes ≡ Ok bundle
    → bytes ≡ sealed bundle

-- a proper front of a sealed bundle is refused as cut
abbrev pub FrontsAreCut : Type 0
FrontsAreCut = (bundle front rest : List ℕ) → length bundle < 2 ^ 64 → rest ≢ []
    → sealed bundle ≡ front ++ rest → opened front ≡ Err Truncated

-- what follows a sealed bundle is refused as such
abbrev pub MoreIsRefused : Type 0
MoreIsRefused = (bundle rest : List ℕ) → length bundle < 2 ^ 64 → rest ≢ []
    → opened (sealed bundle ++ rest) ≡ Err Trailing

-- with eight other bytes in the place of the magic, bytes are no sealed bundle
abbrev pub OtherMagicIsRefused : Type 0
OtherMagicIsRefused = (first rest : List ℕ) → length first ≡ 8 → first ≢ magic
    → opened (first ++ rest) ≡ Err NotSealed

-- with another length in its place, a sealed bundle is refused as cut where that is greater, and
-- else as one that something follows
abbrev pub OtherLengthIsRefused : Type 0
OtherLengthIsRefused = (bundle digest : List ℕ) (n : ℕ) → n < 2 ^ 64 → n ≢ length bundle
    → length digest ≡ 32 → opened (header_of n digest ++ bundle)
    ≡ (if nat_lt (length bundle) n then Err Truncated else Err Trailing)

-- with 32 other bytes in the place of its digest, a sealed bundle is refused as damaged
abbrev pub OtherDigestIsRefused : Type 0
OtherDigestIsRefused = (bundle digest : List ℕ) → length bundle < 2 ^ 64 → length digest ≡ 32
    → digest ≢ sha256 bundle
    → opened (header_of (length bundle) digest ++ bundle) ≡ Err Damaged

-- Bytes with a bundle behind their first 48 that are not that bundle, sealed, are refused. So no
-- change of these 48 bytes of a sealed bundle is passed over.
abbrev pub ChangedHeaderIsRefused : Type 0
ChangedHeaderIsRefused = (bytes bundle : List ℕ) → AreBytes bytes → drop 48 bytes ≡ bundle
    → bytes ≢ sealed bundle → IsErr (opened bytes)

-- Behind the header of a bundle, as many other bytes are opened only if they have its digest, and
-- are else refused as damaged.
abbrev pub ChangedBundleIsRefused : Type 0
ChangedBundleIsRefused = (bundle other : List ℕ) → length bundle < 2 ^ 64
    → length other ≡ length bundle → sha256 other ≢ sha256 bundle
    → opened (header bundle ++ other) ≡ Err Damaged

-- what is sealed comes out of its seal as it was
abbrev pub SealsComeOff : Type 0
SealsComeOff = (bundle : List ℕ) → length bundle < 2 ^ 64 → unsealed (sealed bundle) ≡ Ok bundle

-- what does not begin as a sealed bundle does stays as it is
abbrev pub BareStays : Type 0
BareStays = (bytes : List ℕ) → begins_sealed bytes ≡ false → unsealed bytes ≡ Ok bytes

-- what is sealed is opened as it was, whatever follows it
abbrev pub FirstIsOpened : Type 0
FirstIsOpened = (bundle rest : List ℕ) → length bundle < 2 ^ 64
    → first_opened (sealed bundle ++ rest) ≡ Ok (bundle, rest)
