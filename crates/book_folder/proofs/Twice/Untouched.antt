-- Of a file that is as it was written nothing comes in.
use Rattle.std.proofs.Common.{◌≡◌, ℕ, Bool, true, false, cond, List, [], ◌∷◌, Ok, Err, refl, sym, ap, ◌∙◌}
use Rattle.std.proofs.lemmas.Bool.{and_parts, false≢true}
use Rattle.std.specs.Str.{is_utf8}
use Rattle.op_core.specs.Export.{export, has_book}
use Rattle.replica_state.specs.States.{State, IsState}
use Rattle.book_folder.specs.AsWritten.{is_as_written, is_untouched}
use Rattle.book_folder.specs.Files.{FileParts}
use Rattle.book_folder.specs.Taking.{StoodParts, taken_in, text_or}
use Rattle.book_folder.specs.Wanted.{WantedParts, WishParts, is_none_wanted}
use Rattle.book_folder.specs.declared.refusal.Place.TheVariants as places
use Rattle.book_folder.specs.declared.refusal.Refusal.{Refusal}
use Rattle.book_folder.proofs.Twice.SyncedFile.{nothing_taken}

-- where none is wanted the list is empty
none_wanted : (wanted : List WantedParts) → is_none_wanted wanted ≡ true → wanted ≡ []
none_wanted [] h = refl
none_wanted (w ∷ rest) h = absurd (false≢true h)

-- bytes that are a text are UTF-8
is_text : (b : Bool) (bytes text : List ℕ) (fault : Refusal) → cond b (Ok bytes) (Err fault) ≡ Ok text → b ≡ true
is_text true bytes text fault e = refl
is_text false bytes text fault e = cc e

-- nothing comes in of a file that is to settle nothing, and is like the export of the base it was written from
pub untouched_taken : (s base : State) (older : List State) (wishes : WishParts) (stood : List StoodParts) (f : FileParts)
    (text was : List ℕ) → IsState s → IsState base → text_or (places.File f.at) f.bytes ≡ Ok text → was ≡ export base.held f.book
    → has_book base.held f.book ≡ true → is_untouched wishes.settled was f.book f.bytes ≡ true
    → taken_in s base older wishes stood f ≡ Ok (record { after = s; stood = stood; count = 0 })
untouched_taken s base older wishes stood f text was state base_state is_read is_export has untouched =
    let parts = and_parts (is_none_wanted wishes.settled) (is_as_written was f.book f.bytes) untouched in
    nothing_taken s base state.set base_state f has (is_text (is_utf8 f.bytes) f.bytes text _ is_read)
    (sym (ap (λ (t : List ℕ). is_as_written t f.book f.bytes) is_export) ∙ parts.1) older wishes stood
    (none_wanted wishes.settled parts.0)
