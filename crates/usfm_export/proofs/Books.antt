-- The export of a book of a set is UTF-8 and cuts back into the picked texts.
use Rattle.std.proofs.Common.{ℕ, List, refl}
use Rattle.op_core.specs.Ops.{Operation}
use Rattle.op_core.specs.Sets.{IsOpSet}
use Rattle.op_core.specs.Export.{export}
use Rattle.op_core.proofs.Exports.CutsBack.{exports_cut_back, exports_are_text}
use Rattle.usfm_export.specs.Books.{IsBookOf}

-- the export of a set is the book that it makes
pub is_book : (held : List Operation) (book : List ℕ) → IsOpSet held → IsBookOf held book (export held book)
is_book held book set =
    record { set = set; text_is = refl; is_text = exports_are_text held book set; cuts_back = exports_cut_back held book set }
