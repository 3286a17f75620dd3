use Rattle.std.proofs.lemmas.Bool.{and_parts}
use Rattle.usfm_ref.specs.Books.{is_book_code}
use Rattle.usfm_ref.specs.Keys.{is_key}
use Rattle.bundle_codec.proofs.views.view.OpView.book.Goals as goal

pub book_in-requires : goal.book_in-requires
book_in-requires c =
    let key = c.self.inside.fields.key in
    (and_parts (is_book_code c.self.inside.fields.code.now) (is_key key.chapter key.place) c.self.invariant.fits.segment).0
