use Rattle.std.proofs.Common.{◌≡◌, ◌∙◌, ◌&&◌, sym, ap}
use Rattle.usfm_token.specs.Tokens.{tokens_of}
use Rattle.verse_cut.specs.Reading.{is_quiet, text_fits}
use Rattle.verse_cut.proofs.FitLaws.{fits_by, fits_head}
use Rattle.verse_cut.proofs.fitting.fits.Goals as goal

quiet : (c : goal.After-is_quiet) → c.is_quiet.result ≡ text_fits c.args.book c.args.key c.args.text.now
quiet c =
    c.is_quiet.ensures
    ∙ ap (λ h. h && is_quiet c.args.key (tokens_of c.args.text.now)) (sym c.if-is_headed.true ∙ c.is_headed.ensures)
    ∙ fits_head c.args.book c.args.key c.args.text.now (sym c.is_book_head.ensures ∙ c.if-is_book_head.true)

unheaded : (c : goal.Else-is_headed) → c.is_headed.result ≡ text_fits c.args.book c.args.key c.args.text.now
unheaded c =
    c.if-is_headed.false
    ∙ ap (λ h. h && is_quiet c.args.key (tokens_of c.args.text.now)) (sym c.if-is_headed.false ∙ c.is_headed.ensures)
    ∙ fits_head c.args.book c.args.key c.args.text.now (sym c.is_book_head.ensures ∙ c.if-is_book_head.true)

pub returns-then-is_headed-clause-fits : goal.returns-then-is_headed-clause-fits
returns-then-is_headed-clause-fits c = fits_by c.args.book c.args.key c.args.text.now c.is_quiet.result (quiet c)

pub returns-then-is_headed-clause-value : goal.returns-then-is_headed-clause-value
returns-then-is_headed-clause-value c = quiet c

pub returns-else-is_headed-clause-fits : goal.returns-else-is_headed-clause-fits
returns-else-is_headed-clause-fits c = fits_by c.args.book c.args.key c.args.text.now c.is_headed.result (unheaded c)

pub returns-else-is_headed-clause-value : goal.returns-else-is_headed-clause-value
returns-else-is_headed-clause-value c = unheaded c

pub returns-else-is_book_head-clause-fits : goal.returns-else-is_book_head-clause-fits
returns-else-is_book_head-clause-fits c =
    fits_by c.args.book c.args.key c.args.text.now c.fits_below_head.result (c.fits_below_head.ensures.value c.args.book)
