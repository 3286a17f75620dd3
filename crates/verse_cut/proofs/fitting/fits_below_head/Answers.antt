use Rattle.std.proofs.Common.{◌≡◌, ◌∙◌, ◌||◌, ℕ, List, sym, ap}
use Rattle.usfm_token.specs.Tokens.{tokens_of}
use Rattle.verse_cut.specs.Reading.{leads, text_fits}
use Rattle.verse_cut.proofs.FitLaws.{fits_by, fits_other, empty_is}
use Rattle.verse_cut.proofs.fitting.fits_below_head.Goals as goal

leading : (c : goal.After-leads) (book : List ℕ) → c.leads.result ≡ text_fits book c.args.key c.args.text.now
leading c book =
    c.leads.ensures
    ∙ ap (λ e. e || leads c.args.key (tokens_of c.args.text.now)) (sym c.if-is_empty.false ∙ c.is_empty.ensures ∙ empty_is c.args.text.now)
    ∙ fits_other book c.args.key c.args.text.now c.requires.below

pub returns-then-is_empty-clause-value : goal.returns-then-is_empty-clause-value
returns-then-is_empty-clause-value c book =
    c.if-is_empty.true
    ∙ ap (λ e. e || leads c.args.key (tokens_of c.args.text.now)) (sym c.if-is_empty.true ∙ c.is_empty.ensures ∙ empty_is c.args.text.now)
    ∙ fits_other book c.args.key c.args.text.now c.requires.below

pub returns-else-is_empty-clause-fits : goal.returns-else-is_empty-clause-fits
returns-else-is_empty-clause-fits c book = fits_by book c.args.key c.args.text.now c.leads.result (leading c book)

pub returns-else-is_empty-clause-value : goal.returns-else-is_empty-clause-value
returns-else-is_empty-clause-value c = leading c
