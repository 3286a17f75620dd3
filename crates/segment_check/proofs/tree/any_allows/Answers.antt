use Rattle.std.proofs.Common.{◌&&◌, ◌||◌, sym, ap, ◌∙◌}
use Rattle.std.specs.Prelude.{codes}
use Rattle.std.specs.Option.{option_map}
use Rattle.sty_sheet.specs.Records.{has_word}
use Rattle.sty_sheet.specs.Views.{records_of}
use Rattle.segment_check.specs.TreeConditions.{under_words}
use Rattle.segment_check.proofs.Allowing.{each_allowed}
use Rattle.segment_check.proofs.tree.any_allows.Goals as goal

pub returns-then-has_name : goal.returns-then-has_name
returns-then-has_name c =
    let words = under_words (records_of c.args.sheet.now) c.args.name.now in
    let nest = c.args.allowed.nest in
    c.if-has_name.true
    ∙ sym (ap (λ b. b || (nest && has_word (codes "NEST") words)) (sym c.has_name.ensures ∙ c.if-has_name.true))
    ∙ each_allowed (option_map (λ n. n.now) c.args.allowed.name) nest words

pub returns-then-allowed : goal.returns-then-allowed
returns-then-allowed c =
    let words = under_words (records_of c.args.sheet.now) c.args.name.now in
    let nest = c.args.allowed.nest in
    let nested = has_word (codes "NEST") words in
    c.has_under.ensures
    ∙ sym (ap (λ b. b || (nest && nested)) (sym c.has_name.ensures ∙ c.if-has_name.false) ∙ ap (λ b. b && nested) c.if-allowed.true)
    ∙ each_allowed (option_map (λ n. n.now) c.args.allowed.name) nest words

pub returns-else-allowed : goal.returns-else-allowed
returns-else-allowed c =
    let words = under_words (records_of c.args.sheet.now) c.args.name.now in
    let nest = c.args.allowed.nest in
    let nested = has_word (codes "NEST") words in
    c.if-allowed.false
    ∙ sym (ap (λ b. b || (nest && nested)) (sym c.has_name.ensures ∙ c.if-has_name.false) ∙ ap (λ b. b && nested) c.if-allowed.false)
    ∙ each_allowed (option_map (λ n. n.now) c.args.allowed.name) nest words
