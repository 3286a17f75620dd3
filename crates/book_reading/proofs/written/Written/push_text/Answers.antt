use Rattle.std.proofs.Common.{◌∙◌, ap, take, drop}
use Rattle.std.proofs.lemmas.Result.{on_ok_weaker}
use Rattle.book_reading.specs.Leads.{blanks_of, after_blanks, gap_length}
use Rattle.book_reading.specs.Loops.GatheringViews.{place_view}
use Rattle.book_reading.specs.Stretches.{words_length}
use Rattle.book_reading.proofs.Pushes.{text_pushed}
use Rattle.book_reading.proofs.written.Written.push_text.Goals as goal

pub returns : goal.returns
returns c =
    let t = c.args.text.now in
    let lead = c.args.lead in
    let may = c.args.may_end in
    let front = c.split_at.ensures.front ∙ ap (λ n. take n t) c.number_len.ensures.value in
    let rest = c.split_at.ensures.back ∙ ap (λ n. drop n t) c.number_len.ensures.value in
    let after = c.split_at.result.1.now in
    let gap =
    c.split_at-2.ensures.front ∙ ap (λ n. take n after) c.gap_len.ensures.value ∙ ap (λ r. take (gap_length lead r) r) rest in
    let inner =
    c.split_at-2.ensures.back ∙ ap (λ n. drop n after) c.gap_len.ensures.value ∙ ap (λ r. drop (gap_length lead r) r) rest in
    on_ok_weaker c.push-5.result
    (λ h. text_pushed (place_view c.args.place) may lead t c.args.self.now c.push.new.self c.push-2.new.self c.push-3.new.self
    c.push-4.new.self c.push-5.new.self c.split_blanks.result.0.now c.split_blanks.result.1.now c.split_at-2.result.0.now
    c.split_words.result.0.now c.split_words.result.1.now c.number_sort.result c.words_sort.result (
      c.split_blanks.ensures.blanks ∙ ap blanks_of front,
      c.split_blanks.ensures.rest ∙ ap after_blanks front,
      gap,
      c.split_words.ensures.words ∙ ap (λ w. take (words_length may w) w) inner,
      c.split_words.ensures.attributes ∙ ap (λ w. drop (words_length may w) w) inner,
    )
    c.number_sort.ensures
    c.words_sort.ensures c.in_ok-push.ensures c.in_ok-push-2.ensures c.in_ok-push-3.ensures c.in_ok-push-4.ensures h)
    c.push-5.ensures
