use Rattle.std.proofs.Common.{◌≡◌, ◌∙◌, ◌∷◌, ◌-◌, ap, sym, length}
use Rattle.usfm_token.specs.Tokens.{mark, words, tokens_of}
use Rattle.usfm_token.specs.View.{lexeme, mark_parts, rest_of}
use Rattle.segment_check.specs.Loops.WalkViews.{before, state_of}
use Rattle.segment_check.proofs.WalkLemmas.{next_place, still_within, ahead_is, first_is, mark_step}
use Rattle.segment_check.proofs.WalkLemmas.{text_step, end_step, found_in-from}
use Rattle.segment_check.proofs.marks.find_marks.Goals as goal
use Rattle.segment_check.proofs.marks.find_marks.Goals.{After-next-next-in-Some}

-- the token in front, and what is left after it
front : (c : After-next-next-in-Some) → tokens_of c.loop-next.at.now ≡ lexeme c.in-Some.token ∷ tokens_of c.rest-at.result.now
front c =
    c.loop-next.invariant.ahead ∙ ap (λ o. before o (tokens_of (rest_of c.loop-next.tokens))) c.in-Some.is
    ∙ ap (λ l. lexeme c.in-Some.token ∷ tokens_of l) (sym c.rest-at.ensures)

ahead : (c : After-next-next-in-Some) → tokens_of c.rest-at.result.now
    ≡ before c.next-next-in-Some.result (tokens_of (rest_of c.next-next-in-Some.new.self))
ahead c =
    ap tokens_of c.rest-at.ensures
    ∙ ahead_is c.next-next-in-Some.result (rest_of c.loop-next.tokens)
    (rest_of c.next-next-in-Some.new.self) c.next-next-in-Some.ensures.steps

pub loop-next-preserved-in-Continue-1 : goal.loop-next-preserved-in-Continue-1
loop-next-preserved-in-Continue-1 c =
    let d = (goal.at.loop-next-preserved-in-Continue-1 c).After-next-next-in-Some in
    let at = c.loop-next.at.now in
    let rest = c.rest-at.result.now in
    let here : tokens_of at ≡ mark (mark_parts c.in-Mark.mark) ∷ tokens_of rest = front d
    ∙ ap (λ t. lexeme t ∷ tokens_of rest) c.in-Mark.is in
    record {
      ahead = ahead d;
      found =
          mark_step (state_of c.loop-next.walk) (state_of c.find.new.self) (length c.args.text.now - length at)
          (length c.args.text.now - length rest) (mark_parts c.in-Mark.mark) c.text_of.result.now (tokens_of rest)
          (tokens_of at) c.loop-next.findings.items c.find.new.findings.items _
          here (c.text_of.ensures (tokens_of rest) (first_is c.next-next-in-Some.result (tokens_of rest)
          (tokens_of (rest_of c.next-next-in-Some.new.self)) (ahead d)))
          (next_place (length c.args.text.now) at rest (mark (mark_parts c.in-Mark.mark)) here c.loop-next.invariant.within)
          c.in_ok-find.ensures.state_after c.in_ok-find.ensures.found c.loop-next.invariant.found;
      within = still_within (length c.args.text.now) at rest (mark (mark_parts c.in-Mark.mark)) here c.loop-next.invariant.within;
    }

pub loop-next-preserved : goal.loop-next-preserved
loop-next-preserved c =
    let d = (goal.at.loop-next-preserved c).After-next-next-in-Some in
    let at = c.loop-next.at.now in
    let rest = c.rest-at.result.now in
    let t = c.in_default-token.field-0.now in
    let here : tokens_of at ≡ words t ∷ tokens_of rest = front d ∙ ap (λ t. lexeme t ∷ tokens_of rest) c.in_default-token.is in
    record {
      ahead = ahead d;
      found =
          text_step (state_of c.loop-next.walk) (length c.args.text.now - length at) (length c.args.text.now - length rest) t
          (tokens_of rest) (tokens_of at) c.loop-next.findings.items _
          here (next_place (length c.args.text.now) at rest (words t) here c.loop-next.invariant.within) c.loop-next.invariant.found;
      within = still_within (length c.args.text.now) at rest (words t) here c.loop-next.invariant.within;
    }

pub returns : goal.returns
returns c =
    end_step (state_of c.loop-next.walk) (length c.args.text.now - length c.loop-next.at.now)
    (tokens_of c.loop-next.at.now) c.loop-next.findings.items _
    (c.loop-next.invariant.ahead ∙ ap (λ o. before o (tokens_of (rest_of c.loop-next.tokens))) c.in_default.is)
    c.loop-next.invariant.found
    ∙ sym (found_in-from c.args.seen.now c.args.text.now)
