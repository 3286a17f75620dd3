use Rattle.std.proofs.Common.{◌∙◌, ◌+◌, ◌∷◌, [], length, cond, sym, ap, subst}
use Rattle.verse_cut.specs.Loops.Walks.{pieces_at, OpensAt}
use Rattle.verse_cut.proofs.Steps.{pieces_open, read_join}
use Rattle.verse_cut.proofs.cutter.PiecesIterator.next.Goals as goal

pub before-text-requires : goal.before-text-requires
before-text-requires c =
    let opening = c.in-Some.opening in
    let opens =
    subst (λ rest. OpensAt c.args.self.now.key rest opening.here.now opening.after.now opening.key) c.new.ensures c.in-Some.ensures in
    read_join c.args.self.now.from.now c.args.self.now.rest.now opening.here.now c.args.self.now.parts opens.join

pub returns-in-Some-clause-steps : goal.returns-in-Some-clause-steps
returns-in-Some-clause-steps c =
    let s = c.args.self.now in
    let opening = c.in-Some.opening in
    let opens =
    subst (λ rest. OpensAt c.args.self.now.key rest opening.here.now opening.after.now opening.key) c.new.ensures c.in-Some.ensures in
    let text = c.before-text.result.now in
    ap (λ d. cond d [] (pieces_at s.key s.start s.from.now s.rest.now)) c.if-self.false
    ∙ pieces_open s.key opening.key s.start s.from.now s.rest.now opening.here.now opening.after.now text s.parts opens
    c.before-text.ensures
    ∙ ap (λ d. record { key = s.key; start = s.start; text = text } ∷ cond d []
    (pieces_at opening.key (s.start + length text) opening.here.now opening.after.now)) (sym c.if-self.false)
