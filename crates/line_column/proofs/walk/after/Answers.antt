use Rattle.std.proofs.Common.{[], ◌∷◌, ◌++◌, get_or, take, sym, ap, ◌∙◌, append_assoc, arith}
use Rattle.std.proofs.lemmas.List.{take_more, take_all}
use Rattle.line_column.specs.Places.{end_of}
use Rattle.line_column.proofs.walk.after.Goals as goal

pub loop-byte-preserved : goal.loop-byte-preserved
loop-byte-preserved c =
    let part = c.args.part.now in
    let i = c.loop-byte.byte-index in
    let now = c.loop-byte.invariant in
    let past = c.past-here.ensures in (
      omega (arith, past.line, now.0),
      omega (arith, past.column, now.1),
      λ front e. past.end (front ++ take i part) (now.2 front e)
          ∙ ap end_of (append_assoc front (take i part) (get_or part i 0 ∷ [])
          ∙ ap (λ t. front ++ t) (sym (take_more part i 0 c.loop-byte-test.true))),
    )

pub returns : goal.returns
returns c =
    let part = c.args.part.now in
    λ front e. c.loop-byte.invariant.2 front e
    ∙ ap (λ t. end_of (front ++ t)) (take_all c.loop-byte.byte-index part c.loop-byte-test.false)
