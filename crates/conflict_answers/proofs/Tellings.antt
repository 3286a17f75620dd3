-- What answers make together is what they make one after another.
use Rattle.std.proofs.Common.{◌≡◌, ◌+◌, List, [], ◌∷◌, ◌++◌, Result, Ok, Err, refl, sym, ap, ◌∙◌}
use Rattle.replica_state.specs.States.{State}
use Rattle.replica_state.specs.declared.fault.EditFault.{EditFault}
use Rattle.conflict_answers.specs.Answers.{AnswerParts}
use Rattle.conflict_answers.specs.Laws.{TogetherIsOneAfterAnother}
use Rattle.conflict_answers.specs.Settling.{settled, settled_all}
use Rattle.conflict_answers.specs.Together.{Together, begun, ended, settled_on, told_lines, unless_refused, with_answer}
use Rattle.conflict_answers.specs.declared.settling.Settled.{Settled}

on_after : (answers : List AnswerParts) (t u : Together) → settled_on t answers ≡ Ok u → settled_all t.after answers ≡ u.after
on_after [] t u e = let is : t ≡ u = cc in ap (λ (x : Together). x.after) is
on_after (a ∷ answers) t u e = by (settled t.after a).after (settled t.after a).told (λ x f. on_after answers x u f) e
  where
    by : (after : State) (told : Result Settled EditFault)
        → ((x : Together) → settled_on x answers ≡ Ok u → settled_all x.after answers ≡ u.after)
        → unless_refused (with_answer t a after told) (λ next. settled_on next answers) ≡ Ok u → settled_all after answers ≡ u.after
    by after (Ok told) on e =
        on (record { after = after; told = t.told ++ told ∷ []; lines = t.lines ++ told_lines a told }) e
    by after (Err fault) on e = cc e

pub together_is_one_after_another : TogetherIsOneAfterAnother
together_is_one_after_another s answers made e = by (settled_on (begun s) answers) refl e
  where
    by : (r : Result Together EditFault) → settled_on (begun s) answers ≡ r → unless_refused r ended ≡ Ok made
        → made.after ≡ settled_all s answers
    by (Ok u) f e =
        let is : u.after ≡ made.after = cc in sym is ∙ sym (on_after answers (begun s) u f)
    by (Err fault) f e = cc e
