use Rattle.std.proofs.Common.{◌≡◌, ◌++◌, take}
use Rattle.conflict_answers.specs.Spelling.{id_texts}
use Rattle.conflict_answers.proofs.writing.push_ids.Given as goal

abbrev pub invariant-loop-id : goal.invariant-loop-id
invariant-loop-id l = l.bytes.items ≡ l.fn.bytes.items ++ id_texts (take l.id-index l.ids)
