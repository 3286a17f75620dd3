use Rattle.std.proofs.Common.{◌∙◌, string_bytes, ap, arith}
use Rattle.usfm_ref.specs.Segments.{segment}
use Rattle.conflict_report.specs.Loops.Parts.{bytes_of}
use Rattle.conflict_report.specs.declared.part.Part.TheVariants.{Line}
use Rattle.conflict_report.specs.Reports.{distinct_texts}
use Rattle.conflict_report.proofs.Gathered.{bytes_push, conflict_told}
use Rattle.conflict_report.proofs.Latest.{now_of}
use Rattle.conflict_report.proofs.gather.push_segment.Goals as goal

pub returns-clause-conflict : goal.returns-clause-conflict
returns-clause-conflict c =
    let texts = c.in_ok-texts.field-0.distinct in
    let line = c.in_ok-conflict_line.field-0 in
    let middle = ap bytes_of c.in_ok-push.ensures.items ∙ bytes_push c.args.parts.now.items (Line line) in
    conflict_told (segment c.args.book c.args.key) c.deref.result.now
    (distinct_texts c.args.cursor.now (segment c.args.book c.args.key)) c.len-count.result (string_bytes line)
    (bytes_of c.args.parts.now.items) (bytes_of c.push.new.self.items) (bytes_of c.push_texts.new.parts.items) c.push_texts.result
    (ap now_of c.deref.ensures.value ∙ c.in_ok-texts.ensures.distinct) (omega (arith, c.len-count.ensures, c.deref.ensures.len))
    (omega arith) c.in_ok-conflict_line.ensures middle c.push_texts.ensures
