use Rattle.std.proofs.Common.{sym, ◌∙◌, subst, Bool}
use Rattle.std.specs.Option.{option_map}
use Rattle.usfm_token.specs.View.{mark_parts}
use Rattle.usfm_tree.specs.Loops.Stack.{Resumes}
use Rattle.usfm_tree.specs.Loops.RoleViews.{role_view}
use Rattle.usfm_tree.specs.Loops.ReaderViews.{frames_of, sofar_of}
use Rattle.sty_sheet.proofs.Telling.{is_some_map}
use Rattle.usfm_tree.proofs.ReadingLemmas.{resumes_by_end}
use Rattle.usfm_tree.proofs.reader.Reader.unwind_once.Goals as goal

pub returns-clause-resumes : goal.returns-clause-resumes
returns-clause-resumes c =
    let P : Bool → Type 0 = λ b. Resumes (role_view c.args.role) (sofar_of c.args.self.now) (frames_of c.args.self.now)
    (sofar_of c.end.new.self) (frames_of c.end.new.self) b in
    subst P (is_some_map mark_parts c.closing-close.result ∙ sym c.is_some.ensures)
    (resumes_by_end (role_view c.args.role) (sofar_of c.args.self.now) (sofar_of c.end.new.self) (frames_of c.args.self.now)
    (frames_of c.end.new.self) c.args.count
    (option_map mark_parts c.closing-close.result) c.requires.counted c.requires.some c.closing-close.ensures c.in_ok-end.ensures.ends)
