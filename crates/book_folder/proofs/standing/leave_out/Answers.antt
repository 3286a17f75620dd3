use Rattle.std.proofs.Common.{◌≡◌, [], ◌∷◌, ◌++◌, Ok, ap, sym, ◌∙◌}
use Rattle.book_folder.specs.Standing.{RemainingParts, left_out, remaining_after, remaining_view, with_found}
use Rattle.book_folder.specs.declared.refusal.Place.TheVariants.{File, Other}
use Rattle.book_folder.specs.declared.refusal.Refusal.TheVariants.{Of}
use Rattle.book_folder.proofs.Stands.{left_one}
use Rattle.book_folder.proofs.standing.leave_out.Goals as goal

pub returns-in-Of-File-default : goal.returns-in-Of-File-default
returns-in-Of-File-default c =
    let old : RemainingParts = remaining_view c.args.remaining.now in
    let is : c.args.refusal ≡ Of (File c.in-Of-File-default.at) c.in-Of-File-default.fault =
    c.in-Of-File-default.is ∙ (λ i. Of (c.in-Of-File-default.field-0-is i) c.in-Of-File-default.fault) in
    left_one (remaining_after old c.args.refusal) _
    (old.left_out ++ left_out (File c.in-Of-File-default.at) c.in-Of-File-default.fault ∷ []) _
    c.push_left_out.result c.push_left_out.ensures
    (λ e. ap (remaining_after old) is ∙ (λ i. Ok (record {
      seen = with_found old.seen (sym c.clear_file.ensures i) old.seen.others;
      left_out = sym e i;
    })))

pub returns-in-Of-Other-default : goal.returns-in-Of-Other-default
returns-in-Of-Other-default c =
    let old : RemainingParts = remaining_view c.args.remaining.now in
    let is : c.args.refusal ≡ Of (Other c.in-Of-Other-default.at) c.in-Of-Other-default.fault =
    c.in-Of-Other-default.is ∙ (λ i. Of (c.in-Of-Other-default.field-0-is i) c.in-Of-Other-default.fault) in
    left_one (remaining_after old c.args.refusal) _
    (old.left_out ++ left_out (Other c.in-Of-Other-default.at) c.in-Of-Other-default.fault ∷ []) _
    c.push_left_out-in-Of-Other-default.result c.push_left_out-in-Of-Other-default.ensures
    (λ e. ap (remaining_after old) is ∙ (λ i. Ok (record {
      seen = with_found old.seen old.seen.files (sym c.clear_name.ensures i);
      left_out = sym e i;
    })))
