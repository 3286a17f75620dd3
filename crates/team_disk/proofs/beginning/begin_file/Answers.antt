use Rattle.std.proofs.Common.{◌≡◌, sym, Some}
use Rattle.team_disk.specs.Disk.{at, IsOneOrOther}
use Rattle.team_disk.proofs.Moments.{started, goes_on, is_one, at_start, scratched, scratched_after, put, moved}
use Rattle.team_disk.proofs.beginning.begin_file.Goals as goal

pub returns-in_err-write-clause-any_moment : goal.returns-in_err-write-clause-any_moment
returns-in_err-write-clause-any_moment g c =
    let disk = g.D.Disk in
    let old = c.args.disk.now in
    let place = at c.args.folder c.args.name.now in
    let scratch = at c.args.folder c.args.scratch.now in
    let one = disk.seen old place in
    let other = Some c.args.bytes.now in
    let start = disk.may_leave old in
    let P = IsOneOrOther place scratch one other start in
    let first = at_start place scratch one other start c.requires.settled in
    let begun = started disk.moment disk.left_since old P (λ f left. is_one _ _ _ _ _ f (first f (g.met.D.Disk.only_now old f left))) in
    let kept = scratched place scratch one other start start (disk.may_leave c.write.new.self) c.requires.apart first c.write.ensures.crash
    in
    let after_write = goes_on disk.moment disk.left_since old old c.write.new.self P _ begun c.write.ensures.time
    (λ f now. is_one _ _ _ _ _ f (kept f now)) in
    after_write

pub returns-in_err-link-clause-any_moment : goal.returns-in_err-link-clause-any_moment
returns-in_err-link-clause-any_moment g c =
    let disk = g.D.Disk in
    let old = c.args.disk.now in
    let place = at c.args.folder c.args.name.now in
    let scratch = at c.args.folder c.args.scratch.now in
    let one = disk.seen old place in
    let other = Some c.args.bytes.now in
    let start = disk.may_leave old in
    let P = IsOneOrOther place scratch one other start in
    let first = at_start place scratch one other start c.requires.settled in
    let begun = started disk.moment disk.left_since old P (λ f left. is_one _ _ _ _ _ f (first f (g.met.D.Disk.only_now old f left))) in
    let kept = scratched place scratch one other start start (disk.may_leave c.write.new.self) c.requires.apart first c.write.ensures.crash
    in
    let after_write = goes_on disk.moment disk.left_since old old c.write.new.self P _ begun c.write.ensures.time
    (λ f now. is_one _ _ _ _ _ f (kept f now)) in
    let either = put place scratch one other start (disk.may_leave c.write.new.self) (disk.may_leave c.link.new.self)
    (disk.seen c.write.new.self scratch) c.in_ok-write.ensures.written.there kept c.link.ensures.crash in
    let after_link = goes_on disk.moment disk.left_since old c.write.new.self c.link.new.self P _ after_write c.link.ensures.time either in
    after_link

pub returns-in_err-remove-clause-any_moment : goal.returns-in_err-remove-clause-any_moment
returns-in_err-remove-clause-any_moment g c =
    let disk = g.D.Disk in
    let old = c.args.disk.now in
    let place = at c.args.folder c.args.name.now in
    let scratch = at c.args.folder c.args.scratch.now in
    let one = disk.seen old place in
    let other = Some c.args.bytes.now in
    let start = disk.may_leave old in
    let P = IsOneOrOther place scratch one other start in
    let first = at_start place scratch one other start c.requires.settled in
    let begun = started disk.moment disk.left_since old P (λ f left. is_one _ _ _ _ _ f (first f (g.met.D.Disk.only_now old f left))) in
    let kept = scratched place scratch one other start start (disk.may_leave c.write.new.self) c.requires.apart first c.write.ensures.crash
    in
    let after_write = goes_on disk.moment disk.left_since old old c.write.new.self P _ begun c.write.ensures.time
    (λ f now. is_one _ _ _ _ _ f (kept f now)) in
    let either = put place scratch one other start (disk.may_leave c.write.new.self) (disk.may_leave c.link.new.self)
    (disk.seen c.write.new.self scratch) c.in_ok-write.ensures.written.there kept c.link.ensures.crash in
    let after_link = goes_on disk.moment disk.left_since old c.write.new.self c.link.new.self P _ after_write c.link.ensures.time either in
    let still = scratched_after place scratch one other start (disk.may_leave c.link.new.self)
    (disk.may_leave c.remove.new.self) c.requires.apart either c.remove.ensures.crash in
    let after_remove = goes_on disk.moment disk.left_since old c.link.new.self c.remove.new.self P _ after_link c.remove.ensures.time still
    in
    after_remove

pub returns-clause-any_moment : goal.returns-clause-any_moment
returns-clause-any_moment g c =
    let disk = g.D.Disk in
    let old = c.args.disk.now in
    let place = at c.args.folder c.args.name.now in
    let scratch = at c.args.folder c.args.scratch.now in
    let one = disk.seen old place in
    let other = Some c.args.bytes.now in
    let start = disk.may_leave old in
    let P = IsOneOrOther place scratch one other start in
    let first = at_start place scratch one other start c.requires.settled in
    let begun = started disk.moment disk.left_since old P (λ f left. is_one _ _ _ _ _ f (first f (g.met.D.Disk.only_now old f left))) in
    let kept = scratched place scratch one other start start (disk.may_leave c.write.new.self) c.requires.apart first c.write.ensures.crash
    in
    let after_write = goes_on disk.moment disk.left_since old old c.write.new.self P _ begun c.write.ensures.time
    (λ f now. is_one _ _ _ _ _ f (kept f now)) in
    let either = put place scratch one other start (disk.may_leave c.write.new.self) (disk.may_leave c.link.new.self)
    (disk.seen c.write.new.self scratch) c.in_ok-write.ensures.written.there kept c.link.ensures.crash in
    let after_link = goes_on disk.moment disk.left_since old c.write.new.self c.link.new.self P _ after_write c.link.ensures.time either in
    let still = scratched_after place scratch one other start (disk.may_leave c.link.new.self)
    (disk.may_leave c.remove.new.self) c.requires.apart either c.remove.ensures.crash in
    let after_remove = goes_on disk.moment disk.left_since old c.link.new.self c.remove.new.self P _ after_link c.remove.ensures.time still
    in
    let after_sync = goes_on disk.moment disk.left_since old c.remove.new.self c.sync_folder.new.self P _ after_remove
    c.sync_folder.ensures.time (λ f now. still f (c.sync_folder.ensures.crash f now)) in
    after_sync
