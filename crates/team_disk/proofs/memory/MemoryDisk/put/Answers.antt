use Rattle.std.proofs.Common.{◌≡◌, List, [], ◌∷◌, ◌++◌, Option, None, refl, sym, subst}
use Rattle.team_disk.specs.Disk.{Written, at, as_read}
use Rattle.team_disk.specs.Memory.{files_of}
use Rattle.team_disk.specs.declared.memory.Change.{Change}
use Rattle.team_disk.proofs.MemoryLemmas.{written_push, elapses_push, stays_put, puts}
use Rattle.team_disk.proofs.memory.MemoryDisk.put.Goals as goal

pub returns-in_err-place-clause-crash : goal.returns-in_err-place-clause-crash
returns-in_err-place-clause-crash c = stays_put c.args.self.now.changes.items c.args.self.now.changes.items
    (at c.args.folder c.args.name.now) (as_read c.args.bytes) refl

pub returns-in_err-change-clause-crash : goal.returns-in_err-change-clause-crash
returns-in_err-change-clause-crash c = stays_put c.args.self.now.changes.items c.change.new.self.changes.items
    (at c.args.folder c.args.name.now) (as_read c.args.bytes) c.in_err-change.ensures.err

pub returns-clause-written : goal.returns-clause-written
returns-clause-written c =
    let change : Change = record { place = c.in_ok-place.place; bytes = c.args.bytes; left = None } in
    subst (λ (l : List Change). Written (at c.args.folder c.args.name.now) (as_read c.args.bytes) (files_of c.args.self.now.changes.items)
    (files_of l))
    (sym c.in_ok-change.ensures.made) (written_push c.args.self.now.changes.items change _ c.in_ok-place.ensures.place refl)

pub returns-clause-crash : goal.returns-clause-crash
returns-clause-crash c =
    let change : Change = record { place = c.in_ok-place.place; bytes = c.args.bytes; left = None } in
    puts c.args.self.now.changes.items c.change.new.self.changes.items (at c.args.folder c.args.name.now) (as_read c.args.bytes)
    (subst (λ (l : List Change). Written (at c.args.folder c.args.name.now) (as_read c.args.bytes)
    (files_of c.args.self.now.changes.items) (files_of l))
    (sym c.in_ok-change.ensures.made) (written_push c.args.self.now.changes.items change _ c.in_ok-place.ensures.place refl))

pub returns-clause-time : goal.returns-clause-time
returns-clause-time c = elapses_push c.args.self.now.changes.items c.change.new.self.changes.items
    (record { place = c.in_ok-place.place; bytes = c.args.bytes; left = None }) c.in_ok-change.ensures.made
