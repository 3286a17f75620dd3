use Rattle.std.proofs.Common.{refl}
use Rattle.team_disk.specs.Disk.{at}
use Rattle.team_disk.specs.Memory.{files_of}
use Rattle.team_disk.proofs.MemoryLemmas.{stays_put}
use Rattle.team_disk.proofs.memory.MemoryDiskDisk.link.Goals as goal

pub returns-in_err-bytes_at-clause-crash : goal.returns-in_err-bytes_at-clause-crash
returns-in_err-bytes_at-clause-crash c = stays_put c.args.self.now.changes.items c.args.self.now.changes.items
    (at c.args.to_folder c.args.to.now) (files_of c.args.self.now.changes.items (at c.args.from_folder c.args.from.now)) refl

pub returns-then-is_some-clause-crash : goal.returns-then-is_some-clause-crash
returns-then-is_some-clause-crash c = stays_put c.args.self.now.changes.items c.args.self.now.changes.items
    (at c.args.to_folder c.args.to.now) (files_of c.args.self.now.changes.items (at c.args.from_folder c.args.from.now)) refl

pub returns-in_err-bytes-clause-crash : goal.returns-in_err-bytes-clause-crash
returns-in_err-bytes-clause-crash c = stays_put c.args.self.now.changes.items c.args.self.now.changes.items
    (at c.args.to_folder c.args.to.now) (files_of c.args.self.now.changes.items (at c.args.from_folder c.args.from.now)) refl
