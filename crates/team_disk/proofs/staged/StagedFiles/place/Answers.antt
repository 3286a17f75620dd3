use Rattle.team_disk.proofs.PlaceLemmas.{own_apart}
use Rattle.team_disk.proofs.staged.StagedFiles.place.Goals as goal

-- what waits beside the file that was put is on the disk still
pub invariant_of-self-2 : goal.invariant_of-self-2
invariant_of-self-2 g c = record {
  staged = λ each own.
      let apart = own_apart each c.args.name.now own in
      c.rename.ensures.synced each apart apart (c.read.ensures.synced each (c.args.self.now.staged each own));
}
