use Rattle.std.proofs.Common.{None, false}
use Rattle.covered_verses.specs.declared.covered.Covered.{Covered}
use Rattle.missing_verses.proofs.Tallies.{count_more}
use Rattle.missing_verses.proofs.tally.tallies_of.Goals as goal

abbrev no_verse : Covered
no_verse = record { first = 0; letter = None; last = 0; last_letter = None; written = false }

pub loop-one-preserved : goal.loop-one-preserved
loop-one-preserved c =
    count_more c.args.covers.now c.loop-one.one-index no_verse _ _ c.loop-one-test.true c.loop-one.invariant c.count.ensures
