use Rattle.std.proofs.Common.{◌∙◌, ap}
use Rattle.sty_sheet.proofs.Entries.{records, puts, keyed_result}
use Rattle.sty_sheet.proofs.records.Records.insert.Goals as goal

pub invariant_of-self : goal.invariant_of-self
invariant_of-self c =
    record {
      keyed = keyed_result c.insert.result c.args.self.now.styles.entries c.insert.new.self.entries c.marker.result c.args.listed
          c.marker.ensures c.args.self.now.keyed c.insert.ensures.entries c.insert.ensures.err;
    }

pub returns-clause-puts : goal.returns-clause-puts
returns-clause-puts c =
    ap records c.in_ok-insert.ensures.entries ∙ puts c.args.self.now.styles.entries c.marker.result c.args.listed c.marker.ensures
    c.args.self.now.keyed
