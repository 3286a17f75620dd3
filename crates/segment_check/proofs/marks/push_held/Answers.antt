use Rattle.segment_check.proofs.FoundLemmas.{all_told}
use Rattle.segment_check.proofs.marks.push_held.Goals as goal

pub returns : goal.returns
returns c =
    all_told c.args.held c.args.start c.args.key
    c.args.findings.now.items c.push_if.new.findings.items c.push_if-2.new.findings.items c.push_if-3.new.findings.items
    c.push_if-4.new.findings.items c.push_if-5.new.findings.items c.push_if-6.new.findings.items c.push_if-7.new.findings.items
    c.push_if-8.new.findings.items c.push_if-9.new.findings.items c.push_if-10.new.findings.items
    c.in_ok-push_if.ensures c.in_ok-push_if-2.ensures c.in_ok-push_if-3.ensures c.in_ok-push_if-4.ensures c.in_ok-push_if-5.ensures
    c.in_ok-push_if-6.ensures c.in_ok-push_if-7.ensures c.in_ok-push_if-8.ensures c.in_ok-push_if-9.ensures c.in_ok-push_if-10.ensures
