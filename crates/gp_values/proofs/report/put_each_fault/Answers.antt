-- One fault more goes from what is left to what is put.
use Rattle.std.proofs.lemmas.List.{get_or_default}
use Rattle.gp_json.specs.JsonLaws.{one_more}
use Rattle.gp_values.specs.Report.{fault_value}
use Rattle.gp_values.proofs.report.put_each_fault.Goals as goal

pub loop-before-preserved : goal.loop-before-preserved
loop-before-preserved c =
    rw (c.in_ok-put_fault_string.ensures, c.in_ok-put_comma.ensures)
    (one_more fault_value c.loop-before.text.items _ c.args.faults.now _ c.loop-before.before c.loop-before-test.true (get_or_default c.args.faults.now c.loop-before.before _ _ c.loop-before-test.true) c.loop-before.invariant)
