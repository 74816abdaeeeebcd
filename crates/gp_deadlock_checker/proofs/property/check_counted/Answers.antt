use Rattle.std.proofs.Common.{◌≡◌, length, Ok, arith}
use Rattle.std.proofs.lemmas.Result.{IfOk-weaker}
use Rattle.gp_report.specs.declared.record.PropertyBodyOf.TheVariants.{Entries}
use Rattle.gp_deadlock_checker.specs.Finds.{FindsEntries, FindsListed}
use Rattle.gp_deadlock_checker.proofs.Finds.{entries_found}
use Rattle.gp_deadlock_checker.proofs.property.check_counted.Goals as goal

pub returns-clause-found : goal.returns-clause-found
returns-clause-found c =
    let basis = c.args.checker.now in
    let cycles = c.args.cycles.now in
    let entries = c.args.entries.now in
    let count : length c.args.entries.now ≡ length c.args.cycles.now = omega arith in
    IfOk-weaker c.check_entries.result (FindsEntries basis cycles entries) (FindsListed basis (Ok cycles) (Entries entries))
    (entries_found basis cycles entries count) c.check_entries.ensures.found
