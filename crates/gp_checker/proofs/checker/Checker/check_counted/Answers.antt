use Rattle.std.proofs.Common.{◌≡◌, length, Ok, arith}
use Rattle.std.proofs.lemmas.Result.{IfOk-weaker}
use Rattle.gp_report.specs.declared.record.PropertyBodyOf.TheVariants.{Entries}
use Rattle.gp_checker.specs.Finds.{FindsEntries, FindsListed}
use Rattle.gp_checker.proofs.Finds.{entries_found}
use Rattle.gp_checker.proofs.checker.Checker.check_counted.Goals as goal

pub returns-clause-found : goal.returns-clause-found
returns-clause-found c =
    let basis = c.args.self.now in
    let property = c.args.property.now in
    let instances = c.args.instances.now in
    let entries = c.args.entries.now in
    let count : length c.args.entries.now ≡ length c.args.instances.now = omega arith in
    IfOk-weaker c.check_entries.result (FindsEntries basis property instances entries) (FindsListed basis property (Ok instances) (Entries entries))
    (entries_found basis property instances entries count) c.check_entries.ensures.found
