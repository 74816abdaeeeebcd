use Rattle.std.proofs.Common.{arith}
use Rattle.gp_predict.proofs.Counted.{most}
use Rattle.gp_predict.proofs.listing.add_property.Goals as goal

pub returns-in_ok-added-in-Ok-clause-most : goal.returns-in_ok-added-in-Ok-clause-most
returns-in_ok-added-in-Ok-clause-most c =
    let within = most c.args.window.now c.args.property.now c.args.number c.in-Ok.found c.in-Ok.ensures in omega (arith, within)
