-- A lock that is no suspect is not contested.
use Rattle.std.proofs.Common.{◌∙◌, sym}
use Rattle.gp_window.proofs.Suspects.{unsuspected}
use Rattle.gp_window.proofs.holders.Holders.is_contested.Goals as goal

pub returns-in-None : goal.returns-in-None
returns-in-None c =
    unsuspected c.args.held.now c.self.inside.held c.self.inside.users c.self.inside.suspects c.args.lock
    (c.requires ∙ sym c.self.view_is) c.self.invariant.0 c.self.invariant.1 c.in-None.ensures
