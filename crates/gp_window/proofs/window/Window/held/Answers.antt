-- Holdings in order are those of their holders and of their readers together.
use Rattle.std.proofs.Common.{◌∙◌, ap}
use Rattle.gp_window.specs.WindowForm.{held_at_start}
use Rattle.gp_window.proofs.HeldAtStart.{held_again}
use Rattle.gp_window.proofs.window.Window.held.Goals as goal

pub returns-clause-value : goal.returns-clause-value
returns-clause-value c = held_again c.self.inside.held c.self.invariant.1 ∙ ap held_at_start c.self.view_is
