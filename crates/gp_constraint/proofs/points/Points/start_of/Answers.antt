use Rattle.std.proofs.Common.{ap, ◌∙◌, ℕ}
use Rattle.std.specs.Prelude.{find}
use Rattle.gp_constraint.specs.Starts.{is_start_of}
use Rattle.gp_constraint.proofs.Tabled.{start_found}
use Rattle.gp_constraint.proofs.points.Points.start_of.Goals as goal

pub returns : goal.returns
returns c =
    let thread : ℕ = c.args.thread in
    c.first_start.ensures ∙ ap (find (is_start_of thread)) (c.as_slice.ensures ∙ c.self.invariant.started)
    ∙ start_found thread c.self.inside.all ∙ ap (find (is_start_of thread)) c.self.view_is
