use Rattle.std.proofs.Common.{ap, ◌∙◌, List}
use Rattle.std.specs.Prelude.{find}
use Rattle.gp_constraint.specs.declared.point.Point.{Point}
use Rattle.gp_constraint.specs.Joins.{is_last_of}
use Rattle.gp_constraint.proofs.Tabled.{last_found}
use Rattle.gp_constraint.proofs.joins.last_of.Goals as goal

pub returns : goal.returns
returns c =
    c.first_last.ensures ∙ ap (λ (lasts : List Point). find (is_last_of c.args.window.now c.args.thread) lasts) c.requires
    ∙ last_found c.args.window.now c.args.thread c.args.points.now
