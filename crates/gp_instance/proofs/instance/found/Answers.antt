-- The search begins with the candidates of each atom.
use Rattle.std.proofs.Common.{◌∙◌}
use Rattle.gp_instance.proofs.Choices.{begun, never_begun}
use Rattle.gp_instance.proofs.Thin.{copy_finds}
use Rattle.gp_instance.proofs.instance.found.Goals as goal
use Rattle.gp_instance.proofs.instance.found.Goals.{in-Some+in_ok-search, in_default}

pub returns : goal.returns
returns c =
    let segments = c.in_ok-segments.segments in
    let atoms = c.args.atoms.now in
    elim c.match-branch-3.branch [
      | in-Some+in_ok-search w ↦
          let same = rw w.in-Some.is at c.in_ok-domains.ensures in
          w.found-is ∙ begun c.args.window.now.segments segments atoms c.args.number w.as_slice.result.now _ _ c.in_ok-segments.ensures (copy_finds _ _ _ _ _ w.as_slice.ensures same) c.new-found.ensures (rw w.new-dead_ends.ensures at w.in_ok-search.ensures.found)
      | in_default w ↦
          let none = rw w.in_default.is at c.in_ok-domains.ensures in
          w.found-is ∙ never_begun c.args.window.now.segments segments atoms c.args.number _ c.in_ok-segments.ensures none c.new-found.ensures
    ]
