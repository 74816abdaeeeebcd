-- What is left, unless it is a dead end that was met.
use Rattle.gp_instance.specs.Search.{chosen_of, narrowed}
use Rattle.gp_instance.proofs.search.after_choice.Goals as goal

pub returns : goal.returns
returns c =
    c.unless_met.ensures c.args.later.now (narrowed c.args.dead_ends.now.0 (chosen_of c.args.dead_ends.now.0 c.args.atom.now c.args.id) c.args.later.now c.args.others.now)
    c.requires.last (rw c.segments-segments.ensures at c.in_ok-left.ensures)
