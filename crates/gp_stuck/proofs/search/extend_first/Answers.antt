-- Nothing is added where no cycle begins.
use Rattle.std.proofs.Common.{ap, refl, [], ◌∷◌, ◌∙◌, map, sym, List}
use Rattle.gp_window.specs.declared.schedule.EventId.{EventId}
use Rattle.gp_instance.specs.LimitLaws.{no_more}
use Rattle.gp_instance.specs.Search.{first_instances, instance_after}
use Rattle.gp_stuck.proofs.search.extend_first.Goals as goal

pub returns-then-not-may_begin : goal.returns-then-not-may_begin
returns-then-not-may_begin c =
    no_more c.args.found.now c.requires.room
    ∙ ap (λ (lists : List (List EventId)). first_instances c.args.found.now (map (instance_after 0 (c.args.first.now.holding.id ∷ [])) lists)) (sym (c.if-not-may_begin.ensures refl))
