-- The chain is added where it closes, and nothing where it does not.
use Rattle.std.proofs.Common.{ap, Bool, cond, [], ◌∷◌, ◌∙◌, List, map, sym}
use Rattle.std.proofs.lemmas.List.{append-nil}
use Rattle.std.proofs.lemmas.Result.{on_ok_weaker}
use Rattle.gp_window.specs.declared.schedule.EventId.{EventId}
use Rattle.gp_instance.specs.Instances.{numbered}
use Rattle.gp_instance.specs.LimitLaws.{no_more}
use Rattle.gp_instance.specs.Search.{first_instances, instance_after}
use Rattle.gp_stuck.proofs.search.close.Goals as goal

pub returns-then-not-closes : goal.returns-then-not-closes
returns-then-not-closes c =
    no_more c.args.found.now c.requires.room
    ∙ ap (λ (b : Bool). first_instances c.args.found.now (map (instance_after 0 (c.args.first.now.holding.id ∷ c.args.passed.now)) (cond b ([] ∷ []) []))) c.if-not-closes.ensures

pub returns : goal.returns
returns c = on_ok_weaker c.add.result (λ is.
    is ∙ ap (λ (ids : List EventId). first_instances c.args.found.now (numbered 0 ids ∷ [])) (sym (append-nil (c.args.first.now.holding.id ∷ c.args.passed.now)))
    ∙ ap (λ (b : Bool). first_instances c.args.found.now (map (instance_after 0 (c.args.first.now.holding.id ∷ c.args.passed.now)) (cond b ([] ∷ []) []))) c.if-not-closes.ensures) c.add.ensures
