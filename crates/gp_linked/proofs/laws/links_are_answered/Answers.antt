use Rattle.gp_linked.proofs.Joined.{answer_by, links_by, model_of, unlinked_by}
use Rattle.gp_linked.proofs.laws.links_are_answered.Goals as goal

pub returns : goal.returns
returns c =
    let complete = c.links_are_complete.ensures in
    let schedules = c.schedules_are_complete.ensures in
    record {
      links = links_by c.extensions_mean.ensures c.links_are_sound.ensures c.witnesses_are_sound.ensures;
      model = model_of complete schedules;
      answer = answer_by complete schedules c.links_are_valid.ensures c.valuations_meet.ensures;
      unlinked = unlinked_by complete schedules;
    }
