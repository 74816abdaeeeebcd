-- The answers of all windows are a report, and the schedules of linked ones replay.
use Rattle.std.proofs.Common.{◌∙◌, ap, refl, sym, subst, List, length, suc}
use Rattle.gp_linked.specs.declared.answer.LinkAnswer.{LinkAnswer}
use Rattle.gp_linked.specs.Answered.{AnswersFrom}
use Rattle.gp_linked.specs.Replayed.{ReplayFromStart}
use Rattle.gp_linked.proofs.recording.link_recording.Goals as goal

pub returns : goal.returns
returns g c =
    let recording = c.args.recording.now in
    let links = c.in_ok-links.ensures in
    let replays = c.linked_windows_replay.ensures recording c.args.budget c.in_ok-links.links.items c.keeps_rules.ensures links.count links.answers in
    record {
      budget_is = refl;
      count = ap (λ (links : List LinkAnswer). suc (length links)) c.from_vec.ensures ∙ links.count;
      answers = subst (AnswersFrom recording c.args.budget 1) (sym c.from_vec.ensures) links.answers;
      replays = subst (ReplayFromStart recording) (sym c.from_vec.ensures) replays;
    }
