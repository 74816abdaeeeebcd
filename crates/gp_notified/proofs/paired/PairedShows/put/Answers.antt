-- The lines of the schedule, and then those of the pairs.
use Rattle.std.proofs.Common.{◌≡◌, ◌++◌, ◌∙◌, ap, List, ℕ, OnOk, subst}
use Rattle.gp_notify.specs.declared.pair.Pair.{Pair}
use Rattle.gp_text.specs.Spelling.{spelling}
use Rattle.gp_writer.specs.LinesLaws.{lines_put}
use Rattle.gp_report.specs.Printed.{schedule_lines}
use Rattle.gp_notified.specs.Shown.{pairs_lines}
use Rattle.gp_notified.proofs.paired.PairedShows.put.Goals as goal

pub returns : goal.returns
returns c =
    let own = c.args.self.now in
    let pairs = c.as_slice.result.now in
    let front = ap (λ (text : List ℕ). text ++ spelling (pairs_lines pairs)) c.in_ok-put.ensures in
    let lines = lines_put c.args.text.now.items (schedule_lines own.schedule) (pairs_lines pairs) in
    let same = ap (λ (ps : List Pair). c.args.text.now.items ++ spelling (schedule_lines own.schedule ++ pairs_lines ps)) c.as_slice.ensures in
    subst (λ (text : List ℕ). OnOk c.put_pairs.result (c.put_pairs.new.text.items ≡ text)) (front ∙ lines ∙ same) c.put_pairs.ensures
