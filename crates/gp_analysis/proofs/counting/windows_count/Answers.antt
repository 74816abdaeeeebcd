-- One window more is counted.
use Rattle.std.proofs.Common.{◌≡◌, ◌∷◌, subst}
use Rattle.gp_window.specs.Windows.{TakesFirst}
use Rattle.gp_analysis.specs.Tickets.{window_count}
use Rattle.gp_analysis.proofs.Counted.{one_counted}
use Rattle.gp_analysis.proofs.counting.windows_count.Goals as goal

pub loop-window-preserved : goal.loop-window-preserved
loop-window-preserved g c =
    let first : c.loop-window.windows ≡ c.in-Some.window ∷ c.next.new.self = subst (λ window. TakesFirst c.loop-window.windows window c.next.new.self) c.in-Some.is c.in_ok-window.ensures in
    one_counted (window_count (g.Q.Question.form c.args.question.now) c.args.counted) c.loop-window.windows c.next.new.self c.in-Some.window c.loop-window.count c.in_ok-window_count.field-0 c.in_ok-count.count
    _ first c.in_ok-window_count.ensures c.in_ok-count.ensures c.loop-window.invariant
