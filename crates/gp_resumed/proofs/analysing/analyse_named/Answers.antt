-- What is recorded of all windows is a report, which answers the recording and shares what is kept.
use Rattle.std.proofs.Common.{refl, sym, subst, inr, arith}
use Rattle.gp_analysis.specs.RecordedLaws.{all_answered, is_report}
use Rattle.gp_window.specs.Windows.{all_windows}
use Rattle.gp_resumed.specs.Answered.{IsAnswered}
use Rattle.gp_resumed.specs.Question.{resumed}
use Rattle.gp_resumed.proofs.Shared.{each_shares}
use Rattle.gp_resumed.proofs.analysing.analyse_named.Goals as goal

pub new-requires : goal.new-requires
new-requires g c =
    is_report (resumed g.N.Naming.properties g.N.Naming.old) c.args.workers c.args.budget 2 c.args.recording.now c.in_ok-windows.windows (inr refl) (λ one. absurd (omega (arith, one))) c.requires.budget c.requires.most
    c.in_ok-windows.ensures

pub returns-clause-answered : goal.returns-clause-answered
returns-clause-answered g c =
    let properties = g.N.Naming.properties in
    let old = g.N.Naming.old in
    let recording = c.args.recording.now in
    let windows = c.in_ok-windows.windows in
    subst (IsAnswered recording properties old c.args.workers c.args.budget) (sym c.new.ensures) (record {
      same_budget = refl;
      windows = all_answered (resumed properties old) c.args.workers c.args.budget recording windows c.in_ok-windows.ensures;
      shared = each_shares properties old c.args.workers c.args.budget (all_windows recording) windows c.in_ok-windows.ensures;
    })
