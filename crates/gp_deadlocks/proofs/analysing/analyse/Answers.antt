-- What is recorded of all windows is a report, which answers the recording.
use Rattle.std.proofs.Common.{refl, sym, subst, inl}
use Rattle.gp_analysis.specs.RecordedLaws.{all_answered, is_report}
use Rattle.gp_deadlocks.specs.Question.{IsAnswered, deadlocks}
use Rattle.gp_deadlocks.proofs.analysing.analyse.Goals as goal

pub new-requires : goal.new-requires
new-requires g c =
    is_report deadlocks c.args.workers c.args.budget 1 c.args.recording.now c.in_ok-windows.windows (inl refl) (λ one window. refl) c.requires.budget c.requires.most c.in_ok-windows.ensures

pub returns-clause-answered : goal.returns-clause-answered
returns-clause-answered g c =
    subst (IsAnswered c.args.recording.now c.args.workers c.args.budget) (sym c.new.ensures)
    (record { same_budget = refl; windows = all_answered deadlocks c.args.workers c.args.budget c.args.recording.now c.in_ok-windows.windows c.in_ok-windows.ensures })
