-- What passed between the workers, or that nothing did, is told by their records.
use Rattle.gp_analysis.proofs.window.work.Goals as goal

pub returns-in_ok-done-in-SideBySide-clause-alone : goal.returns-in_ok-done-in-SideBySide-clause-alone
returns-in_ok-done-in-SideBySide-clause-alone g c = λ one. (c.in_ok-done-in-SideBySide.ensures.alone one).records

pub returns-in_ok-done-in-SideBySide-clause-shared : goal.returns-in_ok-done-in-SideBySide-clause-shared
returns-in_ok-done-in-SideBySide-clause-shared g c = λ two.
    let done = c.in_ok-done-in-SideBySide.done in
    c.takes_prefixes.ensures c.args.problem.now c.args.task.now.workers done.records done.passes (c.in_ok-done-in-SideBySide.ensures.shared two)

pub returns-in_ok-done-in-InTurn-clause-alone : goal.returns-in_ok-done-in-InTurn-clause-alone
returns-in_ok-done-in-InTurn-clause-alone g c = λ one. (c.in_ok-done-in-InTurn.ensures.alone one).0.records

pub returns-in_ok-done-in-InTurn-clause-shared : goal.returns-in_ok-done-in-InTurn-clause-shared
returns-in_ok-done-in-InTurn-clause-shared g c = λ two.
    let post = c.in_ok-done-in-InTurn.post in
    c.takes_prefixes.ensures c.args.problem.now c.args.task.now.workers c.in_ok-done-in-InTurn.done.records post.passes.items (c.in_ok-done-in-InTurn.ensures.shared two)
