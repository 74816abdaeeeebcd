use Rattle.std.proofs.Common.{◌≡◌, ◌++◌, drop}
use Rattle.std.specs.Prelude.{filter, flat_map}
use Rattle.gp_window.specs.Ids.{contains_event}
use Rattle.gp_notify.specs.Pairs.{pair_of, pairs_of}
use Rattle.gp_notify.proofs.notify_problem.NotifyProblem.taken_pairs.Given as goal

abbrev pub invariant-loop-w : goal.invariant-loop-w
invariant-loop-w l =
    l.pairs ++ flat_map (pair_of l.self l.valuation) (filter (λ w. contains_event l.schedule w.id) (drop l.w-index l.w-items)) ≡ pairs_of l.self l.schedule l.valuation
