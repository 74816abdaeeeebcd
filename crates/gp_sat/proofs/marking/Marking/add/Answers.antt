use Rattle.std.proofs.Common.{sym, subst, ℕ, true, List}
use Rattle.std.specs.Prelude.{slice_set}
use Rattle.gp_sat.specs.Queueing.{AreListed}
use Rattle.gp_sat.proofs.Queueing.{listed_only, listed_more}
use Rattle.gp_sat.proofs.marking.Marking.add.Goals as goal

pub returns-in_err-push-2-clause-listed : goal.returns-in_err-push-2-clause-listed
returns-in_err-push-2-clause-listed c = subst (λ (vs : List ℕ). AreListed c.args.self.now.marks.items vs) (sym c.in_ok-push.ensures.items)
    (listed_only c.args.self.now.marks.items c.args.self.now.marked.items c.args.variable c.requires.within c.requires.listed)

pub returns-clause-listed : goal.returns-clause-listed
returns-clause-listed c = subst (λ (vs : List ℕ). AreListed (slice_set c.args.self.now.marks.items c.args.variable true) vs) (sym c.in_ok-push.ensures.items)
    (listed_more c.args.self.now.marks.items c.args.self.now.marked.items c.args.variable c.requires.within c.requires.listed)
