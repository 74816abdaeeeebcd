-- The list has room at first, and so at last.
use Rattle.std.proofs.Common.{sym, subst}
use Rattle.gp_analysis.specs.Certificates.{HasGrown, HasRoom, certificates_all}
use Rattle.gp_analysis.proofs.FirstWalk.{found_grown, room_all, room_begun}
use Rattle.gp_analysis.proofs.sharing.moved_over.Goals as goal

pub returns-in-Ok-clause-grown : goal.returns-in-Ok-clause-grown
returns-in-Ok-clause-grown g c =
    let source = c.args.source.now in
    let begun = c.in_ok-sharing.sharing in
    let all = certificates_all source.clauses source.gained source.records.now c.args.listed.now c.args.answers.now in
    let room : HasRoom begun = subst HasRoom (sym c.in_ok-sharing.ensures) (room_begun c.args.problem.now c.args.shared) in
    subst HasGrown (sym c.found.ensures) (found_grown c.share_all.new.sharing (subst HasRoom (sym c.in-Ok.ensures) (room_all begun all room)))
