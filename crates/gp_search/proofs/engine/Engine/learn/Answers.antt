use Rattle.std.proofs.Common.{ap, inl, inr, List, length, arith}
use Rattle.std.proofs.lemmas.List.{length_push}
use Rattle.gp_derivation.specs.declared.log.LogEntry.{LogEntry}
use Rattle.gp_search.proofs.Choosing.{on_any}
use Rattle.gp_search.proofs.Offering.{learns_and_offers}
use Rattle.gp_search.proofs.engine.Engine.learn.Goals as goal

pub returns-in_err-log_lesson-clause-err : goal.returns-in_err-log_lesson-clause-err
returns-in_err-log_lesson-clause-err g c = on_any _ (inl c.in_err-log_lesson.ensures.err)

pub share-requires-clause-last : goal.share-requires-clause-last
share-requires-clause-last g c =
    let one = c.in_ok-log_lesson.ensures.ok in
    omega (arith, one.learned, ap (λ (es : List LogEntry). length es) one.log, length_push c.args.self.now.log.items one.entry, c.requires.turning.whole.log.within)

pub returns-clause-ok : goal.returns-clause-ok
returns-clause-ok g c =
    learns_and_offers c.share.result c.args.asked.now.problem.now c.args.self.now c.log_lesson.new.self (g.M.Mail.told c.args.mail.now) (g.M.Mail.told c.share.new.mail) c.in_ok-log_lesson.ensures.ok c.share.ensures.offers

pub returns-clause-err : goal.returns-clause-err
returns-clause-err g c = on_any _ (inr c.in_ok-log_lesson.ensures.ok)
