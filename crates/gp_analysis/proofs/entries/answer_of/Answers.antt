-- A refutation is recorded as its certificate over the steps that are shared.
use Rattle.gp_analysis.specs.Certificates.{steps_by}
use Rattle.gp_analysis.proofs.Recordings.{told_over}
use Rattle.gp_analysis.proofs.entries.answer_of.Goals as goal

pub returns-in_ok-told-in-Refuted : goal.returns-in_ok-told-in-Refuted
returns-in_ok-told-in-Refuted g c =
    let source = c.args.certifying.now.source in
    told_over (g.Q.Question.form c.args.question.now) source.records.now (steps_by c.args.certifying.now.moved) (g.Q.Question.window_in c.args.encoded.now) c.args.subject.now c.args.ask.now.events
    c.args.answer c.in-Refuted.worker c.in-Refuted.last c.in_ok-certificate-in-Refuted.certificate c.in_ok-told-in-Refuted.told source.clauses source.gained
    c.in-Refuted.is c.requires.source.clauses c.requires.source.gained c.in_ok-certificate-in-Refuted.ensures c.in_ok-told-in-Refuted.ensures
