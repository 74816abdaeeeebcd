-- What the tasks tell of one recording agrees, and a budget that is enough decides.
use Rattle.gp_patterns.specs.Question.{PatternsAnswered, patterns}
use Rattle.gp_resumed.specs.Question.{resumed}
use Rattle.gp_deadlocks.specs.Question.{deadlocks}
use Rattle.gp_notified.specs.Question.{notified}
use Rattle.gp_agreement.specs.Questions.{QuestionsAreAlike}
use Rattle.gp_agreement.specs.Tasks.{TasksAgree, TasksDecide}
use Rattle.gp_agreement.proofs.Agreement.{alike_agree}
use Rattle.gp_agreement.proofs.Enough.{enough_decided}

pub tasks_agreed : QuestionsAreAlike → PatternsAnswered → TasksAgree
tasks_agreed alike answered = record {
  analysed = λ recording properties count more budget larger one other a b.
      alike_agree (patterns properties) (patterns properties) (alike.analysed properties) recording count more budget larger one.windows other.windows
      ((answered recording properties count budget one).0 a).1 ((answered recording properties more larger other).0 b).1;
  kept = λ recording properties old older count more budget larger one other a b.
      alike_agree (resumed properties old) (resumed properties older) (alike.kept_again properties old older) recording count more budget larger one.windows other.windows a.windows b.windows;
  both = λ recording properties old count more budget larger one other a b.
      alike_agree (patterns properties) (resumed properties old) (alike.kept properties old) recording count more budget larger one.windows other.windows
      ((answered recording properties count budget one).0 a).1 b.windows;
  stuck = λ recording count more budget larger one other a b.
      alike_agree deadlocks deadlocks alike.stuck recording count more budget larger one.windows other.windows a.windows b.windows;
  signalled = λ recording properties count more budget larger one other a b.
      alike_agree (notified properties) (notified properties) (alike.signalled properties) recording count more budget larger one.windows other.windows a.windows b.windows;
}

pub tasks_decided : PatternsAnswered → TasksDecide
tasks_decided answered = record {
  analysed = λ recording properties count budget report is.
      enough_decided (patterns properties) recording count budget report.windows ((answered recording properties count budget report).0 is).1;
  kept = λ recording properties old count budget report is. enough_decided (resumed properties old) recording count budget report.windows is.windows;
  stuck = λ recording count budget report is. enough_decided deadlocks recording count budget report.windows is.windows;
  signalled = λ recording properties count budget report is. enough_decided (notified properties) recording count budget report.windows is.windows;
}
