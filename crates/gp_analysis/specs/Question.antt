-- A question that is asked of each window of a recording.
use Rattle.std.specs.Prelude.{ℕ, ℤ, Bool, true, ◌≡◌, ◌≢◌, ◌≤◌, ◌++◌, List, Option, Some, None, Result, All, length}
use Rattle.std.specs.List.{AllByRecursion}
use Rattle.gp_certificate.specs.declared.certificate.Certificate.{Certificate}
use Rattle.gp_certificate.specs.declared.step.Step.{Step}
use Rattle.gp_certificate.specs.Shared.{RefutesOver, SharedPasses}
use Rattle.gp_clause.specs.declared.problem.Problem.{Problem}
use Rattle.gp_clause.specs.declared.problem.Query.{Query}
use Rattle.gp_clause.specs.Clause.{HoldsAll}
use Rattle.gp_clause.specs.Edge.{IsSolvable}
use Rattle.gp_clause.specs.Lit.{HoldsLit}
use Rattle.gp_clause.specs.Problem.{IsValidProblem, IsValidQuery}
use Rattle.gp_clause.specs.Valuation.{IsValuation}
use Rattle.gp_instance.specs.declared.instance.Instance.{Instance}
use Rattle.gp_instance.specs.declared.instance.InstancesFault.{InstancesFault}
use Rattle.gp_instance.specs.ListedLaws.{ListsEach}
use Rattle.gp_report.specs.declared.record.AnswerOf.{AnswerOf}
use Rattle.gp_report.specs.declared.record.AnswerOf.TheVariants.{Found, Impossible, Undecided}
use Rattle.gp_window.specs.declared.schedule.EventId.{EventId}
use Rattle.gp_window.specs.WindowForm.{IsWindow, WindowForm}
use Rattle.gp_analysis.specs.declared.question.LeftOut.{LeftOut}

-- what is asked of a window: the subjects and their names; why the window is left out, and whether that is known without its
-- constraints, by its number of events; else its problem and the steps that its certificates share from the start; the asks of
-- a subject with its number; of the events of an ask its query, the answer that it has already, and what shows it
pub record QuestionForm (Subject Shown : Type 0) : Type 1 where
  pub subjects : List Subject
  pub name : Subject → List ℕ
  pub left_out : WindowForm → Option LeftOut
  pub is_large : WindowForm → Bool
  pub problem : WindowForm → Problem
  pub shared : WindowForm → List Step
  pub asks : WindowForm → Subject → ℕ → Result (List Instance) InstancesFault
  pub query : WindowForm → Subject → List EventId → Query
  pub given : WindowForm → Subject → List EventId → Option (AnswerOf Shown)
  pub shows : WindowForm → Subject → List EventId → Shown → Type 0

-- impossible: nothing shows it, and the certificate refutes its query over the shared steps
pub record IsRefuted {Subject Shown : Type 0} (question : QuestionForm Subject Shown) (window : WindowForm) (subject : Subject) (ids : List EventId) (shared : List Step) (certificate : Certificate) : Type 0 where
  pub impossible : (shown : Shown) → question.shows window subject ids shown → ⊥
  pub refutes : RefutesOver (question.problem window) shared (question.query window subject ids) certificate

-- an answer that holds by itself: something shows it, or it is refuted
abbrev pub Holds : {Subject Shown : Type 0} → QuestionForm Subject Shown → WindowForm → Subject → List EventId → List Step → AnswerOf Shown → Type 0
Holds question window subject ids shared (Found shown) = question.shows window subject ids shown
Holds question window subject ids shared (Impossible certificate) = IsRefuted question window subject ids shared certificate
Holds question window subject ids shared (Undecided worker from to) = ⊥

-- no valuation of a problem with the locals of a query makes the clauses and the assumptions true
abbrev pub HasNoValuation : Problem → Query → Type 0
HasNoValuation problem query =
    (truth : ℕ → Bool) (place : ℕ → ℤ) → IsValuation problem.points problem.edges (problem.kinds ++ query.locals) truth place
    → HoldsAll truth problem.clauses → All (HoldsLit truth) query.assumed → ⊥

-- what is listed of a subject, whatever its number, is too many, or events that are asks of it
abbrev pub ListsAsks : {Subject Shown : Type 0} → QuestionForm Subject Shown → (WindowForm → Subject → List EventId → Type 0) → Subject → Type 0
ListsAsks question lists subject = (window : WindowForm) (number : ℕ) → ListsEach (lists window subject) (question.asks window subject number)

-- an ask has one to six events; and where its window is not left out, its query is valid, nothing shows it where the query has
-- no valuation, and an answer that it has already holds
pub record IsAsk {Subject Shown : Type 0} (question : QuestionForm Subject Shown) (window : WindowForm) (subject : Subject) (ids : List EventId) : Type 0 where
  pub some : 1 ≤ length ids
  pub few : length ids ≤ 6
  pub query : question.left_out window ≡ None → IsValidQuery (question.problem window) (question.query window subject ids)
  pub complete : IsWindow window → question.left_out window ≡ None → HasNoValuation (question.problem window) (question.query window subject ids)
      → (shown : Shown) → question.shows window subject ids shown → ⊥
  pub given : IsWindow window → question.left_out window ≡ None → (answer : AnswerOf Shown) → question.given window subject ids ≡ Some answer
      → Holds question window subject ids (question.shared window) answer

-- the problem of a window that is not left out, and the steps that its certificates share
pub record IsAnswerable {Subject Shown : Type 0} (question : QuestionForm Subject Shown) (window : WindowForm) : Type 0 where
  pub valid : IsValidProblem (question.problem window)
  pub solvable : IsSolvable (question.problem window).edges
  pub few_clauses : length (question.problem window).clauses ≤ 500000
  pub shares : SharedPasses (question.problem window) (question.shared window)

-- what the answers rest on: there are few subjects; what is listed of each are asks, which have one to six events, and valid
-- queries; a query without a valuation means that nothing shows its ask; an answer that is given holds; the problem of a
-- window that is not left out is valid, its edges can be kept, its clauses are few, and the steps that are shared pass; and a
-- window that is large is left out
pub record IsLawful {Subject Shown : Type 0} (question : QuestionForm Subject Shown) (lists : WindowForm → Subject → List EventId → Type 0) : Type 0 where
  pub few : length question.subjects ≤ 64
  pub listed : AllByRecursion (ListsAsks question lists) question.subjects
  pub ask : (window : WindowForm) (subject : Subject) (ids : List EventId) → lists window subject ids → IsAsk question window subject ids
  pub problem : (window : WindowForm) → question.left_out window ≡ None → IsAnswerable question window
  pub large : (window : WindowForm) → question.is_large window ≡ true → question.left_out window ≢ None
