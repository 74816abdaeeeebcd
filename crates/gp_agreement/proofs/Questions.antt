-- Which of the questions are alike.
use Rattle.std.proofs.Common.{refl, sym, ℕ, ◌+◌, List, [], ◌∷◌}
use Rattle.std.specs.List.{enumerate_from}
use Rattle.gp_property.specs.PropertyForm.{PropertyForm}
use Rattle.gp_report.specs.ReportForm.{ReportForm}
use Rattle.gp_analysis.specs.Question.{QuestionForm}
use Rattle.gp_patterns.specs.Question.{patterns}
use Rattle.gp_resumed.specs.Question.{resumed}
use Rattle.gp_deadlocks.specs.Question.{deadlocks}
use Rattle.gp_notified.specs.Question.{notified}
use Rattle.gp_agreement.specs.Alike.{AllAskTheSame, AreAlike}
use Rattle.gp_agreement.specs.Questions.{QuestionsAreAlike}

-- a question is alike to itself
subjects_same : {Subject Shown : Type 0} (question : QuestionForm Subject Shown) (number : ℕ) (subjects : List Subject) → AllAskTheSame question question number subjects subjects
subjects_same question number [] = tt
subjects_same question number (subject ∷ subjects) =
    (record { name = refl; asks = λ window. refl; shows = λ window ids shown. (λ is. is, λ is. is) }, subjects_same question (number + 1) subjects)

alike_itself : {Subject Shown : Type 0} (question : QuestionForm Subject Shown) → AreAlike question question
alike_itself question = record { subjects = subjects_same question 0 question.subjects; left_out = λ window. refl }

-- questions are alike both ways
subjects_back : {Subject Other Shown : Type 0} (one : QuestionForm Subject Shown) (other : QuestionForm Other Shown) (number : ℕ) (subjects : List Subject) (others : List Other)
    → AllAskTheSame one other number subjects others → AllAskTheSame other one number others subjects
subjects_back one other number [] [] same = tt
subjects_back one other number [] (again ∷ others) same = absurd same
subjects_back one other number (subject ∷ subjects) [] same = absurd same
subjects_back one other number (subject ∷ subjects) (again ∷ others) same = (
  record {
    name = sym same.0.name;
    asks = λ window. sym (same.0.asks window);
    shows = λ window ids shown. let is = same.0.shows window ids shown in (is.1, is.0);
  },
  subjects_back one other (number + 1) subjects others same.1,
)

pub alike_back : {Subject Other Shown : Type 0} (one : QuestionForm Subject Shown) (other : QuestionForm Other Shown) → AreAlike one other → AreAlike other one
alike_back one other same = record {
  subjects = subjects_back one other 0 one.subjects other.subjects same.subjects;
  left_out = λ window. sym (same.left_out window);
}

-- an old report changes nothing of what is asked
numbered_same : (all : List PropertyForm) (old : ReportForm) (number : ℕ) (properties : List PropertyForm)
    → AllAskTheSame (patterns all) (resumed all old) number properties (enumerate_from number properties)
numbered_same all old number [] = tt
numbered_same all old number (property ∷ properties) =
    (record { name = refl; asks = λ window. refl; shows = λ window ids shown. (λ is. is, λ is. is) }, numbered_same all old (number + 1) properties)

resumed_same : (all : List PropertyForm) (old older : ReportForm) (number : ℕ) (subjects : List (ℕ × PropertyForm))
    → AllAskTheSame (resumed all old) (resumed all older) number subjects subjects
resumed_same all old older number [] = tt
resumed_same all old older number (subject ∷ subjects) =
    (record { name = refl; asks = λ window. refl; shows = λ window ids shown. (λ is. is, λ is. is) }, resumed_same all old older (number + 1) subjects)

pub questions_alike : QuestionsAreAlike
questions_alike = record {
  analysed = λ properties. alike_itself (patterns properties);
  kept = λ properties old. record { subjects = numbered_same properties old 0 properties; left_out = λ window. refl };
  kept_again = λ properties old older. record { subjects = resumed_same properties old older 0 (enumerate_from 0 properties); left_out = λ window. refl };
  stuck = alike_itself deadlocks;
  signalled = λ properties. alike_itself (notified properties);
}
