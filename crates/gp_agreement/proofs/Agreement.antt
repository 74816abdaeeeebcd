-- Records that answer two questions that are alike agree.
use Rattle.std.proofs.Common.{◌≡◌, ◌↔◌, sym, ◌∙◌, subst, ℕ, ◌+◌, List, [], ◌∷◌, Option, Some, None, Result, Ok, Err}
use Rattle.std.specs.List.{AllZip}
use Rattle.gp_instance.specs.declared.instance.Instance.{Instance}
use Rattle.gp_instance.specs.declared.instance.InstancesFault.{InstancesFault}
use Rattle.gp_instance.specs.declared.instance.InstancesFault.TheVariants.{Memory, TooMany}
use Rattle.gp_report.specs.declared.record.AnswerOf.{AnswerOf}
use Rattle.gp_report.specs.declared.record.AnswerOf.TheVariants.{Found, Impossible, Undecided}
use Rattle.gp_report.specs.declared.record.EntryOf.{EntryOf}
use Rattle.gp_report.specs.declared.record.PropertyBodyOf.{PropertyBodyOf}
use Rattle.gp_report.specs.declared.record.PropertyBodyOf.TheVariants as body
use Rattle.gp_report.specs.declared.record.PropertyRecordOf.{PropertyRecordOf}
use Rattle.gp_report.specs.declared.record.WindowBodyOf.{WindowBodyOf}
use Rattle.gp_report.specs.declared.record.WindowBodyOf.TheVariants as recorded
use Rattle.gp_report.specs.declared.record.WindowRecordOf.{WindowRecordOf}
use Rattle.gp_window.specs.declared.schedule.EventId.{EventId}
use Rattle.gp_window.specs.WindowForm.{WindowForm}
use Rattle.gp_window.specs.Windows.{all_windows}
use Rattle.gp_analysis.specs.declared.question.LeftOut.{LeftOut}
use Rattle.gp_analysis.specs.declared.question.LeftOut.TheVariants as out
use Rattle.gp_analysis.specs.Answered.{AnswersBody, AnswersEach, AnswersListed, AnswersSubjects, AnswersWindow, Evidence, IsAnswer, IsAnswerTo}
use Rattle.gp_analysis.specs.Question.{Holds, QuestionForm}
use Rattle.gp_analysis.specs.Tickets.{tickets_of}
use Rattle.gp_agreement.specs.Agreement.{Agree, AnswersAgree, BodiesAgree, Contradict, EntriesAgree, PropertiesAgree, WindowsAgree}
use Rattle.gp_agreement.specs.Alike.{AllAskTheSame, AreAlike, AskTheSame}

-- what an answer says by itself, where this is what shows its ask: found is shown, and impossible is shown by nothing
abbrev Tells : {Shown : Type 0} → (Shown → Type 0) → AnswerOf Shown → Type 0
Tells shows (Found shown) = shows shown
Tells {Shown} shows (Impossible certificate) = (shown : Shown) → shows shown → ⊥
Tells shows (Undecided worker from to) = Unit {0}

module _ {Subject Shown : Type 0} (question : QuestionForm Subject Shown) where
  holding_tells : (window : WindowForm) (known : Evidence) (subject : Subject) (ids : List EventId) (answer : AnswerOf Shown)
      → Holds question window subject ids known.shared answer → Tells (question.shows window subject ids) answer
  holding_tells window known subject ids (Found shown) is = is
  holding_tells window known subject ids (Impossible certificate) is = is.impossible
  holding_tells window known subject ids (Undecided worker from to) is = tt

  answer_tells : (window : WindowForm) (known : Evidence) (subject : Subject) (ticket : ℕ) (ids : List EventId) (answer : AnswerOf Shown)
      → IsAnswer question window known subject ticket ids answer → Tells (question.shows window subject ids) answer
  answer_tells window known subject ticket ids (Found shown) is = is
  answer_tells window known subject ticket ids (Impossible certificate) is = is.impossible
  answer_tells window known subject ticket ids (Undecided worker from to) is = tt

  entry_tells : (window : WindowForm) (known : Evidence) (subject : Subject) (ticket : ℕ) (ids : List EventId) (given : Option (AnswerOf Shown)) (answer : AnswerOf Shown)
      → IsAnswerTo question window known subject ticket ids given answer → Tells (question.shows window subject ids) answer
  entry_tells window known subject ticket ids None answer is = answer_tells window known subject ticket ids answer is
  entry_tells window known subject ticket ids (Some given) answer is = holding_tells window known subject ids answer is.1

-- two answers do not contradict each other where what shows the one shows the other
answers_apart : {Shown : Type 0} (shows again : Shown → Type 0) → ((shown : Shown) → shows shown ↔ again shown) → (one other : AnswerOf Shown)
    → Tells shows one → Tells again other → Contradict one other → ⊥
answers_apart shows again same (Found shown) (Found more) a b contra = contra
answers_apart shows again same (Found shown) (Impossible certificate) a b contra = b shown ((same shown).0 a)
answers_apart shows again same (Found shown) (Undecided worker from to) a b contra = contra
answers_apart shows again same (Impossible certificate) (Found shown) a b contra = a shown ((same shown).1 b)
answers_apart shows again same (Impossible certificate) (Impossible more) a b contra = contra
answers_apart shows again same (Impossible certificate) (Undecided worker from to) a b contra = contra
answers_apart shows again same (Undecided worker from to) (Found shown) a b contra = contra
answers_apart shows again same (Undecided worker from to) (Impossible certificate) a b contra = contra
answers_apart shows again same (Undecided worker from to) (Undecided more begins ends) a b contra = contra

none_agree : {Shown : Type 0} (one other : List (PropertyRecordOf Shown)) → one ≡ [] → other ≡ [] → AllZip PropertiesAgree one other
none_agree {Shown} one other a b =
    let P : List (PropertyRecordOf Shown) → Type 0 = λ records. AllZip PropertiesAgree records other in
    let Q : List (PropertyRecordOf Shown) → Type 0 = λ records. AllZip PropertiesAgree [] records in
    subst P (sym a) (subst Q (sym b) tt)

module _ {Subject Other Shown : Type 0} (question : QuestionForm Subject Shown) (alike : QuestionForm Other Shown) where
  module _ (window : WindowForm) (known more : Evidence) where
    entries_agree : (number : ℕ) (subject : Subject) (again : Other) (ticket later : ℕ) (asks : List Instance) (one other : List (EntryOf Shown))
        → AskTheSame question alike number subject again → AnswersEach question window known subject ticket asks one → AnswersEach alike window more again later asks other
        → AllZip EntriesAgree one other
    entries_agree number subject again ticket later [] [] [] same a b = b
    entries_agree number subject again ticket later [] [] (entry ∷ other) same a b = absurd b
    entries_agree number subject again ticket later [] (entry ∷ one) other same a b = absurd a
    entries_agree number subject again ticket later (ask ∷ asks) [] other same a b = absurd a
    entries_agree number subject again ticket later (ask ∷ asks) (entry ∷ one) [] same a b = absurd b
    entries_agree number subject again ticket later (ask ∷ asks) (entry ∷ one) (second ∷ other) same a b = (
      record {
        events = a.0 ∙ sym b.0;
        answers = answers_apart (question.shows window subject ask.events) (alike.shows window again ask.events) (same.shows window ask.events) entry.answer second.answer
            (entry_tells question window known subject ticket ask.events (question.given window subject ask.events) entry.answer a.1)
            (entry_tells alike window more again later ask.events (alike.given window again ask.events) second.answer b.1);
      },
      entries_agree number subject again (ticket + tickets_of (question.given window subject ask.events)) (later + tickets_of (alike.given window again ask.events)) asks one other same a.2 b.2,
    )

    bodies_agree : (number : ℕ) (subject : Subject) (again : Other) (ticket later : ℕ) (found : Result (List Instance) InstancesFault) (one other : PropertyBodyOf Shown)
        → AskTheSame question alike number subject again → AnswersListed question window known subject ticket found one → AnswersListed alike window more again later found other
        → BodiesAgree one other
    bodies_agree number subject again ticket later found body.TooMany body.TooMany same a b = tt
    bodies_agree number subject again ticket later (Err TooMany) (body.Entries one) other same a b = absurd a
    bodies_agree number subject again ticket later (Err TooMany) one (body.Entries other) same a b = absurd b
    bodies_agree number subject again ticket later (Err Memory) one other same a b = absurd a
    bodies_agree number subject again ticket later (Ok asks) body.TooMany other same a b = absurd a
    bodies_agree number subject again ticket later (Ok asks) one body.TooMany same a b = absurd b
    bodies_agree number subject again ticket later (Ok asks) (body.Entries one) (body.Entries other) same a b =
        entries_agree number subject again ticket later asks one other same a b

    subjects_agree : (number ticket later : ℕ) (subjects : List Subject) (others : List Other) (one other : List (PropertyRecordOf Shown)) → AllAskTheSame question alike number subjects others
        → AnswersSubjects question window known number ticket subjects one → AnswersSubjects alike window more number later others other → AllZip PropertiesAgree one other
    subjects_agree number ticket later [] [] [] [] same a b = b
    subjects_agree number ticket later [] [] [] (own ∷ other) same a b = absurd b
    subjects_agree number ticket later [] [] (own ∷ one) other same a b = absurd a
    subjects_agree number ticket later [] (again ∷ others) one other same a b = absurd same
    subjects_agree number ticket later (subject ∷ subjects) [] one other same a b = absurd same
    subjects_agree number ticket later (subject ∷ subjects) (again ∷ others) [] other same a b = absurd a
    subjects_agree number ticket later (subject ∷ subjects) (again ∷ others) (own ∷ one) [] same a b = absurd b
    subjects_agree number ticket later (subject ∷ subjects) (again ∷ others) (own ∷ one) (second ∷ other) same a b =
        let P : Result (List Instance) InstancesFault → Type 0 = λ found. AnswersListed alike window more again later found second.body in (
          record {
            name = a.0 ∙ same.0.name ∙ sym b.0;
            body = bodies_agree number subject again ticket later (question.asks window subject number) own.body second.body same.0 a.1 (subst P (sym (same.0.asks window)) b.1);
          },
          subjects_agree (number + 1) _ _ subjects others one other same.1 a.2 b.2,
        )

  windows_agree : (window : WindowForm) (count larger : ℕ) (known more : Evidence) (why : Option LeftOut) (one other : WindowBodyOf Shown) → AllAskTheSame question alike 0 question.subjects alike.subjects
      → AnswersBody question window count known why one → AnswersBody alike window larger more why other → WindowsAgree one other
  windows_agree window count larger known more (Some (out.TooLarge large)) (recorded.TooLarge e k) (recorded.TooLarge f l) same a b = (a.0.0 ∙ sym b.0.0, a.0.1 ∙ sym b.0.1)
  windows_agree window count larger known more (Some (out.TooLarge large)) (recorded.Answers one) other same a b = absurd a.0
  windows_agree window count larger known more (Some (out.TooLarge large)) one (recorded.Answers other) same a b = absurd b.0
  windows_agree window count larger known more (Some out.Unasked) (recorded.Answers one) (recorded.Answers other) same a b = none_agree one other a.0 b.0
  windows_agree window count larger known more (Some out.Unasked) (recorded.TooLarge e k) other same a b = absurd a.0
  windows_agree window count larger known more (Some out.Unasked) one (recorded.TooLarge e k) same a b = absurd b.0
  windows_agree window count larger known more None (recorded.Answers one) (recorded.Answers other) same a b =
      subjects_agree window known more 0 0 0 question.subjects alike.subjects one other same a.1 b.1
  windows_agree window count larger known more None (recorded.TooLarge e k) other same a b = absurd a
  windows_agree window count larger known more None one (recorded.TooLarge e k) same a b = absurd b

  all_agree : (same : AreAlike question alike) (count more budget larger : ℕ) (windows : List WindowForm) (one other : List (WindowRecordOf Shown))
      → AllZip (AnswersWindow question count budget) windows one → AllZip (AnswersWindow alike more larger) windows other → Agree one other
  all_agree same count more budget larger [] [] [] a b = b
  all_agree same count more budget larger [] [] (y ∷ other) a b = absurd b
  all_agree same count more budget larger [] (x ∷ one) other a b = absurd a
  all_agree same count more budget larger (window ∷ windows) [] other a b = absurd a
  all_agree same count more budget larger (window ∷ windows) (x ∷ one) [] a b = absurd b
  all_agree same count more budget larger (window ∷ windows) (x ∷ one) (y ∷ other) a b =
      let P : Option LeftOut → Type 0 = λ why. AnswersBody alike window more (record { budget = larger; shared = y.shared; workers = y.records }) why y.body in (
        windows_agree window count more _ _ (question.left_out window) x.body y.body same.subjects a.0 (subst P (sym (same.left_out window)) b.0),
        all_agree same count more budget larger windows one other a.1 b.1,
      )

  pub alike_agree : AnswersAgree question alike
  alike_agree same recording count more budget larger one other a b = all_agree same count more budget larger (all_windows recording) one other a b
