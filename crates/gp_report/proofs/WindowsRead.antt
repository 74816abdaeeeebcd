-- Windows that are read were written.
use Rattle.std.proofs.Common.{◌≡◌, refl, sym, ap, ◌∙◌, subst, ℕ, zero, suc, ◌+◌, ◌<◌, ◌^◌, Bool, true, false, cond, List, [], ◌∷◌, length, codes, decimal, Ok, arith}
use Rattle.std.specs.Prelude.{◌==◌, nat_lt}
use Rattle.std.specs.List.{AllByRecursion, flat_map}
use Rattle.std.proofs.lemmas.Bool.{eqb-true, ltb-true}
use Rattle.gp_certificate.specs.declared.step.Step.{Step}
use Rattle.gp_text.specs.declared.line.Line.{Line}
use Rattle.gp_text.specs.Numbers.{OneSpelling}
use Rattle.gp_window.specs.EventIds.{EventIdsReadExactly}
use Rattle.gp_writer.specs.Steps.{step_lines}
use Rattle.gp_report.specs.declared.fault.ReportRule.TheVariants.{Form, Order}
use Rattle.gp_report.specs.Records.{WindowBody, WindowRecord}
use Rattle.gp_report.specs.declared.record.WindowBodyOf.TheVariants.{TooLarge, Answers}
use Rattle.gp_report.specs.Printed.{property_lines, shared_lines, window_body_lines, window_lines}
use Rattle.gp_report.specs.Reading.{◌>>=◌, is_at, kept_if, next_line, one_number, read_answers, read_properties, read_shared, read_steps, read_too_large, read_window, read_window_body, read_window_number, read_windows, shared_in, told_by, two_numbers, with_front}
use Rattle.gp_report.proofs.AnswersRead.{chosen_was}
use Rattle.gp_report.proofs.NumbersRead.{line_of_one, line_of_two}
use Rattle.gp_report.proofs.PropertiesRead.{PropertyIs, properties_was}
use Rattle.gp_report.proofs.StepsRead.{StepIs, front_was, steps_was}
use Rattle.gp_report.proofs.Taking.{Takes, bind_ok, kept_ok, next_was, ok_is, then_takes, words_in}

-- shared steps that can be told and read again in this format
pub record SharedIs (format : ℕ) (shared : List Step) : Type 0 where
  pub fits : length shared < 2 ^ 64
  pub steps : AllByRecursion StepIs shared
  pub none : (format == 2) ≡ false → shared ≡ []

-- what can be told of a window with these shared steps, and read again
abbrev pub WindowBodyIs : List Step → WindowBody → Type 0
WindowBodyIs shared (TooLarge events clauses) = (shared ≡ []) × (events < 2 ^ 64) × (clauses < 2 ^ 64)
WindowBodyIs shared (Answers properties) = AllByRecursion PropertyIs properties

-- what is told of a window
pub record ToldIs (format : ℕ) (shared : List Step) (body : WindowBody) : Type 0 where
  pub steps : SharedIs format shared
  pub rest : WindowBodyIs shared body

-- a window that can be told with this number, and read again
pub record WindowIs (format due : ℕ) (window : WindowRecord) : Type 0 where
  pub number : window.number ≡ due
  pub small : due < 2 ^ 32
  pub told : ToldIs format window.shared window.body
  pub records : window.records ≡ []

-- windows with numbers from this one on
abbrev pub WindowsAre : ℕ → ℕ → List WindowRecord → Type 0
WindowsAre format due [] = Unit {0}
WindowsAre format due (window ∷ windows) = WindowIs format due window × WindowsAre format (due + 1) windows

no_shared : (format : ℕ) → SharedIs format []
no_shared format = record { fits = omega arith; steps = tt; none = λ first. refl }

shared_was : OneSpelling → (end : ℕ) (lines : List Line) (y : List Step × List Line) → read_shared end lines ≡ Ok y
    → Takes lines ((codes "shared" ∷ decimal (length y.0) ∷ []) ∷ flat_map step_lines y.0) y.1 × (length y.0 < 2 ^ 64) × AllByRecursion StepIs y.0
unfolding read_shared
shared_was spelled end lines y e =
    let a = bind_ok (next_line end lines) (λ line. told_by (codes "shared") one_number line.0 >>= λ count. read_steps end count line.1) y e in
    let b = bind_ok (told_by (codes "shared") one_number a.0.0) (λ count. read_steps end count a.0.1) y a.2 in
    let first = next_was end lines a.0 a.1 in
    let count = line_of_one spelled (codes "shared") a.0.0 b.0 b.1 in
    let steps = steps_was spelled end b.0 a.0.1 y b.2 in
    let words : a.0.0.words ≡ codes "shared" ∷ decimal (length y.0) ∷ [] = rw steps.1 count.0 in (
      ap words_in first ∙ ap (λ v. v ∷ words_in a.0.1) words ∙ ap (λ vs. (codes "shared" ∷ decimal (length y.0) ∷ []) ∷ vs) steps.0.0,
      rw steps.1 count.1,
      steps.0.1,
    )

shared_in_was : OneSpelling → (end format : ℕ) (lines : List Line) (y : List Step × List Line) → shared_in end format lines ≡ Ok y → Takes lines (shared_lines format y.0) y.1 × SharedIs format y.0
shared_in_was spelled end format lines y e = at (format == 2) refl e
  where
    at : (second : Bool) → (format == 2) ≡ second → cond second (read_shared end lines) (Ok ([], lines)) ≡ Ok y → Takes lines (shared_lines format y.0) y.1 × SharedIs format y.0
    at true is e =
        let was = shared_was spelled end lines y e in
        (rw is was.0, record { fits = was.1; steps = was.2; none = λ first. absurd (let both : true ≡ false = sym is ∙ first in cc) })
    at false is e =
        subst (λ (z : List Step × List Line). Takes lines (shared_lines format z.0) z.1 × SharedIs format z.0) {x = ([], lines)} (ok_is ([], lines) y e) (rw is refl, no_shared format)

-- what is told of a window was read
abbrev BodyWas : ℕ → List Line → (List Step × WindowBody) × List Line → Type 0
BodyWas format lines y = Takes lines (window_body_lines format y.0.0 y.0.1) y.1 × ToldIs format y.0.0 y.0.1

too_large_was : OneSpelling → (end format : ℕ) (lines : List Line) (y : (List Step × WindowBody) × List Line) → read_too_large end lines ≡ Ok y → BodyWas format lines y
unfolding read_too_large
too_large_was spelled end format lines y e =
    let a = bind_ok (next_line end lines) (λ line. told_by (codes "toolarge") two_numbers line.0 >>= λ sizes. Ok (([], TooLarge sizes.0 sizes.1), line.1)) y e in
    let b = bind_ok (told_by (codes "toolarge") two_numbers a.0.0) (λ sizes. Ok (([], TooLarge sizes.0 sizes.1), a.0.1)) y a.2 in
    let first = next_was end lines a.0 a.1 in
    let sizes = line_of_two spelled (codes "toolarge") a.0.0 b.0 b.1 in
    let made : (List Step × WindowBody) × List Line = (([], TooLarge b.0.0 b.0.1), a.0.1) in
    subst (BodyWas format lines) {x = made} (ok_is made y b.2) (
      ap words_in first ∙ ap (λ v. v ∷ words_in a.0.1) sizes.0,
      record { steps = no_shared format; rest = (refl, sizes.1, sizes.2) },
    )

answers_was : OneSpelling → EventIdsReadExactly → (end format : ℕ) (lines : List Line) (y : (List Step × WindowBody) × List Line) → read_answers end format lines ≡ Ok y → BodyWas format lines y
unfolding read_answers
answers_was spelled exactly end format lines y e =
    let a = bind_ok (shared_in end format lines) (λ shared. read_properties end (length shared.1) shared.1 >>= λ properties. Ok ((shared.0, Answers properties.0), properties.1)) y e in
    let b = bind_ok (read_properties end (length a.0.1) a.0.1) (λ properties. Ok ((a.0.0, Answers properties.0), properties.1)) y a.2 in
    let shared = shared_in_was spelled end format lines a.0 a.1 in
    let properties = properties_was spelled exactly end (length a.0.1) a.0.1 b.0 b.1 in
    let made : (List Step × WindowBody) × List Line = ((a.0.0, Answers b.0.0), b.0.1) in
    subst (BodyWas format lines) {x = made} (ok_is made y b.2) (
      then_takes lines a.0.1 b.0.1 (shared_lines format a.0.0) (flat_map property_lines b.0.0) shared.0 properties.0,
      record { steps = shared.1; rest = properties.1 },
    )

body_was : OneSpelling → EventIdsReadExactly → (end format : ℕ) (lines : List Line) (y : (List Step × WindowBody) × List Line) → read_window_body end format lines ≡ Ok y → BodyWas format lines y
body_was spelled exactly end format lines y e =
    chosen_was (is_at (codes "toolarge") lines) (read_too_large end lines) (read_answers end format lines) (BodyWas format lines) y e
    (too_large_was spelled end format lines y)
    (answers_was spelled exactly end format lines y)

number_was : OneSpelling → (due : ℕ) (line : Line) (number : ℕ) → read_window_number due line ≡ Ok number → (line.words ≡ codes "window" ∷ decimal number ∷ []) × (number ≡ due) × (due < 2 ^ 32)
unfolding read_window_number
number_was spelled due line number e =
    let a = bind_ok (told_by (codes "window") one_number line) (λ n. kept_if (nat_lt n (2 ^ 32)) Form line.number n >>= λ small. kept_if (small == due) Order line.number small) number e in
    let b = bind_ok (kept_if (nat_lt a.0 (2 ^ 32)) Form line.number a.0) (λ small. kept_if (small == due) Order line.number small) number a.2 in
    let small = kept_ok (nat_lt a.0 (2 ^ 32)) Form line.number a.0 b.0 b.1 in
    let next = kept_ok (b.0 == due) Order line.number b.0 number b.2 in
    let words = (line_of_one spelled (codes "window") line a.0 a.1).0 in
    let same : a.0 ≡ number = small.1 ∙ next.1 in
    let is_due : b.0 ≡ due = eqb-true b.0 due next.0 in
    let low : a.0 < 2 ^ 32 = ltb-true a.0 (2 ^ 32) small.0 in
    (words ∙ ap (λ n. codes "window" ∷ decimal n ∷ []) same, sym next.1 ∙ is_due, subst (λ n. n < 2 ^ 32) (small.1 ∙ is_due) low)

-- a window that is read was written
pub window_was : OneSpelling → EventIdsReadExactly → (end format due : ℕ) (lines : List Line) (y : WindowRecord × List Line) → read_window end format due lines ≡ Ok y
    → Takes lines (window_lines format y.0) y.1 × WindowIs format due y.0
unfolding read_window
window_was spelled exactly end format due lines y e =
    let a = bind_ok (next_line end lines) (λ line. read_window_number due line.0 >>= λ number. read_window_body end format line.1 >>= λ body. Ok (record { number = number; shared = body.0.0; body = body.0.1; records = [] }, body.1)) y e in
    let b = bind_ok (read_window_number due a.0.0) (λ number. read_window_body end format a.0.1 >>= λ body. Ok (record { number = number; shared = body.0.0; body = body.0.1; records = [] }, body.1)) y a.2 in
    let c = bind_ok (read_window_body end format a.0.1) (λ body. Ok (record { number = b.0; shared = body.0.0; body = body.0.1; records = [] }, body.1)) y b.2 in
    let first = next_was end lines a.0 a.1 in
    let number = number_was spelled due a.0.0 b.0 b.1 in
    let body = body_was spelled exactly end format a.0.1 c.0 c.1 in
    let made : WindowRecord × List Line = (record { number = b.0; shared = c.0.0.0; body = c.0.0.1; records = [] }, c.0.1) in
    subst (λ (z : WindowRecord × List Line). Takes lines (window_lines format z.0) z.1 × WindowIs format due z.0) {x = made} (ok_is made y c.2) (
      ap words_in first ∙ ap (λ v. v ∷ words_in a.0.1) number.0 ∙ ap (λ vs. (codes "window" ∷ decimal b.0 ∷ []) ∷ vs) body.0,
      record { number = number.1; small = number.2; told = body.1; records = refl },
    )

-- windows that are read were written
pub windows_was : OneSpelling → EventIdsReadExactly → (end format due most : ℕ) (lines : List Line) (y : List WindowRecord × List Line) → read_windows end format due most lines ≡ Ok y
    → Takes lines (flat_map (window_lines format) y.0) y.1 × WindowsAre format due y.0
windows_was spelled exactly end format due zero lines y e =
    subst (λ (z : List WindowRecord × List Line). Takes lines (flat_map (window_lines format) z.0) z.1 × WindowsAre format due z.0) {x = ([], lines)} (ok_is ([], lines) y e) (refl, tt)
windows_was spelled exactly end format due (suc most) lines y e =
    let P : List WindowRecord × List Line → Type 0 = λ z. Takes lines (flat_map (window_lines format) z.0) z.1 × WindowsAre format due z.0 in
    chosen_was (is_at (codes "window") lines) (read_window end format due lines >>= λ window. with_front (window.0 ∷ []) (read_windows end format (due + 1) most window.1)) (Ok ([], lines)) P y e
    (λ f.
    let a = bind_ok (read_window end format due lines) (λ window. with_front (window.0 ∷ []) (read_windows end format (due + 1) most window.1)) y f in
    let first = window_was spelled exactly end format due lines a.0 a.1 in
    let b = front_was (a.0.0 ∷ []) (read_windows end format (due + 1) most a.0.1) y a.2 in
    let others = windows_was spelled exactly end format (due + 1) most a.0.1 b.0 b.1 in
    subst P {x = (a.0.0 ∷ b.0.0, b.0.1)} b.2
    (then_takes lines a.0.1 b.0.1 (window_lines format a.0.0) (flat_map (window_lines format) b.0.0) first.0 others.0, (first.1, others.1)))
    (λ f. subst P {x = ([], lines)} (ok_is ([], lines) y f) (refl, tt))
