-- Windows that are written are read.
use Rattle.std.proofs.Common.{◌≡◌, refl, sym, ap, ◌∙◌, ℕ, zero, suc, ◌+◌, ◌<◌, ◌≤◌, ◌^◌, Bool, true, false, cond, List, [], ◌∷◌, ◌++◌, length, codes, decimal, Ok, append_assoc, arith}
use Rattle.std.specs.Prelude.{◌==◌, nat_lt}
use Rattle.std.specs.List.{AllByRecursion, flat_map}
use Rattle.std.proofs.lemmas.Bool.{eq-eqb, lt-ltb}
use Rattle.gp_certificate.specs.declared.step.Step.{Step}
use Rattle.gp_text.specs.declared.line.Line.{Line}
use Rattle.gp_text.specs.Numbers.{OneSpelling}
use Rattle.gp_window.specs.EventIds.{EventIdsReadExactly}
use Rattle.gp_writer.specs.Steps.{step_lines}
use Rattle.gp_report.specs.Records.{PropertyRecord, WindowBody, WindowRecord}
use Rattle.gp_report.specs.declared.record.WindowBodyOf.TheVariants.{TooLarge, Answers}
use Rattle.gp_report.specs.Printed.{property_lines, shared_lines, window_body_lines, window_lines}
use Rattle.gp_report.specs.Reading.{is_at, one_number, read_answers, read_properties, read_shared, read_too_large, read_window, read_window_body, read_window_number, read_windows, shared_in, told_by, two_numbers}
use Rattle.gp_report.proofs.NumbersRead.{one_again, two_again}
use Rattle.gp_report.proofs.PropertiesRead.{at_words, properties_again, words_at}
use Rattle.gp_report.proofs.StepsRead.{StepIs, steps_again}
use Rattle.gp_report.proofs.Taking.{Again, Next, Takes, fewer_left, next_again, words_in}
use Rattle.gp_report.proofs.WindowsRead.{SharedIs, ToldIs, WindowIs, WindowsAre}

-- what can follow a window: neither a property nor a line that tells that the window is too large
pub record Follows (rest : List (List (List ℕ))) : Type 0 where
  pub no_property : words_at (codes "property") rest ≡ false
  pub not_large : words_at (codes "toolarge") rest ≡ false

shared_again : OneSpelling → (end : ℕ) (lines : List Line) (shared : List Step) (rest : List (List (List ℕ))) → length shared < 2 ^ 64 → AllByRecursion StepIs shared
    → words_in lines ≡ (codes "shared" ∷ decimal (length shared) ∷ []) ∷ (flat_map step_lines shared ++ rest) → Again (read_shared end lines) shared rest
unfolding read_shared
shared_again spelled end lines shared rest fits are words =
    let head = codes "shared" ∷ decimal (length shared) ∷ [] in
    let first : Next lines head (flat_map step_lines shared ++ rest) = next_again lines head (flat_map step_lines shared ++ rest) words in
    let count : told_by (codes "shared") one_number first.line ≡ Ok (length shared) = one_again spelled (codes "shared") first.line (length shared) fits first.words in
    let steps = steps_again spelled end first.left shared rest are first.behind in
    record {
      left = steps.left;
      is = ap (read_shared end) first.is ∙ rw (count, steps.is) refl;
      words = steps.words;
    }

shared_in_again : OneSpelling → (end format : ℕ) (lines : List Line) (shared : List Step) (rest : List (List (List ℕ))) → SharedIs format shared → words_in lines ≡ shared_lines format shared ++ rest
    → Again (shared_in end format lines) shared rest
shared_in_again spelled end format lines shared rest is words = at (format == 2) refl words
  where
    at : (second : Bool) → (format == 2) ≡ second → words_in lines ≡ cond second ((codes "shared" ∷ decimal (length shared) ∷ []) ∷ flat_map step_lines shared) [] ++ rest → Again (shared_in end format lines) shared rest
    at true second words =
        let again = shared_again spelled end lines shared rest is.fits is.steps words in
        record { left = again.left; is = rw (second, again.is) refl; words = again.words }
    at false second words =
        let none : shared ≡ [] = is.none second in
        record { left = lines; is = rw (second, none) refl; words = words }

-- what a window's lines begin with
no_large : (format : ℕ) (shared : List Step) (properties : List PropertyRecord) (rest : List (List (List ℕ))) → Follows rest
    → words_at (codes "toolarge") ((shared_lines format shared ++ flat_map property_lines properties) ++ rest) ≡ false
no_large format shared properties rest follows = at (format == 2) properties
  where
    at : (second : Bool) (properties : List PropertyRecord)
        → words_at (codes "toolarge") ((cond second ((codes "shared" ∷ decimal (length shared) ∷ []) ∷ flat_map step_lines shared) [] ++ flat_map property_lines properties) ++ rest) ≡ false
    at true properties = refl
    at false [] = follows.not_large
    at false (property ∷ properties) = refl

body_again : OneSpelling → EventIdsReadExactly → (end format : ℕ) (lines : List Line) (shared : List Step) (body : WindowBody) (rest : List (List (List ℕ)))
    → Follows rest → ToldIs format shared body → words_in lines ≡ window_body_lines format shared body ++ rest → Again (read_window_body end format lines) (shared, body) rest
unfolding read_too_large read_answers
body_again spelled exactly end format lines shared (TooLarge events clauses) rest follows is words =
    let head = codes "toolarge" ∷ decimal events ∷ decimal clauses ∷ [] in
    let first : Next lines head rest = next_again lines head rest words in
    let large : is_at (codes "toolarge") lines ≡ true = at_words (codes "toolarge") lines (head ∷ rest) words in
    let sizes : told_by (codes "toolarge") two_numbers first.line ≡ Ok (events, clauses) = two_again spelled (codes "toolarge") first.line events clauses is.rest.1 is.rest.2 first.words in
    let none : shared ≡ [] = is.rest.0 in
    record {
      left = first.left;
      is = rw large (ap (read_too_large end) first.is ∙ rw sizes (ap (λ (s : List Step). Ok ((s, TooLarge events clauses), first.left)) (sym none)));
      words = first.behind;
    }
body_again spelled exactly end format lines shared (Answers properties) rest follows is words =
    let behind = flat_map property_lines properties ++ rest in
    let small : is_at (codes "toolarge") lines ≡ false =
    at_words (codes "toolarge") lines ((shared_lines format shared ++ flat_map property_lines properties) ++ rest) words ∙ no_large format shared properties rest follows in
    let steps : Again (shared_in end format lines) shared behind =
    shared_in_again spelled end format lines shared behind is.steps (words ∙ append_assoc (shared_lines format shared) (flat_map property_lines properties) rest) in
    let others : Again (read_properties end (length steps.left) steps.left) properties rest =
    properties_again spelled exactly end (length steps.left) steps.left properties rest (omega arith) follows.no_property is.rest steps.words in
    record {
      left = others.left;
      is = rw (small, steps.is, others.is) refl;
      words = others.words;
    }

number_again : OneSpelling → (due : ℕ) (line : Line) → due < 2 ^ 32 → line.words ≡ codes "window" ∷ decimal due ∷ [] → read_window_number due line ≡ Ok due
unfolding read_window_number
number_again spelled due line low words =
    let number : told_by (codes "window") one_number line ≡ Ok due = one_again spelled (codes "window") line due (omega arith) words in
    let small : nat_lt due (2 ^ 32) ≡ true = lt-ltb due (2 ^ 32) low in
    let next : (due == due) ≡ true = eq-eqb due due refl in
    rw (number, small, next) refl

-- a window that is written is read
window_again : OneSpelling → EventIdsReadExactly → (end format due : ℕ) (lines : List Line) (window : WindowRecord) (rest : List (List (List ℕ)))
    → Follows rest → WindowIs format due window → words_in lines ≡ window_lines format window ++ rest → Again (read_window end format due lines) window rest
unfolding read_window
window_again spelled exactly end format due lines window rest follows is words =
    let head = codes "window" ∷ decimal window.number ∷ [] in
    let behind = window_body_lines format window.shared window.body ++ rest in
    let first : Next lines head behind = next_again lines head behind words in
    let number : read_window_number due first.line ≡ Ok due = number_again spelled due first.line is.small (first.words ∙ ap (λ n. codes "window" ∷ decimal n ∷ []) is.number) in
    let body = body_again spelled exactly end format first.left window.shared window.body rest follows is.told first.behind in
    let made : record { number = due; shared = window.shared; body = window.body; records = [] } ≡ window =
    λ i. record { number = sym is.number i; shared = window.shared; body = window.body; records = sym is.records i } in
    record {
      left = body.left;
      is = ap (read_window end format due) first.is ∙ rw (number, body.is) (ap (λ (w : WindowRecord). Ok (w, body.left)) made);
      words = body.words;
    }

-- windows that are written are read
pub windows_again : OneSpelling → EventIdsReadExactly → (end format due most : ℕ) (lines : List Line) (windows : List WindowRecord) (rest : List (List (List ℕ)))
    → length lines ≤ most → words_at (codes "window") rest ≡ false → Follows rest → WindowsAre format due windows → words_in lines ≡ flat_map (window_lines format) windows ++ rest
    → Again (read_windows end format due most lines) windows rest
windows_again spelled exactly end format due zero lines [] rest few other follows are words = record { left = lines; is = refl; words = words }
windows_again spelled exactly end format due (suc most) lines [] rest few other follows are words =
    let ends : is_at (codes "window") lines ≡ false = at_words (codes "window") lines rest words ∙ other in
    record { left = lines; is = rw ends refl; words = words }
windows_again spelled exactly end format due zero [] (window ∷ windows) rest few other follows are words = absurd (cc)
windows_again spelled exactly end format due zero (line ∷ lines) (window ∷ windows) rest few other follows are words = absurd (omega arith)
windows_again spelled exactly end format due (suc most) lines (window ∷ windows) rest few other follows are words =
    let behind = flat_map (window_lines format) windows ++ rest in
    let split : words_in lines ≡ window_lines format window ++ behind = words ∙ append_assoc (window_lines format window) (flat_map (window_lines format) windows) rest in
    let begins : is_at (codes "window") lines ≡ true = at_words (codes "window") lines (window_lines format window ++ behind) split in
    let first = window_again spelled exactly end format due lines window behind (follow windows) are.0 split in
    let takes : Takes lines (window_lines format window) first.left = split ∙ ap (λ vs. window_lines format window ++ vs) (sym first.words) in
    let fewer : length first.left ≤ most = omega (arith, fewer_left lines first.left (codes "window" ∷ decimal window.number ∷ []) (window_body_lines format window.shared window.body) takes) in
    let others = windows_again spelled exactly end format (due + 1) most first.left windows rest fewer other follows are.1 first.words in
    record {
      left = others.left;
      is = rw (begins, first.is, others.is) refl;
      words = others.words;
    }
  where
    follow : (windows : List WindowRecord) → Follows (flat_map (window_lines format) windows ++ rest)
    follow [] = follows
    follow (next ∷ windows) = record { no_property = refl; not_large = refl }
