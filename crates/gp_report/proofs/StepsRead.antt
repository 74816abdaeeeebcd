-- Steps are read as they are written.
use Rattle.std.proofs.Common.{◌≡◌, refl, ap, ◌∙◌, subst, ℕ, zero, suc, ◌-◌, ◌<◌, ◌^◌, true, List, [], ◌∷◌, ◌++◌, length, map, codes, decimal, Ok, Err, append_assoc}
use Rattle.std.specs.List.{AllByRecursion, flat_map}
use Rattle.gp_clause.specs.declared.lit.Lit.{Lit}
use Rattle.gp_certificate.specs.declared.step.Step.{Step}
use Rattle.gp_text.specs.declared.line.Line.{Line}
use Rattle.gp_text.specs.Numbers.{OneSpelling, small_number_of}
use Rattle.gp_writer.specs.Lines.{in_lines}
use Rattle.gp_writer.specs.Spelled.{lit_word}
use Rattle.gp_writer.specs.Steps.{step_lines}
use Rattle.gp_report.specs.declared.fault.ReportRule.TheVariants.{Clause}
use Rattle.gp_report.specs.Reading.{Reads, ◌>>=◌, kept_if, lit_of, next_line, read_list, read_lits, read_step, read_steps, rises, told_by, two_numbers, with_front}
use Rattle.gp_report.proofs.ListsRead.{ListAgain, ListWas, list_again, list_was}
use Rattle.gp_report.proofs.NumbersRead.{line_of_two, two_again}
use Rattle.gp_report.proofs.Taking.{Again, Next, Takes, bind_ok, kept_ok, next_again, next_was, ok_is, then_takes, words_in}
use Rattle.gp_report.proofs.WordsRead.{lit_words, small_words}

abbrev pub IsLow : Lit → Type 0
IsLow lit = lit.variable < 2 ^ 31 - 1

abbrev pub IsSmall : ℕ → Type 0
IsSmall n = n < 2 ^ 32

-- a step that can be told and read again
pub record StepIs (step : Step) : Type 0 where
  pub lits_fit : length step.clause < 2 ^ 64
  pub hints_fit : length step.hints < 2 ^ 64
  pub lits : AllByRecursion IsLow step.clause
  pub rising : rises step.clause ≡ true
  pub hints : AllByRecursion IsSmall step.hints

lits_was : OneSpelling → (end number count : ℕ) (lines : List Line) (y : List Lit × List Line) → read_lits end number count lines ≡ Ok y
    → ListWas lit_word IsLow count lines y.0 y.1 × (rises y.0 ≡ true)
unfolding read_lits
lits_was spelled end number count lines y e =
    let from = bind_ok (read_list lit_of end number count lines) (λ lits. kept_if (rises lits.0.0) Clause lits.0.1 (lits.0.0, lits.1)) y e in
    let kept = kept_ok (rises from.0.0.0) Clause from.0.0.1 (from.0.0.0, from.0.1) y from.2 in
    let was = list_was lit_of lit_word IsLow (lit_words spelled) end number count lines from.0 from.1 in
    subst (λ (z : List Lit × List Line). ListWas lit_word IsLow count lines z.0 z.1 × (rises z.0 ≡ true)) kept.1 (was, kept.0)

-- the step that these lists make was read
step_made : (lines left middle rest : List Line) (line : Line) (clause : List Lit) (hints : List ℕ)
    → lines ≡ line ∷ left → line.words ≡ codes "step" ∷ decimal (length clause) ∷ decimal (length hints) ∷ []
    → Takes left (in_lines (map lit_word clause)) middle → Takes middle (in_lines (map decimal hints)) rest
    → Takes lines (step_lines (record { clause = clause; hints = hints })) rest
step_made lines left middle rest line clause hints first words lits more =
    let behind : Takes left (in_lines (map lit_word clause) ++ in_lines (map decimal hints)) rest = then_takes left middle rest (in_lines (map lit_word clause)) (in_lines (map decimal hints)) lits more in
    ap words_in first ∙ ap (λ v. v ∷ words_in left) words ∙ ap (λ vs. (codes "step" ∷ decimal (length clause) ∷ decimal (length hints) ∷ []) ∷ vs) behind

-- a step that is read was written
pub step_was : OneSpelling → (end : ℕ) (lines : List Line) (y : Step × List Line) → read_step end lines ≡ Ok y → Takes lines (step_lines y.0) y.1 × StepIs y.0
unfolding read_step
step_was spelled end lines y e =
    let a = bind_ok (next_line end lines) (λ line. told_by (codes "step") two_numbers line.0 >>= λ counts. read_lits end line.0.number counts.0 line.1 >>= λ lits. read_list small_number_of end line.0.number counts.1 lits.1 >>= λ hints. Ok (record { clause = lits.0; hints = hints.0.0 }, hints.1)) y e in
    let line = a.0.0 in
    let b = bind_ok (told_by (codes "step") two_numbers line) (λ counts. read_lits end line.number counts.0 a.0.1 >>= λ lits. read_list small_number_of end line.number counts.1 lits.1 >>= λ hints. Ok (record { clause = lits.0; hints = hints.0.0 }, hints.1)) y a.2 in
    let c = bind_ok (read_lits end line.number b.0.0 a.0.1) (λ lits. read_list small_number_of end line.number b.0.1 lits.1 >>= λ hints. Ok (record { clause = lits.0; hints = hints.0.0 }, hints.1)) y b.2 in
    let d = bind_ok (read_list small_number_of end line.number b.0.1 c.0.1) (λ hints. Ok (record { clause = c.0.0; hints = hints.0.0 }, hints.1)) y c.2 in
    let first = next_was end lines a.0 a.1 in
    let counts = line_of_two spelled (codes "step") line b.0 b.1 in
    let lits = lits_was spelled end line.number b.0.0 a.0.1 c.0 c.1 in
    let hints = list_was small_number_of decimal IsSmall (small_words spelled) end line.number b.0.1 c.0.1 d.0 d.1 in
    let words : line.words ≡ codes "step" ∷ decimal (length c.0.0) ∷ decimal (length d.0.0.0) ∷ [] = rw (lits.0.2, hints.2) counts.0 in
    let made : Step × List Line = (record { clause = c.0.0; hints = d.0.0.0 }, d.0.1) in
    subst (λ (z : Step × List Line). Takes lines (step_lines z.0) z.1 × StepIs z.0) {x = made} (ok_is made y d.2) (
      step_made lines a.0.1 c.0.1 d.0.1 line c.0.0 d.0.0.0 first words lits.0.0 hints.0,
      record {
        lits_fit = rw lits.0.2 counts.1;
        hints_fit = rw hints.2 counts.2;
        lits = lits.0.1;
        rising = lits.1;
        hints = hints.1;
      },
    )

-- a step that is written is read
pub step_again : OneSpelling → (end : ℕ) (lines : List Line) (step : Step) (rest : List (List (List ℕ))) → StepIs step → words_in lines ≡ step_lines step ++ rest → Again (read_step end lines) step rest
unfolding read_step read_lits
step_again spelled end lines step rest is words =
    let rising = is.rising in
    let head = codes "step" ∷ decimal (length step.clause) ∷ decimal (length step.hints) ∷ [] in
    let lits_lines = in_lines (map lit_word step.clause) in
    let hints_lines = in_lines (map decimal step.hints) in
    let first : Next lines head ((lits_lines ++ hints_lines) ++ rest) = next_again lines head ((lits_lines ++ hints_lines) ++ rest) words in
    let counts : told_by (codes "step") two_numbers first.line ≡ Ok (length step.clause, length step.hints) = two_again spelled (codes "step") first.line (length step.clause) (length step.hints) is.lits_fit is.hints_fit first.words in
    let lits : ListAgain (read_list lit_of end first.line.number (length step.clause) first.left) step.clause (hints_lines ++ rest) =
    list_again lit_of lit_word IsLow (lit_words spelled) end first.line.number first.left step.clause (hints_lines ++ rest) is.lits (first.behind ∙ append_assoc lits_lines hints_lines rest) in
    let hints : ListAgain (read_list small_number_of end first.line.number (length step.hints) lits.left) step.hints rest =
    list_again small_number_of decimal IsSmall (small_words spelled) end first.line.number lits.left step.hints rest is.hints lits.words in
    record {
      left = hints.left;
      is = ap (read_step end) first.is ∙ rw (counts, lits.is, rising, hints.is) refl;
      words = hints.words;
    }

pub front_was : {A : Type 0} (front : List A) (read : Reads (List A)) (y : List A × List Line) → with_front front read ≡ Ok y → (x : List A × List Line) × (read ≡ Ok x) × ((front ++ x.0, x.1) ≡ y)
front_was front (Ok x) y e = (x, refl, cc)
front_was front (Err fault) y e = absurd (cc)

-- so many things of such lines were read
abbrev pub WereRead : {A : Type 0} → (A → List (List (List ℕ))) → (A → Type 0) → List Line → List A → List Line → Type 0
WereRead told P lines xs left = Takes lines (flat_map told xs) left × AllByRecursion P xs

-- one thing more
pub front_takes : {A : Type 0} (told : A → List (List (List ℕ))) (P : A → Type 0) (lines middle left : List Line) (one : A) (others : List A)
    → Takes lines (told one) middle → P one → WereRead told P middle others left → WereRead told P lines (one ∷ others) left
front_takes told P lines middle left one others takes is more =
    (then_takes lines middle left (told one) (flat_map told others) takes more.0, (is, more.1))

-- steps that are read were written
pub steps_was : OneSpelling → (end count : ℕ) (lines : List Line) (y : List Step × List Line) → read_steps end count lines ≡ Ok y
    → WereRead step_lines StepIs lines y.0 y.1 × (length y.0 ≡ count)
steps_was spelled end zero lines y e =
    subst (λ (z : List Step × List Line). WereRead step_lines StepIs lines z.0 z.1 × (length z.0 ≡ 0)) (ok_is ([], lines) y e) ((refl, tt), refl)
steps_was spelled end (suc more) lines y e =
    let a = bind_ok (read_step end lines) (λ step. with_front (step.0 ∷ []) (read_steps end more step.1)) y e in
    let first = step_was spelled end lines a.0 a.1 in
    let b = front_was (a.0.0 ∷ []) (read_steps end more a.0.1) y a.2 in
    let others = steps_was spelled end more a.0.1 b.0 b.1 in
    subst (λ (z : List Step × List Line). WereRead step_lines StepIs lines z.0 z.1 × (length z.0 ≡ suc more)) b.2
    (front_takes step_lines StepIs lines a.0.1 b.0.1 a.0.0 b.0.0 first.0 first.1 others.0, ap suc others.1)

-- steps that are written are read
pub steps_again : OneSpelling → (end : ℕ) (lines : List Line) (steps : List Step) (rest : List (List (List ℕ))) → AllByRecursion StepIs steps → words_in lines ≡ flat_map step_lines steps ++ rest
    → Again (read_steps end (length steps) lines) steps rest
steps_again spelled end lines [] rest are words = record { left = lines; is = refl; words = words }
steps_again spelled end lines (step ∷ steps) rest are words =
    let first : Again (read_step end lines) step (flat_map step_lines steps ++ rest) =
    step_again spelled end lines step (flat_map step_lines steps ++ rest) are.0 (words ∙ append_assoc (step_lines step) (flat_map step_lines steps) rest) in
    let others = steps_again spelled end first.left steps rest are.1 first.words in
    record {
      left = others.left;
      is = rw (first.is, others.is) refl;
      words = others.words;
    }
