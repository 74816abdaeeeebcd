-- Lists are read as they are written.
use Rattle.std.proofs.Common.{◌≡◌, refl, sym, ap, ◌∙◌, subst, ℕ, zero, suc, ◌-◌, ◌<◌, min, true, List, [], ◌∷◌, ◌++◌, length, take, drop, map, Result, Ok, Err, arith, length-append, length-drop, length-take}
use Rattle.std.specs.Prelude.{Option, ◌==◌}
use Rattle.std.specs.List.{AllByRecursion}
use Rattle.std.proofs.lemmas.Bool.{eq-eqb, eqb-true}
use Rattle.std.proofs.lemmas.List.{length-map, map-append, take-append-drop}
use Rattle.gp_base.specs.ListLaws.{recursion_append, recursion_parts}
use Rattle.gp_text.specs.declared.line.Line.{Line}
use Rattle.gp_base.specs.Results.{or_refusal, then_rest}
use Rattle.gp_writer.specs.Lines.{in_lines}
use Rattle.gp_writer.specs.LinesLaws.{cut_line}
use Rattle.gp_report.specs.declared.fault.ReportFault.{ReportFault}
use Rattle.gp_report.specs.declared.fault.ReportFault.TheVariants.{Rule}
use Rattle.gp_report.specs.declared.fault.ReportRule.TheVariants.{Form, Length}
use Rattle.gp_report.specs.Reading.{Reads, kept_if, read_list, read_list_line, read_words, with_things}
use Rattle.gp_report.proofs.Taking.{Takes, bind_ok, kept_ok, ok_is, some_ok, words_in}
use Rattle.gp_report.proofs.WordsRead.{IsWordOf}

then_was : {A : Type 0} (first : Result A ReportFault) (rest : Result (List A) ReportFault) (xs : List A) → then_rest first rest ≡ Ok xs
    → (x : A) × (others : List A) × (first ≡ Ok x) × (rest ≡ Ok others) × (x ∷ others ≡ xs)
then_was (Ok x) (Ok others) xs e = (x, others, refl, refl, cc)
then_was (Ok x) (Err fault) xs e = absurd (cc)
then_was (Err fault) rest xs e = absurd (cc)

-- the words of a line
pub words_was : {A : Type 0} (of_word : List ℕ → Option A) (word : A → List ℕ) (P : A → Type 0) → IsWordOf of_word word P
    → (number : ℕ) (words : List (List ℕ)) (xs : List A) → read_words of_word number words ≡ Ok xs → (words ≡ map word xs) × AllByRecursion P xs
words_was of_word word P is number [] xs e =
    subst (λ ys. ([] ≡ map word ys) × AllByRecursion P ys) (ok_is [] xs e) (refl, tt)
words_was of_word word P is number (w ∷ words) xs e =
    let from = then_was (or_refusal (Rule number Form) (of_word w)) (read_words of_word number words) xs e in
    let first = is.was w from.0 (some_ok (Rule number Form) (of_word w) from.0 from.2) in
    let rest = words_was of_word word P is number words from.1 from.3 in
    let here : w ∷ words ≡ map word (from.0 ∷ from.1) = ap (λ v. v ∷ words) first.0 ∙ ap (λ vs. word from.0 ∷ vs) rest.0 in
    subst (λ ys. (w ∷ words ≡ map word ys) × AllByRecursion P ys) from.4 (here, (first.1, rest.1))

pub words_again : {A : Type 0} (of_word : List ℕ → Option A) (word : A → List ℕ) (P : A → Type 0) → IsWordOf of_word word P
    → (number : ℕ) (xs : List A) → AllByRecursion P xs → read_words of_word number (map word xs) ≡ Ok xs
words_again of_word word P is number [] all = refl
words_again of_word word P is number (x ∷ xs) all =
    rw (is.again x all.0, words_again of_word word P is number xs all.1) refl

line_was : {A : Type 0} (of_word : List ℕ → Option A) (word : A → List ℕ) (P : A → Type 0) → IsWordOf of_word word P
    → (due : ℕ) (line : Line) (xs : List A) → read_list_line of_word due line ≡ Ok xs → (line.words ≡ map word xs) × AllByRecursion P xs × (length xs ≡ due)
unfolding read_list_line
line_was of_word word P is due line xs e =
    let from = bind_ok (read_words of_word line.number line.words) (λ things. kept_if (length things == due) Length line.number things) xs e in
    let kept = kept_ok (length from.0 == due) Length line.number from.0 xs from.2 in
    let words = words_was of_word word P is line.number line.words from.0 from.1 in
    subst (λ ys. (line.words ≡ map word ys) × AllByRecursion P ys × (length ys ≡ due)) kept.1 (words.0, words.1, eqb-true (length from.0) due kept.0)

line_again : {A : Type 0} (of_word : List ℕ → Option A) (word : A → List ℕ) (P : A → Type 0) → IsWordOf of_word word P
    → (due : ℕ) (line : Line) (xs : List A) → line.words ≡ map word xs → AllByRecursion P xs → length xs ≡ due → read_list_line of_word due line ≡ Ok xs
unfolding read_list_line
line_again of_word word P is due line xs words all size =
    let test : (length xs == due) ≡ true = eq-eqb (length xs) due size in
    rw (words, words_again of_word word P is line.number xs all, test) refl

things_was : {A : Type 0} (front : List A) (read : Reads (List A × ℕ)) (y : (List A × ℕ) × List Line) → with_things front read ≡ Ok y
    → (x : (List A × ℕ) × List Line) × (read ≡ Ok x) × (((front ++ x.0.0, x.0.1), x.1) ≡ y)
things_was front (Ok x) y e = (x, refl, cc)
things_was front (Err fault) y e = absurd (cc)

-- a list of so many things was read
abbrev pub ListWas : {A : Type 0} → (A → List ℕ) → (A → Type 0) → ℕ → List Line → List A → List Line → Type 0
ListWas word P count lines xs left = Takes lines (in_lines (map word xs)) left × AllByRecursion P xs × (length xs ≡ count)

list_more : {A : Type 0} (word : A → List ℕ) (P : A → Type 0) (more : ℕ) (line : Line) (lines left : List Line) (front xs : List A)
    → line.words ≡ map word front → AllByRecursion P front → length front ≡ min 100 (suc more)
    → ListWas word P (suc more - 100) lines xs left → ListWas word P (suc more) (line ∷ lines) (front ++ xs) left
list_more word P more line lines left front xs words all size was =
    let whole : map word (front ++ xs) ≡ map word front ++ map word xs = map-append word front xs in
    let count : length (front ++ xs) ≡ suc more = omega (arith, length-append front xs, was.2) in
    let full : length (map word front) ≡ min 100 (length (map word (front ++ xs))) = rw (length-map front word, length-map (front ++ xs) word, count) size in
    let some : 0 < length (map word (front ++ xs)) = rw (length-map (front ++ xs) word, count) (omega arith) in
    let cut : in_lines (map word (front ++ xs)) ≡ map word front ∷ in_lines (map word xs) = cut_line (map word (front ++ xs)) (map word front) (map word xs) whole full some in
    let here : Takes (line ∷ lines) (map word front ∷ in_lines (map word xs)) left = ap (λ v. v ∷ words_in lines) words ∙ ap (λ vs. map word front ∷ vs) was.0 in
    (subst (λ vs. Takes (line ∷ lines) vs left) (sym cut) here, recursion_append P front xs all was.1, count)

-- a list that is read was written
pub list_was : {A : Type 0} (of_word : List ℕ → Option A) (word : A → List ℕ) (P : A → Type 0) → IsWordOf of_word word P
    → (end last count : ℕ) (lines : List Line) (y : (List A × ℕ) × List Line) → read_list of_word end last count lines ≡ Ok y → ListWas word P count lines y.0.0 y.1
list_was {A = A} of_word word P is end last zero lines y e =
    subst (λ (z : (List A × ℕ) × List Line). ListWas word P 0 lines z.0.0 z.1) (ok_is (([], last), lines) y e) (refl, tt, refl)
list_was of_word word P is end last (suc more) [] y e = absurd (cc)
list_was {A = A} of_word word P is end last (suc more) (line ∷ lines) y e =
    let from = bind_ok (read_list_line of_word (min 100 (suc more)) line) (λ things. with_things things (read_list of_word end line.number (suc more - 100) lines)) y e in
    let first = line_was of_word word P is (min 100 (suc more)) line from.0 from.1 in
    let rest = things_was from.0 (read_list of_word end line.number (suc more - 100) lines) y from.2 in
    let others = list_was of_word word P is end line.number (suc more - 100) lines rest.0 rest.1 in
    subst (λ (z : (List A × ℕ) × List Line). ListWas word P (suc more) (line ∷ lines) z.0.0 z.1) rest.2
    (list_more word P more line lines rest.0.1 from.0 rest.0.0.0 first.0 first.1 first.2 others)

-- a list is read, and the number of its last line
pub record ListAgain {A : Type 0} (read : Reads (List A × ℕ)) (xs : List A) (rest : List (List (List ℕ))) : Type 0 where
  pub last : ℕ
  pub left : List Line
  pub is : read ≡ Ok ((xs, last), left)
  pub words : words_in left ≡ rest

again_more : {A : Type 0} (of_word : List ℕ → Option A) (word : A → List ℕ) (P : A → Type 0) → IsWordOf of_word word P
    → (end : ℕ) (line : Line) (lines : List Line) (more : ℕ) (front others xs : List A) (rest : List (List (List ℕ)))
    → front ++ others ≡ xs → length front ≡ min 100 (suc more) → line.words ≡ map word front → AllByRecursion P front
    → ListAgain (read_list of_word end line.number (suc more - 100) lines) others rest
    → (last : ℕ) → ListAgain (read_list of_word end last (suc more) (line ∷ lines)) xs rest
again_more of_word word P is end line lines more front others xs rest parts size words all again last =
    let first : read_list_line of_word (min 100 (suc more)) line ≡ Ok front = line_again of_word word P is (min 100 (suc more)) line front words all size in
    record {
      last = again.last;
      left = again.left;
      is = rw (first, again.is) (ap (λ ys. Ok ((ys, again.last), again.left)) parts);
      words = again.words;
    }

-- a list that is written is read
pub list_again : {A : Type 0} (of_word : List ℕ → Option A) (word : A → List ℕ) (P : A → Type 0) → IsWordOf of_word word P
    → (end last : ℕ) (lines : List Line) (xs : List A) (rest : List (List (List ℕ)))
    → AllByRecursion P xs → words_in lines ≡ in_lines (map word xs) ++ rest → ListAgain (read_list of_word end last (length xs) lines) xs rest
list_again of_word word P is end last lines [] rest all words = record { last = last; left = lines; is = refl; words = words }
list_again of_word word P is end last [] (x ∷ xs) rest all words = absurd (cc)
list_again of_word word P is end last (line ∷ lines) (x ∷ xs) rest all words =
    let front = take 100 (x ∷ xs) in
    let others = drop 100 (x ∷ xs) in
    let parts : front ++ others ≡ x ∷ xs = take-append-drop 100 (x ∷ xs) in
    let each = recursion_parts P front others (subst (AllByRecursion P) (sym parts) all) in
    let whole : map word (x ∷ xs) ≡ map word front ++ map word others = ap (map word) (sym parts) ∙ map-append word front others in
    let size : length front ≡ min 100 (suc (length xs)) = length-take 100 (x ∷ xs) in
    let full : length (map word front) ≡ min 100 (length (map word (x ∷ xs))) = rw (length-map front word, length-map (x ∷ xs) word) size in
    let some : 0 < length (map word (x ∷ xs)) = rw (length-map (x ∷ xs) word) (omega arith) in
    let cut : in_lines (map word (x ∷ xs)) ≡ map word front ∷ in_lines (map word others) = cut_line (map word (x ∷ xs)) (map word front) (map word others) whole full some in
    let split : line.words ∷ words_in lines ≡ map word front ∷ (in_lines (map word others) ++ rest) = words ∙ ap (λ (vs : List (List (List ℕ))). vs ++ rest) cut in
    let here : line.words ≡ map word front = cc in
    let behind : words_in lines ≡ in_lines (map word others) ++ rest = cc in
    let left : length others ≡ suc (length xs) - 100 = length-drop 100 (x ∷ xs) in
    let again : ListAgain (read_list of_word end line.number (length others) lines) others rest =
    list_again of_word word P is end line.number lines others rest each.1 behind in
    again_more of_word word P is end line lines (length xs) front others (x ∷ xs) rest parts size here each.0
    (subst (λ n. ListAgain (read_list of_word end line.number n lines) others rest) left again) last
