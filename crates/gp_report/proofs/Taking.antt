-- Steps of reading: what a step that did not fail gave, and lines that are read and lines that are left.
use Rattle.std.proofs.Common.{◌≡◌, refl, sym, ap, ◌∙◌, ℕ, suc, ◌≤◌, Bool, true, false, List, [], ◌∷◌, ◌++◌, length, map, Result, Ok, Err, append_assoc, arith}
use Rattle.std.specs.Prelude.{Option, Some, None}
use Rattle.std.proofs.lemmas.List.{length-append, length-map}
use Rattle.gp_text.specs.declared.line.Line.{Line}
use Rattle.gp_base.specs.Results.{or_refusal}
use Rattle.gp_report.specs.declared.fault.ReportFault.{ReportFault}
use Rattle.gp_report.specs.declared.fault.ReportRule.{ReportRule}
use Rattle.gp_report.specs.Reading.{Reads, ◌>>=◌, kept_if, next_line}

-- the words of lines
abbrev pub words_in : List Line → List (List (List ℕ))
words_in lines = map (λ (line : Line). line.words) lines

-- a step that did not fail
pub bind_ok : {A B : Type 0} (read : Result A ReportFault) (next : A → Result B ReportFault) (y : B) → (read >>= next) ≡ Ok y → (x : A) × (read ≡ Ok x) × (next x ≡ Ok y)
bind_ok (Ok x) next y e = (x, refl, e)
bind_ok (Err fault) next y e = absurd (cc)

-- a test that did not fail
pub kept_ok : {A : Type 0} (right : Bool) (rule : ReportRule) (number : ℕ) (x y : A) → kept_if right rule number x ≡ Ok y → (right ≡ true) × (x ≡ y)
kept_ok true rule number x y e = (refl, cc)
kept_ok false rule number x y e = absurd (cc)

-- a value that was there
pub some_ok : {A : Type 0} (fault : ReportFault) (value : Option A) (y : A) → or_refusal fault value ≡ Ok y → value ≡ Some y
some_ok fault (Some x) y e = cc
some_ok fault None y e = absurd (cc)

abbrev done : {A : Type 0} → A → Result A ReportFault
done x = Ok x

pub ok_is : {A : Type 0} (x y : A) → done x ≡ done y → x ≡ y
ok_is x y e = cc

-- these lines were read, and those are left
abbrev pub Takes : List Line → List (List (List ℕ)) → List Line → Type 0
Takes lines read left = words_in lines ≡ read ++ words_in left

pub then_takes : (lines middle left : List Line) (first second : List (List (List ℕ))) → Takes lines first middle → Takes middle second left → Takes lines (first ++ second) left
then_takes lines middle left first second takes more =
    takes ∙ ap (λ rest. first ++ rest) more ∙ sym (append_assoc first second (words_in left))

-- a value is read, and lines of these words are left
pub record Again {A : Type 0} (read : Reads A) (value : A) (rest : List (List (List ℕ))) : Type 0 where
  pub left : List Line
  pub is : read ≡ Ok (value, left)
  pub words : words_in left ≡ rest

-- the next line, where there is one of these words
pub record Next (lines : List Line) (head : List (List ℕ)) (rest : List (List (List ℕ))) : Type 0 where
  pub line : Line
  pub left : List Line
  pub is : lines ≡ line ∷ left
  pub words : line.words ≡ head
  pub behind : words_in left ≡ rest

pub next_again : (lines : List Line) (head : List (List ℕ)) (rest : List (List (List ℕ))) → words_in lines ≡ head ∷ rest → Next lines head rest
next_again [] head rest e = absurd (cc)
next_again (line ∷ left) head rest e = record { line = line; left = left; is = refl; words = cc; behind = cc }

pub next_was : (end : ℕ) (lines : List Line) (read : Line × List Line) → next_line end lines ≡ Ok read → lines ≡ read.0 ∷ read.1
next_was end [] read e = absurd (cc)
next_was end (line ∷ lines) read e =
    let made = ok_is (line, lines) read e in
    ap (λ (r : Line × List Line). r.0 ∷ r.1) made

-- fewer lines are left
pub fewer_left : (lines left : List Line) (first : List (List ℕ)) (others : List (List (List ℕ))) → Takes lines (first ∷ others) left → suc (length left) ≤ length lines
fewer_left lines left first others takes =
    let all : length lines ≡ length ((first ∷ others) ++ words_in left) = sym (length-map lines (λ (line : Line). line.words)) ∙ ap length takes in
    omega (arith, all, length-append (first ∷ others) (words_in left), length-map left (λ (line : Line). line.words))
