-- The walk over the words that looks up all values of an argument.
use Rattle.std.proofs.Common.{◌≡◌, refl, sym, ap, ◌∙◌, ℕ, Bool, true, false, List, [], ◌∷◌, ◌++◌, append_assoc}
use Rattle.std.specs.Prelude.{Option, Some, None, option_map, if◌then◌else◌}
use Rattle.std.specs.List.{cons_option}
use Rattle.gp_words.specs.Argument.{same_argument}
use Rattle.gp_words.specs.Reading.{GivenForm, ReadingForm, given_from, if_some, read_word, with_given}
use Rattle.gp_words.specs.Value.{values_in, values_of}
use Rattle.gp_words.specs.declared.argument.Argument.{Argument}
use Rattle.gp_words.specs.declared.argument.Program.{Program}
use Rattle.gp_words.specs.declared.reading.Expected.{Expected}

-- the values so far, and those that these words give, where this may come first
abbrev pub values_from : Program → Argument → List (List ℕ) → Expected → List (List ℕ) → Option (List (List ℕ))
values_from program argument values expected words = option_map (λ given. values ++ values_of argument given) (given_from program expected words)

first_value : (mine : Bool) (value : List ℕ) (more : List (List ℕ))
    → cons_option (if mine then Some value else None) more ≡ cons_option (if mine then Some value else None) [] ++ more
first_value true value more = refl
first_value false value more = refl

-- what a word gives stands before what the words after it give
values_parted : (argument : Argument) (given : Option GivenForm) (more : List GivenForm)
    → values_of argument (with_given given more) ≡ values_in argument given ++ values_of argument more
values_parted argument None more = refl
values_parted argument (Some given) more = first_value (same_argument given.argument argument) given.value (values_of argument more)

one_given : (argument : Argument) (values : List (List ℕ)) (given : Option GivenForm) (more : Option (List GivenForm))
    → option_map (λ given. values ++ values_of argument given) (option_map (with_given given) more)
    ≡ option_map (λ more. (values ++ values_in argument given) ++ values_of argument more) more
one_given argument values given None = refl
one_given argument values given (Some more) =
    ap (λ list. Some (values ++ list)) (values_parted argument given more)
    ∙ ap Some (sym (append_assoc values (values_in argument given) (values_of argument more)))

one_read : (program : Program) (argument : Argument) (values : List (List ℕ)) (reading : Option ReadingForm) (words : List (List ℕ))
    → option_map (λ given. values ++ values_of argument given) (if_some reading (λ reading. option_map (with_given reading.given) (given_from program reading.next words)))
    ≡ if_some reading (λ reading. values_from program argument (values ++ values_in argument reading.given) reading.next words)
one_read program argument values None words = refl
one_read program argument values (Some reading) words = one_given argument values reading.given (given_from program reading.next words)

-- a walk over these words reads the first one, adds what it gives to the values, and goes on from there
one_more : (program : Program) (argument : Argument) (values : List (List ℕ)) (expected : Expected) (word : List ℕ) (words : List (List ℕ))
    → values_from program argument values expected (word ∷ words)
    ≡ if_some (read_word program expected word) (λ reading. values_from program argument (values ++ values_in argument reading.given) reading.next words)
one_more program argument values expected word words = one_read program argument values (read_word program expected word) words

-- the walk goes on behind a word
pub collects : (program : Program) (argument : Argument) (values now : List (List ℕ)) (expected : Expected) (left : List (List ℕ)) (word : List ℕ) (rest : List (List ℕ)) (reading : ReadingForm)
    → left ≡ word ∷ rest → Some reading ≡ read_word program expected word → now ≡ values ++ values_in argument reading.given
    → values_from program argument now reading.next rest ≡ values_from program argument values expected left
collects program argument values now expected left word rest reading first read given =
    sym (rw first (one_more program argument values expected word rest ∙ (rw (← read) (rw (← given) refl))))

-- the words are refused where one of them is
pub refused_here : (program : Program) (argument : Argument) (values : List (List ℕ)) (expected : Expected) (left : List (List ℕ)) (word : List ℕ) (rest : List (List ℕ))
    → left ≡ word ∷ rest → None ≡ read_word program expected word → None ≡ values_from program argument values expected left
refused_here program argument values expected left word rest first read =
    sym (rw first (one_more program argument values expected word rest ∙ (rw (← read) refl)))
