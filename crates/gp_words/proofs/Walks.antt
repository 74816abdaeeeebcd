-- The walk over the words that looks up one argument.
use Rattle.std.proofs.Common.{◌≡◌, refl, ℕ, Bool, true, false, List, ◌∷◌, ap, sym, ◌∙◌, ◌+◌, ◌<◌, drop, get_or, length, map}
use Rattle.std.specs.Prelude.{Option, Some, None, option_map}
use Rattle.std.proofs.lemmas.List.{drop_more}
use Rattle.gp_words.specs.Argument.{same_argument}
use Rattle.gp_words.specs.Reading.{GivenForm, ReadingForm, given_from, if_some, read_word, with_given}
use Rattle.gp_words.specs.Value.{after_value, at_most_one, value_now, values_of}
use Rattle.gp_words.specs.declared.argument.Argument.{Argument}
use Rattle.gp_words.specs.declared.argument.Program.{Program}
use Rattle.gp_words.specs.declared.reading.Expected.{Expected}

-- the value so far, or the one that these words give, where this may come first
abbrev pub value_from : Program → Argument → Option (List ℕ) → Expected → List (List ℕ) → Option (Option (List ℕ))
value_from program argument value expected words =
    if_some (given_from program expected words) (λ given. at_most_one (after_value value (values_of argument given)))

-- the same, where the next word gives this
abbrev pub value_then : Argument → Option (List ℕ) → Option GivenForm → Option (List GivenForm) → Option (Option (List ℕ))
value_then argument value given more =
    if_some (option_map (with_given given) more) (λ given. at_most_one (after_value value (values_of argument given)))

not_given : (argument : Argument) (value : Option (List ℕ)) (more : Option (List GivenForm))
    → value_then argument value None more ≡ if_some (value_now argument value None) (λ value. if_some more (λ given. at_most_one (after_value value (values_of argument given))))
not_given argument None None = refl
not_given argument None (Some more) = refl
not_given argument (Some value) None = refl
not_given argument (Some value) (Some more) = refl

given_here : (mine : Bool) (argument : Argument) (value : Option (List ℕ)) (given : GivenForm) (more : Option (List GivenForm))
    → same_argument given.argument argument ≡ mine
    → value_then argument value (Some given) more ≡ if_some (value_now argument value (Some given)) (λ value. if_some more (λ given. at_most_one (after_value value (values_of argument given))))
given_here true argument None given None is = rw is refl
given_here true argument None given (Some more) is = rw is refl
given_here true argument (Some value) given None is = rw is refl
given_here true argument (Some value) given (Some more) is = rw is refl
given_here false argument None given None is = rw is refl
given_here false argument None given (Some more) is = rw is refl
given_here false argument (Some value) given None is = rw is refl
given_here false argument (Some value) given (Some more) is = rw is refl

one_given : (argument : Argument) (value : Option (List ℕ)) (given : Option GivenForm) (more : Option (List GivenForm))
    → value_then argument value given more ≡ if_some (value_now argument value given) (λ value. if_some more (λ given. at_most_one (after_value value (values_of argument given))))
one_given argument value None more = not_given argument value more
one_given argument value (Some given) more = given_here (same_argument given.argument argument) argument value given more refl

one_read : (program : Program) (argument : Argument) (value : Option (List ℕ)) (reading : Option ReadingForm) (words : List (List ℕ))
    → if_some (if_some reading (λ reading. option_map (with_given reading.given) (given_from program reading.next words))) (λ given. at_most_one (after_value value (values_of argument given)))
    ≡ if_some reading (λ reading. if_some (value_now argument value reading.given) (λ value. value_from program argument value reading.next words))
one_read program argument value None words = refl
one_read program argument value (Some reading) words = one_given argument value reading.given (given_from program reading.next words)

-- a walk over these words reads the first one, joins what it gives to the value, and goes on from there
pub one_more : (program : Program) (argument : Argument) (value : Option (List ℕ)) (expected : Expected) (word : List ℕ) (words : List (List ℕ))
    → value_from program argument value expected (word ∷ words)
    ≡ if_some (read_word program expected word) (λ reading. if_some (value_now argument value reading.given) (λ value. value_from program argument value reading.next words))
one_more program argument value expected word words = one_read program argument value (read_word program expected word) words

-- what is left begins with the word at its place
pub at_word : {X : Type 0} (bytes : X → List ℕ) (words : List X) (place : ℕ) (item : X) (word : List ℕ)
    → place < length words → item ≡ get_or words place item → word ≡ bytes item
    → map bytes (drop place words) ≡ word ∷ map bytes (drop (place + 1) words)
at_word bytes words place item word below is spelled =
    ap (map bytes) (drop_more words place item below)
    ∙ ap (λ first. first ∷ map bytes (drop (place + 1) words)) (sym (spelled ∙ ap bytes is))

-- the walk goes on behind a word
pub goes_on : (program : Program) (argument : Argument) (value now : Option (List ℕ)) (expected : Expected) (left : List (List ℕ)) (word : List ℕ) (rest : List (List ℕ)) (reading : ReadingForm)
    → left ≡ word ∷ rest → Some reading ≡ read_word program expected word → Some now ≡ value_now argument value reading.given
    → value_from program argument now reading.next rest ≡ value_from program argument value expected left
goes_on program argument value now expected left word rest reading first read given =
    sym (rw first (one_more program argument value expected word rest ∙ (rw (← read) (rw (← given) refl))))

-- the words are refused where one of them is
pub refused_word : (program : Program) (argument : Argument) (value : Option (List ℕ)) (expected : Expected) (left : List (List ℕ)) (word : List ℕ) (rest : List (List ℕ))
    → left ≡ word ∷ rest → None ≡ read_word program expected word → None ≡ value_from program argument value expected left
refused_word program argument value expected left word rest first read =
    sym (rw first (one_more program argument value expected word rest ∙ (rw (← read) refl)))

-- the words are refused where an argument is given twice
pub refused_value : (program : Program) (argument : Argument) (value : Option (List ℕ)) (expected : Expected) (left : List (List ℕ)) (word : List ℕ) (rest : List (List ℕ)) (reading : ReadingForm)
    → left ≡ word ∷ rest → Some reading ≡ read_word program expected word → None ≡ value_now argument value reading.given
    → None ≡ value_from program argument value expected left
refused_value program argument value expected left word rest reading first read given =
    sym (rw first (one_more program argument value expected word rest ∙ (rw (← read) (rw (← given) refl))))
