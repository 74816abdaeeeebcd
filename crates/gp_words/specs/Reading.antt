-- How the words of a command line are read, one after another.
use Rattle.std.specs.Prelude.{ℕ, Bool, false, ◌==◌, List, [], ◌∷◌, Option, Some, None, option_map, if◌then◌else◌, codes}
use Rattle.std.specs.List.{after_first, before_first, list_any}
use Rattle.std.specs.Str.{bytes_eq}
use Rattle.gp_words.specs.Argument.{option_named}
use Rattle.gp_words.specs.declared.argument.Argument.{Argument}
use Rattle.gp_words.specs.declared.argument.Argument.TheVariants.{Folder}
use Rattle.gp_words.specs.declared.argument.Program.{Program}
use Rattle.gp_words.specs.declared.reading.Expected.{Expected}
use Rattle.gp_words.specs.declared.reading.Expected.TheVariants.{AnyWord, ValueOf, PlainWord}
use Rattle.gp_words.specs.declared.reading.Given.{Given}
use Rattle.gp_words.specs.declared.reading.Reading.{Reading}

-- an option with its value, or a folder with the plain word that names it
pub record GivenForm : Type 0 where
  pub argument : Argument
  pub value : List ℕ

-- what one word gives, and what may come after it
pub record ReadingForm : Type 0 where
  pub given : Option GivenForm
  pub next : Expected

-- what contracts see of the code's own types
abbrev pub given_form : Given → GivenForm
given_form given = record { argument = given.argument; value = given.value.now }

abbrev pub reading_form : Reading → ReadingForm
reading_form reading = record { given = option_map given_form reading.given; next = reading.next }

-- the next answer, where there is a value
abbrev pub if_some : {A B : Type 0} → Option A → (A → Option B) → Option B
if_some None next = None
if_some (Some value) next = next value

-- what a word gives, and then what the words after it give
abbrev pub with_given : Option GivenForm → List GivenForm → List GivenForm
with_given None more = more
with_given (Some given) more = given ∷ more

-- whether a word begins with a hyphen
abbrev pub is_hyphened : List ℕ → Bool
is_hyphened [] = false
is_hyphened (byte ∷ bytes) = byte == 45

-- whether a word begins with a hyphen and has more bytes than that one
abbrev pub is_option_word : List ℕ → Bool
is_option_word [] = false
is_option_word (byte ∷ []) = false
is_option_word (byte ∷ next ∷ bytes) = byte == 45

-- whether a byte is an equals sign
abbrev pub is_equals : ℕ → Bool
is_equals byte = byte == 61

-- a value for an argument, and what may come after it
abbrev pub gives : Argument → List ℕ → Expected → ReadingForm
gives argument value next = record { given = Some (record { argument = argument; value = value }); next = next }

-- `--name=value` gives the option all bytes after the first equals sign; `--name` takes the next word
abbrev pub read_option : Program → List ℕ → Option ReadingForm
read_option program word =
    if list_any is_equals word then option_map (λ option. gives option (after_first is_equals word) AnyWord) (option_named program (before_first is_equals word))
    else option_map (λ option. record { given = None; next = ValueOf option }) (option_named program word)

-- `--` ends the options; any other word that begins with a hyphen and has more bytes is an option, and all others are plain
abbrev pub read_any : Program → List ℕ → Option ReadingForm
read_any program word =
    if bytes_eq word (codes "--") then Some (record { given = None; next = PlainWord })
    else (if is_option_word word then read_option program word else Some (gives Folder word AnyWord))

-- a word where any word may come, the value of the option before it, or a word after `--`
abbrev pub read_word : Program → Expected → List ℕ → Option ReadingForm
read_word program AnyWord word = read_any program word
read_word program (ValueOf option) word = if is_hyphened word then None else Some (gives option word AnyWord)
read_word program PlainWord word = Some (gives Folder word PlainWord)

-- nothing more is given at the end; an option must not wait for its value there
abbrev pub at_end : Expected → Option (List GivenForm)
at_end (ValueOf option) = None
at_end AnyWord = Some []
at_end PlainWord = Some []

-- what these words give in order, where this may come first
abbrev pub given_from : Program → Expected → List (List ℕ) → Option (List GivenForm)
given_from program expected [] = at_end expected
given_from program expected (word ∷ words) = if_some (read_word program expected word) (λ reading. option_map (with_given reading.given) (given_from program reading.next words))

-- what the words of a program's command line give, in order
abbrev pub given_of : Program → List (List ℕ) → Option (List GivenForm)
given_of program words = given_from program AnyWord words
