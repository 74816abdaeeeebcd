-- How words are read: one sentence for each form of an option, for a plain word, and for the end of the options.
use Rattle.std.specs.Prelude.{◌≡◌, ℕ, false, true, List, [], ◌∷◌, ◌++◌, Option, Some, None, map, option_map, codes}
use Rattle.std.specs.List.{before_first}
use Rattle.std.specs.Str.{bytes_eq}
use Rattle.gp_words.specs.Argument.{option_named}
use Rattle.gp_words.specs.Reading.{GivenForm, given_of, is_equals, is_hyphened, is_option_word}
use Rattle.gp_words.specs.declared.argument.Argument.{Argument}
use Rattle.gp_words.specs.declared.argument.Argument.TheVariants.{Folder}
use Rattle.gp_words.specs.declared.argument.Program.{Program}

-- a value for an argument, and then what the other words give, where they give something
abbrev pub then_given : Argument → List ℕ → Option (List GivenForm) → Option (List GivenForm)
then_given argument value given = option_map (λ given. record { argument = argument; value = value } ∷ given) given

-- what each form of words gives; together they say what any words give
pub record WordsAreRead : Type 0 where
  pub nothing : (program : Program) → given_of program [] ≡ Some []
  -- `--name=value` gives the option all bytes after the first equals sign
  pub joined : (program : Program) (name value : List ℕ) (option : Argument) (words : List (List ℕ)) → option_named program name ≡ Some option
      → given_of program ((name ++ 61 ∷ value) ∷ words) ≡ then_given option value (given_of program words)
  -- `--name value` gives the option the next word, where that does not begin with a hyphen
  pub apart : (program : Program) (name value : List ℕ) (option : Argument) (words : List (List ℕ)) → option_named program name ≡ Some option → is_hyphened value ≡ false
      → given_of program (name ∷ value ∷ words) ≡ then_given option value (given_of program words)
  -- `--name` is refused before a word that begins with a hyphen, and at the end
  pub hyphened : (program : Program) (name value : List ℕ) (option : Argument) (words : List (List ℕ)) → option_named program name ≡ Some option → is_hyphened value ≡ true
      → given_of program (name ∷ value ∷ words) ≡ None
  pub missing : (program : Program) (name : List ℕ) (option : Argument) → option_named program name ≡ Some option → given_of program (name ∷ []) ≡ None
  -- a word that does not begin with a hyphen, or is that one byte, names a folder
  pub plain : (program : Program) (word : List ℕ) (words : List (List ℕ)) → is_option_word word ≡ false
      → given_of program (word ∷ words) ≡ then_given Folder word (given_of program words)
  -- `--` ends the options: each word after it names a folder
  pub ended : (program : Program) (words : List (List ℕ))
      → given_of program (codes "--" ∷ words) ≡ Some (map (λ word. record { argument = Folder; value = word }) words)
  -- any other word that begins with a hyphen is refused
  pub unknown : (program : Program) (word : List ℕ) (words : List (List ℕ)) → is_option_word word ≡ true → bytes_eq word (codes "--") ≡ false
      → option_named program (before_first is_equals word) ≡ None → given_of program (word ∷ words) ≡ None
