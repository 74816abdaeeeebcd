-- The value that the words give an argument.
use Rattle.std.specs.Prelude.{ℕ, List, [], ◌∷◌, Option, Some, None, if◌then◌else◌, map, option_map}
use Rattle.std.specs.Borrow.{Bor}
use Rattle.std.specs.List.{filter_map}
use Rattle.gp_words.specs.Argument.{same_argument}
use Rattle.gp_words.specs.Reading.{GivenForm, given_of, if_some, with_given}
use Rattle.gp_words.specs.declared.argument.Argument.{Argument}
use Rattle.gp_words.specs.declared.argument.Program.{Program}

-- the value, where it is given to this argument
abbrev pub value_for : Argument → GivenForm → Option (List ℕ)
value_for argument given = if same_argument given.argument argument then Some given.value else None

-- the values given to an argument, in order
abbrev pub values_of : Argument → List GivenForm → List (List ℕ)
values_of argument given = filter_map (value_for argument) given

-- none or one value; more are refused
abbrev pub at_most_one : List (List ℕ) → Option (Option (List ℕ))
at_most_one [] = Some None
at_most_one (value ∷ []) = Some (Some value)
at_most_one (value ∷ again ∷ more) = None

-- the value that the words give an argument, none or one; refused where the words are, or give it twice
abbrev pub value_of : Program → Argument → List (List ℕ) → Option (Option (List ℕ))
value_of program argument words = if_some (given_of program words) (λ given. at_most_one (values_of argument given))

-- the values so far, none or one, and then these
abbrev pub after_value : Option (List ℕ) → List (List ℕ) → List (List ℕ)
after_value None values = values
after_value (Some value) values = value ∷ values

-- the value so far, or the one that a word gives; both are refused
abbrev pub value_now : Argument → Option (List ℕ) → Option GivenForm → Option (Option (List ℕ))
value_now argument value given = at_most_one (after_value value (values_of argument (with_given given [])))

-- all values that the words give an argument, in order; refused where the words are
abbrev pub all_values_of : Program → Argument → List (List ℕ) → Option (List (List ℕ))
all_values_of program argument words = option_map (values_of argument) (given_of program words)

-- the values that a word gives an argument, none or one
abbrev pub values_in : Argument → Option GivenForm → List (List ℕ)
values_in argument given = values_of argument (with_given given [])

-- what contracts see of lent texts
abbrev pub lent_texts : List (Bor (List ℕ)) → List (List ℕ)
lent_texts texts = map (λ text. text.now) texts
