-- The order of the words does not matter.
use Rattle.std.proofs.Common.{◌≡◌, refl, sym, ap, ◌∙◌, ℕ, ◌+◌, Bool, true, false, cond, List, [], ◌∷◌, length, sum_by, arith}
use Rattle.std.specs.Prelude.{Some, None, if◌then◌else◌}
use Rattle.std.specs.List.{AllByRecursion, cons_option}
use Rattle.std.specs.List.Sorted.{IsPermutation}
use Rattle.std.proofs.lemmas.Bool.{true≢false}
use Rattle.std.proofs.lemmas.List.Elements.{All-from_recursion, recursion_from_All}
use Rattle.std.proofs.lemmas.List.Recursion.{is_sum_by}
use Rattle.std.proofs.lemmas.List.Sorted.{All-permutation, sum_by-IsPermutation}
use Rattle.gp_words.specs.Argument.{same_argument}
use Rattle.gp_words.specs.Command.{command_of}
use Rattle.gp_words.specs.Order.{AnyOrder, IsAnyOrder, IsAnyOrderOfOptions}
use Rattle.gp_words.specs.Reading.{GivenForm, given_of}
use Rattle.gp_words.specs.Sharding.{shard_command_of}
use Rattle.gp_words.specs.Showing.{show_command_of}
use Rattle.gp_words.specs.Value.{all_values_of, at_most_one, value_of, values_of}
use Rattle.gp_words.specs.declared.argument.Argument.{Argument}
use Rattle.gp_words.specs.declared.argument.Argument.TheVariants as argument
use Rattle.gp_words.specs.declared.argument.Program.{Program}
use Rattle.gp_words.specs.declared.argument.Program.TheVariants.{Gpredict, Gpshow, Gpshards}

-- given to this argument
abbrev is_for : Argument → GivenForm → Bool
is_for argument given = same_argument given.argument argument

one_or_none : (mine : Bool) (value : List ℕ) (values : List (List ℕ)) → length (cons_option (if mine then Some value else None) values) ≡ cond mine 1 0 + length values
one_or_none true value values = omega arith
one_or_none false value values = omega arith

-- as many values are given to an argument as there are words for it
count : (argument : Argument) (given : List GivenForm) → length (values_of argument given) ≡ sum_by (λ given. cond (is_for argument given) 1 0) given
count argument given =
    is_sum_by (λ given. length (values_of argument given)) (λ given. cond (is_for argument given) 1 0) refl
    (λ given more. one_or_none (is_for argument given) given.value (values_of argument more)) given

-- the value is this one, where it is given to this argument
abbrev HasValue : Argument → List ℕ → GivenForm → Type 0
HasValue argument value given = is_for argument given ≡ true → given.value ≡ value

given_head : (argument : Argument) (value : List ℕ) (given : GivenForm) (values : List (List ℕ)) (mine : Bool) → is_for argument given ≡ mine
    → AllByRecursion (λ other. other ≡ value) (cons_option (if mine then Some given.value else None) values)
    → HasValue argument value given × AllByRecursion (λ other. other ≡ value) values
given_head argument value given values true is all = (λ here. all.0, all.1)
given_head argument value given values false is all = (λ here. absurd (true≢false (sym here ∙ is)), all)

-- where all values given to an argument are this one, so is each that a word gives it
each_given : (argument : Argument) (value : List ℕ) (given : List GivenForm)
    → AllByRecursion (λ other. other ≡ value) (values_of argument given) → AllByRecursion (HasValue argument value) given
each_given argument value [] all = tt
each_given argument value (given ∷ more) all =
    let both = given_head argument value given (values_of argument more) (is_for argument given) refl all in
    (both.0, each_given argument value more both.1)

value_head : (argument : Argument) (value : List ℕ) (given : GivenForm) (values : List (List ℕ)) (mine : Bool) → is_for argument given ≡ mine
    → HasValue argument value given → AllByRecursion (λ other. other ≡ value) values
    → AllByRecursion (λ other. other ≡ value) (cons_option (if mine then Some given.value else None) values)
value_head argument value given values true is here all = (here is, all)
value_head argument value given values false is here all = all

-- and the other way round
each_value : (argument : Argument) (value : List ℕ) (given : List GivenForm)
    → AllByRecursion (HasValue argument value) given → AllByRecursion (λ other. other ≡ value) (values_of argument given)
each_value argument value [] all = tt
each_value argument value (given ∷ more) all =
    value_head argument value given (values_of argument more) (is_for argument given) refl all.0 (each_value argument value more all.1)

-- lists as long as each other, the second of them of one value where the first is that value alone
alike : (values others : List (List ℕ)) → length values ≡ length others
    → ((value : List ℕ) → AllByRecursion (λ other. other ≡ value) values → AllByRecursion (λ other. other ≡ value) others)
    → at_most_one values ≡ at_most_one others
alike [] [] long same = refl
alike [] (other ∷ others) long same = absurd (omega (arith, long))
alike (value ∷ []) [] long same = absurd (omega (arith, long))
alike (value ∷ []) (other ∷ []) long same = ap (λ value. Some (Some value)) (sym (same value (refl, tt)).0)
alike (value ∷ []) (other ∷ next ∷ others) long same = absurd (omega (arith, long))
alike (value ∷ again ∷ values) [] long same = absurd (omega (arith, long))
alike (value ∷ again ∷ values) (other ∷ []) long same = absurd (omega (arith, long))
alike (value ∷ again ∷ values) (other ∷ next ∷ others) long same = refl

-- an argument is given the same value, or none, or more than one, in whatever order
same_value : (argument : Argument) (given moved : List GivenForm) → IsPermutation given moved
    → at_most_one (values_of argument given) ≡ at_most_one (values_of argument moved)
same_value argument given moved permuted =
    alike (values_of argument given) (values_of argument moved)
    (count argument given ∙ (sym (sum_by-IsPermutation (λ given. cond (is_for argument given) 1 0) given moved permuted) ∙ sym (count argument moved)))
    (λ value all.
    each_value argument value moved (recursion_from_All (HasValue argument value) moved
    (All-permutation (HasValue argument value) given moved permuted (All-from_recursion (HasValue argument value) given (each_given argument value given all)))))

-- so the words of a program give it the same value, whose options and folder are the same
same_given : (program : Program) (words others : List (List ℕ)) (given moved : List GivenForm)
    → given_of program words ≡ Some given → given_of program others ≡ Some moved → IsPermutation given moved
    → (argument : Argument) → value_of program argument words ≡ value_of program argument others
same_given program words others given moved read other permuted argument = rw read (rw other (same_value argument given moved permuted))

gpredict : IsAnyOrder Gpredict command_of
gpredict words others given moved read other permuted =
    let same = same_given Gpredict words others given moved read other permuted in
    rw (same argument.Task) (rw (same argument.Folder) (rw (same argument.Workers) (rw (same argument.Budget) (rw (same argument.Report)
    (rw (same argument.Seed) (rw (same argument.Threads) (rw (same argument.Events) refl)))))))

gpshow : IsAnyOrder Gpshow show_command_of
gpshow words others given moved read other permuted =
    let same = same_given Gpshow words others given moved read other permuted in
    rw (same argument.As) (rw (same argument.Folder) (rw (same argument.Source) (rw (same argument.Window) (rw (same argument.Property)
    (rw (same argument.Instance) (rw (same argument.Answer) (rw (same argument.Most) refl)))))))

-- the folders, in one order
same_folders : (words others : List (List ℕ)) (given moved : List GivenForm)
    → given_of Gpshards words ≡ Some given → given_of Gpshards others ≡ Some moved → values_of argument.Folder given ≡ values_of argument.Folder moved
    → all_values_of Gpshards argument.Folder words ≡ all_values_of Gpshards argument.Folder others
same_folders words others given moved read other same = rw read (rw other (ap Some same))

gpshards : IsAnyOrderOfOptions Gpshards shard_command_of
gpshards words others given moved read other permuted folders =
    let same = same_given Gpshards words others given moved read other permuted in
    rw (same argument.Task) (rw (same argument.Part) (rw (same argument.Of) (rw (same_folders words others given moved read other folders) refl)))

pub any_order_lem : AnyOrder
any_order_lem = record { gpredict = gpredict; gpshow = gpshow; gpshards = gpshards }
