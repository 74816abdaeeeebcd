-- That the order of the words does not matter.
use Rattle.std.specs.Prelude.{◌≡◌, ℕ, List, Some}
use Rattle.std.specs.List.Sorted.{IsPermutation}
use Rattle.gp_words.specs.Command.{command_of}
use Rattle.gp_words.specs.Reading.{GivenForm, given_of}
use Rattle.gp_words.specs.Sharding.{shard_command_of}
use Rattle.gp_words.specs.Showing.{show_command_of}
use Rattle.gp_words.specs.Value.{values_of}
use Rattle.gp_words.specs.declared.argument.Argument.TheVariants.{Folder}
use Rattle.gp_words.specs.declared.argument.Program.{Program}
use Rattle.gp_words.specs.declared.argument.Program.TheVariants.{Gpredict, Gpshow, Gpshards}

-- words that give a program the same options and folder, in whatever order, are the same to it
abbrev pub IsAnyOrder : {A : Type 0} → Program → (List (List ℕ) → A) → Type 0
IsAnyOrder program reads = (words others : List (List ℕ)) (given moved : List GivenForm)
    → given_of program words ≡ Some given → given_of program others ≡ Some moved → IsPermutation given moved → reads words ≡ reads others

-- words that give a program the same options in whatever order, and the same folders in one order, are the same to it
abbrev pub IsAnyOrderOfOptions : {A : Type 0} → Program → (List (List ℕ) → A) → Type 0
IsAnyOrderOfOptions program reads = (words others : List (List ℕ)) (given moved : List GivenForm)
    → given_of program words ≡ Some given → given_of program others ≡ Some moved → IsPermutation given moved → values_of Folder given ≡ values_of Folder moved
    → reads words ≡ reads others

-- the words of each program
pub record AnyOrder : Type 0 where
  pub gpredict : IsAnyOrder Gpredict command_of
  pub gpshow : IsAnyOrder Gpshow show_command_of
  pub gpshards : IsAnyOrderOfOptions Gpshards shard_command_of
