-- What is read as an option's name has the form of one.
use Rattle.std.proofs.Common.{◌≡◌, refl, sym, subst, ℕ, Bool, true, false, not, ◌&&◌, List}
use Rattle.std.specs.Prelude.{Option, Some, codes, if◌then◌else◌}
use Rattle.std.specs.Bool.{Decides}
use Rattle.std.specs.List.{list_any}
use Rattle.std.specs.Str.{bytes_eq}
use Rattle.std.proofs.lemmas.Slice.Eq.{bytes_eq-Decides}
use Rattle.std.proofs.lemmas.Option.{none-some}
use Rattle.gp_words.specs.Argument.{gpredict_option, gpshards_option, gpshow_option, option_named}
use Rattle.gp_words.specs.Reading.{is_equals, is_option_word}
use Rattle.gp_words.specs.declared.argument.Argument.{Argument}
use Rattle.gp_words.specs.declared.argument.Argument.TheVariants.{Task, Workers, Budget, Report, Seed, Threads, Events, As, Source, Window, Property, Instance, Answer, Most, Part, Of}
use Rattle.gp_words.specs.declared.argument.Program.{Program}
use Rattle.gp_words.specs.declared.argument.Program.TheVariants.{Gpredict, Gpshow, Gpshards}

-- a hyphen and more, which does not end the options and has no equals sign
abbrev pub is_name : List ℕ → Bool
is_name word = is_option_word word && (not (bytes_eq word (codes "--")) && not (list_any is_equals word))

-- a word that is read as this option has the form of a name
abbrev AreNames : (List ℕ → Option Argument) → Type 0
AreNames named = (name : List ℕ) (option : Argument) → named name ≡ Some option → is_name name ≡ true

-- the first name of a table, and then the others
one_name : (name word : List ℕ) (same : Bool) (argument : Argument) (rest : Option Argument)
    → Decides same (name ≡ word) → is_name word ≡ true → ((option : Argument) → rest ≡ Some option → is_name name ≡ true)
    → (option : Argument) → (if same then Some argument else rest) ≡ Some option → is_name name ≡ true
one_name name word true argument rest decides here there option is = subst (λ (name : List ℕ). is_name name ≡ true) (sym (decides.0 refl)) here
one_name name word false argument rest decides here there option is = there option is

first_name : (name word : List ℕ) (argument : Argument) (rest : Option Argument)
    → is_name word ≡ true → ((option : Argument) → rest ≡ Some option → is_name name ≡ true)
    → (option : Argument) → (if bytes_eq name word then Some argument else rest) ≡ Some option → is_name name ≡ true
first_name name word argument rest here there = one_name name word (bytes_eq name word) argument rest (bytes_eq-Decides name word) here there

gpredict_names : AreNames gpredict_option
gpredict_names name =
    first_name name (codes "--task") Task _ refl
    (first_name name (codes "--workers") Workers _ refl
    (first_name name (codes "--budget") Budget _ refl
    (first_name name (codes "--report") Report _ refl
    (first_name name (codes "--seed") Seed _ refl
    (first_name name (codes "--threads") Threads _ refl
    (first_name name (codes "--events") Events _ refl
    (λ option is. absurd (none-some option is))))))))

gpshow_names : AreNames gpshow_option
gpshow_names name =
    first_name name (codes "--as") As _ refl
    (first_name name (codes "--source") Source _ refl
    (first_name name (codes "--window") Window _ refl
    (first_name name (codes "--property") Property _ refl
    (first_name name (codes "--instance") Instance _ refl
    (first_name name (codes "--answer") Answer _ refl
    (first_name name (codes "--most") Most _ refl
    (λ option is. absurd (none-some option is))))))))

gpshards_names : AreNames gpshards_option
gpshards_names name =
    first_name name (codes "--task") Task _ refl
    (first_name name (codes "--part") Part _ refl
    (first_name name (codes "--of") Of _ refl
    (λ option is. absurd (none-some option is))))

pub are_names : (program : Program) → AreNames (option_named program)
are_names Gpredict name option is = gpredict_names name option is
are_names Gpshow name option is = gpshow_names name option is
are_names Gpshards name option is = gpshards_names name option is
