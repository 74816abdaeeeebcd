-- A command of gpshards keeps its rules.
use Rattle.std.proofs.Common.{◌≡◌, refl, ap, sym, subst, ◌∙◌, ℕ, ◌≤◌, Bool, true, false, not, ◌&&◌, List, [], ◌∷◌, length, arith}
use Rattle.std.specs.Prelude.{◌≢◌, nat_le, Option, Some, None, Result, Ok, Err, IfOk, IfSome, option_map, if◌then◌else◌}
use Rattle.std.specs.List.{AllByRecursion, list_all, list_any}
use Rattle.std.specs.Str.{bytes_eq}
use Rattle.std.proofs.lemmas.Bool.{and_parts, leb-true, not-true, or_parts, true≢false}
use Rattle.std.proofs.lemmas.Slice.Eq.{bytes_eq-Decides}
use Rattle.gp_base.specs.ListLaws.{AreDifferent, mapped}
use Rattle.gp_text.specs.Numbers.{between, number_of}
use Rattle.gp_words.specs.Command.{if_given, is_folder, number_asked, number_in}
use Rattle.gp_words.specs.Reading.{if_some}
use Rattle.gp_words.specs.Sharding.{CutForm, IsCut, IsMerge, IsSound, MergeForm, ShardForm, are_different, are_folders, asked_of, cut_into, cut_of, folders_of, merge_of, shard_form, shard_of, shard_task_of}
use Rattle.gp_words.specs.Sharding.ShardForm.{Cut, Merge}
use Rattle.gp_words.specs.Value.{all_values_of, value_of}
use Rattle.gp_words.specs.declared.argument.Argument.{Argument}
use Rattle.gp_words.specs.declared.argument.Argument.TheVariants as argument
use Rattle.gp_words.specs.declared.argument.Program.{Program}
use Rattle.gp_words.specs.declared.argument.Program.TheVariants.{Gpshards}
use Rattle.gp_words.specs.declared.sharding.Asked.{Asked}
use Rattle.gp_words.specs.declared.sharding.ShardCommand.{ShardCommand}
use Rattle.gp_words.specs.declared.sharding.ShardTask.{ShardTask}
use Rattle.gp_words.specs.declared.sharding.ShardTask.TheVariants as task

-- what came next gave an answer, so that there was a value
then_some : {A B : Type 0} (found : Option A) (next : A → Option B) (answer : B) → if_some found next ≡ Some answer
    → (value : A) × (found ≡ Some value) × (next value ≡ Some answer)
then_some None next answer is = cc
then_some (Some value) next answer is = (value, refl, is)

-- a test that passed
passed : {A : Type 0} (test : Bool) (value answer : A) → ◌≡◌ {A = Option A} (if test then Some value else None) (Some answer) → (test ≡ true) × (value ≡ answer)
passed true value answer is = (refl, (cc))
passed false value answer is = cc

-- a number that was read in a range is in it
in_range : (low high : ℕ) (number : Option ℕ) (n : ℕ) → between low high number ≡ Some n → (low ≤ n) × (n ≤ high)
in_range low high None n is = cc
in_range low high (Some m) n is =
    let test = passed (nat_le low m && nat_le m high) m n is in
    let both = and_parts (nat_le low m) (nat_le m high) test.0 in
    let same : m ≡ n = test.1 in
    let least : low ≤ m = leb-true low m both.0 in
    let most : m ≤ high = leb-true m high both.1 in
    (omega arith, omega arith)

given_in_range : (low high : ℕ) (value : Option (List ℕ)) (n : ℕ) → if_given (number_in low high) value ≡ Some (Some n) → (low ≤ n) × (n ≤ high)
given_in_range low high None n is = cc
given_in_range low high (Some digits) n is =
    let read = mapped {Y = Option ℕ} Some (number_in low high digits) (Some n) is in
    let same : number_in low high digits ≡ Some n = read.1 ∙ read.2 in
    in_range low high (number_of digits) n same

asked_in_range : (program : Program) (option : Argument) (low high : ℕ) (words : List (List ℕ)) (asked : Option ℕ) (n : ℕ)
    → number_asked program option low high words ≡ Some asked → asked ≡ Some n → (low ≤ n) × (n ≤ high)
asked_in_range program option low high words asked n is given =
    let found = then_some (value_of program option words) (if_given (number_in low high)) asked is in
    given_in_range low high found.0 n (found.2 ∙ ap Some given)

-- the numbers of a command line
record AreNumbers (asked : Asked) : Type 0 where
  part : (n : ℕ) → asked.part ≡ Some n → (1 ≤ n) × (n ≤ 4096)
  parts : (n : ℕ) → asked.parts ≡ Some n → (1 ≤ n) × (n ≤ 4096)

numbers : (words : List (List ℕ)) (asked : Asked) → asked_of words ≡ Some asked → AreNumbers asked
numbers words asked is =
    let found = then_some (shard_task_of words)
    (λ task. if_some (number_asked Gpshards argument.Part 1 4096 words) (λ part. if_some (number_asked Gpshards argument.Of 1 4096 words) (λ parts. Some (record { task = task; part = part; parts = parts }))))
    asked is in
    let part = then_some (number_asked Gpshards argument.Part 1 4096 words)
    (λ part. if_some (number_asked Gpshards argument.Of 1 4096 words) (λ parts. Some (record { task = found.0; part = part; parts = parts }))) asked found.2 in
    let parts = then_some (number_asked Gpshards argument.Of 1 4096 words) (λ parts. Some (record { task = found.0; part = part.0; parts = parts })) asked part.2 in
    let made : Asked = record { task = found.0; part = part.0; parts = parts.0 } in
    let same : ◌≡◌ {A = Option Asked} (Some made) (Some asked) = parts.2 in
    let are : made ≡ asked = (cc) in
    subst AreNumbers are (record {
      part = λ n given. asked_in_range Gpshards argument.Part 1 4096 words part.0 n part.1 given;
      parts = λ n given. asked_in_range Gpshards argument.Of 1 4096 words parts.0 n parts.1 given;
    })

-- a name that is not among others differs from each of them
not_among : (name : List ℕ) (names : List (List ℕ)) → list_any (bytes_eq name) names ≡ false → AllByRecursion (λ other. name ≢ other) names
not_among name [] none = tt
not_among name (other ∷ names) none =
    let parts = or_parts (bytes_eq name other) (list_any (bytes_eq name) names) none in
    (λ same. true≢false (sym ((bytes_eq-Decides name other).1 same) ∙ parts.0), not_among name names parts.1)

different : (names : List (List ℕ)) → are_different names ≡ true → AreDifferent names
different [] is = tt
different (name ∷ names) is =
    let parts = and_parts (not (list_any (bytes_eq name) names)) (are_different names) is in
    (not_among name names (not-true _ parts.0), different names parts.1)

-- the folders of a command line
record AreFolders (folders : List (List ℕ)) : Type 0 where
  few : length folders ≤ 4097
  apart : AreDifferent folders

named : (words folders : List (List ℕ)) → folders_of words ≡ Some folders → AreFolders folders
named words folders is =
    let found = then_some (all_values_of Gpshards argument.Folder words) (λ names. if are_folders names then Some names else None) folders is in
    let test = passed (are_folders found.0) found.0 folders found.2 in
    let parts = and_parts (nat_le (length found.0) 4097) (list_all is_folder found.0 && are_different found.0) test.0 in
    let rest = and_parts (list_all is_folder found.0) (are_different found.0) parts.1 in
    subst AreFolders test.1 (record { few = leb-true (length found.0) 4097 parts.0; apart = different found.0 rest.1 })

cut_sound : (part parts : ℕ) (folders : List (List ℕ)) (cut : CutForm) → 1 ≤ part → parts ≤ 4096 → AreFolders folders → cut_into part parts folders ≡ Some cut → IsCut cut
cut_sound part parts [] cut first few are is = cc
cut_sound part parts (folder ∷ []) cut first few are is = cc
cut_sound part parts (folder ∷ out ∷ []) cut first few are is =
    let test = passed (nat_le part parts) (record { part = part; parts = parts; folder = folder; out = out }) cut is in
    subst IsCut test.1 (record { part = (first, leb-true part parts test.0); parts = few; apart = are.apart.0.0 })
cut_sound part parts (folder ∷ out ∷ next ∷ more) cut first few are is = cc

merge_sound : (folders : List (List ℕ)) (merge : MergeForm) → AreFolders folders → merge_of folders ≡ Some merge → IsMerge merge
merge_sound [] merge are is = cc
merge_sound (folder ∷ []) merge are is = cc
merge_sound (folder ∷ out ∷ more) merge are is =
    let made : MergeForm = record { folder = folder; outs = out ∷ more } in
    let same : made ≡ merge = (cc) in
    let few : length (folder ∷ out ∷ more) ≤ 4097 = are.few in
    subst IsMerge same (record { outs = (omega arith, omega (arith, few)); apart = are.apart })

asked_sound : (task : ShardTask) (part parts : Option ℕ) (folders : List (List ℕ)) (form : ShardForm)
    → ((n : ℕ) → part ≡ Some n → (1 ≤ n) × (n ≤ 4096)) → ((n : ℕ) → parts ≡ Some n → (1 ≤ n) × (n ≤ 4096))
    → AreFolders folders → shard_of task part parts folders ≡ Some form → IsSound form
asked_sound task.Cut part parts folders form first few are is =
    let made = mapped Cut (cut_of part parts folders) form is in
    let one = then_some part (λ part. if_some parts (λ parts. cut_into part parts folders)) made.0 made.1 in
    let all = then_some parts (λ parts. cut_into one.0 parts folders) made.0 one.2 in
    subst IsSound made.2 (cut_sound one.0 all.0 folders made.0 (first one.0 one.1).0 (few all.0 all.1).1 are all.2)
asked_sound task.Merge part parts folders form first few are is =
    let made = mapped Merge (merge_of folders) form is in
    subst IsSound made.2 (merge_sound folders made.0 are made.1)

-- what is made of numbers and folders that were read keeps the rules
pub made_sound : {E : Type 0} (words folders : List (List ℕ)) (asked : Asked) (made : Result (Option ShardCommand) E)
    → Some asked ≡ asked_of words → Some folders ≡ folders_of words
    → IfOk made (λ found. option_map shard_form found ≡ shard_of asked.task asked.part asked.parts folders)
    → IfOk made (λ found. IfSome found (λ command. IsSound (shard_form command)))
made_sound words folders asked (Err error) are names due = tt
made_sound words folders asked (Ok None) are names due = tt
made_sound words folders asked (Ok (Some command)) are names due =
    let rules = numbers words asked (sym are) in
    asked_sound asked.task asked.part asked.parts folders (shard_form command) rules.part rules.parts (named words folders (sym names)) (sym due)
