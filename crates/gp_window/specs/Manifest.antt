-- Which lines are which manifest: the form's name, the number of threads, the number of epochs, the
-- roots, and then values of variables at the beginning of windows, in any order.
use Rattle.std.specs.Prelude.{ℕ, ℤ, List, [], ◌∷◌, Option, Some, None, is_some, Result, Ok, Err, if◌then◌else◌, codes, drop, map, slice_get}
use Rattle.std.specs.Str.{bytes_eq}
use Rattle.gp_text.specs.declared.line.Line.{Line}
use Rattle.gp_text.specs.declared.lines.TextFault.{TextFault}
use Rattle.gp_text.specs.Lines.{end_line_of, lines_of}
use Rattle.gp_text.specs.Name.{name_of}
use Rattle.gp_text.specs.Numbers.{signed_of, small_number_of}
use Rattle.gp_window.specs.declared.manifest.StartValue.{StartValue}
use Rattle.gp_window.specs.declared.manifest.ManifestFault.{ManifestFault}
use Rattle.gp_window.specs.declared.manifest.ManifestFault.TheVariants as bad
use Rattle.gp_text.specs.Numbers.{between, number_after}
use Rattle.gp_window.specs.Number.{numbers_of, is_rising}
use Rattle.gp_window.specs.ManifestForm.{ManifestForm, place_cmp}
use Rattle.gp_base.specs.Results.{and_then, or_refusal}
use Rattle.gp_base.specs.Table.{value_at, with_entry}

-- what a line spells; else it is a bad line, and where there is no line the end is
abbrev pub field_of : {A : Type 0} → ℕ → (List (List ℕ) → Option A) → Option Line → Result A ManifestFault
field_of last spells None = Err (bad.Line last)
field_of last spells (Some line) = or_refusal (bad.Line line.number) (spells line.words)

-- `gptrace F`: format 1 or 2
abbrev pub format_of : List (List ℕ) → Option ℕ
format_of words = between 1 2 (number_after (codes "gptrace") words)

-- `threads T`: 1 to 64 threads
abbrev pub threads_of : List (List ℕ) → Option ℕ
threads_of words = between 1 64 (number_after (codes "threads") words)

-- `epochs E`: 1 to 4,096 epochs
abbrev pub epochs_of : List (List ℕ) → Option ℕ
epochs_of words = between 1 4096 (number_after (codes "epochs") words)

-- roots that rise from thread 1 to the last thread
abbrev pub rising_roots : ℕ → Option (List ℕ) → Option (List ℕ)
rising_roots threads (Some roots) = if is_rising 1 threads roots then Some roots else None
rising_roots threads None = None

-- `roots U U ..`: at least one
abbrev pub roots_of : ℕ → List (List ℕ) → Option (List ℕ)
roots_of threads (keyword ∷ first ∷ more) = if bytes_eq keyword (codes "roots") then rising_roots threads (numbers_of (first ∷ more)) else None
roots_of threads _ = None

-- a value of a variable at the beginning of a window
abbrev pub value_with : Option ℕ → Option (List ℕ) → Option ℤ → Option StartValue
value_with (Some window) (Some variable) (Some value) = Some (record { window = window; variable = variable; value = value })
value_with (Some window) (Some variable) None = None
value_with (Some window) None value = None
value_with None variable value = None

-- `value K name V`: K one of the windows
abbrev pub value_of : ℕ → List (List ℕ) → Option StartValue
value_of epochs (keyword ∷ window ∷ name ∷ value ∷ []) =
    if bytes_eq keyword (codes "value")
    then value_with (between 1 epochs (small_number_of window)) (name_of name) (signed_of value)
    else None
value_of epochs _ = None

-- the values by their places, in the order of the places
abbrev pub Values : Type 0
Values = List ((ℕ × List ℕ) × ℤ)

-- one value more, where its place has none yet
abbrev pub with_value : Values → Option StartValue → Option Values
with_value values None = None
with_value values (Some given) =
    if is_some (value_at place_cmp values (given.window, given.variable)) then None
    else Some (with_entry place_cmp values (given.window, given.variable) given.value)

-- the values after one more line, or its fault
abbrev pub values_after : ℕ → Values → Line → Result Values ManifestFault
values_after epochs values line = or_refusal (bad.Line line.number) (with_value values (value_of epochs line.words))

-- the values after these lines, or the fault of the first bad one
abbrev pub values_from : ℕ → Values → List Line → Result Values ManifestFault
values_from epochs values [] = Ok values
values_from epochs values (line ∷ lines) = and_then (values_after epochs values line) (λ more. values_from epochs more lines)

-- the value at a place
abbrev pub start_value : (ℕ × List ℕ) × ℤ → StartValue
start_value entry = record { window = entry.0.0; variable = entry.0.1; value = entry.1 }

-- the values that the lines give, in the order of their places
abbrev pub values_of : ℕ → List Line → Result (List StartValue) ManifestFault
values_of epochs lines = and_then (values_from epochs [] lines) (λ values. Ok (map start_value values))

-- the manifest of this format and so many threads and epochs, with these roots and the values of further lines
abbrev pub with_roots : ℕ → ℕ → ℕ → List ℕ → List Line → Result ManifestForm ManifestFault
with_roots format threads epochs roots lines =
    and_then (values_of epochs lines) (λ values.
    Ok (record { format = format; threads = threads; epochs = epochs; roots = roots; values = values }))

-- the manifest of this format and so many threads, where the third line and those after it spell one
abbrev pub with_threads : ℕ → ℕ → ℕ → List Line → Result ManifestForm ManifestFault
with_threads last format threads lines =
    and_then (field_of last epochs_of (slice_get lines 2)) (λ epochs.
    and_then (field_of last (roots_of threads) (slice_get lines 3)) (λ roots.
    with_roots format threads epochs roots (drop 4 lines)))

-- the manifest that the lines spell, or the first bad line; `last` is the number of the text's end
abbrev pub manifest_of : ℕ → List Line → Result ManifestForm ManifestFault
manifest_of last lines =
    and_then (field_of last format_of (slice_get lines 0)) (λ format.
    and_then (field_of last threads_of (slice_get lines 1)) (λ threads.
    with_threads last format threads lines))

-- the manifest of a text, where it has lines
abbrev pub manifest_in : ℕ → Result (List Line) TextFault → Result ManifestForm ManifestFault
manifest_in last (Ok lines) = manifest_of last lines
manifest_in last (Err fault) = Err (bad.Text fault)

-- the manifest that a text spells, or its first fault
abbrev pub manifest_of_text : List ℕ → Result ManifestForm ManifestFault
manifest_of_text bytes = manifest_in (end_line_of bytes) (lines_of bytes)
