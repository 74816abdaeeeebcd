-- A text is no manifest by a fault of its lines or of the text.
use Rattle.std.proofs.Common.{ℕ, List, [], ◌∷◌, Option, Some, None, Result, Ok, Err, drop, slice_get}
use Rattle.gp_text.specs.declared.line.Line.{Line}
use Rattle.gp_text.specs.declared.lines.TextFault.{TextFault}
use Rattle.gp_text.specs.Lines.{end_line_of, lines_of}
use Rattle.gp_window.specs.declared.manifest.ManifestFault.TheVariants.{Line as BadLine}
use Rattle.gp_window.specs.Manifest.{Values, epochs_of, field_of, format_of, manifest_in, manifest_of, manifest_of_text, roots_of, threads_of, value_of, values_after, values_from, values_of, with_roots, with_threads, with_value}
use Rattle.gp_due.specs.Saying.{ManifestSays, OnlySays, TextSays}
use Rattle.gp_due.proofs.Lines.{lines_say}
use Rattle.gp_due.proofs.Results as of

field_says : {A : Type 0} (last : ℕ) (spells : List (List ℕ) → Option A) (line : Option Line) → OnlySays ManifestSays (field_of last spells line)
field_says last spells None = of.fault tt
field_says last spells (Some line) = of.unless_there (BadLine line.number) (spells line.words) tt

value_says : (epochs : ℕ) (values : Values) (line : Line) → OnlySays ManifestSays (values_after epochs values line)
value_says epochs values line = of.unless_there (BadLine line.number) (with_value values (value_of epochs line.words)) tt

walk_says : (epochs : ℕ) (values : Values) (lines : List Line) → OnlySays ManifestSays (values_from epochs values lines)
walk_says epochs values [] = of.value
walk_says epochs values (line ∷ lines) = of.in_turn (value_says epochs values line) (λ more. walk_says epochs more lines)

values_say : (epochs : ℕ) (lines : List Line) → OnlySays ManifestSays (values_of epochs lines)
values_say epochs lines = of.in_turn (walk_says epochs [] lines) (λ values. of.value)

roots_say : (format threads epochs : ℕ) (roots : List ℕ) (lines : List Line) → OnlySays ManifestSays (with_roots format threads epochs roots lines)
roots_say format threads epochs roots lines = of.in_turn (values_say epochs lines) (λ values. of.value)

threads_say : (last format threads : ℕ) (lines : List Line) → OnlySays ManifestSays (with_threads last format threads lines)
threads_say last format threads lines =
    of.in_turn (field_says last epochs_of (slice_get lines 2)) (λ epochs.
    of.in_turn (field_says last (roots_of threads) (slice_get lines 3)) (λ roots. roots_say format threads epochs roots (drop 4 lines)))

manifest_says : (last : ℕ) (lines : List Line) → OnlySays ManifestSays (manifest_of last lines)
manifest_says last lines =
    of.in_turn (field_says last format_of (slice_get lines 0)) (λ format.
    of.in_turn (field_says last threads_of (slice_get lines 1)) (λ threads. threads_say last format threads lines))

in_says : (last : ℕ) (lines : Result (List Line) TextFault) → OnlySays TextSays lines → OnlySays ManifestSays (manifest_in last lines)
in_says last (Ok lines) says = manifest_says last lines
in_says last (Err fault) says = of.fault says.fault

pub manifests_say : (bytes : List ℕ) → OnlySays ManifestSays (manifest_of_text bytes)
manifests_say bytes = in_says (end_line_of bytes) (lines_of bytes) (lines_say bytes)
