use Rattle.std.proofs.Common.{◌≡◌, ℕ, ◌∙◌, ap, length, []}
use Rattle.std.proofs.lemmas.List.FromFn.{length-map-range_with_len}
use Rattle.gp_window.specs.declared.file_name.FileName.TheVariants.{Trace}
use Rattle.gp_make.specs.Files.{file_of}
use Rattle.gp_make.specs.Traces.{traces_with}
use Rattle.gp_files.specs.MadeFileForm.{MadeFileForm}
use Rattle.gp_make.proofs.making.make.Goals as goal

pub run-requires-clause-traces : goal.run-requires-clause-traces
run-requires-clause-traces c =
    let threads = c.args.recipe.now.threads in
    let empty : ℕ → MadeFileForm = λ thread. file_of (Trace thread) [] in
    let none : c.in_ok-traces.traces.items ≡ traces_with threads (λ _. []) = c.in_ok-traces.ensures in
    ap length (c.as_mut_slice.ensures.value ∙ none) ∙ length-map-range_with_len empty 1 threads
