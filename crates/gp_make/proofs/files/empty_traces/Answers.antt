use Rattle.std.proofs.Common.{arith, sym, [], ◌+◌, ℕ}
use Rattle.std.proofs.lemmas.List.FromFn.{map-range_with_len_more}
use Rattle.gp_window.specs.declared.file_name.FileName.TheVariants.{Trace}
use Rattle.gp_make.specs.Files.{file_of}
use Rattle.gp_files.specs.MadeFileForm.{MadeFileForm}
use Rattle.gp_make.proofs.files.empty_traces.Goals as goal

pub loop-thread-preserved : goal.loop-thread-preserved
loop-thread-preserved c =
    let empty : ℕ → MadeFileForm = λ thread. file_of (Trace thread) [] in
    let thread = c.loop-thread.thread in
    rw (c.in_ok-push.ensures.items, c.new.ensures, c.loop-thread.invariant)
    (sym (map-range_with_len_more empty 1 thread (thread + 1) (omega arith)))
