use Rattle.std.proofs.Common.{◌≡◌, ◌++◌, drop, map}
use Rattle.gp_cut.specs.Cut.{cut_trace}
use Rattle.gp_cut_files.specs.CutFiles.{cut_files, trace_file}
use Rattle.gp_cut_files.proofs.files.cut_files.Given as goal

abbrev pub invariant-loop-trace : goal.invariant-loop-trace
invariant-loop-trace l =
    l.files ++ map trace_file (map (cut_trace l.part.before l.part.count) (drop l.trace-index l.trace-items))
    ≡ cut_files l.part.before l.part.count l.recording
