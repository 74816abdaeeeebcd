use Rattle.std.proofs.Common.{◌≡◌, ◌∷◌}
use Rattle.gp_window.specs.declared.file_name.FileName.TheVariants.{Manifest}
use Rattle.gp_make.proofs.files.in_order.Given as goal

abbrev pub invariant-loop-trace : goal.invariant-loop-trace
invariant-loop-trace l = l.files.items ≡ record { name = Manifest; text = l.fn.manifest.items } ∷ l.yielded
