use Rattle.std.proofs.Common.{◌≡◌, ◌++◌, drop, false}
use Rattle.std.specs.List.{list_any}
use Rattle.gp_instance.specs.Search.{is_dead, narrowed}
use Rattle.gp_instance.proofs.beside.narrowed.Given as goal

abbrev pub invariant-loop-place : goal.invariant-loop-place
invariant-loop-place l = record {
  made : l.kept ++ narrowed l.segments l.chosen (drop l.place l.atoms) (drop l.place l.domains) ≡ narrowed l.segments l.chosen l.atoms l.domains;
  alive : list_any is_dead l.kept ≡ false;
}
