use Rattle.std.proofs.Common.{[], length}
use Rattle.gp_constraint.specs.Base.{base_of}
use Rattle.gp_reason.specs.Told.{told_of}
use Rattle.gp_reason.proofs.Resting.{all, cycles_told, numbers_told, only, says_told, told_once}
use Rattle.gp_reason.proofs.laws.reasons_tell_what_they_rest_on.Goals as goal

pub returns : goal.returns
returns c = record {
  only = only;
  all = all;
  once = told_once;
  numbers = λ window names clauses shared own. numbers_told window names clauses [] (told_of (length (base_of window).clauses) shared own);
  says = λ window names clauses shared own. says_told window names clauses [] (told_of (length (base_of window).clauses) shared own);
  cycles = λ window names clauses shared own. cycles_told window names clauses [] (told_of (length (base_of window).clauses) shared own);
}
