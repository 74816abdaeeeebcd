use Rattle.gp_reason.specs.Laws.{all_clauses}
use Rattle.gp_reason.proofs.Cited.{cited_enough}
use Rattle.gp_reason.proofs.Nothing.{enough_alone}
use Rattle.gp_reason.proofs.laws.grounds_are_enough.Goals as goal

pub returns : goal.returns
returns c = record {
  cited = cited_enough c.more_passes.ensures;
  alone = λ problem shared query certificate valid checks told hint is_told some nothing.
      enough_alone c.forced_is_derived.ensures problem.edges _ (all_clauses problem shared certificate) told.number told.step nothing
      (cited_enough c.more_passes.ensures problem shared query certificate valid checks told hint is_told some);
}
