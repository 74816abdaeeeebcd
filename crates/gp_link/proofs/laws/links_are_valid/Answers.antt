use Rattle.gp_link.specs.LinkClauses.{link_clauses}
use Rattle.gp_link.proofs.Fit.{clauses_fit, clauses_signed}
use Rattle.gp_link.proofs.laws.links_are_valid.Goals as goal

pub returns : goal.returns
returns c = record {
  problem = λ window next few limit. c.extensions_mean.ensures.valid window (link_clauses window next) few limit (clauses_fit window next few);
  signed = clauses_signed;
}
