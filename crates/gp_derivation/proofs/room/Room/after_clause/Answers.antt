use Rattle.std.proofs.Common.{[], List, sym, subst}
use Rattle.std.proofs.lemmas.Bool.{false≢true}
use Rattle.std.proofs.lemmas.List.Elements.{All-head}
use Rattle.gp_clause.specs.declared.lit.Lit.{Lit}
use Rattle.gp_clause.specs.Clause.{NamesBelow}
use Rattle.gp_derivation.proofs.room.Room.after_clause.Goals as goal

pub returns-then-not-names_below : goal.returns-then-not-names_below
returns-then-not-names_below c = λ place. false≢true (c.if-not-names_below.ensures.1 (subst (λ (lits : List Lit). NamesBelow c.args.variables lits) (sym c.lits.ensures.lits) (All-head (NamesBelow c.args.variables) c.args.clause.now [] (place.1).below)))
