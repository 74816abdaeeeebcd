use Rattle.std.proofs.Common.{◌≤◌, sym, subst, List, [], ◌∷◌, length}
use Rattle.gp_constraint.specs.declared.symbol.Symbol.{Symbol}
use Rattle.gp_constraint.specs.Numbering.{number_of}
use Rattle.gp_constraint.specs.QueryNames.{AreMentioned, QueryNamesForm}
use Rattle.gp_constraint.proofs.QueryNamed.{mentioned_after}
use Rattle.gp_constraint.proofs.query_names.QueryNames.add.Goals as goal

pub returns : goal.returns
returns c =
    let base : List Symbol = c.self.inside.base.now in
    let more : List Symbol = c.number.new.self in
    let s : Symbol = c.args.symbol in
    let after : QueryNamesForm = record { base = base; own = more } in
    let past : length base ≤ number_of base s = subst (λ (names : QueryNamesForm). length names.base ≤ number_of names.base s) (sym c.self.view_is) c.requires in
    subst (λ (names : QueryNamesForm). AreMentioned names after (s ∷ [])) c.self.view_is
    (mentioned_after base c.self.inside.own more s c.in_ok-number.ensures.names past)
