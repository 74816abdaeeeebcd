use Rattle.std.proofs.Common.{◌≤◌, ◌∙◌, sym, subst, arith, List, [], ◌∷◌, length}
use Rattle.gp_constraint.specs.declared.symbol.Symbol.{Symbol}
use Rattle.gp_constraint.specs.Numbering.{number_of}
use Rattle.gp_constraint.specs.QueryNames.{AreMentioned, QueryNamesForm}
use Rattle.gp_constraint.proofs.Mentions.{found_number, missed_number}
use Rattle.gp_constraint.proofs.QueryNamed.{mentioned_here}
use Rattle.gp_constraint.proofs.query_names.QueryNames.mention.Goals as goal

pub returns-in-Some : goal.returns-in-Some
returns-in-Some c =
    let base : List Symbol = c.self.inside.base.now in
    let s : Symbol = c.args.symbol in
    let found = found_number base s c.in-Some.field-0 (sym c.find.ensures ∙ c.in-Some.is) in
    subst (λ (names : QueryNamesForm). AreMentioned names names (s ∷ [])) c.self.view_is (mentioned_here base c.self.inside.own s found.1)

pub add-requires : goal.add-requires
add-requires c =
    let base : List Symbol = c.self.inside.base.now in
    let s : Symbol = c.args.symbol in
    let missed = missed_number base s (sym c.find.ensures ∙ c.in-None.is) in
    let past : length base ≤ number_of base s = omega (arith, missed) in
    subst (λ (names : QueryNamesForm). length names.base ≤ number_of names.base s) c.self.view_is past
