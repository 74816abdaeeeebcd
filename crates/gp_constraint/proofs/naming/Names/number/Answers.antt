use Rattle.std.proofs.Common.{ap, ◌∙◌, List, [], ◌∷◌, ◌++◌, Bool}
use Rattle.std.specs.Prelude.{if◌then◌else◌}
use Rattle.std.specs.List.{list_any, position_or_len}
use Rattle.gp_constraint.specs.declared.symbol.Symbol.{Symbol}
use Rattle.gp_constraint.specs.Numbering.{number_of, with_mention}
use Rattle.gp_constraint.proofs.Equal.{same_test}
use Rattle.gp_constraint.proofs.naming.Names.number.Goals as goal

pub returns-clause-names : goal.returns-clause-names
returns-clause-names c =
    let names : List Symbol = c.self.inside.set.keys in
    let symbol : Symbol = c.args.symbol in
    c.in_ok-index.ensures.keys
    ∙ ap (λ (test : Symbol → Bool). if list_any test names then names else names ++ symbol ∷ []) (same_test symbol)
    ∙ ap (λ (ns : List Symbol). with_mention ns symbol) c.self.view_is

pub returns-clause-number : goal.returns-clause-number
returns-clause-number c =
    let names : List Symbol = c.self.inside.set.keys in
    let symbol : Symbol = c.args.symbol in
    c.in_ok-index.ensures.index
    ∙ ap (λ (test : Symbol → Bool). position_or_len test names) (same_test symbol)
    ∙ ap (λ (ns : List Symbol). number_of ns symbol) c.self.view_is
