use Rattle.std.proofs.Common.{ap, ◌∙◌, List, Bool}
use Rattle.std.specs.Prelude.{position}
use Rattle.gp_constraint.specs.declared.symbol.Symbol.{Symbol}
use Rattle.gp_constraint.specs.Symbols.{symbol_eq}
use Rattle.gp_constraint.proofs.Equal.{same_test}
use Rattle.gp_constraint.proofs.naming.Names.find.Goals as goal

pub returns : goal.returns
returns c =
    let names : List Symbol = c.self.inside.set.keys in
    let symbol : Symbol = c.args.symbol in
    c.in_ok-index.ensures.index
    ∙ ap (λ (test : Symbol → Bool). position test names) (same_test symbol)
    ∙ ap (λ (ns : List Symbol). position (symbol_eq symbol) ns) c.self.view_is
