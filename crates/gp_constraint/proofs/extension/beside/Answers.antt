use Rattle.std.proofs.Common.{◌≡◌, ◌∙◌, ◌++◌, [], List, ap, map}
use Rattle.gp_window.specs.WindowForm.{WindowForm}
use Rattle.gp_constraint.specs.declared.symbol.Symbol.{Symbol}
use Rattle.gp_constraint.specs.declared.symbol.SymbolicLit.{SymbolicLit}
use Rattle.gp_constraint.specs.Base.{base_of, names_in}
use Rattle.gp_constraint.specs.Extended.{base_with}
use Rattle.gp_constraint.specs.Numbering.{names_of, numbered, with_mentions}
use Rattle.gp_constraint.specs.Symbols.{kind_of}
use Rattle.gp_constraint.proofs.Copied.{names_copied}
use Rattle.gp_constraint.proofs.extension.beside.Goals as goal

pub returns-in-Ok : goal.returns-in-Ok
returns-in-Ok c =
    let window : WindowForm = c.args.encoded.now in
    let more : List (List SymbolicLit) = c.args.more.now in
    let own : c.in_ok-names.names ≡ names_in window = c.in_ok-names.ensures ∙ ap (with_mentions []) c.names.ensures ∙ names_copied window in
    let names = c.in-Ok.ensures.names ∙ ap (λ (ns : List Symbol). names_of ns more) own in
    let problem = c.problem.ensures.problem in
    let copy : c.in_ok-problem.problem ≡ record { points = (base_of window).points; kinds = []; edges = (base_of window).edges; clauses = (base_of window).clauses } =
    c.in_ok-problem.ensures ∙ (λ i. record { points = (problem i).points; kinds = []; edges = (problem i).edges; clauses = (problem i).clauses }) in
    let whole : c.put_further-put.new.problem ≡ base_with window more =
    c.in-Ok.ensures.problem
    ∙ (λ i. record { points = (copy i).points; kinds = map kind_of (names_of (own i) more); edges = (copy i).edges; clauses = (copy i).clauses ++ numbered (own i) more }) in
    λ i. record { problem = whole i; names = names i }
