use Rattle.std.proofs.Common.{◌≡◌, ◌≤◌, ◌+◌, ◌∙◌, ap, sym, arith, List, length}
use Rattle.gp_constraint.specs.declared.symbol.Symbol.{Symbol}
use Rattle.gp_constraint.specs.Numbering.{number_of}
use Rattle.gp_constraint.specs.QueryNames.{all_names, QueryNamesForm}
use Rattle.gp_constraint.proofs.Mentions.{found_number, missed_number, number_after, number_here, number_most}
use Rattle.gp_constraint.proofs.query_names.QueryNames.number.Goals as goal

pub overflow_add-result : goal.overflow_add-result
overflow_add-result c =
    let most = number_most c.self.inside.own c.args.symbol in
    let fits = c.self.invariant in
    let count = c.len.ensures in
    let own = c.place.ensures in
    omega (arith, most, fits, count, own)

pub returns-in-Some : goal.returns-in-Some
returns-in-Some c =
    let base : List Symbol = c.self.inside.base.now in
    let s : Symbol = c.args.symbol in
    let found = found_number base s c.in-Some.number (sym c.find.ensures ∙ c.in-Some.is) in
    found.0 ∙ sym (number_here base c.self.inside.own s found.1) ∙ ap (λ (names : QueryNamesForm). number_of (all_names names) s) c.self.view_is

pub returns-in-None : goal.returns-in-None
returns-in-None c =
    let base : List Symbol = c.self.inside.base.now in
    let own : List Symbol = c.self.inside.own in
    let s : Symbol = c.args.symbol in
    let missed = missed_number base s (sym c.find.ensures ∙ c.in-None.is) in
    let count = c.len.ensures in
    let place = c.place.ensures in
    let sum : c.len.result + c.place.result ≡ length base + number_of own s = omega (arith, count, place) in
    let past : length base ≤ number_of base s = omega (arith, missed) in
    sum ∙ sym (number_after base own s past) ∙ ap (λ (names : QueryNamesForm). number_of (all_names names) s) c.self.view_is
