use Rattle.std.proofs.Common.{rules, ◌<◌, length, sym}
use Rattle.gp_certificate.proofs.Rowing.{row_popped}
use Rattle.gp_certificate.proofs.loaded.unnote.Goals as goal

pub returns-then-place-len-clause-before : goal.returns-then-place-len-clause-before
returns-then-place-len-clause-before c =
    let within : c.code-place.result < length c.args.rows.now.items = search rules in
    row_popped c.args.rows.now.items c.code-place.result c.index_mut.result.now c.pop.new.self c.pop.result c.args.lit within c.index_mut.ensures.value (sym c.code-place.ensures) c.pop.ensures.items
    (λ none. search (rules, none))
