use Rattle.std.proofs.Common.{rules, ◌<◌, length, sym, arith}
use Rattle.gp_certificate.proofs.Rowing.{row_put, row_kept}
use Rattle.gp_certificate.proofs.loaded.note.Goals as goal

pub returns-in_err-push-clause-err : goal.returns-in_err-push-clause-err
returns-in_err-push-clause-err c =
    let within : c.code.result < length c.args.rows.now.items = omega (arith, c.code.ensures, c.requires) in
    search (rules, row_kept c.args.rows.now.items c.code.result c.index_mut.result.now c.push.new.self within c.index_mut.ensures.value c.in_err-push.ensures.items)

pub returns-clause-ok : goal.returns-clause-ok
returns-clause-ok c =
    let within : c.code.result < length c.args.rows.now.items = omega (arith, c.code.ensures, c.requires) in
    row_put c.args.rows.now.items c.code.result c.index_mut.result.now c.push.new.self c.args.lit c.args.number within c.index_mut.ensures.value (sym c.code.ensures) c.in_ok-push.ensures.items
