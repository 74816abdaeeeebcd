use Rattle.std.proofs.Common.{rules, ◌≡◌, ◌∙◌}
use Rattle.gp_certificate.specs.Rows.{row_of}
use Rattle.gp_certificate.proofs.Rowing.{listing_more}
use Rattle.gp_certificate.proofs.loaded.list.Goals as goal

pub returns-in_default-clause-err : goal.returns-in_default-clause-err
returns-in_default-clause-err c =
    c.unlist.ensures.before (λ one. row_of c.args.rows.now.items one) c.args.number
    (λ one.
    let back : row_of c.note.new.rows.items one ≡ row_of c.loop-place.rows.items one = search (rules, c.in_default.ensures.err) in
    back ∙ c.loop-place.invariant.1 one)

pub loop-place-preserved : goal.loop-place-preserved
loop-place-preserved c = (
  c.in-Ok.ensures.size ∙ c.loop-place.invariant.0,
  λ one. c.in-Ok.ensures.ok one ∙ listing_more (row_of c.args.rows.now.items one) (row_of c.loop-place.rows.items one) one c.args.lits.now c.loop-place.place _ c.args.number c.loop-place-test.true (c.loop-place.invariant.1 one),
)
