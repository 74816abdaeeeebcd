-- The first part that reaches the window has it.
use Rattle.std.proofs.Common.{arith}
use Rattle.std.proofs.lemmas.Option.{slice_get-get_or}
use Rattle.gp_merge.proofs.Reached.{told_of_part, windows_fit}
use Rattle.gp_merge.proofs.checking.failure_in.Goals as goal

pub overflow_add-before : goal.overflow_add-before
overflow_add-before c =
    let parts = c.args.parts.now in
    let i = c.loop-part.part-index in
    let fits = windows_fit parts i c.args.failure.window _ (slice_get-get_or parts i (record { before = 0; count = 0 }) c.loop-part-test.true) c.loop-part.invariant.1 in
    omega (arith, fits)

pub returns-then-failure-before : goal.returns-then-failure-before
returns-then-failure-before c =
    let parts = c.args.parts.now in
    let i = c.loop-part.part-index in
    told_of_part parts i c.loop-part.place _ c.args.failure c.loop-part.invariant.0 (slice_get-get_or parts i (record { before = 0; count = 0 }) c.loop-part-test.true)
    c.loop-part.invariant.1 c.if-failure-before.true
