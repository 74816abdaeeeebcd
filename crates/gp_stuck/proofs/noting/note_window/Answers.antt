-- One thread more.
use Rattle.std.proofs.Common.{◌≡◌, ◌+◌, ap, arith, length, suc}
use Rattle.gp_stuck.proofs.Notes.{window_step}
use Rattle.gp_stuck.proofs.noting.note_window.Goals as goal

pub loop-place-preserved : goal.loop-place-preserved
loop-place-preserved c =
    let size : length c.segments.result.now ≡ length c.args.window.now.segments = ap (λ segments. length segments) c.segments.ensures.value in
    let next : c.loop-place.place + 1 ≡ suc c.loop-place.place = omega arith in
    window_step c.args.window.now c.loop-place.place (c.loop-place.place + 1) (c.loop-place.place + 1)
    c.loop-place.starts c.note_thread.new.starts c.loop-place.holders c.note_thread.new.holders next next
    (omega (arith, size, c.loop-place-test.true)) c.loop-place.invariant c.in_ok-note_thread.ensures
