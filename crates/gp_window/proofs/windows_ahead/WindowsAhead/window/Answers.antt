-- The window that is taken is the first of those that are left past the ones before it.
use Rattle.std.proofs.Common.{subst}
use Rattle.gp_window.specs.Windows.{TakesFirst}
use Rattle.gp_window.proofs.Ahead.{is_taken, some_left}
use Rattle.gp_window.proofs.windows_ahead.WindowsAhead.window.Goals as goal

pub unreachable-requires : goal.unreachable-requires
unreachable-requires c =
    let turned = c.in_ok-turn_back.ensures in
    some_left c.args.recording.now c.args.k c.turn_back.new.self c.skip.new.self turned.0 turned.1 c.requires.k.1 c.in_ok-skip.ensures c.next.new.self
    (subst (λ window. TakesFirst c.skip.new.self window c.next.new.self) c.in_default.is c.in_ok-window.ensures)

pub returns-clause-ahead : goal.returns-clause-ahead
returns-clause-ahead c =
    let turned = c.in_ok-turn_back.ensures in
    (is_taken c.args.recording.now c.args.k c.turn_back.new.self c.skip.new.self turned.0 turned.1 c.requires.k.1 c.in_ok-skip.ensures c.in-Some.window c.next.new.self
    (subst (λ window. TakesFirst c.skip.new.self window c.next.new.self) c.in-Some.is c.in_ok-window.ensures)).1

pub returns-clause-window : goal.returns-clause-window
returns-clause-window c =
    let turned = c.in_ok-turn_back.ensures in
    (is_taken c.args.recording.now c.args.k c.turn_back.new.self c.skip.new.self turned.0 turned.1 c.requires.k.1 c.in_ok-skip.ensures c.in-Some.window c.next.new.self
    (subst (λ window. TakesFirst c.skip.new.self window c.next.new.self) c.in-Some.is c.in_ok-window.ensures)).0
