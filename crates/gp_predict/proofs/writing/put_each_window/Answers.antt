-- What was written is a prefix of the text, and one window more goes from what is left to what is written.
use Rattle.std.proofs.Common.{◌≡◌, [], ◌∷◌, subst, arith}
use Rattle.gp_window.specs.Windows.{TakesFirst}
use Rattle.gp_predict.proofs.Progress.{anyway, begun, cut_in, none_put, one_put, whole, whole_count}
use Rattle.gp_predict.proofs.writing.put_each_window.Goals as goal

pub loop-window-init : goal.loop-window-init
loop-window-init g c =
    (omega arith, none_put c.args.recording.now c.args.properties.now (g.S.Sink.written c.args.sink.now) c.args.windows.now c.keeps_rules.ensures.manifest.epochs.1 c.requires.all)

pub returns-in_err-window-clause-err : goal.returns-in_err-window-clause-err
returns-in_err-window-clause-err g c =
    anyway c.from_residual.result
    (begun c.args.recording.now c.args.properties.now (g.S.Sink.written c.args.sink.now) (g.S.Sink.written c.loop-window.sink) c.loop-window.total c.loop-window.windows c.loop-window.invariant.1)

pub returns-in_err-total-clause-err : goal.returns-in_err-total-clause-err
returns-in_err-total-clause-err g c =
    let first : c.loop-window.windows ≡ c.in-Some.window ∷ c.next.new.self = subst (λ window. TakesFirst c.loop-window.windows window c.next.new.self) c.in-Some.is c.in_ok-window.ensures in
    anyway c.from_residual-in_err-total.result
    (cut_in c.args.recording.now c.args.properties.now (g.S.Sink.written c.args.sink.now) (g.S.Sink.written c.loop-window.sink) (g.S.Sink.written c.put_window-put.new.sink) c.loop-window.total c.loop-window.windows c.next.new.self c.in-Some.window
    first c.loop-window.invariant.1 c.in_err-total.ensures.err)

pub loop-window-preserved : goal.loop-window-preserved
loop-window-preserved g c =
    let first : c.loop-window.windows ≡ c.in-Some.window ∷ c.next.new.self = subst (λ window. TakesFirst c.loop-window.windows window c.next.new.self) c.in-Some.is c.in_ok-window.ensures in (
      omega (arith, c.loop-window.invariant.0, c.in_ok-total.ensures.later),
      one_put c.args.recording.now c.args.properties.now (g.S.Sink.written c.args.sink.now) (g.S.Sink.written c.loop-window.sink) (g.S.Sink.written c.put_window-put.new.sink) c.loop-window.total c.in_ok-total.field-0 c.loop-window.windows c.next.new.self
          c.in-Some.window first c.in_ok-total.ensures.count c.in_ok-total.ensures.most c.loop-window.invariant.1 c.in_ok-total.ensures.ok,
    )

pub returns-clause-total : goal.returns-clause-total
returns-clause-total g c =
    let none : c.loop-window.windows ≡ [] = (subst (λ window. TakesFirst c.loop-window.windows window c.next.new.self) c.in_default.is c.in_ok-window.ensures).0 in
    whole_count c.args.recording.now c.args.properties.now (g.S.Sink.written c.args.sink.now) (g.S.Sink.written c.loop-window.sink) c.loop-window.total c.loop-window.windows none c.loop-window.invariant.1

pub returns-clause-ok : goal.returns-clause-ok
returns-clause-ok g c =
    let none : c.loop-window.windows ≡ [] = (subst (λ window. TakesFirst c.loop-window.windows window c.next.new.self) c.in_default.is c.in_ok-window.ensures).0 in
    whole c.args.recording.now c.args.properties.now (g.S.Sink.written c.args.sink.now) (g.S.Sink.written c.loop-window.sink) c.loop-window.total c.loop-window.windows none c.loop-window.invariant.1
