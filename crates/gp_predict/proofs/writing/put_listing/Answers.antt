-- What the windows wrote, and a prefix of the line of the total, are a prefix of the text.
use Rattle.std.proofs.Common.{◌≡◌, ◌∙◌, ap, subst}
use Rattle.std.specs.Prelude.{flat_map}
use Rattle.std.proofs.lemmas.Result.{err_from_is_err_and}
use Rattle.gp_outside.specs.Sinks.{Appends, AppendsFront}
use Rattle.gp_predict.specs.Lines.{total_line}
use Rattle.gp_predict.specs.Listing.{all_lines, total_count}
use Rattle.gp_predict.specs.WrittenLaws.{on_err}
use Rattle.gp_predict.proofs.LastLine.{cut_before, cut_between, cut_within}
use Rattle.gp_predict.proofs.writing.put_listing.Goals as goal

pub returns-in_err-total-clause-err : goal.returns-in_err-total-clause-err
returns-in_err-total-clause-err g c =
    let failed = err_from_is_err_and c.from_residual.result c.from_residual.ensures.1 in
    let cut =
    subst (λ properties. AppendsFront (g.S.Sink.written c.args.sink.now) (g.S.Sink.written c.put_windows.new.sink) (flat_map (λ line. line) (all_lines c.args.listing.now.recording properties))) c.as_slice.ensures c.in_err-total.ensures.err in
    rw failed.1 (cut_before (g.S.Sink.written c.args.sink.now) (g.S.Sink.written c.put_windows.new.sink) (all_lines c.args.listing.now.recording c.args.listing.now.properties) (total_line (total_count c.args.listing.now.recording c.args.listing.now.properties)) cut)

pub returns-in_err-line-clause-err : goal.returns-in_err-line-clause-err
returns-in_err-line-clause-err g c =
    let failed = err_from_is_err_and c.from_residual-in_err-line.result c.from_residual-in_err-line.ensures.1 in
    let appended =
    subst (λ properties. Appends (g.S.Sink.written c.args.sink.now) (g.S.Sink.written c.put_windows.new.sink) (flat_map (λ line. line) (all_lines c.args.listing.now.recording properties))) c.as_slice.ensures c.in_ok-total.ensures.ok in
    rw failed.1 (cut_between (g.S.Sink.written c.args.sink.now) (g.S.Sink.written c.put_windows.new.sink) (all_lines c.args.listing.now.recording c.args.listing.now.properties) (total_line (total_count c.args.listing.now.recording c.args.listing.now.properties)) appended)

pub returns-clause-err : goal.returns-clause-err
returns-clause-err g c =
    let appended =
    subst (λ properties. Appends (g.S.Sink.written c.args.sink.now) (g.S.Sink.written c.put_windows.new.sink) (flat_map (λ line. line) (all_lines c.args.listing.now.recording properties))) c.as_slice.ensures c.in_ok-total.ensures.ok in
    let line_is : c.as_slice-2.result.now ≡ total_line (total_count c.args.listing.now.recording c.args.listing.now.properties) =
    c.as_slice-2.ensures ∙ c.in_ok-line.ensures ∙ ap total_line (c.in_ok-total.ensures.total ∙ ap (total_count c.args.listing.now.recording) c.as_slice.ensures) in
    on_err c.put.result
    (λ cut. cut_within (g.S.Sink.written c.args.sink.now) (g.S.Sink.written c.put_windows.new.sink) (g.S.Sink.written c.put.new.self)
    (all_lines c.args.listing.now.recording c.args.listing.now.properties) (total_line (total_count c.args.listing.now.recording c.args.listing.now.properties)) appended
    (subst (λ line. AppendsFront (g.S.Sink.written c.put_windows.new.sink) (g.S.Sink.written c.put.new.self) line) line_is cut))
    c.put.ensures.err
