-- What was gathered is what the texts spell, and so one trace for each of them.
use Rattle.std.proofs.Common.{◌≡◌, ◌-◌, ◌+◌, ◌∙◌, arith}
use Rattle.gp_window.proofs.Parsed.{gathered_due, traces_read}
use Rattle.gp_window.proofs.reading.traces_from.Goals as goal

pub returns-clause-due : goal.returns-clause-due
returns-clause-due g c = λ other.
    let is : c.gathered.result ≡ _ = c.gathered.ensures.due other in
    is ∙ gathered_due c.args.format (c.args.epochs - 1) 1 c.args.contents.now c.in_ok-read.read.items c.in_ok-read.ensures.len c.in_ok-read.ensures.each
    (λ memory. other (is ∙ memory))

pub returns-clause-traces : goal.returns-clause-traces
returns-clause-traces g c =
    let whole : c.args.epochs ≡ c.args.epochs - 1 + 1 = omega (arith, c.requires.epochs) in
    traces_read c.traces_fit.ensures c.args.format c.args.epochs (c.args.epochs - 1) whole c.args.contents.now c.gathered.result c.requires.fits (returns-clause-due g c)
