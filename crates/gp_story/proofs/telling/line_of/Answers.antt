-- What the tables tell is what is said of the events.
use Rattle.std.proofs.Common.{◌∙◌, ap}
use Rattle.gp_window.specs.WindowForm.{WindowForm}
use Rattle.gp_story.specs.Past.{recalled, recalled_starter}
use Rattle.gp_story.proofs.Lines.{made_line}
use Rattle.gp_story.proofs.Recalled.{source_told, starter_told}
use Rattle.gp_story.proofs.telling.line_of.Goals as goal

pub returns : goal.returns
returns c =
    let window : WindowForm = c.args.sharing.now in
    made_line window c.args.marked.now c.args.before.now c.args.id c.source.result c.starter.result c.contains_event.result c.shares.result
    (c.source.ensures ∙ ap (λ (w : WindowForm). recalled w c.args.past.now c.args.id) c.window-window.ensures ∙ source_told window c.args.before.now c.args.past.now c.args.id c.requires)
    (c.starter.ensures ∙ ap (λ (w : WindowForm). recalled_starter w c.args.past.now c.args.id) c.window-window.ensures ∙ starter_told window c.args.before.now c.args.past.now c.args.id c.requires)
    c.contains_event.ensures c.shares.ensures
