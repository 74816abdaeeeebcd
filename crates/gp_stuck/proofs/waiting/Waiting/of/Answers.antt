use Rattle.gp_stuck.proofs.waiting.Waiting.of.Goals as goal

pub note_window-requires-clause-formed : goal.note_window-requires-clause-formed
note_window-requires-clause-formed c = c.windows_are_formed.ensures c.args.window.now c.comes_from_recording.ensures
