use Rattle.std.proofs.Common.{◌≡◌, ◌∙◌, ap, sym, subst, true, List}
use Rattle.gp_instance.specs.Matches.{matches_events}
use Rattle.gp_replay.specs.Feasible.{IsFeasible}
use Rattle.gp_window.specs.declared.schedule.EventId.{EventId}
use Rattle.gp_window.specs.WindowForm.{IsWindow}
use Rattle.gp_witness.specs.Witness.{up_to_last}
use Rattle.gp_witness.proofs.schedules.schedule_of.Goals as goal

pub returns-clause-feasible : goal.returns-clause-feasible
returns-clause-feasible c =
    let both = c.witnesses_are_sound.ensures.instance c.args.encoded.now c.args.property.now c.args.instance.now.events c.args.valuation.now c.in_ok-executed.executed.events (subst IsWindow c.window.ensures.window c.comes_from_recording.ensures) c.keeps_rules.ensures c.requires.instance c.requires.answer c.in_ok-executed.ensures in
    let cut : c.up_to_last-events.result ≡ up_to_last c.args.instance.now.events c.in_ok-executed.executed.events = c.up_to_last-events.ensures ∙ ap (λ (ids : List EventId). up_to_last ids c.in_ok-executed.executed.events) c.as_slice.ensures in
    subst (IsFeasible c.args.encoded.now) (sym cut) both.0

pub returns-clause-matches : goal.returns-clause-matches
returns-clause-matches c =
    let both = c.witnesses_are_sound.ensures.instance c.args.encoded.now c.args.property.now c.args.instance.now.events c.args.valuation.now c.in_ok-executed.executed.events (subst IsWindow c.window.ensures.window c.comes_from_recording.ensures) c.keeps_rules.ensures c.requires.instance c.requires.answer c.in_ok-executed.ensures in
    let cut : c.up_to_last-events.result ≡ up_to_last c.args.instance.now.events c.in_ok-executed.executed.events = c.up_to_last-events.ensures ∙ ap (λ (ids : List EventId). up_to_last ids c.in_ok-executed.executed.events) c.as_slice.ensures in
    subst (λ (ids : List EventId). matches_events c.args.property.now c.args.instance.now.events ids ≡ true) (sym cut) both.1
