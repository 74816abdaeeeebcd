-- What the last test finds is what is left to find.
use Rattle.std.proofs.Common.{◌≡◌, ◌∙◌, sym, ap, true, false, Bool, List, []}
use Rattle.std.specs.Prelude.{◌&&◌}
use Rattle.std.specs.List.{list_all}
use Rattle.gp_window.specs.declared.schedule.EventId.{EventId}
use Rattle.gp_window.specs.Ids.{contains_event}
use Rattle.gp_property.specs.declared.property.PatternStep.{PatternStep}
use Rattle.gp_instance.specs.Matches.{follow, groups_of, stands_together}
use Rattle.gp_instance.proofs.matching.matches.Goals as goal
use Rattle.gp_instance.proofs.matching.matches.Goals.{then-all_among, else-all_among}

-- three tests, of which the first two hold
last_left : (first second third answer : Bool) → first ≡ true → second ≡ true → answer ≡ third → answer ≡ (first && second && third)
last_left true true third answer one two is = is
last_left true false third answer one two is = cc
last_left false second third answer one two is = cc

-- the tests of a pattern, a schedule and events, which are those of the property and the instance
tested : (pattern same_pattern : List PatternStep) (events same_events schedule same_schedule : List EventId) (one two answer : Bool)
    → pattern ≡ same_pattern → events ≡ same_events → schedule ≡ same_schedule
    → one ≡ list_all (contains_event schedule) events → one ≡ true
    → two ≡ follow schedule [] (groups_of pattern events) → two ≡ true
    → answer ≡ list_all (λ group. stands_together group schedule) (groups_of pattern events)
    → answer ≡ (list_all (contains_event same_schedule) same_events && follow same_schedule [] (groups_of same_pattern same_events)
    && list_all (λ group. stands_together group same_schedule) (groups_of same_pattern same_events))
tested pattern same_pattern events same_events schedule same_schedule one two answer p e s among is_one order is_two together =
    last_left (list_all (contains_event same_schedule) same_events) (follow same_schedule [] (groups_of same_pattern same_events))
    (list_all (λ group. stands_together group same_schedule) (groups_of same_pattern same_events)) answer
    (ap (λ x. list_all (contains_event same_schedule) x) (sym e) ∙ ap (λ x. list_all (contains_event x) events) (sym s) ∙ sym among ∙ is_one)
    (ap (λ x. follow same_schedule [] (groups_of x same_events)) (sym p) ∙ ap (λ x. follow same_schedule [] (groups_of pattern x)) (sym e)
    ∙ ap (λ x. follow x [] (groups_of pattern events)) (sym s) ∙ sym order ∙ is_two)
    (together ∙ ap (λ x. list_all (λ group. stands_together group x) (groups_of pattern events)) s
    ∙ ap (λ x. list_all (λ group. stands_together group same_schedule) (groups_of x events)) p
    ∙ ap (λ x. list_all (λ group. stands_together group same_schedule) (groups_of same_pattern x)) e)

pub returns-then-are_in_order : goal.returns-then-are_in_order
returns-then-are_in_order c =
    elim c.if-all_among.branch [
      | then-all_among w ↦ tested c.pattern-pattern.result.now c.args.property.now.pattern c.as_slice-events.result.now c.args.instance.now.events
          c.as_slice-schedule.result.now c.args.schedule.now.events c.all_among.result w.are_in_order.result c.stand_together.result
          c.pattern-pattern.ensures.value c.as_slice-events.ensures c.as_slice-schedule.ensures
          c.all_among.ensures w.if-all_among.true w.are_in_order.ensures (sym w.value-is ∙ c.if-are_in_order.true) c.stand_together.ensures
      | else-all_among w ↦ cc
    ]
