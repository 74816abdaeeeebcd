-- An event that is read, in a property with room for it, that has none of its name.
use Rattle.std.proofs.Common.{◌≡◌, sym, ◌∙◌, ◌<◌, false, length, arith}
use Rattle.std.specs.Prelude.{Some}
use Rattle.gp_property.specs.Checks.{is_defined}
use Rattle.gp_property.specs.Shape.{definition_of}
use Rattle.gp_property.proofs.Drafts.{event_added}
use Rattle.gp_property.proofs.reading.add_event.Goals as goal

pub invariant_of-result : goal.invariant_of-result
invariant_of-result c =
    let read : definition_of c.args.words.now ≡ Some c.in-Ok-Some.event = sym c.in-Ok-Some.ensures ∙ c.in-Ok-Some.field-0-is in
    let room : length c.draft.inside.events < 16 = omega arith in
    let new : is_defined c.draft.inside.events c.in-Ok-Some.event.name ≡ false = cc in
    event_added c.one_spelling.ensures c.draft.inside.name c.draft.inside.events c.push.new.self c.in-Ok-Some.event c.args.words.now c.draft.invariant read room new c.in-Ok.ensures.ok
