-- A pattern that breaks no rule finishes a property.
use Rattle.std.proofs.Common.{◌≡◌, sym, ◌∙◌}
use Rattle.std.specs.Prelude.{Some, Ok}
use Rattle.gp_property.specs.Checks.{checked_pattern}
use Rattle.gp_property.specs.Pattern.{pattern_of}
use Rattle.gp_property.proofs.Drafts.{pattern_added}
use Rattle.gp_property.proofs.reading.add_pattern.Goals as goal

pub new-requires : goal.new-requires
new-requires c =
    let read : pattern_of c.args.words.now ≡ Some c.in-Ok-Some.pattern = sym c.in-Ok-Some.ensures ∙ c.in-Ok-Some.field-0-is in
    let checked : checked_pattern c.args.number c.draft.inside.events c.in-Ok-Some.pattern ≡ Ok tt =
    rw (c.as_slice.ensures, c.as_slice-2.ensures) at (sym (c.in-Ok.ensures (λ memory. (cc)))) in
    pattern_added c.draft.inside.name c.draft.inside.events c.in-Ok-Some.pattern c.args.words.now c.args.number c.draft.invariant read checked
