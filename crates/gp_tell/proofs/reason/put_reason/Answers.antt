use Rattle.std.proofs.Common.{◌≡◌, ◌++◌, ◌∙◌, ap, append_assoc, codes, List, ℕ, map, OnOk, subst}
use Rattle.gp_text.specs.Spelling.{spelling}
use Rattle.gp_place.specs.Places.{named}
use Rattle.gp_window.specs.declared.schedule.EventId.{EventId}
use Rattle.gp_tell.specs.Naming.{name_by}
use Rattle.gp_tell.specs.ReasonText.{assumed_line, reason_lines, steps_lines}
use Rattle.gp_tell.proofs.reason.put_reason.Goals as goal

pub returns : goal.returns
unfolding name_by
returns c =
    let name : EventId → List ℕ = named c.args.places.now c.args.window in
    let body : List ℕ = spelling (map (assumed_line name) c.args.reason.now.assumed ++ steps_lines name 1 c.args.reason.now.steps) in
    let whole : c.extend_from_slice.new.self.items ++ body ≡ c.args.text.now.items ++ spelling (reason_lines name c.args.reason.now) =
    ap (λ (text : List ℕ). text ++ body) c.in_ok-extend_from_slice.ensures.items ∙ append_assoc c.args.text.now.items (codes "this cannot all hold:\n") body in
    subst (λ (text : List ℕ). OnOk c.put_body.result (c.put_body.new.text.items ≡ text)) whole c.put_body.ensures
