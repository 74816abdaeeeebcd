use Rattle.std.proofs.Common.{◌≡◌, ◌++◌, codes, List, ℕ, OnOk, subst}
use Rattle.gp_window.specs.declared.schedule.EventId.{EventId}
use Rattle.gp_reason.specs.declared.fact.Fact.TheVariants.{SectionBefore}
use Rattle.gp_tell.specs.FactText.{fact_text}
use Rattle.gp_tell.specs.Naming.{name_by}
use Rattle.gp_tell.proofs.Told.{pieces_put}
use Rattle.gp_tell.proofs.fact.put_sections.Goals as goal

pub returns : goal.returns
returns c =
    let name : EventId → List ℕ = name_by c.args.naming.now in
    let one : List ℕ = name c.args.one in
    let other : List ℕ = name c.args.other in
    let whole : c.extend_from_slice.new.self.items ++ ((one ++ codes " is before that of ") ++ other) ≡ c.args.text.now.items ++ fact_text name (SectionBefore c.args.one c.args.other) =
    rw c.in_ok-extend_from_slice.ensures.items (pieces_put c.args.text.now.items (codes "the section of ") one (codes " is before that of ") other) in
    subst (λ (text : List ℕ). OnOk c.put_two.result (c.put_two.new.text.items ≡ text)) whole c.put_two.ensures
