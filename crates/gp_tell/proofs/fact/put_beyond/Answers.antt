use Rattle.std.proofs.Common.{◌≡◌, ◌++◌, codes, decimal, List, ℕ, OnOk, subst}
use Rattle.gp_window.specs.declared.schedule.EventId.{EventId}
use Rattle.gp_reason.specs.declared.fact.Fact.TheVariants.{Beyond}
use Rattle.gp_tell.specs.FactText.{fact_text}
use Rattle.gp_tell.specs.Naming.{name_by}
use Rattle.gp_tell.proofs.Told.{pieces_put}
use Rattle.gp_tell.proofs.fact.put_beyond.Goals as goal

pub returns : goal.returns
returns c =
    let name : EventId → List ℕ = name_by c.args.naming.now in
    let one : List ℕ = name c.args.one in
    let other : List ℕ = name c.args.other in
    let width : List ℕ = decimal c.args.width in
    let whole : c.put_one.new.text.items ++ ((width ++ codes " places behind ") ++ other) ≡ c.args.text.now.items ++ fact_text name (Beyond c.args.one c.args.other c.args.width) =
    rw c.in_ok-put_one.ensures (pieces_put c.args.text.now.items (one ++ codes " is more than ") width (codes " places behind ") other) in
    subst (λ (text : List ℕ). OnOk c.put_distance.result (c.put_distance.new.text.items ≡ text)) whole c.put_distance.ensures
