-- The pieces of a report, one after another.
use Rattle.std.proofs.Common.{◌≡◌, refl, ap, ◌∙◌, ◌+◌, List, ◌∷◌, ◌++◌, length, append_assoc, arith}
use Rattle.std.specs.Prelude.{codes}
use Rattle.gp_checker.specs.declared.failure.Checked.{Checked}
use Rattle.gp_checker.specs.declared.failure.Checked.TheVariants.{Accepted, Rejected}
use Rattle.gp_json.specs.Json.{Named, array, members_of, members_text, named}
use Rattle.gp_json.specs.JsonLaws.{members_append}
use Rattle.gp_property.specs.PropertyForm.{PropertyForm}
use Rattle.gp_report.specs.Records.{WindowRecord}
use Rattle.gp_values.specs.Report.{PiecesAreTheValue, instances_begun, instances_ended, left_out_member, overview_begun, overview_members}

six_members : (properties : List PropertyForm) (windows : List WindowRecord) (checked : Checked) → length (overview_members properties windows checked) ≡ 6
six_members properties windows Accepted = refl
six_members properties windows (Rejected failure) = refl

-- six members and those that follow them
members_whole : (overview rest : List Named) → length overview ≡ 6
    → members_text 0 (members_of (overview ++ rest)) ≡ members_text 0 (members_of overview) ++ members_text 6 (members_of rest)
members_whole overview rest six =
    let count : 0 + length overview ≡ 6 = omega (arith, six) in
    members_append 0 overview rest ∙ ap (λ n. members_text 0 (members_of overview) ++ members_text n (members_of rest)) count

pub pieces_whole : PiecesAreTheValue
unfolding overview_begun instances_begun instances_ended
pieces_whole properties windows checked faults instances counted =
    let overview : List Named = overview_members properties windows checked in
    let rest : List Named = left_out_member faults ∷ named (codes "instances") (array instances) ∷ counted in
    let whole = members_whole overview rest (six_members properties windows checked) in
    rw whole (simp append_assoc)
