-- Lists of values one after another.
use Rattle.std.proofs.Common.{◌≡◌, refl, ap, ◌∙◌, sym, ℕ, ◌+◌, List, ◌++◌, length, map, append_assoc, arith}
use Rattle.std.proofs.lemmas.List.{length-map}
use Rattle.gp_checker.specs.declared.failure.Checked.{Checked}
use Rattle.gp_checker.specs.declared.failure.Checked.TheVariants.{Accepted, Rejected}
use Rattle.gp_json.specs.Json.{Json, Named, elements_of, elements_text, members_of, members_text}
use Rattle.gp_json.specs.JsonLaws.{elements_append, members_append}
use Rattle.gp_report.specs.Records.{WindowRecord}
use Rattle.gp_values.specs.Overview.{verdict_members}

-- what is made of a list, and then further values
pub two_lists : {A : Type 0} (f : A → Json) (old : List ℕ) (xs : List A) (rest : List Json)
    → (old ++ elements_text 0 (elements_of (map f xs))) ++ elements_text (length xs) (elements_of rest) ≡ old ++ elements_text 0 (elements_of (map f xs ++ rest))
two_lists f old xs rest =
    let same = length-map xs f in
    let count : length xs ≡ 0 + length (map f xs) = omega (arith, same) in
    append_assoc old (elements_text 0 (elements_of (map f xs))) (elements_text (length xs) (elements_of rest))
    ∙ ap (λ (n : ℕ). old ++ (elements_text 0 (elements_of (map f xs)) ++ elements_text n (elements_of rest))) count
    ∙ ap (λ text. old ++ text) (sym (elements_append 0 (map f xs) rest))

four : (windows : List WindowRecord) (checked : Checked) → 1 + length (verdict_members windows checked) ≡ 4
four windows Accepted = refl
four windows (Rejected failure) = refl

-- the members of a verdict, and then further members
pub behind_verdict : (old : List ℕ) (windows : List WindowRecord) (checked : Checked) (rest : List Named)
    → (old ++ members_text 1 (members_of (verdict_members windows checked))) ++ members_text 4 (members_of rest)
    ≡ old ++ members_text 1 (members_of (verdict_members windows checked ++ rest))
behind_verdict old windows checked rest =
    append_assoc old (members_text 1 (members_of (verdict_members windows checked))) (members_text 4 (members_of rest))
    ∙ ap (λ n. old ++ (members_text 1 (members_of (verdict_members windows checked)) ++ members_text n (members_of rest))) (sym (four windows checked))
    ∙ ap (λ text. old ++ text) (sym (members_append 1 (verdict_members windows checked) rest))
