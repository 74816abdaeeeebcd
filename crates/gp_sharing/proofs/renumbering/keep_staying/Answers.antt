use Rattle.std.proofs.Common.{◌≡◌, ◌-◌, ◌∙◌, ap, ℕ, List, Option, length, map, arith}
use Rattle.std.specs.Prelude.{slice_index_or}
use Rattle.std.proofs.lemmas.Result.{IfOk-weaker}
use Rattle.gp_certificate.specs.declared.step.Step.{Step}
use Rattle.gp_derivation.specs.Numbering.{with_hints}
use Rattle.gp_sharing.specs.Moving.{by_numbers, new_number, own_number, places_of, staying}
use Rattle.gp_sharing.proofs.NewNumbers.{AreListed, places_size, told_by_list}
use Rattle.gp_sharing.proofs.renumbering.keep_staying.Goals as goal

pub own_numbers-requires-clause-few : goal.own_numbers-requires-clause-few
own_numbers-requires-clause-few c =
    let count : length c.as_slice-3.result.now ≡ length c.args.steps - 1 =
    ap length (c.as_slice-3.ensures.value ∙ (c.in_ok-places.ensures.places ∙ ap (places_of c.args.sizes c.args.list.now) c.as_slice.ensures)) ∙ places_size c.args.sizes c.args.list.now c.args.steps in
    omega (arith, ap length c.as_slice-2.ensures, count, c.requires.few)

pub renumber_staying-requires-clause-count : goal.renumber_staying-requires-clause-count
renumber_staying-requires-clause-count c =
    let count : length c.as_slice-3.result.now ≡ length c.args.steps - 1 =
    ap length (c.as_slice-3.ensures.value ∙ (c.in_ok-places.ensures.places ∙ ap (places_of c.args.sizes c.args.list.now) c.as_slice.ensures)) ∙ places_size c.args.sizes c.args.list.now c.args.steps in
    omega (arith, ap length c.as_slice-5.ensures.value, count, c.in_ok-numbers.ensures.count)

pub returns : goal.returns
returns c =
    let sizes = c.args.sizes in
    let list = c.args.list.now in
    let steps = c.args.steps in
    let places : List (Option ℕ) = places_of sizes list steps in
    let two : c.as_slice-3.result.now ≡ places_of c.args.sizes c.args.list.now c.args.steps = c.as_slice-3.ensures.value ∙ (c.in_ok-places.ensures.places ∙ ap (places_of c.args.sizes c.args.list.now) c.as_slice.ensures) in
    let three : c.as_slice-4.result.now ≡ places_of c.args.sizes c.args.list.now c.args.steps = c.as_slice-4.ensures.value ∙ (c.in_ok-places.ensures.places ∙ ap (places_of c.args.sizes c.args.list.now) c.as_slice.ensures) in
    let four = c.as_slice-5.ensures.value in
    let size : length c.as_slice-2.result.now ≡ length c.args.list.now = ap length c.as_slice-2.ensures in
    let count : length (places_of c.args.sizes c.args.list.now c.args.steps) ≡ length c.args.steps - 1 = places_size sizes list steps in
    let same : length c.as_slice-3.result.now ≡ length (places_of c.args.sizes c.args.list.now c.args.steps) = ap length two in
    let listed : AreListed c.args.sizes (length c.args.list.now) (places_of c.args.sizes c.args.list.now c.args.steps) c.as_slice-5.result.now (length (places_of c.args.sizes c.args.list.now c.args.steps)) =
    λ own below.
    ap (λ (xs : List ℕ). slice_index_or xs own 0) four
    ∙ c.in_ok-numbers.ensures.each own (omega (arith, below, same))
    ∙ (λ i. own_number c.args.sizes (size i) (two i) own) in
    let told = told_by_list sizes (length list) (places_of sizes list steps) c.as_slice-5.result.now steps c.requires.movable (omega (arith, count)) listed in
    IfOk-weaker c.renumber_staying.result
    (λ (made : List Step). made ≡ map (with_hints (by_numbers c.args.sizes c.as_slice-5.result.now)) (staying c.as_slice-4.result.now c.args.steps))
    (λ (made : List Step). made ≡ map (with_hints (new_number c.args.sizes (length c.args.list.now) (places_of c.args.sizes c.args.list.now c.args.steps))) (staying (places_of c.args.sizes c.args.list.now c.args.steps) c.args.steps))
    (λ made is. is ∙ ap (λ (ps : List (Option ℕ)). map (with_hints (by_numbers c.args.sizes c.as_slice-5.result.now)) (staying ps c.args.steps)) three ∙ told)
    c.renumber_staying.ensures
