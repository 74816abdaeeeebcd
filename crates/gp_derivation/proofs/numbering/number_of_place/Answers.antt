use Rattle.std.proofs.Common.{◌≡◌, ◌<◌, length, get_or, arith}
use Rattle.std.proofs.lemmas.List.Sorted.{searched}
use Rattle.gp_derivation.proofs.Numbers.{Finds, rising_far, found_one, found_at, one_place, number_at}
use Rattle.gp_derivation.proofs.numbering.number_of_place.Goals as goal

pub unwrap-at-requires : goal.unwrap-at-requires
unwrap-at-requires c =
    let finds : Finds c.args.places.now c.args.place c.binary_search.result = searched c.args.places.now c.args.place c.binary_search.result c.binary_search.ensures.position (rising_far c.args.places.now c.requires.rising) in
    found_one c.args.places.now c.args.numbers.now c.args.place c.binary_search.result c.requires.there finds

pub bounds-numbers-at : goal.bounds-numbers-at
bounds-numbers-at c =
    let finds : Finds c.args.places.now c.args.place c.binary_search.result = searched c.args.places.now c.args.place c.binary_search.result c.binary_search.ensures.position (rising_far c.args.places.now c.requires.rising) in
    let there : (c.unwrap-at.result < length c.args.places.now) × (get_or c.args.places.now c.unwrap-at.result 0 ≡ c.args.place) = found_at c.args.places.now c.args.place c.unwrap-at.result c.binary_search.result c.unwrap-at.ensures finds in
    let same : c.unwrap-at.result ≡ c.requires.there.0 = one_place c.args.places.now c.requires.rising c.unwrap-at.result c.requires.there.0 there.0 c.requires.there.1 (omega (arith, there.1, c.requires.there.3)) in
    omega (arith, same, c.requires.there.2)

pub returns : goal.returns
returns c =
    let finds : Finds c.args.places.now c.args.place c.binary_search.result = searched c.args.places.now c.args.place c.binary_search.result c.binary_search.ensures.position (rising_far c.args.places.now c.requires.rising) in
    let there : (c.unwrap-at.result < length c.args.places.now) × (get_or c.args.places.now c.unwrap-at.result 0 ≡ c.args.place) = found_at c.args.places.now c.args.place c.unwrap-at.result c.binary_search.result c.unwrap-at.ensures finds in
    number_at c.args.places.now c.args.numbers.now c.args.place c.unwrap-at.result c.requires.rising there.0 there.1
