-- The other workers of a window are those of its numbers, but for one.
use Rattle.std.proofs.Common.{◌≡◌, ◌≢◌, ℕ, ◌+◌, ◌-◌, ◌<◌, ◌≤◌, inl, inr, List, All, Contains, get_or, arith}
use Rattle.std.specs.List.{range_with_len}
use Rattle.std.proofs.lemmas.List.Elements.{All-weaker, Contains-append_cases}
use Rattle.std.proofs.lemmas.List.FromFn.{get_or-range_with_len, length-range_with_len}
use Rattle.gp_derivation.specs.declared.log.LogEntry.{LogEntry}
use Rattle.gp_derivation.specs.declared.log.Origin.{Origin}
use Rattle.gp_derivation.specs.declared.log.Origin.TheVariants.{Learned, Taken}
use Rattle.gp_workers.specs.Prefixes.{IsFromAnother, TakesFromAnother}
use Rattle.gp_workers.specs.Sharing.{IsFromOneOf, others}

-- a number of a range is within it
in_range : (from count number : ℕ) → Contains (range_with_len from count) number → (from ≤ number) × (number < from + count)
in_range from count number has =
    let low : has.0 < count = omega (arith, has.1, length-range_with_len from count) in
    let is : get_or (range_with_len from count) has.0 number ≡ from + has.0 = get_or-range_with_len from count has.0 number low in
    let same : get_or (range_with_len from count) has.0 number ≡ number = has.2 in
    (omega (arith, low, is, same), omega (arith, low, is, same))

is_another : (count place number : ℕ) → place < count → Contains (others count place) number → (1 ≤ number) × (number ≤ count) × (number ≢ place + 1)
is_another count place number within has = elim (Contains-append_cases (range_with_len 1 place) (range_with_len (place + 2) (count - (place + 1))) number has) [
  | inl below ↦
      let is = in_range 1 place number below in
      (omega (arith, is), omega (arith, is, within), λ same. omega (arith, is, same))
  | inr above ↦
      let is = in_range (place + 2) (count - (place + 1)) number above in
      (omega (arith, is), omega (arith, is, within), λ same. omega (arith, is, same))
]

from_another : (count place : ℕ) (origin : Origin) → place < count → IsFromOneOf (others count place) origin → IsFromAnother count (place + 1) origin
from_another count place Learned within is = tt
from_another count place (Taken sender certificate) within is = is_another count place sender within is

pub takes_from_another : TakesFromAnother
takes_from_another count place log within from =
    All-weaker (λ (entry : LogEntry). IsFromOneOf (others count place) entry.origin) (λ (entry : LogEntry). IsFromAnother count (place + 1) entry.origin)
    (λ entry is. from_another count place entry.origin within is) log from
