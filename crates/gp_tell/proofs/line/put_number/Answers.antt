use Rattle.std.proofs.Common.{◌≡◌, refl, ◌+◌, ◌++◌, ◌^◌, ◌∙◌, arith, ap, codes, decimal, List, ℕ}
use Rattle.std.specs.Fmt.{digits}
use Rattle.gp_tell.proofs.line.put_number.Goals as goal

-- the number of the last place of all
last_number : codes "18446744073709551616" ≡ decimal (2 ^ 64)
unfolding digits
last_number = refl

pub returns-in_default : goal.returns-in_default
returns-in_default c =
    let all : 2 ^ 64 ≡ c.args.place + 1 = omega (arith, c.in_default.ensures, c.ranges.place.fits) in
    c.in_ok-extend_from_slice.ensures.items ∙ ap (λ (word : List ℕ). c.args.text.now.items ++ word) (last_number ∙ ap decimal all)
