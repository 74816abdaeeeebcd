-- The draws of the generator.
use Rattle.std.specs.Prelude.{ℕ, ◌+◌, ◌*◌, ◌/◌, ◌%◌, ◌^◌}
use Rattle.gp_make.specs.declared.generator.Generator.{Generator}

-- the generator after a draw
unfoldable pub after_draw : Generator → Generator
after_draw generator = record { state = (generator.state * 6364136223846793005 + 1442695040888963407) % 2 ^ 64 }

-- what a draw below a bound gives: the upper bits of the new state, modulo the bound
unfoldable pub drawn : ℕ → Generator → ℕ
drawn bound generator = (after_draw generator).state / 2 ^ 33 % bound
