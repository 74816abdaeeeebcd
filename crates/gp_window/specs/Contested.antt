-- Which locks are contested.
use Rattle.std.specs.Prelude.{ℕ, Bool, not, ◌==◌, ◌&&◌, List, Option, option_map}
use Rattle.std.specs.List.{find, list_any}
use Rattle.std.specs.Str.{bytes_eq}
use Rattle.gp_window.specs.Holders.{Holdings, is_exclusive}

-- whether a thread other than this one holds a lock
abbrev pub is_held_beside : Holdings → List ℕ → ℕ → Bool
is_held_beside held lock thread = list_any (λ one. bytes_eq one.0.0 lock && not (one.0.1 == thread)) held

-- whether a thread holds a lock by an acquire, and another thread holds it in either way
abbrev pub is_contested : Holdings → List ℕ → Bool
is_contested held lock =
    list_any (λ one. bytes_eq one.0.0 lock && (is_exclusive one.1 && is_held_beside held lock one.0.1)) held

-- the least lock that is contested
abbrev pub first_contested : Holdings → Option (List ℕ)
first_contested held = option_map (λ one. one.0.0) (find (λ one. is_contested held one.0.0) held)
