-- The threads that are chosen, one after another.
use Rattle.std.proofs.Common.{◌≡◌, refl, ℕ, ◌+◌, ◌-◌, ◌<◌, Bool, true, false, List, [], ◌∷◌, ◌++◌, ◌∙◌, ap, sym, add-one, append_assoc, arith}
use Rattle.std.specs.Prelude.{◌||◌, if◌then◌else◌}
use Rattle.gp_window.specs.Starts.{is_among}
use Rattle.gp_window.specs.WindowForm.{chosen, numbers_from}

unfolds : (thread more rest : ℕ) → more ≡ rest + 1 → numbers_from thread more ≡ thread ∷ numbers_from (thread + 1) rest
unfolds thread more rest is = rw (is, add-one) refl

-- a thread that is kept or not, at the end of the row or before the rest
kept : (row : List ℕ) (thread : ℕ) (rest : List ℕ) (keep : Bool)
    → (row ++ (if keep then thread ∷ [] else [])) ++ rest ≡ row ++ (if keep then thread ∷ rest else rest)
kept row thread rest true = append_assoc row (thread ∷ []) rest
kept row thread rest false = append_assoc row [] rest

-- one more thread goes from what is left to the row
pub one_thread : (roots started row total : List ℕ) (thread threads : ℕ) → thread < threads + 1
    → row ++ chosen roots started (numbers_from thread (threads + 1 - thread)) ≡ total
    → (row ++ (if is_among roots thread || is_among started thread then thread ∷ [] else []))
    ++ chosen roots started (numbers_from (thread + 1) (threads + 1 - (thread + 1))) ≡ total
one_thread roots started row total thread threads below all =
    let left : threads + 1 - thread ≡ (threads + 1 - (thread + 1)) + 1 = omega arith in
    kept row thread (chosen roots started (numbers_from (thread + 1) (threads + 1 - (thread + 1)))) (is_among roots thread || is_among started thread)
    ∙ ap (λ threads. row ++ chosen roots started threads) (sym (unfolds thread (threads + 1 - thread) (threads + 1 - (thread + 1)) left))
    ∙ all
