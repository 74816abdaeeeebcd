-- What a sweep adds to what is known, and where it adds nothing.
use Rattle.std.proofs.Common.{ℕ, zero, suc, ◌≡◌, ◌+◌, ◌-◌, ◌<◌, refl, ap, sym, ◌∙◌, arith, List, [], ◌∷◌, ◌++◌, append-nil, append_assoc, length}
use Rattle.std.specs.Prelude.{Option, None, Some}
use Rattle.std.proofs.lemmas.List.{length-append}
use Rattle.gp_clause.specs.declared.lit.Lit.{Lit}
use Rattle.gp_cycle.specs.Forced.{forced_by, sweep, sweeps, with_forced}

-- what is known stays, and more may be known
forced_grows : (known : List Lit) (found : Option Lit) → (more : List Lit) × (with_forced known found ≡ known ++ more)
forced_grows known None = ([], sym (append-nil known))
forced_grows known (Some lit) = (lit ∷ [], refl)

pub sweep_grows : (known : List Lit) (clauses : List (List Lit)) → (more : List Lit) × (sweep known clauses ≡ known ++ more)
sweep_grows known [] = ([], sym (append-nil known))
sweep_grows known (clause ∷ clauses) =
    let first = forced_grows known (forced_by known clause) in
    let rest = sweep_grows (with_forced known (forced_by known clause)) clauses in
    (first.0 ++ rest.0, rest.1 ∙ ap (λ (list : List Lit). list ++ rest.0) first.1 ∙ append_assoc known first.0 rest.0)

pub sweeps_grow : (rounds : ℕ) (known : List Lit) (clauses : List (List Lit)) → (more : List Lit) × (sweeps rounds known clauses ≡ known ++ more)
sweeps_grow zero known clauses = ([], sym (append-nil known))
sweeps_grow (suc rounds) known clauses =
    let first = sweep_grows known clauses in
    let rest = sweeps_grow rounds (sweep known clauses) clauses in
    (first.0 ++ rest.0, rest.1 ∙ ap (λ (list : List Lit). list ++ rest.0) first.1 ∙ append_assoc known first.0 rest.0)

-- where a sweep adds nothing, no further one does
nothing_more : (known more : List Lit) → length (known ++ more) ≡ length known → known ++ more ≡ known
nothing_more known [] same = append-nil known
nothing_more known (lit ∷ more) same = absurd (omega (arith, same, length-append known (lit ∷ more)))

still : (known : List Lit) (clauses : List (List Lit)) → length (sweep known clauses) ≡ length known → sweep known clauses ≡ known
still known clauses same =
    let grown = sweep_grows known clauses in
    grown.1 ∙ nothing_more known grown.0 (sym (ap length grown.1) ∙ same)

pub stays : (rounds : ℕ) (known : List Lit) (clauses : List (List Lit)) → sweep known clauses ≡ known → sweeps rounds known clauses ≡ known
stays zero known clauses same = refl
stays (suc rounds) known clauses same = ap (λ (list : List Lit). sweeps rounds list clauses) same ∙ stays rounds known clauses same

-- one sweep of those that are to come
next_sweep : (rounds rest : ℕ) (known : List Lit) (clauses : List (List Lit)) → rounds ≡ rest + 1 → sweeps rounds known clauses ≡ sweeps rest (sweep known clauses) clauses
next_sweep zero rest known clauses is = absurd (omega (arith, is))
next_sweep (suc rounds) rest known clauses is =
    let same : rounds ≡ rest = omega (arith, is) in
    ap (λ (n : ℕ). sweeps n (sweep known clauses) clauses) same

-- after a sweep more the others lead where all did
pub one_sweep : (count round next : ℕ) (known swept whole : List Lit) (clauses : List (List Lit)) → round < count → next ≡ round + 1 → swept ≡ sweep known clauses
    → sweeps (count - round) known clauses ≡ whole → sweeps (count - next) swept clauses ≡ whole
one_sweep count round next known swept whole clauses within is made leads =
    ap (λ (list : List Lit). sweeps (count - next) list clauses) made
    ∙ sym (next_sweep (count - round) (count - next) known clauses (omega (arith, within, is)))
    ∙ leads

-- the sweep that added nothing was the last
pub last_sweep : (rounds : ℕ) (known swept whole : List Lit) (clauses : List (List Lit)) → swept ≡ sweep known clauses → length swept ≡ length known
    → sweeps rounds known clauses ≡ whole → swept ≡ whole
last_sweep rounds known swept whole clauses made same leads =
    let added : sweep known clauses ≡ known = still known clauses (sym (ap length made) ∙ same) in
    made ∙ added ∙ sym (stays rounds known clauses added) ∙ leads
