-- The clauses that hints name, one hint after another.
use Rattle.std.proofs.Common.{◌≡◌, ℕ, ◌+◌, ◌<◌, None, Some, List, [], ◌∷◌, ◌++◌, length, get_or, take, All, refl, ap, sym, ◌∙◌}
use Rattle.std.specs.List.{slice_get}
use Rattle.std.proofs.lemmas.List.{take_more, append-nil}
use Rattle.std.proofs.lemmas.List.Elements.{filter_map-append, All-contains, Contains-get_or}
use Rattle.gp_clause.specs.declared.lit.Lit.{Lit}
use Rattle.gp_certificate.specs.Bench.{BenchForm}
use Rattle.gp_certificate.specs.NamedLaws.{named_contains}
use Rattle.gp_certificate.specs.Step.{named}

named_next : (clauses : List (List Lit)) (hints : List ℕ) (i d : ℕ) → i < length hints → named clauses (take (i + 1) hints) ≡ named clauses (take i hints) ++ named clauses (get_or hints i d ∷ [])
named_next clauses hints i d within =
    ap (λ hs. named clauses hs) (take_more hints i d within) ∙ filter_map-append (λ hint. slice_get clauses hint) (take i hints) (get_or hints i d ∷ [])

pub named_some : (clauses : List (List Lit)) (hints : List ℕ) (i d : ℕ) (clause : List Lit) → i < length hints → slice_get clauses (get_or hints i d) ≡ Some clause
    → named clauses (take (i + 1) hints) ≡ named clauses (take i hints) ++ clause ∷ []
named_some clauses hints i d clause within got = named_next clauses hints i d within ∙ (rw got refl)

pub named_none : (clauses : List (List Lit)) (hints : List ℕ) (i d : ℕ) → i < length hints → slice_get clauses (get_or hints i d) ≡ None
    → named clauses (take (i + 1) hints) ≡ named clauses (take i hints)
named_none clauses hints i d within got = named_next clauses hints i d within ∙ (rw got (append-nil (named clauses (take i hints))))

-- one more of the clauses that hints name is loaded
pub loaded_more : (start now new : BenchForm) (clauses : List (List Lit)) (hints : List ℕ) (i d : ℕ) (clause : List Lit) → i < length hints → slice_get clauses (get_or hints i d) ≡ Some clause
    → now ≡ record start { loaded = named clauses (take i hints) } → new ≡ record now { loaded = now.loaded ++ clause ∷ [] } → new ≡ record start { loaded = named clauses (take (i + 1) hints) }
loaded_more start now new clauses hints i d clause within got before pushed =
    let P : BenchForm → BenchForm = λ b. record b { loaded = b.loaded ++ clause ∷ [] } in
    let Q : List (List Lit) → BenchForm = λ cs. record start { loaded = cs } in
    pushed ∙ ap P before ∙ ap Q (sym (named_some clauses hints i d clause within got))

pub loaded_none : (start now : BenchForm) (clauses : List (List Lit)) (hints : List ℕ) (i d : ℕ) → i < length hints → slice_get clauses (get_or hints i d) ≡ None
    → now ≡ record start { loaded = named clauses (take i hints) } → now ≡ record start { loaded = named clauses (take (i + 1) hints) }
loaded_none start now clauses hints i d within got before =
    let Q : List (List Lit) → BenchForm = λ cs. record start { loaded = cs } in
    before ∙ ap Q (sym (named_none clauses hints i d within got))

-- what holds of all clauses that hints name holds of each
pub named_one : (P : List Lit → Type 0) (clauses : List (List Lit)) (hints : List ℕ) (i d : ℕ) (clause : List Lit) → i < length hints → slice_get clauses (get_or hints i d) ≡ Some clause
    → All P (named clauses hints) → P clause
named_one P clauses hints i d clause within got all =
    All-contains P (named clauses hints) clause all (named_contains clauses hints (get_or hints i d) clause (Contains-get_or hints i d within) got)
