-- Laws: what a step's hints name, and what it may use.
use Rattle.std.proofs.Common.{◌≡◌, ◌∙◌, ap, ℕ, zero, suc, ◌<◌, Option, None, Some, List, [], ◌∷◌, ◌++◌, length, All, Contains, refl, arith}
use Rattle.std.specs.List.{cons_option, slice_get}
use Rattle.std.proofs.lemmas.List.Elements.{All-head, All-tail, All-nil, All-cons, All-contains}
use Rattle.gp_base.specs.ListLaws.{contains_got, here, slice_get_front, there}
use Rattle.gp_clause.specs.declared.lit.Lit.{Lit}
use Rattle.gp_certificate.specs.Certificate.{usable}
use Rattle.gp_certificate.specs.Step.{named}

-- what holds of each clause that a hint names holds of all that hints name
pub named_all : (P : List Lit → Type 0) (clauses : List (List Lit)) (hints : List ℕ)
    → ((hint : ℕ) (clause : List Lit) → Contains hints hint → slice_get clauses hint ≡ Some clause → P clause) → All P (named clauses hints)
named_all P clauses [] each = All-nil P
named_all P clauses (hint ∷ hints) each =
    at (slice_get clauses hint) refl (named_all P clauses hints (λ h clause is got. each h clause (there hint hints h is) got))
  where
    at : (o : Option (List Lit)) → slice_get clauses hint ≡ o → All P (named clauses hints) → All P (named clauses (hint ∷ hints))
    at None got rest = rw got rest
    at (Some clause) got rest = rw got (All-cons P clause (named clauses hints) (each hint clause (here hint hints) got) rest)

-- a clause that a hint names is among those that hints name
pub named_contains : (clauses : List (List Lit)) (hints : List ℕ) (hint : ℕ) (clause : List Lit) → Contains hints hint → slice_get clauses hint ≡ Some clause
    → Contains (named clauses hints) clause
named_contains clauses [] hint clause (k, within, is) got = absurd (omega arith)
named_contains clauses (first ∷ hints) hint clause (zero, within, is) got =
    let at : slice_get clauses first ≡ Some clause = ap (λ n. slice_get clauses n) is ∙ got in
    rw at (here clause (named clauses hints))
named_contains clauses (first ∷ hints) hint clause (suc k, within, is) got =
    at (slice_get clauses first) refl (named_contains clauses hints hint clause (k, omega arith, is) got)
  where
    at : (o : Option (List Lit)) → slice_get clauses first ≡ o → Contains (named clauses hints) clause → Contains (named clauses (first ∷ hints)) clause
    at None none rest = rw none rest
    at (Some other) some rest = rw some (there other (named clauses hints) clause rest)

-- hints that name some clauses name the same ones when more come after them
pub named_longer : (clauses more : List (List Lit)) (hints : List ℕ) → All (λ hint. hint < length clauses) hints → named (clauses ++ more) hints ≡ named clauses hints
named_longer clauses more [] within = refl
named_longer clauses more (hint ∷ hints) within =
    let got : slice_get (clauses ++ more) hint ≡ slice_get clauses hint = slice_get_front clauses more hint (All-head (λ h. h < length clauses) hint hints within) in
    let rest : named (clauses ++ more) hints ≡ named clauses hints = named_longer clauses more hints (All-tail (λ h. h < length clauses) hint hints within) in
    λ i. cons_option (got i) (rest i)

-- what holds of all that is numbered and of all that needs no number holds of what a step may use
pub usable_all : (P : List Lit → Type 0) (numbered unnamed : List (List Lit)) (hints : List ℕ) → All P numbered → All P unnamed → All P (usable numbered unnamed hints)
usable_all P numbered unnamed [] all free = free
usable_all P numbered unnamed (hint ∷ hints) all free = named_all P numbered (hint ∷ hints) (λ h clause is got. All-contains P numbered clause all (contains_got numbered h clause got))
