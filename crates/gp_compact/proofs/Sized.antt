-- What hints name among base clauses, shared steps and own steps.
use Rattle.std.proofs.Common.{◌≡◌, ap, sym, ◌∙◌, ℕ, ◌+◌, ◌-◌, ◌<◌, ◌≤◌, List, ◌++◌, length, All, arith}
use Rattle.std.specs.List.{slice_get}
use Rattle.std.proofs.lemmas.List.{append_assoc, length-append, length-map, map-append}
use Rattle.gp_clause.specs.declared.kind.Kind.{Kind}
use Rattle.gp_clause.specs.declared.lit.Lit.{Lit}
use Rattle.gp_clause.specs.Clause.{NamesBelow}
use Rattle.gp_certificate.specs.declared.step.Step.{Step}
use Rattle.gp_certificate.specs.Certificate.{clauses_of}
use Rattle.gp_base.specs.ListLaws.{slice_get_back, slice_get_front}
use Rattle.gp_sharing.specs.declared.sizes.Sizes.{Sizes}
use Rattle.gp_sharing.specs.GrownLaws.{BeginsWith}
use Rattle.gp_sharing.specs.Moving.{first_own}

-- these are the sizes of a base and of the shared steps over it, and the base clauses have base variables
pub record IsSized (kinds : List Kind) (base : List (List Lit)) (old : List Step) (sizes : Sizes) : Type 0 where
  pub clauses : sizes.clauses ≡ length base
  pub variables : sizes.variables ≡ length kinds
  pub shared : sizes.shared ≡ length old
  pub below : All (NamesBelow (length kinds)) base

module _ (kinds : List Kind) (base : List (List Lit)) (old : List Step) (sizes : Sizes) (is : IsSized kinds base old sizes) where
  -- the own clauses follow the base clauses and the shared ones
  pub own_follow : length (base ++ clauses_of old) ≡ first_own sizes
  own_follow = omega (arith, is.clauses, is.shared, length-append base (clauses_of old), length-map old (λ (step : Step). step.clause))

  -- a number below the first own step names the same clause, whatever follows
  pub front_same : (own : List (List Lit)) (hint : ℕ) → hint < first_own sizes → slice_get (base ++ clauses_of old ++ own) hint ≡ slice_get (base ++ clauses_of old) hint
  front_same own hint below = slice_get_front (base ++ clauses_of old) own hint (omega (arith, below, own_follow))

  -- also over a list that begins with the old one
  pub front_over : (list : List Step) → BeginsWith old list → (own : List (List Lit)) (hint : ℕ) → hint < first_own sizes
      → slice_get (base ++ clauses_of list ++ own) hint ≡ slice_get (base ++ clauses_of old) hint
  front_over list (more, begins) own hint below =
      let clauses : clauses_of list ≡ clauses_of old ++ clauses_of more = ap clauses_of begins ∙ map-append (λ (step : Step). step.clause) old more in
      let parted : base ++ clauses_of list ++ own ≡ base ++ clauses_of old ++ (clauses_of more ++ own) =
      ap (λ (cs : List (List Lit)). base ++ cs ++ own) clauses ∙ ap (λ (cs : List (List Lit)). cs ++ own) (sym (append_assoc base (clauses_of old) (clauses_of more))) ∙ append_assoc (base ++ clauses_of old) (clauses_of more) own in
      ap (λ (cs : List (List Lit)). slice_get cs hint) parted ∙ slice_get_front (base ++ clauses_of old) (clauses_of more ++ own) hint (omega (arith, below, own_follow))

  -- a later number names an own clause
  pub own_named : (own : List (List Lit)) (hint : ℕ) → first_own sizes ≤ hint → slice_get (base ++ clauses_of old ++ own) hint ≡ slice_get own (hint - first_own sizes)
  own_named own hint past =
      let place : hint ≡ length (base ++ clauses_of old) + (hint - first_own sizes) = omega (arith, past, own_follow) in
      ap (λ (n : ℕ). slice_get (base ++ clauses_of old ++ own) n) place ∙ slice_get_back (base ++ clauses_of old) own (hint - first_own sizes)

  -- a number of the shared list names the clause of its step
  pub shared_named : (list : List Step) (own : List (List Lit)) (place : ℕ) → place < length list
      → slice_get (base ++ clauses_of list ++ own) (sizes.clauses + place) ≡ slice_get (clauses_of list) place
  shared_named list own place within =
      let size : length (clauses_of list) ≡ length list = length-map list (λ (step : Step). step.clause) in
      let number : sizes.clauses + place ≡ length base + place = omega (arith, is.clauses) in
      slice_get_front (base ++ clauses_of list) own (sizes.clauses + place) (omega (arith, within, size, number, length-append base (clauses_of list)))
      ∙ ap (λ (n : ℕ). slice_get (base ++ clauses_of list) n) number
      ∙ slice_get_back base (clauses_of list) place
