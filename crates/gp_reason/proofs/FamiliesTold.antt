-- The family that is told for the number of a clause is the clause's.
use Rattle.std.proofs.Common.{ℕ, ◌≡◌, ◌+◌, ◌-◌, ◌≤◌, refl, ap, sym, ◌∙◌, subst, inl, inr, arith, List, [], ◌∷◌, ◌++◌, length}
use Rattle.std.specs.Prelude.{Contains, flat_map, if◌then◌else◌, Some, None, slice_get}
use Rattle.std.proofs.lemmas.Bool.{cases_lt, le-ltb, lt-ltb}
use Rattle.std.proofs.lemmas.List.{append-nil, length-append}
use Rattle.std.proofs.lemmas.Option.{none-some}
use Rattle.gp_base.specs.ListLaws.{contains_got, slice_get_back, slice_get_front}
use Rattle.gp_constraint.specs.declared.base_family.BaseFamily.{BaseFamily}
use Rattle.gp_constraint.specs.declared.base_family.BaseFamily.TheVariants.{ProgramOrder, Start, Join, Read, Choice, StartChoice, Section, HeldLock}
use Rattle.gp_constraint.specs.declared.symbol.SymbolicLit.{SymbolicLit}
use Rattle.gp_constraint.specs.Base.{clauses_of}
use Rattle.gp_constraint.specs.Families.{family_clauses}
use Rattle.gp_window.specs.WindowForm.{WindowForm}
use Rattle.gp_reason.specs.Families.{families, family_among, family_at, sizes_among}

-- the clauses of a window are those of its families
clauses_by_family : (window : WindowForm) → clauses_of window ≡ flat_map (family_clauses window) families
clauses_by_family window =
    ap (λ (held : List (List SymbolicLit)). family_clauses window ProgramOrder
    ++ (family_clauses window Start
    ++ (family_clauses window Join
    ++ (family_clauses window Read
    ++ (family_clauses window Choice
    ++ (family_clauses window StartChoice
    ++ (family_clauses window Section ++ held)))))))
    (sym (append-nil (family_clauses window HeldLock)))

-- of a clause of some families
told_among : (window : WindowForm) (among : List BaseFamily) (number : ℕ) (clause : List SymbolicLit) → slice_get (flat_map (family_clauses window) among) number ≡ Some clause
    → (family : BaseFamily) × (family_among (sizes_among window among) number ≡ Some family) × Contains (family_clauses window family) clause
told_among window [] number clause got = absurd (none-some clause got)
told_among window (first ∷ among) number clause got =
    elim (cases_lt number (length own)) [
      | inl below ↦ (
        first,
        ap (λ b. if b then Some first else family_among (sizes_among window among) (number - length own)) (lt-ltb number (length own) below),
        contains_got own number clause (sym (slice_get_front own rest number below) ∙ got),
      )
      | inr past ↦
          let place : length own + (number - length own) ≡ number = omega (arith, past) in
          let later = told_among window among (number - length own) clause
          (sym (slice_get_back own rest (number - length own)) ∙ ap (λ (n : ℕ). slice_get (own ++ rest) n) place ∙ got) in (
            later.0,
            ap (λ b. if b then Some first else family_among (sizes_among window among) (number - length own)) (le-ltb number (length own) past) ∙ later.1,
            later.2,
          )
    ]
  where
    own : List (List SymbolicLit)
    own = family_clauses window first

    rest : List (List SymbolicLit)
    rest = flat_map (family_clauses window) among

-- of no clause of some families
none_among : (window : WindowForm) (among : List BaseFamily) (number : ℕ) → length (flat_map (family_clauses window) among) ≤ number → family_among (sizes_among window among) number ≡ None
none_among window [] number past = refl
none_among window (first ∷ among) number past =
    ap (λ b. if b then Some first else family_among (sizes_among window among) (number - length own)) (le-ltb number (length own) (omega (arith, past, size)))
    ∙ none_among window among (number - length own) (omega (arith, past, size))
  where
    own : List (List SymbolicLit)
    own = family_clauses window first

    size : length (own ++ flat_map (family_clauses window) among) ≡ length own + length (flat_map (family_clauses window) among)
    size = length-append own (flat_map (family_clauses window) among)

pub family_told : (window : WindowForm) (number : ℕ) (clause : List SymbolicLit) → slice_get (clauses_of window) number ≡ Some clause
    → (family : BaseFamily) × (family_at window number ≡ Some family) × Contains (family_clauses window family) clause
family_told window number clause got =
    told_among window families number clause (sym (ap (λ (clauses : List (List SymbolicLit)). slice_get clauses number) (clauses_by_family window)) ∙ got)

pub none_told : (window : WindowForm) (number : ℕ) → length (clauses_of window) ≤ number → family_at window number ≡ None
none_told window number past =
    none_among window families number (subst (λ (clauses : List (List SymbolicLit)). length clauses ≤ number) (clauses_by_family window) past)
