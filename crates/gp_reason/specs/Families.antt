-- Of which family a clause of a window is, by its number.
use Rattle.std.specs.Prelude.{ℕ, ◌-◌, List, [], ◌∷◌, Option, Some, None, if◌then◌else◌, length, map, nat_lt}
use Rattle.gp_window.specs.WindowForm.{WindowForm}
use Rattle.gp_constraint.specs.declared.base_family.BaseFamily.{BaseFamily}
use Rattle.gp_constraint.specs.declared.base_family.BaseFamily.TheVariants.{ProgramOrder, Start, Join, Read, Choice, StartChoice, Section, HeldLock}
use Rattle.gp_constraint.specs.Families.{family_clauses}

-- the families of a window's clauses, in the order of the clauses
abbrev pub families : List BaseFamily
families = ProgramOrder ∷ Start ∷ Join ∷ Read ∷ Choice ∷ StartChoice ∷ Section ∷ HeldLock ∷ []

-- how many clauses a window has of each of these families
abbrev pub sizes_among : WindowForm → List BaseFamily → List (BaseFamily × ℕ)
sizes_among window among = map (λ family. (family, length (family_clauses window family))) among

-- and of all of them
abbrev pub family_sizes : WindowForm → List (BaseFamily × ℕ)
family_sizes window = sizes_among window families

-- the family of the clause of this number, where so many clauses of one family stand before those of the next
abbrev pub family_among : List (BaseFamily × ℕ) → ℕ → Option BaseFamily
family_among [] number = None
family_among (first ∷ rest) number = if nat_lt number first.1 then Some first.0 else family_among rest (number - first.1)

-- the family of the clause of this number; nothing where the window has no such clause
abbrev pub family_at : WindowForm → ℕ → Option BaseFamily
family_at window number = family_among (family_sizes window) number
