-- Properties are numbered one after another.
use Rattle.std.proofs.Common.{◌≡◌, ◌∙◌, sym, ap, ℕ, ◌+◌, ◌≤◌, List, [], ◌∷◌, ◌++◌, length, append-nil, append_assoc, arith}
use Rattle.std.specs.List.{enumerate_from}
use Rattle.gp_property.specs.PropertyForm.{PropertyForm}

-- these are numbered, and those that are left, numbered from here on, are the rest of all
pub record IsNumberedTo (properties left : List PropertyForm) (number : ℕ) (numbered : List (ℕ × PropertyForm)) : Type 0 where
  pub few : number + length left ≤ 64
  pub all : numbered ++ enumerate_from number left ≡ enumerate_from 0 properties

pub none_numbered : (properties : List PropertyForm) (numbered : List (ℕ × PropertyForm)) → length properties ≤ 64 → numbered ≡ [] → IsNumberedTo properties properties 0 numbered
none_numbered properties numbered few none = record {
  few = omega (arith, few);
  all = ap (λ (ns : List (ℕ × PropertyForm)). ns ++ enumerate_from 0 properties) none;
}

pub one_numbered : (properties left more : List PropertyForm) (property : PropertyForm) (number : ℕ) (numbered longer : List (ℕ × PropertyForm)) → left ≡ property ∷ more → longer ≡ numbered ++ (number, property) ∷ []
    → IsNumberedTo properties left number numbered → IsNumberedTo properties more (number + 1) longer
one_numbered properties left more property number numbered longer parts pushed far = record {
  few = omega (arith, far.few, ap (λ (xs : List PropertyForm). length xs) parts);
  all =
      ap (λ (ns : List (ℕ × PropertyForm)). ns ++ enumerate_from (number + 1) more) pushed
      ∙ append_assoc numbered ((number, property) ∷ []) (enumerate_from (number + 1) more)
      ∙ ap (λ (xs : List PropertyForm). numbered ++ enumerate_from number xs) (sym parts)
      ∙ far.all;
}

pub all_numbered : (properties left : List PropertyForm) (number : ℕ) (numbered : List (ℕ × PropertyForm)) → length left ≡ 0 → IsNumberedTo properties left number numbered → numbered ≡ enumerate_from 0 properties
all_numbered properties [] number numbered none far = sym (append-nil numbered) ∙ far.all
all_numbered properties (property ∷ left) number numbered none far = absurd (omega (arith, none))
