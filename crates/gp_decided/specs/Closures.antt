-- What unit clauses derive from a start is decided: literals are added to those that are known as long as one can be.
use Rattle.std.specs.Prelude.{ℕ, zero, suc, ◌≤◌, ◌≡◌, ◌≢◌, ◌⊎◌, List, [], ◌∷◌, ◌++◌, length, flat_map, Contains}
use Rattle.std.proofs.Common.{inl, inr, refl, subst, ap, arith}
use Rattle.std.proofs.lemmas.List.{length-append}
use Rattle.std.proofs.lemmas.List.Elements.{Contains-append_left, Contains-append_right}
use Rattle.gp_base.specs.ListLaws.{contains_flat_map, contains_parts, first_or_rest, here, nothing_in, there}
use Rattle.gp_clause.specs.declared.lit.Lit.{Lit}
use Rattle.gp_clause.specs.Closure.{Conflicts, Derived}
use Rattle.gp_clause.specs.Closure.Derived.{given, forced}
use Rattle.gp_clause.specs.Lit.{opposite}
use Rattle.gp_clause.specs.LitLaws.{lits_cases}
use Rattle.gp_decided.specs.Decided.{Decided, EachOf, SomeOf, both_decided, contains_decided, each_decided, either_decided, if_decided, some_decided}

-- a list parted at an element of which something holds
abbrev Parted : (Lit → Type 0) → List Lit → Type 0
Parted P lits = (front : List Lit) × (lit : Lit) × (back : List Lit) × (lits ≡ front ++ lit ∷ back) × P lit

part : (P : Lit → Type 0) → ((lit : Lit) → Decided (P lit)) → (lits : List Lit) → Parted P lits ⊎ EachOf (λ lit. P lit → ⊥) lits
part P decides [] = inr (λ lit within. absurd (nothing_in lit within))
part P decides (first ∷ lits) = at (decides first) (part P decides lits)
  where
    at : Decided (P first) → Parted P lits ⊎ EachOf (λ lit. P lit → ⊥) lits → Parted P (first ∷ lits) ⊎ EachOf (λ lit. P lit → ⊥) (first ∷ lits)
    at (inl is) rest = inl ([], first, lits, refl, is)
    at (inr fails) (inl (front, lit, back, same, is)) = inl (first ∷ front, lit, back, ap (λ xs. first ∷ xs) same, is)
    at (inr fails) (inr none) = inr (λ lit within. elim (first_or_rest first lits lit within) [
      | inl same ↦ subst (λ l. P l → ⊥) same fails
      | inr later ↦ none lit later
    ])

module _ (start : List Lit) (clauses : List (List Lit)) where
  -- a clause forces a literal where it has it and the negation of each of its others is known
  abbrev Forces : List Lit → Lit → List Lit → Type 0
  Forces known lit clause = Contains clause lit × EachOf (λ other. other ≢ lit → Contains known (opposite other)) clause

  -- a literal comes next where it is in the start, or some clause forces it
  abbrev IsNext : List Lit → Lit → Type 0
  IsNext known lit = Contains start lit ⊎ SomeOf (Forces known lit) clauses

  next_decided : (known : List Lit) (lit : Lit) → Decided (IsNext known lit)
  next_decided known lit =
      either_decided (contains_decided lits_cases start lit)
      (some_decided (Forces known lit) clauses (λ clause _. both_decided (contains_decided lits_cases clause lit)
      (each_decided (λ other. other ≢ lit → Contains known (opposite other)) clause (λ other _. if_decided (differ other) (contains_decided lits_cases known (opposite other))))))
    where
      differ : (other : Lit) → Decided (other ≢ lit)
      differ other = elim (lits_cases other lit) [
        | inl same ↦ inr (λ apart. apart same)
        | inr apart ↦ inl apart
      ]

  -- all that may be derived
  abbrev candidates : List Lit
  candidates = start ++ flat_map (λ (clause : List Lit). clause) clauses

  -- what is known is all that is derived
  pub record IsClosure (known : List Lit) : Type 0 where
    pub sound : EachOf (Derived start clauses) known
    pub complete : (lit : Lit) → Derived start clauses lit → Contains known lit

  abbrev Covers : List Lit → List Lit → Type 0
  Covers known left = (lit : Lit) → Contains candidates lit → Contains known lit ⊎ Contains left lit

  complete_at_end : (known left : List Lit) → Covers known left → EachOf (λ lit. IsNext known lit → ⊥) left → (lit : Lit) → Derived start clauses lit → Contains known lit
  complete_at_end known left covers none lit (given l is) = elim (covers l (Contains-append_left start (flat_map (λ (clause : List Lit). clause) clauses) l is)) [
    | inl in_known ↦ in_known
    | inr in_left ↦ absurd (none l in_left (inl is))
  ]
  complete_at_end known left covers none lit (forced clause l among within others) =
      let all : EachOf (λ other. other ≢ l → Contains known (opposite other)) clause = λ other is apart. complete_at_end known left covers none (opposite other) (others other is apart) in
      elim (covers l (Contains-append_right start (flat_map (λ (c : List Lit). c) clauses) l (contains_flat_map (λ (c : List Lit). c) clauses clause l among within))) [
        | inl in_known ↦ in_known
        | inr in_left ↦ absurd (none l in_left (inr (clause, among, (within, all))))
      ]

  derived_next : (known : List Lit) → EachOf (Derived start clauses) known → (lit : Lit) → IsNext known lit → Derived start clauses lit
  derived_next known sound lit (inl is) = given lit is
  derived_next known sound lit (inr (clause, among, (within, others))) = forced clause lit among within (λ other is apart. sound (opposite other) (others other is apart))

  -- what is known with one literal more, which comes next
  sound_next : (known : List Lit) (lit : Lit) → EachOf (Derived start clauses) known → IsNext known lit → EachOf (Derived start clauses) (lit ∷ known)
  sound_next known lit sound next l within = elim (first_or_rest lit known l within) [
    | inl is ↦ subst (Derived start clauses) is (derived_next known sound lit next)
    | inr later ↦ sound l later
  ]

  covers_next : (known left front back : List Lit) (lit : Lit) → left ≡ front ++ lit ∷ back → Covers known left → Covers (lit ∷ known) (front ++ back)
  covers_next known left front back lit same covers l is = elim (covers l is) [
    | inl in_known ↦ inl (there lit known l in_known)
    | inr in_left ↦ moved (contains_parts l lit front back (subst (λ xs. Contains xs l) same in_left))
  ]
    where
      moved : Contains front l ⊎ ((lit ≡ l) ⊎ Contains back l) → Contains (lit ∷ known) l ⊎ Contains (front ++ back) l
      moved (inl early) = inr (Contains-append_left front back l early)
      moved (inr (inl is)) = inl (subst (Contains (lit ∷ known)) is (here lit known))
      moved (inr (inr late)) = inr (Contains-append_right front back l late)

  abbrev Closure : Type 0
  Closure = (all : List Lit) × IsClosure all

  fewer : (left front back : List Lit) (lit : Lit) → left ≡ front ++ lit ∷ back → length left ≡ suc (length (front ++ back))
  fewer left front back lit same = omega (arith, ap (λ (xs : List Lit). length xs) same, length-append front (lit ∷ back), length-append front back)

  grown : (n : ℕ) (known left : List Lit) → length left ≤ n → EachOf (Derived start clauses) known → Covers known left → Closure
  grown zero known left few sound covers = at (part (IsNext known) (next_decided known) left)
    where
      at : Parted (IsNext known) left ⊎ EachOf (λ lit. IsNext known lit → ⊥) left → Closure
      at (inr none) = (known, record { sound = sound; complete = complete_at_end known left covers none })
      at (inl (front, lit, back, same, next)) = absurd (omega (arith, few, fewer left front back lit same))
  grown (suc n) known left few sound covers = at (grown n) (part (IsNext known) (next_decided known) left)
    where
      at : ((more less : List Lit) → length less ≤ n → EachOf (Derived start clauses) more → Covers more less → Closure)
          → Parted (IsNext known) left ⊎ EachOf (λ lit. IsNext known lit → ⊥) left → Closure
      at later (inr none) = (known, record { sound = sound; complete = complete_at_end known left covers none })
      at later (inl (front, lit, back, same, next)) =
          later (lit ∷ known) (front ++ back) (omega (arith, few, fewer left front back lit same)) (sound_next known lit sound next) (covers_next known left front back lit same covers)

  -- all that is derived can be listed
  pub closure : (all : List Lit) × IsClosure all
  closure = grown (length candidates) [] candidates (omega arith) (λ lit within. absurd (nothing_in lit within)) (λ lit is. inr is)

  pub derived_decided : (lit : Lit) → Decided (Derived start clauses lit)
  derived_decided lit = elim (contains_decided lits_cases closure.0 lit) [
    | inl is ↦ inl (closure.1.sound lit is)
    | inr not_in ↦ inr (λ derived. not_in (closure.1.complete lit derived))
  ]

  pub conflict_decided : Decided (Conflicts start clauses)
  conflict_decided =
      some_decided (λ clause. EachOf (λ lit. Derived start clauses (opposite lit)) clause) clauses
      (λ clause _. each_decided (λ lit. Derived start clauses (opposite lit)) clause (λ lit _. derived_decided (opposite lit)))
