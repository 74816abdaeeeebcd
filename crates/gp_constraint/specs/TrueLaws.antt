-- Laws: clauses that are made true by their terms.
use Rattle.std.proofs.Common.{◌≡◌, sym, refl, subst, inl, inr, List, [], ◌∷◌, ◌++◌, Bool, true, false, not}
use Rattle.std.specs.Prelude.{if◌then◌else◌, flat_map, Contains, ◌||◌}
use Rattle.std.specs.List.{list_any}
use Rattle.std.proofs.lemmas.Bool.{cases_Bool}
use Rattle.gp_base.specs.ListLaws.{first_or_rest, here, nothing_in, there}
use Rattle.gp_constraint.specs.declared.symbol.Symbol.{Symbol}
use Rattle.gp_constraint.specs.declared.symbol.SymbolicLit.{SymbolicLit}
use Rattle.gp_constraint.specs.declared.term.Term.{Term}
use Rattle.gp_constraint.specs.declared.term.Term.TheVariants.{Always, Never, Literal}
use Rattle.gp_constraint.specs.Terms.{is_always, lit_of, simplified}
use Rattle.gp_constraint.specs.Truths.{AreTrue, lit_true}

-- whether a term is true
abbrev pub term_true : (Symbol → Bool) → Term → Bool
term_true truth Always = true
term_true truth Never = false
term_true truth (Literal lit) = lit_true truth lit

pub all_append : (truth : Symbol → Bool) (xs ys : List (List SymbolicLit)) → AreTrue truth xs → AreTrue truth ys → AreTrue truth (xs ++ ys)
all_append truth [] ys first second = second
all_append truth (x ∷ xs) ys first second = (first.0, all_append truth xs ys first.1 second)

pub all_flat : {X : Type 0} (truth : Symbol → Bool) (f : X → List (List SymbolicLit)) (xs : List X) → ((x : X) → Contains xs x → AreTrue truth (f x)) → AreTrue truth (flat_map f xs)
all_flat truth f [] all = tt
all_flat truth f (x ∷ xs) all = all_append truth (f x) (flat_map f xs) (all x (here _ _)) (all_flat truth f xs (λ y is. all y (there _ _ _ is)))

pub all_if : (truth : Symbol → Bool) (b : Bool) (xs : List (List SymbolicLit)) → (b ≡ true → AreTrue truth xs) → AreTrue truth (if b then xs else [])
all_if truth true xs holds = holds refl
all_if truth false xs holds = tt

pub all_either : (truth : Symbol → Bool) (b : Bool) (xs ys : List (List SymbolicLit)) → (b ≡ true → AreTrue truth xs) → (b ≡ false → AreTrue truth ys) → AreTrue truth (if b then xs else ys)
all_either truth true xs ys first second = first refl
all_either truth false xs ys first second = second refl

-- a clause is true where one of its terms is
lits_true : (truth : Symbol → Bool) (terms : List Term) → list_any is_always terms ≡ false → list_any (term_true truth) terms ≡ true → list_any (lit_true truth) (flat_map lit_of terms) ≡ true
lits_true truth [] never is = is
lits_true truth (Always ∷ terms) never is = cc
lits_true truth (Never ∷ terms) never is = lits_true truth terms never is
lits_true truth (Literal lit ∷ terms) never is =
    elim (cases_Bool (lit_true truth lit)) [
      | inl holds ↦ rw holds refl
      | inr fails ↦ rw fails (lits_true truth terms never (rw fails at is))
    ]

pub clause_true : (truth : Symbol → Bool) (terms : List Term) → list_any (term_true truth) terms ≡ true → AreTrue truth (simplified terms)
clause_true truth terms is =
    elim (cases_Bool (list_any is_always terms)) [
      | inl always ↦ rw always tt
      | inr never ↦ rw never (lits_true truth terms never is, tt)
    ]

pub any_left : {X : Type 0} (test : X → Bool) (xs ys : List X) → list_any test xs ≡ true → list_any test (xs ++ ys) ≡ true
any_left test [] ys is = cc
any_left test (x ∷ xs) ys is =
    elim (cases_Bool (test x)) [
      | inl holds ↦ rw holds refl
      | inr fails ↦ rw fails (any_left test xs ys (rw fails at is))
    ]

pub any_right : {X : Type 0} (test : X → Bool) (xs ys : List X) → list_any test ys ≡ true → list_any test (xs ++ ys) ≡ true
any_right test [] ys is = is
any_right test (x ∷ xs) ys is =
    elim (cases_Bool (test x)) [
      | inl holds ↦ rw holds refl
      | inr fails ↦ rw fails (any_right test xs ys is)
    ]

pub any_flat : {X Y : Type 0} (test : Y → Bool) (f : X → List Y) (xs : List X) (x : X) → Contains xs x → list_any test (f x) ≡ true → list_any test (flat_map f xs) ≡ true
any_flat test f [] x among is = absurd (nothing_in _ among)
any_flat test f (y ∷ xs) x among is =
    elim (first_or_rest _ _ _ among) [
      | inl same ↦ any_left test (f y) (flat_map f xs) (subst (λ z. list_any test (f z) ≡ true) (sym same) is)
      | inr among ↦ any_right test (f y) (flat_map f xs) (any_flat test f xs x among is)
    ]

-- a literal that is not so, or what follows from its being so
pub neg_or : (a rest : Bool) → (a ≡ true → rest ≡ true) → (not a || rest) ≡ true
neg_or true rest holds = holds refl
neg_or false rest holds = refl

pub or_here : (a rest : Bool) → a ≡ true → (a || rest) ≡ true
or_here a rest is = rw is refl
