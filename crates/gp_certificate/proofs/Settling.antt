-- An assignment without a value.
use Rattle.std.proofs.Common.{Vec, Global, ◌≡◌, ℕ, ◌<◌, ◌≤◌, Bool, Option, None, Some, List, [], ◌++◌, length, take, get_or, replicate, vec_capacity, All, Contains, ◌⊎◌, inl, inr, refl, ap, sym, ◌∙◌, subst, arith, true}
use Rattle.std.proofs.lemmas.Bool.{cases_lt}
use Rattle.std.proofs.lemmas.List.{get_or_past, get_or_default}
use Rattle.std.proofs.lemmas.List.Elements.{All-nil, All-append, All-take, All-replicate}
use Rattle.std.specs.Option.{is_none}
use Rattle.gp_clause.specs.declared.lit.Lit.{Lit}
use Rattle.gp_clause.specs.Clause.{NamesOnce}
use Rattle.gp_clause.specs.Closure.{IsTrueIn}
use Rattle.gp_base.specs.CountLaws.{count_all}
use Rattle.gp_certificate.specs.declared.assignment.Assignment.{Assignment}
use Rattle.gp_certificate.specs.Assignment.{value_of, unassigned, IsKept}
use Rattle.gp_certificate.proofs.Standing.{some_clash}

-- where no variable has a value, all are unassigned
all_unassigned : (values : List (Option Bool)) → ((variable : ℕ) (sign : Bool) → value_of values variable ≡ Some sign → ⊥) → unassigned values ≡ length values
all_unassigned values none = count_all is_none values each
  where
    each : (value : Option Bool) → Contains values value → is_none value ≡ true
    each None at = refl
    each (Some sign) (k, within, is) = absurd (none k sign (get_or_default values k None (Some sign) within ∙ is))

pub none_kept : (assignment : Assignment) → ((variable : ℕ) (sign : Bool) → value_of assignment.values.items variable ≡ Some sign → ⊥) → assignment.trail.items ≡ []
    → length assignment.values.items ≤ vec_capacity assignment.trail → IsKept assignment
none_kept assignment none trail room = record {
  room = room;
  count = omega (arith, all_unassigned assignment.values.items none, ap (λ (ls : List Lit). length ls) trail);
  trailed = λ lit holds. absurd (none lit.variable lit.positive holds);
  noted = let P : List Lit → Type 0 = λ ls. All (IsTrueIn (value_of assignment.values.items)) ls in subst P (sym trail) (All-nil (IsTrueIn (value_of assignment.values.items)));
  once = subst NamesOnce (sym trail) (λ variable. omega arith);
}

-- no variable has a value when none is true
all_none : (assignment : Assignment) → IsKept assignment → assignment.trail.items ≡ [] → All (λ (o : Option Bool). o ≡ None) assignment.values.items
all_none assignment kept none k d within = at (get_or assignment.values.items k d) refl
  where
    at : (o : Option Bool) → get_or assignment.values.items k d ≡ o → get_or assignment.values.items k d ≡ None
    at None is = is
    at (Some sign) is =
        let lit : Lit = record { variable = k; positive = sign } in
        let holds : IsTrueIn (value_of assignment.values.items) lit = get_or_default assignment.values.items k None d within ∙ is in
        let Q : List Lit → Type 0 = λ lits. Contains lits lit in
        let nowhere : Contains [] lit = subst Q none (kept.trailed lit holds) in
        let length_nil : nowhere.0 < 0 = nowhere.1 in
        absurd (omega arith)

-- an assignment without a value that is cut or filled up
pub resized : (old new : Assignment) (n m : ℕ) → IsKept old → old.trail.items ≡ [] → new.values.items ≡ take n old.values.items ++ replicate m None → length new.values.items ≡ n
    → new.trail ≡ old.trail → n ≤ vec_capacity old.trail → IsKept new
resized old new n m kept none values size trail room =
    let P : List (Option Bool) → Type 0 = λ vs. All (λ (o : Option Bool). o ≡ None) vs in
    let all : All (λ (o : Option Bool). o ≡ None) new.values.items =
    subst P (sym values) (All-append (λ (o : Option Bool). o ≡ None) (take n old.values.items) (replicate m None) (All-take (λ (o : Option Bool). o ≡ None) n old.values.items (all_none old kept none))
    (All-replicate (λ (o : Option Bool). o ≡ None) m None refl)) in
    let same : vec_capacity new.trail ≡ vec_capacity old.trail = ap (λ (v : Vec Lit Global). vec_capacity v) trail in
    none_kept new (no_value new.values.items all) (ap (λ (v : Vec Lit Global). v.items) trail ∙ none) (omega (arith, room, size, same))
  where
    no_value : (values : List (Option Bool)) → All (λ (o : Option Bool). o ≡ None) values → (variable : ℕ) (sign : Bool) → value_of values variable ≡ Some sign → ⊥
    no_value values all variable sign has = at (cases_lt variable (length values))
      where
        at : (variable < length values) ⊎ (length values ≤ variable) → ⊥
        at (inl within) = some_clash _ sign has (all variable None within)
        at (inr past) = some_clash _ sign has (get_or_past values variable None past)

-- an assignment with more room
pub kept_same : (old new : Assignment) → IsKept old → new.values.items ≡ old.values.items → new.trail.items ≡ old.trail.items → vec_capacity old.trail ≤ vec_capacity new.trail → IsKept new
kept_same old new kept values trail more = record {
  room = omega (arith, kept.room, more, ap (λ (vs : List (Option Bool)). length vs) values);
  count = omega (arith, kept.count, ap (λ vs. unassigned vs) values, ap (λ (vs : List (Option Bool)). length vs) values, ap (λ (ls : List Lit). length ls) trail);
  trailed = λ lit holds. subst (λ ls. Contains ls lit) (sym trail) (kept.trailed lit (ap (λ vs. value_of vs lit.variable) (sym values) ∙ holds));
  noted = subst (λ ls. All (IsTrueIn (value_of new.values.items)) ls) (sym trail) (subst (λ vs. All (IsTrueIn (value_of vs)) old.trail.items) (sym values) kept.noted);
  once = subst NamesOnce (sym trail) kept.once;
}
