-- All lists of up to so many elements, and filters of them.
use Rattle.std.proofs.Common.{ℕ, zero, suc, ◌≡◌, ◌≤◌, refl, ap, sym, ◌∙◌, subst, Bool, true, false, List, [], ◌∷◌, ◌++◌, cond, map, length, arith}
use Rattle.std.specs.Prelude.{◌&&◌, Contains, filter}
use Rattle.std.specs.List.{AllByRecursion, flat_map}
use Rattle.std.proofs.lemmas.Bool.{false≢true}
use Rattle.gp_base.specs.FilterLaws.{filter_begun, flat_map_agree}
use Rattle.gp_base.specs.ListLaws.{contains_flat_map, contains_map, here, recursion_at, recursion_flat_map, recursion_map, there}
use Rattle.gp_window.specs.declared.schedule.EventId.{EventId}
use Rattle.gp_window.specs.Ids.{IsLess}
use Rattle.gp_instance.specs.IdsLaws.{begun_ordered}
use Rattle.gp_instance.specs.Listed.{IsBefore}
use Rattle.gp_base.specs.ListLaws.{Pairwise, recursion_from_each, contains_from_flat_map, contains_from_map}
use Rattle.gp_stuck.specs.Cycles.{lists_up_to}

filter_all : {A : Type 0} (xs : List A) → filter (λ x. true) xs ≡ xs
filter_all [] = refl
filter_all (x ∷ xs) = ap (λ rest. x ∷ rest) (filter_all xs)

-- a list that may pass, before the others
pub first_apart : {A : Type 0} (b : Bool) (one : A) (rest : List A) → cond b (one ∷ rest) rest ≡ cond b (one ∷ []) [] ++ rest
first_apart true one rest = refl
first_apart false one rest = refl

-- two filters that agree at each element of the list
pub filter_same : {A : Type 0} (p q : A → Bool) (xs : List A) → AllByRecursion (λ x. p x ≡ q x) xs → filter p xs ≡ filter q xs
filter_same p q [] same = refl
filter_same p q (x ∷ xs) same =
    ap (λ b. cond b (x ∷ filter p xs) (filter p xs)) same.0 ∙ ap (λ rest. cond (q x) (x ∷ rest) rest) (filter_same p q xs same.1)

-- lists of up to so many elements have no more
pub all_short : {A : Type 0} (n : ℕ) (xs : List A) → AllByRecursion (λ list. length list ≤ n) (lists_up_to n xs)
all_short zero xs = (omega arith, tt)
all_short {A} (suc n) xs =
    let P : List A → Type 0 = λ list. length list ≤ suc n in (
      omega arith,
      recursion_flat_map P (λ x. map (λ rest. x ∷ rest) (lists_up_to n xs)) xs (λ x i. recursion_map P (λ rest. x ∷ rest) (lists_up_to n xs) (λ rest j.
          let short = recursion_at (λ list. length list ≤ n) (lists_up_to n xs) rest (all_short n xs) j in omega (arith, short))),
    )

-- each list of no more of these elements is one of them
pub short_listed : {A : Type 0} (n : ℕ) (xs list : List A) → length list ≤ n → AllByRecursion (Contains xs) list → Contains (lists_up_to n xs) list
short_listed zero xs [] short all = here [] []
short_listed zero xs (x ∷ list) short all = absurd (omega (arith, short))
short_listed (suc n) xs [] short all = here [] _
short_listed (suc n) xs (x ∷ list) short all =
    there [] _ (x ∷ list) (contains_flat_map (λ first. map (λ rest. first ∷ rest) (lists_up_to n xs)) xs x (x ∷ list) all.0
    (contains_map (λ rest. x ∷ rest) (lists_up_to n xs) list (short_listed n xs list (omega (arith, short)) all.1)))

-- a test that each element has to pass
pass_first : (p t : Bool) → (t ≡ true → p ≡ true) → t ≡ (p && t)
pass_first true t own = refl
pass_first false true own = absurd (false≢true (own refl))
pass_first false false own = refl

-- what passes is among the lists of those elements that pass, where each element of a list that passes does
pub narrowed_lists : {A : Type 0} (p : A → Bool) (n : ℕ) (xs : List A) (test : List A → Bool) → ((list : List A) → test list ≡ true → AllByRecursion (λ x. p x ≡ true) list)
    → filter test (lists_up_to n (filter p xs)) ≡ filter test (lists_up_to n xs)
narrowed_lists p zero xs test own = refl
narrowed_lists {A} p (suc n) xs test own =
    let few : List A = filter p xs in
    ap (λ rest. cond (test []) ([] ∷ rest) rest)
    (filter_begun test (λ x. true) (λ x rest. test (x ∷ rest)) few (lists_up_to n few) (λ x rest. refl)
    ∙ ap (flat_map (λ x. map (λ rest. x ∷ rest) (filter (λ rest. test (x ∷ rest)) (lists_up_to n few)))) (filter_all few)
    ∙ flat_map_agree (λ x. map (λ rest. x ∷ rest) (filter (λ rest. test (x ∷ rest)) (lists_up_to n few))) (λ x. map (λ rest. x ∷ rest) (filter (λ rest. test (x ∷ rest)) (lists_up_to n xs)))
    (λ x. ap (map (λ rest. x ∷ rest)) (narrowed_lists p n xs (λ rest. test (x ∷ rest)) (λ rest e. (own (x ∷ rest) e).1))) few
    ∙ sym (filter_begun test p (λ x rest. test (x ∷ rest)) xs (lists_up_to n xs) (λ x rest. pass_first (p x) (test (x ∷ rest)) (λ e. (own (x ∷ rest) e).0))))

-- all lists of up to so many events in order are in order
pub lists_ordered : (n : ℕ) (ids : List EventId) → Pairwise IsLess ids → Pairwise IsBefore (lists_up_to n ids)
lists_ordered zero ids ordered = (tt, tt)
lists_ordered (suc n) ids ordered = (
  recursion_from_each (IsBefore []) (flat_map (λ id. map (λ rest. id ∷ rest) (lists_up_to n ids)) ids)
      (λ list i.
      let at = contains_from_flat_map (λ id. map (λ rest. id ∷ rest) (lists_up_to n ids)) ids list i in
      let longer = contains_from_map (λ rest. at.0 ∷ rest) (lists_up_to n ids) list at.2 in
      subst (IsBefore []) longer.2 tt),
  begun_ordered ids (lists_up_to n ids) ordered (lists_ordered n ids ordered),
)
