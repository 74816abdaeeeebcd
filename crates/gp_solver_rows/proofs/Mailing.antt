-- What a mail in memory tells after a take.
use Rattle.std.proofs.Common.{◌≡◌, ◌∙◌, refl, sym, ap, subst, ℕ, ◌+◌, ◌-◌, ◌<◌, List, [], ◌∷◌, ◌++◌, length, take, drop, get_or, Option, None, Some, All, MatchOption, arith}
use Rattle.std.specs.Option.{option_to_list}
use Rattle.std.proofs.lemmas.List.{length-drop, drop_more, take_more}
use Rattle.std.proofs.lemmas.List.Elements.{All-tail}
use Rattle.gp_clause.specs.declared.lit.Lit.{Lit}
use Rattle.gp_derivation.specs.declared.exchange.SharedClause.{SharedClause}
use Rattle.gp_search.specs.Mail.{Gives, MailForm}
use Rattle.gp_base.specs.Counts.{one_more}

-- what is left of a list after some of it was given, where one value more is given
record Next {X : Type 0} (all rest : List X) (x : X) (before after : ℕ) : Type 0 where
  within : before < length all
  here : get_or all before x ≡ x
  next : after ≡ before + 1
  left : rest ≡ drop after all

next_of : {X : Type 0} (all waiting rest : List X) (x : X) → waiting ≡ drop (length all - length waiting) all → waiting ≡ x ∷ rest
    → Next all rest x (length all - length waiting) (length all - length rest)
next_of all waiting rest x left is =
    let before : ℕ = length all - length waiting in
    let counted : length waiting ≡ length (x ∷ rest) = ap length is in
    let long : length waiting ≡ length all - before = ap length left ∙ length-drop before all in
    let within : before < length all = omega (arith, counted, long) in
    let next : length all - length rest ≡ before + 1 = omega (arith, counted, long) in
    let both : x ∷ rest ≡ get_or all before x ∷ drop (before + 1) all = sym is ∙ left ∙ drop_more all before x within in record {
      within = within;
      here = sym (ap (λ (xs : List _). get_or xs 0 x) both);
      next = next;
      left = ap (drop 1) both ∙ ap (λ n. drop n all) (sym next);
    }

-- what is left is the end of what is given in all
rest_left : {X : Type 0} (all waiting rest : List X) (result : Option X) → waiting ≡ drop (length all - length waiting) all → waiting ≡ option_to_list result ++ rest
    → rest ≡ drop (length all - length rest) all
rest_left all waiting rest None left is = subst (λ (xs : List _). xs ≡ drop (length all - length xs) all) is left
rest_left all waiting rest (Some x) left is = (next_of all waiting rest x left is).left

all_left : {X : Type 0} (P : X → Type 0) (waiting rest : List X) (result : Option X) → All P waiting → waiting ≡ option_to_list result ++ rest → All P rest
all_left P waiting rest None each is = subst (All P) is each
all_left P waiting rest (Some x) each is = All-tail P x rest (subst (All P) is each)

pub keeps : {X : Type 0} (P : X → Type 0) (all waiting rest : List X) (result : Option X)
    → (waiting ≡ drop (length all - length waiting) all) × All P waiting → waiting ≡ option_to_list result ++ rest
    → (rest ≡ drop (length all - length rest) all) × All P rest
keeps P all waiting rest result before is = (rest_left all waiting rest result before.0 is, all_left P waiting rest result before.1 is)

-- what a mail tells that has so much left to give
abbrev pub tells : List SharedClause → List SharedClause → List (ℕ × List Lit) → ℕ → MailForm
tells all waiting offered empty = record { gave = take (length all - length waiting) all; offered = offered; empty = empty }

pub gives : (all waiting rest : List SharedClause) (offered : List (ℕ × List Lit)) (empty after : ℕ) (result : Option SharedClause)
    → waiting ≡ drop (length all - length waiting) all → waiting ≡ option_to_list result ++ rest → MatchOption result (after ≡ one_more empty) (λ _. after ≡ empty)
    → Gives (Some (tells all waiting offered empty)) (Some (tells all rest offered after)) result
gives all waiting rest offered empty after None left is counted = λ i. Some (tells all (sym is i) offered (counted i))
gives all waiting rest offered empty after (Some x) left is counted =
    let next = next_of all waiting rest x left is in
    let gave : take (length all - length rest) all ≡ take (length all - length waiting) all ++ x ∷ [] =
    ap (λ n. take n all) next.next ∙ take_more all (length all - length waiting) x next.within
    ∙ ap (λ (y : SharedClause). take (length all - length waiting) all ++ y ∷ []) next.here in
    λ i. Some (record { gave = gave i; offered = offered; empty = counted i })
