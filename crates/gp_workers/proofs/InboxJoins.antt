-- The passes of all workers, joined by inbox, and what is left of each inbox taken.
use Rattle.std.proofs.Common.{◌≡◌, sym, ◌∙◌, ap, subst, ℕ, ◌+◌, ◌<◌, ◌≤◌, ◌⊎◌, inl, inr, Option, Some, List, [], ◌∷◌, ◌++◌, length, slice_set, get_or, arith}
use Rattle.std.specs.Global.{Vec}
use Rattle.std.specs.List.{slice_get}
use Rattle.std.proofs.lemmas.List.{length-set, length_push}
use Rattle.std.proofs.lemmas.Option.{same_Some, slice_get_within}
use Rattle.crossbeam_queue.specs.Passes.{Pass, view}
use Rattle.gp_derivation.specs.declared.exchange.SharedClause.{SharedClause}
use Rattle.gp_inbox.specs.declared.inbox.Inbox.{Inbox}
use Rattle.gp_inbox.specs.declared.rule.View.{View}
use Rattle.gp_inbox.specs.Passes.{IsOf}
use Rattle.gp_inbox.specs.Views.{joined as joined_view}
use Rattle.gp_workers.specs.Inboxes.{all_joined, AreRows, IsOfEach, joined_by}
use Rattle.gp_workers.specs.SharedCrew.{JoinsAt}
use Rattle.gp_workers.proofs.InboxPlaces.{done_above, popped, set_cases}
use Rattle.gp_workers.proofs.DeskPasses.{got_at}

-- a pass took some more since it knew something
abbrev pub TookMore : View → View → Type 0
TookMore first now = (more : List SharedClause) × (now ≡ record first { taken = first.taken ++ more })

-- one of the passes changes
pub each_set : (inboxes : List Inbox) (passes new : List (Pass SharedClause View)) (place : ℕ) (inbox : Inbox) (pass : Pass SharedClause View) → IsOfEach inboxes passes → new ≡ slice_set passes place pass
    → slice_get inboxes place ≡ Some inbox → IsOf inbox pass → IsOfEach inboxes new
each_set inboxes passes new place inbox pass of is there own = record {
  len = ap (λ (ps : List (Pass SharedClause View)). length ps) is ∙ length-set passes place pass ∙ of.len;
  each = λ other one seen got_inbox got_pass. at other one seen got_inbox (set_cases passes new place pass is (omega (arith, slice_get_within inboxes place inbox there, of.len)) other seen got_pass);
}
  where
    at : (other : ℕ) (one : Inbox) (seen : Pass SharedClause View) → slice_get inboxes other ≡ Some one → ((other ≡ place) × (pass ≡ seen)) ⊎ ((other ≡ place → ⊥) × (slice_get passes other ≡ Some seen)) → IsOf one seen
    at other one seen got_inbox (inl same) =
        let inbox_is : inbox ≡ one = same_Some inbox one (sym there ∙ ap (λ (n : ℕ). slice_get inboxes n) (sym same.0) ∙ got_inbox) in
        subst (λ (p : Inbox × Pass SharedClause View). IsOf p.0 p.1) (λ i. (inbox_is i, same.1 i)) own
    at other one seen got_inbox (inr apart) = of.each other one seen got_inbox apart.1

-- the passes of some workers are joined, and those that are left lead to the same as all
abbrev pub JoinsSome : List (Vec (Pass SharedClause View)) → List (Pass SharedClause View) → List (Vec (Pass SharedClause View)) → Type 0
JoinsSome [] joined left = ⊥
JoinsSome (first ∷ rows) joined left = (place : ℕ) (pass : Pass SharedClause View) → slice_get joined place ≡ Some pass
    → (one : Pass SharedClause View) × (slice_get first.items place ≡ Some one) × (all_joined (view pass) place left ≡ all_joined (view one) place rows)

-- then those of one more are joined
pub joins_more : (all left rest : List (Vec (Pass SharedClause View))) (row : Vec (Pass SharedClause View)) (joined new : List (Pass SharedClause View)) → JoinsSome all joined left → left ≡ row ∷ rest
    → ((place : ℕ) (pass : Pass SharedClause View) → slice_get new place ≡ Some pass → JoinsAt joined row.items place pass) → JoinsSome all new rest
joins_more [] left rest row joined new some is each = some
joins_more (first ∷ rows) left rest row joined new some is each = λ place pass got.
    let here = each place pass got in
    let before = some place here.one here.is_one in (
      before.0,
      before.1,
      ap (λ (seen : View). all_joined seen place rest) (here.both ∙ ap (λ (o : Option (Pass SharedClause View)). joined_by (view here.one) o) (sym here.is_other))
          ∙ ap (λ (rs : List (Vec (Pass SharedClause View))). all_joined (view here.one) place rs) (sym is) ∙ before.2,
    )

-- the first of some rows, and the others
pub next_row : (inboxes : List Inbox) (rows rest : List (Vec (Pass SharedClause View))) (row : Vec (Pass SharedClause View)) → AreRows inboxes rows → rows ≡ row ∷ rest → IsOfEach inboxes row.items × AreRows inboxes rest
next_row inboxes rows rest row are is = subst (AreRows inboxes) is are

-- the last pass that is left of one worker, beside the joined pass of the same inbox
module _ (inboxes : List Inbox) (old joined all left rest : List (Pass SharedClause View)) (place : ℕ) (inbox : Inbox) (one other : Pass SharedClause View) (is : left ≡ rest ++ other ∷ []) (at : place ≡ length rest)
    (few : length left ≤ length inboxes) (own : IsOfEach inboxes joined) (same : (n : ℕ) → n < length left → slice_get left n ≡ slice_get all n) (early : (n : ℕ) → n < length left → slice_get joined n ≡ slice_get old n)
    (is_inbox : inbox ≡ get_or inboxes place inbox) (is_one : one ≡ get_or joined place one) where
  longer : length left ≡ length rest + 1
  longer = ap (λ (ps : List (Pass SharedClause View)). length ps) is ∙ length_push rest other

  got_inbox : slice_get inboxes place ≡ Some inbox
  got_inbox = got_at inboxes place inbox (omega (arith, at, few, longer)) is_inbox

  got_one : slice_get joined place ≡ Some one
  got_one = got_at joined place one (omega (arith, at, few, longer, own.len)) is_one

  next : (slice_get all (length rest) ≡ Some other) × ((n : ℕ) → n < length rest → slice_get rest n ≡ slice_get all n)
  next = popped all left rest other is same

  got_other_pass : slice_get all place ≡ Some other
  got_other_pass = ap (λ (n : ℕ). slice_get all n) at ∙ next.0

  pub into_own : IsOf inbox one
  into_own = own.each place inbox one got_inbox got_one

  pub other_own : IsOfEach inboxes all → IsOf inbox other
  other_own each = each.each place inbox other got_inbox got_other_pass

  -- then it is joined
  pub joined_more : (now : Pass SharedClause View) (new : List (Pass SharedClause View)) → new ≡ slice_set joined place now → ((n : ℕ) (pass : Pass SharedClause View) → length left ≤ n → slice_get joined n ≡ Some pass → JoinsAt old all n pass)
      → IsOf inbox now → view now ≡ joined_view (view one) (view other)
      → IsOfEach inboxes new × (length rest ≤ length inboxes) × ((n : ℕ) → n < length rest → slice_get rest n ≡ slice_get all n) × ((n : ℕ) → n < length rest → slice_get new n ≡ slice_get old n)
      × ((n : ℕ) (pass : Pass SharedClause View) → length rest ≤ n → slice_get new n ≡ Some pass → JoinsAt old all n pass)
  joined_more now new set late its both =
      let done = done_above (JoinsAt old all) old joined new place now (omega (arith, at, few, longer, own.len)) set (λ n pass high. late n pass (omega (arith, high, at, longer))) (λ n low. early n (omega (arith, low, at, longer)))
      (record { one = one; other = other; is_one = sym (early place (omega (arith, at, longer))) ∙ got_one; is_other = got_other_pass; both = both }) in (
        each_set inboxes joined new place inbox now own set got_inbox its,
        omega (arith, longer, few),
        next.1,
        (λ n low. done.1 n (omega (arith, low, at))),
        (λ n pass high. done.0 n pass (omega (arith, high, at))),
      )
