-- Laws: two lists that go together so far.
use Rattle.std.proofs.Common.{◌≡◌, sym, ap, ◌∙◌, subst, ℕ, ◌+◌, ◌≤◌, List, [], ◌∷◌, ◌++◌, length, take, Some, None}
use Rattle.std.specs.List.{AllZip, slice_get}
use Rattle.std.proofs.lemmas.List.{take_more, take_all}
use Rattle.std.proofs.lemmas.Slice.Zip.{all_zipped_more}
use Rattle.std.proofs.lemmas.Option.{get_or_from_slice_get, slice_get_within}
use Rattle.gp_checker.specs.First.{FailsFirst, FailsHere}

module _ {A B : Type 0} (Accepts : A → B → Type 0) (ones : List A) (others : List B) (place : ℕ) where
  taken : {X : Type 0} (xs : List X) (x : X) → slice_get xs place ≡ Some x → take (place + 1) xs ≡ take place xs ++ x ∷ []
  taken xs x got =
      take_more xs place x (slice_get_within xs place x got) ∙ ap (λ y. take place xs ++ y ∷ []) (get_or_from_slice_get xs place x x got)

  -- one pair more is accepted
  pub accepted_more : (one : A) (other : B) → slice_get ones place ≡ Some one → slice_get others place ≡ Some other → Accepts one other
      → AllZip Accepts (take place ones) (take place others) → AllZip Accepts (take (place + 1) ones) (take (place + 1) others)
  accepted_more one other first second accepts before =
      subst (λ xs. AllZip Accepts xs (take (place + 1) others)) (sym (taken ones one first))
      (subst (λ ys. AllZip Accepts (take place ones ++ one ∷ []) ys) (sym (taken others other second))
      (all_zipped_more Accepts (take place ones) (take place others) one other before accepts))

  -- all pairs are
  pub accepted_all : length ones ≤ place → length others ≤ place → AllZip Accepts (take place ones) (take place others) → AllZip Accepts ones others
  accepted_all first second before =
      subst (λ xs. AllZip Accepts xs others) (take_all place ones first) (subst (λ ys. AllZip Accepts (take place ones) ys) (take_all place others second) before)

  -- a pair fails
  pub fails_pair : (Fails : A → B → Type 0) (Lacks : Type 0) (one : A) (other : B) → slice_get ones place ≡ Some one → slice_get others place ≡ Some other
      → Fails one other → AllZip Accepts (take place ones) (take place others) → FailsFirst Accepts Fails Lacks ones others place
  fails_pair Fails Lacks one other first second fails before = record {
    before = before;
    here = subst (λ o. FailsHere Fails Lacks o (slice_get others place)) (sym first) (subst (λ o. FailsHere Fails Lacks (Some one) o) (sym second) fails);
  }

  -- the second list lacks something
  pub lacks_second : (Fails : A → B → Type 0) (Lacks : Type 0) (one : A) → slice_get ones place ≡ Some one → slice_get others place ≡ None → Lacks
      → AllZip Accepts (take place ones) (take place others) → FailsFirst Accepts Fails Lacks ones others place
  lacks_second Fails Lacks one first second lacks before = record {
    before = before;
    here = subst (λ o. FailsHere Fails Lacks o (slice_get others place)) (sym first) (subst (λ o. FailsHere Fails Lacks (Some one) o) (sym second) lacks);
  }

  -- the first list does
  pub lacks_first : (Fails : A → B → Type 0) (Lacks : Type 0) (other : B) → slice_get ones place ≡ None → slice_get others place ≡ Some other → Lacks
      → AllZip Accepts (take place ones) (take place others) → FailsFirst Accepts Fails Lacks ones others place
  lacks_first Fails Lacks other first second lacks before = record {
    before = before;
    here = subst (λ o. FailsHere Fails Lacks o (slice_get others place)) (sym first) (subst (λ o. FailsHere Fails Lacks None o) (sym second) lacks);
  }
