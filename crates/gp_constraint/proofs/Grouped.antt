-- What a table has at each name after one value more.
use Rattle.std.proofs.Common.{◌≡◌, ℕ, ap, sym, ◌∙◌, inl, inr, List, [], ◌∷◌, ◌++◌, true, false, cond}
use Rattle.std.specs.Prelude.{Option, Some, None, if◌then◌else◌, unwrap_or}
use Rattle.std.specs.BTreeMap.{is_at}
use Rattle.std.specs.Cmp.Lexicographic.{slice_cmp}
use Rattle.std.specs.Ordering.{nat_cmp}
use Rattle.std.specs.Str.{bytes_eq}
use Rattle.std.proofs.lemmas.Bool.{cases_Bool}
use Rattle.std.proofs.lemmas.Map.Text.{is_eq-slice_cmp}
use Rattle.std.proofs.lemmas.Slice.Eq.{bytes_eq-Decides}
use Rattle.std.proofs.lemmas.List.{append-nil}

-- a list is taken out at the name, and put back with one value more at its end
pub grouped_more : {X : Type 0} (before between after : List ℕ → Option (List X)) (name : List ℕ) (row : List X) (value : X)
    → row ≡ unwrap_or (before name) []
    → ((other : List ℕ) → between other ≡ (if is_at (slice_cmp nat_cmp name) other then None else before other))
    → ((other : List ℕ) → after other ≡ cond (is_at (slice_cmp nat_cmp name) other) (Some (row ++ value ∷ [])) (between other))
    → (other : List ℕ) → unwrap_or (after other) [] ≡ unwrap_or (before other) [] ++ (if bytes_eq name other then value ∷ [] else [])
grouped_more before between after name row value is out back other =
    elim (cases_Bool (bytes_eq name other)) [
      | inl same ↦
          (let at : is_at (slice_cmp nat_cmp name) other ≡ true = is_eq-slice_cmp name other ∙ same in
          let names : name ≡ other = (bytes_eq-Decides name other).0 same in
          let has : row ≡ unwrap_or (before other) [] = is ∙ ap (λ n. unwrap_or (before n) []) names in
          let found : after other ≡ Some (row ++ value ∷ []) = back other ∙ ap (λ b. cond b (Some (row ++ value ∷ [])) (between other)) at in
          rw same (ap (λ o. unwrap_or o []) found ∙ ap (λ xs. xs ++ value ∷ []) has))
      | inr differ ↦
          (let off : is_at (slice_cmp nat_cmp name) other ≡ false = is_eq-slice_cmp name other ∙ differ in
          let found : after other ≡ between other = back other ∙ ap (λ b. cond b (Some (row ++ value ∷ [])) (between other)) off in
          let kept : between other ≡ before other = out other ∙ ap (λ b. cond b None (before other)) off in
          rw differ (ap (λ o. unwrap_or o []) (found ∙ kept) ∙ sym (append-nil (unwrap_or (before other) []))))
    ]
