-- How far the windows of a report are compacted.
use Rattle.std.proofs.Common.{◌≡◌, refl, ap, sym, ◌∙◌, ℕ, suc, ◌+◌, List, [], ◌∷◌, ◌++◌, length, drop, arith}
use Rattle.std.proofs.lemmas.List.{drop-drop, length_push}
use Rattle.gp_report.specs.Records.{WindowRecord}
use Rattle.gp_window.specs.WindowForm.{WindowForm}
use Rattle.gp_compact.specs.Compact.{compacted_next, compacted_windows}

-- what was made of these records, and which windows are left
pub record AreMade (all : List WindowForm) (records : List WindowRecord) (windows : List WindowForm) (made : List WindowRecord) : Type 0 where
  pub are : made ≡ compacted_windows all records
  pub left : windows ≡ drop (length records) all

drop_next : (windows : List WindowForm) (n : ℕ) → drop n (drop 1 windows) ≡ drop (suc n) windows
drop_next windows n = let count : 1 + n ≡ suc n = omega arith in drop-drop n 1 windows ∙ ap (λ k. drop k windows) count

compacted_more : (all : List WindowForm) (records : List WindowRecord) (told : WindowRecord)
    → compacted_windows all (records ++ told ∷ []) ≡ compacted_windows all records ++ compacted_next (drop (length records) all) told ∷ []
compacted_more all [] told = refl
compacted_more all (one ∷ records) told =
    ap (λ more. compacted_next all one ∷ more)
    (compacted_more (drop 1 all) records told
    ∙ ap (λ windows. compacted_windows (drop 1 all) records ++ compacted_next windows told ∷ []) (drop_next all (length records)))

-- one more is made
pub one_made : (all windows next : List WindowForm) (records made after : List WindowRecord) (told new : WindowRecord) → AreMade all records windows made → new ≡ compacted_next windows told → next ≡ drop 1 windows
    → after ≡ made ++ new ∷ [] → AreMade all (records ++ told ∷ []) next after
one_made all windows next records made after told new before is passed adds =
    let count : length records + 1 ≡ length (records ++ told ∷ []) = omega (arith, length_push records told) in
    record {
      are = adds ∙ (λ i. before.are i ++ (is ∙ ap (λ ws. compacted_next ws told) before.left) i ∷ []) ∙ sym (compacted_more all records told);
      left = passed ∙ ap (drop 1) before.left ∙ drop-drop 1 (length records) all ∙ ap (λ n. drop n all) count;
    }
