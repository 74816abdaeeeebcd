-- Folders that fit together, in the order of their parts, have all parts of the recording, one behind the other.
use Rattle.std.proofs.Common.{◌≡◌, refl, sym, ap, subst, ◌∙◌, ℕ, zero, suc, ◌+◌, ◌-◌, ◌≤◌, List, [], ◌∷◌, map, eqb-true, zero-add, arith}
use Rattle.std.specs.Prelude.{All, Option, None, Some, Result, Ok, Err, find}
use Rattle.std.specs.List.{range_with_len}
use Rattle.std.proofs.lemmas.List.Elements.{All-contains}
use Rattle.gp_base.specs.ListLaws.{contains_found}
use Rattle.gp_base.specs.Results.{or_refusal, then_rest}
use Rattle.gp_cut.specs.declared.parting.Part.{Part}
use Rattle.gp_cut.specs.Parts.{PartsAreWhole, part_of, weights_of, windows_to}
use Rattle.gp_merge.specs.declared.merging.PartReport.{PartReport}
use Rattle.gp_merge.specs.Merge.{AreInRow}
use Rattle.gp_predict.specs.declared.reply.Reply.{Reply}
use Rattle.gp_window.specs.RecordingForm.{RecordingForm}
use Rattle.gp_shards.specs.Folders.{IsOfParts}
use Rattle.gp_shards.specs.Merging.{in_order, is_of_part, windows_in}
use Rattle.gp_shards.specs.PartFolders.{PartFolderForm}
use Rattle.gp_shards.specs.Refusing.{missing}

-- the windows in a folder
abbrev windows_of : PartFolderForm → Part
windows_of folder = windows_in folder.shard

module _ (r : RecordingForm) (parts : ℕ) (folders : List PartFolderForm) (each : All (IsOfParts r parts) folders) where
  -- the windows of the part of this number
  abbrev windows_at : ℕ → Part
  windows_at part = part_of part parts (weights_of r)

  -- a folder that was found for a part has its windows
  found_windows : (part : ℕ) (folder : PartFolderForm) → find (is_of_part part) folders ≡ Some folder → windows_of folder ≡ windows_at part
  found_windows part folder is =
      let found = contains_found (is_of_part part) folders folder is in
      let fits = All-contains (IsOfParts r parts) folders folder each found.0 in
      let number : folder.shard.part ≡ part = eqb-true folder.shard.part part found.1 in
      ap windows_in fits.windows ∙ ap windows_at number

  order_step : (part more : ℕ) (found : Option PartFolderForm) (rest : Result (List PartFolderForm) Reply) (ordered : List PartFolderForm) → find (is_of_part part) folders ≡ found
      → ((others : List PartFolderForm) → rest ≡ Ok others → map windows_of others ≡ map windows_at (range_with_len (part + 1) more))
      → then_rest (or_refusal (missing part) found) rest ≡ Ok ordered → map windows_of ordered ≡ map windows_at (range_with_len part (suc more))
  order_step part more None rest ordered is left came = absurd (cc)
  order_step part more (Some folder) (Err refusal) ordered is left came = absurd (cc)
  order_step part more (Some folder) (Ok others) ordered is left came =
      let whole : folder ∷ others ≡ ordered = cc in
      ap (map windows_of) (sym whole) ∙ ap (λ (windows : Part). windows ∷ map windows_of others) (found_windows part folder is) ∙ ap (λ (rest : List Part). windows_at part ∷ rest) (left others refl)

  -- in their order they have the windows of all parts
  pub ordered_windows : (part more : ℕ) (ordered : List PartFolderForm) → in_order folders part more ≡ Ok ordered
      → map windows_of ordered ≡ map windows_at (range_with_len part more)
  ordered_windows part zero ordered came = let none : [] ≡ ordered = cc in ap (map windows_of) (sym none)
  ordered_windows part (suc more) ordered came =
      order_step part more (find (is_of_part part) folders) (in_order folders (part + 1) more) ordered refl (ordered_windows (part + 1) more) came

module _ (whole : PartsAreWhole) (r : RecordingForm) (parts : ℕ) where
  -- how many windows are before the part behind so many
  abbrev before_part : ℕ → ℕ
  before_part number = windows_to number parts (weights_of r)

  part_first : (number : ℕ) → (part_of (number + 1) parts (weights_of r)).before ≡ before_part number
  part_first number = let same : number + 1 - 1 ≡ number = omega arith in ap before_part same

  part_last : (number : ℕ) → before_part number + (part_of (number + 1) parts (weights_of r)).count ≡ before_part (number + 1)
  part_last number =
      let rises = whole.rises number parts (weights_of r) in
      let first = part_first number in
      omega (arith, rises, first)

  row_from : (number more : ℕ) (told : List PartReport) → map (λ (one : PartReport). one.part) told ≡ map (λ part. part_of part parts (weights_of r)) (range_with_len (number + 1) more)
      → AreInRow (before_part number) told (before_part (number + more))
  row_from number zero [] is = let same : number ≡ number + 0 = omega arith in ap before_part same
  row_from number zero (one ∷ told) is = absurd (cc)
  row_from number (suc more) [] is = absurd (cc)
  row_from number (suc more) (one ∷ told) is =
      let first : one.part ≡ part_of (number + 1) parts (weights_of r) = cc in
      let rest : map (λ (one : PartReport). one.part) told ≡ map (λ part. part_of part parts (weights_of r)) (range_with_len (number + 1 + 1) more) = cc in
      let next : before_part number + one.part.count ≡ before_part (number + 1) = ap (λ (part : Part). before_part number + part.count) first ∙ part_last number in
      let end : number + 1 + more ≡ number + suc more = omega arith in (
        ap (λ (part : Part). part.before) first ∙ part_first number,
        subst (λ before. AreInRow before told (before_part (number + suc more))) (sym next)
            (subst (λ last. AreInRow (before_part (number + 1)) told (before_part last)) end (row_from (number + 1) more told rest)),
      )

  -- the reports of all parts, in order, are in a row
  pub all_in_row : (told : List PartReport) → 1 ≤ parts → map (λ (one : PartReport). one.part) told ≡ map (λ part. part_of part parts (weights_of r)) (range_with_len 1 parts)
      → AreInRow 0 told r.manifest.epochs
  all_in_row told some is =
      let all : before_part (0 + parts) ≡ r.manifest.epochs = ap before_part (zero-add parts) ∙ whole.ends parts r some in
      subst (λ last. AreInRow 0 told last) all (subst (λ before. AreInRow before told (before_part (0 + parts))) (whole.begins parts (weights_of r)) (row_from 0 parts told is))
