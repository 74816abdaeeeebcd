-- The reports in the folders of all parts are those of all parts.
use Rattle.std.proofs.Common.{◌≡◌, List, Ok, subst, arith}
use Rattle.gp_shards.specs.Folders.{AreReportsOf}
use Rattle.gp_shards.specs.Merging.{all_in_order}
use Rattle.gp_shards.specs.PartFolders.{PartFolderForm}
use Rattle.gp_shards.proofs.Fitting.{some_parts}
use Rattle.gp_shards.proofs.Merged.{all_parts}
use Rattle.gp_shards.proofs.merging.parts_in.Goals as goal

pub returns-in-Ok-clause-parts : goal.returns-in-Ok-clause-parts
returns-in-Ok-clause-parts g c =
    let r = c.args.recording.now in
    let folders = c.in_ok-folders.folders in
    let ordered = c.in_ok-ordered.ordered in
    let some = some_parts r folders c.in_ok-folders.ensures.parts (omega (arith, c.in_ok-folders.ensures.count, c.requires)) in
    let came = subst (λ (read : List PartFolderForm). all_in_order read ≡ Ok ordered) c.as_slice.ensures c.in_ok-ordered.ensures.given in
    all_parts c.parts_are_whole.ensures r folders ordered c.in-Ok.parts c.in_ok-folders.ensures.parts some came
    (subst (λ (read : List PartFolderForm). AreReportsOf read c.in-Ok.parts) c.as_slice-2.ensures c.in-Ok.ensures.reports)
