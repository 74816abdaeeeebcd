-- One folder more goes from what is left to what was read.
use Rattle.std.proofs.Common.{List, ◌∷◌, [], length-append, subst, ◌∙◌, arith}
use Rattle.std.proofs.lemmas.Result.{err_from_is_err_and}
use Rattle.gp_shards.specs.Folders.{FitsBehind}
use Rattle.gp_shards.specs.PartFolders.{PartFolderForm}
use Rattle.gp_shards.proofs.Fitting.{folders_grow}
use Rattle.gp_shards.proofs.Walking.{folders_more, folders_stop}
use Rattle.gp_shards.proofs.folders.folders_in.Goals as goal

pub returns-in_err-part-clause-stage : goal.returns-in_err-part-clause-stage
returns-in_err-part-clause-stage g c =
    let failed = err_from_is_err_and c.from_residual.result c.from_residual.ensures.1 in
    rw (failed.1, failed.2)
    (folders_stop c.args.recording.now c.args.outs.now c.loop-out.out-index _ c.loop-out.folders c.as_slice.result.now (g.F.Folder.files c.args.folder.now) (g.F.Folder.files c.loop-out.folder)
    c.loop-out-test.true c.as_slice.ensures c.loop-out.invariant.kept c.loop-out.invariant.walk
    (g.F.Folder.files c.folder_at.new.folder) (g.F.Folder.faults c.args.folder.now) (g.F.Folder.faults c.loop-out.folder) (g.F.Folder.faults c.folder_at.new.folder)
    c.loop-out.invariant.later c.in_err-part.field-0.0 c.in_err-part.ensures.stage)

pub loop-out-preserved : goal.loop-out-preserved
loop-out-preserved g c =
    let r = c.args.recording.now in
    let part = c.in_ok-part.part in
    record {
      later = omega (arith, c.loop-out.invariant.later, c.in_ok-part.ensures.stage.later);
      kept = c.in_ok-part.ensures.stage.kept ∙ c.loop-out.invariant.kept;
      walk = rw c.in_ok-push.ensures.ok
          (folders_more r c.args.outs.now c.loop-out.out-index _ c.loop-out.folders c.as_slice.result.now (g.F.Folder.files c.args.folder.now) (g.F.Folder.files c.loop-out.folder)
          c.loop-out-test.true c.as_slice.ensures c.loop-out.invariant.kept c.loop-out.invariant.walk part c.in_ok-part.ensures.stage.told);
      parts = rw c.in_ok-push.ensures.ok
          (folders_grow r c.loop-out.folders part c.loop-out.invariant.parts (subst (λ (before : List PartFolderForm). FitsBehind r before part) c.as_slice.ensures c.in_ok-part.ensures.part));
      count = let more = length-append c.loop-out.folders (part ∷ []) in rw c.in_ok-push.ensures.ok (omega (arith, more, c.loop-out.invariant.count));
    }
