-- The report of one part more goes from what is left to what was read.
use Rattle.std.proofs.Common.{◌+◌, List, ◌∷◌, [], ◌++◌, drop, ap, sym, subst, ◌∙◌, arith}
use Rattle.std.proofs.lemmas.Result.{err_from_is_err_and}
use Rattle.gp_base.specs.Results.{and_then}
use Rattle.gp_merge.specs.declared.merging.PartReport.{PartReport}
use Rattle.gp_shards.specs.Folders.{AgreesBehind}
use Rattle.gp_shards.specs.Merging.{part_at, parts_from, windows_in}
use Rattle.gp_shards.specs.PartFolders.{PartFolderForm}
use Rattle.gp_shards.proofs.Fitting.{reports_grow}
use Rattle.gp_shards.proofs.Walking.{left_from, part_first, part_more, stage_stops, windows_more}
use Rattle.gp_shards.proofs.reports.parts_from.Goals as goal

pub returns-in_err-part-clause-stage : goal.returns-in_err-part-clause-stage
returns-in_err-part-clause-stage g c =
    let folders = c.args.folders.now in
    let i = c.loop-one.one-index in
    let folder = c.one-item.result in
    let failed = err_from_is_err_and c.from_residual.result c.from_residual.ensures.1 in
    rw (failed.1, failed.2)
    (stage_stops (λ files. part_at files c.as_slice.result.now folder) (λ files part. parts_from files (c.loop-one.parts ++ part ∷ []) (drop (i + 1) folders)) (λ files. parts_from files [] folders)
    (g.F.Folder.files c.args.folder.now) (g.F.Folder.files c.loop-one.folder) (g.F.Folder.files c.part_at.new.folder)
    (g.F.Folder.faults c.args.folder.now) (g.F.Folder.faults c.loop-one.folder) (g.F.Folder.faults c.part_at.new.folder)
    c.loop-one.invariant.later c.loop-one.invariant.kept
    (λ files told.
    ap (λ (before : List PartReport). and_then (part_at files before folder) (λ part. parts_from files (c.loop-one.parts ++ part ∷ []) (drop (i + 1) folders))) c.as_slice.ensures
    ∙ part_first files c.loop-one.parts folder (drop i folders) (drop (i + 1) folders) (left_from folders i folder c.loop-one-test.true c.one-item.is) ∙ c.loop-one.invariant.walk files told)
    c.in_err-part.field-0.0 c.in_err-part.ensures.stage)

pub loop-one-preserved : goal.loop-one-preserved
loop-one-preserved g c =
    let folders = c.args.folders.now in
    let i = c.loop-one.one-index in
    let folder = c.one-item.result in
    let part = c.in_ok-part.part in
    record {
      later = omega (arith, c.loop-one.invariant.later, c.in_ok-part.ensures.stage.later);
      kept = c.in_ok-part.ensures.stage.kept ∙ c.loop-one.invariant.kept;
      walk = λ files told. rw c.in_ok-push.ensures.ok
          (sym (part_more files c.loop-one.parts part folder (drop i folders) (drop (i + 1) folders) (left_from folders i folder c.loop-one-test.true c.one-item.is)
          (ap (λ (before : List PartReport). part_at files before folder) (sym c.as_slice.ensures) ∙ c.in_ok-part.ensures.stage.told files (c.loop-one.invariant.kept ∙ told)))
          ∙ c.loop-one.invariant.walk files told);
      windows = rw c.in_ok-push.ensures.ok
          (windows_more (λ (one : PartReport). one.part) (λ (one : PartFolderForm). windows_in one.shard) c.loop-one.parts part folders folder i
          c.loop-one-test.true c.one-item.is c.loop-one.invariant.windows c.in_ok-part.ensures.windows);
      agree = rw c.in_ok-push.ensures.ok
          (reports_grow c.loop-one.parts part c.loop-one.invariant.agree (subst (λ (before : List PartReport). AgreesBehind before part) c.as_slice.ensures c.in_ok-part.ensures.agrees));
    }
