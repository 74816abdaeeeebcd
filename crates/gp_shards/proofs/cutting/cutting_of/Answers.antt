-- The files of a part have different names.
use Rattle.std.proofs.Common.{List, subst, sym}
use Rattle.gp_files.specs.MadeFileForm.{MadeFileForm}
use Rattle.gp_shards.specs.Cutting.{CanBeWritten}
use Rattle.gp_shards.proofs.Asked.{asked}
use Rattle.gp_shards.proofs.Named.{part_files_differ, part_files_numbered}
use Rattle.gp_shards.proofs.cutting.cutting_of.Goals as goal

pub within_limits-requires : goal.within_limits-requires
within_limits-requires c =
    let r = c.args.recording.now in
    let shard = c.shard_of-shard.result in
    subst (λ (files : List MadeFileForm). CanBeWritten (record { shard = shard; files = files })) (sym c.in_ok-files.ensures)
    (record {
      rules = c.shard_of-shard.ensures.rules;
      differ = part_files_differ r c.keeps_rules.ensures c.args.properties shard;
      numbered = part_files_numbered r c.keeps_rules.ensures c.args.properties shard;
    })

pub returns-clause-step : goal.returns-clause-step
returns-clause-step c =
    asked c.args.recording.now c.args.properties c.args.cut.now.out.now c.args.cut.now.part c.args.cut.now.parts _ c.shard_of-shard.result c.in_ok-files.files
    c.shard_of-shard.ensures.value c.if-shard-ge-MOST_EPOCHS.false c.in_ok-files.ensures c.within_limits.ensures.step
