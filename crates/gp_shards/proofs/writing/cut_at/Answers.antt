-- What a cut left, what is read of it, or why nothing was cut.
use Rattle.std.specs.Prelude.{Ok, Err}
use Rattle.gp_predict.specs.Telling.{of_reply}
use Rattle.gp_words.specs.Sharding.{cut_form}
use Rattle.gp_shards.specs.declared.cutting.Cutting.{Cutting}
use Rattle.gp_shards.specs.Cutting.{cut_answer, cutting_at}
use Rattle.gp_shards.specs.Due.{due_to_cut}
use Rattle.gp_shards.proofs.CutOut.{where_cut_out}
use Rattle.gp_shards.proofs.Leaving.{files_left, unrefused}
use Rattle.gp_shards.proofs.Ran.{ran_part, ran_stopped, stage_came}
use Rattle.gp_shards.proofs.writing.cut_at.Goals as goal

pub returns-in-Ok-clause-left : goal.returns-in-Ok-clause-left
returns-in-Ok-clause-left g c =
    files_left (cut_form c.args.cut.now) c.in-Ok.cutting c.put_part.result.status (g.F.Folder.files c.cutting_at.new.folder) (g.F.Folder.files c.args.folder.now) (g.F.Folder.files c.put_part.new.folder)
    (unrefused c.put_part.result.status c.put_part.ensures.status) c.in-Ok.ensures.stage.kept c.in-Ok.ensures.stage.told c.put_part.ensures.left c.put_part.ensures.order

pub returns-in-Ok-clause-cut : goal.returns-in-Ok-clause-cut
returns-in-Ok-clause-cut g c = λ zero.
    where_cut_out c.cuts_are_read.ensures c.what_is_read_can_be_spelled.ensures c.cut_windows_are_the_same.ensures c.shards_read_again.ensures
    (cut_form c.args.cut.now) c.in-Ok.cutting c.put_part.result.status (g.F.Folder.files c.cutting_at.new.folder) (g.F.Folder.files c.args.folder.now) (g.F.Folder.files c.put_part.new.folder)
    c.in-Ok.ensures.writable.rules zero c.in-Ok.ensures.stage.kept c.in-Ok.ensures.stage.told c.put_part.ensures.left

pub returns-in-Ok-clause-run : goal.returns-in-Ok-clause-run
returns-in-Ok-clause-run g c =
    ran_part (λ (cutting : Cutting). of_reply (cut_answer cutting.shard)) (due_to_cut (cut_form c.args.cut.now)) _ _ _ _ _ _ _ _ _ c.in-Ok.cutting
    (g.F.Folder.faults c.cutting_at.new.folder)
    (stage_came (λ (cutting : Cutting). cut_answer cutting.shard) (Ok c.in-Ok.cutting) (λ files. cutting_at files (cut_form c.args.cut.now)) _ _ _ _ c.in-Ok.ensures.stage)
    c.put_part.ensures.put c.put_part.ensures.failed c.put_part.ensures.status

pub returns-in-Err-clause-run : goal.returns-in-Err-clause-run
returns-in-Err-clause-run g c =
    ran_stopped (λ (cutting : Cutting). of_reply (cut_answer cutting.shard)) (due_to_cut (cut_form c.args.cut.now)) _ _ _ _ _ _ _ _ _ c.in-Err.stop
    (stage_came (λ (cutting : Cutting). cut_answer cutting.shard) (Err c.in-Err.stop) (λ files. cutting_at files (cut_form c.args.cut.now)) _ _ _ _ c.in-Err.ensures.stage)
    c.put_stop.ensures
