-- The refusal of the words is what is due to them.
use Rattle.std.proofs.Common.{ap}
use Rattle.gp_predict.specs.Due.{words_refused}
use Rattle.gp_predict.specs.RunLaws.{not_three, ran_put, where_due}
use Rattle.gp_predict.specs.Telling.{of_reply}
use Rattle.gp_predict.specs.declared.reply.Reply.{Reply}
use Rattle.gp_show.specs.Due.{Expected, Means, Text}
use Rattle.gp_show.proofs.top.refuse_words.Goals as goal

pub returns-in-Ok-clause-run : goal.returns-in-Ok-clause-run
returns-in-Ok-clause-run g c =
    ran_put Means _ _ _ _ _ _ _ _ _ (of_reply c.in-Ok.reply)
    (where_due (Text words_refused) (λ (expected : Expected). Means expected (of_reply c.in-Ok.reply)) (ap of_reply c.in-Ok.ensures))
    (λ three. absurd (not_three c.put_reply.result.status c.in-Ok.reply.status (ap (λ (reply : Reply). reply.status) c.in-Ok.ensures) c.put_reply.ensures.status three))
    c.put_reply.ensures.put
