use Rattle.std.proofs.Common.{sym, ◌∙◌}
use Rattle.gp_sharing.proofs.Firstly.{put_again, put_new}
use Rattle.gp_sharing.proofs.shared_list.put_first.Goals as goal

pub returns-in-Some-clause-ok : goal.returns-in-Some-clause-ok
returns-in-Some-clause-ok c = λ step steps is size tells.
    put_again c.args.firsts.now.entries steps step c.args.key is tells c.in-Some._first (sym c.get.ensures.value ∙ sym c.copied.ensures ∙ c.in-Some.is)

pub returns-in_ok-insert-in-None-clause-ok : goal.returns-in_ok-insert-in-None-clause-ok
returns-in_ok-insert-in-None-clause-ok c = λ step steps is size tells.
    put_new c.args.firsts.now.entries steps step c.args.key is tells c.insert.new.self.entries c.args.place size
    (sym c.get.ensures.value ∙ sym c.copied.ensures ∙ c.in-None.is) c.in_ok-insert-in-None.ensures.updates.0
