use Rattle.gp_outside.proofs.Files.{added, replaced}
use Rattle.std.proofs.Common.{rules}
use Rattle.gp_outside.proofs.memory_folders.put_file.Goals as goal

pub returns-in-Some-clause-ok : goal.returns-in-Some-clause-ok
returns-in-Some-clause-ok c =
    rw (← c.in_ok-content.ensures.items)
    (replaced c.args.files.now.items c.args.name.now c.in_ok-content.content c.in-Some.place c.index_mut.result.now (search rules) c.index_mut.ensures.value)

pub returns-in_ok-push-in-None-clause-ok : goal.returns-in_ok-push-in-None-clause-ok
returns-in_ok-push-in-None-clause-ok c =
    rw (← c.in_ok-content.ensures.items)
    (added c.args.files.now.items c.push.new.self.items c.args.name.now (c.in_ok-from_str-in-None.field-0, c.in_ok-content.content) (search rules) c.in_ok-from_str-in-None.ensures.ok (search rules))
