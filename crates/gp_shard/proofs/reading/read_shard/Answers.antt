use Rattle.std.proofs.Common.{ap, ◌∙◌}
use Rattle.gp_text.specs.Lines.{end_line_of}
use Rattle.gp_shard.specs.Reading.{shard_of}
use Rattle.gp_shard.proofs.Spelled.{kept_if}
use Rattle.gp_shard.proofs.reading.read_shard.Goals as goal

pub returns-clause-rules : goal.returns-clause-rules
returns-clause-rules c =
    kept_if c.read_is_shard.ensures c.args.bytes.now c.in_ok-lines.lines c.shard_of.result (c.in_ok-lines.ensures (λ memory. (cc)))
    (c.shard_of.ensures ∙ ap (λ last. shard_of last c.as_slice.result.now) c.end_line.ensures ∙ ap (shard_of (end_line_of c.args.bytes.now)) c.as_slice.ensures)
