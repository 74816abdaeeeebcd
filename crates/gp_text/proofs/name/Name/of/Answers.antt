use Rattle.std.proofs.Common.{◌≡◌, true, rules}
use Rattle.gp_text.specs.Name.{is_name}
use Rattle.gp_text.proofs.Padded.{named_row}
use Rattle.gp_text.proofs.name.Name.of.Goals as goal

pub invariant_of-result : goal.invariant_of-result
invariant_of-result c =
    let named : is_name c.args.bytes.now ≡ true = search rules in
    rw c.copy_from_slice.ensures.after (named_row c.args.bytes.now named)
