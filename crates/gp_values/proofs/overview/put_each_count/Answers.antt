use Rattle.std.proofs.Common.{append_assoc, append-nil}
use Rattle.gp_values.specs.Overview.{counts_value}
use Rattle.gp_values.proofs.overview.put_each_count.Goals as goal

pub returns : goal.returns
unfolding counts_value
returns c =
    rw (c.in_ok-extend_from_slice-2.ensures.items, c.in_ok-put_named_number-5.ensures, c.in_ok-put_named_number-4.ensures, c.in_ok-put_named_number-3.ensures, c.in_ok-put_named_number-2.ensures, c.in_ok-put_named_number.ensures, c.in_ok-extend_from_slice.ensures.items)
    (simp (append_assoc, append-nil))
