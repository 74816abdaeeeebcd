use Rattle.std.proofs.Common.{◌≡◌, ◌≤◌, vec_capacity, vec_len, take}
use Rattle.gp_difference.specs.Bounds.{tags_of}
use Rattle.gp_difference.specs.Lower.{walk_of}
use Rattle.gp_difference.proofs.lower.put_tags.Given as goal

abbrev pub invariant-loop-number : goal.invariant-loop-number
invariant-loop-number l = record {
  room : vec_capacity l.tags ≡ vec_capacity l.initial.tags;
  fits : vec_len l.tags ≤ l.number-index;
  tags : l.tags.items ≡ tags_of (walk_of l.bounds.bounds (take l.number-index l.walk));
}
