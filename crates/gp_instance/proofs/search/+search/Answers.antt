-- One choice after another, up to the limit.
use Rattle.std.proofs.Common.{◌≡◌, ◌<◌, [], ◌∙◌, ap, arith, get_or, length, map, sym}
use Rattle.std.specs.List.{flat_map}
use Rattle.std.proofs.lemmas.List.{drop_all}
use Rattle.gp_instance.specs.DeadEnds.{last_of}
use Rattle.gp_instance.specs.Search.{Leaves, chosen_of, first_instances, instance_after, narrowed, search}
use Rattle.gp_instance.specs.LimitLaws.{full, no_more, within_limit}
use Rattle.gp_instance.proofs.Choices.{alive_step, completed, dead_step}
use Rattle.gp_instance.proofs.Remembered.{dead_end, last_later, nothing_found}
use Rattle.gp_instance.proofs.Thin.{copy_finds}
use Rattle.gp_instance.proofs.search.+search.Goals as goal
use Rattle.gp_instance.proofs.search.+search.Goals.{in-Some-2+in_ok-longer+in_ok-search+then-len-before+in_ok-keep, in-Some-2+in_ok-longer+in_ok-search+else-len-before, in_default-2}

pub returns-then-len-gt-MOST_INSTANCES-clause-found : goal.returns-then-len-gt-MOST_INSTANCES-clause-found
returns-then-len-gt-MOST_INSTANCES-clause-found t c = full _ _ (omega arith) c.loop-id.invariant.room ∙ c.loop-id.invariant.walk

pub after_choice-requires-clause-last : goal.after_choice-requires-clause-last
after_choice-requires-clause-last t c =
    let last = last_later c.args.dead_ends.now.1 c.args.atoms.now c.in-Some.later.now c.in-Some.atom.now c.in-Some.ensures.cases.0 c.requires.last in
    rw c.loop-id.invariant.ends last

pub search-requires : goal.search-requires
search-requires t c =
    let left : Leaves c.args.dead_ends.now.0 c.in-Some.later.now (narrowed c.args.dead_ends.now.0 (chosen_of c.args.dead_ends.now.0 c.in-Some.atom.now (get_or c.as_slice-ids.result.now c.loop-id.id-index (record { thread = 0; index = 0 }))) c.in-Some.later.now c.in-Some-split_first.others.now) c.in_ok-left.field-0 = rw c.loop-id.invariant.ends at c.in_ok-left.ensures in
    let last = last_later c.args.dead_ends.now.1 c.args.atoms.now c.in-Some.later.now c.in-Some.atom.now c.in-Some.ensures.cases.0 c.requires.last in
    let measure : length c.args.atoms.now ≡ t = c.decreases in
    let fewer : length c.in-Some.later.now < t = omega (arith, measure, c.in-Some.ensures.cases.1) in
    let many = (rw c.in-Some-2.is at left).1 in
    let kept : last_of (length c.in-Some.later.now) c.loop-id.dead_ends.1 ≡ c.in-Some.later.now = rw c.loop-id.invariant.ends last in
    (fewer, (ap length c.as_slice.ensures ∙ many, (kept, c.loop-id.invariant.room)))

pub keep-requires : goal.keep-requires
keep-requires t c =
    let left : Leaves c.args.dead_ends.now.0 c.in-Some.later.now (narrowed c.args.dead_ends.now.0 (chosen_of c.args.dead_ends.now.0 c.in-Some.atom.now (get_or c.as_slice-ids.result.now c.loop-id.id-index (record { thread = 0; index = 0 }))) c.in-Some.later.now c.in-Some-split_first.others.now) c.in_ok-left.field-0 = rw c.loop-id.invariant.ends at c.in_ok-left.ensures in
    let last = last_later c.args.dead_ends.now.1 c.args.atoms.now c.in-Some.later.now c.in-Some.atom.now c.in-Some.ensures.cases.0 c.requires.last in
    let many = (rw c.in-Some-2.is at left).1 in
    let none : search c.args.dead_ends.now.0 c.in-Some.later.now c.in-Some-2.left ≡ [] =
    ap (search c.args.dead_ends.now.0 c.in-Some.later.now) (sym c.as_slice.ensures)
    ∙ nothing_found c.loop-id.found c.search.new.found c.args.number c.as_slice-in-Some-2.result.now (search c.args.dead_ends.now.0 c.in-Some.later.now c.as_slice.result.now)
    (omega (arith, c.if-len-gt-MOST_INSTANCES.false, c.len.ensures)) (rw c.loop-id.invariant.ends at c.in_ok-search.ensures.found)
    (omega (arith, c.if-len-before.true, c.len-before.ensures, c.len-in-Some-2.ensures)) in
    let ends : c.search.new.dead_ends ≡ c.args.dead_ends.now = c.in_ok-search.ensures.ends ∙ c.loop-id.invariant.ends in
    rw ends (dead_end c.args.dead_ends.now.0 c.args.dead_ends.now.1 c.in-Some.later.now c.in-Some-2.left many last none)

pub loop-id-preserved : goal.loop-id-preserved
loop-id-preserved t c =
    let left : Leaves c.args.dead_ends.now.0 c.in-Some.later.now (narrowed c.args.dead_ends.now.0 (chosen_of c.args.dead_ends.now.0 c.in-Some.atom.now (get_or c.as_slice-ids.result.now c.loop-id.id-index (record { thread = 0; index = 0 }))) c.in-Some.later.now c.in-Some-split_first.others.now) c.in_ok-left.field-0 = rw c.loop-id.invariant.ends at c.in_ok-left.ensures in
    elim c.match-branch-2.branch [
      | in-Some-2+in_ok-longer+in_ok-search+then-len-before+in_ok-keep w ↦
          record {
            ends = rw w.dead_ends-is (w.in_ok-keep.ensures ∙ w.in_ok-search.ensures.ends ∙ c.loop-id.invariant.ends);
            room = rw (w.found-is, w.in_ok-search.ensures.found) (within_limit _ _);
            walk = rw w.found-is (alive_step c.loop-id.found w.search.new.found c.args.number c.args.front.now w.as_slice-in-Some-2.result.now c.args.dead_ends.now.0 c.in-Some.atom.now c.as_slice-ids.result.now c.loop-id.id-index (record { thread = 0; index = 0 }) c.in-Some.later.now c.in-Some-split_first.others.now w.as_slice.result.now (first_instances c.args.found.now (map (instance_after c.args.number c.args.front.now) (search c.args.dead_ends.now.0 c.args.atoms.now c.args.domains.now))) c.loop-id-test.true (w.as_slice-in-Some-2.ensures ∙ w.in_ok-longer.ensures) (copy_finds c.args.dead_ends.now.0 c.in-Some.later.now (narrowed c.args.dead_ends.now.0 (chosen_of c.args.dead_ends.now.0 c.in-Some.atom.now (get_or c.as_slice-ids.result.now c.loop-id.id-index (record { thread = 0; index = 0 }))) c.in-Some.later.now c.in-Some-split_first.others.now) w.in-Some-2.left w.as_slice.result.now w.as_slice.ensures (rw w.in-Some-2.is at left)) (rw c.loop-id.invariant.ends at w.in_ok-search.ensures.found) c.loop-id.invariant.walk);
          }
      | in-Some-2+in_ok-longer+in_ok-search+else-len-before w ↦
          record {
            ends = rw w.dead_ends-is (w.in_ok-search.ensures.ends ∙ c.loop-id.invariant.ends);
            room = rw (w.found-is, w.in_ok-search.ensures.found) (within_limit _ _);
            walk = rw w.found-is (alive_step c.loop-id.found w.search.new.found c.args.number c.args.front.now w.as_slice-in-Some-2.result.now c.args.dead_ends.now.0 c.in-Some.atom.now c.as_slice-ids.result.now c.loop-id.id-index (record { thread = 0; index = 0 }) c.in-Some.later.now c.in-Some-split_first.others.now w.as_slice.result.now (first_instances c.args.found.now (map (instance_after c.args.number c.args.front.now) (search c.args.dead_ends.now.0 c.args.atoms.now c.args.domains.now))) c.loop-id-test.true (w.as_slice-in-Some-2.ensures ∙ w.in_ok-longer.ensures) (copy_finds c.args.dead_ends.now.0 c.in-Some.later.now (narrowed c.args.dead_ends.now.0 (chosen_of c.args.dead_ends.now.0 c.in-Some.atom.now (get_or c.as_slice-ids.result.now c.loop-id.id-index (record { thread = 0; index = 0 }))) c.in-Some.later.now c.in-Some-split_first.others.now) w.in-Some-2.left w.as_slice.result.now w.as_slice.ensures (rw w.in-Some-2.is at left)) (rw c.loop-id.invariant.ends at w.in_ok-search.ensures.found) c.loop-id.invariant.walk);
          }
      | in_default-2 w ↦
          let none = rw w.in_default-2.is at left in
          record {
            ends = rw w.dead_ends-is c.loop-id.invariant.ends;
            room = rw w.found-is c.loop-id.invariant.room;
            walk = rw w.found-is (dead_step c.loop-id.found c.args.number c.args.front.now c.args.dead_ends.now.0 c.in-Some.atom.now c.as_slice-ids.result.now c.loop-id.id-index (record { thread = 0; index = 0 }) c.in-Some.later.now c.in-Some-split_first.others.now (first_instances c.args.found.now (map (instance_after c.args.number c.args.front.now) (search c.args.dead_ends.now.0 c.args.atoms.now c.args.domains.now))) c.loop-id-test.true none c.loop-id.invariant.walk);
          }
    ]

pub returns-clause-found : goal.returns-clause-found
returns-clause-found t c =
    no_more c.loop-id.found c.loop-id.invariant.room
    ∙ ap (λ ids. first_instances c.loop-id.found (map (instance_after c.args.number c.args.front.now) (flat_map (completed c.args.dead_ends.now.0 c.in-Some.atom.now c.in-Some.later.now c.in-Some-split_first.others.now) ids)))
    (sym (drop_all c.loop-id.id-index c.as_slice-ids.result.now c.loop-id-test.false))
    ∙ c.loop-id.invariant.walk
