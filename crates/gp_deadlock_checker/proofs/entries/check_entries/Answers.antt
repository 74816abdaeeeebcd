use Rattle.std.proofs.Common.{◌≡◌, refl, sym, ◌∙◌, subst, ◌<◌, true, length, arith}
use Rattle.std.proofs.lemmas.Option.{slice_get_read}
use Rattle.gp_instance.specs.declared.instance.Instance.{Instance}
use Rattle.gp_stuck.specs.Cycle.{is_cycle}
use Rattle.gp_checker.specs.declared.failure.Failure.{Failure}
use Rattle.gp_deadlock_checker.specs.Accepted.{AcceptsEntry}
use Rattle.gp_checker.specs.Basis.{Basis}
use Rattle.gp_deadlock_checker.specs.Finds.{FindsEntry}
use Rattle.gp_deadlock_checker.specs.Rejected.{FailsEntry}
use Rattle.gp_checker.specs.FirstLaws.{accepted_all, accepted_more, fails_pair}
use Rattle.gp_deadlock_checker.proofs.entries.check_entries.Goals as goal

pub check_entry-requires : goal.check_entry-requires
check_entry-requires c =
    let within : c.loop-place.place < length c.args.cycles.now = omega arith in
    subst (λ (basis : Basis). is_cycle basis.window c.index-cycles-place.result.events ≡ true) (sym c.loop-place.invariant.0)
    (subst (λ (one : Instance). is_cycle c.args.checker.now.window one.events ≡ true) (sym c.index-cycles-place.is)
    (c.requires.cycles c.loop-place.place c.index-cycles-place.result within))

pub returns-in-Some-clause-found : goal.returns-in-Some-clause-found
returns-in-Some-clause-found c =
    let basis = c.args.checker.now in
    let instance = c.index-cycles-place.result in
    let entry = c.index-entries-place.result in
    let within : c.loop-place.place < length c.args.cycles.now = omega arith in
    let failure : Failure = record c.in-Some.failure { instance = c.loop-place.place } in
    let found = subst (λ (b : Basis). FindsEntry b instance entry c.in_ok-failure.field-0) c.loop-place.invariant.0 c.in_ok-failure.ensures.found in
    fails_pair (AcceptsEntry basis.window basis.budget basis.shared) c.args.cycles.now c.args.entries.now c.loop-place.place (FailsEntry basis.window basis.budget basis.shared failure) ⊥ instance entry
    (slice_get_read c.args.cycles.now (length c.args.cycles.now) c.loop-place.place instance refl within c.index-cycles-place.is)
    (slice_get_read c.args.entries.now (length c.args.entries.now) c.loop-place.place entry refl c.loop-place-test.true c.index-entries-place.is)
    (subst (FindsEntry basis instance entry) c.in-Some.is found) c.loop-place.invariant.1

pub loop-place-preserved : goal.loop-place-preserved
loop-place-preserved c =
    let basis = c.args.checker.now in
    let instance = c.index-cycles-place.result in
    let entry = c.index-entries-place.result in
    let within : c.loop-place.place < length c.args.cycles.now = omega arith in
    let found = subst (λ (b : Basis). FindsEntry b instance entry c.in_ok-failure.field-0) c.loop-place.invariant.0 c.in_ok-failure.ensures.found in (
      c.in_ok-failure.ensures.same ∙ c.loop-place.invariant.0,
      accepted_more (AcceptsEntry basis.window basis.budget basis.shared) c.args.cycles.now c.args.entries.now c.loop-place.place instance entry
          (slice_get_read c.args.cycles.now (length c.args.cycles.now) c.loop-place.place instance refl within c.index-cycles-place.is)
          (slice_get_read c.args.entries.now (length c.args.entries.now) c.loop-place.place entry refl c.loop-place-test.true c.index-entries-place.is)
          (subst (FindsEntry basis instance entry) c.in_default.is found) c.loop-place.invariant.1,
    )

pub returns-clause-found : goal.returns-clause-found
returns-clause-found c =
    let basis = c.args.checker.now in
    accepted_all (AcceptsEntry basis.window basis.budget basis.shared) c.args.cycles.now c.args.entries.now c.loop-place.place (omega arith) (omega arith) c.loop-place.invariant.1
