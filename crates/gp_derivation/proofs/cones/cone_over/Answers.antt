use Rattle.std.proofs.Common.{◌≡◌, ℕ, ◌<◌, Some, List, [], ◌∷◌, ◌++◌, length, get_or, refl, sym, ◌∙◌, ap, subst, arith, rules}
use Rattle.std.specs.List.{slice_get}
use Rattle.std.proofs.lemmas.Option.{slice_get_read}
use Rattle.gp_certificate.specs.declared.step.Step.{Step}
use Rattle.gp_derivation.specs.Numbering.{IsNumbered, number_beside}
use Rattle.gp_derivation.specs.Cones.{cone_step}
use Rattle.gp_derivation.proofs.Drafts.{AreKept, among, draft_more, draft_room}
use Rattle.gp_derivation.proofs.ConeParts.{LiesOver, IsNext, lies_over, reached_kept, next_entry, last_numbered, cone_drafted}
use Rattle.gp_derivation.proofs.cones.cone_over.Goals as goal

pub bounds-log-place : goal.bounds-log-place
bounds-log-place c =
    let are : LiesOver c.args.base_clauses c.args.log.now c.args.last.now c.args.places.now = lies_over c.args.base_clauses c.args.log.now c.args.last.now c.args.places.now c.requires.numbered c.requires.reached in
    (reached_kept c.args.base_clauses c.args.log.now c.args.last.now c.args.places.now are).within c.loop-place.place-index c.loop-place-test.true

pub pass-requires-clause-numbered : goal.pass-requires-clause-numbered
pass-requires-clause-numbered c =
    let are : LiesOver c.args.base_clauses c.args.log.now c.args.last.now c.args.places.now = lies_over c.args.base_clauses c.args.log.now c.args.last.now c.args.places.now c.requires.numbered c.requires.reached in
    let place : ℕ = get_or c.args.places.now c.loop-place.place-index 0 in
    let within : place < length c.args.log.now = (reached_kept c.args.base_clauses c.args.log.now c.args.last.now c.args.places.now are).within c.loop-place.place-index c.loop-place-test.true in
    let got : slice_get c.args.log.now place ≡ Some c.index-log-place.result = slice_get_read c.args.log.now (length c.args.log.now) place c.index-log-place.result refl within c.index-log-place.is in
    let next : IsNext c.args.base_clauses c.args.log.now c.args.places.now c.loop-place.draft.numbers c.index-log-place.result =
    next_entry c.args.base_clauses c.args.log.now c.args.last.now c.args.places.now c.loop-place.place-index c.loop-place.draft.steps c.loop-place.draft.numbers c.index-log-place.result are c.loop-place-test.true got c.loop-place.invariant in
    next.numbered

pub pass-requires-clause-few : goal.pass-requires-clause-few
pass-requires-clause-few c =
    let are : LiesOver c.args.base_clauses c.args.log.now c.args.last.now c.args.places.now = lies_over c.args.base_clauses c.args.log.now c.args.last.now c.args.places.now c.requires.numbered c.requires.reached in
    let kept : AreKept (among c.args.places.now) c.args.log.now c.args.places.now = reached_kept c.args.base_clauses c.args.log.now c.args.last.now c.args.places.now are in
    let place : ℕ = get_or c.args.places.now c.loop-place.place-index 0 in
    let got : slice_get c.args.log.now place ≡ Some c.index-log-place.result = slice_get_read c.args.log.now (length c.args.log.now) place c.index-log-place.result refl (kept.within c.loop-place.place-index c.loop-place-test.true) c.index-log-place.is in
    omega (arith, c.requires.numbered.few, draft_room c.args.base_clauses (among c.args.places.now) c.args.log.now c.args.places.now c.loop-place.place-index c.loop-place.draft.steps c.loop-place.draft.numbers c.index-log-place.result kept c.loop-place-test.true got c.loop-place.invariant)

pub loop-place-preserved : goal.loop-place-preserved
loop-place-preserved c =
    let are : LiesOver c.args.base_clauses c.args.log.now c.args.last.now c.args.places.now = lies_over c.args.base_clauses c.args.log.now c.args.last.now c.args.places.now c.requires.numbered c.requires.reached in
    let kept : AreKept (among c.args.places.now) c.args.log.now c.args.places.now = reached_kept c.args.base_clauses c.args.log.now c.args.last.now c.args.places.now are in
    let place : ℕ = get_or c.args.places.now c.loop-place.place-index 0 in
    let got : slice_get c.args.log.now place ≡ Some c.index-log-place.result = slice_get_read c.args.log.now (length c.args.log.now) place c.index-log-place.result refl (kept.within c.loop-place.place-index c.loop-place-test.true) c.index-log-place.is in
    let next : IsNext c.args.base_clauses c.args.log.now c.args.places.now c.loop-place.draft.numbers c.index-log-place.result =
    next_entry c.args.base_clauses c.args.log.now c.args.last.now c.args.places.now c.loop-place.place-index c.loop-place.draft.steps c.loop-place.draft.numbers c.index-log-place.result are c.loop-place-test.true got c.loop-place.invariant in
    draft_more c.args.base_clauses (among c.args.places.now) c.args.log.now c.args.places.now c.loop-place.place-index c.loop-place.draft.steps c.loop-place.draft.numbers c.index-log-place.result c.pass.new.self.steps c.pass.new.self.numbers
    kept c.loop-place-test.true got next.agree c.in_ok-pass.ensures.steps c.in_ok-pass.ensures.numbers c.loop-place.invariant

pub learned_step-requires-clause-numbered : goal.learned_step-requires-clause-numbered
learned_step-requires-clause-numbered c =
    let are : LiesOver c.args.base_clauses c.args.log.now c.args.last.now c.args.places.now = lies_over c.args.base_clauses c.args.log.now c.args.last.now c.args.places.now c.requires.numbered c.requires.reached in
    let end : c.loop-place.place-index ≡ length c.args.places.now = omega arith in
    subst (λ (ns : List ℕ). (k : ℕ) (d : ℕ) → k < length c.args.last.now.hints → IsNumbered c.args.base_clauses c.args.places.now ns (get_or c.args.last.now.hints k d)) (sym c.as_slice.ensures)
    (last_numbered c.args.base_clauses c.args.log.now c.args.last.now c.args.places.now c.loop-place.place-index c.loop-place.draft.steps c.loop-place.draft.numbers are end c.loop-place.invariant)

pub returns : goal.returns
returns c =
    let are : LiesOver c.args.base_clauses c.args.log.now c.args.last.now c.args.places.now = lies_over c.args.base_clauses c.args.log.now c.args.last.now c.args.places.now c.requires.numbered c.requires.reached in
    let end : c.loop-place.place-index ≡ length c.args.places.now = omega arith in
    let renumbering : c.in_ok-step.step ≡ cone_step c.args.base_clauses (number_beside c.args.places.now c.loop-place.draft.numbers) c.args.last.now =
    subst (λ (ns : List ℕ). c.in_ok-step.step ≡ cone_step c.args.base_clauses (number_beside c.args.places.now ns) c.args.last.now) c.as_slice.ensures c.in_ok-step.ensures in
    let pushed : c.push.new.self ≡ c.loop-place.draft.steps ++ c.in_ok-step.step ∷ [] = search rules in
    cone_drafted c.args.base_clauses c.args.log.now c.args.last.now c.args.places.now c.loop-place.place-index c.loop-place.draft.steps c.loop-place.draft.numbers c.push.new.self are end c.loop-place.invariant
    (pushed ∙ ap (λ (s : Step). c.loop-place.draft.steps ++ s ∷ []) renumbering)
