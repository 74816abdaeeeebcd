use Rattle.gp_derivation.proofs.Drafts.{IsDraft, among}
use Rattle.gp_derivation.proofs.cones.cone_over.Given as goal

abbrev pub invariant-loop-place : goal.invariant-loop-place
invariant-loop-place l = IsDraft l.base_clauses (among l.places) l.log l.places l.place-index l.draft.steps l.draft.numbers
