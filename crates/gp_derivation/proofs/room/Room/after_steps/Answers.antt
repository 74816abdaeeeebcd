use Rattle.std.proofs.Common.{List, [], ◌∷◌, take, drop, sym, subst, ◌+◌, rules}
use Rattle.gp_clause.specs.declared.lit.Lit.{Lit}
use Rattle.gp_certificate.specs.Certificate.{clauses_of}
use Rattle.gp_derivation.specs.Room.{HasPlace, Leaves}
use Rattle.gp_derivation.proofs.Rooms.{leaves_more, next_clause, parted_clauses, place_next}
use Rattle.gp_derivation.proofs.room.Room.after_steps.Goals as goal

pub returns-in_err-room : goal.returns-in_err-room
returns-in_err-room c =
    let full : HasPlace c.args.variables c.args.self (clauses_of c.args.steps.now) → ⊥ = λ place.
    c.in_err-room.ensures
    (place_next c.args.variables c.args.self c.loop-step.room (clauses_of (take c.loop-step.step-index c.args.steps.now)) (c.step-item.result.clause ∷ []) (clauses_of (drop (c.loop-step.step-index + 1) c.args.steps.now)) c.loop-step.invariant
    (subst (HasPlace c.args.variables c.args.self) (parted_clauses c.args.steps.now c.loop-step.step-index c.step-item.result c.loop-step-test.true c.step-item.is) place))
    in
    search rules

pub loop-step-preserved : goal.loop-step-preserved
loop-step-preserved c =
    subst (λ (cs : List (List Lit)). Leaves c.args.variables c.args.self cs c.in_ok-room.room) (sym (next_clause c.args.steps.now c.loop-step.step-index c.step-item.result c.loop-step-test.true c.step-item.is))
    (leaves_more c.args.variables c.args.self c.loop-step.room c.in_ok-room.room (clauses_of (take c.loop-step.step-index c.args.steps.now)) (c.step-item.result.clause ∷ []) c.loop-step.invariant c.in_ok-room.ensures)
