-- A fact of each fault, carried through the joining of answers.
use Rattle.std.proofs.Common.{Bool, true, false, List, Option, Some, None, Result, Ok, Err, if◌then◌else◌}
use Rattle.gp_base.specs.Results.{and_then, or_refusal, or_refused, then_rest, with_prefix}
use Rattle.gp_due.specs.Saying.{OnlySays}

module _ {E : Type 0} {Says : E → Type 0} where
  -- a value is no fault
  pub value : {A : Type 0} {given : A} → OnlySays Says (Ok given)
  value = record { fault = tt }

  -- a fault that says something
  pub fault : {A : Type 0} {told : E} → Says told → OnlySays {A = A} Says (Err told)
  fault says = record { fault = says }

  -- what both steps say
  pub in_turn : {A B : Type 0} {first : Result A E} {next : A → Result B E} → OnlySays Says first → ((given : A) → OnlySays Says (next given)) → OnlySays Says (and_then first next)
  in_turn {first = Ok given} first_says next_says = next_says given
  in_turn {first = Err told} first_says next_says = record { fault = first_says.fault }

  -- what both branches say
  pub either : {A : Type 0} (test : Bool) {one other : Result A E} → OnlySays Says one → OnlySays Says other → OnlySays Says (if test then one else other)
  either true one_says other_says = one_says
  either false one_says other_says = other_says

  -- what a value and the rest say
  pub before_rest : {A : Type 0} {first : Result A E} {rest : Result (List A) E} → OnlySays Says first → OnlySays Says rest → OnlySays Says (then_rest first rest)
  before_rest {first = Ok given} {rest = Ok more} first_says rest_says = record { fault = tt }
  before_rest {first = Ok given} {rest = Err told} first_says rest_says = record { fault = rest_says.fault }
  before_rest {first = Err told} first_says rest_says = record { fault = first_says.fault }

  -- what the rest says
  pub behind_prefix : {A : Type 0} (prefix : List A) {rest : Result (List A) E} → OnlySays Says rest → OnlySays Says (with_prefix prefix rest)
  behind_prefix prefix {rest = Ok more} says = record { fault = tt }
  behind_prefix prefix {rest = Err told} says = record { fault = says.fault }

  -- a refusal that says something
  pub unless_there : {A : Type 0} (refusal : E) (there : Option A) → Says refusal → OnlySays Says (or_refusal refusal there)
  unless_there refusal (Some given) says = record { fault = tt }
  unless_there refusal None says = record { fault = says }

  -- refusals that say something of each fault that does
  pub refused : {A F : Type 0} {Before : F → Type 0} (refusal : F → E) {read : Result A F} → ((told : F) → Before told → Says (refusal told)) → OnlySays Before read → OnlySays Says (or_refused refusal read)
  refused refusal {read = Ok given} each says = record { fault = tt }
  refused refusal {read = Err told} each says = record { fault = each told says.fault }
