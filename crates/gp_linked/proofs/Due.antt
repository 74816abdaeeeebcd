-- What is due for a window and the next, by what is due for the window.
use Rattle.std.proofs.Common.{ℕ, ◌≡◌, ◌+◌, ap, sym, refl, Bool, true, false, Result, Ok, Err, length, arith}
use Rattle.std.specs.Prelude.{if◌then◌else◌, nat_lt}
use Rattle.std.proofs.lemmas.Bool.Decides.{nat_tests}
use Rattle.gp_window.specs.WindowForm.{WindowForm}
use Rattle.gp_constraint.specs.declared.fault.BaseFault.{BaseFault}
use Rattle.gp_constraint.specs.declared.fault.BaseFault.TheVariants as base
use Rattle.gp_constraint.specs.Base.{clauses_of}
use Rattle.gp_constraint.specs.Encoded.{base_due, too_large}
use Rattle.gp_constraint.specs.EncodedLaws.{is_encoded}
use Rattle.gp_constraint.specs.Extending.{extended_of, ExtendedForm}
use Rattle.gp_constraint.specs.Points.{points_of}
use Rattle.gp_link.specs.declared.fault.LinkFault.{LinkFault}
use Rattle.gp_link.specs.declared.fault.LinkFault.TheVariants.{Memory}
use Rattle.gp_link.specs.declared.fault.LinkFault.TheVariants as of_link
use Rattle.gp_link.specs.LinkClauses.{link_clauses}
use Rattle.gp_link.specs.LinkProblem.{fault_of, link_due}
use Rattle.gp_linked.specs.declared.answer.LinkAnswer.{LinkAnswer}
use Rattle.gp_linked.specs.declared.answer.LinkAnswer.TheVariants.{Linked, Unlinkable, Undecided, TooLarge}
use Rattle.gp_linked.specs.Answered.{TellsFault}
use Rattle.gp_linked.specs.Due.{IsSized, sized_due}

-- a fault of the window as one of the link
abbrev as_link : Result WindowForm BaseFault → Result ExtendedForm LinkFault
as_link (Ok window) = Err Memory
as_link (Err fault) = Err (fault_of fault)

still_many : (few more : ℕ) → nat_lt 500000 few ≡ true → nat_lt 500000 (few + more) ≡ true
still_many few more many = grind (arith, nat_tests)

fault_where : (window next : WindowForm) (fault : BaseFault) (points clauses : Bool) → nat_lt 2048 (length (points_of window)) ≡ points → nat_lt 500000 (length (clauses_of window)) ≡ clauses
    → (if points then too_large (length (points_of window)) 0 else (if clauses then too_large (length (points_of window)) 500001 else Ok window)) ≡ Err fault
    → sized_due window next ≡ Err (fault_of fault)
fault_where window next fault true clauses many few is = rw many (ap as_link is)
fault_where window next fault false true few many is =
    let all = still_many (length (clauses_of window)) (length (link_clauses window next)) many in rw few (rw all (ap as_link is))
fault_where window next fault false false few fits is = absurd (cc)

-- a window that is too large is told so
pub fault_is_due : (window next : WindowForm) (fault : BaseFault) → base_due window ≡ Err fault → sized_due window next ≡ Err (fault_of fault)
fault_is_due window next fault is =
    fault_where window next fault (nat_lt 2048 (length (points_of window))) (nat_lt 500000 (length (clauses_of window))) refl refl is

-- and so where the call that tells it ran out of memory in no case
pub fault_told : (window next : WindowForm) (fault : BaseFault)
    → ((◌≡◌ {A = Result WindowForm BaseFault} (Err fault) (Err base.Memory) → ⊥) → ◌≡◌ {A = Result WindowForm BaseFault} (Err fault) (base_due window))
    → (◌≡◌ {A = Result ExtendedForm LinkFault} (Err (fault_of fault)) (Err Memory) → ⊥)
    → ◌≡◌ {A = Result ExtendedForm LinkFault} (Err (fault_of fault)) (sized_due window next)
fault_told window next fault told apart = sym (fault_is_due window next fault (sym (told (λ same. apart (ap as_link same)))))

-- of one that is not, what is due is that of the link
pub link_is_due : (window next encoded : WindowForm) → base_due window ≡ Ok encoded → sized_due window next ≡ link_due encoded next
link_is_due window next encoded is =
    let own = is_encoded window encoded is in
    let points = own.encodable.points in
    let few : nat_lt 2048 (length (points_of window)) ≡ false = grind (arith, nat_tests) in
    rw own.same (rw few refl)

-- a fault of the link
abbrev fault_at : ℕ → ℕ → Result ExtendedForm LinkFault
fault_at events clauses = Err (of_link.TooLarge events clauses)

-- what is due is the problem, and neither the window nor the link is too large
pub record IsDue (window next : WindowForm) (extended : ExtendedForm) : Type 0 where
  pub sized : IsSized window next
  pub same : extended ≡ extended_of window (link_clauses window next)

due_where : (window next : WindowForm) (extended : ExtendedForm) (points clauses : Bool) → nat_lt 2048 (length (points_of window)) ≡ points
    → nat_lt 500000 (length (clauses_of window) + length (link_clauses window next)) ≡ clauses
    → (if points then fault_at (length (points_of window)) 0 else (if clauses then fault_at (length (points_of window)) 500001 else Ok (extended_of window (link_clauses window next)))) ≡ Ok extended
    → IsDue window next extended
due_where window next extended true clauses many few is = absurd (cc)
due_where window next extended false true few many is = absurd (cc)
due_where window next extended false false few fits is =
    record { sized = record { points = grind (arith, nat_tests); clauses = grind (arith, nat_tests) }; same = cc }

pub is_due : (window next : WindowForm) (extended : ExtendedForm) → sized_due window next ≡ Ok extended → IsDue window next extended
is_due window next extended is =
    due_where window next extended (nat_lt 2048 (length (points_of window))) (nat_lt 500000 (length (clauses_of window) + length (link_clauses window next))) refl refl is

-- a fault that is told is no want of memory
pub fault_apart : (fault : LinkFault) (link : LinkAnswer) → TellsFault fault link → ◌≡◌ {A = Result ExtendedForm LinkFault} (Err fault) (Err Memory) → ⊥
fault_apart fault (TooLarge events clauses) is same = absurd (cc)
fault_apart fault (Linked schedule) is same = absurd is
fault_apart fault (Unlinkable certificate) is same = absurd is
fault_apart fault (Undecided log from to) is same = absurd is
