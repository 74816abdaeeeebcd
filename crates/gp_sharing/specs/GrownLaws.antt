-- Laws: the shared list begins with the steps that were shared before, and gets no longer than all steps together.
use Rattle.std.proofs.Common.{◌≡◌, refl, ap, sym, ◌∙◌, ℕ, ◌+◌, ◌-◌, ◌^◌, ◌<◌, ◌≤◌, Bool, true, false, List, [], ◌∷◌, ◌++◌, Option, length, All, arith}
use Rattle.std.specs.Prelude.{if◌then◌else◌}
use Rattle.std.specs.List.{list_any}
use Rattle.std.proofs.lemmas.List.{append-nil, append_assoc, length-append, length-take}
use Rattle.std.proofs.lemmas.List.Elements.{All-cons, All-nil, All-weaker}
use Rattle.std.proofs.lemmas.List.Sums.{fold-append, sum_by-append, sum_by-cons}
use Rattle.gp_certificate.specs.declared.step.Step.{Step}
use Rattle.gp_report.specs.declared.record.EntryOf.{EntryOf}
use Rattle.gp_sharing.specs.declared.sizes.Sizes.{Sizes}
use Rattle.gp_sharing.specs.Compacted.{own_steps, steps_in, with_entries}
use Rattle.gp_sharing.specs.Moving.{RoomFor, are_movable, first_own, front_of, moved_step, moves, place_of, step_eq, with_certificate, with_moved, with_step, with_steps}

-- a list begins with another
abbrev pub BeginsWith : List Step → List Step → Type 0
BeginsWith old list = (more : List Step) × (list ≡ old ++ more)

-- a list begins with itself, and beginnings add up
pub begins_itself : (list : List Step) → BeginsWith list list
begins_itself list = ([], sym (append-nil list))

pub begins_through : (first second third : List Step) → BeginsWith first second → BeginsWith second third → BeginsWith first third
begins_through first second third (more, one) (rest, other) =
    (more ++ rest, other ∙ ap (λ (xs : List Step). xs ++ rest) one ∙ append_assoc first more rest)

-- a list that begins with another is no shorter
pub begins_length : (first second : List Step) → BeginsWith first second → length first ≤ length second
begins_length first second (more, is) = let size : length second ≡ length first + length more = ap length is ∙ length-append first more in omega arith

-- a list with a step at its end or without begins with the list
pub step_begins : (list : List Step) (step : Step) → BeginsWith list (with_step list step)
step_begins list step = by (list_any (step_eq step) list)
  where
    by : (b : Bool) → BeginsWith list (if b then list else (list ++ step ∷ []))
    by true = begins_itself list
    by false = (step ∷ [], refl)

pub moved_begins : (sizes : Sizes) (list : List Step) (places : List (Option ℕ)) (step : Step) → BeginsWith list (with_moved sizes list places step)
moved_begins sizes list places step = by (moves sizes places step)
  where
    by : (b : Bool) → BeginsWith list (if b then with_step list (moved_step sizes places step) else list)
    by true = step_begins list (moved_step sizes places step)
    by false = begins_itself list

pub steps_begin : (sizes : Sizes) (list : List Step) (places : List (Option ℕ)) (steps : List Step) → BeginsWith list (with_steps sizes list places steps)
steps_begin sizes list places [] = begins_itself list
steps_begin sizes list places (step ∷ steps) =
    let more = with_moved sizes list places step in
    begins_through list more (with_steps sizes more (places ++ place_of sizes more places step ∷ []) steps)
    (moved_begins sizes list places step) (steps_begin sizes more (places ++ place_of sizes more places step ∷ []) steps)

pub certificate_begins : (sizes : Sizes) (list steps : List Step) → BeginsWith list (with_certificate sizes list steps)
certificate_begins sizes list steps = by (are_movable (first_own sizes) steps)
  where
    by : (b : Bool) → BeginsWith list (if b then with_steps sizes list [] (front_of steps) else list)
    by true = steps_begin sizes list [] (front_of steps)
    by false = begins_itself list

-- with each step a list gains one or none
pub step_adds : (list : List Step) (step : Step) → length (with_step list step) ≤ length list + 1
step_adds list step = by (list_any (step_eq step) list)
  where
    by : (b : Bool) → length (if b then list else (list ++ step ∷ [])) ≤ length list + 1
    by true = omega arith
    by false = omega (arith, length-append list (step ∷ []))

pub moved_adds : (sizes : Sizes) (list : List Step) (places : List (Option ℕ)) (step : Step) → length (with_moved sizes list places step) ≤ length list + 1
moved_adds sizes list places step = by (moves sizes places step)
  where
    by : (b : Bool) → length (if b then with_step list (moved_step sizes places step) else list) ≤ length list + 1
    by true = step_adds list (moved_step sizes places step)
    by false = omega arith

pub steps_add : (sizes : Sizes) (list : List Step) (places : List (Option ℕ)) (steps : List Step) → length (with_steps sizes list places steps) ≤ length list + length steps
steps_add sizes list places [] = omega arith
steps_add sizes list places (step ∷ steps) =
    let more = with_moved sizes list places step in
    omega (arith, moved_adds sizes list places step, steps_add sizes more (places ++ place_of sizes more places step ∷ []) steps)

pub certificate_adds : (sizes : Sizes) (list steps : List Step) → length (with_certificate sizes list steps) ≤ length list + length steps
certificate_adds sizes list steps = by (are_movable (first_own sizes) steps)
  where
    by : (b : Bool) → length (if b then with_steps sizes list [] (front_of steps) else list) ≤ length list + length steps
    by true = omega (arith, steps_add sizes list [] (front_of steps), length-take (length steps - 1) steps)
    by false = omega arith

pub certificate_grows : (sizes : Sizes) (list steps : List Step) → length list ≤ length (with_certificate sizes list steps)
certificate_grows sizes list steps = begins_length list (with_certificate sizes list steps) (certificate_begins sizes list steps)

-- a certificate that is not movable adds nothing
pub nothing_added : (sizes : Sizes) (list steps : List Step) → are_movable (first_own sizes) steps ≡ false → with_certificate sizes list steps ≡ list
nothing_added sizes list steps fixed = rw fixed refl

abbrev pub own_count : {Shown : Type 0} → EntryOf Shown → ℕ
own_count entry = length (own_steps entry.answer)

pub entries_add : {Shown : Type 0} (sizes : Sizes) (list : List Step) (entries : List (EntryOf Shown)) → length (with_entries sizes list entries) ≤ length list + steps_in entries
entries_add sizes list [] = omega arith
entries_add sizes list (entry ∷ entries) =
    let more = with_certificate sizes list (own_steps entry.answer) in
    omega (arith, certificate_adds sizes list (own_steps entry.answer), entries_add sizes more entries, sum_by-cons own_count entry entries)

-- the entries of two lists, one after the other
pub entries_parted : {Shown : Type 0} (sizes : Sizes) (list : List Step) (entries more : List (EntryOf Shown)) → with_entries sizes list (entries ++ more) ≡ with_entries sizes (with_entries sizes list entries) more
entries_parted {Shown} sizes list entries more = fold-append (λ (xs : List Step) (entry : EntryOf Shown). with_certificate sizes xs (own_steps entry.answer)) list entries more

pub steps_parted : {Shown : Type 0} (entries more : List (EntryOf Shown)) → steps_in (entries ++ more) ≡ steps_in entries + steps_in more
steps_parted entries more = sum_by-append own_count entries more

-- a list begins with the shared steps to which the certificates of entries add
pub entries_begin : {Shown : Type 0} (sizes : Sizes) (list : List Step) (entries : List (EntryOf Shown)) → BeginsWith list (with_entries sizes list entries)
entries_begin sizes list [] = begins_itself list
entries_begin sizes list (entry ∷ entries) =
    let more = with_certificate sizes list (own_steps entry.answer) in
    begins_through list more (with_entries sizes more entries) (certificate_begins sizes list (own_steps entry.answer)) (entries_begin sizes more entries)

-- where all are few, certificates of all steps can be numbered over the whole list
pub list_has_room : {Shown : Type 0} (sizes : Sizes) (shared : List Step) (entries : List (EntryOf Shown)) → sizes.shared ≡ length shared → first_own sizes + steps_in entries < 2 ^ 31
    → RoomFor sizes (with_entries sizes shared entries) (steps_in entries)
list_has_room sizes shared entries size few =
    let most = entries_add sizes shared entries in
    let least = begins_length shared (with_entries sizes shared entries) (entries_begin sizes shared entries) in
    record { few = omega (arith, few, size, most); more = omega (arith, size, least) }

-- with a certificate that is not movable there is room for its own steps
abbrev pub HasRoom : {Shown : Type 0} → Sizes → List Step → ℕ → EntryOf Shown → Type 0
HasRoom sizes list most entry = are_movable (first_own sizes) (own_steps entry.answer) ≡ false → length list + length (own_steps entry.answer) ≤ most

pub entries_leave_room : {Shown : Type 0} (sizes : Sizes) (list : List Step) (entries : List (EntryOf Shown)) → All (HasRoom sizes (with_entries sizes list entries) (length list + steps_in entries)) entries
entries_leave_room {Shown} sizes list [] = All-nil (HasRoom sizes list (length list + steps_in {Shown = Shown} []))
entries_leave_room sizes list (entry ∷ entries) =
    let more = with_certificate sizes list (own_steps entry.answer) in
    let all = with_entries sizes more entries in
    let most = length list + steps_in (entry ∷ entries) in
    All-cons (HasRoom sizes all most) entry entries here
    (All-weaker (HasRoom sizes all (length more + steps_in entries)) (HasRoom sizes all most)
    (λ other room fixed. let left = room fixed in omega (arith, left, certificate_adds sizes list (own_steps entry.answer), sum_by-cons own_count entry entries)) entries (entries_leave_room sizes more entries))
  where
    here : HasRoom sizes (with_entries sizes (with_certificate sizes list (own_steps entry.answer)) entries) (length list + steps_in (entry ∷ entries)) entry
    here fixed =
        let same : with_certificate sizes list (own_steps entry.answer) ≡ list = nothing_added sizes list (own_steps entry.answer) fixed in
        let size : length (with_certificate sizes list (own_steps entry.answer)) ≡ length list = ap length same in
        omega (arith, size, entries_add sizes (with_certificate sizes list (own_steps entry.answer)) entries, sum_by-cons own_count entry entries)
