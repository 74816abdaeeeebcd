-- Those that hold a lock are all that may follow an event that takes it.
use Rattle.std.proofs.Common.{ℕ, suc, ◌+◌, ◌<◌, ◌≡◌, ap, sym, ◌∙◌, refl, Bool, true, false, cond, List, [], ◌∷◌, ◌++◌, append_assoc, arith, drop, get_or, length, map}
use Rattle.std.specs.Prelude.{Option, Some, None, ◌&&◌, filter, if◌then◌else◌, nat_lt}
use Rattle.std.specs.List.{flat_map, list_all}
use Rattle.std.proofs.Math.Seq.{drop-cons}
use Rattle.std.proofs.lemmas.Grind.{flat_map-append}
use Rattle.std.proofs.lemmas.List.{append-nil, map-append}
use Rattle.std.proofs.lemmas.List.Elements.{filter-append}
use Rattle.gp_trace.specs.declared.lock_use.LockMode.{LockMode}
use Rattle.gp_trace.specs.declared.lock_use.LockUse.{LockUse}
use Rattle.gp_trace.specs.declared.lock_use.LockUse.TheVariants.{Take}
use Rattle.gp_window.specs.declared.schedule.EventId.{EventId}
use Rattle.gp_window.specs.Modes.{mode_before}
use Rattle.gp_window.specs.WindowForm.{WindowForm}
use Rattle.gp_replay.specs.LockUses.{use_at}
use Rattle.gp_constraint.specs.Sections.{exclude}
use Rattle.gp_stuck.specs.declared.holder.Holder.{Holder}
use Rattle.gp_stuck.specs.Cycle.{are_apart, keeps_out, may_be_next, waits_by, waits_for}
use Rattle.gp_stuck.specs.Noted.{holder_with, holders_of, may_stand, standing}
use Rattle.gp_stuck.specs.Search.{may_follow}

-- the test of an event that would follow one that uses a lock so
abbrev follows_use : WindowForm → Option LockUse → EventId → List EventId → EventId → Bool
follows_use window lock_use first passed id =
    nat_lt first.thread id.thread && (list_all (λ other. are_apart other id) passed && (may_be_next window id && waits_by window lock_use id))

never : (a b c w : Bool) → w ≡ false → (a && (b && (c && w))) ≡ false
never true true true w e = e
never true true false w e = refl
never true false c w e = refl
never false b c w e = refl

-- of one event
one_stands : (window : WindowForm) (mode : LockMode) (lock : List ℕ) (first : EventId) (passed : List EventId) (id : EventId) (held : Option LockMode) → mode_before window id lock ≡ held
    → standing window mode first passed (holder_with id held) ≡ (if follows_use window (Some (Take mode lock)) first passed id then id ∷ [] else [])
one_stands window mode lock first passed id None is =
    let waits : waits_by window (Some (Take mode lock)) id ≡ false = ap (keeps_out mode) is in
    ap (λ b. if b then id ∷ [] else [])
    (sym (never (nat_lt first.thread id.thread) (list_all (λ other. are_apart other id) passed) (may_be_next window id) (waits_by window (Some (Take mode lock)) id) waits))
one_stands window mode lock first passed id (Some how) is =
    let test : Bool → Bool = λ w. nat_lt first.thread id.thread && (list_all (λ other. are_apart other id) passed && (may_be_next window id && w)) in
    let waits : waits_by window (Some (Take mode lock)) id ≡ exclude how mode = ap (keeps_out mode) is in
    kept (test (exclude how mode)) ∙ ap (λ w. if test w then id ∷ [] else []) (sym waits)
  where
    kept : (b : Bool) → map (λ (holder : Holder). holder.id) (if b then record { id = id; mode = how } ∷ [] else []) ≡ (if b then id ∷ [] else [])
    kept true = refl
    kept false = refl

stands_all : (window : WindowForm) (mode : LockMode) (lock : List ℕ) (first : EventId) (passed ids : List EventId)
    → standing window mode first passed (holders_of window lock ids) ≡ filter (follows_use window (Some (Take mode lock)) first passed) ids
stands_all window mode lock first passed [] = refl
stands_all window mode lock first passed (id ∷ ids) =
    let here : List Holder = holder_with id (mode_before window id lock) in
    let more : List Holder = holders_of window lock ids in
    ap (map (λ (holder : Holder). holder.id)) (filter-append (may_stand window mode first passed) here more)
    ∙ map-append (λ (holder : Holder). holder.id) (filter (may_stand window mode first passed) here) (filter (may_stand window mode first passed) more)
    ∙ ap (λ front. front ++ standing window mode first passed more) (one_stands window mode lock first passed id (mode_before window id lock) refl)
    ∙ ap (λ back. (if follows_use window (Some (Take mode lock)) first passed id then id ∷ [] else []) ++ back) (stands_all window mode lock first passed ids)
    ∙ joined (follows_use window (Some (Take mode lock)) first passed id) id (filter (follows_use window (Some (Take mode lock)) first passed) ids)
  where
    joined : (b : Bool) (one : EventId) (rest : List EventId) → (if b then one ∷ [] else []) ++ rest ≡ (if b then one ∷ rest else rest)
    joined true one rest = refl
    joined false one rest = refl

-- all that hold the lock are all that may follow the event that takes it
pub stand_after : (window : WindowForm) (mode : LockMode) (lock : List ℕ) (first : EventId) (passed : List EventId) (last : EventId) (ids : List EventId)
    → use_at window last ≡ Some (Take mode lock)
    → standing window mode first passed (holders_of window lock ids) ≡ filter (may_follow window first passed last) ids
stand_after window mode lock first passed last ids takes =
    stands_all window mode lock first passed ids ∙ ap (λ lock_use. filter (follows_use window lock_use first passed) ids) (sym takes)

-- none may follow an event that takes no lock
pub none_follow : (window : WindowForm) (first : EventId) (passed : List EventId) (last : EventId) (ids : List EventId) → ((other : EventId) → waits_for window last other ≡ false)
    → [] ≡ filter (may_follow window first passed last) ids
none_follow window first passed last [] none = refl
none_follow window first passed last (id ∷ ids) none =
    let off : may_follow window first passed last id ≡ false =
    never (nat_lt first.thread id.thread) (list_all (λ other. are_apart other id) passed) (may_be_next window id) (waits_for window last id) (none id) in
    rw off (none_follow window first passed last ids none)

-- an event that is entered, or may not stand, or that nothing goes on with
pub entered : (go : EventId → List (List EventId)) (id : EventId) (enters stands : Bool) → stands ≡ true → (enters ≡ false → go id ≡ [])
    → flat_map go (if enters then id ∷ [] else []) ≡ flat_map go (if stands then id ∷ [] else [])
entered go id true stands may none = ap (λ b. flat_map go (if b then id ∷ [] else [])) (sym may)
entered go id false stands may none = sym (ap (λ b. flat_map go (if b then id ∷ [] else [])) may ∙ append-nil (go id) ∙ none refl)

-- the first that holds the lock, and the others
standing_more : (window : WindowForm) (mode : LockMode) (first : EventId) (passed : List EventId) (holder : Holder) (holders : List Holder)
    → standing window mode first passed (holder ∷ holders) ≡ (if may_stand window mode first passed holder then holder.id ∷ [] else []) ++ standing window mode first passed holders
standing_more window mode first passed holder holders = either (may_stand window mode first passed holder) (filter (may_stand window mode first passed) holders)
  where
    either : (b : Bool) (rest : List Holder) → map (λ (one : Holder). one.id) (cond b (holder ∷ rest) rest) ≡ (if b then holder.id ∷ [] else []) ++ map (λ (one : Holder). one.id) rest
    either true rest = refl
    either false rest = refl

-- one that holds the lock more, where what is kept of it goes on as it does itself
pub standing_step : (go : EventId → List (List EventId)) (window : WindowForm) (mode : LockMode) (first : EventId) (passed : List EventId) (holders : List Holder) (i : ℕ) (d : Holder)
    (kept new : List EventId) (keep : Bool) (all : List (List EventId)) → i < length holders → new ≡ kept ++ (if keep then (get_or holders i d).id ∷ [] else [])
    → flat_map go (if keep then (get_or holders i d).id ∷ [] else []) ≡ flat_map go (if may_stand window mode first passed (get_or holders i d) then (get_or holders i d).id ∷ [] else [])
    → flat_map go kept ++ flat_map go (standing window mode first passed (drop i holders)) ≡ all
    → flat_map go new ++ flat_map go (standing window mode first passed (drop (i + 1) holders)) ≡ all
standing_step go window mode first passed holders i d kept new keep all below is same walk =
    let holder : Holder = get_or holders i d in
    let rest : List EventId = standing window mode first passed (drop (i + 1) holders) in
    let own : List EventId = if keep then holder.id ∷ [] else [] in
    let stands : List EventId = if may_stand window mode first passed holder then holder.id ∷ [] else [] in
    let one_more : suc i ≡ i + 1 = omega arith in
    let parts : drop i holders ≡ holder ∷ drop (i + 1) holders = drop-cons holders i d below ∙ ap (λ n. holder ∷ drop n holders) one_more in
    ap (λ ids. flat_map go ids ++ flat_map go rest) is
    ∙ ap (λ front. front ++ flat_map go rest) (flat_map-append go kept own)
    ∙ append_assoc (flat_map go kept) (flat_map go own) (flat_map go rest)
    ∙ ap (λ middle. flat_map go kept ++ (middle ++ flat_map go rest)) same
    ∙ ap (λ back. flat_map go kept ++ back) (sym (flat_map-append go stands rest))
    ∙ ap (λ ids. flat_map go kept ++ flat_map go ids) (sym (standing_more window mode first passed holder (drop (i + 1) holders)))
    ∙ ap (λ left. flat_map go kept ++ flat_map go (standing window mode first passed left)) (sym parts)
    ∙ walk
