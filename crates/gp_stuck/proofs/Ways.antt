-- How events wait, one after another: what holds of each so far, and which links there are.
use Rattle.std.proofs.Common.{ℕ, suc, zero, ◌+◌, ◌<◌, ◌≤◌, ◌≡◌, ap, sym, ◌∙◌, refl, subst, inl, inr, Bool, true, false, List, [], ◌∷◌, ◌++◌, get_or, length, eqb-true}
use Rattle.std.specs.Prelude.{Option, Some, None, ◌==◌, ◌&&◌, Contains, filter, if◌then◌else◌, slice_get, take}
use Rattle.std.specs.BTreeMap.{is_at}
use Rattle.std.specs.Cmp.Lexicographic.{slice_cmp}
use Rattle.std.specs.List.{list_any}
use Rattle.std.specs.Ordering.{nat_cmp}
use Rattle.std.specs.Str.{bytes_eq}
use Rattle.std.proofs.lemmas.Bool.{and_parts, cases_Bool, or_cases, or_left, or_right}
use Rattle.std.proofs.lemmas.List.{take_all, take_more}
use Rattle.std.proofs.lemmas.List.Elements.{Contains-append_left, Contains-append_right}
use Rattle.std.proofs.lemmas.Map.Entries.{place_from_lookup}
use Rattle.std.proofs.lemmas.Map.Text.{is_eq-slice_cmp}
use Rattle.std.proofs.lemmas.Slice.Eq.{bytes_eq-Decides}
use Rattle.gp_base.specs.FilterLaws.{contains_filter}
use Rattle.gp_base.specs.ListLaws.{contains_flat_map, contains_from_flat_map, contains_got, contains_parts, first_or_rest, here, nothing_in, there}
use Rattle.gp_trace.specs.declared.event.Event.{Event}
use Rattle.gp_trace.specs.declared.lock_use.LockMode.{LockMode}
use Rattle.gp_trace.specs.declared.lock_use.LockMode.TheVariants.{Exclusive, Shared}
use Rattle.gp_trace.specs.declared.lock_use.LockUse.{LockUse}
use Rattle.gp_trace.specs.declared.lock_use.LockUse.TheVariants.{Take}
use Rattle.gp_trace.specs.LockUse.{HeldLocks, held_after_use, mode_held}
use Rattle.gp_window.specs.declared.schedule.EventId.{EventId}
use Rattle.gp_window.specs.Events.{segment_of}
use Rattle.gp_window.specs.Formed.{mode_at_start}
use Rattle.gp_window.specs.IdLaws.{same_id, same_itself}
use Rattle.gp_window.specs.Ids.{is_same}
use Rattle.gp_window.specs.Modes.{mode_after, mode_after_use, mode_before}
use Rattle.gp_window.specs.ModesLaws.{mode_next, mode_used}
use Rattle.gp_window.specs.WindowForm.{WindowForm}
use Rattle.gp_replay.specs.LockUses.{use_at, use_of}
use Rattle.gp_constraint.specs.PointLaws.{event_id}
use Rattle.gp_constraint.specs.Sections.{same_mode}
use Rattle.gp_stuck.specs.declared.holder.Holder.{Holder}
use Rattle.gp_stuck.specs.declared.link.Link.{Link}
use Rattle.gp_stuck.specs.Cycle.{may_be_next}
use Rattle.gp_stuck.specs.Links.{is_same_link, link_of}
use Rattle.gp_stuck.specs.Noted.{AreNoted, HoldsNothing}

-- what holds of each element so far, and of the next one
pub each_more : {X : Type 0} (P : X → Type 0) (xs : List X) (i : ℕ) (d : X) → i < length xs → ((x : X) → Contains (take i xs) x → P x) → P (get_or xs i d)
    → (x : X) → Contains (take (i + 1) xs) x → P x
each_more P xs i d below before own x among =
    elim (contains_parts x (get_or xs i d) (take i xs) [] (subst (λ ys. Contains ys x) (take_more xs i d below) among)) [
      | inl old ↦ before x old
      | inr new ↦ elim new [ inl same ↦ subst P same own | inr none ↦ absurd (nothing_in x none) ]
    ]

-- and at the end of each
pub each_all : {X : Type 0} (P : X → Type 0) (xs : List X) (i : ℕ) → length xs ≤ i → ((x : X) → Contains (take i xs) x → P x) → (x : X) → Contains xs x → P x
each_all P xs i past before x among = before x (subst (λ ys. Contains ys x) (sym (take_all i xs past)) among)

-- some element passes a test, and the other way round
pub any_there : {X : Type 0} (p : X → Bool) (xs : List X) (x : X) → Contains xs x → p x ≡ true → list_any p xs ≡ true
any_there p [] x i passes = absurd (nothing_in x i)
any_there p (first ∷ xs) x i passes =
    elim (first_or_rest first xs x i) [
      | inl same ↦ or_left (p first) (list_any p xs) (ap p same ∙ passes)
      | inr more ↦ or_right (p first) (list_any p xs) (any_there p xs x more passes)
    ]

pub any_told : {X : Type 0} (p : X → Bool) (xs : List X) → list_any p xs ≡ true → (x : X) × Contains xs x × (p x ≡ true)
any_told p [] e = cc
any_told p (first ∷ xs) e =
    elim (or_cases (p first) (list_any p xs) e) [
      | inl own ↦ (first, here first xs, own)
      | inr more ↦ (let rest = any_told p xs more in (rest.0, there first xs rest.0 rest.1, rest.2))
    ]

-- nothing stands at a place past the end
take_past : {X : Type 0} (xs : List X) (k : ℕ) → slice_get xs k ≡ None → take (suc k) xs ≡ take k xs
take_past [] zero e = refl
take_past [] (suc k) e = refl
take_past (x ∷ xs) zero e = cc
take_past (x ∷ xs) (suc k) e = ap (λ rest. x ∷ rest) (take_past xs k e)

-- how a lock is held after what stands at a place, where something does
used_next : (lock : List ℕ) (before : Option LockMode) (events : List Event) (k : ℕ) (found : Option Event) → slice_get events k ≡ found
    → mode_after_use lock (mode_after lock before (take k events)) (use_of found) ≡ mode_after lock before (take (suc k) events)
used_next lock before events k None is = ap (mode_after lock before) (sym (take_past events k is))
used_next lock before events k (Some event) is = sym (mode_next lock before events k event is)

pub held_next : (window : WindowForm) (thread k next : ℕ) (old new : HeldLocks) → next ≡ suc k → new ≡ held_after_use old (use_at window (event_id thread k))
    → ((lock : List ℕ) → mode_held old lock ≡ mode_after lock (mode_at_start window thread lock) (take k (segment_of window thread)))
    → (lock : List ℕ) → mode_held new lock ≡ mode_after lock (mode_at_start window thread lock) (take next (segment_of window thread))
held_next window thread k next old new more is told lock =
    ap (λ (held : HeldLocks). mode_held held lock) is
    ∙ mode_used old (use_at window (event_id thread k)) lock
    ∙ ap (λ before. mode_after_use lock before (use_at window (event_id thread k))) (told lock)
    ∙ used_next lock (mode_at_start window thread lock) (segment_of window thread) k (slice_get (segment_of window thread) k) refl
    ∙ ap (λ n. mode_after lock (mode_at_start window thread lock) (take n (segment_of window thread))) (sym more)

-- a lock that is held stands in the table, as it is held
pub held_entry : (held : HeldLocks) (lock : List ℕ) (mode : LockMode) → mode_held held lock ≡ Some mode → Contains held (lock, mode)
held_entry held lock mode e =
    let place = place_from_lookup (is_at (slice_cmp nat_cmp lock)) held mode e in
    let same : lock ≡ place.1 = (bytes_eq-Decides lock place.1).0 (sym (is_eq-slice_cmp lock place.1) ∙ place.3) in
    subst (λ name. Contains held (name, mode)) (sym same) (contains_got held place.0 (place.1, mode) place.2)

same_modes : (one other : LockMode) → same_mode one other ≡ true → one ≡ other
same_modes Exclusive Exclusive e = refl
same_modes Shared Shared e = refl
same_modes Exclusive Shared e = cc
same_modes Shared Exclusive e = cc

-- links whose tests are the same are one
same_link : (one other : Link) → is_same_link one other ≡ true → one ≡ other
same_link one other e =
    let thread = and_parts (one.thread == other.thread) (bytes_eq one.held other.held && (same_mode one.mode other.mode && (bytes_eq one.lock other.lock && same_mode one.wanted other.wanted))) e in
    let held = and_parts (bytes_eq one.held other.held) (same_mode one.mode other.mode && (bytes_eq one.lock other.lock && same_mode one.wanted other.wanted)) thread.1 in
    let mode = and_parts (same_mode one.mode other.mode) (bytes_eq one.lock other.lock && same_mode one.wanted other.wanted) held.1 in
    let lock = and_parts (bytes_eq one.lock other.lock) (same_mode one.wanted other.wanted) mode.1 in
    ap (λ t. record { thread = t; held = one.held; mode = one.mode; lock = one.lock; wanted = one.wanted }) (eqb-true one.thread other.thread thread.0)
    ∙ ap (λ h. record { thread = other.thread; held = h; mode = one.mode; lock = one.lock; wanted = one.wanted }) ((bytes_eq-Decides one.held other.held).0 held.0)
    ∙ ap (λ m. record { thread = other.thread; held = other.held; mode = m; lock = one.lock; wanted = one.wanted }) (same_modes one.mode other.mode mode.0)
    ∙ ap (λ l. record { thread = other.thread; held = other.held; mode = other.mode; lock = l; wanted = one.wanted }) ((bytes_eq-Decides one.lock other.lock).0 lock.0)
    ∙ ap (λ w. record { thread = other.thread; held = other.held; mode = other.mode; lock = other.lock; wanted = w }) (same_modes one.wanted other.wanted lock.1)

pub link_there : (links : List Link) (link : Link) → list_any (λ one. is_same_link one link) links ≡ true → Contains links link
link_there links link e =
    let found = any_told (λ one. is_same_link one link) links e in
    subst (Contains links) (same_link found.0 link found.2) found.1

-- all events are noted that may be the next of their threads and whose threads hold a lock
abbrev only : EventId → EventId → List (List EventId)
only id one = if is_same one id then [] ∷ [] else []

only_told : (id one : EventId) (b : Bool) → is_same one id ≡ b → Contains (only id one) [] → one ≡ id
only_told id one true same i = same_id one id same
only_told id one false same i = absurd (nothing_in [] (rw same at i))

pub all_noted : (window : WindowForm) (takers starts : List EventId) (holders : List (List ℕ × List Holder)) → AreNoted window takers starts holders
    → (id : EventId) (lock : List ℕ) (mode : LockMode) → Contains takers id → may_be_next window id ≡ true → mode_before window id lock ≡ Some mode → Contains starts id
all_noted window takers starts holders noted id lock mode among may holds =
    let nothing : (one : EventId) → HoldsNothing window one → only id one ≡ [] = λ one none.
    elim (cases_Bool (is_same one id)) [
      | inl same ↦ (let is = same_id one id same in let free = none lock in absurd (cc))
      | inr apart ↦ rw apart refl
    ] in
    let same = same_itself id in
    let own : Contains (only id id) [] = rw same (here [] []) in
    let there_too = contains_flat_map (only id) (filter (may_be_next window) takers) id [] (contains_filter (may_be_next window) takers id among may) own in
    let found = contains_from_flat_map (only id) starts [] (subst (λ lists. Contains lists []) (sym (noted.begun (only id) nothing)) there_too) in
    subst (Contains starts) (only_told id found.0 (is_same found.0 id) refl found.2) found.1

-- what is pushed at a name stands there, and what stood at any name still does
pub pushed : {X : Type 0} (old new : List X) (name : List ℕ) (value : X) → new ≡ old ++ (if bytes_eq name name then value ∷ [] else []) → Contains new value
pushed old new name value is =
    let same : bytes_eq name name ≡ true = (bytes_eq-Decides name name).1 refl in
    subst (λ all. Contains all value) (sym is) (Contains-append_right old (if bytes_eq name name then value ∷ [] else []) value (rw same (here value [])))

pub kept_at : {X : Type 0} (old new more : List X) (value : X) → new ≡ old ++ more → Contains old value → Contains new value
kept_at old new more value is among = subst (λ all. Contains all value) (sym is) (Contains-append_left old more value among)

-- a link by what is known of it
pub link_is : (link : Link) (thread : ℕ) (lock : List ℕ) (wanted : LockMode) → link.thread ≡ thread → ◌≡◌ {A = Option LockUse} (Some (Take link.wanted link.lock)) (Some (Take wanted lock))
    → link_of thread lock wanted (link.held, link.mode) ≡ link
link_is link thread lock wanted same takes =
    let mode : link.wanted ≡ wanted = cc in
    let name : link.lock ≡ lock = cc in
    ap (λ t. link_of t lock wanted (link.held, link.mode)) (sym same)
    ∙ ap (λ l. link_of link.thread l wanted (link.held, link.mode)) (sym name)
    ∙ ap (λ w. link_of link.thread link.lock w (link.held, link.mode)) (sym mode)
