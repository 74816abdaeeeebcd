-- Where no thread is noted that may close a chain, no events complete it.
use Rattle.std.proofs.Common.{ℕ, zero, suc, ◌≡◌, ◌<◌, ◌≤◌, ap, sym, ◌∙◌, refl, subst, Bool, true, false, List, [], ◌∷◌, ◌++◌, length, arith, map, eqb-true}
use Rattle.std.specs.Prelude.{Option, Some, None, ◌==◌, ◌&&◌, ◌||◌, not, Contains, filter, nat_lt}
use Rattle.std.specs.List.{flat_map, list_all, list_any}
use Rattle.std.specs.Str.{bytes_eq}
use Rattle.std.proofs.lemmas.Bool.{and_from, and_parts, false_from_ne_true, lt-ltb, ltb-false, or_parts, true≢false}
use Rattle.std.proofs.lemmas.Slice.Eq.{bytes_eq-Decides}
use Rattle.gp_base.specs.FilterLaws.{contains_from_filter}
use Rattle.gp_base.specs.ListLaws.{here, there}
use Rattle.gp_trace.specs.declared.lock_use.LockMode.{LockMode}
use Rattle.gp_trace.specs.declared.lock_use.LockUse.{LockUse}
use Rattle.gp_trace.specs.declared.lock_use.LockUse.TheVariants.{Take, GiveBack}
use Rattle.gp_trace.specs.LockUse.{mode_held}
use Rattle.gp_window.specs.declared.schedule.EventId.{EventId}
use Rattle.gp_window.specs.Modes.{mode_before}
use Rattle.gp_window.specs.WindowForm.{WindowForm}
use Rattle.gp_instance.specs.Instances.{ids_of}
use Rattle.gp_replay.specs.LockUses.{use_at}
use Rattle.gp_constraint.specs.Sections.{exclude}
use Rattle.gp_constraint.specs.Tables.{entry_at}
use Rattle.gp_stuck.specs.declared.first.First.{First}
use Rattle.gp_stuck.specs.declared.link.Closer.{Closer}
use Rattle.gp_stuck.specs.declared.link.Link.{Link}
use Rattle.gp_stuck.specs.declared.link.Others.{Others}
use Rattle.gp_stuck.specs.declared.link.Others.TheVariants.{Nobody, One, Several}
use Rattle.gp_stuck.specs.declared.link.Step.{Step}
use Rattle.gp_stuck.specs.Closing.{IsNarrowed, closer_of, has_other, is_clear, may_be_second, may_close, one_closes, some_clear, two_close}
use Rattle.gp_stuck.specs.Cycle.{are_apart, keeps_out, waits_by, waits_for}
use Rattle.gp_stuck.specs.Links.{AreLinked, IsHolding, IsLink, link_of}
use Rattle.gp_stuck.specs.Search.{closed, completions, going_on, is_take, may_follow, takers_of, takes_lock}
use Rattle.gp_stuck.proofs.Blocked.{kept_from}
use Rattle.gp_stuck.proofs.Chains.{clear_more, follow_told}
use Rattle.gp_stuck.proofs.Notes.{closed_none}
use Rattle.gp_stuck.proofs.Ways.{any_there, any_told}

flat_map_none : {X Y : Type 0} (f : X → List Y) (xs : List X) → ((x : X) → Contains xs x → f x ≡ []) → flat_map f xs ≡ []
flat_map_none f [] none = refl
flat_map_none f (x ∷ xs) none = ap (λ front. front ++ flat_map f xs) (none x (here x xs)) ∙ flat_map_none f xs (λ y i. none y (there x xs y i))

-- a chain that is not closed, and that no event completes which may follow
none_more : (window : WindowForm) (first : EventId) (passed : List EventId) (last : EventId) (n : ℕ) → closed window first passed last ≡ []
    → ((id : EventId) → Contains (takers_of window) id → may_follow window first passed last id ≡ true → completions window (takers_of window) first (passed ++ id ∷ []) id n ≡ [])
    → completions window (takers_of window) first passed last (suc n) ≡ []
none_more window first passed last n unclosed none =
    let nexts : List EventId = filter (may_follow window first passed last) (takers_of window) in
    ap (λ front. front ++ flat_map (going_on window first passed n) nexts) unclosed
    ∙ flat_map_none (going_on window first passed n) nexts (λ id i.
    let parts = contains_from_filter (may_follow window first passed last) (takers_of window) id i in
    ap (map (λ rest. id ∷ rest)) (none id parts.0 parts.1))

takes_told : (lock_use : Option LockUse) → is_take lock_use ≡ true → (mode : LockMode) × (lock : List ℕ) × (lock_use ≡ Some (Take mode lock))
takes_told (Some (Take mode lock)) e = (mode, lock, refl)
takes_told (Some (GiveBack mode lock)) e = cc
takes_told None e = cc

-- what may follow an event that takes a lock waits for some lock itself, while its thread holds this one
record FollowsBy (window : WindowForm) (mode : LockMode) (lock : List ℕ) (first : EventId) (passed : List EventId) (id : EventId) : Type 0 where
  how : LockMode
  wanted : LockMode
  wants : List ℕ
  above : nat_lt first.thread id.thread ≡ true
  clear : list_all (λ other. are_apart other id) passed ≡ true
  against : exclude how mode ≡ true
  takes : use_at window id ≡ Some (Take wanted wants)
  is : IsLink window (link_of id.thread wants wanted (lock, how)) id

follows_by : (window : WindowForm) (mode : LockMode) (lock : List ℕ) (first : EventId) (passed : List EventId) (last id : EventId) → use_at window last ≡ Some (Take mode lock)
    → Contains (takers_of window) id → may_follow window first passed last id ≡ true → FollowsBy window mode lock first passed id
follows_by window mode lock first passed last id takes among may =
    let follows = follow_told window first passed last id may in
    let waits : waits_by window (Some (Take mode lock)) id ≡ true = subst (λ lock_use. waits_by window lock_use id ≡ true) takes follows.waits in
    let kept = kept_from mode (mode_before window id lock) waits in
    let own = takes_told (use_at window id) (contains_from_filter (takes_lock window) (ids_of window.segments) id among).1 in
    record {
      how = kept.0;
      wanted = own.0;
      wants = own.1;
      above = follows.above;
      clear = follows.clear;
      against = kept.2;
      takes = own.2;
      is = record { thread = refl; may = follows.may; holds = kept.1; takes = own.2 };
    }

-- a chain does not close at an event whose lock the first one does not hold against it
not_closed : (window : WindowForm) (first : First) (passed : List EventId) (id : EventId) (mode : LockMode) (lock : List ℕ) → IsHolding window first.holding
    → use_at window id ≡ Some (Take mode lock) → keeps_out mode (mode_held first.holding.held lock) ≡ false → closed window first.holding.id passed id ≡ []
not_closed window first passed id mode lock holding takes free =
    closed_none (nat_lt 0 (length passed)) (waits_for window id first.holding.id)
    (ap (λ lock_use. waits_by window lock_use first.holding.id) takes ∙ ap (keeps_out mode) (sym (holding lock)) ∙ free)

-- a thread that is none of those of a chain and its last event
clear_both : (passed : List EventId) (id : EventId) (thread : ℕ) → list_all (λ other. not (other.thread == thread)) (passed ++ id ∷ []) ≡ true → is_clear passed id.thread thread ≡ true
clear_both passed id thread clear =
    let one : EventId = record { thread = thread; index = 0 } in
    sym (clear_more passed id one) ∙ clear

some_from : (passed : List EventId) (own : ℕ) (others : Others) (thread : ℕ) → has_other others thread ≡ true → is_clear passed own thread ≡ true → some_clear passed own others ≡ true
some_from passed own Nobody thread has clear = cc
some_from passed own (One other) thread has clear = ap (is_clear passed own) (eqb-true other thread has) ∙ clear
some_from passed own Several thread has clear = refl

-- no event that follows waits for the first one, where no thread is noted that closes
none_waits : (window : WindowForm) (first : First) (passed : List EventId) (id : EventId) (mode : LockMode) (lock : List ℕ) → IsNarrowed window first
    → one_closes first.closers passed id.thread mode lock ≡ false
    → (next : EventId) → Contains (takers_of window) next → (way : FollowsBy window mode lock first.holding.id (passed ++ id ∷ []) next)
    → keeps_out way.wanted (mode_held first.holding.held way.wants) ≡ false
none_waits window first passed id mode lock is one next among way =
    false_from_ne_true (keeps_out way.wanted (mode_held first.holding.held way.wants)) (λ waits.
    let link : Link = link_of next.thread way.wants way.wanted (lock, way.how) in
    let there_too = is.closers link (is.linked link next among way.is) way.above waits in
    let passes = and_from (exclude way.how mode) (is_clear passed id.thread next.thread) way.against (clear_both passed id next.thread way.clear) in
    true≢false (sym (any_there (λ (closer : Closer). exclude closer.mode mode && is_clear passed id.thread closer.thread) (entry_at first.closers lock) (closer_of link) there_too passes) ∙ one))

none_one : (window : WindowForm) (first : First) (passed : List EventId) (id : EventId) (mode : LockMode) (lock : List ℕ) → IsNarrowed window first
    → use_at window id ≡ Some (Take mode lock) → keeps_out mode (mode_held first.holding.held lock) ≡ false → one_closes first.closers passed id.thread mode lock ≡ false
    → completions window (takers_of window) first.holding.id (passed ++ id ∷ []) id 1 ≡ []
none_one window first passed id mode lock is takes free one =
    none_more window first.holding.id (passed ++ id ∷ []) id 0 (not_closed window first (passed ++ id ∷ []) id mode lock is.holding takes free) (λ next among may.
    let way = follows_by window mode lock first.holding.id (passed ++ id ∷ []) id next takes among may in
    not_closed window first ((passed ++ id ∷ []) ++ next ∷ []) next way.wanted way.wants is.holding way.takes (none_waits window first passed id mode lock is one next among way))

-- no thread is noted that closes behind one that follows, where none is noted that comes before one that closes
none_behind : (window : WindowForm) (first : First) (passed : List EventId) (id : EventId) (mode : LockMode) (lock : List ℕ) → IsNarrowed window first
    → two_close first.steps passed id.thread mode lock ≡ false
    → (next : EventId) → Contains (takers_of window) next → (way : FollowsBy window mode lock first.holding.id (passed ++ id ∷ []) next)
    → one_closes first.closers (passed ++ id ∷ []) next.thread way.wanted way.wants ≡ false
none_behind window first passed id mode lock is two next among way =
    false_from_ne_true (one_closes first.closers (passed ++ id ∷ []) next.thread way.wanted way.wants) (λ closes.
    let link : Link = link_of next.thread way.wants way.wanted (lock, way.how) in
    let found = any_told (λ (closer : Closer). exclude closer.mode way.wanted && is_clear (passed ++ id ∷ []) next.thread closer.thread) (entry_at first.closers way.wants) closes in
    let closer : Closer = found.0 in
    let fits = and_parts (exclude closer.mode way.wanted) (is_clear (passed ++ id ∷ []) next.thread closer.thread) found.2 in
    let clear = and_parts (list_all (λ other. not (other.thread == closer.thread)) (passed ++ id ∷ [])) (not (next.thread == closer.thread)) fits.1 in
    let behind = and_from (exclude closer.mode way.wanted) (not (next.thread == closer.thread)) fits.0 clear.1 in
    let step = is.steps link (is.linked link next among way.is) way.above closer found.1 behind in
    let some = some_from passed id.thread step.0 closer.thread step.2 (clear_both passed id closer.thread clear.0) in
    let passes = and_from (exclude way.how mode) (is_clear passed id.thread next.thread && some_clear passed id.thread step.0) way.against
    (and_from (is_clear passed id.thread next.thread) (some_clear passed id.thread step.0) (clear_both passed id next.thread way.clear) some) in
    true≢false (sym (any_there (λ (step : Step). exclude step.mode mode && (is_clear passed id.thread step.thread && some_clear passed id.thread step.others)) (entry_at first.steps lock)
    (record { thread = next.thread; mode = way.how; others = step.0 }) step.1 passes) ∙ two))

none_two : (window : WindowForm) (first : First) (passed : List EventId) (id : EventId) (mode : LockMode) (lock : List ℕ) → IsNarrowed window first
    → use_at window id ≡ Some (Take mode lock) → keeps_out mode (mode_held first.holding.held lock) ≡ false → one_closes first.closers passed id.thread mode lock ≡ false
    → two_close first.steps passed id.thread mode lock ≡ false
    → completions window (takers_of window) first.holding.id (passed ++ id ∷ []) id 2 ≡ []
none_two window first passed id mode lock is takes free one two =
    none_more window first.holding.id (passed ++ id ∷ []) id 1 (not_closed window first (passed ++ id ∷ []) id mode lock is.holding takes free) (λ next among may.
    let way = follows_by window mode lock first.holding.id (passed ++ id ∷ []) id next takes among may in
    none_one window first (passed ++ id ∷ []) next way.wanted way.wants is way.takes (none_waits window first passed id mode lock is one next among way)
    (none_behind window first passed id mode lock is two next among way))

-- the second of two tests fails, where both do not hold and the first one does
second_fails : (one other : Bool) → (one && other) ≡ false → one ≡ true → other ≡ false
second_fails true other e holds = e
second_fails false other e holds = cc

-- what a failed test says, of each number of further events
record MayNot (keeps one two : Bool) (left : ℕ) : Type 0 where
  free : keeps ≡ false
  none : 0 < left → one ≡ false
  nor_two : 1 < left → two ≡ false
  few : left ≤ 2

may_not : (keeps one two : Bool) (left : ℕ) → (keeps || ((nat_lt 0 left && one) || ((nat_lt 1 left && two) || nat_lt 2 left))) ≡ false → MayNot keeps one two left
may_not keeps one two left e =
    let first = or_parts keeps ((nat_lt 0 left && one) || ((nat_lt 1 left && two) || nat_lt 2 left)) e in
    let second = or_parts (nat_lt 0 left && one) ((nat_lt 1 left && two) || nat_lt 2 left) first.1 in
    let third = or_parts (nat_lt 1 left && two) (nat_lt 2 left) second.1 in
    record {
      free = first.0;
      none = λ some. second_fails (nat_lt 0 left) one second.0 (lt-ltb 0 left some);
      nor_two = λ some. second_fails (nat_lt 1 left) two third.0 (lt-ltb 1 left some);
      few = ltb-false 2 left third.1;
    }

-- where a chain may not close with so many more behind an event, none complete it
pub none_complete : (window : WindowForm) (first : First) (passed : List EventId) (id : EventId) (mode : LockMode) (lock : List ℕ) (left : ℕ) → IsNarrowed window first
    → use_at window id ≡ Some (Take mode lock) → may_close first passed id.thread mode lock left ≡ false
    → completions window (takers_of window) first.holding.id (passed ++ id ∷ []) id left ≡ []
none_complete window first passed id mode lock left is takes fails =
    by_left left (may_not (keeps_out mode (mode_held first.holding.held lock)) (one_closes first.closers passed id.thread mode lock) (two_close first.steps passed id.thread mode lock) left fails)
  where
    by_left : (n : ℕ) → MayNot (keeps_out mode (mode_held first.holding.held lock)) (one_closes first.closers passed id.thread mode lock) (two_close first.steps passed id.thread mode lock) n
        → completions window (takers_of window) first.holding.id (passed ++ id ∷ []) id n ≡ []
    by_left zero fails = not_closed window first (passed ++ id ∷ []) id mode lock is.holding takes fails.free
    by_left (suc zero) fails = none_one window first passed id mode lock is takes fails.free (fails.none (omega arith))
    by_left (suc (suc zero)) fails = none_two window first passed id mode lock is takes fails.free (fails.none (omega arith)) (fails.nor_two (omega arith))
    by_left (suc (suc (suc more))) fails = absurd (omega (arith, fails.few))

-- where no link may be that of a second event, no cycle begins with the first one
pub none_begins : (window : WindowForm) (first : First) (links : List Link) (mode : LockMode) (lock : List ℕ) → IsNarrowed window first → AreLinked window (takers_of window) links
    → use_at window first.holding.id ≡ Some (Take mode lock) → list_any (may_be_second first mode lock) links ≡ false
    → completions window (takers_of window) first.holding.id [] first.holding.id 3 ≡ []
none_begins window first links mode lock is linked takes fails =
    none_more window first.holding.id [] first.holding.id 2 refl (λ next among may.
    let way = follows_by window mode lock first.holding.id [] first.holding.id next takes among may in
    let link : Link = link_of next.thread way.wants way.wanted (lock, way.how) in
    none_complete window first [] next way.wanted way.wants 2 is way.takes
    (false_from_ne_true (may_close first [] next.thread way.wanted way.wants 2) (λ closes.
    let passes = and_from (nat_lt first.holding.id.thread next.thread) (bytes_eq lock lock && (exclude way.how mode && may_close first [] next.thread way.wanted way.wants 2)) way.above
    (and_from (bytes_eq lock lock) (exclude way.how mode && may_close first [] next.thread way.wanted way.wants 2) ((bytes_eq-Decides lock lock).1 refl)
    (and_from (exclude way.how mode) (may_close first [] next.thread way.wanted way.wants 2) way.against closes)) in
    true≢false (sym (any_there (may_be_second first mode lock) links link (linked link next among way.is) passes) ∙ fails))))
