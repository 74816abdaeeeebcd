-- No symbol has both signs in a clause of a window.
use Rattle.std.proofs.Common.{ℕ, suc, ◌≡◌, ap, sym, ◌∙◌, refl, subst, List, [], ◌∷◌, ◌++◌, Bool, true, false, arith, eqb-true}
use Rattle.std.specs.Prelude.{◌==◌, ◌&&◌, not, Option, Some, None, nat_lt, nat_le, flat_map, find, if◌then◌else◌, ◌-◌, ◌≢◌, Contains}
use Rattle.std.specs.List.{AllByRecursion, list_any}
use Rattle.std.specs.Str.{bytes_eq}
use Rattle.std.proofs.lemmas.Bool.{and_parts, false≢true}
use Rattle.gp_trace.specs.declared.event.Event.{Event}
use Rattle.gp_trace.specs.declared.event.Event.TheVariants as event
use Rattle.gp_trace.specs.declared.lock_use.LockMode.{LockMode}
use Rattle.gp_trace.specs.declared.lock_use.LockUse.TheVariants.{Take, GiveBack}
use Rattle.gp_window.specs.Events.{size_of}
use Rattle.gp_window.specs.Formed.{IsFormed}
use Rattle.gp_window.specs.Holders.{Holding}
use Rattle.gp_window.specs.Starts.{is_among}
use Rattle.gp_window.specs.WindowForm.{WindowForm, held_at_start}
use Rattle.gp_constraint.specs.declared.action.Action.{Action}
use Rattle.gp_constraint.specs.declared.action.Action.TheVariants.{Read, Write, Lock, Start, Join, Other}
use Rattle.gp_constraint.specs.declared.point.Point.{Point}
use Rattle.gp_constraint.specs.declared.symbol.Symbol.{Symbol}
use Rattle.gp_constraint.specs.declared.symbol.Symbol.TheVariants.{Executed, Order, Choice, StartChoice, First}
use Rattle.gp_constraint.specs.declared.symbol.SymbolicLit.{SymbolicLit}
use Rattle.gp_constraint.specs.declared.term.Term.{Term}
use Rattle.gp_constraint.specs.declared.term.Term.TheVariants.{Always, Never, Literal}
use Rattle.gp_constraint.specs.Action.{action_of}
use Rattle.gp_constraint.specs.Base.{clauses_of}
use Rattle.gp_base.specs.ListLaws.{contains_found, Pairwise, recursion_append, recursion_at, recursion_flat_map, recursion_from_each}
use Rattle.gp_constraint.specs.FitLaws.{each_either, each_unless}
use Rattle.gp_constraint.specs.HeldLocks.{held_apart}
use Rattle.gp_constraint.specs.Joins.{ended, is_last_of, join_of, joined_by}
use Rattle.gp_constraint.specs.PointLaws.{one_point, points_named}
use Rattle.gp_constraint.specs.Points.{points_of}
use Rattle.gp_constraint.specs.ProgramOrder.{linked}
use Rattle.gp_constraint.specs.Reads.{choice, choices_of, finds_at_start, is_choice, is_read, is_rival, kept_apart, kept_later, seen_from, sees, start_choice}
use Rattle.gp_constraint.specs.Sections.{apart, ends_hold, exclude, gives_back, in_either_order, sections_apart, takes_against}
use Rattle.gp_constraint.specs.Signed.{Agree, AreSigned}
use Rattle.gp_constraint.specs.Starts.{does_start, is_start_of, start_of}
use Rattle.gp_constraint.specs.Terms.{before, chosen, constant, executed, first, is_always, lit_of, literal, needs, preceded, simplified, start_chosen}
use Rattle.gp_constraint.proofs.Once.{tag_of}
use Rattle.gp_constraint.proofs.Valid.{positive_number}

-- the points of a symbol
abbrev low_of : Symbol → ℕ
low_of (Order a b) = a
low_of (Executed a) = a
low_of _ = 0

abbrev high_of : Symbol → ℕ
high_of (Order a b) = b
high_of _ = 0

-- two terms of one symbol have one sign
abbrev Fits : Term → Term → Type 0
Fits (Literal l) (Literal m) = Agree l m
Fits _ _ = Unit {0}

fits_always : (x : Term) → Fits x Always
fits_always Always = tt
fits_always Never = tt
fits_always (Literal l) = tt

fits_never : (x : Term) → Fits x Never
fits_never Always = tt
fits_never Never = tt
fits_never (Literal l) = tt

fits_constant : (x : Term) (b : Bool) → Fits x (constant b)
fits_constant x true = fits_always x
fits_constant x false = fits_never x

constant_fits : (x : Term) (b : Bool) → Fits (constant b) x
constant_fits x true = tt
constant_fits x false = tt

fits_if : (x : Term) (b : Bool) (y z : Term) → Fits x y → Fits x z → Fits x (if b then y else z)
fits_if x true y z h k = h
fits_if x false y z h k = k

if_fits : (x : Term) (b : Bool) (y z : Term) → Fits y x → Fits z x → Fits (if b then y else z) x
if_fits x true y z h k = h
if_fits x false y z h k = k

-- a symbol that is no order, before an order
fits_before : (a : Symbol) (positive : Bool) (e f : Point) → tag_of a ≢ 2 → Fits (literal a positive) (before e f)
fits_before a positive e f other =
    let up : Term = literal (Order e.number f.number) true in
    let down : Term = literal (Order f.number e.number) false in
    fits_if (literal a positive) (e.id.thread == f.id.thread) (constant (nat_lt e.id.index f.id.index)) (if nat_lt e.number f.number then up else down)
    (fits_constant (literal a positive) (nat_lt e.id.index f.id.index))
    (fits_if (literal a positive) (nat_lt e.number f.number) up down (λ same. absurd (other (ap tag_of same))) (λ same. absurd (other (ap tag_of same))))

-- an event before one and after another
before_after : (other w r : Point) → w.number ≢ r.number → Fits (before other w) (before r other)
before_after other w r differ =
    let up : Term = literal (Order other.number w.number) true in
    let down : Term = literal (Order w.number other.number) false in
    let up_too : Term = literal (Order r.number other.number) true in
    let down_too : Term = literal (Order other.number r.number) false in
    let last : Term = before r other in
    let second : Term = if nat_lt r.number other.number then up_too else down_too in
    if_fits last (other.id.thread == w.id.thread) (constant (nat_lt other.id.index w.id.index)) (if nat_lt other.number w.number then up else down)
    (constant_fits last (nat_lt other.id.index w.id.index))
    (if_fits last (nat_lt other.number w.number) up down
    (fits_if up (r.id.thread == other.id.thread) (constant (nat_lt r.id.index other.id.index)) second (fits_constant up (nat_lt r.id.index other.id.index))
    (fits_if up (nat_lt r.number other.number) up_too down_too (λ same. refl) (λ same. absurd (differ (ap high_of same)))))
    (fits_if down (r.id.thread == other.id.thread) (constant (nat_lt r.id.index other.id.index)) second (fits_constant down (nat_lt r.id.index other.id.index))
    (fits_if down (nat_lt r.number other.number) up_too down_too (λ same. absurd (differ (ap low_of same))) (λ same. refl))))

executed_fits : (window : WindowForm) (p q : Point) → Contains (points_of window) p → Contains (points_of window) q → (p ≡ q → ⊥) → Fits (executed p false) (executed q true)
executed_fits window p q i j differ = λ same. absurd (differ (one_point window p q i j (ap low_of same)))

tags_fit : (a b : Symbol) (positive other : Bool) → (tag_of a ≡ tag_of b → ⊥) → Fits (literal a positive) (literal b other)
tags_fit a b positive other differ = λ same. absurd (differ (ap tag_of same))

signed_when : (b : Bool) (clauses : List (List SymbolicLit)) → (b ≡ true → AreSigned clauses) → AreSigned (if b then clauses else [])
signed_when true clauses h = h refl
signed_when false clauses h = tt

signed_later : (b : Bool) (clauses : List (List SymbolicLit)) → (b ≡ false → AreSigned clauses) → AreSigned (if b then [] else clauses)
signed_later true clauses h = tt
signed_later false clauses h = h refl

agree_lits : (l : SymbolicLit) (terms : List Term) → AllByRecursion (Fits (Literal l)) terms → AllByRecursion (Agree l) (flat_map lit_of terms)
agree_lits l [] h = tt
agree_lits l (Always ∷ terms) h = agree_lits l terms h.1
agree_lits l (Never ∷ terms) h = agree_lits l terms h.1
agree_lits l (Literal m ∷ terms) h = (h.0, agree_lits l terms h.1)

signed_lits : (terms : List Term) → Pairwise Fits terms → Pairwise Agree (flat_map lit_of terms)
signed_lits [] h = tt
signed_lits (Always ∷ terms) h = signed_lits terms h.1
signed_lits (Never ∷ terms) h = signed_lits terms h.1
signed_lits (Literal l ∷ terms) h = (agree_lits l terms h.0, signed_lits terms h.1)

signed : (terms : List Term) → Pairwise Fits terms → AreSigned (simplified terms)
signed terms h = each_unless (Pairwise Agree) (list_any is_always terms) (flat_map lit_of terms ∷ []) (signed_lits terms h, tt)

two : (x y : Term) → Fits x y → Pairwise Fits (x ∷ y ∷ [])
two x y h = ((h, tt), (tt, tt))

one : (x : Term) → Pairwise Fits (x ∷ [])
one x = (tt, tt)

-- a search for an event other than f
signed_needs : (window : WindowForm) (f : Point) (test : Point → Bool) → Contains (points_of window) f → ((s : Point) → Contains (points_of window) s → test s ≡ true → f ≡ s → ⊥)
    → AreSigned (needs f (find test (points_of window)))
signed_needs window f test i differ = of (find test (points_of window)) refl
  where
    of : (found : Option Point) → find test (points_of window) ≡ found → AreSigned (needs f found)
    of None e = signed (executed f false ∷ []) (one (executed f false))
    of (Some s) e =
        let got = contains_found test (points_of window) s e in
        recursion_append (Pairwise Agree) (simplified (executed f false ∷ executed s true ∷ [])) (simplified (executed f false ∷ before s f ∷ []))
        (signed (executed f false ∷ executed s true ∷ []) (two (executed f false) (executed s true) (executed_fits window f s i got.0 (differ s got.0 got.1))))
        (signed (executed f false ∷ before s f ∷ []) (two (executed f false) (before s f) (fits_before (Executed f.number) false s f (λ e. absurd (omega (arith, e))))))

-- program order
signed_linked : (window : WindowForm) (f : Point) → Contains (points_of window) f → AreSigned (linked f)
signed_linked window f i =
    let own = ((points_named window).own f i).3 in
    signed_later (f.id.index == 0) (simplified (executed f false ∷ literal (Executed (f.number - 1)) true ∷ [])) (λ later.
    let above = positive_number window f.id.thread f.id.index later in
    signed (executed f false ∷ literal (Executed (f.number - 1)) true ∷ [])
    (two (executed f false) (literal (Executed (f.number - 1)) true) (λ same. let bad : f.number ≡ f.number - 1 = ap low_of same in absurd (omega (arith, own, above, bad)))))

-- the event of a start, and that of a join
start_event : (thread : ℕ) (e : Event) → action_of e ≡ Start thread → e ≡ event.Start thread
start_event thread (event.Start other) h = cc
start_event thread (event.Read name value) h = absurd cc
start_event thread (event.Write name value) h = absurd cc
start_event thread (event.Acquire lock) h = absurd cc
start_event thread (event.Release lock) h = absurd cc
start_event thread (event.RAcquire lock) h = absurd cc
start_event thread (event.RRelease lock) h = absurd cc
start_event thread (event.Join other) h = absurd cc
start_event thread (event.Op operation) h = absurd cc
start_event thread (event.Begin region) h = absurd cc
start_event thread (event.End region) h = absurd cc

join_event : (thread : ℕ) (e : Event) → action_of e ≡ Join thread → e ≡ event.Join thread
join_event thread (event.Join other) h = cc
join_event thread (event.Read name value) h = absurd cc
join_event thread (event.Write name value) h = absurd cc
join_event thread (event.Acquire lock) h = absurd cc
join_event thread (event.Release lock) h = absurd cc
join_event thread (event.RAcquire lock) h = absurd cc
join_event thread (event.RRelease lock) h = absurd cc
join_event thread (event.Start other) h = absurd cc
join_event thread (event.Op operation) h = absurd cc
join_event thread (event.Begin region) h = absurd cc
join_event thread (event.End region) h = absurd cc

starts_other : (window : WindowForm) → IsFormed window → (p : Point) → Contains (points_of window) p → (thread : ℕ) → p.action ≡ Start thread → thread ≢ p.id.thread
starts_other window w p i thread is =
    let own = (points_named window).own p i in
    let e = start_event thread own.0 (sym own.2 ∙ is) in
    (w.starts p.id thread (own.1 ∙ ap Some e)).1

joins_other : (window : WindowForm) → IsFormed window → (p : Point) → Contains (points_of window) p → (thread : ℕ) → p.action ≡ Join thread → thread ≢ p.id.thread
joins_other window w p i thread is =
    let own = (points_named window).own p i in
    let e = join_event thread own.0 (sym own.2 ∙ is) in
    (w.joins p.id thread (own.1 ∙ ap Some e)).1

start_is : (thread : ℕ) (action : Action) → does_start thread action ≡ true → action ≡ Start thread
start_is thread (Start other) e = ap Start (eqb-true other thread e)
start_is thread (Read variable value) e = absurd (false≢true e)
start_is thread (Write variable value) e = absurd (false≢true e)
start_is thread (Lock lock_use) e = absurd (false≢true e)
start_is thread (Join other) e = absurd (false≢true e)
start_is thread Other e = absurd (false≢true e)

-- starts
signed_start : (window : WindowForm) → IsFormed window → (f : Point) → Contains (points_of window) f → AreSigned (start_of window (points_of window) f)
signed_start window w f i =
    signed_when (f.id.index == 0 && not (is_among window.started f.id.thread)) (needs f (find (is_start_of f.id.thread) (points_of window))) (λ e.
    signed_needs window f (is_start_of f.id.thread) i (λ s j starts same.
    let is : f.action ≡ Start f.id.thread = ap (λ (p : Point). p.action) same ∙ start_is f.id.thread s.action starts in
    starts_other window w f i f.id.thread is refl))

-- joins
join_no_start : (thread other : ℕ) → ◌≡◌ {A = Action} (Join thread) (Start other) → ⊥
join_no_start thread other e = cc

signed_ended : (window : WindowForm) → IsFormed window → (j : Point) → Contains (points_of window) j → (thread : ℕ) → j.action ≡ Join thread
    → AreSigned (ended window (points_of window) j thread)
signed_ended window w j i thread joins =
    let points : List Point = points_of window in
    each_either (Pairwise Agree) (size_of window thread == 0) (if is_among window.started thread then [] else needs j (find (is_start_of thread) points))
    (needs j (find (is_last_of window thread) points))
    (each_unless (Pairwise Agree) (is_among window.started thread) (needs j (find (is_start_of thread) points))
    (signed_needs window j (is_start_of thread) i (λ s k starts same.
    join_no_start thread thread (sym joins ∙ ap (λ (p : Point). p.action) same ∙ start_is thread s.action starts))))
    (signed_needs window j (is_last_of window thread) i (λ g k found same.
    let parts = and_parts (g.id.thread == thread) (suc g.id.index == size_of window thread) found in
    let threads : thread ≡ j.id.thread = sym (eqb-true g.id.thread thread parts.0) ∙ sym (ap (λ (p : Point). p.id.thread) same) in
    joins_other window w j i thread joins threads))

signed_join : (window : WindowForm) → IsFormed window → (j : Point) → Contains (points_of window) j → (action : Action) → j.action ≡ action
    → AreSigned (joined_by window (points_of window) j action)
signed_join window w j i (Join thread) is =
    each_either (Pairwise Agree) (is_among window.exited thread) (ended window (points_of window) j thread) (simplified (executed j false ∷ []))
    (signed_ended window w j i thread is) (signed (executed j false ∷ []) (one (executed j false)))
signed_join window w j i (Read variable value) is = tt
signed_join window w j i (Write variable value) is = tt
signed_join window w j i (Lock lock_use) is = tt
signed_join window w j i (Start thread) is = tt
signed_join window w j i Other is = tt

-- what a read sees: all terms but the first are positive choices
abbrev IsPositive : Term → Type 0
IsPositive (Literal l) = (l.positive ≡ true) × (tag_of l.symbol ≡ 0)
IsPositive _ = Unit {0}

positive_fits : (x y : Term) → IsPositive x → IsPositive y → Fits x y
positive_fits Always y h k = tt
positive_fits Never y h k = tt
positive_fits (Literal l) Always h k = tt
positive_fits (Literal l) Never h k = tt
positive_fits (Literal l) (Literal m) h k = λ same. h.0 ∙ sym k.0

executed_positive : (r : Point) (y : Term) → IsPositive y → Fits (executed r false) y
executed_positive r Always k = tt
executed_positive r Never k = tt
executed_positive r (Literal l) k = λ same. let tags : 1 ≡ tag_of l.symbol = ap tag_of same in let own = k.1 in absurd (omega (arith, tags, own))

positives_fit : (terms : List Term) → AllByRecursion IsPositive terms → Pairwise Fits terms
positives_fit [] h = tt
positives_fit (x ∷ terms) h = (recursion_from_each (Fits x) terms (λ y i. positive_fits x y h.0 (recursion_at IsPositive terms y h.1 i)), positives_fit terms h.1)

positive_if : (b : Bool) (term : Term) → IsPositive term → AllByRecursion IsPositive (if b then term ∷ [] else [])
positive_if true term h = (h, tt)
positive_if false term h = tt

signed_reads : (window : WindowForm) (r : Point) → AreSigned (choices_of window (points_of window) r)
signed_reads window r =
    let points : List Point = points_of window in
    let terms : List Term = flat_map (choice r) points ++ start_choice window r in
    let positive = recursion_append IsPositive (flat_map (choice r) points) (start_choice window r)
    (recursion_flat_map IsPositive (choice r) points (λ w i. positive_if (is_choice r w) (chosen r w true) (refl, refl)))
    (positive_if (finds_at_start window r.action) (start_chosen r true) (refl, refl)) in
    signed_when (is_read r.action) (simplified (executed r false ∷ terms)) (λ e.
    signed (executed r false ∷ terms)
    (recursion_from_each (Fits (executed r false)) terms (λ y i. executed_positive r y (recursion_at IsPositive terms y positive i)), positives_fit terms positive))

-- choices
sees_itself : (action : Action) → sees action action ≡ true → ⊥
sees_itself (Read variable value) h = cc
sees_itself (Write variable value) h = cc
sees_itself (Lock lock_use) h = cc
sees_itself (Start thread) h = cc
sees_itself (Join thread) h = cc
sees_itself Other h = cc

signed_seen : (window : WindowForm) (r w : Point) → Contains (points_of window) r → Contains (points_of window) w → AreSigned (seen_from (points_of window) r w)
signed_seen window r w i j =
    let points : List Point = points_of window in
    let symbol : Symbol = Choice r.number w.number in
    let choice : Term = chosen r w false in
    let free : tag_of symbol ≢ 2 = λ e. absurd (omega (arith, e)) in
    let first : List (List SymbolicLit) = simplified (choice ∷ executed w true ∷ []) in
    let second : List (List SymbolicLit) = simplified (choice ∷ before w r ∷ []) in
    let third : List (List SymbolicLit) = flat_map (kept_apart r w) points in
    signed_when (is_choice r w) ((first ++ second) ++ third) (λ is.
    let parts = and_parts (sees r.action w.action) (not (w.id.thread == r.id.thread && nat_lt r.id.index w.id.index)) is in
    let differ : w.number ≢ r.number = λ numbers.
    let same : w ≡ r = one_point window w r j i numbers in
    sees_itself r.action (subst (λ (p : Point). sees r.action p.action ≡ true) same parts.0) in
    recursion_append (Pairwise Agree) (first ++ second) third
    (recursion_append (Pairwise Agree) first second
    (signed (choice ∷ executed w true ∷ []) (two choice (executed w true) (tags_fit symbol (Executed w.number) false true (λ e. absurd (omega (arith, e))))))
    (signed (choice ∷ before w r ∷ []) (two choice (before w r) (fits_before symbol false w r free))))
    (recursion_flat_map (Pairwise Agree) (kept_apart r w) points (λ other k.
    signed_when (is_rival r.action other.action) (simplified (choice ∷ executed other false ∷ before other w ∷ before r other ∷ [])) (λ e.
    let done : tag_of (Executed other.number) ≢ 2 = λ t. absurd (omega (arith, t)) in
    signed (choice ∷ executed other false ∷ before other w ∷ before r other ∷ []) (
      (tags_fit symbol (Executed other.number) false false (λ t. absurd (omega (arith, t))), (fits_before symbol false other w free, (fits_before symbol false r other free, tt))),
      (
        (fits_before (Executed other.number) false other w done, (fits_before (Executed other.number) false r other done, tt)),
        ((before_after other w r differ, tt), (tt, tt)),
      ),
    )))))

-- the start value
signed_later_writes : (window : WindowForm) (r : Point) → AreSigned (flat_map (kept_later window r) (points_of window))
signed_later_writes window r =
    let points : List Point = points_of window in
    let symbol : Symbol = StartChoice r.number in
    let choice : Term = start_chosen r false in
    let free : tag_of symbol ≢ 2 = λ e. absurd (omega (arith, e)) in
    recursion_flat_map (Pairwise Agree) (kept_later window r) points (λ other k.
    signed_when (finds_at_start window r.action && is_rival r.action other.action) (simplified (choice ∷ executed other false ∷ before r other ∷ [])) (λ e.
    let done : tag_of (Executed other.number) ≢ 2 = λ t. absurd (omega (arith, t)) in
    signed (choice ∷ executed other false ∷ before r other ∷ []) (
      (tags_fit symbol (Executed other.number) false false (λ t. absurd (omega (arith, t))), (fits_before symbol false r other free, tt)),
      ((fits_before (Executed other.number) false r other done, tt), (tt, tt)),
    )))

-- sections: what gives a lock back takes none
take_gives_none : (p b : Point) (m mode : LockMode) (l lock : List ℕ) → p.action ≡ Lock (Take m l) → gives_back mode lock b.action ≡ true → p ≡ b → ⊥
take_gives_none p b m mode l lock takes gives same =
    let is : b.action ≡ Lock (Take m l) = sym (ap (λ (q : Point). q.action) same) ∙ takes in
    false≢true (subst (λ (action : Action). gives_back mode lock action ≡ true) is gives)

signed_side : (window : WindowForm) (a c : Point) (positive : Bool) (test : Point → Bool) (next : Point) → Contains (points_of window) a → Contains (points_of window) c
    → ((b : Point) → test b ≡ true → (a ≡ b → ⊥) × (c ≡ b → ⊥))
    → AreSigned (preceded (executed a false ∷ executed c false ∷ first a c positive ∷ []) (find test (points_of window)) next)
signed_side window a c positive test next i j differ = of (find test (points_of window)) refl
  where
    of : (found : Option Point) → find test (points_of window) ≡ found → AreSigned (preceded (executed a false ∷ executed c false ∷ first a c positive ∷ []) found next)
    of None e =
        signed (executed a false ∷ executed c false ∷ first a c positive ∷ []) (
          ((λ same. refl), (tags_fit (Executed a.number) (First a.number c.number) false positive (λ t. absurd (omega (arith, t))), tt)),
          ((tags_fit (Executed c.number) (First a.number c.number) false positive (λ t. absurd (omega (arith, t))), tt), (tt, tt)),
        )
    of (Some b) e =
        let start : Term = first a c positive in
        let symbol : Symbol = First a.number c.number in
        let got = contains_found test (points_of window) b e in
        let others = differ b got.1 in
        let a_start = tags_fit (Executed a.number) symbol false positive (λ t. absurd (omega (arith, t))) in
        let c_start = tags_fit (Executed c.number) symbol false positive (λ t. absurd (omega (arith, t))) in
        recursion_append (Pairwise Agree) (simplified (executed a false ∷ executed c false ∷ start ∷ executed b true ∷ []))
        (simplified (executed a false ∷ executed c false ∷ start ∷ before b next ∷ []))
        (signed (executed a false ∷ executed c false ∷ start ∷ executed b true ∷ []) (
          ((λ same. refl), (a_start, (executed_fits window a b i got.0 others.0, tt))),
          ((c_start, (executed_fits window c b j got.0 others.1, tt)), ((tags_fit symbol (Executed b.number) positive true (λ t. absurd (omega (arith, t))), tt), (tt, tt))),
        ))
        (signed (executed a false ∷ executed c false ∷ start ∷ before b next ∷ []) (
          ((λ same. refl), (a_start, (fits_before (Executed a.number) false b next (λ t. absurd (omega (arith, t))), tt))),
          ((c_start, (fits_before (Executed c.number) false b next (λ t. absurd (omega (arith, t))), tt)), ((fits_before symbol positive b next (λ t. absurd (omega (arith, t))), tt), (tt, tt))),
        ))

gives_from : (mode : LockMode) (lock : List ℕ) (thread from : ℕ) (b : Point) → ends_hold mode lock thread from b ≡ true → gives_back mode lock b.action ≡ true
gives_from mode lock thread from b e =
    let late = (and_parts (b.id.thread == thread) (nat_le from b.id.index && gives_back mode lock b.action) e).1 in
    (and_parts (nat_le from b.id.index) (gives_back mode lock b.action) late).1

signed_order : (window : WindowForm) (a c : Point) → Contains (points_of window) a → Contains (points_of window) c → (mode other : LockMode) (lock again : List ℕ)
    → a.action ≡ Lock (Take mode lock) → c.action ≡ Lock (Take other again) → AreSigned (in_either_order (points_of window) a mode c other lock)
signed_order window a c i j mode other lock again a_takes c_takes =
    let points : List Point = points_of window in
    let a_ends : Point → Bool = ends_hold mode lock a.id.thread (suc a.id.index) in
    let c_ends : Point → Bool = ends_hold other lock c.id.thread (suc c.id.index) in
    recursion_append (Pairwise Agree) (preceded (executed a false ∷ executed c false ∷ first a c false ∷ []) (find a_ends points) c)
    (preceded (executed a false ∷ executed c false ∷ first a c true ∷ []) (find c_ends points) a)
    (signed_side window a c false a_ends c i j (λ b e.
    let gives = gives_from mode lock a.id.thread (suc a.id.index) b e in
    (take_gives_none a b mode mode lock lock a_takes gives, take_gives_none c b other mode again lock c_takes gives)))
    (signed_side window a c true c_ends a i j (λ b e.
    let gives = gives_from other lock c.id.thread (suc c.id.index) b e in
    (take_gives_none a b mode other lock lock a_takes gives, take_gives_none c b other other again lock c_takes gives)))

signed_apart : (window : WindowForm) (a c : Point) → Contains (points_of window) a → Contains (points_of window) c → (one other : Action) → a.action ≡ one → c.action ≡ other
    → AreSigned (apart (points_of window) a c one other)
signed_apart window a c i j (Lock (Take mode lock)) (Lock (Take other again)) a_is c_is =
    signed_when (bytes_eq lock again && (exclude mode other && nat_lt a.id.thread c.id.thread)) (in_either_order (points_of window) a mode c other lock)
    (λ e. signed_order window a c i j mode other lock again a_is c_is)
signed_apart window a c i j (Lock (Take mode lock)) (Lock (GiveBack other again)) a_is c_is = tt
signed_apart window a c i j (Lock (Take mode lock)) (Read variable value) a_is c_is = tt
signed_apart window a c i j (Lock (Take mode lock)) (Write variable value) a_is c_is = tt
signed_apart window a c i j (Lock (Take mode lock)) (Start thread) a_is c_is = tt
signed_apart window a c i j (Lock (Take mode lock)) (Join thread) a_is c_is = tt
signed_apart window a c i j (Lock (Take mode lock)) Other a_is c_is = tt
signed_apart window a c i j (Lock (GiveBack mode lock)) other a_is c_is = tt
signed_apart window a c i j (Read variable value) other a_is c_is = tt
signed_apart window a c i j (Write variable value) other a_is c_is = tt
signed_apart window a c i j (Start thread) other a_is c_is = tt
signed_apart window a c i j (Join thread) other a_is c_is = tt
signed_apart window a c i j Other other a_is c_is = tt

-- locks held at the start
against_or_back : (mode other : LockMode) (lock again : List ℕ) (action : Action) → takes_against mode lock action ≡ true → gives_back other again action ≡ true → ⊥
against_or_back mode other lock again (Lock (Take m l)) h g = false≢true g
against_or_back mode other lock again (Lock (GiveBack m l)) h g = false≢true h
against_or_back mode other lock again (Read variable value) h g = false≢true h
against_or_back mode other lock again (Write variable value) h g = false≢true h
against_or_back mode other lock again (Start thread) h g = false≢true h
against_or_back mode other lock again (Join thread) h g = false≢true h
against_or_back mode other lock again Other h g = false≢true h

signed_held : (window : WindowForm) (hold : Holding) (c : Point) → Contains (points_of window) c → AreSigned (held_apart (points_of window) hold c)
signed_held window hold c i =
    let ends : Point → Bool = ends_hold hold.1 hold.0.0 hold.0.1 0 in
    signed_when (takes_against hold.1 hold.0.0 c.action && not (c.id.thread == hold.0.1)) (needs c (find ends (points_of window))) (λ e.
    let takes = (and_parts (takes_against hold.1 hold.0.0 c.action) (not (c.id.thread == hold.0.1)) e).0 in
    signed_needs window c ends i (λ b j found same.
    let gives = gives_from hold.1 hold.0.0 hold.0.1 0 b found in
    against_or_back hold.1 hold.1 hold.0.0 hold.0.0 b.action (subst (λ (p : Point). takes_against hold.1 hold.0.0 p.action ≡ true) same takes) gives))

-- all families
pub signed_families : (window : WindowForm) → IsFormed window → AreSigned (clauses_of window)
signed_families window w =
    let points : List Point = points_of window in
    let P = Pairwise Agree in
    let c1 = recursion_flat_map P linked points (signed_linked window) in
    let c2 = recursion_flat_map P (start_of window points) points (signed_start window w) in
    let c3 = recursion_flat_map P (join_of window points) points (λ j i. signed_join window w j i j.action refl) in
    let c4 = recursion_flat_map P (choices_of window points) points (λ r i. signed_reads window r) in
    let c5 = recursion_flat_map P (λ r. flat_map (seen_from points r) points) points (λ r i. recursion_flat_map P (seen_from points r) points (λ v j. signed_seen window r v i j)) in
    let c6 = recursion_flat_map P (λ r. flat_map (kept_later window r) points) points (λ r i. signed_later_writes window r) in
    let c7 = recursion_flat_map P (λ a. flat_map (sections_apart points a) points) points (λ a i.
    recursion_flat_map P (sections_apart points a) points (λ c j. signed_apart window a c i j a.action c.action refl refl)) in
    let c8 = recursion_flat_map P (λ hold. flat_map (held_apart points hold) points) (held_at_start window) (λ hold k.
    recursion_flat_map P (held_apart points hold) points (λ c i. signed_held window hold c i)) in
    recursion_append P (flat_map linked points) _ c1
    (recursion_append P (flat_map (start_of window points) points) _ c2
    (recursion_append P (flat_map (join_of window points) points) _ c3
    (recursion_append P (flat_map (choices_of window points) points) _ c4
    (recursion_append P (flat_map (λ r. flat_map (seen_from points r) points) points) _ c5
    (recursion_append P (flat_map (λ r. flat_map (kept_later window r) points) points) _ c6
    (recursion_append P (flat_map (λ a. flat_map (sections_apart points a) points) points) _ c7 c8))))))
