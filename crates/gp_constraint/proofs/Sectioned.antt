-- The sections of a window, by tables: each with its end, those of one lock together.
use Rattle.std.proofs.Common.{ℕ, suc, ◌≡◌, ap, sym, ◌∙◌, refl, subst, inl, inr, List, [], ◌∷◌, ◌++◌, true, false}
use Rattle.std.specs.Prelude.{◌==◌, ◌&&◌, not, Option, filter, find, flat_map, if◌then◌else◌, nat_lt}
use Rattle.std.specs.Str.{bytes_eq}
use Rattle.std.proofs.lemmas.Bool.{and_left, cases_Bool, cond-false}
use Rattle.std.proofs.lemmas.Slice.Eq.{bytes_eq-Decides}
use Rattle.std.proofs.lemmas.List.{append-nil}
use Rattle.gp_base.specs.FilterLaws.{filter-flat_map, flat_map_agree}
use Rattle.gp_trace.specs.declared.lock_use.LockMode.{LockMode}
use Rattle.gp_trace.specs.declared.lock_use.LockUse.TheVariants.{Take, GiveBack}
use Rattle.gp_window.specs.Holders.{Holding}
use Rattle.gp_constraint.specs.declared.action.Action.{Action}
use Rattle.gp_constraint.specs.declared.action.Action.TheVariants.{Read, Write, Lock, Start, Join, Other}
use Rattle.gp_constraint.specs.declared.point.Point.{Point}
use Rattle.gp_constraint.specs.declared.section.Section.{Section}
use Rattle.gp_constraint.specs.declared.symbol.SymbolicLit.{SymbolicLit}
use Rattle.gp_constraint.specs.HeldLocks.{held_apart}
use Rattle.gp_constraint.specs.HeldUses.{held_with}
use Rattle.gp_constraint.specs.Sections.{apart, ends_hold, exclude, in_either_order, sections, sections_apart, takes_against}
use Rattle.gp_constraint.specs.SectionTables.{section_at, section_with, sections_between, sections_in, sections_on}
use Rattle.gp_constraint.specs.Tables.{uses_lock, uses_of}
use Rattle.gp_constraint.specs.Terms.{needs}
use Rattle.gp_constraint.proofs.Lists.{flat_flat, flat_kept}
use Rattle.gp_constraint.proofs.Tabled.{bytes_turned, end_found}

-- two takes of one lock
between_same : (points : List Point) (a c : Point) (mode m : LockMode) (lock : List ℕ)
    → flat_map (sections_between (record { begin = a; mode = mode; lock = lock; end = find (ends_hold mode lock a.id.thread (suc a.id.index)) points }))
    (filter (λ s. bytes_eq s.lock lock) (section_with points c (Lock (Take m lock))))
    ≡ apart points a c (Lock (Take mode lock)) (Lock (Take m lock))
between_same points a c mode m lock =
    let itself : bytes_eq lock lock ≡ true = (bytes_eq-Decides lock lock).1 refl in
    rw itself (append-nil (if exclude mode m && nat_lt a.id.thread c.id.thread then in_either_order points a mode c m lock else []))

-- between a section of a lock and what another point begins
between_at : (points : List Point) (a c : Point) (mode : LockMode) (lock : List ℕ) (other : Action)
    → flat_map (sections_between (record { begin = a; mode = mode; lock = lock; end = find (ends_hold mode lock a.id.thread (suc a.id.index)) points }))
    (filter (λ s. bytes_eq s.lock lock) (section_with points c other))
    ≡ apart points a c (Lock (Take mode lock)) other
between_at points a c mode lock (Lock (Take m again)) =
    let one : Section = record { begin = a; mode = mode; lock = lock; end = find (ends_hold mode lock a.id.thread (suc a.id.index)) points } in
    elim (cases_Bool (bytes_eq again lock)) [
      | inl same ↦
          (let names : again ≡ lock = (bytes_eq-Decides again lock).0 same in
          subst (λ (name : List ℕ). flat_map (sections_between one) (filter (λ s. bytes_eq s.lock lock) (section_with points c (Lock (Take m name))))
          ≡ apart points a c (Lock (Take mode lock)) (Lock (Take m name))) (sym names) (between_same points a c mode m lock))
      | inr differ ↦ (let turned : bytes_eq lock again ≡ false = bytes_turned lock again ∙ differ in rw (differ, turned) refl)
    ]
between_at points a c mode lock (Lock (GiveBack m again)) = refl
between_at points a c mode lock (Read variable value) = refl
between_at points a c mode lock (Write variable value) = refl
between_at points a c mode lock (Start thread) = refl
between_at points a c mode lock (Join thread) = refl
between_at points a c mode lock Other = refl

flat_none : {X Y : Type 0} (f : X → List Y) (xs : List X) → ((x : X) → [] ≡ f x) → [] ≡ flat_map f xs
flat_none f [] h = refl
flat_none f (x ∷ xs) h = flat_none f xs h ∙ ap (λ ys. ys ++ flat_map f xs) (h x)

abbrev with_all : List Point → Section → List (List SymbolicLit)
with_all points a = flat_map (sections_between a) (sections_on a.lock (sections_in points))

at_point : (points : List Point) (p : Point) (action : Action)
    → flat_map (with_all points) (section_with points p action) ≡ flat_map (λ c. apart points p c action c.action) points
at_point points p (Lock (Take mode lock)) =
    let one : Section = record { begin = p; mode = mode; lock = lock; end = find (ends_hold mode lock p.id.thread (suc p.id.index)) points } in
    append-nil (with_all points one)
    ∙ ap (flat_map (sections_between one)) (filter-flat_map (λ s. bytes_eq s.lock lock) (section_at points) points)
    ∙ flat_flat (sections_between one) (λ c. filter (λ s. bytes_eq s.lock lock) (section_at points c)) points
    ∙ flat_map_agree (λ c. flat_map (sections_between one) (filter (λ s. bytes_eq s.lock lock) (section_at points c))) (λ c. apart points p c (Lock (Take mode lock)) c.action)
    (λ c. between_at points p c mode lock c.action) points
at_point points p (Lock (GiveBack mode lock)) = flat_none (λ c. apart points p c (Lock (GiveBack mode lock)) c.action) points (λ c. refl)
at_point points p (Read variable value) = flat_none (λ c. apart points p c (Read variable value) c.action) points (λ c. refl)
at_point points p (Write variable value) = flat_none (λ c. apart points p c (Write variable value) c.action) points (λ c. refl)
at_point points p (Start thread) = flat_none (λ c. apart points p c (Start thread) c.action) points (λ c. refl)
at_point points p (Join thread) = flat_none (λ c. apart points p c (Join thread) c.action) points (λ c. refl)
at_point points p Other = flat_none (λ c. apart points p c Other c.action) points (λ c. refl)

pub sections_tabled : (points : List Point)
    → flat_map (λ a. flat_map (sections_between a) (sections_on a.lock (sections_in points))) (sections_in points) ≡ sections points
sections_tabled points =
    flat_flat (with_all points) (section_at points) points
    ∙ flat_map_agree (λ p. flat_map (with_all points) (section_at points p)) (λ p. flat_map (sections_apart points p) points)
    (λ p. at_point points p p.action) points

against_off : (mode : LockMode) (lock : List ℕ) (action : Action) → uses_lock lock action ≡ false → takes_against mode lock action ≡ false
against_off mode lock (Lock (Take other again)) e = and_left (bytes_eq again lock) (exclude mode other) e
against_off mode lock (Lock (GiveBack other again)) e = refl
against_off mode lock (Read variable value) e = refl
against_off mode lock (Write variable value) e = refl
against_off mode lock (Start thread) e = refl
against_off mode lock (Join thread) e = refl
against_off mode lock Other e = refl

-- a hold at the start, by the uses of its lock
pub held_tabled : (points : List Point) (hold : Holding)
    → flat_map (held_with (find (ends_hold hold.1 hold.0.0 hold.0.1 0) (uses_of points hold.0.0)) hold) (uses_of points hold.0.0) ≡ flat_map (held_apart points hold) points
held_tabled points hold =
    let uses : List Point = uses_of points hold.0.0 in
    ap (λ (o : Option Point). flat_map (held_with o hold) uses) (end_found hold.1 hold.0.0 hold.0.1 0 points)
    ∙ flat_kept (held_apart points hold) (λ p. uses_lock hold.0.0 p.action) points (λ c e.
    let off : takes_against hold.1 hold.0.0 c.action ≡ false = against_off hold.1 hold.0.0 c.action e in
    cond-false (takes_against hold.1 hold.0.0 c.action && not (c.id.thread == hold.0.1)) (needs c (find (ends_hold hold.1 hold.0.0 hold.0.1 0) points)) []
    (and_left (takes_against hold.1 hold.0.0 c.action) (not (c.id.thread == hold.0.1)) off))
