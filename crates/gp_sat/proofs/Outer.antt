-- The watches of a solver that changes.
use Rattle.std.proofs.Common.{◌≡◌, refl, sym, ◌∙◌, ap, subst, ℕ, ◌+◌, ◌-◌, ◌*◌, ◌<◌, ◌≤◌, true, false, zero, suc, Option, Some, None, List, [], ◌∷◌, ◌++◌, length, get_or, min, ◌⊎◌, inl, inr, arith}
use Rattle.std.specs.Prelude.{slice_set, Contains, replicate}
use Rattle.std.proofs.lemmas.Bool.{cases_eq, cases_lt}
use Rattle.std.proofs.lemmas.List.{length-set, length_push, length-map, length-append, get_or_append_left, get_or-append-add, get_or-set_same, get_or-set_other, length-replicate, set_past}
use Rattle.gp_base.specs.ListLaws.{nothing_in}
use Rattle.gp_clause.specs.declared.lit.Lit.{Lit}
use Rattle.gp_sat.specs.declared.assigned.Assigned.{Assigned}
use Rattle.gp_sat.specs.Stored.{Stored}
use Rattle.gp_sat.specs.Slot.{Slot}
use Rattle.gp_sat.specs.State.{SolverForm, assigned, clause_at, IsAttached, no_clause, kept_to, with_clause, without_clause, with_literal, cleared, blank, grown}
use Rattle.gp_sat.specs.Sound.{IsSound, true_lit}
use Rattle.gp_sat.specs.Changes.{Backjumps, IsUpTo, IsAbove}
use Rattle.gp_sat.specs.Links.{AreLinked}
use Rattle.gp_sat.specs.WatchesForm.{WatchesForm}
use Rattle.gp_sat.specs.Watching.{IsHeld, IsLong, Watches, AreWatched, code, link_at, next_at, watch_at, no_slot}
use Rattle.gp_sat.specs.Linked.{IsMember, IsOf, IsLinked, IsBlank}
use Rattle.gp_sat.specs.Stepping.{IsIdle, IsReady}
use Rattle.gp_sat.proofs.Storing.{sound_empty, sound_ordered, sound_grown}
use Rattle.gp_sat.proofs.Cutting.{Cuts}
use Rattle.gp_sat.proofs.Watched.{watched_cut, watched_more}
use Rattle.gp_sat.proofs.Shorts.{looked_over, looked_none, looked_attached, looked_retired}
use Rattle.gp_sat.proofs.Adopting.{idle_apart}
use Rattle.gp_queue.specs.Order.{numbers_between}
use Rattle.gp_sat.specs.SolverLaws.{added, added_stays, adds_literal, free_at, grown_at, attached_within, kept_at, kept_was, kept_stays}

-- no clause is linked
pub idle_reset : (s : SolverForm) (w : WatchesForm) → IsSound s → ((k : ℕ) → link_at w.heads k ≡ 0) → length w.heads ≡ 2 * length s.values + 2 → length w.slots ≡ 2 * length s.clauses → w.linked ≡ 0 → w.cursor ≡ length s.trail → IsIdle s w
idle_reset s w sound none heads slots linked cursor = record {
  sound = sound;
  lists = λ l. [];
  fallen = record { variable = 0; positive = false };
  empty = refl;
  linked = record {
    heads_size = heads;
    slots_size = slots;
    within = omega (arith, linked);
    links = record {
      chains = λ l. none l;
      once = λ l. tt;
      apart = λ l m x one two. absurd (nothing_in _ one);
    };
    listed = λ number x y held long partners. absurd (omega (arith, held.1, linked));
    members = λ l x among. absurd (nothing_in _ among);
  };
  watched = record {
    long = λ number x y held long partners. absurd (omega (arith, held.1, linked));
    fresh = λ v a is past. absurd (omega (arith, past, cursor, sound.ordered.within v a is));
    cursor_in = omega (arith, cursor);
    linked_in = omega (arith, linked);
  };
}

-- the assignments that a backjump keeps are those of the front of the trail
pub back_cuts : (s t : SolverForm) (level : ℕ) → IsSound s → Backjumps s t level → Cuts (assigned s) (assigned t) level (length t.trail)
back_cuts s t level sound back = record {
  was = λ v a is.
      let old : (assigned s v ≡ Some a) × (a.level ≤ level) = kept_was level (assigned s v) a (sym (here v) ∙ is) in
      (old.0, elim (cases_lt a.place (length t.trail)) [ inl before ↦ before | inr past ↦ absurd (gone v a old.0 old.1 past) ], old.1);
  stays = λ v a is before. here v ∙ kept_stays level (assigned s v) a is (low v a is before);
  low_stays = λ v a is small. here v ∙ kept_stays level (assigned s v) a is small;
}
  where
    d : Lit
    d = record { variable = 0; positive = false }

    here : (v : ℕ) → assigned t v ≡ kept_to level (assigned s v)
    here v = ap (λ (vs : List (Option Assigned)). get_or vs v None) back.values ∙ kept_at level s.values v

    low : (v : ℕ) (a : Assigned) → assigned s v ≡ Some a → a.place < length t.trail → a.level ≤ level
    low v a is before =
        let lit : Lit = true_lit v a in
        let on : get_or s.trail a.place lit ≡ lit = sound.ordered.on_trail v a lit is in
        let at : get_or t.trail a.place lit ≡ lit = sym (get_or_append_left t.trail back.rest lit a.place before) ∙ ap (λ (ts : List Lit). get_or ts a.place lit) back.trail ∙ on in
        let up : IsUpTo s level lit = back.stays lit (a.place, before, at) in
        let same : up.0 ≡ a = same_value v up.0 a up.1 is in
        omega (arith, up.2, ap (λ (x : Assigned). x.level) same)
      where
        same_value : (v : ℕ) (a b : Assigned) → assigned s v ≡ Some a → assigned s v ≡ Some b → a ≡ b
        same_value v a b x y = cc

    gone : (v : ℕ) (a : Assigned) → assigned s v ≡ Some a → a.level ≤ level → length t.trail ≤ a.place → ⊥
    gone v a is small past =
        let lit : Lit = true_lit v a in
        let on : get_or s.trail a.place lit ≡ lit = sound.ordered.on_trail v a lit is in
        let sizes : length s.trail ≡ length t.trail + length back.rest = ap (λ (ts : List Lit). length ts) (sym back.trail) ∙ length-append t.trail back.rest in
        let index : length t.trail + (a.place - length t.trail) ≡ a.place = omega (arith, past) in
        let at : get_or back.rest (a.place - length t.trail) lit ≡ lit = sym (get_or-append-add t.trail back.rest (a.place - length t.trail) lit) ∙ ap (λ (ts : List Lit). get_or ts (length t.trail + (a.place - length t.trail)) lit) back.trail
        ∙ ap (λ (n : ℕ). get_or s.trail n lit) index ∙ on in
        let above : IsAbove s level lit = back.goes lit (a.place - length t.trail, omega (arith, sizes, sound.ordered.within v a is, past), at) in
        let same : above.0 ≡ a = same_value v above.0 a above.1 is in
        omega (arith, above.2, small, ap (λ (x : Assigned). x.level) same)
      where
        same_value : (v : ℕ) (a b : Assigned) → assigned s v ≡ Some a → assigned s v ≡ Some b → a ≡ b
        same_value v a b x y = cc

-- after a backjump the cursor is within the trail
pub idle_cut : (s t : SolverForm) (w : WatchesForm) (level low : ℕ) → level ≤ s.level → IsSound t → Backjumps s t level → low ≤ w.cursor → low ≤ length t.trail → (w.cursor ≤ low) ⊎ (length t.trail ≤ low) → IsIdle s w → IsIdle t (record w { cursor = low })
idle_cut s t w level low below sound back less within either idle = record {
  sound = sound;
  lists = idle.lists;
  fallen = idle.fallen;
  empty = idle.empty;
  linked =
      let size : length t.values ≡ length s.values = ap (λ (vs : List (Option Assigned)). length vs) back.values ∙ length-map s.values (kept_to level) in
      let old : IsLinked t.clauses (length t.values) w idle.fallen idle.lists = subst (λ (cs : List Stored). IsLinked cs (length t.values) w idle.fallen idle.lists) (sym back.clauses)
      (subst (λ (n : ℕ). IsLinked s.clauses n w idle.fallen idle.lists) (sym size) idle.linked) in
      record {
        heads_size = old.heads_size;
        slots_size = old.slots_size;
        within = old.within;
        links = old.links;
        listed = old.listed;
        members = old.members;
      };
  watched = watched_cut s t level (length t.trail) (watch_at w.slots) w.linked w.cursor low (λ x. ⊥) (back_cuts s t level idle.sound back) back.clauses back.reached below refl less within either idle.watched;
}

-- a decision, with the cursor at the end of the trail
pub idle_decided : (s t : SolverForm) (w : WatchesForm) (lit : Lit) (level : ℕ) → t ≡ with_literal s lit level None → IsSound t → lit.variable < length s.values → assigned s lit.variable ≡ None → length s.trail ≤ w.cursor → IsIdle s w → IsIdle t w
idle_decided s t w lit level is sound named free past idle = record {
  sound = sound;
  lists = idle.lists;
  fallen = idle.fallen;
  empty = idle.empty;
  linked = subst (λ (u : SolverForm). IsLinked u.clauses (length u.values) w idle.fallen idle.lists) (sym is)
      (subst (λ (n : ℕ). IsLinked s.clauses n w idle.fallen idle.lists) (sym (length-set s.values lit.variable (Some (added s lit level None)))) idle.linked);
  watched = subst (λ (u : SolverForm). AreWatched u (watch_at w.slots) w.linked w.cursor (λ x. ⊥)) (sym is)
      (watched_more s lit level None (watch_at w.slots) w.linked w.cursor (λ x. ⊥) named free (inr past) idle.sound (length_push s.trail lit) idle.watched);
}

-- the clauses that are held have the same literals
pub idle_clauses : (s : SolverForm) (w : WatchesForm) (clauses : List Stored) (slots : List Slot) → IsSound (record s { clauses = clauses })
    → length slots ≡ 2 * length clauses → length s.clauses ≤ length clauses → ((x : ℕ) → get_or slots x no_slot ≡ get_or w.slots x no_slot)
    → ((number : ℕ) → number < length s.clauses → clause_at clauses number ≡ clause_at s.clauses number)
    → ((number : ℕ) → number < length s.clauses → IsAttached clauses number → IsAttached s.clauses number) → IsIdle s w → IsIdle (record s { clauses = clauses }) (record w { slots = slots })
idle_clauses s w clauses slots sound size more same clause attached idle = record {
  sound = sound;
  lists = idle.lists;
  fallen = idle.fallen;
  empty = idle.empty;
  linked = record {
    heads_size = idle.linked.heads_size;
    slots_size = size;
    within = omega (arith, idle.linked.within, more);
    links = subst (λ (f : ℕ → ℕ). AreLinked (link_at w.heads) f idle.lists) (λ i x. (sym (same x) i).next) idle.linked.links;
    listed = λ number x y held long partners.
        elim (idle.linked.listed number x y (before number held) (long_before number (omega (arith, held.1, idle.linked.within)) long) partners) [
          | inl work ↦ inl work
          | inr there ↦ inr (subst (λ (l : Lit). Contains (idle.lists (code l)) x) (sym (watch x)) there)
        ];
    members = λ l x among.
        let was : IsMember s.clauses w.linked x × IsOf l (watch_at w.slots x) idle.fallen = idle.linked.members l x among in (
          record {
            number = was.0.number;
            other = was.0.other;
            partners = was.0.partners;
            before = was.0.before;
            long = subst (λ (ls : List Lit). 2 ≤ length ls) (sym (clause was.0.number (omega (arith, was.0.before, idle.linked.within)))) was.0.long;
          },
          subst (λ (k : Lit). IsOf l k idle.fallen) (sym (watch x)) was.1,
        );
  };
  watched = record {
    long = λ number x y held long partners. subst (λ (ls : List Lit). Watches (assigned s) w.cursor (λ k. ⊥) ls (watch_at slots) x y) (sym (clause number (omega (arith, held.1, idle.linked.within))))
        (subst (λ (f : ℕ → Lit). Watches (assigned s) w.cursor (λ k. ⊥) (clause_at s.clauses number) f x y) (λ i z. (sym (same z) i).lit)
        (idle.watched.long number x y (before number held) (long_before number (omega (arith, held.1, idle.linked.within)) long) partners));
    fresh = idle.watched.fresh;
    cursor_in = idle.watched.cursor_in;
    linked_in = omega (arith, idle.linked.within, more);
  };
}
  where
    watch : (x : ℕ) → watch_at slots x ≡ watch_at w.slots x
    watch x = ap (λ (s : Slot). s.lit) (same x)

    before : (number : ℕ) → IsHeld clauses w.linked number → IsHeld s.clauses w.linked number
    before number held = (attached number (omega (arith, held.1, idle.linked.within)) held.0, held.1)

    long_before : (number : ℕ) → number < length s.clauses → IsLong clauses number → IsLong s.clauses number
    long_before number below long = subst (λ (ls : List Lit). 2 ≤ length ls) (clause number below) long

-- one more slot that watches nothing changes no slot
pub slot_more : (slots : List Slot) (x : ℕ) → get_or (slots ++ no_slot ∷ []) x no_slot ≡ get_or slots x no_slot
slot_more [] zero = refl
slot_more [] (suc x) = refl
slot_more (y ∷ slots) zero = refl
slot_more (y ∷ slots) (suc x) = slot_more slots x

-- a clause is attached
pub idle_attached : (s : SolverForm) (w : WatchesForm) (clause : List Lit) (slots : List Slot) → IsSound (with_clause s clause) → slots ≡ (w.slots ++ no_slot ∷ []) ++ no_slot ∷ [] → IsIdle s w → IsIdle (with_clause s clause) (record w { slots = slots })
idle_attached s w clause slots sound is idle = idle_clauses s w (s.clauses ++ new ∷ []) slots sound
    (let size : length slots ≡ length ((w.slots ++ no_slot ∷ []) ++ no_slot ∷ []) = ap (λ (xs : List Slot). length xs) is in
    omega (arith, size, length_push (w.slots ++ no_slot ∷ []) no_slot, length_push w.slots no_slot, idle.linked.slots_size, length_push s.clauses new))
    (omega (arith, length_push s.clauses new))
    (λ x. ap (λ (xs : List Slot). get_or xs x no_slot) is ∙ slot_more (w.slots ++ no_slot ∷ []) x ∙ slot_more w.slots x)
    (λ number below. ap (λ (x : Stored). x.clause) (get_or_append_left s.clauses (new ∷ []) no_clause number below))
    (λ number below attached. sym (ap (λ (x : Stored). x.attached) (get_or_append_left s.clauses (new ∷ []) no_clause number below)) ∙ attached)
    idle
  where
    new : Stored
    new = record { clause = clause; attached = true }

-- a clause that is retired keeps its literals
pub retired_clause : (s : SolverForm) (number n : ℕ) → clause_at (without_clause s number).clauses n ≡ clause_at s.clauses n
retired_clause s number n = elim (cases_eq n number) [
  | inl here ↦ elim (cases_lt number (length s.clauses)) [
    | inl below ↦ ap (λ (m : ℕ). clause_at (slice_set s.clauses number gone) m) here ∙ ap (λ (x : Stored). x.clause) (get_or-set_same s.clauses number gone no_clause below) ∙ ap (clause_at s.clauses) (sym here)
    | inr past ↦ ap (λ (xs : List Stored). clause_at xs n) (set_past s.clauses number gone past)
  ]
  | inr differ ↦ ap (λ (x : Stored). x.clause) (get_or-set_other s.clauses number n gone no_clause differ)
]
  where
    gone : Stored
    gone = record { clause = clause_at s.clauses number; attached = false }

-- and the others stay attached as they were
pub retired_attached : (s : SolverForm) (number n : ℕ) → IsAttached (without_clause s number).clauses n → IsAttached s.clauses n
retired_attached s number n attached = elim (cases_eq n number) [
  | inl here ↦ elim (cases_lt number (length s.clauses)) [
    | inl below ↦
        let off : (get_or (slice_set s.clauses number gone) n no_clause).attached ≡ false = ap (λ (m : ℕ). (get_or (slice_set s.clauses number gone) m no_clause).attached) here ∙ ap (λ (x : Stored). x.attached) (get_or-set_same s.clauses number gone no_clause below) in
        let clash : ⊥ = cc in absurd clash
    | inr past ↦ subst (λ (xs : List Stored). IsAttached xs n) (set_past s.clauses number gone past) attached
  ]
  | inr differ ↦ sym (ap (λ (x : Stored). x.attached) (get_or-set_other s.clauses number n gone no_clause differ)) ∙ attached
]
  where
    gone : Stored
    gone = record { clause = clause_at s.clauses number; attached = false }

-- a clause is retired: its slots stay where they are
pub idle_retired : (s : SolverForm) (w : WatchesForm) (number : ℕ) → IsSound (without_clause s number) → IsIdle s w → IsIdle (without_clause s number) w
idle_retired s w number sound idle = idle_clauses s w (without_clause s number).clauses w.slots sound
    (omega (arith, idle.linked.slots_size, length-set s.clauses number (record { clause = clause_at s.clauses number; attached = false })))
    (omega (arith, length-set s.clauses number (record { clause = clause_at s.clauses number; attached = false })))
    (λ x. refl) (λ n below. retired_clause s number n) (λ n below attached. retired_attached s number n attached) idle

-- the links of empty lists
no_links : (count k : ℕ) → link_at (replicate {A = ℕ} count 0) k ≡ 0
no_links zero k = refl
no_links (suc count) zero = refl
no_links (suc count) (suc k) = no_links count k

-- with an empty trail the watches hold as they are
pub idle_cleared : (s : SolverForm) (w : WatchesForm) → IsIdle s w → IsIdle (cleared s) (record w { cursor = 0; looked = 0 })
idle_cleared s w idle = record {
  sound = sound_empty (replicate (length s.values) None) s.clauses s.order s.used (λ v. free_at (length s.values) v)
      (λ number lit among. let below : lit.variable < length s.values = idle.sound.named number lit among in omega (arith, below, size))
      (omega (arith, size, idle.sound.small.0)) idle.sound.small.1;
  lists = idle.lists;
  fallen = idle.fallen;
  empty = idle.empty;
  linked = record {
    heads_size = omega (arith, idle.linked.heads_size, size);
    slots_size = idle.linked.slots_size;
    within = idle.linked.within;
    links = idle.linked.links;
    listed = idle.linked.listed;
    members = idle.linked.members;
  };
  watched = record {
    long = λ number x y held long partners.
        let was : Watches (assigned s) w.cursor (λ k. ⊥) (clause_at s.clauses number) (watch_at w.slots) x y = idle.watched.long number x y held long partners in
        record { within = was.within; differs = was.differs; safe = inr (λ fell. absurd (omega (arith, fell.3))) };
    fresh = λ v a is past. let none : assigned (cleared s) v ≡ None = free_at (length s.values) v in let clash : ⊥ = cc in absurd clash;
    cursor_in = omega arith;
    linked_in = idle.watched.linked_in;
  };
}
  where
    size : length (replicate {A = Option Assigned} (length s.values) None) ≡ length s.values
    size = length-replicate (length s.values) None

pub ready_cleared : (s t : SolverForm) (w left : WatchesForm) → t ≡ cleared s → left ≡ record w { cursor = 0; looked = 0 } → IsReady s w → IsReady t left
ready_cleared s t w left is left_is ready = subst (λ (u : SolverForm). IsReady u left) (sym is) (subst (λ (l : WatchesForm). IsReady (cleared s) l) (sym left_is)
    (record { idle = idle_cleared s w ready.idle; short = looked_none s (cleared s) w.shorts w.looked refl ready.short }))

pub ready_blank : (variables : ℕ) (w : WatchesForm) → variables < 4294967296 → IsBlank variables w → IsReady (blank variables) w
ready_blank variables w few is = record {
  idle = idle_reset (blank variables) w
      (sound_empty (replicate variables None) [] (numbers_between 0 variables) variables (λ v. free_at variables v) (λ number lit among. absurd (no_lit number lit among)) (omega (arith, size, few)) (omega arith))
      (λ k. ap (λ (xs : List ℕ). link_at xs k) is.heads ∙ no_links (2 * variables + 2) k)
      (omega (arith, ap (λ (xs : List ℕ). length xs) is.heads, length-replicate {A = ℕ} (2 * variables + 2) 0, size)) (ap (λ (xs : List Slot). length xs) is.slots) is.linked is.cursor;
  short = record {
    all = λ number attached. absurd (omega (arith, attached_within [] number attached));
    real = λ number among. absurd (nothing_in number (subst (λ (xs : List ℕ). Contains xs number) is.shorts among));
    settled = λ k below. absurd (omega (arith, below, is.looked));
    within = omega (arith, is.looked);
  };
}
  where
    size : length (replicate {A = Option Assigned} variables None) ≡ variables
    size = length-replicate variables None

    no_lit : (number : ℕ) (lit : Lit) → Contains (clause_at [] number) lit → ⊥
    no_lit number lit (k, below, is) = omega (arith, below)

-- more lists that are empty change no link
link_more : (heads : List ℕ) (count k : ℕ) → link_at (heads ++ replicate {A = ℕ} count 0) k ≡ link_at heads k
link_more [] count k = no_links count k
link_more (x ∷ heads) count zero = refl
link_more (x ∷ heads) count (suc k) = link_more heads count k

-- more variables that are unassigned
pub idle_grown : (s : SolverForm) (w : WatchesForm) (variables : ℕ) → length s.values ≤ variables → variables < 4294967296 → IsIdle s w
    → IsIdle (grown s variables) (record w { heads = w.heads ++ replicate (2 * variables + 2 - length w.heads) 0 })
idle_grown s w variables more few idle = record {
  sound = sound_ordered (record s { values = (grown s variables).values }) (grown s variables).order variables (sound_grown s (grown s variables).values same (omega (arith, size)) (omega (arith, size, few)) idle.sound);
  lists = idle.lists;
  fallen = idle.fallen;
  empty = idle.empty;
  linked = record {
    heads_size = omega (arith, length-append w.heads (replicate {A = ℕ} (2 * variables + 2 - length w.heads) 0), length-replicate {A = ℕ} (2 * variables + 2 - length w.heads) 0, idle.linked.heads_size, more, size);
    slots_size = idle.linked.slots_size;
    within = idle.linked.within;
    links = subst (λ (f : ℕ → ℕ). AreLinked f (next_at w.slots) idle.lists) (λ i k. (sym (link_more w.heads (2 * variables + 2 - length w.heads) k)) i) idle.linked.links;
    listed = idle.linked.listed;
    members = idle.linked.members;
  };
  watched = record {
    long = λ number x y held long partners. subst (λ (f : ℕ → Option Assigned). Watches f w.cursor (λ k. ⊥) (clause_at s.clauses number) (watch_at w.slots) x y) equal (idle.watched.long number x y held long partners);
    fresh = λ v a is past. idle.watched.fresh v a (sym (same v) ∙ is) past;
    cursor_in = idle.watched.cursor_in;
    linked_in = idle.watched.linked_in;
  };
}
  where
    same : (v : ℕ) → assigned (grown s variables) v ≡ assigned s v
    same v = grown_at s.values (variables - length s.values) v

    size : length (grown s variables).values ≡ variables
    size = omega (arith, length-append s.values (replicate {A = Option Assigned} (variables - length s.values) None), length-replicate {A = Option Assigned} (variables - length s.values) None, more)

    equal : assigned s ≡ assigned (grown s variables)
    equal = λ i v. (sym (same v)) i

pub ready_grown : (s t : SolverForm) (w left : WatchesForm) (variables heads_room : ℕ) → length s.values ≤ variables → variables < 4294967296 → t ≡ grown s variables
    → left ≡ record w { heads = w.heads ++ replicate (2 * variables + 2 - length w.heads) 0; heads_room = heads_room } → IsReady s w → IsReady t left
ready_grown s t w left variables heads_room more few is left_is ready = subst (λ (u : SolverForm). IsReady u left) (sym is) (subst (λ (l : WatchesForm). IsReady (grown s variables) l) (sym left_is) (record {
  idle = idle_apart (grown s variables) (record w { heads = w.heads ++ replicate (2 * variables + 2 - length w.heads) 0 }) w.shorts w.looked heads_room w.slots_room w.shorts_room (idle_grown s w variables more few ready.idle);
  short = looked_over s (grown s variables) w.shorts w.looked refl (λ v a there low. grown_at s.values (variables - length s.values) v ∙ there) ready.short;
}))

-- the order of decisions is no part of the watches
pub ready_ordered : (s t : SolverForm) (w : WatchesForm) (order : List ℕ) (used : ℕ) → t ≡ record s { order = order; used = used } → IsReady s w → IsReady t w
ready_ordered s t w order used is ready = subst (λ (u : SolverForm). IsReady u w) (sym is) (record {
  idle = record {
    sound = sound_ordered s order used ready.idle.sound;
    lists = ready.idle.lists;
    fallen = ready.idle.fallen;
    empty = ready.idle.empty;
    linked = ready.idle.linked;
    watched = record {
      long = ready.idle.watched.long;
      fresh = ready.idle.watched.fresh;
      cursor_in = ready.idle.watched.cursor_in;
      linked_in = ready.idle.watched.linked_in;
    };
  };
  short = looked_over s (record s { order = order; used = used }) w.shorts w.looked refl (λ v a there low. there) ready.short;
})

-- room is no part of what the watches say
pub ready_room : (s : SolverForm) (w left : WatchesForm) (heads_room slots_room shorts_room : ℕ) → left ≡ record w { heads_room = heads_room; slots_room = slots_room; shorts_room = shorts_room } → IsReady s w → IsReady s left
ready_room s w left heads_room slots_room shorts_room is ready = subst (λ (l : WatchesForm). IsReady s l) (sym is)
    (record { idle = idle_apart s w w.shorts w.looked heads_room slots_room shorts_room ready.idle; short = ready.short })

-- after a backjump the cursor is within the trail
pub ready_cut : (s t : SolverForm) (w left : WatchesForm) (level : ℕ) (trail : List Lit) → level ≤ s.level → IsSound t → Backjumps s t level → trail ≡ t.trail → left ≡ record w { cursor = min w.cursor (length trail) } → IsReady s w → IsReady t left
ready_cut s t w left level trail below sound back same is ready =
    let end : length trail ≡ length t.trail = ap (λ (ts : List Lit). length ts) same in
    let cuts : Cuts (assigned s) (assigned t) level (length t.trail) = back_cuts s t level ready.idle.sound back in
    subst (λ (l : WatchesForm). IsReady t l) (sym is) (record {
      idle = idle_cut s t w level (min w.cursor (length trail)) below sound back (omega arith) (omega (arith, end)) (elim (cases_lt w.cursor (length trail)) [
        | inl before ↦ inl (omega (arith, before))
        | inr past ↦ inr (omega (arith, past, end))
      ]) ready.idle;
      short = looked_over s t w.shorts w.looked back.clauses (λ v a there low. cuts.low_stays v a there (omega (arith, low))) ready.short;
    })

pub ready_decided : (s t : SolverForm) (w : WatchesForm) (lit : Lit) (level : ℕ) → t ≡ with_literal s lit level None → IsSound t → lit.variable < length s.values → assigned s lit.variable ≡ None → length s.trail ≤ w.cursor → IsReady s w → IsReady t w
ready_decided s t w lit level is sound named free past ready = record {
  idle = idle_decided s t w lit level is sound named free past ready.idle;
  short = looked_over s t w.shorts w.looked (ap (λ (u : SolverForm). u.clauses) is)
      (λ v a there low. ap (λ (u : SolverForm). assigned u v) is ∙ added_stays (adds_literal s lit level None named free) v a there) ready.short;
}

-- a clause is attached
pub ready_attached : (s t : SolverForm) (w left : WatchesForm) (clause : List Lit) (shorts : List ℕ) (slots_room shorts_room : ℕ) → IsSound (with_clause s clause) → t ≡ with_clause s clause
    → left ≡ record w { slots = (w.slots ++ no_slot ∷ []) ++ no_slot ∷ []; shorts = shorts; slots_room = slots_room; shorts_room = shorts_room }
    → ((length clause < 2) × (shorts ≡ w.shorts ++ length s.clauses ∷ [])) ⊎ ((2 ≤ length clause) × (shorts ≡ w.shorts)) → IsReady s w → IsReady t left
ready_attached s t w left clause shorts slots_room shorts_room sound is left_is either ready = subst (λ (u : SolverForm). IsReady u left) (sym is) (subst (λ (l : WatchesForm). IsReady (with_clause s clause) l) (sym left_is) (record {
  idle = idle_apart (with_clause s clause) (record w { slots = (w.slots ++ no_slot ∷ []) ++ no_slot ∷ [] }) shorts w.looked w.heads_room slots_room shorts_room
      (idle_attached s w clause ((w.slots ++ no_slot ∷ []) ++ no_slot ∷ []) sound refl ready.idle);
  short = looked_attached s clause w.shorts shorts w.looked either ready.short;
}))

-- a clause is retired
pub ready_retired : (s t : SolverForm) (w : WatchesForm) (number : ℕ) → t ≡ without_clause s number → IsSound (without_clause s number) → IsReady s w → IsReady t w
ready_retired s t w number is sound ready = subst (λ (u : SolverForm). IsReady u w) (sym is) (record {
  idle = idle_retired s w number sound ready.idle;
  short = looked_retired s (without_clause s number) w.shorts w.looked (length-set s.clauses number (record { clause = clause_at s.clauses number; attached = false }))
      (retired_clause s number) (retired_attached s number) refl ready.short;
})
