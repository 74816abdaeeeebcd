-- A walk from its begin to its end.
use Rattle.std.proofs.Common.{◌≡◌, refl, sym, ◌∙◌, ap, subst, ℕ, ◌+◌, ◌<◌, not, Some, List, [], length, get_or, inl, inr, arith, Contains}
use Rattle.std.proofs.lemmas.Bool.{cases_eq}
use Rattle.gp_clause.specs.declared.lit.Lit.{Lit}
use Rattle.gp_clause.specs.Lit.{opposite}
use Rattle.gp_sat.specs.declared.assigned.Assigned.{Assigned}
use Rattle.gp_sat.specs.State.{SolverForm, assigned, clause_at}
use Rattle.gp_sat.specs.Sound.{IsSound, true_lit}
use Rattle.gp_sat.specs.Standing.{IsFalseBefore}
use Rattle.gp_sat.specs.Changes.{Propagates}
use Rattle.gp_sat.specs.Links.{put}
use Rattle.gp_sat.specs.WatchesForm.{WatchesForm}
use Rattle.gp_sat.specs.Watching.{Watches, AreWatched, code, link_at, next_at, watch_at, no_slot}
use Rattle.gp_sat.specs.Linked.{IsLinked}
use Rattle.gp_sat.specs.Stepping.{HasFallen, IsWalking, IsReturning, IsIdle, OnWalk, GoesOn, IsDone, KeepsShorts}
use Rattle.gp_sat.proofs.Linking.{put_here, put_other}
use Rattle.gp_sat.proofs.Relinking.{chain_none, begun, begun_lists, begins, code_not_work, code_below}
use Rattle.std.proofs.lemmas.List.{get_or_default}
use Rattle.gp_base.specs.ListLaws.{nothing_in}
use Rattle.gp_sat.proofs.Steps.{propagates_none, propagates_more}
use Rattle.gp_sat.specs.SolverLaws.{within_values, trail_counts}
use Rattle.std.proofs.Math.Bool.{not-not}
use Rattle.gp_clause.specs.LitLaws.{lits_same}

-- the literal whose opposite stands at the cursor fell
pub fallen_at : (s : SolverForm) (cursor : ℕ) (lit : Lit) (skipped : ℕ → Type 0) (watch : ℕ → Lit) (linked : ℕ) → IsSound s → cursor < length s.trail → get_or s.trail cursor lit ≡ lit → AreWatched s watch linked cursor skipped
    → HasFallen s (cursor + 1) (opposite lit)
fallen_at s cursor lit skipped watch linked sound within is watched =
    let there : (a : Assigned) × (assigned s (get_or s.trail cursor lit).variable ≡ Some a) × (a.place ≡ cursor) = sound.ordered.off_trail cursor lit within in
    let holds : assigned s lit.variable ≡ Some there.0 = ap (λ (l : Lit). assigned s l.variable) (sym is) ∙ there.1 in
    let same : get_or s.trail there.0.place lit ≡ true_lit lit.variable there.0 = sound.ordered.on_trail lit.variable there.0 lit holds in
    let mine : lit ≡ true_lit lit.variable there.0 = sym is ∙ ap (λ (p : ℕ). get_or s.trail p lit) (sym there.2) ∙ same in
    record {
      value = there.0;
      is = holds;
      opposes = ap (λ (l : Lit). l.positive) (sym mine) ∙ sym (not-not lit.positive);
      present = watched.fresh lit.variable there.0 holds (omega (arith, there.2));
      there = omega (arith, there.2);
    }

-- a walk begins
pub walk_begins : (s : SolverForm) (w : WatchesForm) (lit : Lit) → IsIdle s w → w.cursor < length s.trail → get_or s.trail w.cursor lit ≡ lit → IsWalking s (begun w (opposite lit)) (opposite lit)
walk_begins s w lit idle within is =
    let fallen : Lit = opposite lit in
    let fell : HasFallen s (w.cursor + 1) (opposite lit) = fallen_at s w.cursor lit (λ z. ⊥) (watch_at w.slots) w.linked idle.sound within is idle.watched in
    let linked : IsLinked s.clauses (length s.values) (begun w (opposite lit)) (opposite lit) (begun_lists idle.lists (opposite lit)) =
    begins s.clauses (length s.values) w idle.fallen (opposite lit) idle.lists (within_values s.values lit.variable fell.value fell.is) idle.empty idle.linked in
    record {
      sound = idle.sound;
      lists = begun_lists idle.lists (opposite lit);
      linked = linked;
      watched = record {
        long = λ number z y held long partners.
            let was : Watches (assigned s) w.cursor (λ k. ⊥) (clause_at s.clauses number) (watch_at w.slots) z y = idle.watched.long number z y held long partners in
            record {
              within = was.within;
              differs = was.differs;
              safe = elim (linked.listed number z y held long partners) [
                | inl work ↦ inl work
                | inr there ↦ inr (elim was.safe [
                  | inl never ↦ absurd never
                  | inr safe ↦ λ before. elim (cases_eq before.0.place w.cursor) [
                    | inl here ↦ absurd (not_there z before here there)
                    | inr differ ↦ safe (before.0, before.1, before.2, omega (arith, before.3, differ))
                  ]
                ])
              ];
            };
        fresh = λ v a there past. idle.watched.fresh v a there (omega (arith, past));
        cursor_in = omega (arith, within);
        linked_in = idle.watched.linked_in;
      };
      fell = fell;
    }
  where
    -- the literal that fell at the cursor is watched by no slot but those of the work list
    not_there : (z : ℕ) (before : IsFalseBefore (w.cursor + 1) (assigned s) (watch_at w.slots z)) → before.0.place ≡ w.cursor → Contains (begun_lists idle.lists (opposite lit) (code (watch_at w.slots z))) z → ⊥
    not_there z before here there =
        let on : get_or s.trail before.0.place lit ≡ true_lit (watch_at w.slots z).variable before.0 = idle.sound.ordered.on_trail (watch_at w.slots z).variable before.0 lit before.1 in
        let mine : lit ≡ true_lit (watch_at w.slots z).variable before.0 = sym is ∙ ap (λ (p : ℕ). get_or s.trail p lit) (sym here) ∙ on in
        let sign : lit.positive ≡ not (watch_at w.slots z).positive = ap (λ (l : Lit). l.positive) mine ∙ before.2 in
        let same : watch_at w.slots z ≡ opposite lit = lits_same (watch_at w.slots z) (opposite lit) (ap (λ (l : Lit). l.variable) (sym mine)) (sym (ap not sign ∙ not-not (watch_at w.slots z).positive)) in
        let none : begun_lists idle.lists (opposite lit) (code (opposite lit)) ≡ [] = put_other (put idle.lists (code (opposite lit)) []) 0 (idle.lists (code (opposite lit))) (code (opposite lit)) (code_not_work (opposite lit))
        ∙ put_here idle.lists (code (opposite lit)) [] (code (opposite lit)) refl in
        nothing_in _ (subst (λ (ys : List ℕ). Contains ys z) none (subst (λ (l : Lit). Contains (begun_lists idle.lists (opposite lit) (code l)) z) same there))

-- a walk ends with an empty work list
pub walk_ends : (s : SolverForm) (w : WatchesForm) (fallen : Lit) → link_at w.heads 0 ≡ 0 → IsWalking s w fallen → IsIdle s w
walk_ends s w fallen none walking =
    let empty : walking.lists 0 ≡ [] = chain_none (next_at w.slots) (link_at w.heads 0) (walking.lists 0) (walking.linked.links.chains 0) none in
    record {
      sound = walking.sound;
      lists = walking.lists;
      fallen = fallen;
      empty = empty;
      linked = walking.linked;
      watched = record {
        long = λ number x y held long partners.
            let one = walking.watched.long number x y held long partners in
            record {
              within = one.within;
              differs = one.differs;
              safe = elim one.safe [
                | inl skip ↦ absurd (nothing_in _ (subst (λ (ys : List ℕ). Contains ys x) empty skip))
                | inr safe ↦ inr safe
              ];
            };
        fresh = walking.watched.fresh;
        cursor_in = walking.watched.cursor_in;
        linked_in = walking.watched.linked_in;
      };
    }

pub return_ends : (s : SolverForm) (w : WatchesForm) (fallen : Lit) → link_at w.heads 0 ≡ 0 → IsReturning s w fallen → IsIdle s w
return_ends s w fallen none returning = record {
  sound = returning.sound;
  lists = returning.lists;
  fallen = fallen;
  empty = chain_none (next_at w.slots) (link_at w.heads 0) (returning.lists 0) (returning.linked.links.chains 0) none;
  linked = returning.linked;
  watched = returning.watched;
}

-- what stays twice stays
pub keeps_more : (w mid left : WatchesForm) → KeepsShorts w mid → KeepsShorts mid left → KeepsShorts w left
keeps_more w mid left first second = record { shorts = second.shorts ∙ first.shorts; looked = second.looked ∙ first.looked }

-- one step after another
pub on_walk_more : (s mid now : SolverForm) (w left after : WatchesForm) (fallen : Lit) → OnWalk s mid w left fallen → GoesOn now left after fallen → Propagates mid now → OnWalk s now w after fallen
on_walk_more s mid now w left after fallen old goes added = record {
  walking = goes.walking;
  added = propagates_more s mid now old.added added;
  linked = goes.linked ∙ old.linked;
  cursor = goes.cursor ∙ old.cursor;
  kept = keeps_more w left after old.kept goes.kept;
}

-- the walk of the literal that fell at the cursor begins
pub walk_begins_at : (s : SolverForm) (w : WatchesForm) (fallen : Lit) → IsIdle s w → w.cursor < length s.trail → fallen ≡ opposite (get_or s.trail w.cursor no_slot.lit) → OnWalk s s w (begun w fallen) fallen
walk_begins_at s w fallen idle within is = record {
  walking = subst (λ (l : Lit). IsWalking s (begun w l) l) (sym is)
      (walk_begins s w (get_or s.trail w.cursor no_slot.lit) idle within (get_or_default s.trail w.cursor (get_or s.trail w.cursor no_slot.lit) no_slot.lit within));
  added = propagates_none s;
  linked = refl;
  cursor = refl;
  kept = record { shorts = refl; looked = refl };
}

-- the literal at a place of the trail is one of the solver's
pub fallen_code : (s : SolverForm) (w : WatchesForm) (fallen : Lit) → IsIdle s w → w.cursor < length s.trail → fallen ≡ opposite (get_or s.trail w.cursor no_slot.lit) → code fallen < length w.heads
fallen_code s w fallen idle within is =
    let there : (a : Assigned) × (assigned s (get_or s.trail w.cursor no_slot.lit).variable ≡ Some a) × (a.place ≡ w.cursor) = idle.sound.ordered.off_trail w.cursor no_slot.lit within in
    let below : (get_or s.trail w.cursor no_slot.lit).variable < length s.values = within_values s.values (get_or s.trail w.cursor no_slot.lit).variable there.0 there.1 in
    let same : fallen.variable ≡ (get_or s.trail w.cursor no_slot.lit).variable = ap (λ (l : Lit). l.variable) is in
    omega (arith, idle.linked.heads_size, code_below fallen (length s.values) (let e : fallen.variable < length s.values = omega (arith, below, same) in e))

pub walk_done : (s now : SolverForm) (w left : WatchesForm) (fallen : Lit) → OnWalk s now w left fallen → link_at left.heads 0 ≡ 0 → IsDone now w left
walk_done s now w left fallen on none = record {
  idle = walk_ends now left fallen none on.walking;
  linked = on.linked;
  cursor = on.cursor;
  kept = on.kept;
}

-- the trail is short
pub trail_short : (s : SolverForm) → IsSound s → length s.trail < 4294967296
trail_short s sound = omega (arith, trail_counts s.values s.trail s.level sound.ordered, sound.small.0)
