-- Where an atom has no event left, no list is found.
use Rattle.std.proofs.Common.{◌≡◌, refl, ap, ◌∙◌, sym, suc, Bool, true, false, cond, List, [], ◌∷◌, map, length, arith}
use Rattle.std.specs.Prelude.{filter, ◌||◌, Option, Some, None}
use Rattle.std.specs.List.{flat_map, list_any}
use Rattle.std.proofs.lemmas.Bool.{or_right}
use Rattle.std.proofs.Math.Dec.{eqb-suc-zero}
use Rattle.gp_base.specs.FilterLaws.{flat_map_agree}
use Rattle.gp_trace.specs.declared.event.Event.{Event}
use Rattle.gp_window.specs.declared.schedule.EventId.{EventId}
use Rattle.gp_property.specs.declared.atoms.PatternAtom.{PatternAtom}
use Rattle.gp_instance.specs.declared.chosen.Chosen.{Chosen}
use Rattle.gp_instance.specs.Search.{chosen_of, FindsSame, is_dead, Leaves, may_stand, narrowed, search, unless_dead}

-- the first has something left, so one of the rest has nothing
rest_dead : (id : EventId) (ids : List EventId) (domains : List (List EventId)) → list_any is_dead ((id ∷ ids) ∷ domains) ≡ true → list_any is_dead domains ≡ true
rest_dead id ids domains dead = ap (λ first. first || list_any is_dead domains) (sym (eqb-suc-zero (length ids))) ∙ dead

-- what is dead stays dead
stays_dead : (segments : List (List Event)) (chosen : Chosen) (atoms : List PatternAtom) (domains : List (List EventId))
    → length domains ≡ length atoms → list_any is_dead domains ≡ true → list_any is_dead (narrowed segments chosen atoms domains) ≡ true
stays_dead segments chosen [] [] same dead = cc
stays_dead segments chosen [] (ids ∷ domains) same dead = absurd (omega arith)
stays_dead segments chosen (atom ∷ atoms) [] same dead = absurd (omega arith)
stays_dead segments chosen (atom ∷ atoms) ([] ∷ domains) same dead = refl
stays_dead segments chosen (atom ∷ atoms) ((id ∷ ids) ∷ domains) same dead =
    or_right (is_dead (filter (may_stand segments chosen atom) (id ∷ ids))) (list_any is_dead (narrowed segments chosen atoms domains))
    (stays_dead segments chosen atoms domains (omega arith) (rest_dead id ids domains dead))

-- as many domains as atoms
pub narrowed_long : (segments : List (List Event)) (chosen : Chosen) (atoms : List PatternAtom) (domains : List (List EventId))
    → length domains ≡ length atoms → length (narrowed segments chosen atoms domains) ≡ length atoms
narrowed_long segments chosen [] domains same = refl
narrowed_long segments chosen (atom ∷ atoms) [] same = absurd (omega arith)
narrowed_long segments chosen (atom ∷ atoms) (ids ∷ domains) same = ap suc (narrowed_long segments chosen atoms domains (omega arith))

-- joins of nothing
flat_map_none : {A B : Type 0} (xs : List A) → flat_map {A = B} (λ x. []) xs ≡ []
flat_map_none [] = refl
flat_map_none (x ∷ xs) = flat_map_none xs

-- nothing is found
pub dead_end : (segments : List (List Event)) (atoms : List PatternAtom) (domains : List (List EventId))
    → length domains ≡ length atoms → list_any is_dead domains ≡ true → search segments atoms domains ≡ []
dead_end segments [] [] same dead = cc
dead_end segments [] (ids ∷ domains) same dead = absurd (omega arith)
dead_end segments (atom ∷ atoms) [] same dead = absurd (omega arith)
dead_end segments (atom ∷ atoms) ([] ∷ domains) same dead = refl
dead_end segments (atom ∷ atoms) ((id ∷ ids) ∷ domains) same dead =
    let left : EventId → List (List EventId) = λ first. narrowed segments (chosen_of segments atom first) atoms domains in
    let rest = rest_dead id ids domains dead in
    flat_map_agree (λ first. map (λ more. first ∷ more) (search segments atoms (left first))) (λ first. [])
    (λ first. ap (map (λ more. first ∷ more)) (dead_end segments atoms (left first) (narrowed_long segments (chosen_of segments atom first) atoms domains (omega arith)) (stays_dead segments (chosen_of segments atom first) atoms domains (omega arith) rest)))
    (id ∷ ids)
    ∙ flat_map_none (id ∷ ids)

-- what is left of events from which the same is found
pub leaves : (segments : List (List Event)) (atoms : List PatternAtom) (due some : List (List EventId)) (left : Option (List (List EventId)))
    → FindsSame segments atoms due some → left ≡ unless_dead some → Leaves segments atoms due left
leaves segments atoms due some left same is =
    let by_cases : (b : Bool) → list_any is_dead some ≡ b → left ≡ cond b None (Some some) → Leaves segments atoms due left = λ b. elim b as (λ v. list_any is_dead some ≡ v → left ≡ cond v None (Some some) → Leaves segments atoms due left) [
      | true ↦ λ dead none. rw none (sym same.0 ∙ dead_end segments atoms some same.1 dead)
      | false ↦ λ alive all. rw all same
    ] in
    by_cases (list_any is_dead some) refl is

-- what the narrowing after a choice leaves
pub leaves_narrowed : (segments : List (List Event)) (chosen due : Chosen) (atoms : List PatternAtom) (others : List (List EventId)) (left : Option (List (List EventId)))
    → chosen ≡ due → length others ≡ length atoms → left ≡ unless_dead (narrowed segments chosen atoms others)
    → Leaves segments atoms (narrowed segments due atoms others) left
leaves_narrowed segments chosen due atoms others left is same kept =
    leaves segments atoms (narrowed segments due atoms others) (narrowed segments due atoms others) left (refl, narrowed_long segments due atoms others same) (kept ∙ ap (λ c. unless_dead (narrowed segments c atoms others)) is)
