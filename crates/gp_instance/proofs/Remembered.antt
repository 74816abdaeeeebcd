-- What a search remembers of choices of which nothing came.
use Rattle.std.proofs.Common.{ℕ, zero, suc, ◌-◌, ◌≡◌, ◌∙◌, ◌≤◌, ap, refl, sym, arith, List, [], ◌∷◌, ◌++◌, drop, length, length-append, map}
use Rattle.std.proofs.lemmas.List.{length-drop, length-map}
use Rattle.gp_base.specs.LimitLaws.{up_to, up_to_few, up_to_room}
use Rattle.gp_trace.specs.declared.event.Event.{Event}
use Rattle.gp_window.specs.declared.schedule.EventId.{EventId}
use Rattle.gp_property.specs.declared.atoms.PatternAtom.{PatternAtom}
use Rattle.gp_instance.specs.declared.instance.Instance.{Instance}
use Rattle.gp_instance.specs.DeadEnds.{IsDeadEnd, last_of}
use Rattle.gp_instance.specs.Search.{first_instances, instance_after, search}

empty : {X : Type 0} (xs : List X) → length xs ≡ 0 → xs ≡ []
empty [] none = refl
empty (x ∷ xs) none = absurd (omega (arith, none))

-- where there is room and no more was found, there was nothing to find
pub nothing_found : (found next : List Instance) (number : ℕ) (front : List EventId) (lists : List (List EventId)) → length found ≤ 10000
    → next ≡ first_instances found (map (instance_after number front) lists) → length next ≡ length found → lists ≡ []
unfolding first_instances
nothing_found found next number front lists room is same =
    let more : List Instance = map (instance_after number front) lists in
    let told : length next ≡ length (up_to 10001 found more) = ap length is in
    let few = up_to_few 10001 found more (omega (arith, told, same, room)) in
    let all : length (found ++ more) ≡ length (up_to 10001 found more) = ap length (up_to_room 10001 found more (omega (arith, few))) in
    empty lists (omega (arith, told, same, all, length-append found more, length-map lists (instance_after number front)))

drop_one : {X : Type 0} (k : ℕ) (xs rest : List X) (x : X) → drop k xs ≡ x ∷ rest → drop (suc k) xs ≡ rest
drop_one zero (y ∷ ys) rest x is = ap (drop 1) is
drop_one (suc k) (y ∷ ys) rest x is = drop_one k ys rest x is
drop_one zero [] rest x is = ap (drop 1) is
drop_one (suc k) [] rest x is = ap (drop 1) is

-- the last atoms but the first of them
pub last_later : (pattern atoms later : List PatternAtom) (atom : PatternAtom) → atoms ≡ atom ∷ later → last_of (length atoms) pattern ≡ atoms → last_of (length later) pattern ≡ later
last_later pattern atoms later atom is last =
    let many : length atoms ≡ suc (length later) = ap length is in
    let front : length (drop (length pattern - length atoms) pattern) ≡ length atoms = ap length last in
    let all : length (drop (length pattern - length atoms) pattern) ≡ length pattern - (length pattern - length atoms) = length-drop (length pattern - length atoms) pattern in
    let next : suc (length pattern - length atoms) ≡ length pattern - length later = omega (arith, many, front, all) in
    ap (λ k. drop k pattern) (sym next) ∙ drop_one (length pattern - length atoms) pattern later atom (last ∙ is)

-- what was left, of which nothing came, is a dead end
pub dead_end : (segments : List (List Event)) (pattern later : List PatternAtom) (left : List (List EventId)) → length left ≡ length later → last_of (length later) pattern ≡ later
    → search segments later left ≡ [] → IsDeadEnd segments pattern left
dead_end segments pattern later left many last none =
    ap (λ n. search segments (last_of n pattern) left) many ∙ ap (λ atoms. search segments atoms left) last ∙ none
