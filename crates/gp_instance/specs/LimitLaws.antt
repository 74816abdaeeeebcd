-- Laws: what is found of instances up to one more than are listed, and what is due of that.
use Rattle.std.specs.Prelude.{ℕ, ◌<◌, ◌≤◌, ◌≡◌, cond, List, [], ◌∷◌, ◌++◌, length, map, Ok, Err}
use Rattle.std.proofs.Common.{ap, sym, subst, ◌∙◌, append_assoc, arith}
use Rattle.std.proofs.lemmas.Bool.{le-ltb, lt-ltb}
use Rattle.std.proofs.lemmas.List.{length-map, map-append}
use Rattle.std.proofs.lemmas.Simd.{map-map}
use Rattle.gp_base.specs.FilterLaws.{map_agree}
use Rattle.gp_base.specs.LimitLaws.{up_to_few, up_to_full, up_to_none, up_to_over, up_to_room, up_to_then, up_to_within}
use Rattle.gp_window.specs.declared.schedule.EventId.{EventId}
use Rattle.gp_instance.specs.declared.instance.Instance.{Instance}
use Rattle.gp_instance.specs.declared.instance.InstancesFault.TheVariants.{TooMany}
use Rattle.gp_instance.specs.Instances.{numbered, unless_too_many}
use Rattle.gp_instance.specs.Search.{first_instances, instance_after}

-- nothing more is found where the limit is reached
pub full : (found more : List Instance) → 10000 < length found → length found ≤ 10001 → found ≡ first_instances found more
unfolding first_instances
full found more over within = up_to_full 10001 found more (omega arith)

-- what is found is within the limit
pub within_limit : (found more : List Instance) → length (first_instances found more) ≤ 10001
unfolding first_instances
within_limit found more = up_to_within 10001 found more

-- there is room for one more
pub one_more : (found : List Instance) (instance : Instance) → length found ≤ 10000 → found ++ instance ∷ [] ≡ first_instances found (instance ∷ [])
unfolding first_instances
one_more found instance room = up_to_room 10001 found (instance ∷ []) (omega arith)

-- nothing more
pub no_more : (found : List Instance) → length found ≤ 10001 → found ≡ first_instances found []
unfolding first_instances
no_more found within = up_to_none 10001 found within

-- more, and then the rest
pub first_then : (found next more rest : List Instance) → next ≡ first_instances found more → first_instances next rest ≡ first_instances found (more ++ rest)
unfolding first_instances
first_then found next more rest is = up_to_then 10001 found next more rest is

-- an event before those that complete it
after_one : (number : ℕ) (front : List EventId) (id : EventId) (lists : List (List EventId))
    → map (instance_after number (front ++ id ∷ [])) lists ≡ map (instance_after number front) (map (λ rest. id ∷ rest) lists)
after_one number front id lists =
    map_agree (instance_after number (front ++ id ∷ [])) (λ rest. instance_after number front (id ∷ rest)) (λ rest. ap (numbered number) (append_assoc front (id ∷ []) rest)) lists
    ∙ sym (map-map (instance_after number front) (λ rest. id ∷ rest) lists)

-- the instances that go on with one event, and then those that go on otherwise
pub one_choice : (found next : List Instance) (number : ℕ) (front : List EventId) (id : EventId) (lists others : List (List EventId))
    → next ≡ first_instances found (map (instance_after number (front ++ id ∷ [])) lists)
    → first_instances next (map (instance_after number front) others) ≡ first_instances found (map (instance_after number front) (map (λ rest. id ∷ rest) lists ++ others))
one_choice found next number front id lists others is =
    first_then found next (map (instance_after number (front ++ id ∷ [])) lists) (map (instance_after number front) others) is
    ∙ ap (λ more. first_instances found (more ++ map (instance_after number front) others)) (after_one number front id lists)
    ∙ ap (first_instances found) (sym (map-append (instance_after number front) (map (λ rest. id ∷ rest) lists) others))

-- where more are found than are listed, too many are due, and else those that were found
pub many_due : (number : ℕ) (lists : List (List EventId)) (found : List Instance) → found ≡ first_instances [] (map (numbered number) lists)
    → 10000 < length found → Err TooMany ≡ unless_too_many number lists
unfolding first_instances
many_due number lists found is over =
    let many : 10000 < length lists = omega (arith, up_to_over 10001 10000 [] (map (numbered number) lists) (subst (λ xs. 10000 < length xs) is over), length-map lists (numbered number)) in
    ap (λ b. cond b (Err TooMany) (Ok (map (numbered number) lists))) (sym (lt-ltb 10000 (length lists) many))

pub all_due : (number : ℕ) (lists : List (List EventId)) (found : List Instance) → found ≡ first_instances [] (map (numbered number) lists)
    → length found ≤ 10000 → Ok found ≡ unless_too_many number lists
unfolding first_instances
all_due number lists found is few =
    let all : List Instance = map (numbered number) lists in
    let short : length all ≤ 10000 = omega (arith, up_to_few 10001 [] all (subst (λ xs. length xs < 10001) is (omega (arith, few)))) in
    let listed : length lists ≤ 10000 = omega (arith, short, length-map lists (numbered number)) in
    ap Ok (is ∙ sym (up_to_room 10001 [] all (omega (arith, short))))
    ∙ ap (λ b. cond b (Err TooMany) (Ok all)) (sym (le-ltb 10000 (length lists) listed))
