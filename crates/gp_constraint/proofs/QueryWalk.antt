-- The walks over the steps of a pattern, one step more.
use Rattle.std.proofs.Common.{ℕ, ◌≡◌, ◌+◌, ◌<◌, ap, sym, ◌∙◌, List, ◌∷◌, ◌++◌, length, get_or, drop, take, append_assoc}
use Rattle.std.specs.Prelude.{flat_map}
use Rattle.std.proofs.lemmas.List.{drop_more}
use Rattle.gp_instance.specs.Matches.{groups_of}
use Rattle.gp_property.specs.declared.property.PatternStep.{PatternStep}
use Rattle.gp_window.specs.declared.schedule.EventId.{EventId}
use Rattle.gp_window.specs.WindowForm.{WindowForm}
use Rattle.gp_constraint.specs.declared.symbol.Symbol.{Symbol}
use Rattle.gp_constraint.specs.declared.symbol.SymbolicLit.{SymbolicLit}
use Rattle.gp_constraint.specs.Numbering.{with_mentions}
use Rattle.gp_constraint.specs.Query.{order_lit, orders_from, sides_of}
use Rattle.gp_constraint.proofs.Mentions.{mentions_append}

-- the groups of what is left begin with the next step's
groups_more : (pattern : List PatternStep) (i : ℕ) (d : PatternStep) (rest group after : List EventId) → i < length pattern
    → group ≡ take (length (get_or pattern i d).atoms) rest → after ≡ drop (length (get_or pattern i d).atoms) rest
    → groups_of (drop i pattern) rest ≡ group ∷ groups_of (drop (i + 1) pattern) after
groups_more pattern i d rest group after below is left =
    ap (λ steps. groups_of steps rest) (drop_more pattern i d below)
    ∙ ap (λ (g : List EventId). g ∷ groups_of (drop (i + 1) pattern) (drop (length (get_or pattern i d).atoms) rest)) (sym is)
    ∙ ap (λ (ids : List EventId). group ∷ groups_of (drop (i + 1) pattern) ids) (sym left)

pub orders_more : (window : WindowForm) (lits new : List SymbolicLit) (before : List EventId) (pattern : List PatternStep) (i : ℕ) (d : PatternStep) (rest group after : List EventId)
    → i < length pattern → group ≡ take (length (get_or pattern i d).atoms) rest → after ≡ drop (length (get_or pattern i d).atoms) rest
    → new ≡ lits ++ flat_map (λ one. flat_map (order_lit window one) group) before
    → new ++ orders_from window group (groups_of (drop (i + 1) pattern) after) ≡ lits ++ orders_from window before (groups_of (drop i pattern) rest)
orders_more window lits new before pattern i d rest group after below is left added =
    let next : List SymbolicLit = orders_from window group (groups_of (drop (i + 1) pattern) after) in
    ap (λ (ls : List SymbolicLit). ls ++ next) added
    ∙ append_assoc lits (flat_map (λ one. flat_map (order_lit window one) group) before) next
    ∙ ap (λ groups. lits ++ orders_from window before groups) (sym (groups_more pattern i d rest group after below is left))

pub sides_more : (window : WindowForm) (names new : List Symbol) (pattern : List PatternStep) (i : ℕ) (d : PatternStep) (rest group after : List EventId)
    → i < length pattern → group ≡ take (length (get_or pattern i d).atoms) rest → after ≡ drop (length (get_or pattern i d).atoms) rest
    → new ≡ with_mentions names (sides_of window group)
    → with_mentions new (flat_map (sides_of window) (groups_of (drop (i + 1) pattern) after)) ≡ with_mentions names (flat_map (sides_of window) (groups_of (drop i pattern) rest))
sides_more window names new pattern i d rest group after below is left mentioned =
    let next : List Symbol = flat_map (sides_of window) (groups_of (drop (i + 1) pattern) after) in
    ap (λ (ns : List Symbol). with_mentions ns next) mentioned
    ∙ sym (mentions_append names (sides_of window group) next)
    ∙ ap (λ groups. with_mentions names (flat_map (sides_of window) groups)) (sym (groups_more pattern i d rest group after below is left))

-- a flat map of mentions, one element more
pub flat_more : {X : Type 0} (f : X → List Symbol) (names new : List Symbol) (xs : List X) (i : ℕ) (d : X) → i < length xs → new ≡ with_mentions names (f (get_or xs i d))
    → with_mentions new (flat_map f (drop (i + 1) xs)) ≡ with_mentions names (flat_map f (drop i xs))
flat_more f names new xs i d below mentioned =
    ap (λ (ns : List Symbol). with_mentions ns (flat_map f (drop (i + 1) xs))) mentioned
    ∙ sym (mentions_append names (f (get_or xs i d)) (flat_map f (drop (i + 1) xs)))
    ∙ ap (λ ys. with_mentions names (flat_map f ys)) (sym (drop_more xs i d below))
