-- Mentions of a symbol in a query.
use Rattle.std.proofs.Common.{ℕ, ◌≡◌, ◌+◌, ◌<◌, ◌≤◌, ap, sym, ◌∙◌, refl, List, [], ◌∷◌, ◌++◌, append_assoc, drop, get_or, length}
use Rattle.std.proofs.lemmas.List.{drop_more, append-nil}
use Rattle.std.specs.Prelude.{flat_map, map}
use Rattle.std.proofs.Math.Seq.{drop-append_seam}
use Rattle.gp_clause.specs.declared.kind.Kind.{Kind}
use Rattle.gp_clause.specs.declared.lit.Lit.{Lit}
use Rattle.gp_clause.specs.declared.problem.Query.{Query}
use Rattle.gp_instance.specs.Matches.{groups_of}
use Rattle.gp_property.specs.PropertyForm.{PropertyForm}
use Rattle.gp_window.specs.declared.schedule.EventId.{EventId}
use Rattle.gp_window.specs.WindowForm.{WindowForm}
use Rattle.gp_constraint.specs.declared.symbol.Symbol.{Symbol}
use Rattle.gp_constraint.specs.declared.symbol.SymbolicLit.{SymbolicLit}
use Rattle.gp_constraint.specs.Base.{names_in}
use Rattle.gp_constraint.specs.Numbering.{number_of, numbered_lit, with_mention, with_mentions}
use Rattle.gp_constraint.specs.Query.{executed_lits, pattern_lits, query_names, query_of, sides_of}
use Rattle.gp_constraint.specs.QueryNames.{all_names, AreMentioned, QueryNamesForm}
use Rattle.gp_constraint.specs.Symbols.{kind_of}
use Rattle.gp_constraint.proofs.Mentions.{mention_after, mention_here, mentions_append}

pub mentioned_here : (base own : List Symbol) (s : Symbol) → number_of base s < length base
    → AreMentioned (record { base = base; own = own }) (record { base = base; own = own }) (s ∷ [])
mentioned_here base own s below = record { base = refl; all = mention_here base own s below }

pub mentioned_after : (base own more : List Symbol) (s : Symbol) → more ≡ with_mention own s → length base ≤ number_of base s
    → AreMentioned (record { base = base; own = own }) (record { base = base; own = more }) (s ∷ [])
mentioned_after base own more s is past = record { base = refl; all = ap (λ (ns : List Symbol). base ++ ns) is ∙ mention_after base own s past }

-- the mentions of one list and then of another
pub both_mentioned : (start middle names : QueryNamesForm) (one other : List Symbol) → AreMentioned start middle one → AreMentioned middle names other → AreMentioned start names (one ++ other)
both_mentioned start middle names one other first second = record {
  base = second.base ∙ first.base;
  all = second.all ∙ ap (λ (ns : List Symbol). with_mentions ns other) first.all ∙ sym (mentions_append (all_names start) one other);
}

-- the names of the query, where its symbols are mentioned
pub names_are : (window : WindowForm) (property : PropertyForm) (ids : List EventId) (start names : QueryNamesForm) (lits : List SymbolicLit)
    → start ≡ record { base = names_in window; own = [] } → lits ≡ pattern_lits window property ids
    → AreMentioned start names (map (λ (lit : SymbolicLit). lit.symbol) lits ++ flat_map (sides_of window) (groups_of property.pattern ids))
    → (names.base ≡ names_in window) × (all_names names ≡ query_names window property ids)
names_are window property ids start names lits is these are =
    let sides : List Symbol = flat_map (sides_of window) (groups_of property.pattern ids) in
    let all : List SymbolicLit → List Symbol = λ ls. map (λ (lit : SymbolicLit). lit.symbol) ls ++ sides in (
      are.base ∙ ap (λ (n : QueryNamesForm). n.base) is,
      are.all
          ∙ ap (λ (n : QueryNamesForm). with_mentions (all_names n) (all lits)) is
          ∙ ap (λ (ns : List Symbol). with_mentions ns (all lits)) (append-nil (names_in window))
          ∙ ap (λ (ls : List SymbolicLit). with_mentions (names_in window) (all ls)) these,
    )

pub query_is : (window : WindowForm) (property : PropertyForm) (ids : List EventId) (names : QueryNamesForm) (lits : List SymbolicLit) (locals : List Kind) (assumed : List Lit)
    → (names.base ≡ names_in window) × (all_names names ≡ query_names window property ids) → lits ≡ pattern_lits window property ids
    → locals ≡ map kind_of names.own → assumed ≡ map (numbered_lit (all_names names)) (executed_lits window ids ++ lits)
    → ◌≡◌ {A = Query} (record { locals = locals; assumed = assumed }) (query_of window property ids)
query_is window property ids names lits locals assumed are these kinds lit =
    let own : names.own ≡ drop (length (names_in window)) (query_names window property ids) =
    sym (drop-append_seam names.base names.own) ∙ ap (λ (ns : List Symbol). drop (length ns) (names.base ++ names.own)) are.0
    ∙ ap (λ (ns : List Symbol). drop (length (names_in window)) ns) are.1 in
    let first : locals ≡ map kind_of (drop (length (names_in window)) (query_names window property ids)) = kinds ∙ ap (map kind_of) own in
    let second : assumed ≡ map (numbered_lit (query_names window property ids)) (executed_lits window ids ++ pattern_lits window property ids) =
    lit ∙ ap (λ (ns : List Symbol). map (numbered_lit ns) (executed_lits window ids ++ lits)) are.1
    ∙ ap (λ (ls : List SymbolicLit). map (numbered_lit (query_names window property ids)) (executed_lits window ids ++ ls)) these in
    λ i. record { locals = first i; assumed = second i }

-- one literal more that is assumed
pub assumed_more : (f : SymbolicLit → Lit) (done new all : List Lit) (lits : List SymbolicLit) (i : ℕ) (d : SymbolicLit) → i < length lits
    → new ≡ done ++ f (get_or lits i d) ∷ [] → done ++ map f (drop i lits) ≡ all → new ++ map f (drop (i + 1) lits) ≡ all
assumed_more f done new all lits i d below is before =
    ap (λ (ls : List Lit). ls ++ map f (drop (i + 1) lits)) is
    ∙ append_assoc done (f (get_or lits i d) ∷ []) (map f (drop (i + 1) lits))
    ∙ ap (λ (ls : List SymbolicLit). done ++ map f ls) (sym (drop_more lits i d below))
    ∙ before
