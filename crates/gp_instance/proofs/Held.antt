-- Events that are held by the span of their key.
use Rattle.std.proofs.Common.{◌≡◌, refl, ap, ◌∙◌, sym, ℕ, ◌+◌, ◌<◌, inl, inr, Bool, true, false, cond, subst, below_more, List, length, get_or}
use Rattle.std.specs.Prelude.{All, IfSome, IfOk, Option, Some, None, Result, Ok, Err, filter}
use Rattle.std.specs.Ordering.{is_eq, nat_cmp}
use Rattle.std.specs.Cmp.Lexicographic.{slice_cmp}
use Rattle.std.specs.BTreeMap.{BTreeMap}
use Rattle.std.proofs.lemmas.List.{get_or_default}
use Rattle.std.proofs.lemmas.Map.Text.{is_eq-slice_cmp}
use Rattle.gp_trace.specs.declared.event.Event.{Event}
use Rattle.gp_window.specs.declared.schedule.EventId.{EventId}
use Rattle.gp_property.specs.declared.atoms.PatternAtom.{PatternAtom}
use Rattle.gp_instance.specs.declared.link.Link.{Link}
use Rattle.gp_instance.specs.declared.link.Side.{Side}
use Rattle.gp_instance.specs.declared.partners.Partners.{Partners}
use Rattle.gp_instance.specs.declared.span.Span.{Span}
use Rattle.gp_window.specs.Events.{event_in}
use Rattle.gp_instance.specs.Partners.{across, Counts, has_partner, is_bound, IsHeld, key_of, names_with, IsLink, IsWithin, KeepsPartnered, may_pair, span_at}
use Rattle.gp_instance.proofs.Keys.{same_bytes}
use Rattle.gp_instance.proofs.Pairing.{partnered_pairs}

-- the event of the key
pub held_here : (spans : BTreeMap (List ℕ) Span) (key : List ℕ) (span : Span) (id : EventId) → span_at spans key ≡ Some span → IsWithin span id → IsHeld spans key id
unfolding IsHeld
held_here spans key span id at within = (span, at, within)

-- a span that takes in what another does
abbrev pub Widens : Option Span → Span → Type 0
Widens before span = IfSome before (λ old. (other : EventId) → IsWithin old other → IsWithin span other)

-- what was held is held after one more
pub held_still : (spans more : BTreeMap (List ℕ) Span) (key : List ℕ) (before : Option Span) (span : Span)
    → before ≡ span_at spans key → Widens before span
    → ((q : List ℕ) → span_at more q ≡ cond (is_eq (slice_cmp nat_cmp key q)) (Some span) (span_at spans q))
    → (q : List ℕ) (other : EventId) → IsHeld spans q other → IsHeld more q other
unfolding IsHeld
held_still spans more key before span was widens now q other (old, at, within) = by_cases (is_eq (slice_cmp nat_cmp key q)) refl
  where
    taken : (found : Option Span) → found ≡ Some old → Widens found span → IsWithin span other
    taken None is widens' = absurd (cc)
    taken (Some span') is widens' = widens' other (let same : old ≡ span' = cc in rw (sym same) within)

    by_cases : (b : Bool) → is_eq (slice_cmp nat_cmp key q) ≡ b → (new : Span) × (span_at more q ≡ Some new) × IsWithin new other
    by_cases true same =
        let equal : key ≡ q = same_bytes key q (sym (is_eq-slice_cmp key q) ∙ same) in
        (span, now q ∙ ap (λ b. cond b (Some span) (span_at spans q)) same, taken before (was ∙ ap (span_at spans) equal ∙ at) widens)
    by_cases false differ = (old, now q ∙ ap (λ b. cond b (Some span) (span_at spans q)) differ ∙ at, within)

-- one more that counts, where those before still do
pub all_count : (P Q : EventId → Type 0) (ids : List EventId) (i : ℕ) (d : EventId) → i < length ids
    → ((k : ℕ) (e : EventId) → k < i → P (get_or ids k e)) → ((id : EventId) → P id → Q id) → Q (get_or ids i d) → (k : ℕ) (e : EventId) → k < i + 1 → Q (get_or ids k e)
all_count P Q ids i d below before still here k e less =
    below_more (λ n. (other : EventId) → Q (get_or ids n other)) i (λ n h other. still (get_or ids n other) (before n other h)) (λ other. subst Q (get_or_default ids i d other below) here) k less e

-- what may pair keeps each event that has a partner
pub pairs_kept : {E : Type 0} (segments : List (List Event)) (link : Link) (side other : Side) (partners : Partners) (ids others : List EventId) (kept : Result (List EventId) E)
    → other ≡ across side → All (Counts segments link other partners) others → IfOk kept (λ some. some ≡ filter (may_pair segments link side partners) ids)
    → IfOk kept (λ some. (first second : PatternAtom) → IsLink first second link → KeepsPartnered (has_partner segments first second side others) ids some)
unfolding KeepsPartnered
pairs_kept segments link side other partners ids others (Ok kept) is all filtered = λ first second linked.
    (may_pair segments link side partners, filtered, λ id. partnered_pairs segments first second link side partners others id linked (rw (sym is) all))
pairs_kept segments link side other partners ids others (Err fault) is all filtered = filtered

-- an event counts that is held by its key
pub counts_held : (segments : List (List Event)) (link : Link) (side : Side) (partners : Partners) (key : List ℕ) (id : EventId)
    → is_bound side link.shared (names_with (event_in segments id)) ≡ true → key ≡ key_of segments link side id → IsHeld partners.spans key id → Counts segments link side partners id
unfolding Counts
counts_held segments link side partners key id bound is held = inr (bound, rw (sym is) held)

-- what counted counts where all that was held is held
pub counts_still : (segments : List (List Event)) (link : Link) (side : Side) (partners more : Partners) (id : EventId)
    → more.free ≡ partners.free → ((q : List ℕ) (other : EventId) → IsHeld partners.spans q other → IsHeld more.spans q other) → Counts segments link side partners id → Counts segments link side more id
unfolding Counts
counts_still segments link side partners more id same still (inl free) = inl (same ∙ free)
counts_still segments link side partners more id same still (inr (bound, held)) = inr (bound, still (key_of segments link side id) id held)

-- all count where some event lacks a name
pub counts_free : (segments : List (List Event)) (link : Link) (side : Side) (partners : Partners) (id : EventId) → partners.free ≡ true → Counts segments link side partners id
unfolding Counts
counts_free segments link side partners id free = inl free
