-- The lines that task list writes are spelled as lines of words.
use Rattle.std.proofs.Common.{◌≡◌, refl, ℕ, List, [], ◌∷◌, ◌++◌, ap, ◌∙◌, sym, append_assoc, map, codes, flat_map}
use Rattle.std.specs.Fmt.{decimal}
use Rattle.gp_window.specs.declared.schedule.EventId.{EventId}
use Rattle.gp_window.specs.EventIds.{event_id_text}
use Rattle.gp_text.specs.Spelling.{after_words, spelling}
use Rattle.gp_text.specs.SpellingLaws.{joined_after}
use Rattle.gp_instance.specs.declared.instance.Instance.{Instance}
use Rattle.gp_predict.specs.Lines.{event_text, instance_line, property_line}

-- the line of a property
pub property_spelled : (name many : List ℕ) → spelling ((codes "property" ∷ name ∷ many ∷ []) ∷ []) ≡ property_line name many
property_spelled name many = ap (λ words. codes "property " ++ (words ++ 10 ∷ [])) (sym (append_assoc name (32 ∷ []) many))

-- events after spaces
events_spelled : (events : List EventId) → after_words (map event_id_text events) ≡ flat_map event_text events
events_spelled [] = refl
events_spelled (id ∷ events) = ap (λ rest. 32 ∷ (event_id_text id ++ rest)) (events_spelled events)

-- the line of an instance
pub instance_spelled : (number : ℕ) (instance : Instance) → spelling ((codes "instance" ∷ decimal number ∷ map event_id_text instance.events) ∷ []) ≡ instance_line number instance
instance_spelled number instance =
    ap (λ words. codes "instance " ++ (words ++ 10 ∷ []))
    (joined_after (decimal number) (map event_id_text instance.events) ∙ ap (λ words. decimal number ++ words) (events_spelled instance.events))
