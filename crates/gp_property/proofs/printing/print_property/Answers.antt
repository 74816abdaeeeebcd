use Rattle.std.proofs.Common.{◌≡◌, ◌∙◌, ap, codes, map, List, ℕ, [], ◌∷◌, ◌++◌}
use Rattle.gp_text.specs.Spelling.{spelling}
use Rattle.gp_property.specs.Reading.{properties_of}
use Rattle.gp_property.specs.Words.{event_words, pattern_words, property_lines}
use Rattle.gp_property.proofs.Texts.{lines_put}
use Rattle.gp_text.specs.SpellingLaws.{line_put}
use Rattle.gp_property.proofs.printing.print_property.Goals as goal

printed : (c : goal.After-from_vec) → c.from_vec.result ≡ spelling (property_lines c.args.property.now)
printed c =
    rw (
      c.from_vec.ensures,
      c.in_ok-put_pattern.ensures,
      c.in_ok-put_events.ensures,
      c.events.ensures.value,
      c.pattern.ensures.value,
      c.in_ok-push.ensures.items,
      c.in_ok-put_word.ensures,
      c.as_bytes.ensures.value,
      c.name.ensures.value,
      c.in_ok-extend_from_slice.ensures.items,
      c.new-text.ensures.items,
    )
    (ap (λ (line : List ℕ). (line ++ spelling (map event_words c.args.property.now.events)) ++ spelling (pattern_words c.args.property.now.pattern ∷ []))
    (line_put [] (codes "property") (c.args.property.now.name ∷ []))
    ∙ lines_put (codes "property" ∷ c.args.property.now.name ∷ []) (map event_words c.args.property.now.events) (pattern_words c.args.property.now.pattern))

pub returns-clause-text : goal.returns-clause-text
returns-clause-text c = printed c

pub returns-clause-again : goal.returns-clause-again
returns-clause-again c = ap properties_of (printed c) ∙ c.property_again.ensures c.args.property.now c.name.ensures.property
