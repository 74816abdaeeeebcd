-- What in a page is read as markup.
use Rattle.std.specs.Prelude.{ℕ, ◌≡◌, List, [], ◌∷◌, ◌++◌, codes, Contains}
use Rattle.gp_drawing.specs.declared.drawing.Drawing.{Drawing}
use Rattle.gp_drawing.specs.Svg.{svg, tip}
use Rattle.gp_place.specs.declared.places.Places.{Places}
use Rattle.gp_window.specs.WindowForm.{WindowForm}

-- how the tags of drawings go on behind their angle bracket
abbrev pub drawing_tags : List (List ℕ)
drawing_tags =
    codes "svg " ∷ codes "/svg>" ∷ codes "defs>" ∷ codes "/defs>" ∷ codes "marker " ∷ codes "/marker>" ∷ codes "path "
    ∷ codes "line " ∷ codes "/line>" ∷ codes "circle " ∷ codes "text " ∷ codes "/text>" ∷ codes "g " ∷ codes "/g>"
    ∷ codes "title>" ∷ codes "/title>" ∷ []

-- and those of the text around them
abbrev pub text_tags : List (List ℕ)
text_tags =
    codes "!doctype html>" ∷ codes "html " ∷ codes "/html>" ∷ codes "head>" ∷ codes "/head>" ∷ codes "meta " ∷ codes "style>" ∷ codes "/style>"
    ∷ codes "body>" ∷ codes "/body>" ∷ codes "h1>" ∷ codes "/h1>" ∷ codes "h2>" ∷ codes "/h2>" ∷ codes "p>" ∷ codes "/p>"
    ∷ codes "table>" ∷ codes "/table>" ∷ codes "tr>" ∷ codes "/tr>" ∷ codes "th>" ∷ codes "/th>" ∷ codes "td>" ∷ codes "/td>"
    ∷ codes "section>" ∷ codes "/section>" ∷ codes "ul>" ∷ codes "/ul>" ∷ codes "li>" ∷ codes "/li>" ∷ codes "pre>" ∷ codes "/pre>"
    ∷ codes "details>" ∷ codes "/details>" ∷ codes "summary>" ∷ codes "/summary>" ∷ []

-- one of these tags stands at the head of these bytes
abbrev pub BeginsWithTag : List ℕ → Type 0
BeginsWithTag bytes = (tag rest : List ℕ) × Contains (drawing_tags ++ text_tags) tag × (bytes ≡ tag ++ rest)

-- each angle bracket that opens in a text opens one of these tags; 60 is that bracket
abbrev pub HasOwnMarkup : List ℕ → Type 0
HasOwnMarkup text = (front back : List ℕ) → text ≡ front ++ 60 ∷ back → BeginsWithTag back

-- nothing that stands in a window, or is told of places, is read as markup
pub record DrawingsHaveOwnMarkup : Type 0 where
  pub drawing : (places : Places) (window : WindowForm) (drawing : Drawing) → HasOwnMarkup (svg places window drawing)
  pub tip : HasOwnMarkup tip
