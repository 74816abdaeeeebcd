-- Which words spell which entry of a trace: a keyword, and what it takes.
use Rattle.std.specs.Prelude.{ℕ, ℤ, List, [], ◌∷◌, Option, Some, None, ◌==◌, if◌then◌else◌, nat_le, length, codes, option_map}
use Rattle.std.specs.Str.{bytes_eq}
use Rattle.gp_text.specs.Name.{name_of}
use Rattle.gp_text.specs.Numbers.{signed_of, small_number_of}
use Rattle.gp_trace.specs.declared.event.Event.{Event}
use Rattle.gp_trace.specs.declared.event.Event.TheVariants.{Read, Write, Acquire, Release, RAcquire, RRelease, Start, Join, Op, Begin, End}
use Rattle.gp_trace.specs.declared.line.Entry.{Entry}
use Rattle.gp_trace.specs.declared.line.Entry.TheVariants.{Did, Mark, Exit}

-- a name before further names, where all of them are names
abbrev pub with_name : Option (List ℕ) → Option (List (List ℕ)) → Option (List (List ℕ))
with_name (Some name) (Some names) = Some (name ∷ names)
with_name (Some name) None = None
with_name None names = None

-- the words as names, where each of them is one
abbrev pub names_of : List (List ℕ) → Option (List (List ℕ))
names_of [] = Some []
names_of (word ∷ words) = with_name (name_of word) (names_of words)

-- two values, where both are there
abbrev pub both : {A B : Type 0} → Option A → Option B → Option (A × B)
both (Some one) (Some other) = Some (one, other)
both (Some one) None = None
both None other = None

-- a name and nothing more
abbrev pub name_alone : List (List ℕ) → Option (List ℕ)
name_alone (name ∷ []) = name_of name
name_alone _ = None

-- a thread's number and nothing more
abbrev pub number_alone : List (List ℕ) → Option ℕ
number_alone (number ∷ []) = small_number_of number
number_alone _ = None

-- a variable's name, its value and nothing more
abbrev pub name_and_value : List (List ℕ) → Option (List ℕ × ℤ)
name_and_value (name ∷ value ∷ []) = both (name_of name) (signed_of value)
name_and_value _ = None

-- the names, where they are at most four
abbrev pub at_most_four : Option (List (List ℕ)) → Option (List (List ℕ))
at_most_four None = None
at_most_four (Some names) = if nat_le (length names) 4 then Some names else None

-- a name and at most four further ones
abbrev pub name_and_objects : List (List ℕ) → Option (List ℕ × List (List ℕ))
name_and_objects [] = None
name_and_objects (name ∷ objects) = both (name_of name) (at_most_four (names_of objects))

-- an event as an entry
abbrev pub did : Option Event → Option Entry
did (Some event) = Some (Did event)
did None = None

-- an entry that is its keyword alone
abbrev pub alone : Entry → List (List ℕ) → Option Entry
alone entry [] = Some entry
alone entry (word ∷ words) = None

-- the event of a shared lock that a keyword and the words after it spell, where they spell one
abbrev pub shared_of : List ℕ → List (List ℕ) → Option Event
shared_of keyword words =
    if bytes_eq keyword (codes "racquire") then option_map RAcquire (name_alone words) else
    (if bytes_eq keyword (codes "rrelease") then option_map RRelease (name_alone words) else None)

-- the event that a keyword and the words after it spell, where they spell one; shared locks are of format 2
abbrev pub event_of : ℕ → List ℕ → List (List ℕ) → Option Event
event_of format keyword words =
    if bytes_eq keyword (codes "read") then option_map (λ r. Read r.0 r.1) (name_and_value words) else
    (if bytes_eq keyword (codes "write") then option_map (λ w. Write w.0 w.1) (name_and_value words) else
    (if bytes_eq keyword (codes "acquire") then option_map Acquire (name_alone words) else
    (if bytes_eq keyword (codes "release") then option_map Release (name_alone words) else
    (if bytes_eq keyword (codes "start") then option_map Start (number_alone words) else
    (if bytes_eq keyword (codes "join") then option_map Join (number_alone words) else
    (if bytes_eq keyword (codes "op") then option_map Op (name_and_objects words) else
    (if bytes_eq keyword (codes "begin") then option_map Begin (name_alone words) else
    (if bytes_eq keyword (codes "end") then option_map End (name_alone words) else
    (if format == 2 then shared_of keyword words else None)))))))))

-- the entry that the words of a line spell in a format, where they spell one
abbrev pub entry_of : ℕ → List (List ℕ) → Option Entry
entry_of format [] = None
entry_of format (keyword ∷ words) =
    if bytes_eq keyword (codes "mark") then alone Mark words else
    (if bytes_eq keyword (codes "exit") then alone Exit words else did (event_of format keyword words))
