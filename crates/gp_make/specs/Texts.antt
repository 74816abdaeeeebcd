-- What the manifest, the traces and the properties tell.
use Rattle.std.specs.Prelude.{ℕ, pos, ◌-◌, ◌==◌, if◌then◌else◌, List, [], ◌∷◌, ◌++◌, None, codes, decimal, filter, flat_map, map, slice_index}
use Rattle.std.specs.List.{range_with_len}
use Rattle.gp_trace.specs.declared.event.Event.{Event as TracedEvent}
use Rattle.gp_trace.specs.declared.event.Event.TheVariants as told
use Rattle.gp_trace.specs.Trace.{LocalTraceForm}
use Rattle.gp_make.specs.declared.action.Action.{Action}
use Rattle.gp_make.specs.declared.action.Action.TheVariants.{Start, Use, Authorise, Acquire, Release, Read, Write}
use Rattle.gp_make.specs.declared.action.Event.{Event}
use Rattle.gp_make.specs.declared.recipe.Recipe.{Recipe}
use Rattle.gp_make.specs.Run.{later_windows, start_values, window_events, windows_of}

-- the name of a variable: `v` and its number
abbrev pub variable_name : ℕ → List ℕ
variable_name variable = codes "v" ++ decimal variable

-- the name of a lock: `l` and its number
abbrev pub lock_name : ℕ → List ℕ
lock_name lock = codes "l" ++ decimal lock

-- what a thread did, as its trace tells it
abbrev pub told_event : Action → TracedEvent
told_event (Start thread) = told.Start thread
told_event Use = told.Op (codes "use", codes "o" ∷ [])
told_event Authorise = told.Op (codes "auth", codes "o" ∷ [])
told_event (Acquire lock) = told.Acquire (lock_name lock)
told_event (Release lock) = told.Release (lock_name lock)
told_event (Read variable value) = told.Read (variable_name variable) (pos value)
told_event (Write variable value) = told.Write (variable_name variable) (pos value)

-- those of the events that this thread did, as its trace tells them
abbrev pub told_by : ℕ → List Event → List TracedEvent
told_by thread events = map (λ event. told_event event.action) (filter (λ event. event.thread == thread) events)

-- the trace of a thread: a segment for each window, and no exit
abbrev pub made_trace : Recipe → ℕ → LocalTraceForm
made_trace recipe thread = record {
  thread = thread;
  segments = map (λ window. told_by thread (window_events recipe window)) (range_with_len 1 (windows_of recipe.events));
  exit_in = None;
}

-- a variable has this value when this window begins
abbrev pub value_words : ℕ → ℕ → ℕ → List (List ℕ)
value_words window variable value = codes "value" ∷ decimal window ∷ variable_name variable ∷ decimal value ∷ []

-- a variable that had one value before and now has this one, where they differ
abbrev pub change_lines : ℕ → ℕ → ℕ → ℕ → List (List (List ℕ))
change_lines window variable before value = if before == value then [] else value_words window variable value ∷ []

-- the change of the variable of this number
abbrev pub change_of : ℕ → List ℕ → List ℕ → ℕ → List (List (List ℕ))
change_of window before values variable = change_lines window variable (slice_index before variable) (slice_index values variable)

-- the variables whose values are not those before, by number
abbrev pub changes_lines : ℕ → List ℕ → List ℕ → List (List (List ℕ))
changes_lines window before values = flat_map (change_of window before values) (range_with_len 0 20)

-- the variables whose values when this window begins are not those with which the window before it began
abbrev pub start_lines : Recipe → ℕ → List (List (List ℕ))
start_lines recipe window = changes_lines window (start_values recipe (window - 1)) (start_values recipe window)

-- the lines of the manifest that come before its values
abbrev pub head_lines : ℕ → ℕ → List (List (List ℕ))
head_lines threads windows =
    (codes "gptrace" ∷ codes "1" ∷ []) ∷ (codes "threads" ∷ decimal threads ∷ [])
    ∷ (codes "epochs" ∷ decimal windows ∷ []) ∷ (codes "roots" ∷ codes "1" ∷ []) ∷ []

-- the manifest: thread 1 is the root, and each later window tells the values that have changed
abbrev pub manifest_lines : Recipe → List (List (List ℕ))
manifest_lines recipe =
    head_lines recipe.threads (windows_of recipe.events) ++ flat_map (start_lines recipe) (later_windows recipe.events)

-- one property: the object is used in one thread before it is authorised in another
abbrev pub property_lines : List (List (List ℕ))
property_lines =
    (codes "property" ∷ codes "use_before_auth" ∷ [])
    ∷ (codes "event" ∷ codes "use" ∷ codes "op" ∷ codes "use" ∷ codes "$o" ∷ [])
    ∷ (codes "event" ∷ codes "auth" ∷ codes "op" ∷ codes "auth" ∷ codes "$o" ∷ [])
    ∷ (codes "pattern" ∷ codes "use@u" ∷ codes "auth@t" ∷ []) ∷ []
