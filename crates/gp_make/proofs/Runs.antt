-- The run, event by event and window by window.
use Rattle.std.proofs.Common.{◌≡◌, refl, sym, ap, ap₂, ◌∙◌, ◌==◌, Bool, ℕ, suc, ◌+◌, ◌-◌, ◌<◌, ◌≤◌, min, List, [], ◌∷◌, ◌++◌, map, filter, None, codes, add-one, append_assoc, append-nil, arith}
use Rattle.std.specs.List.{flat_map, range_with_len}
use Rattle.std.proofs.lemmas.List.{map-append}
use Rattle.std.proofs.lemmas.List.Elements.{filter-append}
use Rattle.std.proofs.lemmas.List.FromFn.{map-range_with_len_more}
use Rattle.gp_text.specs.Spelling.{spelling}
use Rattle.gp_trace.specs.declared.event.Event.{Event as TracedEvent}
use Rattle.gp_trace.specs.Printed.{event_lines, event_words}
use Rattle.gp_trace.specs.Printed as printed
use Rattle.gp_make.specs.declared.action.Event.{Event}
use Rattle.gp_make.specs.declared.program.Program.{Program}
use Rattle.gp_make.specs.declared.recipe.Recipe.{Recipe}
use Rattle.gp_make.specs.Traces.{TracesGrow, lines_of, trace_lines}
use Rattle.gp_files.specs.MadeFileForm.{MadeFileForm}
use Rattle.gp_make.specs.Program.{first_program, step}
use Rattle.gp_make.specs.Run.{event_of, events_before, program_after, start_values, window_events, windows_of}
use Rattle.gp_make.specs.Texts.{changes_lines, start_lines, told_by, told_event}
use Rattle.gp_make.proofs.Growing.{flat_more, one_more}
use Rattle.gp_make.proofs.Traces.{put_same, put_twice}

-- no event yet
pub no_event : (recipe : Recipe) → first_program recipe.seed ≡ program_after recipe 0
unfolding program_after
no_event recipe = refl

-- the program after one event more
pub next_program : (recipe : Recipe) (n : ℕ) (old new : Program) → old ≡ program_after recipe n → new ≡ (step recipe.threads n old).1 → new ≡ program_after recipe (n + 1)
unfolding program_after
next_program recipe n old new here next =
    next ∙ ap (λ (program : Program). (step recipe.threads n program).1) here ∙ rw add-one refl

-- the event that comes next
pub next_event : (recipe : Recipe) (n : ℕ) (old : Program) (event : Event) → old ≡ program_after recipe n → event ≡ (step recipe.threads n old).0 → event ≡ event_of recipe n
unfolding event_of
next_event recipe n old event here next = next ∙ ap (λ (program : Program). (step recipe.threads n program).0) here

lines_of_append : (thread : ℕ) (xs ys : List Event) → lines_of thread (xs ++ ys) ≡ lines_of thread xs ++ lines_of thread ys
lines_of_append thread xs ys =
    let own : Event → Bool = λ event. event.thread == thread in
    let told : Event → TracedEvent = λ event. told_event event.action in
    ap (λ events. map event_words (map told events)) (filter-append own xs ys)
    ∙ ap (map event_words) (map-append told (filter own xs) (filter own ys))
    ∙ map-append event_words (told_by thread xs) (told_by thread ys)

-- the lines of one event more
pub event_grown : (recipe : Recipe) (old mid new : List MadeFileForm) (event : Event) (first n : ℕ) → first ≤ n → event ≡ event_of recipe n
    → TracesGrow old mid (λ thread. lines_of thread (map (event_of recipe) (range_with_len first (n - first))))
    → TracesGrow mid new (λ thread. lines_of thread (event ∷ []))
    → TracesGrow old new (λ thread. lines_of thread (map (event_of recipe) (range_with_len first (n + 1 - first))))
event_grown recipe old mid new event first n above is before one =
    let events : ℕ → List Event = λ count. map (event_of recipe) (range_with_len first count) in
    let count : n + 1 - first ≡ (n - first) + 1 = omega (arith, above) in
    let place : first + (n - first) ≡ n = omega (arith, above) in
    put_twice old mid new (λ thread. lines_of thread (events (n - first))) (λ thread. lines_of thread (event ∷ [])) (λ thread. lines_of thread (events (n + 1 - first))) before one
    (λ thread.
    sym (lines_of_append thread (events (n - first)) (event ∷ []))
    ∙ ap (λ last. lines_of thread (events (n - first) ++ last ∷ [])) is
    ∙ ap (lines_of thread) (sym (map-range_with_len_more (event_of recipe) first (n - first) n place))
    ∙ ap (λ k. lines_of thread (events k)) (sym count))

-- all events of a window
pub window_grown : (recipe : Recipe) (old new : List MadeFileForm) (window first n : ℕ) → first ≡ events_before window → n ≡ min 200 (recipe.events - events_before window)
    → TracesGrow old new (λ thread. lines_of thread (map (event_of recipe) (range_with_len first n)))
    → TracesGrow old new (λ thread. lines_of thread (window_events recipe window))
unfolding window_events
window_grown recipe old new window first n begins all grown =
    let events : ℕ → ℕ → List Event = λ from count. map (event_of recipe) (range_with_len from count) in
    put_same old new (λ thread. lines_of thread (events first n)) (λ thread. lines_of thread (window_events recipe window)) grown
    (λ thread. ap₂ (λ from count. lines_of thread (events from count)) begins all)

-- a mark, and then the lines of a window
abbrev pub later_lines : Recipe → ℕ → ℕ → List (List (List ℕ))
later_lines recipe thread window = (codes "mark" ∷ []) ∷ lines_of thread (window_events recipe window)

-- the windows from 2 on, so many of them, after window 1
abbrev pub lines_through : Recipe → ℕ → ℕ → List (List (List ℕ))
lines_through recipe count thread = lines_of thread (window_events recipe 1) ++ flat_map (later_lines recipe thread) (range_with_len 2 count)

-- window 1 alone
pub first_window : (recipe : Recipe) (old new : List MadeFileForm) → TracesGrow old new (λ thread. lines_of thread (window_events recipe 1)) → TracesGrow old new (lines_through recipe 0)
first_window recipe old new grown =
    put_same old new (λ thread. lines_of thread (window_events recipe 1)) (lines_through recipe 0) grown (λ thread. sym (append-nil (lines_of thread (window_events recipe 1))))

-- a mark, and one window more
pub later_window : (recipe : Recipe) (old mid marked new : List MadeFileForm) (window count more : ℕ) → 2 + count ≡ window → more ≡ count + 1
    → TracesGrow old mid (lines_through recipe count)
    → TracesGrow mid marked (λ thread. (codes "mark" ∷ []) ∷ [])
    → TracesGrow marked new (λ thread. lines_of thread (window_events recipe window))
    → TracesGrow old new (lines_through recipe more)
later_window recipe old mid marked new window count more place next before mark grown =
    let last : ℕ → List (List (List ℕ)) = λ thread. later_lines recipe thread window in
    let both : TracesGrow mid new last =
    put_twice mid marked new (λ thread. (codes "mark" ∷ []) ∷ []) (λ thread. lines_of thread (window_events recipe window)) last mark grown (λ thread. refl) in
    put_twice old mid new (lines_through recipe count) last (lines_through recipe more) before both
    (λ thread.
    append_assoc (lines_of thread (window_events recipe 1)) (flat_map (later_lines recipe thread) (range_with_len 2 count)) (last thread)
    ∙ ap (λ later. lines_of thread (window_events recipe 1) ++ later) (sym (flat_more (later_lines recipe thread) 2 count window place))
    ∙ ap (λ k. lines_through recipe k thread) (sym next))

-- a window of the recording begins with one of its events
pub begins_within : (events window : ℕ) → 2 ≤ window → window ≤ windows_of events → min (events_before window) events ≡ events_before window
begins_within events window above within = omega (arith, above, within)

-- the values with which a window begins
pub values_at : (recipe : Recipe) (program : Program) (window : ℕ) → 2 ≤ window → window ≤ windows_of recipe.events
    → program ≡ program_after recipe (min (events_before window) recipe.events) → program.values ≡ start_values recipe window
values_at recipe program window above within begun =
    ap (λ (p : Program). p.values) (begun ∙ ap (program_after recipe) (begins_within recipe.events window above within))

-- the values of one window more are told
pub values_told : (recipe : Recipe) (program : Program) (before : List ℕ) (old text new : List ℕ) (window count more : ℕ) → 2 + count ≡ window → more ≡ count + 1
    → program.values ≡ start_values recipe window → before ≡ start_values recipe (window - 1)
    → text ≡ old ++ spelling (flat_map (start_lines recipe) (range_with_len 2 count))
    → new ≡ text ++ spelling (changes_lines window before program.values)
    → new ≡ old ++ spelling (flat_map (start_lines recipe) (range_with_len 2 more))
values_told recipe program before old text new window count more place next values started told put =
    put
    ∙ ap₂ (λ one other. text ++ spelling (changes_lines window one other)) started values
    ∙ one_more (start_lines recipe) old text 2 count window place told
    ∙ ap (λ k. old ++ spelling (flat_map (start_lines recipe) (range_with_len 2 k))) (sym next)

later_segments : (recipe : Recipe) (thread number : ℕ) (windows : List ℕ)
    → printed.later_lines None number (map (λ window. told_by thread (window_events recipe window)) windows) ≡ flat_map (later_lines recipe thread) windows
later_segments recipe thread number [] = refl
later_segments recipe thread number (window ∷ windows) =
    ap (λ rest. (codes "mark" ∷ []) ∷ (lines_of thread (window_events recipe window) ++ rest)) (later_segments recipe thread (number + 1) windows)

-- all windows are the trace
pub all_windows : (recipe : Recipe) (thread : ℕ) → 0 < recipe.events → lines_through recipe (windows_of recipe.events - 1) thread ≡ trace_lines recipe thread
all_windows recipe thread some =
    let segment : ℕ → List TracedEvent = λ window. told_by thread (window_events recipe window) in
    let count : windows_of recipe.events ≡ suc (windows_of recipe.events - 1) = omega (arith, some) in
    ap (λ later. lines_of thread (window_events recipe 1) ++ later) (sym (later_segments recipe thread 2 (range_with_len 2 (windows_of recipe.events - 1))))
    ∙ ap (λ k. printed.segment_lines None (map segment (range_with_len 1 k))) (sym count)
