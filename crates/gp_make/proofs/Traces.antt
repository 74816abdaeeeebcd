-- Traces that get further lines.
use Rattle.std.proofs.Common.{◌≡◌, ◌≢◌, refl, sym, ap, ap₂, ◌∙◌, subst, ℕ, zero, suc, ◌+◌, ◌-◌, ◌<◌, ◌≤◌, List, [], ◌∷◌, ◌++◌, length, map, get_or, set, append_assoc, append-nil, arith, inl, inr, Result, Ok, Err, take, drop, take_all}
use Rattle.std.specs.Prelude.{OnOk}
use Rattle.std.specs.List.{range_with_len}
use Rattle.std.proofs.Math.Path.{fun_ext}
use Rattle.std.proofs.lemmas.Bool.{eq-eqb}
use Rattle.std.proofs.lemmas.Bool.Decides.{eqb_tells}
use Rattle.std.proofs.lemmas.List.{drop_all}
use Rattle.std.proofs.lemmas.List.FromFn.{get_or-map-range_with_len, length-map-range_with_len}
use Rattle.gp_trace.specs.Printed.{event_words}
use Rattle.gp_window.specs.declared.file_name.FileName.{FileName}
use Rattle.gp_window.specs.declared.file_name.FileName.TheVariants.{Trace}
use Rattle.gp_make.specs.declared.action.Event.{Event}
use Rattle.gp_make.specs.Files.{file_of}
use Rattle.gp_files.specs.MadeFileForm.{MadeFileForm}
use Rattle.gp_make.specs.Texts.{told_event}
use Rattle.gp_make.specs.Traces.{TracesGrow, lines_of, traces_with, with_lines}
use Rattle.gp_text.specs.SpellingLaws.{spelling_append}

-- what holds for a value holds for no error
pub on_ok : {A E : Type 0} (result : Result A E) (P Q : Type 0) → (P → Q) → OnOk result P → OnOk result Q
on_ok (Ok value) P Q f p = f p
on_ok (Err error) P Q f p = tt

same_above : {A : Type 0} (f g : ℕ → A) (a n : ℕ) → ((k : ℕ) → a ≤ k → f k ≡ g k) → map f (range_with_len a n) ≡ map g (range_with_len a n)
same_above f g a zero same = refl
same_above f g a (suc n) same = ap₂ (λ x xs. x ∷ xs) (same a (omega arith)) (same_above f g (a + 1) n (λ k above. same k (omega (arith, above))))

-- one place of a list by number gets another item
set_at : {A : Type 0} (f g : ℕ → A) (x : A) (a n i j : ℕ) → i < n → a + i ≡ j → x ≡ g j → ((k : ℕ) → k ≢ j → f k ≡ g k) → set (map f (range_with_len a n)) i x ≡ map g (range_with_len a n)
set_at f g x a zero i j below at is same = absurd (omega arith)
set_at f g x a (suc n) zero j below at is same =
    let here : j ≡ a = omega arith in
    ap₂ (λ y ys. y ∷ ys) (is ∙ ap g here) (same_above f g (a + 1) n (λ k above. same k (omega (arith, above, here))))
set_at f g x a (suc n) (suc i) j below at is same =
    ap₂ (λ y ys. y ∷ ys) (same a (omega arith)) (set_at f g x (a + 1) n i j (omega arith) (omega arith) is same)

file_more : (name : FileName) (xs ys : List (List (List ℕ))) → with_lines (file_of name xs) ys ≡ file_of name (xs ++ ys)
file_more name xs ys =
    let text_of : List ℕ → MadeFileForm = λ text. record { name = name; text = text } in
    ap text_of (sym (spelling_append xs ys))

own_lines : (event : Event) → lines_of event.thread (event ∷ []) ≡ event_words (told_event event.action) ∷ []
own_lines event = rw (eq-eqb event.thread event.thread refl) refl

lines_of_others : (event : Event) (thread : ℕ) → thread ≢ event.thread → lines_of thread (event ∷ []) ≡ []
lines_of_others event thread differs =
    elim (eqb_tells event.thread thread) [
      | inl same ↦ absurd (differs (sym same.1))
      | inr other ↦ rw other.0 refl
    ]

-- the line of an event is put into the trace of its thread
pub event_put : (old : List MadeFileForm) (event : Event) (trace new : MadeFileForm)
    → 1 ≤ event.thread → event.thread ≤ length old → trace ≡ get_or old (event.thread - 1) trace
    → new ≡ with_lines trace (event_words (told_event event.action) ∷ [])
    → TracesGrow old (set old (event.thread - 1) new) (λ thread. lines_of thread (event ∷ []))
event_put old event trace new first last at is threads lines all =
    let thread = event.thread in
    let f : ℕ → MadeFileForm = λ k. file_of (Trace k) (lines k) in
    let g : ℕ → MadeFileForm = λ k. file_of (Trace k) (lines k ++ lines_of k (event ∷ [])) in
    let size : length old ≡ threads = ap length all ∙ length-map-range_with_len f 1 threads in
    let below : event.thread - 1 < threads = omega (arith, first, last, size) in
    let place : 1 + (event.thread - 1) ≡ event.thread = omega (arith, first) in
    let found : trace ≡ f event.thread =
    at ∙ ap (λ xs. get_or xs (event.thread - 1) trace) all ∙ get_or-map-range_with_len f 1 threads (event.thread - 1) event.thread trace below place in
    let put : new ≡ g event.thread =
    is ∙ ap (λ file. with_lines file (event_words (told_event event.action) ∷ [])) found
    ∙ file_more (Trace event.thread) (lines event.thread) (event_words (told_event event.action) ∷ [])
    ∙ ap (λ more. file_of (Trace event.thread) (lines event.thread ++ more)) (sym (own_lines event)) in
    ap (λ xs. set xs (event.thread - 1) new) all
    ∙ set_at f g new 1 threads (event.thread - 1) event.thread below place put
    (λ k differs. ap (λ more. file_of (Trace k) more) (sym (append-nil (lines k)) ∙ ap (λ more. lines k ++ more) (sym (lines_of_others event k differs))))

-- the same lines, said in another way
pub put_same : (old new : List MadeFileForm) (f g : ℕ → List (List (List ℕ))) → TracesGrow old new f → ((thread : ℕ) → f thread ≡ g thread) → TracesGrow old new g
put_same old new f g put same threads lines all =
    put threads lines all ∙ ap (λ more. traces_with threads more) (fun_ext (λ thread. ap (λ more. lines thread ++ more) (same thread)))

-- lines were put, and then further lines
pub put_twice : (old mid new : List MadeFileForm) (f g h : ℕ → List (List (List ℕ)))
    → TracesGrow old mid f → TracesGrow mid new g → ((thread : ℕ) → f thread ++ g thread ≡ h thread) → TracesGrow old new h
put_twice old mid new f g h first second both threads lines all =
    second threads (λ thread. lines thread ++ f thread) (first threads lines all)
    ∙ ap (λ more. traces_with threads more) (fun_ext (λ thread. append_assoc (lines thread) (f thread) (g thread) ∙ ap (λ more. lines thread ++ more) (both thread)))

map_twice : {A B : Type 0} (f : ℕ → A) (h : A → B) (xs : List ℕ) → map h (map f xs) ≡ map (λ x. h (f x)) xs
map_twice f h [] = refl
map_twice f h (x ∷ xs) = ap (λ rest. h (f x) ∷ rest) (map_twice f h xs)

-- the same lines are put into every trace
pub all_put : (old : List MadeFileForm) (more : List (List (List ℕ))) → TracesGrow old (map (λ trace. with_lines trace more) old) (λ thread. more)
all_put old more threads lines all =
    ap (map (λ trace. with_lines trace more)) all
    ∙ map_twice (λ thread. file_of (Trace thread) (lines thread)) (λ trace. with_lines trace more) (range_with_len 1 threads)
    ∙ ap (λ h. map h (range_with_len 1 threads)) (fun_ext (λ thread. file_more (Trace thread) (lines thread) more))

-- the loop over all traces has come to its end
pub marks_put : (old new : List MadeFileForm) (more : List (List (List ℕ))) (n : ℕ) → length old ≤ n
    → new ≡ map (λ trace. with_lines trace more) (take n old) ++ drop n old → TracesGrow old new (λ thread. more)
marks_put old new more n all put =
    let f : MadeFileForm → MadeFileForm = λ trace. with_lines trace more in
    subst (λ (xs : List MadeFileForm). TracesGrow old xs (λ thread. more))
    (sym (put ∙ ap₂ (λ xs ys. map f xs ++ ys) (take_all n old all) (drop_all n old all) ∙ append-nil (map f old)))
    (all_put old more)
