-- What is read of lines without a fault does not hang on their numbers.
use Rattle.std.proofs.Common.{◌≡◌, refl, sym, ap, ◌∙◌, subst, ℕ, ◌+◌, Bool, true, false, ◌==◌, if◌then◌else◌, List, [], ◌∷◌, length, map, Option, Some, None, Result, Ok, Err, is_some}
use Rattle.gp_base.specs.Results.{and_then}
use Rattle.gp_text.specs.Spelling.{numbered}
use Rattle.gp_text.specs.declared.line.Line.{Line}
use Rattle.gp_trace.specs.declared.event.Event.{Event}
use Rattle.gp_trace.specs.declared.fault.TraceFault.{TraceFault}
use Rattle.gp_trace.specs.declared.line.Entry.{Entry}
use Rattle.gp_trace.specs.declared.line.Entry.TheVariants.{Did, Mark, Exit}
use Rattle.gp_trace.specs.declared.walk.Walk.{Walk}
use Rattle.gp_trace.specs.Event.{entry_of}
use Rattle.gp_trace.specs.Rules.{fault_of, in_line}
use Rattle.gp_trace.specs.Trace.{LocalTraceForm}
use Rattle.gp_trace.specs.Walk.{after_exit, after_lines, at_end, before_exit, next, with_event}

abbrev arrived : Walk → Result Walk TraceFault
arrived walk = Ok walk

abbrev refused : TraceFault → Result Walk TraceFault
refused fault = Err fault

mark_any : (b : Bool) (f g : TraceFault) (x w : Walk) → (if b then refused f else Ok x) ≡ arrived w → (if b then refused g else Ok x) ≡ arrived w
mark_any true f g x w ok = (cc)
mark_any false f g x w ok = ok

event_any : (fault : Option (ℕ → TraceFault)) (n m : ℕ) (walk : Walk) (event : Event) (w : Walk) → with_event walk event (in_line n fault) ≡ arrived w → with_event walk event (in_line m fault) ≡ arrived w
event_any None n m walk event w ok = ok
event_any (Some fault) n m walk event w ok = (cc)

step_any : (b : Bool) (entry : Option Entry) (thread marks n m : ℕ) (walk w : Walk) → (if b then after_exit marks n walk entry else before_exit thread marks n walk entry) ≡ arrived w
    → (if b then after_exit marks m walk entry else before_exit thread marks m walk entry) ≡ arrived w
step_any true None thread marks n m walk w ok = (cc)
step_any true (Some (Did event)) thread marks n m walk w ok = (cc)
step_any true (Some Mark) thread marks n m walk w ok = mark_any (length walk.ended == marks) _ _ _ w ok
step_any true (Some Exit) thread marks n m walk w ok = (cc)
step_any false None thread marks n m walk w ok = (cc)
step_any false (Some (Did event)) thread marks n m walk w ok = event_any (fault_of thread walk.standing event) n m walk event w ok
step_any false (Some Mark) thread marks n m walk w ok = mark_any (length walk.ended == marks) _ _ _ w ok
step_any false (Some Exit) thread marks n m walk w ok = ok

next_any : (format thread marks : ℕ) (walk w : Walk) (x y : Line) → x.words ≡ y.words → next format thread marks walk x ≡ arrived w → next format thread marks walk y ≡ arrived w
next_any format thread marks walk w x y same ok =
    let P : List (List ℕ) → Type 0 = λ words. next format thread marks walk (record { number = y.number; words = words }) ≡ arrived w in
    subst P same (step_any (is_some walk.exit_in) (entry_of format x.words) thread marks x.number y.number walk w ok)

then_any : (r s : Result Walk TraceFault) (f g : Walk → Result Walk TraceFault) (w : Walk) → ((mid : Walk) → r ≡ arrived mid → s ≡ arrived mid) → ((mid : Walk) → f mid ≡ arrived w → g mid ≡ arrived w)
    → and_then r f ≡ arrived w → and_then s g ≡ arrived w
then_any (Ok mid) s f g w first rest ok = ap (λ t. and_then t g) (first mid refl) ∙ rest mid ok
then_any (Err fault) s f g w first rest ok = (cc)

abbrev words_in : List Line → List (List (List ℕ))
words_in lines = map (λ line. line.words) lines

lines_any : (format thread marks : ℕ) (walk w : Walk) (xs ys : List Line) → words_in xs ≡ words_in ys → after_lines format thread marks walk xs ≡ arrived w → after_lines format thread marks walk ys ≡ arrived w
lines_any format thread marks walk w [] [] same ok = ok
lines_any format thread marks walk w [] (y ∷ ys) same ok = (cc)
lines_any format thread marks walk w (x ∷ xs) [] same ok = (cc)
lines_any format thread marks walk w (x ∷ xs) (y ∷ ys) same ok =
    let first : x.words ≡ y.words = cc in
    let rest : words_in xs ≡ words_in ys = cc in
    then_any (next format thread marks walk x) (next format thread marks walk y) (λ mid. after_lines format thread marks mid xs) (λ mid. after_lines format thread marks mid ys) w
    (λ mid is. next_any format thread marks walk mid x y first is) (λ mid is. lines_any format thread marks mid w xs ys rest is) ok

words_numbered : (n : ℕ) (lines : List (List (List ℕ))) → words_in (numbered n lines) ≡ lines
words_numbered n [] = refl
words_numbered n (words ∷ lines) = ap (λ rest. words ∷ rest) (words_numbered (n + 1) lines)

end_any : (thread marks last : ℕ) (trace : LocalTraceForm) (r s : Result Walk TraceFault) → ((w : Walk) → r ≡ arrived w → s ≡ arrived w) → at_end thread marks last r ≡ Ok trace → at_end thread marks last s ≡ Ok trace
end_any thread marks last trace (Ok w) s goes ok = ap (at_end thread marks last) (goes w refl) ∙ ok
end_any thread marks last trace (Err fault) s goes ok = (cc)

-- lines of these words are read as the numbered ones are
pub renumbered : (format thread marks last : ℕ) (trace : LocalTraceForm) (walk : Walk) (words : List (List (List ℕ))) (lines : List Line) → words_in lines ≡ words
    → at_end thread marks last (after_lines format thread marks walk (numbered 1 words)) ≡ Ok trace → at_end thread marks last (after_lines format thread marks walk lines) ≡ Ok trace
renumbered format thread marks last trace walk words lines is ok =
    end_any thread marks last trace (after_lines format thread marks walk (numbered 1 words)) (after_lines format thread marks walk lines)
    (λ w goes. lines_any format thread marks walk w (numbered 1 words) lines (words_numbered 1 words ∙ sym is) goes) ok
