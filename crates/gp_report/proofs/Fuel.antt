-- As many properties or windows as there are lines are enough, so that reading goes on until another line comes.
use Rattle.std.proofs.Common.{◌≡◌, refl, sym, ap, ◌∙◌, ℕ, zero, suc, ◌+◌, ◌<◌, ◌≤◌, true, cond, List, [], ◌∷◌, ◌++◌, length, codes, decimal, Ok, Err, arith, length-append}
use Rattle.gp_text.specs.declared.line.Line.{Line}
use Rattle.gp_text.specs.Numbers.{OneSpelling}
use Rattle.gp_window.specs.EventIds.{EventIdsReadExactly}
use Rattle.gp_report.specs.Records.{PropertyRecord, WindowRecord}
use Rattle.gp_report.specs.Entries.{entries_in}
use Rattle.gp_report.specs.Printed.{count_word, entries_lines, window_body_lines}
use Rattle.gp_report.specs.Reading.{Reads, ◌>>=◌, is_at, read_properties, read_property, read_window, read_windows, with_front}
use Rattle.gp_report.proofs.Loops.{goes_on}
use Rattle.gp_report.proofs.PropertiesRead.{property_was}
use Rattle.gp_report.proofs.Taking.{fewer_left}
use Rattle.gp_report.proofs.WindowsRead.{window_was}

-- a property takes a line at least
pub property_fewer : OneSpelling → EventIdsReadExactly → (end : ℕ) (lines : List Line) (property : PropertyRecord) (after : List Line) → read_property end lines ≡ Ok (property, after) → length after < length lines
property_fewer spelled exactly end lines property after e =
    let was = property_was spelled exactly end lines (property, after) e in
    let fewer = fewer_left lines after (codes "property" ∷ property.name ∷ count_word property.body ∷ []) (entries_lines 0 (entries_in property.body)) was.0 in
    omega (arith, fewer)

-- a window takes a line at least
pub window_fewer : OneSpelling → EventIdsReadExactly → (end format due : ℕ) (lines : List Line) (window : WindowRecord) (after : List Line) → read_window end format due lines ≡ Ok (window, after) → length after < length lines
window_fewer spelled exactly end format due lines window after e =
    let was = window_was spelled exactly end format due lines (window, after) e in
    let fewer = fewer_left lines after (codes "window" ∷ decimal window.number ∷ []) (window_body_lines format window.shared window.body) was.0 in
    omega (arith, fewer)

-- two ways to go on are one where they agree on fewer lines
same_next : {A : Type 0} (read : Reads A) (first second : List Line → Reads (List A))
    → ((x : A) (after : List Line) → read ≡ Ok (x, after) → first after ≡ second after)
    → (read >>= λ x. with_front (x.0 ∷ []) (first x.1)) ≡ (read >>= λ x. with_front (x.0 ∷ []) (second x.1))
same_next (Ok x) first second same = ap (with_front (x.0 ∷ [])) (same x.0 x.1 refl)
same_next (Err fault) first second same = refl

properties_enough : OneSpelling → EventIdsReadExactly → (end n m : ℕ) (lines : List Line) → length lines ≤ n → length lines ≤ m → read_properties end n lines ≡ read_properties end m lines
properties_enough spelled exactly end zero zero lines few less = refl
properties_enough spelled exactly end zero (suc m) [] few less = refl
properties_enough spelled exactly end zero (suc m) (line ∷ lines) few less = absurd (omega arith)
properties_enough spelled exactly end (suc n) zero [] few less = refl
properties_enough spelled exactly end (suc n) zero (line ∷ lines) few less = absurd (omega arith)
properties_enough spelled exactly end (suc n) (suc m) lines few less =
    ap (λ more. cond (is_at (codes "property") lines) more (Ok ([], lines)))
    (same_next (read_property end lines) (read_properties end n) (read_properties end m) (λ property after is.
    let fewer = property_fewer spelled exactly end lines property after is in
    properties_enough spelled exactly end n m after (omega (arith, fewer)) (omega (arith, fewer))))

-- the properties that are left are one and then the others
pub properties_split : OneSpelling → EventIdsReadExactly → (end : ℕ) (lines : List Line) → is_at (codes "property") lines ≡ true
    → read_properties end (length lines) lines ≡ (read_property end lines >>= λ property. with_front (property.0 ∷ []) (read_properties end (length property.1) property.1))
properties_split spelled exactly end [] begins = absurd (cc)
properties_split spelled exactly end (line ∷ lines) begins =
    rw begins (same_next (read_property end (line ∷ lines)) (read_properties end (length lines)) (λ after. read_properties end (length after) after) (λ property after is.
    let fewer = property_fewer spelled exactly end (line ∷ lines) property after is in
    properties_enough spelled exactly end (length lines) (length after) after (omega (arith, fewer)) (omega arith)))

windows_enough : OneSpelling → EventIdsReadExactly → (end format due n m : ℕ) (lines : List Line) → length lines ≤ n → length lines ≤ m → read_windows end format due n lines ≡ read_windows end format due m lines
windows_enough spelled exactly end format due zero zero lines few less = refl
windows_enough spelled exactly end format due zero (suc m) [] few less = refl
windows_enough spelled exactly end format due zero (suc m) (line ∷ lines) few less = absurd (omega arith)
windows_enough spelled exactly end format due (suc n) zero [] few less = refl
windows_enough spelled exactly end format due (suc n) zero (line ∷ lines) few less = absurd (omega arith)
windows_enough spelled exactly end format due (suc n) (suc m) lines few less =
    ap (λ more. cond (is_at (codes "window") lines) more (Ok ([], lines)))
    (same_next (read_window end format due lines) (read_windows end format (due + 1) n) (read_windows end format (due + 1) m) (λ window after is.
    let fewer = window_fewer spelled exactly end format due lines window after is in
    windows_enough spelled exactly end format (due + 1) n m after (omega (arith, fewer)) (omega (arith, fewer))))

-- the windows that are left are one and then the others
pub windows_split : OneSpelling → EventIdsReadExactly → (end format due : ℕ) (lines : List Line) → is_at (codes "window") lines ≡ true
    → read_windows end format due (length lines) lines ≡ (read_window end format due lines >>= λ window. with_front (window.0 ∷ []) (read_windows end format (due + 1) (length window.1) window.1))
windows_split spelled exactly end format due [] begins = absurd (cc)
windows_split spelled exactly end format due (line ∷ lines) begins =
    rw begins (same_next (read_window end format due (line ∷ lines)) (read_windows end format (due + 1) (length lines)) (λ after. read_windows end format (due + 1) (length after) after) (λ window after is.
    let fewer = window_fewer spelled exactly end format due (line ∷ lines) window after is in
    windows_enough spelled exactly end format (due + 1) (length lines) (length after) after (omega (arith, fewer)) (omega arith)))

-- one property more was read
pub properties_go_on : OneSpelling → EventIdsReadExactly → (end : ℕ) (lines after : List Line) (front new : List PropertyRecord) (property : PropertyRecord) (total : Reads (List PropertyRecord))
    → is_at (codes "property") lines ≡ true → read_property end lines ≡ Ok (property, after) → new ≡ front ++ property ∷ []
    → with_front front (read_properties end (length lines) lines) ≡ total → with_front new (read_properties end (length after) after) ≡ total
properties_go_on spelled exactly end lines after front new property total begins is more so_far =
    ap (λ (all : List PropertyRecord). with_front all (read_properties end (length after) after)) more
    ∙ goes_on front (read_properties end (length lines) lines) total (read_property end lines) (λ a. read_properties end (length a) a) property after (properties_split spelled exactly end lines begins) is so_far

-- one window more was read
pub windows_go_on : OneSpelling → EventIdsReadExactly → (end format before : ℕ) (lines after : List Line) (front new : List WindowRecord) (window : WindowRecord) (total : Reads (List WindowRecord))
    → before ≡ length front → is_at (codes "window") lines ≡ true → read_window end format (before + 1) lines ≡ Ok (window, after) → new ≡ front ++ window ∷ []
    → with_front front (read_windows end format (length front + 1) (length lines) lines) ≡ total → with_front new (read_windows end format (length new + 1) (length after) after) ≡ total
windows_go_on spelled exactly end format before lines after front new window total count begins is more so_far =
    let due = length front + 1 in
    let one : read_window end format due lines ≡ Ok (window, after) = ap (λ n. read_window end format (n + 1) lines) (sym count) ∙ is in
    let next : length new + 1 ≡ due + 1 = omega (arith, ap length more, length-append front (window ∷ [])) in
    ap (λ (all : List WindowRecord). with_front all (read_windows end format (length new + 1) (length after) after)) more
    ∙ ap (λ n. with_front (front ++ window ∷ []) (read_windows end format n (length after) after)) next
    ∙ goes_on front (read_windows end format due (length lines) lines) total (read_window end format due lines) (λ a. read_windows end format (due + 1) (length a) a) window after (windows_split spelled exactly end format due lines begins) one so_far
