-- How far a listing is written: up to the windows that are left.
use Rattle.std.proofs.Common.{◌≡◌, sym, ℕ, ◌+◌, ◌*◌, ◌≤◌, List, [], ◌∷◌, ◌++◌, ◌∙◌, ap, length, subst, Result, Ok, Err, OnErr, arith}
use Rattle.std.specs.Prelude.{Option, flat_map, sum_by}
use Rattle.std.proofs.lemmas.Grind.{flat_map-append}
use Rattle.std.proofs.lemmas.List.Sums.{sum_by-cons}
use Rattle.gp_outside.specs.Sinks.{Appends, AppendsFront}
use Rattle.gp_property.specs.PropertyForm.{PropertyForm}
use Rattle.gp_window.specs.RecordingForm.{RecordingForm}
use Rattle.gp_window.specs.WindowForm.{WindowForm}
use Rattle.gp_window.specs.Windows.{all_windows}
use Rattle.gp_window.specs.WindowsLaws.{count_windows}
use Rattle.gp_predict.specs.Listing.{all_lines, total_count, window_count, window_lines}
use Rattle.gp_predict.specs.WrittenLaws.{IsWritten, written_all, written_cut, written_more, written_none, written_prefix}

-- what holds anyway holds on an error
pub anyway : {T E P : Type 0} (result : Result T E) → P → OnErr result P
anyway (Ok value) holds = tt
anyway (Err error) holds = holds

abbrev text_of : List (List ℕ) → List ℕ
text_of lines = flat_map (λ line. line) lines

-- the text of the windows that are left
abbrev text_left : List PropertyForm → List WindowForm → List ℕ
text_left ps left = text_of (flat_map (window_lines ps) left)

-- what the windows before those that are left have is counted and written, and what those have is left
pub record IsBefore (r : RecordingForm) (ps : List PropertyForm) (old new : Option (List ℕ)) (total : ℕ) (left : List WindowForm) : Type 0 where
  pub counted : total + sum_by (window_count ps) left ≡ total_count r ps
  pub few : total + length left * 640000 ≤ 4096 * 640000
  pub written : IsWritten old new (flat_map (λ line. line) (flat_map (window_lines ps) left)) (flat_map (λ line. line) (all_lines r ps))

-- nothing is written before the first window
pub none_put : (r : RecordingForm) (ps : List PropertyForm) (old : Option (List ℕ)) (left : List WindowForm) → r.manifest.epochs ≤ 4096 → left ≡ all_windows r → IsBefore r ps old old 0 left
none_put r ps old left few is =
    let count = count_windows r 1 r.manifest.epochs in
    subst (IsBefore r ps old old 0) (sym is) (record {
      counted = omega arith;
      few = omega (arith, count, few);
      written = written_none old (text_of (all_lines r ps));
    })

-- a prefix is written
pub begun : (r : RecordingForm) (ps : List PropertyForm) (old new : Option (List ℕ)) (total : ℕ) (left : List WindowForm)
    → IsBefore r ps old new total left → AppendsFront old new (flat_map (λ line. line) (all_lines r ps))
begun r ps old new total left h = written_prefix old new (text_left ps left) (text_of (all_lines r ps)) h.written

text_parted : (ps : List PropertyForm) (window : WindowForm) (rest : List WindowForm) → text_left ps (window ∷ rest) ≡ text_of (window_lines ps window) ++ text_left ps rest
text_parted ps window rest = flat_map-append (λ line. line) (window_lines ps window) (flat_map (window_lines ps) rest)

left_parted : (r : RecordingForm) (ps : List PropertyForm) (old new : Option (List ℕ)) (total : ℕ) (left rest : List WindowForm) (window : WindowForm) → left ≡ window ∷ rest
    → IsBefore r ps old new total left → IsWritten old new (text_of (window_lines ps window) ++ text_left ps rest) (text_of (all_lines r ps))
left_parted r ps old new total left rest window first h =
    subst (λ (text : List ℕ). IsWritten old new text (text_of (all_lines r ps))) (ap (text_left ps) first ∙ text_parted ps window rest) h.written

-- a prefix of the window's lines is written
pub cut_in : (r : RecordingForm) (ps : List PropertyForm) (old middle new : Option (List ℕ)) (total : ℕ) (left rest : List WindowForm) (window : WindowForm) → left ≡ window ∷ rest
    → IsBefore r ps old middle total left → AppendsFront middle new (flat_map (λ line. line) (window_lines ps window)) → AppendsFront old new (flat_map (λ line. line) (all_lines r ps))
cut_in r ps old middle new total left rest window first h cut =
    written_cut old middle new (text_of (window_lines ps window)) (text_left ps rest) (text_of (all_lines r ps)) (left_parted r ps old middle total left rest window first h) cut

-- the window is written
pub one_put : (r : RecordingForm) (ps : List PropertyForm) (old middle new : Option (List ℕ)) (total count : ℕ) (left rest : List WindowForm) (window : WindowForm) → left ≡ window ∷ rest
    → count ≡ window_count ps window → count ≤ 640000 → IsBefore r ps old middle total left → Appends middle new (flat_map (λ line. line) (window_lines ps window)) → IsBefore r ps old new (total + count) rest
one_put r ps old middle new total count left rest window first is most h appended =
    let sum : sum_by (window_count ps) left ≡ window_count ps window + sum_by (window_count ps) rest = ap (sum_by (window_count ps)) first ∙ sum_by-cons (window_count ps) window rest in
    let size : length left ≡ length (window ∷ rest) = ap (λ (ws : List WindowForm). length ws) first in
    record {
      counted = omega (arith, h.counted, sum, is);
      few = omega (arith, h.few, size, most);
      written = written_more old middle new (text_of (window_lines ps window)) (text_left ps rest) (text_of (all_lines r ps)) (left_parted r ps old middle total left rest window first h) appended;
    }

-- after the last window all is written
pub whole : (r : RecordingForm) (ps : List PropertyForm) (old new : Option (List ℕ)) (total : ℕ) (left : List WindowForm) → left ≡ []
    → IsBefore r ps old new total left → Appends old new (flat_map (λ line. line) (all_lines r ps))
whole r ps old new total left none h =
    written_all old new (text_of (all_lines r ps)) (subst (λ (ws : List WindowForm). IsWritten old new (text_left ps ws) (text_of (all_lines r ps))) none h.written)

-- and counted
pub whole_count : (r : RecordingForm) (ps : List PropertyForm) (old new : Option (List ℕ)) (total : ℕ) (left : List WindowForm) → left ≡ []
    → IsBefore r ps old new total left → total ≡ total_count r ps
whole_count r ps old new total left none h =
    let counted : total + 0 ≡ total_count r ps = subst (λ (ws : List WindowForm). total + sum_by (window_count ps) ws ≡ total_count r ps) none h.counted in
    omega (arith, counted)
