-- Reading one thing after another, as loops do: what was read, and then what is left, is all.
use Rattle.std.proofs.Common.{◌≡◌, refl, sym, ap, ◌∙◌, ℕ, suc, ◌+◌, ◌-◌, ◌<◌, List, [], ◌∷◌, ◌++◌, Ok, Err, append_assoc, arith}
use Rattle.gp_text.specs.declared.line.Line.{Line}
use Rattle.gp_report.specs.Reading.{Reads, ◌>>=◌, read_entries, read_entry, read_step, read_steps, with_front}

front_twice : {A : Type 0} (front more : List A) (read : Reads (List A)) → with_front (front ++ more) read ≡ with_front front (with_front more read)
front_twice front more (Ok read) = ap (λ all. Ok (all, read.1)) (append_assoc front more read.0)
front_twice front more (Err fault) = refl

-- one thing more was read
pub goes_on : {A : Type 0} (front : List A) (rest total : Reads (List A)) (one : Reads A) (next : List Line → Reads (List A)) (x : A) (after : List Line)
    → rest ≡ (one >>= λ y. with_front (y.0 ∷ []) (next y.1)) → one ≡ Ok (x, after) → with_front front rest ≡ total → with_front (front ++ x ∷ []) (next after) ≡ total
goes_on front rest total one next x after splits is so_far =
    let here : rest ≡ with_front (x ∷ []) (next after) = splits ∙ ap (λ r. r >>= λ y. with_front (y.0 ∷ []) (next y.1)) is in
    front_twice front (x ∷ []) (next after) ∙ ap (with_front front) (sym here) ∙ so_far

-- the steps that are left are one and then the others
pub steps_split : (end count i : ℕ) (lines : List Line) → i < count
    → read_steps end (count - i) lines ≡ (read_step end lines >>= λ step. with_front (step.0 ∷ []) (read_steps end (count - (i + 1)) step.1))
steps_split end count i lines below =
    let left : count - i ≡ suc (count - (i + 1)) = omega arith in
    rw left refl

-- the entries that are left are one and then the others
pub entries_split : (end due count : ℕ) (lines : List Line) → due < count
    → read_entries end due (count - due) lines ≡ (read_entry end due lines >>= λ entry. with_front (entry.0 ∷ []) (read_entries end (due + 1) (count - (due + 1)) entry.1))
entries_split end due count lines below =
    let left : count - due ≡ suc (count - (due + 1)) = omega arith in
    rw left refl
