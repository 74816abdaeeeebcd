-- Entries counted one after another.
use Rattle.std.proofs.Common.{◌≡◌, refl, ℕ, ◌+◌, ◌<◌, Bool, cond, get_or, length, drop, List, [], ◌∷◌, ◌++◌, ap, ◌∙◌, sym, arith}
use Rattle.std.specs.List.{flat_map}
use Rattle.std.proofs.lemmas.List.Sums.{sum_by-append}
use Rattle.gp_writer.specs.LinesLaws.{cut}
use Rattle.gp_report.specs.declared.record.AnswerOf.{AnswerOf}
use Rattle.gp_report.specs.declared.record.EntryOf.{EntryOf}
use Rattle.gp_report.specs.declared.record.PropertyRecordOf.{PropertyRecordOf}
use Rattle.gp_report.specs.declared.record.WindowRecordOf.{WindowRecordOf}
use Rattle.gp_report.specs.declared.tally.Tally.{Tally}
use Rattle.gp_report.specs.Entries.{count_of, entries_among, entries_in, entries_of, is_found, is_impossible, is_undecided, properties_in}
use Rattle.gp_report.specs.Tally.{with_entries}

counted : {Shown : Type 0} (is_such : AnswerOf Shown → Bool) (n : ℕ) (xs ys : List (EntryOf Shown)) → (n + count_of is_such xs) + count_of is_such ys ≡ n + count_of is_such (xs ++ ys)
counted {Shown} is_such n xs ys = omega (arith, sum_by-append (λ (entry : EntryOf Shown). cond (is_such entry.answer) 1 0) xs ys)

-- entries, and then more entries
tallied : {Shown : Type 0} (tally : Tally) (xs ys : List (EntryOf Shown)) → with_entries (with_entries tally xs) ys ≡ with_entries tally (xs ++ ys)
tallied tally xs ys = rw (counted is_found tally.found xs ys, counted is_impossible tally.impossible xs ys, counted is_undecided tally.undecided xs ys) refl

-- the entries of one thing more
one_part : {A Shown : Type 0} (f : A → List (EntryOf Shown)) (tally whole : Tally) (xs : List A) (x : A) (i : ℕ)
    → i < length xs → x ≡ get_or xs i x
    → with_entries tally (flat_map f (drop i xs)) ≡ whole
    → with_entries (with_entries tally (f x)) (flat_map f (drop (i + 1) xs)) ≡ whole
one_part f tally whole xs x i below is all =
    tallied tally (f x) (flat_map f (drop (i + 1) xs))
    ∙ ap (λ left. with_entries tally (flat_map f left)) (sym (cut xs x i below is))
    ∙ all

-- one entry more
pub one_entry : {Shown : Type 0} (tally whole : Tally) (entries : List (EntryOf Shown)) (entry : EntryOf Shown) (i : ℕ)
    → i < length entries → entry ≡ get_or entries i entry
    → with_entries tally (drop i entries) ≡ whole
    → with_entries (with_entries tally (entry ∷ [])) (drop (i + 1) entries) ≡ whole
one_entry {Shown} tally whole entries entry i below is all =
    tallied tally (entry ∷ []) (drop (i + 1) entries)
    ∙ ap (λ (left : List (EntryOf Shown)). with_entries tally left) (sym (cut entries entry i below is))
    ∙ all

-- those of one property more
pub one_property : {Shown : Type 0} (tally whole : Tally) (properties : List (PropertyRecordOf Shown)) (property : PropertyRecordOf Shown) (i : ℕ)
    → i < length properties → property ≡ get_or properties i property
    → with_entries tally (entries_among (drop i properties)) ≡ whole
    → with_entries (with_entries tally (entries_in property.body)) (entries_among (drop (i + 1) properties)) ≡ whole
one_property {Shown} tally whole properties property i below is all =
    one_part (λ (own : PropertyRecordOf Shown). entries_in own.body) tally whole properties property i below is all

-- those of one window more
pub one_window : {Shown : Type 0} (tally whole : Tally) (windows : List (WindowRecordOf Shown)) (window : WindowRecordOf Shown) (i : ℕ)
    → i < length windows → window ≡ get_or windows i window
    → with_entries tally (entries_of (drop i windows)) ≡ whole
    → with_entries (with_entries tally (entries_among (properties_in window.body))) (entries_of (drop (i + 1) windows)) ≡ whole
one_window {Shown} tally whole windows window i below is all =
    one_part (λ (own : WindowRecordOf Shown). entries_among (properties_in own.body)) tally whole windows window i below is all
