-- What a table of answers has at some events after an answer was put in or taken away.
use Rattle.std.proofs.Common.{◌≡◌, refl, ap, sym, ◌∙◌, Bor, Bool, true, false, not, cond, List, [], ◌∷◌, ◌++◌, Option, Some, None, filter, option_map}
use Rattle.std.specs.BTreeMap.{insert_entry, is_at}
use Rattle.std.specs.Cmp.{IsTotalOrder}
use Rattle.std.specs.Cmp.Lexicographic.{lists_ties, lists_total, pointwise, slice_cmp}
use Rattle.std.specs.Global.{Vec}
use Rattle.std.specs.declared.cmp.Ordering.{Ordering}
use Rattle.std.specs.declared.cmp.Ordering.TheVariants.{Less, Equal, Greater}
use Rattle.std.specs.Ordering.{eq_by_cmp}
use Rattle.gp_base.specs.TableLaws.{value_after_put}
use Rattle.gp_base.specs.Table.{value_at}
use Rattle.gp_report.specs.Records.{Answer, Entry}
use Rattle.gp_window.specs.declared.schedule.EventId.{EventId}
use Rattle.gp_window.specs.Ids.{is_same}
use Rattle.gp_resume.specs.Keeping.{Told}
use Rattle.gp_resume.specs.Old.{answer_in}
use Rattle.gp_resume.specs.Table.{answer_at, told_in}
use Rattle.gp_resume.proofs.SameIds.{ids_apart, ids_decide}

-- an order of events in which the same events alone are level
pub record IsOrder (cmp : EventId → EventId → Ordering) : Type 0 where
  pub total : IsTotalOrder cmp
  pub ties : (one other : EventId) → is_same one other ≡ eq_by_cmp cmp one other

-- the answers without that at some events
abbrev taken : List EventId → Told → Told
taken ids answers = filter (λ (entry : List EventId × Answer). not (pointwise is_same ids entry.0)) answers

taken_none : (ids : List EventId) (answers : Told) → answer_at (taken ids answers) ids ≡ None
taken_none ids [] = refl
taken_none ids (entry ∷ answers) = at (pointwise is_same ids entry.0) refl (taken_none ids answers)
  where
    at : (same : Bool) → pointwise is_same ids entry.0 ≡ same → answer_at (taken ids answers) ids ≡ None → answer_at (taken ids (entry ∷ answers)) ids ≡ None
    at true e rest = rw e rest
    at false e rest = rw (e, e) rest

taken_other : (ids other : List EventId) → (ids ≡ other → ⊥) → (answers : Told) → answer_at (taken ids answers) other ≡ answer_at answers other
taken_other ids other apart [] = refl
taken_other ids other apart (entry ∷ answers) = at (pointwise is_same ids entry.0) refl (taken_other ids other apart answers)
  where
    at : (same : Bool) → pointwise is_same ids entry.0 ≡ same → answer_at (taken ids answers) other ≡ answer_at answers other → answer_at (taken ids (entry ∷ answers)) other ≡ answer_at (entry ∷ answers) other
    at true e rest =
        let differs : pointwise is_same other entry.0 ≡ false = ids_apart other entry.0 (λ same. apart ((ids_decide ids entry.0).0 e ∙ sym same)) in
        rw (e, differs) rest
    at false e rest = rw e (ap (cond (pointwise is_same other entry.0) (Some entry.1)) rest)

module _ (cmp : EventId → EventId → Ordering) (order : IsOrder cmp) where
  abbrev keys : Vec EventId → Vec EventId → Ordering
  keys one other = slice_cmp cmp one.items other.items

  looked : (answers : Told) (ids : List EventId) → answer_at answers ids ≡ value_at (slice_cmp cmp) answers ids
  looked [] ids = refl
  looked (entry ∷ answers) ids = λ i. cond (lists_ties cmp order.ties ids entry.0 i) (Some entry.1) (looked answers ids i)

  put_told : (table : List (Vec EventId × Bor Answer)) (key : Vec EventId) (value : Bor Answer) → told_in (insert_entry keys table key value) ≡ insert_entry (slice_cmp cmp) (told_in table) key.items value.now
  put_told [] key value = refl
  put_told (entry ∷ table) key value = at (slice_cmp cmp key.items entry.0.items) refl (put_told table key value)
    where
      at : (o : Ordering) → slice_cmp cmp key.items entry.0.items ≡ o → told_in (insert_entry keys table key value) ≡ insert_entry (slice_cmp cmp) (told_in table) key.items value.now
          → told_in (insert_entry keys (entry ∷ table) key value) ≡ insert_entry (slice_cmp cmp) (told_in (entry ∷ table)) key.items value.now
      at Less e rest = rw e refl
      at Equal e rest = rw e refl
      at Greater e rest = rw e (ap (λ es. (entry.0.items, entry.1.now) ∷ es) rest)

  -- the answer that was put in stands at its events, and all others stand as before
  pub at_put : (table : List (Vec EventId × Bor Answer)) (key : Vec EventId) (value : Bor Answer) (ids : List EventId)
      → answer_at (told_in (insert_entry keys table key value)) ids ≡ cond (pointwise is_same ids key.items) (Some value.now) (answer_at (told_in table) ids)
  at_put table key value ids =
      ap (λ answers. answer_at answers ids) (put_told table key value)
      ∙ looked (insert_entry (slice_cmp cmp) (told_in table) key.items value.now) ids
      ∙ value_after_put (lists_total order.total) (told_in table) key.items ids value.now
      ∙ sym (λ i. cond (lists_ties cmp order.ties ids key.items i) (Some value.now) (looked (told_in table) ids i))

  -- what is got by a key
  pub at_key : (table : List (Vec EventId × Bor Answer)) (key : Vec EventId) → option_map (λ (answer : Bor Answer). answer.now) (value_at keys table key) ≡ answer_at (told_in table) key.items
  at_key [] key = refl
  at_key (entry ∷ table) key = at (is_at (keys key) entry.0) (pointwise is_same key.items entry.0.items) refl refl (lists_ties cmp order.ties key.items entry.0.items) (at_key table key)
    where
      at : (one other : Bool) → is_at (keys key) entry.0 ≡ one → pointwise is_same key.items entry.0.items ≡ other → pointwise is_same key.items entry.0.items ≡ is_at (keys key) entry.0
          → option_map (λ (answer : Bor Answer). answer.now) (value_at keys table key) ≡ answer_at (told_in table) key.items
          → option_map (λ (answer : Bor Answer). answer.now) (value_at keys (entry ∷ table) key) ≡ answer_at (told_in (entry ∷ table)) key.items
      at true true e f same rest = rw (e, f) refl
      at false false e f same rest = rw (e, f) rest
      at true false e f same rest = let clash : false ≡ true = sym f ∙ same ∙ e in absurd cc
      at false true e f same rest = let clash : true ≡ false = sym f ∙ same ∙ e in absurd cc

  taken_told : (table : List (Vec EventId × Bor Answer)) (key : Vec EventId) → told_in (filter (λ (entry : Vec EventId × Bor Answer). not (is_at (keys key) entry.0)) table) ≡ taken key.items (told_in table)
  taken_told [] key = refl
  taken_told (entry ∷ table) key = at (is_at (keys key) entry.0) (pointwise is_same key.items entry.0.items) refl refl (lists_ties cmp order.ties key.items entry.0.items) (taken_told table key)
    where
      at : (one other : Bool) → is_at (keys key) entry.0 ≡ one → pointwise is_same key.items entry.0.items ≡ other → pointwise is_same key.items entry.0.items ≡ is_at (keys key) entry.0
          → told_in (filter (λ (e : Vec EventId × Bor Answer). not (is_at (keys key) e.0)) table) ≡ taken key.items (told_in table)
          → told_in (filter (λ (e : Vec EventId × Bor Answer). not (is_at (keys key) e.0)) (entry ∷ table)) ≡ taken key.items (told_in (entry ∷ table))
      at true true e f same rest = rw (e, f) rest
      at false false e f same rest = rw (e, f) (ap (λ es. (entry.0.items, entry.1.now) ∷ es) rest)
      at true false e f same rest = let clash : false ≡ true = sym f ∙ same ∙ e in absurd cc
      at false true e f same rest = let clash : true ≡ false = sym f ∙ same ∙ e in absurd cc

  pub at_removed : (table : List (Vec EventId × Bor Answer)) (key : Vec EventId) → answer_at (told_in (filter (λ (entry : Vec EventId × Bor Answer). not (is_at (keys key) entry.0)) table)) key.items ≡ None
  at_removed table key = ap (λ answers. answer_at answers key.items) (taken_told table key) ∙ taken_none key.items (told_in table)

  pub at_others : (table : List (Vec EventId × Bor Answer)) (key : Vec EventId) (other : List EventId) → (key.items ≡ other → ⊥)
      → answer_at (told_in (filter (λ (entry : Vec EventId × Bor Answer). not (is_at (keys key) entry.0)) table)) other ≡ answer_at (told_in table) other
  at_others table key other apart = ap (λ answers. answer_at answers other) (taken_told table key) ∙ taken_other key.items other apart (told_in table)

-- what is found among entries, or else in a table
abbrev pub or_else : Option Answer → Option Answer → Option Answer
or_else None other = other
or_else (Some answer) other = Some answer

pub found_last : (front : List Entry) (entry : Entry) (ids : List EventId) (other : Option Answer)
    → or_else (answer_in (front ++ entry ∷ []) ids) other ≡ or_else (answer_in front ids) (cond (pointwise is_same ids entry.events) (Some entry.answer) other)
found_last [] entry ids other = at (pointwise is_same ids entry.events) refl
  where
    at : (same : Bool) → pointwise is_same ids entry.events ≡ same → or_else (answer_in (entry ∷ []) ids) other ≡ cond (pointwise is_same ids entry.events) (Some entry.answer) other
    at true e = rw e refl
    at false e = rw e refl
found_last (first ∷ front) entry ids other = at (pointwise is_same ids first.events) refl (found_last front entry ids other)
  where
    at : (same : Bool) → pointwise is_same ids first.events ≡ same
        → or_else (answer_in (front ++ entry ∷ []) ids) other ≡ or_else (answer_in front ids) (cond (pointwise is_same ids entry.events) (Some entry.answer) other)
        → or_else (answer_in (first ∷ front ++ entry ∷ []) ids) other ≡ or_else (answer_in (first ∷ front) ids) (cond (pointwise is_same ids entry.events) (Some entry.answer) other)
    at true e rest = rw e refl
    at false e rest = rw e rest
