-- How far a window's certificates are gone through.
use Rattle.std.proofs.Common.{◌≡◌, ap, sym, ◌∙◌, ℕ, ◌+◌, ◌^◌, ◌<◌, List, ◌∷◌, length, get_or, drop, arith}
use Rattle.std.proofs.lemmas.List.{drop_more}
use Rattle.std.proofs.lemmas.List.Sums.{sum_by-cons}
use Rattle.gp_certificate.specs.declared.step.Step.{Step}
use Rattle.gp_report.specs.Records.{Entry, PropertyRecord}
use Rattle.gp_report.specs.Entries.{entries_among, entries_in}
use Rattle.gp_sharing.specs.declared.sizes.Sizes.{Sizes}
use Rattle.gp_sharing.specs.Compacted.{own_steps, steps_in, with_entries}
use Rattle.gp_sharing.specs.GrownLaws.{certificate_adds, entries_add, entries_parted, own_count, steps_parted}
use Rattle.gp_sharing.specs.Moving.{with_certificate}

-- a list from a place on begins with the element there
cut : {X : Type 0} (xs : List X) (x : X) (i : ℕ) → i < length xs → x ≡ get_or xs i x → drop i xs ≡ x ∷ drop (i + 1) xs
cut xs x i within is = drop_more xs i x within ∙ ap (λ y. y ∷ drop (i + 1) xs) (sym is)

module _ (sizes : Sizes) (list : List Step) where
  -- one property more
  pub property_more : (properties : List PropertyRecord) (property : PropertyRecord) (i : ℕ) (whole next : List Step) → i < length properties → property ≡ get_or properties i property
      → next ≡ with_entries sizes list (entries_in property.body) → with_entries sizes list (entries_among (drop i properties)) ≡ whole → with_entries sizes next (entries_among (drop (i + 1) properties)) ≡ whole
  property_more properties property i whole next within is made all =
      ap (λ (xs : List Step). with_entries sizes xs (entries_among (drop (i + 1) properties))) made
      ∙ sym (entries_parted sizes list (entries_in property.body) (entries_among (drop (i + 1) properties)))
      ∙ ap (λ (ps : List PropertyRecord). with_entries sizes list (entries_among ps)) (sym (cut properties property i within is)) ∙ all

  property_steps : (properties : List PropertyRecord) (property : PropertyRecord) (i : ℕ) → i < length properties → property ≡ get_or properties i property
      → steps_in (entries_among (drop i properties)) ≡ steps_in (entries_in property.body) + steps_in (entries_among (drop (i + 1) properties))
  property_steps properties property i within is =
      ap (λ (ps : List PropertyRecord). steps_in (entries_among ps)) (cut properties property i within is) ∙ steps_parted (entries_in property.body) (entries_among (drop (i + 1) properties))

  -- there is room for what follows
  pub property_left : (properties : List PropertyRecord) (property : PropertyRecord) (i : ℕ) (next : List Step) → i < length properties → property ≡ get_or properties i property
      → next ≡ with_entries sizes list (entries_in property.body) → sizes.clauses + length list + steps_in (entries_among (drop i properties)) < 2 ^ 31
      → sizes.clauses + length next + steps_in (entries_among (drop (i + 1) properties)) < 2 ^ 31
  property_left properties property i next within is made room =
      let size : length next ≡ length (with_entries sizes list (entries_in property.body)) = ap length made in
      omega (arith, room, size, entries_add sizes list (entries_in property.body), property_steps properties property i within is)

  -- one entry more
  pub entry_more : (entries : List Entry) (entry : Entry) (i : ℕ) (whole next : List Step) → i < length entries → entry ≡ get_or entries i entry
      → next ≡ with_certificate sizes list (own_steps entry.answer) → with_entries sizes list (drop i entries) ≡ whole → with_entries sizes next (drop (i + 1) entries) ≡ whole
  entry_more entries entry i whole next within is made all =
      ap (λ (xs : List Step). with_entries sizes xs (drop (i + 1) entries)) made ∙ ap (with_entries sizes list) (sym (cut entries entry i within is)) ∙ all

  entry_steps : (entries : List Entry) (entry : Entry) (i : ℕ) → i < length entries → entry ≡ get_or entries i entry → steps_in (drop i entries) ≡ length (own_steps entry.answer) + steps_in (drop (i + 1) entries)
  entry_steps entries entry i within is = ap steps_in (cut entries entry i within is) ∙ sum_by-cons own_count entry (drop (i + 1) entries)

  pub entry_left : (entries : List Entry) (entry : Entry) (i : ℕ) (next : List Step) → i < length entries → entry ≡ get_or entries i entry → next ≡ with_certificate sizes list (own_steps entry.answer)
      → sizes.clauses + length list + steps_in (drop i entries) < 2 ^ 31 → sizes.clauses + length next + steps_in (drop (i + 1) entries) < 2 ^ 31
  entry_left entries entry i next within is made room =
      let size : length next ≡ length (with_certificate sizes list (own_steps entry.answer)) = ap length made in
      omega (arith, room, size, certificate_adds sizes list (own_steps entry.answer), entry_steps entries entry i within is)
