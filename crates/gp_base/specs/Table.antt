-- A finite map as the list of its entries, in the order of their keys.
use Rattle.std.specs.Prelude.{List, [], ◌∷◌, Option, filter, not}
use Rattle.std.specs.declared.cmp.Ordering.{Ordering}
use Rattle.std.specs.BTreeMap.{insert_entry, is_at}
use Rattle.std.specs.Map.{lookup}

-- the value at a key, where there is one
abbrev pub value_at : {K V : Type 0} → (K → K → Ordering) → List (K × V) → K → Option V
value_at cmp entries key = lookup (is_at (cmp key)) entries

-- the entries with this value at the key, and all others as they were
abbrev pub with_entry : {K V : Type 0} → (K → K → Ordering) → List (K × V) → K → V → List (K × V)
with_entry cmp entries key value = insert_entry cmp entries key value

-- the entries without that of the key, and all others as they were
abbrev pub without_entry : {K V : Type 0} → (K → K → Ordering) → List (K × V) → K → List (K × V)
without_entry cmp entries key = filter (λ entry. not (is_at (cmp key) entry.0)) entries

-- the entries with further ones put into them, one after another
abbrev pub with_entries : {K V : Type 0} → (K → K → Ordering) → List (K × V) → List (K × V) → List (K × V)
with_entries cmp entries [] = entries
with_entries cmp entries (more ∷ rest) = with_entries cmp (with_entry cmp entries more.0 more.1) rest
