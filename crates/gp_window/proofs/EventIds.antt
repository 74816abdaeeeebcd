-- Words with a point in them, and the ids that they name.
use Rattle.std.proofs.Common.{◌≡◌, ◌↔◌, refl, ℕ, ◌<◌, ◌^◌, List, [], ◌∷◌, ◌++◌, Option, Some, None, length, get_or, sym, ap, ◌∙◌, append_assoc, decimal, arith}
use Rattle.std.specs.Prelude.{All, false, ◌==◌}
use Rattle.std.specs.Int.{IsInRange}
use Rattle.std.specs.List.{join_with_byte, slice_split}
use Rattle.std.specs.Str.Parse.{AllDigits}
use Rattle.std.proofs.lemmas.Bool.Decides.{nat_tests}
use Rattle.std.proofs.lemmas.Fmt.{decimal_is_IsNumeral}
use Rattle.std.proofs.lemmas.List.Elements.{All-from_get_or}
use Rattle.std.proofs.lemmas.List.Splits.{join_with_byte-slice_split, length-slice_split, slice_split_at, slice_split_none}
use Rattle.std.proofs.lemmas.Str.Parse.{digit_at}
use Rattle.gp_text.specs.Numbers.{OneSpelling, small_number_of}
use Rattle.gp_window.specs.declared.schedule.EventId.{EventId}
use Rattle.gp_window.specs.EventIds.{event_id_from, event_id_of, event_id_text, event_id_with}

-- three parts or more name no event
more_parts : (first second : List ℕ) (parts : List (List ℕ)) → 0 < length parts → event_id_from (first ∷ second ∷ parts) ≡ None
more_parts first second [] some = absurd (omega arith)
more_parts first second (third ∷ parts) some = refl

-- a second point leaves no event
pub second_point : (first second rest : List ℕ) → event_id_from (first ∷ second ∷ slice_split (λ b. b == 46) rest) ≡ None
second_point first second rest =
    more_parts first second (slice_split (λ b. b == 46) rest) (omega (arith, length-slice_split (λ b. b == 46) rest))

-- no digit is a point
no_point : (digits : List ℕ) → AllDigits 10 digits → All (λ b. (b == 46) ≡ false) digits
no_point digits all =
    All-from_get_or (λ b. (b == 46) ≡ false) digits 0 (λ i below.
    let range : IsInRange 48 57 (get_or digits i 0) = digit_at digits i all below in grind (arith, nat_tests))

-- two numbers with a point between them are split at it
two_parts : (thread index : ℕ) → thread < 2 ^ 32 → index < 2 ^ 32
    → slice_split (λ b. b == 46) (decimal thread ++ 46 ∷ decimal index) ≡ decimal thread ∷ decimal index ∷ []
two_parts thread index low high =
    slice_split_at (λ b. b == 46) (decimal thread) 46 (decimal index) (no_point (decimal thread) ((decimal_is_IsNumeral thread (omega arith)).0.1)) refl
    ∙ ap (λ parts. decimal thread ∷ parts) (slice_split_none (λ b. b == 46) (decimal index) (no_point (decimal index) ((decimal_is_IsNumeral index (omega arith)).0.1)))

-- the text of an id with its point between the numbers
in_parts : (id : EventId) → event_id_text id ≡ decimal id.thread ++ 46 ∷ decimal id.index
in_parts id = append_assoc (decimal id.thread) (46 ∷ []) (decimal id.index)

-- the text of an id is read as it
text_read : OneSpelling → (id : EventId) → id.thread < 2 ^ 32 → id.index < 2 ^ 32 → event_id_of (event_id_text id) ≡ Some id
text_read spelling id thread index =
    let first : small_number_of (decimal id.thread) ≡ Some id.thread = (spelling.small (decimal id.thread) id.thread thread).1 refl in
    let second : small_number_of (decimal id.index) ≡ Some id.index = (spelling.small (decimal id.index) id.index index).1 refl in
    ap event_id_of (in_parts id)
    ∙ ap event_id_from (two_parts id.thread id.index thread index)
    ∙ ap (λ thread. event_id_with thread (small_number_of (decimal id.index))) first
    ∙ ap (event_id_with (Some id.thread)) second

-- the two numbers of an id that was read
pub record AreNumbers (one other : Option ℕ) (id : EventId) : Type 0 where
  pub thread : one ≡ Some id.thread
  pub index : other ≡ Some id.index

-- an id made of two numbers has them
made_of : (thread index : ℕ) (id : EventId) → record { thread = thread; index = index } ≡ id → AreNumbers (Some thread) (Some index) id
made_of thread index id is = record { thread = ap (λ (id : EventId). Some id.thread) is; index = ap (λ (id : EventId). Some id.index) is }

some_id : (one other : EventId) → Some one ≡ Some other → one ≡ other
some_id one other is = (cc)

numbers_read : (thread index : Option ℕ) (id : EventId) → event_id_with thread index ≡ Some id → AreNumbers thread index id
numbers_read (Some thread) (Some index) id is = made_of thread index id (some_id (record { thread = thread; index = index }) id is)
numbers_read (Some thread) None id is = absurd (cc)
numbers_read None index id is = absurd (cc)

-- the parts of a word that is read as an id are the spellings of its numbers
parts_read : OneSpelling → (parts : List (List ℕ)) (id : EventId) → id.thread < 2 ^ 32 → id.index < 2 ^ 32
    → event_id_from parts ≡ Some id → join_with_byte 46 parts ≡ decimal id.thread ++ 46 ∷ decimal id.index
parts_read spelling [] id low high is = absurd (cc)
parts_read spelling (first ∷ []) id low high is = absurd (cc)
parts_read spelling (first ∷ second ∷ []) id low high is =
    let both : AreNumbers (small_number_of first) (small_number_of second) id = numbers_read (small_number_of first) (small_number_of second) id is in
    let one : first ≡ decimal id.thread = (spelling.small first id.thread low).0 both.thread in
    let two : second ≡ decimal id.index = (spelling.small second id.index high).0 both.index in
    rw (one, two) refl
parts_read spelling (first ∷ second ∷ third ∷ parts) id low high is = absurd (cc)

-- a word that is read as an id is its text
is_text : OneSpelling → (word : List ℕ) (id : EventId) → id.thread < 2 ^ 32 → id.index < 2 ^ 32 → event_id_of word ≡ Some id → word ≡ event_id_text id
is_text spelling word id low high is =
    sym (join_with_byte-slice_split 46 word)
    ∙ parts_read spelling (slice_split (λ b. b == 46) word) id low high is
    ∙ sym (in_parts id)

pub reads_exactly : OneSpelling → (word : List ℕ) (id : EventId) → id.thread < 2 ^ 32 → id.index < 2 ^ 32
    → (event_id_of word ≡ Some id) ↔ (word ≡ event_id_text id)
reads_exactly spelling word id low high = (
  is_text spelling word id low high,
  λ is. ap event_id_of is ∙ text_read spelling id low high,
)
