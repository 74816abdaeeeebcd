use Rattle.std.proofs.Common.{◌≡◌, ◌≢◌, ℕ, ◌+◌, ◌<◌, ◌⊎◌, inl, inr, List, [], ◌∷◌, ◌++◌, length, get_or, set, sym, ap, subst, ◌∙◌, arith, ℤ, pos, ◌-ℤ◌, ◌≤ℤ◌, ◌<ℤ◌}
use Rattle.std.proofs.lemmas.Int.{ints}
use Rattle.std.proofs.lemmas.List.{length-set, length_push}
use Rattle.std.proofs.lemmas.List.Elements.{All-push}
use Rattle.gp_difference.specs.Places.{place_at}
use Rattle.gp_difference.specs.Placement.{PlacementForm, StandsFrom, lowered, with_fallen}
use Rattle.gp_difference.specs.Lower.{IsFallen, still_count}
use Rattle.gp_difference.proofs.RunLemmas.{read_set}
use Rattle.gp_difference.proofs.CountLemmas.{still_fell, still_falls, push_read, open_falls}

-- what stands in a list stands in a longer one
pub stands_more : (points : List ℕ) (more index v : ℕ) → StandsFrom points index v → StandsFrom (points ++ more ∷ []) index v
stands_more points more index v (k, le, lt, e) = (
  k,
  le,
  omega (arith, lt, length_push points more),
  elim (push_read points more k 0 (omega (arith, lt))) [ inl h ↦ h.1 ∙ e | inr h ↦ absurd (omega (arith, lt, h.0)) ],
)

pub stands_last : (points : List ℕ) (more : ℕ) → StandsFrom (points ++ more ∷ []) 0 more
stands_last points more = (
  length points,
  omega arith,
  omega (arith, length_push points more),
  elim (push_read points more (length points) 0 (omega arith)) [ inl h ↦ absurd (omega (arith, h.0)) | inr h ↦ h.1 ],
)

-- an open point was lowered: the falls, and the list that has it
fallen_with : (p : PlacementForm) (ranks fallen : List ℕ) (done t number : ℕ) (x : ℤ) → length p.labels ≡ length p.places →
    t < length p.places → done < length p.places → IsFallen p ranks done → get_or ranks t 0 ≡ length p.places →
    length fallen + still_count p.places (set p.labels t x) ≡ length p.places →
    ((k : ℕ) (d : ℕ) → k < length fallen → get_or fallen k d < length p.places) →
    ((v : ℕ) → StandsFrom p.fallen 0 v → StandsFrom fallen 0 v) → StandsFrom fallen 0 t →
    IsFallen (lowered (record p { fallen = fallen }) t x number) ranks done
fallen_with p ranks fallen done t number x size t_in few was free room small more here =
    let t_label : t < length p.labels = omega (arith, size, t_in) in
    let t_fall : t < length p.falls = omega (arith, was.falls_size, t_in) in
    let label = λ (v : ℕ). read_set p.labels t x v (pos 0) t_label in
    let fall = λ (v : ℕ). read_set p.falls t (place_at p.places t -ℤ x) v (pos 0) t_fall in
    record {
      falls_size = length-set p.falls t (place_at p.places t -ℤ x) ∙ was.falls_size;
      room = room;
      small = small;
      listed = λ v v_in. elim (label v) [
        | inl h ↦ inr (subst (λ u. StandsFrom fallen 0 u) (sym h.0) here)
        | inr h ↦ elim (was.listed v v_in) [
          | inl same ↦ inl (h.1 ∙ same)
          | inr listed ↦ inr (more v listed)
        ]
      ];
      opened = λ v v_in rank. elim (label v) [
        | inl h ↦ elim (fall v) [
          | inl g ↦ let same : place_at p.places v ≡ place_at p.places t = ap (place_at p.places) h.0 in omega (arith, ints, g.1, h.1, same)
          | inr g ↦ absurd (g.0 h.0)
        ]
        | inr h ↦ elim (fall v) [
          | inl g ↦ absurd (h.0 g.0)
          | inr g ↦ omega (arith, ints, g.1, h.1, was.opened v v_in rank)
        ]
      ];
      closed = λ v v_in rank. elim (fall v) [
        | inl g ↦
            let same : get_or ranks v 0 ≡ get_or ranks t 0 = ap (λ w. get_or ranks w 0) g.0 in
            absurd (omega (arith, rank, same, free, few))
        | inr g ↦ g.1 ∙ was.closed v v_in rank
      ];
      count = was.count;
    }

-- a point that fell already was lowered again
pub fallen_lowered : (p : PlacementForm) (ranks : List ℕ) (done t number : ℕ) (x : ℤ) → length p.labels ≡ length p.places →
    t < length p.places → done < length p.places → IsFallen p ranks done → get_or ranks t 0 ≡ length p.places →
    place_at p.labels t <ℤ place_at p.places t → x <ℤ place_at p.labels t → IsFallen (lowered p t x number) ranks done
fallen_lowered p ranks done t number x size t_in few was free fell broken =
    let lower : x <ℤ place_at p.places t = omega (arith, ints, fell, broken) in
    let count = still_fell p.places p.labels t x size t_in fell lower in
    let here : StandsFrom p.fallen 0 t = elim (was.listed t t_in) [
      | inl same ↦ absurd (omega (arith, ints, same, fell))
      | inr listed ↦ listed
    ] in
    fallen_with p ranks p.fallen done t number x size t_in few was free (omega (arith, count, was.room)) was.small (λ v h. h) here

-- a point fell for the first time, and was listed
pub fallen_fell : (p : PlacementForm) (ranks : List ℕ) (done t number : ℕ) (x : ℤ) → length p.labels ≡ length p.places →
    t < length p.places → done < length p.places → IsFallen p ranks done → get_or ranks t 0 ≡ length p.places →
    place_at p.places t ≤ℤ place_at p.labels t → x <ℤ place_at p.places t → IsFallen (lowered (with_fallen p t) t x number) ranks done
fallen_fell p ranks done t number x size t_in few was free still lower =
    let count = still_falls p.places p.labels t x size t_in still lower in
    fallen_with p ranks (p.fallen ++ t ∷ []) done t number x size t_in few was free
    (omega (arith, count, was.room, length_push p.fallen t))
    (All-push (λ (point : ℕ). point < length p.places) p.fallen t was.small t_in)
    (λ v h. stands_more p.fallen t 0 v h) (stands_last p.fallen t)

-- an open point was settled
pub fallen_closed : (p : PlacementForm) (ranks : List ℕ) (done s : ℕ) → length ranks ≡ length p.places → s < length p.places → done < length p.places →
    ((v : ℕ) → v < length p.places → (get_or ranks v 0 < done) ⊎ (get_or ranks v 0 ≡ length p.places)) →
    IsFallen p ranks done → get_or ranks s 0 ≡ length p.places →
    IsFallen (record p { falls = set p.falls s (pos 0) }) (set ranks s done) (done + 1)
fallen_closed p ranks done s size s_in few ranked was free =
    let s_rank : s < length ranks = omega (arith, size, s_in) in
    let s_fall : s < length p.falls = omega (arith, was.falls_size, s_in) in
    let rank = λ (v : ℕ). read_set ranks s done v 0 s_rank in
    let fall = λ (v : ℕ). read_set p.falls s (pos 0) v (pos 0) s_fall in
    let apart : done ≢ length p.places = omega (arith, few) in
    record {
      falls_size = length-set p.falls s (pos 0) ∙ was.falls_size;
      room = was.room;
      small = was.small;
      listed = was.listed;
      opened = λ v v_in open_rank. elim (rank v) [
        | inl h ↦ absurd (apart (sym h.1 ∙ open_rank))
        | inr h ↦ elim (fall v) [
          | inl g ↦ absurd (h.0 g.0)
          | inr g ↦ g.1 ∙ was.opened v v_in (sym h.1 ∙ open_rank)
        ]
      ];
      closed = λ v v_in before. elim (fall v) [
        | inl g ↦ g.1
        | inr g ↦ elim (rank v) [
          | inl h ↦ absurd (g.0 h.0)
          | inr h ↦
              let zero : place_at p.falls v ≡ pos 0 = elim (ranked v v_in) [ inl r ↦ was.closed v v_in r | inr r ↦ absurd (omega (arith, h.1, r, before, few)) ] in
              g.1 ∙ zero
        ]
      ];
      count = omega (arith, open_falls (length p.places) ranks s done s_rank free apart, was.count);
    }
