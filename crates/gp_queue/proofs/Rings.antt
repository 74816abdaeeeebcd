use Rattle.std.proofs.Common.{◌≡◌, ◌≢◌, ℕ, ◌+◌, ◌<◌, ◌≤◌, List, [], ◌∷◌, ◌++◌, length, get_or, set, refl, sym, ◌∙◌, ap, subst, arith, get_or-set_other, get_or-set_same}
use Rattle.std.proofs.lemmas.List.{length-set, length-append, append-nil, get_or_append_left}
use Rattle.std.specs.Prelude.{slice_index}
use Rattle.gp_queue.specs.Links.{AreLinked, first_place, last_place, IsOff, IsOnce, IsRing, IsGap}
use Rattle.gp_queue.proofs.Chains.{IsRewired, front_chain, back_chain, chain_both, chain_first, front_rewired, back_rewired, off_front, off_back, zero_off, once_front, once_back, once_without, off_without, once_with, last_off, first_off, not_last, not_first, last_below, first_below, below_front, below_back, below_both, below_more, below_off, chain_same}

-- what a write leaves at its place, and at a place that equals it
written : (xs : List ℕ) (i j v : ℕ) → i < length xs → j ≡ i → get_or (set xs i v) j 0 ≡ v
written xs i j v lt e = ap (λ k. get_or (set xs i v) k 0) e ∙ get_or-set_same xs i v 0 lt

-- a number in the ring has its place in the arrays, and so has what stands on either side
pub record IsWithin (next prev : List ℕ) (i : ℕ) (front back : List ℕ) : Type 0 where
  pub place : i + 1 < length next
  pub before : get_or prev (i + 1) 0 ≡ last_place 0 front
  pub after : get_or next (i + 1) 0 ≡ first_place back 0
  pub before_in : last_place 0 front < length next
  pub after_in : first_place back 0 < length next

pub within : (next prev : List ℕ) (count : ℕ) (front : List ℕ) (i : ℕ) (back : List ℕ) → IsRing next prev count (front ++ i ∷ back) →
    IsWithin next prev i front back
within next prev count front i back ring =
    let rest = below_back count front (i ∷ back) ring.below in
    let low : i < count = rest.0 in
    let chain = back_chain (slice_index next) (slice_index prev) 0 front (i ∷ back) 0 ring.linked in
    let room : count < length next = ring.room in
    let last : last_place 0 front ≤ count = last_below count 0 front (omega arith) (below_front count front (i ∷ back) ring.below) in
    let first : first_place back 0 ≤ count = first_below count back rest.1 in
    record {
      place = omega arith;
      before = chain.0.1;
      after = chain_first (slice_index next) (slice_index prev) (i + 1) back 0 chain.1;
      before_in = omega arith;
      after_in = omega arith;
    }

-- the two writes that take a number out
pub unlinked : (next prev : List ℕ) (count : ℕ) (front : List ℕ) (i : ℕ) (back : List ℕ) (before after : ℕ) →
    before ≡ last_place 0 front → after ≡ first_place back 0 → IsRing next prev count (front ++ i ∷ back) →
    IsRing (set next before after) (set prev after before) count (front ++ back)
unlinked next prev count front i back before after b a ring =
    let w = within next prev count front i back ring in
    let once : IsOnce (front ++ back) = once_without front i back ring.once in
    let off : IsOff (i + 1) (front ++ back) = off_without front i back ring.once in
    let chain = back_chain (slice_index next) (slice_index prev) 0 front (i ∷ back) 0 ring.linked in
    let before_in : before < length next = omega (arith, b, w.before_in) in
    let after_in : after < length prev = omega (arith, a, w.after_in, ring.sizes) in
    let next' : ℕ → ℕ = slice_index (set next before after) in
    let prev' : ℕ → ℕ = slice_index (set prev after before) in
    let rewired : IsRewired (slice_index next) (slice_index prev) next' prev' (last_place 0 front) (first_place back 0) (i + 1) = record {
      forth = λ p u v. get_or-set_other next before p after 0 (λ e. u (e ∙ b));
      back = λ p u v. get_or-set_other prev after p before 0 (λ e. u (e ∙ a));
    } in
    let new : AreLinked next' prev' (last_place 0 front) (first_place back 0) =
    (written next before (last_place 0 front) after before_in (sym b) ∙ a, written prev after (first_place back 0) before after_in (sym a) ∙ b) in
    record {
      room = rw length-set ring.room;
      sizes = length-set prev after before ∙ ring.sizes ∙ sym (length-set next before after);
      below = below_both count front back (below_front count front (i ∷ back) ring.below) (below_back count front (i ∷ back) ring.below).1;
      once = once;
      linked = chain_both next' prev' 0 front back 0
          (front_rewired (slice_index next) (slice_index prev) next' prev' (first_place back 0) (i + 1) 0 front (i + 1) (first_place back 0) rewired (λ e. omega arith)
          (zero_off front) (first_off front back once) (off_front (i + 1) front back off) (once_front front back once)
          (front_chain (slice_index next) (slice_index prev) 0 front (i ∷ back) 0 ring.linked) new)
          (back_rewired (slice_index next) (slice_index prev) next' prev' (last_place 0 front) (i + 1) (i + 1) (last_place 0 front) back rewired
          (last_off 0 front back (zero_off back) once) (off_back (i + 1) front back off) (λ e. omega arith) (once_back front back once) chain.1 new);
    }

-- the place after a gap, and that it and the place before are in the arrays
pub record IsGapWithin (next : List ℕ) (before number : ℕ) (front back : List ℕ) : Type 0 where
  pub place : number + 1 < length next
  pub after : get_or next before 0 ≡ first_place back 0
  pub before_in : before < length next
  pub after_in : get_or next before 0 < length next
  pub before_other : before ≢ number + 1
  pub after_other : get_or next before 0 ≢ number + 1

pub gap_within : (next prev : List ℕ) (count before i : ℕ) (front back : List ℕ) → IsGap next prev count before i front back →
    IsGapWithin next before i front back
gap_within next prev count before i front back gap =
    let ring : IsRing next prev count (front ++ back) = gap.ring in
    let fits : i < count = gap.fits in
    let chain = back_chain (slice_index next) (slice_index prev) 0 front back 0 ring.linked in
    let room : count < length next = ring.room in
    let last : last_place 0 front ≤ count = last_below count 0 front (omega arith) (below_front count front back ring.below) in
    let first : first_place back 0 ≤ count = first_below count back (below_back count front back ring.below) in
    let ends : last_place 0 front ≡ before = gap.ends in
    let after : get_or next before 0 ≡ first_place back 0 =
    ap (λ p. get_or next p 0) (sym ends) ∙ chain_first (slice_index next) (slice_index prev) (last_place 0 front) back 0 chain in
    let not_before : i + 1 ≢ last_place 0 front = not_last (i + 1) 0 front (λ e. omega arith) (off_front (i + 1) front back gap.fresh) in
    let not_after : i + 1 ≢ first_place back 0 = not_first (i + 1) back (λ e. omega arith) (off_back (i + 1) front back gap.fresh) in
    record {
      place = omega arith;
      after = after;
      before_in = omega arith;
      after_in = omega arith;
      before_other = λ e. not_before (sym (ends ∙ e));
      after_other = λ e. not_after (sym e ∙ after);
    }

-- the four writes that put a number in
pub linked : (next prev : List ℕ) (count before i : ℕ) (front back : List ℕ) (after : ℕ) → after ≡ get_or next before 0 →
    IsGap next prev count before i front back →
    IsRing (set (set next before (i + 1)) (i + 1) after) (set (set prev after (i + 1)) (i + 1) before) count (front ++ i ∷ back)
linked next prev count before i front back after read gap =
    let ring : IsRing next prev count (front ++ back) = gap.ring in
    let w = gap_within next prev count before i front back gap in
    let once : IsOnce (front ++ back) = ring.once in
    let off : IsOff (i + 1) (front ++ back) = gap.fresh in
    let b : before ≡ last_place 0 front = sym gap.ends in
    let a : after ≡ first_place back 0 = read ∙ w.after in
    let next' : ℕ → ℕ = slice_index (set (set next before (i + 1)) (i + 1) after) in
    let prev' : ℕ → ℕ = slice_index (set (set prev after (i + 1)) (i + 1) before) in
    let other_before : before ≢ i + 1 = w.before_other in
    let other_after : after ≢ i + 1 = λ e. w.after_other (sym read ∙ e) in
    let after_in : after < length prev = omega (arith, read, w.after_in, ring.sizes) in
    let place_next : i + 1 < length (set next before (i + 1)) = rw length-set w.place in
    let place_prev : i + 1 < length (set prev after (i + 1)) = rw (length-set, ring.sizes) w.place in
    let rewired : IsRewired (slice_index next) (slice_index prev) next' prev' (last_place 0 front) (first_place back 0) (i + 1) = record {
      forth = λ p u v. get_or-set_other (set next before (i + 1)) (i + 1) p after 0 v ∙ get_or-set_other next before p (i + 1) 0 (λ e. u (e ∙ b));
      back = λ p u v. get_or-set_other (set prev after (i + 1)) (i + 1) p before 0 v ∙ get_or-set_other prev after p (i + 1) 0 (λ e. u (e ∙ a));
    } in
    let into : AreLinked next' prev' (last_place 0 front) (i + 1) = (
      get_or-set_other (set next before (i + 1)) (i + 1) (last_place 0 front) after 0 (λ e. other_before (b ∙ e))
          ∙ written next before (last_place 0 front) (i + 1) w.before_in (sym b),
      get_or-set_same (set prev after (i + 1)) (i + 1) before 0 place_prev ∙ b,
    ) in
    let out : AreLinked next' prev' (i + 1) (first_place back 0) = (
      get_or-set_same (set next before (i + 1)) (i + 1) after 0 place_next ∙ a,
      get_or-set_other (set prev after (i + 1)) (i + 1) (first_place back 0) before 0 (λ e. other_after (a ∙ e))
          ∙ written prev after (first_place back 0) (i + 1) after_in (sym a),
    ) in
    record {
      room = rw (length-set, length-set) ring.room;
      sizes = length-set (set prev after (i + 1)) (i + 1) before ∙ length-set prev after (i + 1) ∙ ring.sizes
          ∙ sym (length-set (set next before (i + 1)) (i + 1) after ∙ length-set next before (i + 1));
      below = below_both count front (i ∷ back) (below_front count front back ring.below) (gap.fits, below_back count front back ring.below);
      once = once_with front i back once off;
      linked = chain_both next' prev' 0 front (i ∷ back) 0
          (front_rewired (slice_index next) (slice_index prev) next' prev' (first_place back 0) (i + 1) 0 front (first_place back 0) (i + 1) rewired (λ e. omega arith)
          (zero_off front) (first_off front back once) (off_front (i + 1) front back off) (once_front front back once)
          (front_chain (slice_index next) (slice_index prev) 0 front back 0 ring.linked) into) (
            into,
            back_rewired (slice_index next) (slice_index prev) next' prev' (last_place 0 front) (i + 1) (last_place 0 front) (i + 1) back rewired
                (last_off 0 front back (zero_off back) once) (off_back (i + 1) front back off) (λ e. omega arith) (once_back front back once)
                (back_chain (slice_index next) (slice_index prev) 0 front back 0 ring.linked) out,
          );
    }

-- a ring has room for one number more where the arrays have
pub wider : (next prev : List ℕ) (count : ℕ) (order : List ℕ) → count + 1 < length next → IsRing next prev count order → IsRing next prev (count + 1) order
wider next prev count order room ring = record {
  room = room;
  sizes = ring.sizes;
  below = below_more count (count + 1) order (omega arith) ring.below;
  once = ring.once;
  linked = ring.linked;
}

-- arrays that grow at their ends hold the same ring
pub longer : (next prev more : List ℕ) (count : ℕ) (order : List ℕ) → IsRing next prev count order → IsRing (next ++ more) (prev ++ more) count order
longer next prev more count order ring =
    let room : count < length next = ring.room in
    let sizes : length prev ≡ length next = ring.sizes in
    record {
      room = omega (arith, length-append next more);
      sizes = omega (arith, length-append next more, length-append prev more);
      below = ring.below;
      once = ring.once;
      linked = chain_same (slice_index next) (slice_index prev) (slice_index (next ++ more)) (slice_index (prev ++ more)) count
          (λ p le. get_or_append_left next more 0 p (omega arith)) (λ p le. get_or_append_left prev more 0 p (omega arith))
          0 order (omega arith) ring.below ring.linked;
    }

-- the ring of the numbers below n takes in n behind its last
pub end_gap : (next prev : List ℕ) (n : ℕ) (order : List ℕ) → n + 1 < length next → IsRing next prev n order →
    IsGap next prev (n + 1) (get_or prev 0 0) n order []
end_gap next prev n order room ring =
    let whole : IsRing next prev (n + 1) order = wider next prev n order room ring in
    let at_end : IsRing next prev (n + 1) (order ++ []) = subst (λ o. IsRing next prev (n + 1) o) (sym (append-nil order)) whole in
    let chain = back_chain (slice_index next) (slice_index prev) 0 order [] 0 at_end.linked in
    record {
      ring = at_end;
      fits = omega arith;
      fresh = subst (λ o. IsOff (n + 1) o) (sym (append-nil order)) (below_off n order ring.below);
      ends = sym chain.1;
    }

-- the number just taken out of a ring goes to its front
pub front_gap : (next prev next' prev' : List ℕ) (count : ℕ) (front : List ℕ) (i : ℕ) (back : List ℕ) → IsRing next prev count (front ++ i ∷ back) →
    IsRing next' prev' count (front ++ back) → IsGap next' prev' count 0 i [] (front ++ back)
front_gap next prev next' prev' count front i back ring after = record {
  ring = after;
  fits = (below_back count front (i ∷ back) ring.below).0;
  fresh = off_without front i back ring.once;
  ends = refl;
}
