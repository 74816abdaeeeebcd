use Rattle.std.proofs.Common.{rules, ◌≡◌, ◌<◌, length, drop, arith, sym, ◌∙◌}
use Rattle.std.proofs.lemmas.Bool.{false≢true}
use Rattle.gp_derivation.proofs.Needing.{assumes_again, enough_first, enough_second, kept_both, kept_few, kept_one, may_again, may_kept, may_second, part, single, some_candidates, taken_back}
use Rattle.gp_derivation.proofs.tester.+keep_needed.Goals as goal

pub returns-then-candidates-eq1-clause-kept : goal.returns-then-candidates-eq1-clause-kept
returns-then-candidates-eq1-clause-kept t c =
    kept_one c.args.bench.now c.args.candidates.now c.args.kept.now.items c.push_reserved.new.self.items _ (single c.args.candidates.now _ (omega arith)) c.push_reserved.ensures.items
    (λ passes. false≢true (sym c.if-is_refuted.false ∙ c.is_refuted.ensures.1 passes)) c.requires.enough

pub assume-requires : goal.assume-requires
assume-requires t c =
    let some = some_candidates c.args.bench.now c.args.candidates.now (λ passes. false≢true (sym c.if-is_refuted.false ∙ c.is_refuted.ensures.1 passes)) c.requires.enough in
    let may = may_second c.args.bench.now c.args.candidates.now c.split_at.result.0.now c.split_at.result.1.now c.split_at.ensures.by_index.0 some c.requires.enough in
    record { few = may.few; within = may.within; once = may.once }

pub keep_needed-requires : goal.keep_needed-requires
keep_needed-requires t c =
    let some = some_candidates c.args.bench.now c.args.candidates.now (λ passes. false≢true (sym c.if-is_refuted.false ∙ c.is_refuted.ensures.1 passes)) c.requires.enough in
    let measure : length c.args.candidates.now ≡ t = c.decreases in
    let shorter : length c.split_at.result.0.now < length c.args.candidates.now = omega (arith, some, c.split_at.ensures.front_len) in (
      omega (arith, measure, shorter),
      (
        enough_first c.args.bench.now c.assume.new.self c.args.candidates.now c.split_at.result.0.now c.split_at.result.1.now c.split_at.ensures.by_index.0 c.assume.ensures shorter c.requires.enough,
        omega (arith, shorter, c.requires.room),
      ),
    )

pub assume-requires-2 : goal.assume-requires-2
assume-requires-2 t c =
    let some = some_candidates c.args.bench.now c.args.candidates.now (λ passes. false≢true (sym c.if-is_refuted.false ∙ c.is_refuted.ensures.1 passes)) c.requires.enough in
    let from : c.len-before.result ≡ length c.args.kept.now.items = search rules in
    let back : c.retract.new.self ≡ c.args.bench.now = taken_back c.args.bench.now c.assume.new.self c.keep_needed.new.bench c.retract.new.self c.split_at.result.1.now c.assume.ensures c.keep_needed.ensures.same c.retract.ensures in
    let may = may_again c.args.bench.now c.retract.new.self _ (drop (length c.args.kept.now.items) c.keep_needed.new.kept.items) back
    (part c.as_slice.result.now c.keep_needed.new.kept.items c.args.kept.now.items c.len-before.result c.as_slice.ensures.value from)
    (may_kept c.args.bench.now c.assume.new.self c.args.candidates.now c.split_at.result.0.now c.split_at.result.1.now c.args.kept.now.items c.keep_needed.new.kept.items c.split_at.ensures.by_index.0 some c.assume.ensures c.requires.enough
    c.keep_needed.ensures.kept) in
    record { few = may.few; within = may.within; once = may.once }

pub keep_needed-requires-2 : goal.keep_needed-requires-2
keep_needed-requires-2 t c =
    let some = some_candidates c.args.bench.now c.args.candidates.now (λ passes. false≢true (sym c.if-is_refuted.false ∙ c.is_refuted.ensures.1 passes)) c.requires.enough in
    let measure : length c.args.candidates.now ≡ t = c.decreases in
    let shorter : length c.split_at.result.1.now < length c.args.candidates.now = omega (arith, some, c.split_at.ensures.back_len) in
    let from : c.len-before.result ≡ length c.args.kept.now.items = search rules in
    let back : c.retract.new.self ≡ c.args.bench.now = taken_back c.args.bench.now c.assume.new.self c.keep_needed.new.bench c.retract.new.self c.split_at.result.1.now c.assume.ensures c.keep_needed.ensures.same c.retract.ensures in
    let few = kept_few c.assume.new.self c.split_at.result.0.now c.args.kept.now.items c.keep_needed.new.kept.items c.keep_needed.ensures.kept in (
      omega (arith, measure, shorter),
      (
        enough_second c.args.bench.now c.assume.new.self c.assume-2.new.self c.args.candidates.now c.split_at.result.0.now c.split_at.result.1.now c.args.kept.now.items c.keep_needed.new.kept.items c.split_at.ensures.by_index.0 c.assume.ensures
            (assumes_again c.args.bench.now c.retract.new.self c.assume-2.new.self _ (drop (length c.args.kept.now.items) c.keep_needed.new.kept.items) back
            (part c.as_slice.result.now c.keep_needed.new.kept.items c.args.kept.now.items c.len-before.result c.as_slice.ensures.value from) c.assume-2.ensures)
            shorter c.requires.enough c.keep_needed.ensures.kept,
        omega (arith, few, c.keep_needed.ensures.capacity, c.requires.room, c.split_at.ensures.back_len, c.split_at.ensures.front_len),
      ),
    )

pub returns-clause-kept : goal.returns-clause-kept
returns-clause-kept t c =
    let from : c.len-before.result ≡ length c.args.kept.now.items = search rules in
    let back : c.retract.new.self ≡ c.args.bench.now = taken_back c.args.bench.now c.assume.new.self c.keep_needed.new.bench c.retract.new.self c.split_at.result.1.now c.assume.ensures c.keep_needed.ensures.same c.retract.ensures in
    kept_both c.args.bench.now c.assume.new.self c.assume-2.new.self c.args.candidates.now c.split_at.result.0.now c.split_at.result.1.now c.args.kept.now.items c.keep_needed.new.kept.items c.keep_needed-2.new.kept.items
    c.split_at.ensures.by_index.0 c.assume.ensures
    (assumes_again c.args.bench.now c.retract.new.self c.assume-2.new.self _ (drop (length c.args.kept.now.items) c.keep_needed.new.kept.items) back
    (part c.as_slice.result.now c.keep_needed.new.kept.items c.args.kept.now.items c.len-before.result c.as_slice.ensures.value from) c.assume-2.ensures)
    c.keep_needed.ensures.kept c.keep_needed-2.ensures.kept
