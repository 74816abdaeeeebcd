use Rattle.std.proofs.Common.{◌≡◌, length, arith}
use Rattle.gp_sat.proofs.Ranging.{begin_within, range_read, clause_read}
use Rattle.gp_sat.proofs.store.Store.lits.Goals as goal

pub range_of-range-requires : goal.range_of-range-requires
range_of-range-requires c = omega (
  arith,
  begin_within c.self.inside.literals.items (length c.self.inside.literals.items) c.self.inside.begins.items c.args.self.now c.args.number c.self.view_is c.requires,
  c.deref.ensures.len,
  c.self.inside.begins.ok.0,
)

pub slice_bounds-result-start : goal.slice_bounds-result-start
slice_bounds-result-start c =
    let total : c.len.result ≡ length c.self.inside.literals.items = omega (arith, c.len.ensures, c.self.inside.literals.ok.0) in
    (range_read c.self.inside.literals.items c.deref-2.result.now c.self.inside.begins.items c.deref.result.now c.args.self.now c.len.result c.args.number c.range_of-range.result
    c.self.view_is c.requires c.range_of-range.ensures total c.deref.ensures.value c.deref-2.ensures.value c.self.invariant).rises

pub slice_bounds-result-end : goal.slice_bounds-result-end
slice_bounds-result-end c =
    let total : c.len.result ≡ length c.self.inside.literals.items = omega (arith, c.len.ensures, c.self.inside.literals.ok.0) in
    (range_read c.self.inside.literals.items c.deref-2.result.now c.self.inside.begins.items c.deref.result.now c.args.self.now c.len.result c.args.number c.range_of-range.result
    c.self.view_is c.requires c.range_of-range.ensures total c.deref.ensures.value c.deref-2.ensures.value c.self.invariant).within

pub returns-clause-lits : goal.returns-clause-lits
returns-clause-lits c =
    let total : c.len.result ≡ length c.self.inside.literals.items = omega (arith, c.len.ensures, c.self.inside.literals.ok.0) in
    clause_read c.self.inside.literals.items c.deref-2.result.now c.self.inside.begins.items c.deref.result.now c.args.self.now c.len.result c.args.number c.range_of-range.result
    c.self.view_is c.range_of-range.ensures total c.deref.ensures.value c.deref-2.ensures.value

pub returns-clause-rising : goal.returns-clause-rising
returns-clause-rising c =
    let total : c.len.result ≡ length c.self.inside.literals.items = omega (arith, c.len.ensures, c.self.inside.literals.ok.0) in
    (range_read c.self.inside.literals.items c.deref-2.result.now c.self.inside.begins.items c.deref.result.now c.args.self.now c.len.result c.args.number c.range_of-range.result
    c.self.view_is c.requires c.range_of-range.ensures total c.deref.ensures.value c.deref-2.ensures.value c.self.invariant).rising
