use Rattle.std.proofs.Common.{rules, ℕ, ◌≡◌, ◌+◌, ◌-◌, ◌<◌, ◌^◌, [], ◌++◌, length, take, replicate, ap, sym, ◌∙◌, arith, subst}
use Rattle.gp_certificate.specs.Loaded.{LoadedForm}
use Rattle.gp_certificate.specs.Rows.{occurs, clause_at, numbers_of, AreListed, HasShort}
use Rattle.gp_certificate.proofs.Rowing.{listed_last, short_take, each_take}
use Rattle.gp_certificate.proofs.loaded.Loaded.unload_last.Goals as goal

pub invariant_of-self : goal.invariant_of-self
invariant_of-self c =
    let lists = c.self.inside.clauses.lists in
    let last = c.len-last.result - 1 in
    let is : last + 1 ≡ length lists = omega (arith, c.requires, c.len-last.ensures, ap (λ (l : LoadedForm). length l.clauses) c.self.view_is) in
    let kept : c.truncate.new.self.lists ≡ take last lists = c.truncate.ensures.lists in
    record {
      rows = subst (λ cs. AreListed cs c.unlist.new.rows.items) (sym kept)
          (c.unlist.ensures.before (λ one. numbers_of one 0 (take last lists)) last
          (λ one. listed_last lists c.self.inside.rows.items last [] is c.self.invariant.rows one ∙ ap (λ ls. numbers_of one 0 (take last lists) ++ replicate (occurs one ls) last) (sym c.get.ensures)));
      left = search rules;
      short = subst (λ cs. HasShort cs c.pop_from.new.row.items) (sym kept) (short_take lists last c.self.inside.short.items c.pop_from.new.row.items c.self.invariant.short c.pop_from.ensures);
      sizes = subst (λ cs. (number : ℕ) → length (clause_at cs number) < 2 ^ 63) (sym kept) (each_take (λ ls. length ls < 2 ^ 63) lists last (omega arith) c.self.invariant.sizes);
    }
