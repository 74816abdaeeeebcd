use Rattle.std.proofs.Common.{rules, ℕ, ◌≡◌, ◌<◌, ◌^◌, [], ◌∷◌, ◌++◌, List, length, Contains, ap, sym, ◌∙◌, arith, subst}
use Rattle.std.proofs.lemmas.List.{length_push}
use Rattle.gp_clause.specs.declared.lit.Lit.{Lit}
use Rattle.gp_certificate.specs.Rows.{clause_at, AreListed, HasShort}
use Rattle.gp_certificate.proofs.Rowing.{listed_push, short_push, each_push}
use Rattle.gp_certificate.proofs.loaded.Loaded.push.Goals as goal

pub invariant_of-self-2 : goal.invariant_of-self-2
invariant_of-self-2 c =
    let lists = c.self.inside.clauses.lists in
    let number : c.in-Ok.number ≡ length lists = search rules in
    let kept : c.push_reserved.new.self.lists ≡ lists ++ c.args.lits.now ∷ [] = c.push_reserved.ensures.lists ∙ ap (λ ls. ls ++ c.args.lits.now ∷ []) c.reserve.ensures.same in
    let few : length c.args.lits.now < 2 ^ 63 = search rules in
    record {
      rows = subst (λ cs. AreListed cs c.list.new.rows.items) (sym kept) (listed_push lists c.args.lits.now c.self.inside.rows.items c.list.new.rows.items c.in-Ok.number c.self.invariant.rows number c.in_ok-list.ensures.ok);
      left = omega (
        arith,
        ap (λ (ns : List ℕ). length ns) c.push_reserved-2.ensures.items,
        ap (λ (ns : List ℕ). length ns) c.reserve-2.ensures.items,
        length_push c.reserve-2.new.self.items (length c.args.lits.now),
        ap (λ (cs : List (List Lit)). length cs) kept,
        length_push lists c.args.lits.now,
        c.self.invariant.left,
      );
      short = subst (λ cs. HasShort cs c.note_short.new.short.items) (sym kept)
          (short_push lists c.args.lits.now c.self.inside.short.items c.note_short.new.short.items c.in-Ok.number number c.self.invariant.short
          (λ other has. c.note_short.ensures.keeps other (subst (λ (xs : List ℕ). Contains xs other) (sym c.reserve-3.ensures.items) has)) c.note_short.ensures.noted);
      sizes = subst (λ cs. (number : ℕ) → length (clause_at cs number) < 2 ^ 63) (sym kept) (each_push (λ ls. length ls < 2 ^ 63) lists c.args.lits.now (omega arith) few c.self.invariant.sizes);
    }
