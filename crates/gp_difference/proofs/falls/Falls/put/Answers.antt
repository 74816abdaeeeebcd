use Rattle.std.proofs.Common.{◌≡◌, ◌<◌, List, ℤ, length, sym, subst, pos, w64, to_z, of_z, ◌∙◌, arith}
use Rattle.std.proofs.lemmas.Int.{ints}
use Rattle.std.proofs.lemmas.List.{get_or_read}
use Rattle.gp_difference.specs.Places.{place_at}
use Rattle.gp_difference.proofs.HeapLemmas.{written, written_at}
use Rattle.gp_difference.proofs.falls.Falls.put.Goals as goal

pub settle-self-inside-requires : goal.settle-self-inside-requires
settle-self-inside-requires c =
    let falls = c.self.inside.numbers.items in
    let before = to_z w64 (of_z w64 c.replace-before.result) in
    let within : c.args.point < length falls = subst (λ (fs : List ℤ). c.args.point < length fs) (sym c.self.view_is) c.requires in
    let read : c.index_mut.result.now ≡ place_at falls c.args.point =
    get_or_read falls c.args.point c.index_mut.result.now (omega (arith, within, c.self.inside.numbers.ok.0)) c.index_mut.ensures.value (pos 0) in
    let bits : before ≡ c.replace-before.result = omega (arith, ints, c.replace-before.type_inv) in
    record {
      heaped = rw c.deref.ensures.value (written falls c.self.inside.order c.self.inside.count c.args.point c.spot-spot.result before _ c.self.invariant c.spot-spot.ensures (bits ∙ c.replace-before.ensures.value ∙ read));
      number = rw c.deref.ensures.value (written_at falls c.self.inside.order c.args.point c.spot-spot.result _ _ c.spot-spot.ensures within (sym c.replace-before.ensures.after));
    }
