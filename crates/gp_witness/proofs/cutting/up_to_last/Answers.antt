use Rattle.std.proofs.Common.{◌≡◌, ◌-◌, ◌∙◌, ℕ, ap, sym, length, take, true, vec_len}
use Rattle.std.specs.Prelude.{Some, None, slice_get}
use Rattle.gp_witness.specs.Witness.{up_to_last}
use Rattle.gp_witness.proofs.LastEvent.{all_stays, last_goes, none_last}
use Rattle.gp_witness.proofs.cutting.up_to_last.Goals as goal
use Rattle.gp_witness.proofs.cutting.up_to_last.Goals.{in-Some+then-contains_event, in_default}
use Rattle.gp_window.specs.Ids.{contains_event}

pub loop-last-preserved : goal.loop-last-preserved
loop-last-preserved c =
    let got : slice_get c.loop-last.ids.items (length c.loop-last.ids.items - 1) ≡ Some c.in-Some.last = rw (← c.as_slice.ensures.value) (sym c.last.ensures.value ∙ sym c.copied.ensures ∙ c.in-Some.is) in
    let size : vec_len c.loop-last.ids ≡ length c.loop-last.ids.items = sym c.as_slice.ensures.len ∙ ap length c.as_slice.ensures.value in
    last_goes c.args.events.now c.loop-last.ids.items c.pop.new.self.items c.in-Some.last got (c.pop.ensures.rest ∙ ap (λ (n : ℕ). take (n - 1) c.loop-last.ids.items) size) (sym c.contains_event.ensures ∙ c.if-contains_event.false)
    ∙ c.loop-last.invariant

pub returns : goal.returns
returns c =
    let told : up_to_last c.args.events.now c.loop-last.ids.items ≡ up_to_last c.args.events.now c.args.schedule = c.loop-last.invariant ∙ ap (up_to_last c.args.events.now) c.into_vec-ids.ensures in
    elim c.match-copied.branch [
      | in-Some+then-contains_event w ↦
          let got : slice_get c.loop-last.ids.items (length c.loop-last.ids.items - 1) ≡ Some w.in-Some.last = rw (← c.as_slice.ensures.value) (sym c.last.ensures.value ∙ sym c.copied.ensures ∙ w.in-Some.is) in
          let among : contains_event c.args.events.now w.in-Some.last ≡ true = sym w.contains_event.ensures ∙ w.if-contains_event.true in
          c.from_vec.ensures ∙ sym (all_stays c.args.events.now c.loop-last.ids.items w.in-Some.last got among) ∙ told
      | in_default w ↦
          let none : slice_get c.loop-last.ids.items (length c.loop-last.ids.items - 1) ≡ None = rw (← c.as_slice.ensures.value) (sym c.last.ensures.value ∙ sym c.copied.ensures ∙ w.in_default.is) in
          c.from_vec.ensures ∙ sym (none_last c.args.events.now c.loop-last.ids.items none) ∙ told
    ]
