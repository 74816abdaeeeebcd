-- What a window tells of its holders and its readers, put into one table, is who holds which lock when it begins.
use Rattle.std.proofs.Common.{◌≡◌, ◌∙◌, refl, ap, sym, [], ◌∷◌, ◌++◌}
use Rattle.std.specs.Prelude.{filter, not}
use Rattle.gp_base.specs.OrderLaws.{filter_rises, parts_in_order, put_all_in_order, put_both}
use Rattle.gp_base.specs.Table.{with_entries}
use Rattle.gp_trace.specs.declared.lock_use.LockMode.TheVariants.{Exclusive, Shared}
use Rattle.gp_window.specs.Holders.{AreOrdered, Holding, Holdings, held_as, holder_cmp, holders_among, is_exclusive, readers_among}
use Rattle.gp_window.specs.HoldersLaws.{holder_total}

-- the holdings of either way are those of the locks and threads that are held in that way
alone_again : (held : Holdings) → held_as Exclusive (holders_among held) ≡ filter (λ one. is_exclusive one.1) held
alone_again [] = refl
alone_again ((place, Exclusive) ∷ held) = ap (λ rest. (place, Exclusive) ∷ rest) (alone_again held)
alone_again ((place, Shared) ∷ held) = alone_again held

shared_again : (held : Holdings) → held_as Shared (readers_among held) ≡ filter (λ one. not (is_exclusive one.1)) held
shared_again [] = refl
shared_again ((place, Exclusive) ∷ held) = shared_again held
shared_again ((place, Shared) ∷ held) = ap (λ rest. (place, Shared) ∷ rest) (shared_again held)

-- holdings in order are those of their holders and of their readers together
pub held_again : (held : Holdings) → AreOrdered held
    → held ≡ with_entries holder_cmp [] (held_as Exclusive (holders_among held) ++ held_as Shared (readers_among held))
held_again held ordered =
    let alone : Holdings = filter (λ (one : Holding). is_exclusive one.1) held in
    let shared : Holdings = filter (λ (one : Holding). not (is_exclusive one.1)) held in
    sym (
    ap (λ holdings. with_entries holder_cmp [] (holdings ++ held_as Shared (readers_among held))) (alone_again held)
    ∙ ap (λ holdings. with_entries holder_cmp [] (alone ++ holdings)) (shared_again held)
    ∙ put_both holder_cmp [] alone shared
    ∙ ap (λ holdings. with_entries holder_cmp holdings shared) (put_all_in_order holder_total alone (filter_rises holder_cmp (λ one. is_exclusive one.1) held ordered))
    ∙ parts_in_order holder_total (λ one. is_exclusive one.1) held ordered
    )
