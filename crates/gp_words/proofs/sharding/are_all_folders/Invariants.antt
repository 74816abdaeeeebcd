use Rattle.std.proofs.Common.{◌≡◌, drop}
use Rattle.std.specs.List.{list_all}
use Rattle.gp_words.specs.Command.{is_folder}
use Rattle.gp_words.specs.Value.{lent_texts}
use Rattle.gp_words.proofs.sharding.are_all_folders.Given as goal

-- the names that are left are those of folders where all are
abbrev pub invariant-loop-name : goal.invariant-loop-name
invariant-loop-name l = list_all is_folder (lent_texts (drop l.name-index l.names)) ≡ list_all is_folder (lent_texts l.names)
