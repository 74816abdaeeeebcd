use Rattle.gp_outside.proofs.Calls.{call_failed, call_spared, call_written}
use Rattle.gp_outside.specs.MemoryFolders.{FolderState}
use Rattle.gp_outside.proofs.memory_folders.MemoryFolderFolder.TheImpl.Goals as goal
use Rattle.std.proofs.Common.{Some, ap}

pub write-tells : goal.write-tells
write-tells c = record {
  later = c.ensures.later;
  written = call_written c.result c.args.self.now c.new.self.now c.args.name.now c.args.bytes.now
      (λ more. record { answer = c.ensures.answer more; after = c.ensures.after more });
  failed = call_failed c.result c.args.self.now c.new.self.now c.args.name.now c.args.bytes.now
      (λ more. record { answer = c.ensures.answer more; after = c.ensures.after more });
  spared = call_spared c.result c.args.self.now c.new.self.now c.args.name.now c.args.bytes.now
      (λ more. record { answer = c.ensures.answer more; after = c.ensures.after more });
  unchanged = λ memory. ap (λ (folder : FolderState). Some folder.files) (c.ensures.memory memory);
}
