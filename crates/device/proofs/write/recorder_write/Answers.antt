-- `device::write::recorder_write` meets its contract. The bytes are those that the writer leaves. Assumes nothing.
use Rattle.std.proofs.Common.{ap, sym, ◌∙◌}
use Rattle.rules.specs.Books.Write.{Wrote}
use Rattle.rules.proofs.Books.Told.{wrote_bytes}
use Rattle.device.proofs.write.recorder_write.Goals as goal

pub returns-clause-buffer_after : goal.returns-clause-buffer_after
returns-clause-buffer_after c = sym (wrote_bytes _ _) ∙ ap (λ (w : Wrote). w.bytes) c.write.ensures
