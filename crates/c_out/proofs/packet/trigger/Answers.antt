use Rattle.c_out.proofs.Ways.{trigger_done}
use mathlib.Core.Path.{refl}
use Rattle.c_out.proofs.packet.trigger.Goals as goal

pub returns : goal.returns
returns c = let a = c.args in trigger_done a.u.now a.s.now _ _ a.tag a.count c.requires c.put_byte.ensures refl
