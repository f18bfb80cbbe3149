use Rattle.port.specs.Device.{zeroed, made}
use Rattle.unit.proofs.types.Unit.made.Goals as goal

pub returns : goal.returns
unfolding made zeroed
returns c = rw c.fresh-st.ensures
