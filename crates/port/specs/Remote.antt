-- The remote/local table of 01, a column to a definition, and what gives "LOCS and REN off".
-- Assumes nothing.
use Rattle.std.specs.Prelude.{ℕ}
use Rattle.rules.specs.Choice.{pick}
use Rattle.rules.specs.Flags.{OFF}
use Rattle.port.specs.Parts.{on, port_of, with_port, with_remote, with_ren}
use Rattle.port.specs.declared.types.State.{State}
use Rattle.port.specs.declared.types.Remote.{Remote}
use Rattle.port.specs.declared.types.Remote.TheVariants.{Locs, Rems, Lwls, Rwls}

-- "DEV_DEP_MSG_OUT header, REN on"
abbrev pub headed : Remote → Remote
headed Locs = Rems
headed Rems = Rems
headed Lwls = Rwls
headed Rwls = Rwls

-- "GO_TO_LOCAL"
abbrev pub to_local : Remote → Remote
to_local Locs = Locs
to_local Rems = Locs
to_local Lwls = Lwls
to_local Rwls = Lwls

-- "panel"
abbrev pub by_panel : Remote → Remote
by_panel Locs = Locs
by_panel Rems = Locs
by_panel Lwls = Lwls
by_panel Rwls = Rwls

-- "LOCAL_LOCKOUT, REN on"
abbrev pub locked_out : Remote → Remote
locked_out Locs = Lwls
locked_out Rems = Rwls
locked_out Lwls = Lwls
locked_out Rwls = Rwls

-- "With REN off the first and last columns change nothing"
unfoldable pub with_ren_on : (Remote → Remote) → ℕ → Remote → Remote
with_ren_on move ren r = pick (on ren) (move r) r

-- "REN off, suspend, reset and SET_CONFIGURATION give LOCS and REN off"
unfoldable pub local_now : State → State
local_now st = with_remote (with_port st (with_ren (port_of st) OFF)) Locs
