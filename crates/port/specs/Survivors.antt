-- "The four things that survive: REN, remote/local state, status byte, Bulk-IN halt"; 02, request 1: "The waiting packet, the kept request and the
-- halt of 0x83 also survive a clear". One record, which the clear keeps and demand 3 compares by.
-- Assumes nothing.
use Rattle.std.specs.Prelude.{ℕ, Bool}
use Rattle.port.specs.Parts.{port_of, in_of, interrupt_of, with_port, with_in, with_interrupt, with_remote, with_ren, with_in_halted}
use Rattle.port.specs.Interrupt.{is_kept}
use Rattle.port.specs.declared.types.Notify.{Notify}
use Rattle.port.specs.declared.types.Remote.{Remote}
use Rattle.port.specs.declared.types.State.{State}

pub record Survivors : Type 0 where
  pub ren : ℕ
  pub remote : Remote
  pub status : ℕ
  pub halted : ℕ
  pub waiting : Notify
  pub kept : Bool
  pub interrupt_halted : ℕ

abbrev pub survivors : State → Survivors
survivors st =
    let i = interrupt_of st in
    record {
      ren = (port_of st).ren;
      remote = st.remote;
      status = i.status;
      halted = (in_of st).halted;
      waiting = i.waiting;
      kept = is_kept i;
      interrupt_halted = i.halted;
    }

-- a state with these, and all else its own; the kept request is bit 6 of the status byte while a packet waits
abbrev pub surviving : Survivors → State → State
surviving s st =
    with_interrupt
    (with_in (with_remote (with_port st (with_ren (port_of st) s.ren)) s.remote) (with_in_halted (in_of st) s.halted))
    (record { status = s.status; waiting = s.waiting; halted = s.interrupt_halted })
