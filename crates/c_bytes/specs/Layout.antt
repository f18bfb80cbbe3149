-- The unit as C holds it: its two stores, and behind them the parts of its state, each in bytes of its own. A number of two bytes has the low one
-- first; the split and the remote/local state are numbers. include/tewennos.h names each place, and tools/layout holds it to this file.
-- Assumes nothing.
use Rattle.std.specs.Prelude.{ℕ, zero, suc, ◌+◌, ◌<◌, Bool, List, [], ◌∷◌, ◌++◌, take, drop}
use Rattle.rules.specs.Choice.{◌=ᵇ◌, ◌≤ᵇ◌, ◌or◌, ◌&◌, all}
use Rattle.wire.specs.Bytes.{byte, number2, bytes2}
use Rattle.port.specs.Parts.{STORE, port_of, out_of, in_of, interrupt_of}
use Rattle.port.specs.Device.{Device}
use Rattle.port.specs.declared.types.Port.{Port}
use Rattle.port.specs.declared.types.OutMessage.{OutMessage}
use Rattle.port.specs.declared.types.OutTransfer.{OutTransfer}
use Rattle.port.specs.declared.types.InReply.{InReply}
use Rattle.port.specs.declared.types.InTransfer.{InTransfer}
use Rattle.port.specs.declared.types.InterruptIn.{InterruptIn}
use Rattle.port.specs.declared.types.Split.{Split}
use Rattle.port.specs.declared.types.Split.TheVariants.{None, AbortOut, AbortIn, Clear}
use Rattle.port.specs.declared.types.Remote.{Remote}
use Rattle.port.specs.declared.types.Remote.TheVariants.{Locs, Rems, Lwls, Rwls}
use Rattle.port.specs.declared.types.State.{State}

-- ** how many bytes a part has; a flag, a tag and the remote/local state have one

abbrev pub PORT : ℕ
PORT = 4

abbrev pub OUT_MESSAGE : ℕ
OUT_MESSAGE = 3

abbrev pub OUT_TRANSFER : ℕ
OUT_TRANSFER = 5

abbrev pub IN_REPLY : ℕ
IN_REPLY = 4

abbrev pub IN_TRANSFER : ℕ
IN_TRANSFER = 10

abbrev pub INTERRUPT : ℕ
INTERRUPT = 4

abbrev pub SPLIT : ℕ
SPLIT = 3

-- ** where it stands: each behind the one before it

abbrev pub REPLY_AT : ℕ
REPLY_AT = STORE

abbrev pub PORT_AT : ℕ
PORT_AT = REPLY_AT + STORE

abbrev pub OUT_MESSAGE_AT : ℕ
OUT_MESSAGE_AT = PORT_AT + PORT

abbrev pub OUT_HALTED_AT : ℕ
OUT_HALTED_AT = OUT_MESSAGE_AT + OUT_MESSAGE

abbrev pub OUT_TRANSFER_AT : ℕ
OUT_TRANSFER_AT = OUT_HALTED_AT + 1

abbrev pub OUT_RECENT_AT : ℕ
OUT_RECENT_AT = OUT_TRANSFER_AT + OUT_TRANSFER

abbrev pub IN_REPLY_AT : ℕ
IN_REPLY_AT = OUT_RECENT_AT + 1

abbrev pub IN_TRANSFER_AT : ℕ
IN_TRANSFER_AT = IN_REPLY_AT + IN_REPLY

abbrev pub IN_HALTED_AT : ℕ
IN_HALTED_AT = IN_TRANSFER_AT + IN_TRANSFER

abbrev pub IN_RECENT_AT : ℕ
IN_RECENT_AT = IN_HALTED_AT + 1

abbrev pub INTERRUPT_AT : ℕ
INTERRUPT_AT = IN_RECENT_AT + 1

abbrev pub SPLIT_AT : ℕ
SPLIT_AT = INTERRUPT_AT + INTERRUPT

abbrev pub REMOTE_AT : ℕ
REMOTE_AT = SPLIT_AT + SPLIT

-- the bytes of a unit
abbrev pub UNIT : ℕ
UNIT = REMOTE_AT + 1

-- the last byte of Interrupt-IN's part
abbrev pub INTERRUPT_HALTED_AT : ℕ
INTERRUPT_HALTED_AT = INTERRUPT_AT + 3

-- ** the two enums as numbers

unfoldable pub split_of : ℕ → ℕ → Split
split_of count zero = None
split_of count (suc zero) = AbortOut count
split_of count (suc (suc zero)) = AbortIn count
split_of count (suc (suc (suc k))) = Clear

unfoldable pub split_number : Split → ℕ
split_number None = 0
split_number (AbortOut count) = 1
split_number (AbortIn count) = 2
split_number Clear = 3

unfoldable pub count_of : Split → ℕ
count_of None = 0
count_of (AbortOut count) = count
count_of (AbortIn count) = count
count_of Clear = 0

unfoldable pub remote_of : ℕ → Remote
remote_of zero = Locs
remote_of (suc zero) = Rems
remote_of (suc (suc zero)) = Lwls
remote_of (suc (suc (suc k))) = Rwls

unfoldable pub remote_number : Remote → ℕ
remote_number Locs = 0
remote_number Rems = 1
remote_number Lwls = 2
remote_number Rwls = 3

-- ** a part from its bytes

abbrev pub port_in : List ℕ → Port
port_in f = record { setting = record { packet = number2 f 0 }; configured = byte f 2; ren = byte f 3 }

abbrev pub out_message_in : List ℕ → OutMessage
out_message_in f = record { held = number2 f 0; ready = byte f 2 }

abbrev pub out_transfer_in : List ℕ → OutTransfer
out_transfer_in f = record { left = number2 f 0; got = number2 f 2; end = byte f 4 }

abbrev pub in_reply_in : List ℕ → InReply
in_reply_in f = record { at = number2 f 0; unsent = number2 f 2 }

abbrev pub in_transfer_in : List ℕ → InTransfer
in_transfer_in f = record {
  asked = number2 f 0;
  left = number2 f 2;
  sent = number2 f 4;
  phase = byte f 6;
  tag = byte f 7;
  enabled = byte f 8;
  term = byte f 9;
}

abbrev pub interrupt_in : List ℕ → InterruptIn
interrupt_in f = record { status = byte f 0; waiting = record { notify1 = byte f 1; notify2 = byte f 2 }; halted = byte f 3 }

abbrev pub split_in : List ℕ → Split
split_in f = split_of (number2 f 0) (byte f 2)

-- ** the bytes of a part

abbrev pub port_bytes : Port → List ℕ
port_bytes p = bytes2 p.setting.packet ++ p.configured ∷ p.ren ∷ []

abbrev pub out_message_bytes : OutMessage → List ℕ
out_message_bytes m = bytes2 m.held ++ m.ready ∷ []

abbrev pub out_transfer_bytes : OutTransfer → List ℕ
out_transfer_bytes t = bytes2 t.left ++ bytes2 t.got ++ t.end ∷ []

abbrev pub in_reply_bytes : InReply → List ℕ
in_reply_bytes r = bytes2 r.at ++ bytes2 r.unsent

abbrev pub in_transfer_bytes : InTransfer → List ℕ
in_transfer_bytes t =
    bytes2 t.asked ++ bytes2 t.left ++ bytes2 t.sent ++ t.phase ∷ t.tag ∷ t.enabled ∷ t.term ∷ []

abbrev pub interrupt_bytes : InterruptIn → List ℕ
interrupt_bytes i = i.status ∷ i.waiting.notify1 ∷ i.waiting.notify2 ∷ i.halted ∷ []

abbrev pub split_bytes : Split → List ℕ
split_bytes s = bytes2 (count_of s) ++ split_number s ∷ []

-- ** a unit from its bytes, and its bytes

-- `n` of its bytes, from `at` on
abbrev pub part : ℕ → ℕ → List ℕ → List ℕ
part at n u = take n (drop at u)

unfoldable pub state_in : List ℕ → State
state_in u = record {
  small = record {
    port = port_in (part PORT_AT PORT u);
    bulkout = record {
      message = out_message_in (part OUT_MESSAGE_AT OUT_MESSAGE u);
      transfer = out_transfer_in (part OUT_TRANSFER_AT OUT_TRANSFER u);
      halted = byte u OUT_HALTED_AT;
      recent = byte u OUT_RECENT_AT;
    };
    bulkin = record {
      reply = in_reply_in (part IN_REPLY_AT IN_REPLY u);
      transfer = in_transfer_in (part IN_TRANSFER_AT IN_TRANSFER u);
      halted = byte u IN_HALTED_AT;
      recent = byte u IN_RECENT_AT;
    };
    interrupt = interrupt_in (part INTERRUPT_AT INTERRUPT u);
  };
  split = split_in (part SPLIT_AT SPLIT u);
  remote = remote_of (byte u REMOTE_AT);
}

unfoldable pub unit_in : List ℕ → Device
unit_in u = record { message = part 0 STORE u; reply = part REPLY_AT STORE u; state = state_in u }

unfoldable pub state_bytes : State → List ℕ
state_bytes st =
    let o = out_of st in
    let b = in_of st in
    port_bytes (port_of st) ++
    out_message_bytes o.message ++ o.halted ∷ out_transfer_bytes o.transfer ++ o.recent ∷
    in_reply_bytes b.reply ++ in_transfer_bytes b.transfer ++ b.halted ∷ b.recent ∷
    interrupt_bytes (interrupt_of st) ++ split_bytes st.split ++ remote_number st.remote ∷ []

unfoldable pub unit_bytes : Device → List ℕ
unit_bytes d = d.message ++ d.reply ++ state_bytes d.state

-- the values that no unit writes: a fifth split or place, a count with no abort
abbrev pub is_abort : ℕ → Bool
is_abort kind = kind =ᵇ 1 or kind =ᵇ 2

abbrev pub is_split : List ℕ → Bool
is_split f = all (byte f 2 ≤ᵇ 3 & (is_abort (byte f 2) or number2 f 0 =ᵇ 0) & [])

unfoldable pub is_unit : List ℕ → Bool
is_unit u = all (byte u REMOTE_AT ≤ᵇ 3 & is_split (part SPLIT_AT SPLIT u) & [])

-- every element is a byte, as the type of what C lends has it
pub record Bytes (u : List ℕ) : Type 0 where
  pub small : (i : ℕ) → byte u i < 256
