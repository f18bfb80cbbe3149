-- A part put into the bytes of a unit makes the bytes of the unit with that part set; so do copies into its stores. The laws chain:
-- `(remote_put r).to ((port_put p).to e f) g`, with the bytes before, `e`, and what each copy promises, `f` and `g`.
-- Assumes nothing.
use Prim.Native.Nat.{ℕ, ◌+◌, ◌-◌, ◌≤◌}
use mathlib.Core.Path.{◌≡◌, refl, sym, ap, ◌∙◌}
use mathlib.Core.Bool.{true}
use mathlib.Core.List.{List, [], ◌∷◌, ◌++◌}
use native.Mathlib.Omega.{arith}
use lib.ListN.{length}
use lib.Seq.{paste, length-paste}
use Rattle.port.specs.Parts.{STORE, out_of, in_of, interrupt_of, with_port, with_out, with_in, with_interrupt}
use Rattle.port.specs.Parts.{with_split, with_remote, holding, carrying, with_in_halted, with_interrupt_halted}
use Rattle.port.specs.Out.{tagged}
use Rattle.port.specs.Device.{Device, with_state}
use Rattle.port.specs.Laws.{Stored}
use Rattle.port.specs.declared.types.Port.{Port}
use Rattle.port.specs.declared.types.OutMessage.{OutMessage}
use Rattle.port.specs.declared.types.OutTransfer.{OutTransfer}
use Rattle.port.specs.declared.types.BulkOut.{BulkOut}
use Rattle.port.specs.declared.types.InReply.{InReply}
use Rattle.port.specs.declared.types.InTransfer.{InTransfer}
use Rattle.port.specs.declared.types.BulkIn.{BulkIn}
use Rattle.port.specs.declared.types.InterruptIn.{InterruptIn}
use Rattle.port.specs.declared.types.Split.{Split}
use Rattle.port.specs.declared.types.Remote.{Remote}
use Rattle.port.specs.declared.types.State.{State}
use Rattle.c_parts.proofs.Pastes.{paste_left, paste_right}
use Rattle.c_bytes.proofs.Again.{bytes_of_its_unit}
use Rattle.c_bytes.proofs.Parted.{stores_long, unit_stored}
use Rattle.c_bytes.specs.Layout.{PORT, OUT_MESSAGE, OUT_TRANSFER, IN_REPLY, IN_TRANSFER, INTERRUPT, SPLIT, REPLY_AT, PORT_AT, OUT_MESSAGE_AT}
use Rattle.c_bytes.specs.Layout.{OUT_TRANSFER_AT, OUT_RECENT_AT, IN_REPLY_AT, IN_TRANSFER_AT, IN_HALTED_AT, IN_RECENT_AT, INTERRUPT_AT, INTERRUPT_HALTED_AT}
use Rattle.c_bytes.specs.Layout.{SPLIT_AT, REMOTE_AT, UNIT, remote_number, port_bytes, out_message_bytes, out_transfer_bytes, in_reply_bytes, in_transfer_bytes}
use Rattle.c_bytes.specs.Layout.{interrupt_bytes, split_bytes, state_bytes, unit_in, unit_bytes, is_unit, Bytes}
use Rattle.c_bytes.specs.Sides.{OUT, IN, out_bytes, in_bytes}

-- one part set, the others kept, where port/specs/Parts.antt has no name for it
abbrev pub in_tagged : BulkIn → ℕ → BulkIn
in_tagged b tag = record { reply = b.reply; transfer = b.transfer; halted = b.halted; recent = tag }

abbrev pub with_message : Device → List ℕ → Device
with_message d m = record { message = m; reply = d.reply; state = d.state }

abbrev pub with_reply : Device → List ℕ → Device
with_reply d r = record { message = d.message; reply = r; state = d.state }

abbrev out : Device → BulkOut
out d = out_of d.state

abbrev inward : Device → BulkIn
inward d = in_of d.state

-- these are the bytes of the unit
pub record Holds (d : Device) (u : List ℕ) : Type 0 where
  pub stored : Stored d
  pub bytes : u ≡ unit_bytes d

pub unit_holds : (u : List ℕ) → length u ≡ UNIT → Bytes u → is_unit u ≡ true → Holds (unit_in u) u
unit_holds u long small is = record { stored = unit_stored u (omega arith); bytes = sym (bytes_of_its_unit u long small is) }

-- n bytes of s at `at` make of the unit d the unit d'
pub record Put (d : Device) (at : ℕ) (s : List ℕ) (n : ℕ) (d' : Device) : Type 0 where
  pub to : {u v : List ℕ} → Holds d u → v ≡ paste u at s n → Holds d' v

-- ** each part, a side, and the state

behind : {d : Device} {at n : ℕ} {s : List ℕ} {st : State} → PORT_AT ≤ at → paste (state_bytes d.state) (at - PORT_AT) s n ≡ state_bytes st → Put d at s n (with_state d st)
unfolding unit_bytes
behind {d} {at} {n} {s} past p = record {
  to = λ e f.
      let stores = d.message ++ d.reply in
      let k : at ≡ length stores + (at - PORT_AT) = omega (arith, stores_long d e.stored) in
      record {
        stored = record { message = e.stored.message; reply = e.stored.reply };
        bytes = f ∙ (λ i. paste (e.bytes i) (k i) s n) ∙ paste_right stores _ (at - PORT_AT) s n ∙ ap (λ (g : List ℕ). stores ++ g) p;
      };
}

pub port_put : {d : Device} (p : Port) → Put d PORT_AT (port_bytes p) PORT (with_state d (with_port d.state p))
unfolding state_bytes
port_put p = behind (omega arith) refl

pub out_message_put : {d : Device} (m : OutMessage) → Put d OUT_MESSAGE_AT (out_message_bytes m) OUT_MESSAGE (with_state d (with_out d.state (holding (out d) m (out d).transfer)))
unfolding state_bytes
out_message_put m = behind (omega arith) refl

pub out_transfer_put : {d : Device} (t : OutTransfer) → Put d OUT_TRANSFER_AT (out_transfer_bytes t) OUT_TRANSFER (with_state d (with_out d.state (holding (out d) (out d).message t)))
unfolding state_bytes
out_transfer_put t = behind (omega arith) refl

pub out_recent_put : {d : Device} (tag : ℕ) → Put d OUT_RECENT_AT (tag ∷ []) 1 (with_state d (with_out d.state (tagged (out d) tag)))
unfolding state_bytes
out_recent_put tag = behind (omega arith) refl

pub in_reply_put : {d : Device} (r : InReply) → Put d IN_REPLY_AT (in_reply_bytes r) IN_REPLY (with_state d (with_in d.state (carrying (inward d) r (inward d).transfer)))
unfolding state_bytes
in_reply_put r = behind (omega arith) refl

pub in_transfer_put : {d : Device} (t : InTransfer) → Put d IN_TRANSFER_AT (in_transfer_bytes t) IN_TRANSFER (with_state d (with_in d.state (carrying (inward d) (inward d).reply t)))
unfolding state_bytes
in_transfer_put t = behind (omega arith) refl

pub in_halted_put : {d : Device} (halted : ℕ) → Put d IN_HALTED_AT (halted ∷ []) 1 (with_state d (with_in d.state (with_in_halted (inward d) halted)))
unfolding state_bytes
in_halted_put halted = behind (omega arith) refl

pub in_recent_put : {d : Device} (tag : ℕ) → Put d IN_RECENT_AT (tag ∷ []) 1 (with_state d (with_in d.state (in_tagged (inward d) tag)))
unfolding state_bytes
in_recent_put tag = behind (omega arith) refl

pub interrupt_put : {d : Device} (i : InterruptIn) → Put d INTERRUPT_AT (interrupt_bytes i) INTERRUPT (with_state d (with_interrupt d.state i))
unfolding state_bytes
interrupt_put i = behind (omega arith) refl

pub interrupt_halted_put : {d : Device} (halted : ℕ) → Put d INTERRUPT_HALTED_AT (halted ∷ []) 1 (with_state d (with_interrupt d.state (with_interrupt_halted (interrupt_of d.state) halted)))
unfolding state_bytes
interrupt_halted_put halted = behind (omega arith) refl

pub split_put : {d : Device} (s : Split) → Put d SPLIT_AT (split_bytes s) SPLIT (with_state d (with_split d.state s))
unfolding state_bytes
split_put s = behind (omega arith) refl

pub remote_put : {d : Device} (r : Remote) → Put d REMOTE_AT (remote_number r ∷ []) 1 (with_state d (with_remote d.state r))
unfolding state_bytes
remote_put r = behind (omega arith) refl

pub out_put : {d : Device} (o : BulkOut) → Put d OUT_MESSAGE_AT (out_bytes o) OUT (with_state d (with_out d.state o))
unfolding state_bytes
out_put o = behind (omega arith) refl

pub in_put : {d : Device} (b : BulkIn) → Put d IN_REPLY_AT (in_bytes b) IN (with_state d (with_in d.state b))
unfolding state_bytes
in_put b = behind (omega arith) refl

-- ** the stores

front : {d : Device} {u v : List ℕ} → Holds d u → (at : ℕ) (s : List ℕ) (n : ℕ) → at + n ≤ PORT_AT → v ≡ paste u at s n → v ≡ paste (d.message ++ d.reply) at s n ++ state_bytes d.state
unfolding unit_bytes
front {d} e at s n room f = rw (f, e.bytes) (paste_left (d.message ++ d.reply) _ at s n (omega (arith, stores_long d e.stored)))

pub message_put : {d : Device} (at : ℕ) (s : List ℕ) (n : ℕ) → at + n ≤ STORE → n ≤ length s → Put d at s n (with_message d (paste d.message at s n))
unfolding unit_bytes
message_put {d} at s n room enough = record {
  to = λ e f.
      let long = e.stored.message in
      record {
        stored = record { message = length-paste d.message at s n (omega arith) enough ∙ long; reply = e.stored.reply };
        bytes = rw (front e at s n (omega arith) f, paste_left d.message d.reply at s n (omega arith));
      };
}

pub reply_put : {d : Device} (s : List ℕ) (n : ℕ) → n ≤ STORE → n ≤ length s → Put d REPLY_AT s n (with_reply d (paste d.reply 0 s n))
unfolding unit_bytes
reply_put {d} s n room enough = record {
  to = λ e f.
      let long = e.stored.reply in
      let k : REPLY_AT ≡ length d.message + 0 = omega (arith, e.stored.message) in
      record {
        stored = record { message = e.stored.message; reply = length-paste d.reply 0 s n (omega arith) enough ∙ long };
        bytes = front e REPLY_AT s n (omega arith) f ∙ ap (λ (a : List ℕ). a ++ state_bytes d.state)
            (ap (λ (j : ℕ). paste (d.message ++ d.reply) j s n) k ∙ paste_right d.message d.reply 0 s n);
      };
}
